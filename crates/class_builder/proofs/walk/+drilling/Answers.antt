use Rattle.std.proofs.Common.{◌≡◌, ◌<◌, ◌≤◌, ◌+◌, ◌++◌, [], ◌∷◌, ◌∙◌, Some, ap, ap₂, refl, sym, subst, arith, length, get_or, is_some, true}
use Rattle.std.proofs.Common.{false, rules, None}
use Rattle.std.specs.Prelude.{OnOk}
use Rattle.std.proofs.Math.Numerals.{add-one-le}
use Rattle.std.proofs.lemmas.Result.{on_ok_weaker}
use Rattle.cube_defs.specs.Cell.{cell_prefix}
use Rattle.cube_laws.proofs.CallerLemmas.{nat_equality, cell_eq-exact, entry}
use Rattle.base_table.specs.Places.{named, row_at, rows_of}
use Rattle.cell_closure.specs.Parts.{no_part, parted}
use Rattle.cube_laws.specs.Parting.{shared_by}
use Rattle.tree_laws.proofs.CallerLemmas as lists
use Rattle.cell_closure.proofs.CallerLemmas.{There, there, recursion_all, shared_there}
use Rattle.build_trace.specs.Trace.{Act.{Mark}, acts_at, part_acts}
use Rattle.class_builder.specs.Building.{PerformsActs}
use Rattle.cell_core.specs.Entry.{IsCode}
use Rattle.qc_arena.specs.Map.{Arena, frame}
use Rattle.class_builder.specs.declared.prefix_nodes.PrefixNodes.{PrefixNodes}
use Rattle.class_builder.specs.Costs.{cost_of_acts}
use Rattle.class_builder.specs.Stands.{HasDone, StandsAt}
use Rattle.class_builder.specs.Walk.{acts_from, prefix_acts, node_on}
use Rattle.build_trace.proofs.CallerLemmas.{cell_prefix_all, cell_prefix_still}
use Rattle.class_builder.proofs.Uppers.{AreCovered, differs_after}
use Rattle.class_builder.proofs.Costs.{cost_append}
use Rattle.class_builder.proofs.Building.{ok_always, path_stays, on_end, on_path, path_on, path_of}
use Rattle.class_builder.proofs.Notes.{noted_stay}
use Rattle.class_builder.proofs.Standing.{done_nothing, done_then, on_change, part_long, stands_behind, stands_prefix}
use Rattle.class_builder.proofs.Steps.{acts_here, acts_end, part_new, part_old, parts_from, part_there, part_some, part_few, part_covered}
use Rattle.class_builder.proofs.Steps.{part_value, part_is, part_small, parts_here, parts_end}
use Rattle.class_builder.proofs.walk.+drilling.Goals as goal

pub drill-drill_at-requires : goal.drill-drill_at-requires
drill-drill_at-requires g t c =
    let table = c.args.part.now.table.now in
    let rows = named table c.args.part.now.rows.now in
    let lt : c.dims.dim < table.dims = subst (λ n. c.dims.dim < n) c.dims-dim-end.ensures.value c.dims-test.true in
    let es = acts_at (acts_from table (c.dims.dim + 1)) c.dims.dim c.args.part.now.shared.now
    (entry c.args.part.now.shared.now c.dims.dim) rows in
    let fs = acts_from table (c.dims.dim + 1) rows in
    λ κs h. (
      search rules,
      (
        h,
        record {
          below = lt;
          at = stands_prefix table es fs c.args.part.now.shared.now c.dims.dim c.dims.builder.arena.now c.dims.path
              c.dims.builder.fronts.now
              (subst (λ xs. StandsAt table c.args.part.now.shared.now c.dims.dim xs c.dims.builder.arena.now c.dims.path
              c.dims.builder.fronts.now)
              (acts_here table c.dims.dim c.args.part.now.shared.now rows lt c.args.part.now.is.shared)
              c.dims.invariant.stands);
        },
      ),
    )

pub drill-dims-init : goal.drill-dims-init
drill-dims-init g t c = record {
  whole = λ b f d. d;
  stands = c.requires.stands;
  rest = refl;
  same = refl;
  same_steps = refl;
  steps = omega arith;
}

pub drill-dims-preserved : goal.drill-dims-preserved
drill-dims-preserved g t c =
    let table = c.args.part.now.table.now in
    let rows = named table c.args.part.now.rows.now in
    let lt : c.dims.dim < table.dims = subst (λ n. c.dims.dim < n) c.dims-dim-end.ensures.value c.dims-test.true in
    let here = acts_here table c.dims.dim c.args.part.now.shared.now rows lt c.args.part.now.is.shared in
    let es = acts_at (acts_from table (c.dims.dim + 1)) c.dims.dim c.args.part.now.shared.now
    (entry c.args.part.now.shared.now c.dims.dim) rows in
    let fs = acts_from table (c.dims.dim + 1) rows in
    let a = c.dims.builder.arena.now in
    let b = c.drill_at.new.builder.arena.now in
    record {
      whole = λ d f e. c.dims.invariant.whole d f
          (subst (λ xs. HasDone table xs a d f) (sym here)
          (done_then table es fs a b d c.drill_at.new.builder.fronts.now f c.in-Ok.ensures.done e));
      stands = stands_behind table es fs c.args.part.now.shared.now c.args.part.now.shared.now c.dims.dim
          (c.dims.dim + 1) a b c.dims.path c.drill_at.new.path c.dims.builder.fronts.now
          c.drill_at.new.builder.fronts.now
          (subst (λ xs. StandsAt table c.args.part.now.shared.now c.dims.dim xs a c.dims.path c.dims.builder.fronts.now)
          here c.dims.invariant.stands) c.in-Ok.ensures.done c.in-Ok.ensures.frame c.in-Ok.ensures.path;
      rest = c.in-Ok.ensures.frame ∙ c.dims.invariant.rest;
      same = c.in-Ok.ensures.same ∙ c.dims.invariant.same;
      same_steps = c.in-Ok.ensures.same_steps ∙ c.dims.invariant.same_steps;
      steps = let split = ap (cost_of_acts table.dims) here ∙ cost_append table.dims es fs in
          omega (arith, c.dims.invariant.steps, c.in-Ok.ensures.steps, split);
    }

pub drill-mark_class-requires : goal.drill-mark_class-requires
drill-mark_class-requires g t c =
    let most : c.dims-2.result ≤ c.dims.dim
    = subst (λ n. n ≤ c.dims.dim) (c.dims-dim-end.ensures.value ∙ sym c.dims-2.ensures.value) c.dims-test.false in
    record {
      change = on_change c.dims.builder.arena.now c.at.result.0 (cell_prefix c.dims-2.result c.args.part.now.shared.now)
          (on_path c.dims.builder.arena.now c.dims.path c.args.part.now.shared.now c.dims.dim c.dims-2.result c.at.result.0
          c.dims.invariant.stands.path most c.at.ensures)
          c.dims.invariant.stands.next.going.opened c.dims.invariant.stands.next.going.touched;
    }

pub drill-returns-clause-done : goal.drill-returns-clause-done
drill-returns-clause-done g t c =
    let table = c.args.part.now.table.now in
    let rows = named table c.args.part.now.rows.now in
    let le : table.dims ≤ c.dims.dim = subst (λ n. n ≤ c.dims.dim) c.dims-dim-end.ensures.value c.dims-test.false in
    let most : c.dims-2.result ≤ c.dims.dim = subst (λ n. n ≤ c.dims.dim) (sym c.dims-2.ensures.value) le in
    let long = part_long table c.args.part.now.rows.now c.args.part.now.shared.now c.args.part.now.is in
    let all : length c.args.part.now.shared.now ≤ c.dims-2.result = omega (arith, long, c.dims-2.ensures.value) in
    let at = on_path c.dims.builder.arena.now c.dims.path c.args.part.now.shared.now c.dims.dim c.dims-2.result
    c.at.result.0 c.dims.invariant.stands.path most c.at.ensures
    ∙ ap (λ u. Some u) (cell_prefix_all c.dims-2.result c.args.part.now.shared.now all ∙ c.args.part.now.is.shared) in
    c.dims.invariant.whole c.mark_class.new.arena c.dims.builder.fronts.now (record {
      does = subst (λ xs. PerformsActs table.measures (rows_of table) xs c.dims.builder.arena.now
          c.mark_class.new.arena)
          (ap (λ a. Mark (shared_by rows) a ∷ []) c.total.ensures ∙ sym (acts_end table c.dims.dim rows le))
          (c.mark_class.ensures.made table.measures (rows_of table) (shared_by rows) at);
      fronts = noted_stay table c.dims.builder.arena.now c.mark_class.new.arena c.dims.builder.fronts.now
          (c.mark_class.ensures.made 0 [] (shared_by rows) at).cells c.dims.invariant.stands.fronts;
    })

pub drill_at-get-requires : goal.drill_at-get-requires
drill_at-get-requires g t c
    = subst (λ n. c.args.dim < n)
    (sym (part_long c.args.part.now.table.now c.args.part.now.rows.now c.args.part.now.shared.now c.args.part.now.is))
    c.requires.below

pub drill_at-add_prefix_node-requires-clause-value : goal.drill_at-add_prefix_node-requires-clause-value
drill_at-add_prefix_node-requires-clause-value g t c = sym c.in-Is.ensures.value

pub drill_at-add_prefix_node-requires-clause-stands : goal.drill_at-add_prefix_node-requires-clause-stands
drill_at-add_prefix_node-requires-clause-stands g t c = record {
  below = c.requires.below;
  at = subst (λ o. StandsAt c.args.part.now.table.now c.args.part.now.shared.now c.args.dim
      (acts_at (acts_from c.args.part.now.table.now (c.args.dim + 1)) c.args.dim c.args.part.now.shared.now o
      (named c.args.part.now.table.now c.args.part.now.rows.now)) c.args.builder.now.arena.now c.args.path.now
      c.args.builder.now.fronts.now) (sym c.in-Is.ensures.value) c.requires.at;
}

pub drill_at-returns-in-Is-clause-done : goal.drill_at-returns-in-Is-clause-done
drill_at-returns-in-Is-clause-done g t c =
    subst (λ o. OnOk c.add_prefix_node.result
    (HasDone c.args.part.now.table.now
    (acts_at (acts_from c.args.part.now.table.now (c.args.dim + 1)) c.args.dim c.args.part.now.shared.now o
    (named c.args.part.now.table.now c.args.part.now.rows.now)) c.args.builder.now.arena.now
    c.add_prefix_node.new.builder.arena.now c.add_prefix_node.new.builder.fronts.now)) c.in-Is.ensures.value
    c.add_prefix_node.ensures.done

pub drill_at-drill_in-requires : goal.drill_at-drill_in-requires
drill_at-drill_in-requires g t c = λ κs h. (
  search rules,
  (
    h,
    record {
      below = c.requires.below;
      at = subst (λ o. StandsAt c.args.part.now.table.now c.args.part.now.shared.now c.args.dim
          (acts_at (acts_from c.args.part.now.table.now (c.args.dim + 1)) c.args.dim c.args.part.now.shared.now o
          (named c.args.part.now.table.now c.args.part.now.rows.now)) c.args.builder.now.arena.now c.args.path.now
          c.args.builder.now.fronts.now) (sym c.in-Any.ensures.value) c.requires.at;
    },
  ),
)

pub drill_at-returns-in-Ok-clause-done : goal.drill_at-returns-in-Ok-clause-done
drill_at-returns-in-Ok-clause-done g t c =
    subst (λ o. HasDone c.args.part.now.table.now
    (acts_at (acts_from c.args.part.now.table.now (c.args.dim + 1)) c.args.dim c.args.part.now.shared.now o
    (named c.args.part.now.table.now c.args.part.now.rows.now)) c.args.builder.now.arena.now
    c.drill_in.new.builder.arena.now c.drill_in.new.builder.fronts.now) c.in-Any.ensures.value c.in-Ok.ensures.done

pub drill_at-returns-in-Ok-clause-path : goal.drill_at-returns-in-Ok-clause-path
drill_at-returns-in-Ok-clause-path g t c =
    let on = path_stays c.args.builder.now.arena.now c.drill_in.new.builder.arena.now c.args.path.now
    c.args.part.now.shared.now c.args.dim c.in-Ok.ensures.done.does.cells c.requires.at.path in
    path_on c.drill_in.new.builder.arena.now c.args.path.now c.set.new.self c.args.part.now.shared.now c.args.dim on
    c.set.ensures.others
    (on_end c.drill_in.new.builder.arena.now c.args.path.now c.args.part.now.shared.now c.args.dim
    (node_on c.set.new.self (c.args.dim + 1)) on (c.set.ensures.here ∙ c.at.ensures)
    ∙ ap (λ p. Some p) (sym (cell_prefix_still c.args.dim c.args.part.now.shared.now (sym c.in-Any.ensures.value))))

pub drill_in-groups_of-requires-clause-node : goal.drill_in-groups_of-requires-clause-node
drill_in-groups_of-requires-clause-node g t c
    = lists.there c.args.builder.now.arena.now.now c.at.result.0 (cell_prefix c.args.dim c.args.part.now.shared.now)
    (on_end c.args.builder.now.arena.now c.args.path.now c.args.part.now.shared.now c.args.dim c.at.result.0
    c.requires.at.path c.at.ensures)

-- the rows of a part are a group
pub drill_in-invariant_of-group : goal.drill_in-invariant_of-group
drill_in-invariant_of-group g t c =
    let table = c.args.part.now.table.now in
    let nos = c.args.part.now.rows.now in
    let l : length c.in-Ok.parts ≡ length (parted table nos c.args.dim) = ap length c.in-Ok.ensures.parts in
    let lt : c.parts.k < length (parted table nos c.args.dim)
    = subst (λ n. c.parts.k < n) (c.len-k-end.ensures ∙ l) c.parts-test.true in
    let is : c.rows.result.now ≡ (get_or (parted table nos c.args.dim) c.parts.k no_part).rows
    = c.rows.ensures ∙ ap (λ p. (get_or p c.parts.k no_part).rows) c.in-Ok.ensures.parts in
    let code : c.code.result ≡ (get_or (parted table nos c.args.dim) c.parts.k no_part).code
    = c.code.ensures ∙ ap (λ p. (get_or p c.parts.k no_part).code) c.in-Ok.ensures.parts in
    let here : There table nos = there table nos c.args.part.now.is.there in
    let few : length c.rows.result.now ≤ length nos
    = subst (λ r. length r ≤ length nos) (sym is)
    (part_few table c.args.part.now.is.table nos here c.args.dim c.parts.k lt) in
    let v = code ∙ part_is table c.args.part.now.is.table nos here c.args.dim c.parts.k lt in
    record {
      is = record {
        under = record {
          table = c.args.part.now.is.table;
          some = subst (λ r. 0 < length r) (sym is)
              (part_some table c.args.part.now.is.table nos here c.args.dim c.parts.k lt);
          there = recursion_all (λ n. is_some (row_at table n.0) ≡ true) c.rows.result.now
              (subst (There table) (sym is) (part_there table c.args.part.now.is.table nos here c.args.dim c.parts.k lt));
          covered = subst (λ r. AreCovered c.args.part.now.shared.now (named table r)) (sym is)
              (part_covered table c.args.part.now.is.table nos here c.args.dim c.parts.k lt c.args.part.now.shared.now
              (shared_there table c.args.part.now.is.table nos here c.args.part.now.is.some
              ∙ ap (λ u. Some u) (sym c.args.part.now.is.shared)));
          long = part_long table nos c.args.part.now.shared.now c.args.part.now.is;
        };
        few = let most = c.args.part.now.is.few in omega (arith, few, most);
        dim = c.requires.below;
        value = ap (λ r. entry (shared_by (named table r)) c.args.dim) is
            ∙ part_value table c.args.part.now.is.table nos here c.args.dim c.parts.k lt c.requires.below
            ∙ ap (λ x. Some x) (sym v);
        small = subst IsCode (sym v)
            (part_small table c.args.part.now.is.table nos here c.args.dim c.parts.k lt c.requires.below);
      };
    }

pub drill_in-drill_part-requires : goal.drill_in-drill_part-requires
drill_in-drill_part-requires g t c =
    let table = c.args.part.now.table.now in
    let nos = c.args.part.now.rows.now in
    let l : length c.in-Ok.parts ≡ length (parted table nos c.args.dim) = ap length c.in-Ok.ensures.parts in
    let lt : c.parts.k < length (parted table nos c.args.dim)
    = subst (λ n. c.parts.k < n) (c.len-k-end.ensures ∙ l) c.parts-test.true in
    let is : c.rows.result.now ≡ (get_or (parted table nos c.args.dim) c.parts.k no_part).rows
    = c.rows.ensures ∙ ap (λ p. (get_or p c.parts.k no_part).rows) c.in-Ok.ensures.parts in
    let code : c.code.result ≡ (get_or (parted table nos c.args.dim) c.parts.k no_part).code
    = c.code.ensures ∙ ap (λ p. (get_or p c.parts.k no_part).code) c.in-Ok.ensures.parts in
    let here : There table nos = there table nos c.args.part.now.is.there in
    let more = acts_from table (c.args.dim + 1) in
    let acts = ap₂ (λ x r. part_acts more c.args.dim c.args.part.now.shared.now x (named table r)) (sym code) (sym is) in
    let part = get_or (parted table nos c.args.dim) c.parts.k no_part in
    let stands = stands_prefix table
    (part_acts more c.args.dim c.args.part.now.shared.now part.code (named table part.rows))
    (parts_from table c.args.dim c.args.part.now.shared.now (named table nos) (c.parts.k + 1)) c.args.part.now.shared.now
    c.args.dim c.parts.builder.arena.now c.args.path.now c.parts.builder.fronts.now
    (subst (λ xs. StandsAt table c.args.part.now.shared.now c.args.dim xs c.parts.builder.arena.now c.args.path.now
    c.parts.builder.fronts.now)
    (parts_here table c.args.part.now.is.table nos here c.args.dim c.parts.k lt c.args.part.now.shared.now)
    c.parts.invariant.stands) in
    λ κs h. (
      search rules,
      (
        h,
        subst (λ xs. StandsAt table c.args.part.now.shared.now c.args.dim xs c.parts.builder.arena.now c.args.path.now
            c.parts.builder.fronts.now) acts stands,
      ),
    )

pub drill_in-parts-preserved : goal.drill_in-parts-preserved
drill_in-parts-preserved g t c =
    let table = c.args.part.now.table.now in
    let nos = c.args.part.now.rows.now in
    let l : length c.in-Ok.parts ≡ length (parted table nos c.args.dim) = ap length c.in-Ok.ensures.parts in
    let lt : c.parts.k < length (parted table nos c.args.dim)
    = subst (λ n. c.parts.k < n) (c.len-k-end.ensures ∙ l) c.parts-test.true in
    let is : c.rows.result.now ≡ (get_or (parted table nos c.args.dim) c.parts.k no_part).rows
    = c.rows.ensures ∙ ap (λ p. (get_or p c.parts.k no_part).rows) c.in-Ok.ensures.parts in
    let code : c.code.result ≡ (get_or (parted table nos c.args.dim) c.parts.k no_part).code
    = c.code.ensures ∙ ap (λ p. (get_or p c.parts.k no_part).code) c.in-Ok.ensures.parts in
    let here : There table nos = there table nos c.args.part.now.is.there in
    let more = acts_from table (c.args.dim + 1) in
    let es = part_acts more c.args.dim c.args.part.now.shared.now c.code.result (named table c.rows.result.now) in
    let fs = parts_from table c.args.dim c.args.part.now.shared.now (named table nos) (c.parts.k + 1) in
    let split = parts_here table c.args.part.now.is.table nos here c.args.dim c.parts.k lt c.args.part.now.shared.now
    ∙ ap₂ (λ x r. part_acts more c.args.dim c.args.part.now.shared.now x (named table r) ++ fs) (sym code) (sym is) in
    let a = c.parts.builder.arena.now in
    let b = c.drill_part.new.builder.arena.now in
    record {
      whole = λ d f e. c.parts.invariant.whole d f
          (subst (λ xs. HasDone table xs a d f) (sym split)
          (done_then table es fs a b d c.drill_part.new.builder.fronts.now f c.in-Ok-drill_part.ensures.done e));
      stands = stands_behind table es fs c.args.part.now.shared.now c.args.part.now.shared.now c.args.dim c.args.dim a b
          c.args.path.now c.args.path.now c.parts.builder.fronts.now c.drill_part.new.builder.fronts.now
          (subst (λ xs. StandsAt table c.args.part.now.shared.now c.args.dim xs a c.args.path.now
          c.parts.builder.fronts.now) split c.parts.invariant.stands) c.in-Ok-drill_part.ensures.done
          c.in-Ok-drill_part.ensures.frame
          (path_stays a b c.args.path.now c.args.part.now.shared.now c.args.dim c.in-Ok-drill_part.ensures.done.does.cells
          c.parts.invariant.stands.path);
      rest = c.in-Ok-drill_part.ensures.frame ∙ c.parts.invariant.rest;
      same = c.in-Ok-drill_part.ensures.same ∙ c.parts.invariant.same;
      same_steps = c.in-Ok-drill_part.ensures.same_steps ∙ c.parts.invariant.same_steps;
      steps = let cost = ap (cost_of_acts table.dims) split ∙ cost_append table.dims es fs in
          omega (arith, c.parts.invariant.steps, c.in-Ok-drill_part.ensures.steps, cost);
    }

pub drill_in-returns-in-Ok-give_back-clause-done : goal.drill_in-returns-in-Ok-give_back-clause-done
drill_in-returns-in-Ok-give_back-clause-done g t c =
    let table = c.args.part.now.table.now in
    let nos = c.args.part.now.rows.now in
    let l : length c.in-Ok.parts ≡ length (parted table nos c.args.dim) = ap length c.in-Ok.ensures.parts in
    let le : length (parted table nos c.args.dim) ≤ c.parts.k
    = subst (λ n. n ≤ c.parts.k) (c.len-k-end.ensures ∙ l) c.parts-test.false in
    c.parts.invariant.whole c.parts.builder.arena.now c.parts.builder.fronts.now
    (subst (λ xs. HasDone table xs c.parts.builder.arena.now c.parts.builder.arena.now c.parts.builder.fronts.now)
    (sym (parts_end table c.args.part.now.is.table nos (there table nos c.args.part.now.is.there) c.args.dim c.parts.k
    c.args.part.now.shared.now le))
    (done_nothing table c.parts.builder.arena.now c.parts.builder.fronts.now c.parts.invariant.stands.fronts))

-- what comes next for a part with its own node
pub drill_part-add_prefix_node-requires-clause-stands : goal.drill_part-add_prefix_node-requires-clause-stands
drill_part-add_prefix_node-requires-clause-stands g t c =
    let table = c.args.group.now.table.now in
    let part = named table c.args.group.now.rows.now in
    let more = acts_from table (c.args.group.now.dim + 1) in
    let split = part_new more c.args.group.now.dim c.args.group.now.upper.now c.args.group.now.code part c.in-None.ensures.none
    ∙ ap (λ s. prefix_acts false s c.args.group.now.dim c.args.group.now.code ++ more part) (sym c.close.ensures) in
    let s = stands_prefix table (prefix_acts false c.close.new.shared c.args.group.now.dim c.args.group.now.code)
    (more part) c.args.group.now.upper.now c.args.group.now.dim c.args.builder.now.arena.now c.args.path.now
    c.args.builder.now.fronts.now
    (subst (λ xs. StandsAt table c.args.group.now.upper.now c.args.group.now.dim xs c.args.builder.now.arena.now c.args.path.now
    c.args.builder.now.fronts.now) split c.requires) in
    record {
      below = c.args.group.now.is.dim;
      at = record {
        width = s.width;
        next = s.next;
        path = path_of c.args.builder.now.arena.now c.args.path.now c.args.group.now.upper.now c.close.new.shared
            c.args.group.now.dim (sym (cell_eq-exact nat_equality _ _ c.in-None.ensures.none)
            ∙ ap (cell_prefix c.args.group.now.dim) (sym c.close.ensures)) s.path;
        fronts = s.fronts;
      };
    }

pub drill_part-drill-requires : goal.drill_part-drill-requires
drill_part-drill-requires g t c =
    let table = c.args.group.now.table.now in
    let part = named table c.args.group.now.rows.now in
    let more = acts_from table (c.args.group.now.dim + 1) in
    let split = part_new more c.args.group.now.dim c.args.group.now.upper.now c.args.group.now.code part c.in-None.ensures.none
    ∙ ap (λ s. prefix_acts false s c.args.group.now.dim c.args.group.now.code ++ more part) (sym c.close.ensures) in
    let stands = stands_behind table (prefix_acts false c.close.new.shared c.args.group.now.dim c.args.group.now.code)
    (more part) c.args.group.now.upper.now c.close.new.shared c.args.group.now.dim
    (c.args.group.now.dim + 1) c.args.builder.now.arena.now c.add_prefix_node.new.builder.arena.now c.args.path.now
    c.add_prefix_node.new.path c.args.builder.now.fronts.now c.add_prefix_node.new.builder.fronts.now
    (subst (λ xs. StandsAt table c.args.group.now.upper.now c.args.group.now.dim xs c.args.builder.now.arena.now c.args.path.now
    c.args.builder.now.fronts.now) split c.requires) c.in-Ok-add_prefix_node.ensures.done
    c.in-Ok-add_prefix_node.ensures.frame c.in-Ok-add_prefix_node.ensures.path in
    λ κs h. (search rules, (h, (add-one-le c.args.group.now.is.dim, stands)))

pub drill_part-returns-in-Ok-add_prefix_node-clause-done : goal.drill_part-returns-in-Ok-add_prefix_node-clause-done
drill_part-returns-in-Ok-add_prefix_node-clause-done g t c =
    let table = c.args.group.now.table.now in
    let part = named table c.args.group.now.rows.now in
    let more = acts_from table (c.args.group.now.dim + 1) in
    let split = part_new more c.args.group.now.dim c.args.group.now.upper.now c.args.group.now.code part c.in-None.ensures.none
    ∙ ap (λ s. prefix_acts false s c.args.group.now.dim c.args.group.now.code ++ more part) (sym c.close.ensures) in
    on_ok_weaker c.drill.result
    (λ e. subst (λ xs. HasDone table xs c.args.builder.now.arena.now c.drill.new.builder.arena.now
    c.drill.new.builder.fronts.now) (sym split)
    (done_then table (prefix_acts false c.close.new.shared c.args.group.now.dim c.args.group.now.code)
    (more part) c.args.builder.now.arena.now c.add_prefix_node.new.builder.arena.now c.drill.new.builder.arena.now
    c.add_prefix_node.new.builder.fronts.now c.drill.new.builder.fronts.now c.in-Ok-add_prefix_node.ensures.done e))
    c.drill.ensures.done

pub drill_part-link_part-requires : goal.drill_part-link_part-requires
drill_part-link_part-requires g t c = record {
  before = c.in-Some.ensures.before;
  front = c.in-Some.ensures.front;
  gains = c.in-Some.ensures.gains;
  at =
      subst (λ xs. StandsAt c.args.group.now.table.now c.args.group.now.upper.now c.args.group.now.dim xs
      c.args.builder.now.arena.now c.args.path.now c.args.builder.now.fronts.now)
      (part_old (acts_from c.args.group.now.table.now (c.args.group.now.dim + 1)) c.args.group.now.dim c.args.group.now.upper.now
      c.args.group.now.code (named c.args.group.now.table.now c.args.group.now.rows.now)
      (differs_after c.in-Some.at c.args.group.now.dim _ c.args.group.now.upper.now c.in-Some.ensures.before
      c.in-Some.ensures.gains))
      c.requires;
}

pub drill_part-returns-in-Ok-clause-done : goal.drill_part-returns-in-Ok-clause-done
drill_part-returns-in-Ok-clause-done g t c =
    subst (λ xs. HasDone c.args.group.now.table.now xs c.args.builder.now.arena.now c.link_part.new.builder.arena.now
    c.link_part.new.builder.fronts.now)
    (sym (part_old (acts_from c.args.group.now.table.now (c.args.group.now.dim + 1)) c.args.group.now.dim c.args.group.now.upper.now
    c.args.group.now.code (named c.args.group.now.table.now c.args.group.now.rows.now)
    (differs_after c.in-Some.at c.args.group.now.dim _ c.args.group.now.upper.now c.in-Some.ensures.before
    c.in-Some.ensures.gains)))
    c.in-Ok.ensures.done

pub drill_in-parts-init : goal.drill_in-parts-init
drill_in-parts-init g t c = record {
  whole = λ b f d. subst (λ (a : Arena). HasDone c.args.part.now.table.now
      (acts_at (acts_from c.args.part.now.table.now (c.args.dim + 1)) c.args.dim c.args.part.now.shared.now None
      (named c.args.part.now.table.now c.args.part.now.rows.now)) a b f) c.groups_of.ensures.arena d;
  stands = subst (λ (a : Arena). StandsAt c.args.part.now.table.now c.args.part.now.shared.now c.args.dim
      (acts_at (acts_from c.args.part.now.table.now (c.args.dim + 1)) c.args.dim c.args.part.now.shared.now None
      (named c.args.part.now.table.now c.args.part.now.rows.now)) a c.args.path.now c.groups_of.new.builder.fronts.now)
      (sym c.groups_of.ensures.arena)
      (subst (λ (f : PrefixNodes). StandsAt c.args.part.now.table.now c.args.part.now.shared.now c.args.dim
      (acts_at (acts_from c.args.part.now.table.now (c.args.dim + 1)) c.args.dim c.args.part.now.shared.now None
      (named c.args.part.now.table.now c.args.part.now.rows.now)) c.args.builder.now.arena.now c.args.path.now f)
      (sym c.groups_of.ensures.fronts) c.requires.at);
  rest = ap frame c.groups_of.ensures.arena;
  same = c.groups_of.ensures.same;
  same_steps = c.groups_of.ensures.same_steps;
  steps = omega (arith, c.groups_of.ensures.steps);
}

pub drill_part-add_prefix_node-requires-clause-value : goal.drill_part-add_prefix_node-requires-clause-value
drill_part-add_prefix_node-requires-clause-value g t c = ap (λ u. entry u c.args.group.now.dim) c.close.ensures
    ∙ c.args.group.now.is.value

pub drill_part-invariant_of-edge : goal.drill_part-invariant_of-edge
drill_part-invariant_of-edge g t c = record { small = c.args.group.now.is.small }

pub drill-returns-clause-steps : goal.drill-returns-clause-steps
drill-returns-clause-steps g t c =
    let table = c.args.part.now.table.now in
    let rows = named table c.args.part.now.rows.now in
    let le : table.dims ≤ c.dims.dim = subst (λ n. n ≤ c.dims.dim) c.dims-dim-end.ensures.value c.dims-test.false in
    let none = ap (cost_of_acts table.dims) (acts_end table c.dims.dim rows le) in
    omega (arith, c.dims.invariant.steps, c.mark_class.ensures.steps, none)

pub drill_at-returns-in-Is-clause-steps : goal.drill_at-returns-in-Is-clause-steps
drill_at-returns-in-Is-clause-steps g t c =
    let table = c.args.part.now.table.now in
    let cost = ap (λ o. cost_of_acts table.dims (acts_at (acts_from table (c.args.dim + 1)) c.args.dim
    c.args.part.now.shared.now o (named table c.args.part.now.rows.now))) c.in-Is.ensures.value in
    ok_always c.add_prefix_node.result (omega (arith, c.add_prefix_node.ensures.steps, cost, c.requires.below))

pub drill_at-returns-in-Ok-clause-steps : goal.drill_at-returns-in-Ok-clause-steps
drill_at-returns-in-Ok-clause-steps g t c =
    let table = c.args.part.now.table.now in
    let cost = ap (λ o. cost_of_acts table.dims (acts_at (acts_from table (c.args.dim + 1)) c.args.dim
    c.args.part.now.shared.now o (named table c.args.part.now.rows.now))) c.in-Any.ensures.value in
    omega (arith, c.in-Ok.ensures.steps, cost)

pub drill_in-returns-in-Ok-give_back-clause-steps : goal.drill_in-returns-in-Ok-give_back-clause-steps
drill_in-returns-in-Ok-give_back-clause-steps g t c = omega (arith, c.parts.invariant.steps)

pub drill_part-returns-in-Ok-add_prefix_node-clause-steps : goal.drill_part-returns-in-Ok-add_prefix_node-clause-steps
drill_part-returns-in-Ok-add_prefix_node-clause-steps g t c =
    let table = c.args.group.now.table.now in
    let part = named table c.args.group.now.rows.now in
    let more = acts_from table (c.args.group.now.dim + 1) in
    let first = prefix_acts false (shared_by part) c.args.group.now.dim c.args.group.now.code in
    let cost = ap (cost_of_acts table.dims) (part_new more c.args.group.now.dim c.args.group.now.upper.now
    c.args.group.now.code part c.in-None.ensures.none) ∙ cost_append table.dims first (more part) in
    on_ok_weaker c.drill.result
    (λ within. omega (arith, within, c.in-Ok-add_prefix_node.ensures.steps, cost, c.args.group.now.is.dim))
    c.drill.ensures.steps

pub drill_part-returns-in-Ok-clause-steps : goal.drill_part-returns-in-Ok-clause-steps
drill_part-returns-in-Ok-clause-steps g t c =
    let table = c.args.group.now.table.now in
    let part = named table c.args.group.now.rows.now in
    let cost = ap (cost_of_acts table.dims) (part_old (acts_from table (c.args.group.now.dim + 1)) c.args.group.now.dim
    c.args.group.now.upper.now c.args.group.now.code part
    (differs_after c.in-Some.at c.args.group.now.dim _ c.args.group.now.upper.now c.in-Some.ensures.before
    c.in-Some.ensures.gains)) in
    omega (arith, c.in-Ok.ensures.steps, cost, c.args.group.now.is.dim)
