use Rattle.std.proofs.Common.{◌≡◌, ◌+◌, ◌∙◌, ℕ, ap, ap₂, arith, length, nat_le, subst, sym, ◌∷◌, []}
use Rattle.std.specs.FinMap as finmap
use Rattle.std.specs.Ordering.{nat_cmp}
use Rattle.std.specs.Prelude.{Ok}
use Rattle.std.proofs.lemmas.List.{length-append}
use Rattle.base_table.specs.Places.{rows_of}
use Rattle.cube_defs.specs.Text.{text_cmp}
use Rattle.cube_defs.specs.Tree.{classes}
use Rattle.qc_arena.specs.Map.{Arena, is_open}
use Rattle.qc_schema.proofs.CallerLemmas.{dims-few}
use Rattle.qc_schema.specs.Schema.{IsLayout, Layout, max_dims, with_dim}
use Rattle.tree_laws.specs.Counts.{classes_in}
use Rattle.tree_search.specs.Found.{IsTreeOf}
use Rattle.value_dict.specs.TextLists as texts
use Rattle.value_dict.specs.TextLists.{IsDictionary, TextLists}
use Rattle.warehouse.specs.Batch.{Applied}
use Rattle.warehouse.specs.Changing.{AreParts}
use Rattle.warehouse.specs.State.{State}
use Rattle.warehouse.specs.Stored.{IsStored, state_of}
use Rattle.warehouse.specs.Widening.{KeepsWidened, nodes_then, widened}
use Rattle.warehouse.proofs.Counted.{classes-kept, nodes-kept}
use Rattle.warehouse.specs.declared.cube.Cube.{Cube}
use Rattle.warehouse.proofs.ListedClasses.{from_classes, lists_few}
use Rattle.warehouse.proofs.Wider.{cost-wide, kept-wide, refused-full, room-free, state-wide, stored-wide, taken-free}
use Rattle.warehouse.proofs.widening.widen.Goals as goal

pub returns-in-Some-clause-gives : goal.returns-in-Some-clause-gives
returns-in-Some-clause-gives g c =
    let schema = c.args.schema.now in
    let dict = c.args.cube.now.dict in
    let table = c.args.cube.now.table in
    let tree = c.args.cube.now.tree.now in
    let stored = c.requires.parts.stored in
    let from = c.requires.parts.kept.from in
    let count : finmap.len tree + classes_in nat_cmp tree ≡ nodes_then (state_of schema dict table) =
    ap₂ (λ (m n : ℕ). m + n)
    (nodes-kept dict.lists (rows_of table) stored.known stored.dictionary.distinct _ _ tree from)
    (classes-kept dict.lists (rows_of table) stored.known stored.dictionary.distinct _ _ tree from) in
    refused-full (state_of schema dict table) c.args.name.now c.args.value.now _ count c.in-Some.refused
    (sym c.in-Some.is ∙ c.widen_refusal.ensures)

pub widen_parts-requires-clause-can : goal.widen_parts-requires-clause-can
widen_parts-requires-clause-can g c =
    let schema = c.args.schema.now in
    let table = c.args.cube.now.table in
    let tree = c.args.cube.now.tree in
    let wide = c.in-Ok-with_dim.wide in
    let stored = c.requires.parts.stored in
    let kept = c.requires.parts.kept in
    let longer : wide ≡ with_dim schema c.args.name.now = c.in-Ok-with_dim.ensures in
    let long : length wide.dims ≡ table.dims + 1 = ap (λ (l : Layout). length l.dims) longer
    ∙ length-append schema.dims (c.args.name.now ∷ []) ∙ ap (λ (n : ℕ). n + 1) (sym stored.dims) in
    record {
      dims = long;
      measures = ap (λ (l : Layout). length l.measures) longer ∙ sym stored.measures;
      few = omega (arith, long, dims-few wide c.dims-dims.ensures.layout);
      lists = stored.lists ∙ sym stored.dims;
      valid = stored.are_rows;
      is_closed = stored.closed;
      closed = kept.closed;
      width = kept.width ∙ sym stored.dims;
      source =
          subst (λ (n : ℕ). IsTreeOf n tree.now (record { measures = table.measures; rows = rows_of table }))
          (sym stored.dims)
          (subst (λ (m : ℕ). IsTreeOf (length schema.dims) tree.now (record { measures = m; rows = rows_of table }))
          (sym stored.measures) kept.from);
      room = omega (
        arith,
        kept.max,
        room-free (nat_le (max_dims schema.version) (length schema.dims)) schema.nodes
            (finmap.len tree.now + classes_in nat_cmp tree.now) (sym c.in_default.is ∙ c.widen_refusal.ensures),
      );
    }

pub returns-in-Err-widen_parts-clause-parts : goal.returns-in-Err-widen_parts-clause-parts
returns-in-Err-widen_parts-clause-parts g c =
    subst (λ (cube : Cube). AreParts c.args.schema.now cube c.args.index.now)
    (sym c.in-Err-widen_parts.ensures.back) c.requires.parts

pub returns-clause-records : goal.returns-clause-records
returns-clause-records g c
    = subst (λ (n : ℕ). KeepsWidened n c.args.cube.now.tree.now c.widen_parts.new.cube.tree.now)
    c.requires.parts.stored.dims c.in-Ok-widen_parts.ensures.widened.kept

pub returns-clause-parts : goal.returns-clause-parts
returns-clause-parts g c =
    let schema = c.args.schema.now in
    let dict = c.args.cube.now.dict in
    let table = c.args.cube.now.table in
    let now = c.widen_parts.new.cube.table in
    let name = c.args.name.now in
    let value = c.args.value.now in
    let stored = c.requires.parts.stored in
    let wide = c.in-Ok-with_dim.wide in
    let wider = c.in-Ok-widen_parts.ensures.widened in
    let longer : wide ≡ with_dim schema name = c.in-Ok-with_dim.ensures in
    let more : c.widen_parts.new.cube.dict ≡ texts.with_dim dict value = wider.texts in
    let long : length wide.dims ≡ table.dims + 1 = ap (λ (l : Layout). length l.dims) longer
    ∙ length-append schema.dims (name ∷ []) ∙ ap (λ (n : ℕ). n + 1) (sym stored.dims) in
    let measures : table.measures ≡ length wide.measures = stored.measures
    ∙ sym (ap (λ (l : Layout). length l.measures) longer) in
    let max = ap (λ (a : Arena). a.max) wider.of_tree ∙ c.requires.parts.kept.max ∙ sym (ap (λ (l : Layout). l.nodes) longer) in
    let is = stored-wide schema dict table now name value stored c.requires.parts.kept.from.wide wider.rows wider.frame
    (subst IsLayout longer c.dims-dims.ensures.layout) wider.valid (subst IsDictionary more wider.dictionary)
    (record { utf8 = c.utf8.value; short = c.requires.value }) in
    record {
      stored = subst (λ (l : Layout). IsStored l c.widen_parts.new.cube.dict now) (sym longer)
          (subst (λ (d : TextLists). IsStored (with_dim schema name) d now) (sym more) is);
      kept =
          kept-wide wide now c.widen_parts.new.cube.tree (table.dims + 1) long
          (ap is_open wider.of_tree ∙ c.requires.parts.kept.closed) (ap (λ (a : Arena). a.width) wider.of_tree) max
          wider.few
          (subst (λ (m : ℕ). IsTreeOf (table.dims + 1) c.widen_parts.new.cube.tree.now
          (record { measures = m; rows = rows_of now })) measures wider.canonical);
      indexed = c.in-Ok-widen_parts.ensures.index;
    }

pub returns-clause-gives : goal.returns-clause-gives
returns-clause-gives g c =
    let schema = c.args.schema.now in
    let dict = c.args.cube.now.dict in
    let table = c.args.cube.now.table in
    let tree = c.args.cube.now.tree.now in
    let name = c.args.name.now in
    let value = c.args.value.now in
    let now = c.widen_parts.new.cube.table in
    let stored = c.requires.parts.stored in
    let from = c.requires.parts.kept.from in
    let longer : c.in-Ok-with_dim.wide ≡ with_dim schema name = c.in-Ok-with_dim.ensures in
    let more : c.widen_parts.new.cube.dict ≡ texts.with_dim dict value = c.in-Ok-widen_parts.ensures.widened.texts in
    let old = state_of schema dict table in
    let count : finmap.len tree + classes_in nat_cmp tree ≡ nodes_then old =
    ap₂ (λ (m n : ℕ). m + n)
    (nodes-kept dict.lists (rows_of table) stored.known stored.dictionary.distinct _ _ tree from)
    (classes-kept dict.lists (rows_of table) stored.known stored.dictionary.distinct _ _ tree from) in
    let made : state_of c.in-Ok-with_dim.wide c.widen_parts.new.cube.dict now ≡ widened name value old =
    ap₂ (λ (l : Layout) (d : TextLists). state_of l d now) longer more
    ∙ state-wide schema dict table now name value stored from.wide c.in-Ok-widen_parts.ensures.widened.rows
    c.in-Ok-widen_parts.ensures.widened.frame in
    let parts : AreParts c.in-Ok-with_dim.wide c.widen_parts.new.cube c.in-Ok-widen_parts.made = returns-clause-parts g c in
    let is = parts.stored in
    let kept = parts.kept in
    let many : c.class_count-classes.result ≡ length (classes text_cmp (widened name value old).rows) =
    c.class_count-classes.ensures
    ∙ classes-kept c.widen_parts.new.cube.dict.lists (rows_of now) is.known is.dictionary.distinct _ _
    c.widen_parts.new.cube.tree.now kept.from
    ∙ ap (λ (s : State). length (classes text_cmp s.rows)) made in
    taken-free old name value _ count (sym c.in_default.is ∙ c.widen_refusal.ensures)
    ∙ ap₂ (λ (n : ℕ) (s : State). let x : Applied = record { records = 0; classes = n; state = s } in
    Ok x) (sym many) (sym made)

pub returns-clause-steps : goal.returns-clause-steps
returns-clause-steps g c =
    let tree = c.args.cube.now.tree.now in
    cost-wide (length c.args.schema.now.dims) tree (length c.in-Ok.numbers.items) c.args.steps.now
    c.class_numbers.new.steps c.widen_parts.new.steps
    (lists_few tree c.in-Ok.numbers.items (from_classes tree c.in-Ok.numbers.items c.in-Ok.ensures.numbers))
    c.class_numbers.ensures.steps c.in-Ok-widen_parts.ensures.steps
