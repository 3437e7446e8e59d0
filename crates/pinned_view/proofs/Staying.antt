-- What is true of pins stays true as the warehouse changes, and as pins come and go.
use Rattle.std.proofs.Common.{◌≡◌, ℕ, ◌+◌, ◌-◌, ◌<◌, ◌≤◌, refl, sym, ap, ◌∙◌, subst, Bool, true, false, not, Option, Some, None, List, []}
use Rattle.std.proofs.Common.{◌∷◌, ◌++◌, cond, drop, get_or, length, map, arith, length-append, length-drop, drop-drop}
use Rattle.std.specs.Prelude.{filter, option_map}
use Rattle.std.proofs.Math.Seq.{drop-length}
use Rattle.std.proofs.lemmas.List.{length-map, map-append}
use Rattle.std.proofs.lemmas.List.Filters.{length-filter_both}
use Rattle.std.proofs.lemmas.Simd.{map-map}
use Rattle.std.specs.FinMap as finmap
use Rattle.std.specs.List.{AllByRecursion, IsDistinct, find}
use Rattle.std.specs.Str.{bytes_eq}
use Rattle.cube_defs.specs.Rows.{Row}
use Rattle.cube_defs.specs.Text.{Text}
use Rattle.cube_defs.specs.Tree.{Tree}
use Rattle.cell_core.specs.declared.cell.NodeNo.{NodeNo}
use Rattle.qc_arena.specs.Map.{ImageMap, overlaid}
use Rattle.qc_schema.specs.Schema.{Layout}
use Rattle.pinned_view.specs.Past.{with_all_images}
use Rattle.pinned_view.specs.Pins.{ArePins, AreWithin, IsPin, KeepsReads, ReadSame, has_name, kept_after, least_place, moved_back}
use Rattle.pinned_view.specs.Pins.{tree_at_pin, unplaced, version_in, was_in}
use Rattle.pinned_view.specs.Versions.{AreVersions, Version, version_now, version_of, without}
use Rattle.pinned_view.specs.Views.{IsRootOf}
use Rattle.warehouse.specs.Counted.{AreCounted}
use Rattle.pinned_view.specs.declared.pins.Pin.{Pin}
use Rattle.pinned_view.specs.declared.pins.TheConstants.{MAX_PINS}
use Rattle.warehouse.specs.State.{AreContents, Contents, HasTree, State, with_rows}
use Rattle.warehouse.specs.declared.refused.Stats.{Stats}
use Rattle.pinned_view.proofs.Joining.{read_after, within_after}
use Rattle.pinned_view.proofs.Places.{least_after, least_back, least_push}

-- the trees of rows that a state had are those of its rows in another state
abbrev pub KeepsTrees : State → State → Type 0
KeepsTrees was now = (rows : List (Row Text)) (tree : Tree ℕ) → HasTree (with_rows was rows) tree
    → HasTree (with_rows now rows) tree

module _ (was now : Contents) (kept kept' : List ImageMap) (schema : now.state.schema ≡ was.state.schema)
    (trees : KeepsTrees was.state now.state) where
  each_stays : (pins : List Pin) → ReadSame kept was.tree kept' now.tree pins → AreWithin (length kept') pins
      → AllByRecursion (IsPin was kept) pins → AllByRecursion (IsPin now kept') pins
  each_stays [] same within are = tt
  each_stays (pin ∷ pins) same within are = (
    record {
      within = within.0;
      tree = same.0 ∙ are.0.tree;
      root = subst (λ (l : Layout). IsRootOf (length l.dims) (was_in pin).tree pin.root) (sym schema) are.0.root;
      stats = are.0.stats;
      has = trees (was_in pin).state.rows (was_in pin).tree are.0.has;
    },
    each_stays pins same.1 within.1 are.1,
  )

pub within_all : (now : Contents) (kept : List ImageMap) (pins : List Pin) → AllByRecursion (IsPin now kept) pins
    → AreWithin (length kept) pins
within_all now kept [] are = tt
within_all now kept (pin ∷ pins) are = (are.0.within, within_all now kept pins are.1)

-- a file that is taken: what it made of the nodes is kept, and the warehouse has it no more
pub after_change : (was mid now : Contents) (kept kept' : List ImageMap) (pins : List Pin)
    → overlaid mid.images mid.tree ≡ was.tree → now ≡ record mid { images = finmap.empty }
    → kept' ≡ kept_after pins kept mid.images → mid.state.schema ≡ was.state.schema
    → KeepsTrees was.state mid.state → ArePins was kept pins → ArePins now kept' pins
after_change was mid now kept kept' pins back rest stored schema trees are =
    let left : Contents = record mid { images = finmap.empty } in
    let after = kept_after pins kept mid.images in
    let within = within_all was kept pins are.each in
    let read : ReadSame kept was.tree after mid.tree pins =
    subst (λ (t : Tree ℕ). ReadSame kept t after mid.tree pins) back (read_after pins kept mid.images mid.tree within) in
    let stays : ArePins left after pins = record {
      each = each_stays was left kept after schema trees pins read (within_after pins kept mid.images within) are.each;
      few = are.few;
      distinct = are.distinct;
      first = least_after pins kept mid.images within are.first;
      plain = refl;
    } in
    subst (λ (n : Contents). ArePins n kept' pins) (sym rest)
    (subst (λ (k : List ImageMap). ArePins left k pins) (sym stored) stays)

names_moved : (pins pins' : List Pin) → map unplaced pins' ≡ map unplaced pins
    → map (λ (pin : Pin). pin.name.bytes) pins' ≡ map (λ (pin : Pin). pin.name.bytes) pins
names_moved pins pins' same = sym (map-map (λ (pin : Pin). pin.name.bytes) unplaced pins')
    ∙ ap (map (λ (pin : Pin). pin.name.bytes)) same ∙ map-map (λ (pin : Pin). pin.name.bytes) unplaced pins

-- pins that are the same but for their places stand for the same versions
pub versions_moved : (pins pins' : List Pin) → map unplaced pins' ≡ map unplaced pins
    → map version_in pins' ≡ map version_in pins
versions_moved pins pins' same = sym (map-map version_in unplaced pins') ∙ ap (map version_in) same
    ∙ map-map version_in unplaced pins

pub versions_kept : {kept kept' : List ImageMap} {pins pins' : List Pin} → KeepsReads kept pins kept' pins'
    → map version_in pins' ≡ map version_in pins
versions_kept {kept} {kept'} {pins} {pins'} keeps = versions_moved pins pins' keeps.pins

pin_moved : (now : Contents) (kept kept' : List ImageMap) (pin pin' : Pin) → unplaced pin' ≡ unplaced pin
    → tree_at_pin kept' now.tree pin' ≡ tree_at_pin kept now.tree pin → pin'.from ≤ length kept' → IsPin now kept pin
    → IsPin now kept' pin'
pin_moved now kept kept' pin pin' same read within is =
    let was : was_in pin' ≡ was_in pin = ap (λ (p : Pin). was_in p) same in
    let root : pin'.root ≡ pin.root = ap (λ (p : Pin). p.root) same in
    let stats : pin'.stats ≡ pin.stats = ap (λ (p : Pin). p.stats) same in
    record {
      within = within;
      tree = read ∙ is.tree ∙ ap (λ (c : Contents). c.tree) (sym was);
      root = subst (λ (c : Contents). IsRootOf (length now.state.schema.dims) c.tree pin'.root) (sym was)
          (subst (λ (r : Option NodeNo). IsRootOf (length now.state.schema.dims) (was_in pin).tree r) (sym root) is.root);
      stats = subst (λ (c : Contents). AreCounted c.state.rows pin'.stats) (sym was)
          (subst (λ (n : Stats). AreCounted (was_in pin).state.rows n) (sym stats) is.stats);
      has = subst (λ (c : Contents). HasTree (with_rows now.state c.state.rows) c.tree) (sym was) is.has;
    }

all_moved_over : (now : Contents) (kept kept' : List ImageMap) (pins pins' : List Pin)
    → map unplaced pins' ≡ map unplaced pins
    → map (tree_at_pin kept' now.tree) pins' ≡ map (tree_at_pin kept now.tree) pins → AreWithin (length kept') pins'
    → AllByRecursion (IsPin now kept) pins → AllByRecursion (IsPin now kept') pins'
all_moved_over now kept kept' [] [] same read within are = tt
all_moved_over now kept kept' [] (pin' ∷ pins') same read within are
    = absurd (omega (arith, ap (λ (ps : List Pin). length ps) same))
all_moved_over now kept kept' (pin ∷ pins) [] same read within are
    = absurd (omega (arith, ap (λ (ps : List Pin). length ps) same))
all_moved_over now kept kept' (pin ∷ pins) (pin' ∷ pins') same read within are = (
  pin_moved now kept kept' pin pin' (ap (λ (ps : List Pin). get_or ps 0 pin) same)
      (ap (λ (ts : List (Tree ℕ)). get_or ts 0 now.tree) read) within.0 are.0,
  all_moved_over now kept kept' pins pins' (ap (λ (ps : List Pin). drop 1 ps) same)
      (ap (λ (ts : List (Tree ℕ)). drop 1 ts) read) within.1 are.1,
)

-- lists that are settled
pub pins_settled : {now : Contents} {kept kept' : List ImageMap} {pins pins' : List Pin} → KeepsReads kept pins kept' pins'
    → ArePins now kept pins → ArePins now kept' pins'
pins_settled {now} {kept} {kept'} {pins} {pins'} keeps are = record {
  each = all_moved_over now kept kept' pins pins' keeps.pins (keeps.trees now.tree)
      (keeps.within (within_all now kept pins are.each)) are.each;
  few = omega (
    arith,
    ap (λ (ps : List Pin). length ps) keeps.pins,
    length-map pins unplaced,
    length-map pins' unplaced,
    are.few,
  );
  distinct = subst (IsDistinct bytes_eq) (sym (names_moved pins pins' keeps.pins)) are.distinct;
  first = omega (arith, keeps.first, are.first);
  plain = are.plain;
}

-- what is pinned now
pub pin_now : (now : Contents) (kept : List ImageMap) (pin : Pin) (name : Text) → version_in pin ≡ version_now name now
    → pin.from ≡ length kept
    → IsRootOf (length now.state.schema.dims) now.tree pin.root → AreCounted now.state.rows pin.stats → AreContents now
    → IsPin now kept pin
pin_now now kept pin name is from root stats valid =
    let rows : (was_in pin).state.rows ≡ now.state.rows = ap (λ (v : Version). v.rows) is in
    let tree : (was_in pin).tree ≡ now.tree = ap (λ (v : Version). v.tree) is in
    record {
      within = omega (arith, from);
      tree = ap (λ n. with_all_images (drop n kept) now.tree) from
          ∙ ap (λ (k : List ImageMap). with_all_images k now.tree) (drop-length kept) ∙ sym tree;
      root = subst (λ (t : Tree ℕ). IsRootOf (length now.state.schema.dims) t pin.root) (sym tree) root;
      stats = subst (λ (r : List (Row Text)). AreCounted r pin.stats) (sym rows) stats;
      has =
          subst (λ (r : List (Row Text)). HasTree (with_rows now.state r) (was_in pin).tree) (sym rows)
          (subst (HasTree now.state) (sym tree) (record { state = valid.state; canonical = valid.tree }));
    }

-- where there are no pins
pub no_pins : (now : Contents) (kept : List ImageMap) (pins : List Pin) → length pins ≡ 0 → length kept ≡ 0
    → now.images ≡ finmap.empty → ArePins now kept pins
unfolding IsDistinct
no_pins now kept [] none first plain
    = record { each = tt; few = omega arith; distinct = tt; first = first; plain = plain }
no_pins now kept (pin ∷ pins) none first plain = absurd (omega (arith, none))

-- what is found of the versions is what is found of the pins
pub find-map : (pins : List Pin) (name : Text)
    → version_of (map version_in pins) name ≡ option_map version_in (find (has_name name) pins)
find-map [] name = refl
find-map (pin ∷ pins) name = go (has_name name pin) (find-map pins name)
  where
    go : (b : Bool) → version_of (map version_in pins) name ≡ option_map version_in (find (has_name name) pins)
        → cond b (Some (version_in pin)) (version_of (map version_in pins) name) ≡ option_map version_in
        (cond b (Some pin) (find (has_name name) pins))
    go true more = refl
    go false more = more

-- a pin that is found is one of them
pub found_one : (P : Pin → Type 0) (name : Text) (pins : List Pin) (pin : Pin) → find (has_name name) pins ≡ Some pin
    → AllByRecursion P pins → P pin
found_one P name [] pin is are = absurd cc
found_one P name (p ∷ pins) pin is are = go (has_name name p) is (λ rest. found_one P name pins pin rest are.1)
  where
    go : (b : Bool) → cond b (Some p) (find (has_name name) pins) ≡ Some pin
        → (find (has_name name) pins ≡ Some pin → P pin) → P pin
    go true is more = let same : p ≡ pin = cc in subst P same are.0
    go false is more = more is

-- a name that no pin bears
none_bears : (name : Text) (pins : List Pin) → find (has_name name) pins ≡ None
    → AllByRecursion (λ (other : Text). bytes_eq other name ≡ false) (map (λ (pin : Pin). pin.name.bytes) pins)
none_bears name [] none = tt
none_bears name (pin ∷ pins) none = go (has_name name pin) refl none (none_bears name pins)
  where
    go : (b : Bool) → has_name name pin ≡ b → cond b (Some pin) (find (has_name name) pins) ≡ None
        → (find (has_name name) pins ≡ None
        → AllByRecursion (λ (other : Text). bytes_eq other name ≡ false) (map (λ (p : Pin). p.name.bytes) pins))
        → AllByRecursion (λ (other : Text). bytes_eq other name ≡ false)
        (pin.name.bytes ∷ map (λ (p : Pin). p.name.bytes) pins)
    go true is none more = absurd cc
    go false is none more = (is, more none)

all-push : {X : Type 0} (P : X → Type 0) (xs : List X) (x : X) → AllByRecursion P xs → P x
    → AllByRecursion P (xs ++ x ∷ [])
all-push P [] x all here = (here, tt)
all-push P (y ∷ xs) x all here = (all.0, all-push P xs x all.1 here)

distinct-push : (names : List Text) (name : Text) → IsDistinct bytes_eq names
    → AllByRecursion (λ (other : Text). bytes_eq other name ≡ false) names → IsDistinct bytes_eq (names ++ name ∷ [])
unfolding IsDistinct
distinct-push [] name are apart = (tt, tt)
distinct-push (other ∷ names) name are apart
    = (
      all-push (λ (y : Text). bytes_eq other y ≡ false) names name are.0 apart.0,
      distinct-push names name are.1 apart.1,
    )

-- one pin more, of another name
pub one_more : (now : Contents) (kept : List ImageMap) (pins : List Pin) (pin : Pin)
    → find (has_name pin.name.bytes) pins ≡ None → length pins < MAX_PINS → pin.from ≡ length kept → IsPin now kept pin
    → ArePins now kept pins → ArePins now kept (pins ++ pin ∷ [])
one_more now kept pins pin new room from is are = record {
  each = all-push (IsPin now kept) pins pin are.each is;
  few = omega (arith, length-append pins (pin ∷ []), room);
  distinct = subst (IsDistinct bytes_eq) (sym (map-append (λ (p : Pin). p.name.bytes) pins (pin ∷ [])))
      (distinct-push (map (λ (p : Pin). p.name.bytes) pins) pin.name.bytes are.distinct
      (none_bears pin.name.bytes pins new));
  first = omega (arith, least_push (length kept) pins pin from, are.first);
  plain = are.plain;
}

-- some of a list
all-filter : {X : Type 0} (P : X → Type 0) (keeps : X → Bool) (xs : List X) → AllByRecursion P xs
    → AllByRecursion P (filter keeps xs)
all-filter P keeps [] all = tt
all-filter P keeps (x ∷ xs) all = go (keeps x) (all-filter P keeps xs all.1)
  where
    go : (b : Bool) → AllByRecursion P (filter keeps xs)
        → AllByRecursion P (cond b (x ∷ filter keeps xs) (filter keeps xs))
    go true rest = (all.0, rest)
    go false rest = rest

abbrev names : List Pin → List Text
names pins = map (λ (pin : Pin). pin.name.bytes) pins

names-filter : (P : Text → Type 0) (keeps : Pin → Bool) (pins : List Pin) → AllByRecursion P (names pins)
    → AllByRecursion P (names (filter keeps pins))
names-filter P keeps [] all = tt
names-filter P keeps (pin ∷ pins) all = go (keeps pin) (names-filter P keeps pins all.1)
  where
    go : (b : Bool) → AllByRecursion P (names (filter keeps pins))
        → AllByRecursion P (names (cond b (pin ∷ filter keeps pins) (filter keeps pins)))
    go true rest = (all.0, rest)
    go false rest = rest

distinct-filter : (keeps : Pin → Bool) (pins : List Pin) → IsDistinct bytes_eq (names pins)
    → IsDistinct bytes_eq (names (filter keeps pins))
unfolding IsDistinct
distinct-filter keeps [] are = tt
distinct-filter keeps (pin ∷ pins) are
    = go (keeps pin) (names-filter (λ (y : Text). bytes_eq pin.name.bytes y ≡ false) keeps pins are.0)
    (distinct-filter keeps pins are.1)
  where
    go : (b : Bool) → AllByRecursion (λ (y : Text). bytes_eq pin.name.bytes y ≡ false) (names (filter keeps pins))
        → IsDistinct bytes_eq (names (filter keeps pins))
        → IsDistinct bytes_eq (names (cond b (pin ∷ filter keeps pins) (filter keeps pins)))
    go true apart rest = (apart, rest)
    go false apart rest = rest

-- a place from which images before it are gone
module _ (now : Contents) (kept : List ImageMap) (first : ℕ) where
  moved_is : (pin : Pin) → first ≤ pin.from → IsPin now kept pin → IsPin now (drop first kept) (moved_back first pin)
  moved_is pin room is =
      let e : first + (pin.from - first) ≡ pin.from = omega (arith, room) in
      record {
        within = omega (arith, length-drop first kept, is.within, room);
        tree = ap (λ (k : List ImageMap). with_all_images k now.tree) (drop-drop (pin.from - first) first kept
            ∙ ap (λ n. drop n kept) e) ∙ is.tree;
        root = is.root;
        stats = is.stats;
        has = is.has;
      }

  all_moved : (pins : List Pin) → AllByRecursion (λ (pin : Pin). first ≤ pin.from) pins
      → AllByRecursion (IsPin now kept) pins
      → AllByRecursion (IsPin now (drop first kept)) (map (moved_back first) pins)
  all_moved [] room are = tt
  all_moved (pin ∷ pins) room are = (moved_is pin room.0 are.0, all_moved pins room.1 are.1)

none_over : (a b : ℕ) → a ≡ b → b - a ≡ 0
none_over a b same = omega (arith, same)

-- some pins are left, and images before it that they don't read are cut off
pub some_left : (now : Contents) (kept : List ImageMap) (pins : List Pin) (keeps : Pin → Bool) (first : ℕ)
    → first ≡ least_place (length kept) (filter keeps pins)
    → AllByRecursion (λ (pin : Pin). first ≤ pin.from) (filter keeps pins)
    → ArePins now kept pins → ArePins now (drop first kept) (map (moved_back first) (filter keeps pins))
some_left now kept pins keeps first least room are =
    let left = filter keeps pins in
    record {
      each = all_moved now kept first left room (all-filter (IsPin now kept) keeps pins are.each);
      few = omega (
        arith,
        length-map left (moved_back first),
        length-filter_both keeps (λ (pin : Pin). not (keeps pin)) (λ pin. refl) pins,
        are.few,
      );
      distinct = subst (IsDistinct bytes_eq) (sym (map-map (λ (pin : Pin). pin.name.bytes) (moved_back first) left))
          (distinct-filter keeps pins are.distinct);
      first = ap (λ n. least_place n (map (moved_back first) left)) (length-drop first kept)
          ∙ least_back first (length kept) left ∙ none_over first (least_place (length kept) left) least;
      plain = are.plain;
    }

versions-without : (name : Text) (pins : List Pin)
    → map version_in (filter (λ (pin : Pin). not (has_name name pin)) pins) ≡ without (map version_in pins) name
versions-without name [] = refl
versions-without name (pin ∷ pins) = go (not (has_name name pin)) (versions-without name pins)
  where
    go : (b : Bool) → map version_in (filter (λ (p : Pin). not (has_name name p)) pins)
        ≡ without (map version_in pins) name
        → map version_in (cond b (pin ∷ filter (λ (p : Pin). not (has_name name p)) pins)
        (filter (λ (p : Pin). not (has_name name p)) pins))
        ≡ cond b (version_in pin ∷ without (map version_in pins) name) (without (map version_in pins) name)
    go true more = ap (λ (vs : List Version). version_in pin ∷ vs) more
    go false more = more

pub versions_left : (first : ℕ) (name : Text) (pins : List Pin)
    → map version_in (map (moved_back first) (filter (λ (pin : Pin). not (has_name name pin)) pins))
    ≡ without (map version_in pins) name
versions_left first name pins
    = map-map version_in (moved_back first) (filter (λ (pin : Pin). not (has_name name pin)) pins)
    ∙ versions-without name pins

-- what is known of the pins, said of the versions
trees_of : (now : Contents) (kept : List ImageMap) (pins : List Pin) → AllByRecursion (IsPin now kept) pins
    → AllByRecursion (λ (version : Version). HasTree (with_rows now.state version.rows) version.tree)
    (map version_in pins)
trees_of now kept [] are = tt
trees_of now kept (pin ∷ pins) are = (are.0.has, trees_of now kept pins are.1)

pub are_versions : (now : Contents) (kept : List ImageMap) (pins : List Pin) → ArePins now kept pins
    → AreVersions (record { now = now; pins = map version_in pins; stored = kept })
are_versions now kept pins are = record {
  few = omega (arith, length-map pins version_in, are.few);
  distinct = subst (IsDistinct bytes_eq)
      (sym (map-map (λ (version : Version). version.name) version_in pins)) are.distinct;
  trees = trees_of now kept pins are.each;
  plain = are.plain;
}
