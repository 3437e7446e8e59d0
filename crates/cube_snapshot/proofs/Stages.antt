-- A snapshot read part by part.
use Rattle.std.proofs.Common.{◌≡◌, ◌∙◌, ℕ, List, [], ◌∷◌, ◌==◌, Option, None, Some, ap, arith, eqb-true, false, length, refl, subst, sym}
use Rattle.std.proofs.Common.{true, true≢false}
use Rattle.std.specs.Prelude.{Err, IfOk, Ok, Result}
use Rattle.base_table.specs.Places.{Places, rows_of}
use Rattle.value_dict.specs.TextLists.{TextLists}
use Rattle.std.specs.List.{All}
use Rattle.std.specs.Option.{option_map, option_and_then}
use Rattle.cube_defs.specs.Rows.{Row}
use Rattle.cube_defs.specs.Text.{Text}
use Rattle.qc_schema.specs.Schema.{IsLayout, Layout}
use Rattle.cube_snapshot.specs.Format.{Format, then_format, only, repeated, whole}
use Rattle.cube_snapshot.specs.Parts.{rows, texts}
use Rattle.cube_snapshot.specs.Readers.{AreAllowed, AreWithin, MayFollowSchema, MayBeRows, Reads, Refuses, parts_made}
use Rattle.cube_snapshot.specs.Snapshot.{Parts, Sequence, texts_and_rows, mark, parts_of, schema, snapshot}
use Rattle.cube_snapshot.specs.declared.refused.PartRefused.{PartRefused}
use Rattle.cube_snapshot.specs.declared.refused.PartRefused.TheVariants.{Form, Memory}
use Rattle.cube_snapshot.proofs.FormatLaws.{bind_some, map_some}
use Rattle.cube_snapshot.proofs.Looping.{some_is}

abbrev Behind : Type 0
Behind = List (List Text) × List (Row ℕ)

abbrev finished : Option (Sequence × List ℕ) → Option Parts
finished o = only snapshot
    (option_and_then (λ (p : Sequence × List ℕ). option_map (λ (y : Parts). (y, p.1)) (Some (parts_of p.0))) o)

-- what follows from what is read of the mark, and from what is read of the schema after it
abbrev from_mark : Option (Unit {0} × List ℕ) → Option Parts
from_mark o = finished (option_and_then
    (λ (p : Unit {0} × List ℕ). option_map (λ (q : (Layout × Behind) × List ℕ). ((p.0, q.0), q.1))
    ((then_format schema texts_and_rows).get p.1)) o)

abbrev from_schema : Option (Layout × List ℕ) → Option Parts
from_schema o =
    finished (option_map (λ (q : (Layout × Behind) × List ℕ). ((tt, q.0), q.1))
    (option_and_then (λ (p : Layout × List ℕ). option_map (λ (q : Behind × List ℕ). ((p.0, q.0), q.1))
    ((texts_and_rows p.0).get p.1)) o))

abbrev pub with_schema : Layout → List (List Text) × List (Row ℕ) → Parts
with_schema layout q = record { schema = layout; texts = q.0; rows = q.1 }

from_after : (l : Layout) (o : Option (Behind × List ℕ))
    → finished (option_map (λ (q : (Layout × Behind) × List ℕ). ((tt, q.0), q.1))
    (option_map (λ (q : Behind × List ℕ). ((l, q.0), q.1)) o)) ≡ option_map (with_schema l)
    (only (texts_and_rows l) o)
from_after l None = refl
from_after l (Some (q, [])) = refl
from_after l (Some (q, b ∷ rest)) = refl

pub no_mark : (bytes : List ℕ) → mark.get bytes ≡ None → whole snapshot bytes ≡ None
no_mark bytes e = ap from_mark e

pub staged : (bytes rest more : List ℕ) (l : Layout) → mark.get bytes ≡ Some (tt, rest)
    → schema.get rest ≡ Some (l, more)
    → whole snapshot bytes ≡ option_map (with_schema l) (whole (texts_and_rows l) more)
staged bytes rest more l e f = ap from_mark e ∙ ap from_schema f ∙ from_after l ((texts_and_rows l).get more)

-- a refusal of what is read first refuses the whole, where what the whole has is had from it
refuse_by : {Y Z : Type 0} (P : Y → Type 0) (Q : Z → Type 0) (e : PartRefused) (read : Option Y) (read' : Option Z)
    → ((z : Z) → read' ≡ Some z → Q z → (y : Y) × (read ≡ Some y) × P y) → Refuses P e read → Refuses Q e read'
refuse_by P Q Form read read' from refused = λ z is allowed. let y = from z is allowed in refused y.0 y.1 y.2
refuse_by P Q Memory read read' from refused = tt

pub refuse_none : {Y : Type 0} (P : Y → Type 0) (read : Option Y) → read ≡ None → Refuses P Form read
refuse_none P read none = λ y is allowed. let bad = sym none ∙ is in cc

only_some : {X : Type 0} (a : Format X) (o : Option (X × List ℕ)) (x : X) → only a o ≡ Some x → o ≡ Some (x, [])
only_some a None x e = cc
only_some a (Some (y, [])) x e = let same : y ≡ x = cc in ap (λ z. Some (z, [])) same
only_some a (Some (y, b ∷ rest)) x e = cc

-- the texts and the rows after it
module _ (l : Layout) (bytes : List ℕ) where
  abbrev lists_read : Option (List (List Text) × List ℕ)
  lists_read = (repeated texts (length l.dims)).get bytes

  abbrev then_rows : Option (List (List Text) × List ℕ) → Option ((List (List Text) × List (Row ℕ)) × List ℕ)
  then_rows o = option_and_then
      (λ p. option_map (λ q. ((p.0, q.0), q.1)) ((rows (length l.dims) (length l.measures)).get p.1)) o

  both : (z : List (List Text) × List (Row ℕ)) → whole (texts_and_rows l) bytes ≡ Some z
      → (p : List (List Text) × List ℕ) × (lists_read ≡ Some p)
      × ((rows (length l.dims) (length l.measures)).get p.1 ≡ Some (z.1, [])) × (p.0 ≡ z.0)
  both z e =
      let f = only_some (texts_and_rows l) ((texts_and_rows l).get bytes) z e in
      let p = bind_some lists_read
      (λ p. option_map (λ q. ((p.0, q.0), q.1)) ((rows (length l.dims) (length l.measures)).get p.1)) (z, []) f in
      let q = map_some ((rows (length l.dims) (length l.measures)).get p.0.1) (λ q. ((p.0.0, q.0), q.1)) (z, []) p.2 in
      let lists : p.0.0 ≡ z.0 = ap (λ (x : (List (List Text) × List (Row ℕ)) × List ℕ). x.0.0) q.2 in
      let list : q.0 ≡ (z.1, []) = (λ j. ((q.2 j).0.1, (q.2 j).1)) in
      (p.0, p.1, q.1 ∙ ap (λ (x : List (Row ℕ) × List ℕ). Some x) list, lists)

  pub after_found : (lists : List (List Text)) (rest : List ℕ) (list : List (Row ℕ)) → lists_read ≡ Some (lists, rest)
      → (rows (length l.dims) (length l.measures)).get rest ≡ Some (list, [])
      → whole (texts_and_rows l) bytes ≡ Some (lists, list)
  after_found lists rest list e f = ap (λ o. only (texts_and_rows l) (then_rows o)) e
      ∙ ap (λ o. only (texts_and_rows l) (option_map (λ q. ((lists, q.0), q.1)) o)) f

  pub after_more : (lists : List (List Text)) (rest : List ℕ) (list : List (Row ℕ)) (b : ℕ) (more : List ℕ)
      → lists_read ≡ Some (lists, rest) → (rows (length l.dims) (length l.measures)).get rest ≡ Some (list, b ∷ more)
      → whole (texts_and_rows l) bytes ≡ None
  after_more lists rest list b more e f = ap (λ o. only (texts_and_rows l) (then_rows o)) e
      ∙ ap (λ o. only (texts_and_rows l) (option_map (λ q. ((lists, q.0), q.1)) o)) f

  pub after_not_done : (lists : List (List Text)) (rest : List ℕ) (list : List (Row ℕ)) (more : List ℕ)
      → lists_read ≡ Some (lists, rest) → (rows (length l.dims) (length l.measures)).get rest ≡ Some (list, more)
      → (length more == 0) ≡ false
      → whole (texts_and_rows l) bytes ≡ None
  after_not_done lists rest list [] e f left = absurd (true≢false left)
  after_not_done lists rest list (b ∷ more) e f left = after_more lists rest list b more e f

  pub after_done : (lists : List (List Text)) (rest : List ℕ) (list : List (Row ℕ)) (more : List ℕ)
      → lists_read ≡ Some (lists, rest) → (rows (length l.dims) (length l.measures)).get rest ≡ Some (list, more)
      → (length more == 0) ≡ true
      → whole (texts_and_rows l) bytes ≡ Some (lists, list)
  after_done lists rest list [] e f left = after_found lists rest list e f
  after_done lists rest list (b ∷ more) e f left = absurd (omega (arith, eqb-true (length (b ∷ more)) 0 left))

  pub refuse_lists : (e : PartRefused) → Refuses (λ y. All (AreAllowed l.values) y.0) e lists_read
      → Refuses (MayFollowSchema l) e (whole (texts_and_rows l) bytes)
  refuse_lists e = refuse_by (λ y. All (AreAllowed l.values) y.0) (MayFollowSchema l) e lists_read
      (whole (texts_and_rows l) bytes)
      (λ z is may. let p = both z is in (p.0, p.1, subst (All (AreAllowed l.values)) (sym p.3) may.0))

  pub refuse_rows : (lists : List (List Text)) (rest : List ℕ) (e : PartRefused) → lists_read ≡ Some (lists, rest)
      → Refuses (λ y. MayBeRows lists l.rows y.0) e ((rows (length l.dims) (length l.measures)).get rest)
      → Refuses (MayFollowSchema l) e (whole (texts_and_rows l) bytes)
  refuse_rows lists rest e found
      = refuse_by (λ y. MayBeRows lists l.rows y.0) (MayFollowSchema l) e
      ((rows (length l.dims) (length l.measures)).get rest) (whole (texts_and_rows l) bytes)
      (λ z is may.
      let p = both z is in
      let same : (lists, rest) ≡ p.0 = some_is (lists, rest) p.0 (sym found ∙ p.1) in (
        (z.1, []),
        ap (λ (x : List (List Text) × List ℕ). (rows (length l.dims) (length l.measures)).get x.1) same ∙ p.2,
        subst (λ (ls : List (List Text)). MayBeRows ls l.rows z.1) (sym p.3
            ∙ sym (ap (λ (x : List (List Text) × List ℕ). x.0) same)) may.1,
      ))

-- the whole
pub refuse_parts : (bytes rest more : List ℕ) (l : Layout) (e : PartRefused) → mark.get bytes ≡ Some (tt, rest)
    → schema.get rest ≡ Some (l, more) → Refuses (MayFollowSchema l) e (whole (texts_and_rows l) more)
    → Refuses AreWithin e (whole snapshot bytes)
refuse_parts bytes rest more l e f g
    = refuse_by (MayFollowSchema l) AreWithin e (whole (texts_and_rows l) more) (whole snapshot bytes)
    (λ z is within.
    let p = map_some (whole (texts_and_rows l) more) (with_schema l) z (sym (staged bytes rest more l f g) ∙ is) in
    (p.0, p.1, subst (λ (x : Parts). MayFollowSchema x.schema (x.texts, x.rows)) (sym p.2) within.1))

pub reads_parts : (bytes rest more : List ℕ) (l : Layout) (r : Result (Layout × TextLists × Places) PartRefused)
    → mark.get bytes ≡ Some (tt, rest) → schema.get rest ≡ Some (l, more) → IsLayout l
    → Reads (MayFollowSchema l) (λ made. (made.1.lists, rows_of made.2)) r (whole (texts_and_rows l) more)
    → IfOk r (λ made. made.0 ≡ l)
    → Reads AreWithin (λ made. parts_made made.0 made.1 made.2) r (whole snapshot bytes)
reads_parts bytes rest more l (Ok made) e f layout reads same = (
  staged bytes rest more l e f ∙ ap (option_map (with_schema l)) reads.0
      ∙ ap (λ (k : Layout). Some (parts_made k made.1 made.2)) (sym same),
  subst (λ (k : Layout). AreWithin (parts_made k made.1 made.2)) (sym same) (layout, reads.1),
)
reads_parts bytes rest more l (Err refused) e f layout reads same = refuse_parts bytes rest more l refused e f reads
