-- What is kept of a schema, line by line.
use Rattle.std.proofs.Common.{◌≡◌, ◌<◌, ◌≤◌, ◌+◌, ◌∙◌, ℕ, List, [], ◌∷◌, ◌++◌, length, map, refl, sym, ap, arith, true, false, Bool, cond}
use Rattle.std.proofs.Common.{Result, Ok, Err, append_assoc, subst, Some, None}
use Rattle.std.specs.Prelude.{not, ◌&&◌, ◌==◌, nat_lt, nat_le, codes, Option}
use Rattle.std.specs.List.{list_all, list_any, AllByRecursion}
use Rattle.std.specs.Str.{bytes_eq, all_ascii_digits}
use Rattle.std.specs.Str.Parse.{digits_value}
use Rattle.std.proofs.lemmas.Bool.{and_parts, leb-true, ltb-true, or_parts, not-true}
use Rattle.std.proofs.lemmas.Bool.Decides.{nat_tests}
use Rattle.std.proofs.lemmas.List.{map-append, length_push}
use Rattle.aggregates.specs.Views.{IsThere, same_kind}
use Rattle.aggregates.specs.declared.kind.AggKind.{AggKind}
use Rattle.aggregates.specs.declared.kind.AggKind.TheVariants as kinds
use Rattle.cube_defs.specs.Text.{Text}
use Rattle.cube_defs.specs.declared.limits.TheConstants.{MAX_SCALE}
use Rattle.qc_schema.specs.Schema.{IsLayout, Layout, Measure, all_different, is_name, max_dims, max_measures, names_of, with_dim}
use Rattle.qc_schema.specs.declared.limits.SchemaVersion.{SchemaVersion}
use Rattle.qc_schema.specs.declared.limits.SchemaVersion.TheVariants as versions
use Rattle.qc_schema.specs.Progress.{Progress, Fault, Line}
use Rattle.text_lines.specs.Cuts.{words_of}
use Rattle.text_lines.specs.Lines.{is_comment}
use Rattle.qc_schema.specs.Grammar.{◌>>=◌, and_on, count_kind, dim_line, id_line, in_order, index_line, is_start, is_used, kind_named}
use Rattle.qc_schema.specs.Grammar.{kind_of, limit_in, line_of_words, may_dim, may_end, may_id, may_index, may_measure, may_rows}
use Rattle.qc_schema.specs.Grammar.{may_values, measure_from, measure_line, named_line, new_kind, new_name, nodes_line, one_word}
use Rattle.qc_schema.specs.Grammar.{read_lines, rows_line, scale_in, start, take_line, two_words, values_line, version_in, version_line}
use Rattle.qc_schema.specs.Grammar.{with_version}
use Rattle.qc_schema.specs.declared.reader.LastLine.{LastLine}
use Rattle.qc_schema.specs.declared.reader.LastLine.TheVariants as stages
use Rattle.qc_schema.specs.declared.refusal.SchemaCause.{SchemaCause}
use Rattle.qc_schema.specs.declared.refusal.SchemaCause.TheVariants.{End, Name, Number, Order, Version}
use Rattle.qc_schema.proofs.Widening.{bytes-flip, push-all, push-different, wider}

-- what holds after a line of each kind
abbrev pub AtStage : LastLine → Layout → Type 0
AtStage stages.Start l = l ≡ start.layout
AtStage stages.Qcube l = l ≡ record start.layout { version = l.version }
AtStage stages.Id l = (is_name l.id ≡ true) × (l ≡ record start.layout { version = l.version; id = l.id })
AtStage stages.Dim l = IsLayout l × (l.measures ≡ []) × (l.indexes ≡ [])
AtStage stages.Measure l = IsLayout l × (l.indexes ≡ [])
AtStage stages.Index l = IsLayout l
AtStage stages.Nodes l = IsLayout l
AtStage stages.Rows l = IsLayout l
AtStage stages.Values l = IsLayout l

-- how many dimensions and measures a version may have
pub some-dims-may : (v : SchemaVersion) → 1 ≤ max_dims v
some-dims-may versions.One = omega arith
some-dims-may versions.Two = omega arith

pub max_dims-le : (v : SchemaVersion) → max_dims v ≤ 16
max_dims-le versions.One = omega arith
max_dims-le versions.Two = omega arith

pub max_measures-le : (v : SchemaVersion) → max_measures v ≤ 4
max_measures-le versions.One = omega arith
max_measures-le versions.Two = omega arith

-- a schema has no more dimensions and measures than a cube may have
pub dims-few : (l : Layout) → IsLayout l → length l.dims ≤ 16
dims-few l h = omega (arith, h.few_dims, max_dims-le l.version)

pub measures-few : (l : Layout) → IsLayout l → length l.measures ≤ 4
measures-few l h = omega (arith, h.few_measures, max_measures-le l.version)

pub record Keeps (s : Progress) : Type 0 where
  pub holds : AtStage s.stage s.layout

-- steps of reading
pub bind_ok : {A B : Type 0} (r : Result A SchemaCause) (f : A → Result B SchemaCause) (y : B) → (r >>= f) ≡ Ok y
    → (x : A) × (r ≡ Ok x) × (f x ≡ Ok y)
bind_ok (Ok x) f y e = (x, refl, e)
bind_ok (Err c) f y e = absurd (cc e)

cond_ok : {A : Type 0} (b : Bool) (x y : A) (c : SchemaCause) → cond b (Ok x) (Err c) ≡ Ok y → (b ≡ true) × (x ≡ y)
cond_ok true x y c e = (refl, cc)
cond_ok false x y c e = absurd (cc e)

cond_err : {A : Type 0} (b : Bool) (x y : A) (c : SchemaCause) → cond b (Err c) (Ok x) ≡ Ok y → (b ≡ false) × (x ≡ y)
cond_err true x y c e = absurd (cc e)
cond_err false x y c e = (refl, cc)

-- an element more
push-every : {X : Type 0} (P : X → Type 0) (xs : List X) (y : X) → AllByRecursion P xs → P y
    → AllByRecursion P (xs ++ y ∷ [])
push-every P [] y all h = (h, tt)
push-every P (x ∷ xs) y all h = (all.0, push-every P xs y all.1 h)

pub eq-flip : (m n : ℕ) → (m == n) ≡ false → (n == m) ≡ false
eq-flip m n e = grind (arith, nat_tests)

pub kind-flip : (a b : AggKind) → same_kind a b ≡ false → same_kind b a ≡ false
kind-flip kinds.Count kinds.Count e = e
kind-flip (kinds.Sum m) (kinds.Sum n) e = eq-flip m n e
kind-flip (kinds.Least m) (kinds.Least n) e = eq-flip m n e
kind-flip (kinds.Greatest m) (kinds.Greatest n) e = eq-flip m n e
kind-flip (kinds.Mean m) (kinds.Mean n) e = eq-flip m n e
kind-flip _ _ e = refl

-- what the parts of a line are known to be
in-order : (b : Bool) (x : Unit {0}) → in_order b ≡ Ok x → b ≡ true
in-order true x e = refl
in-order false x e = absurd (cc e)

name-new : (l : Layout) (word name : Text) → new_name l word ≡ Ok name → (is_name name ≡ true)
    × (is_used l name ≡ false)
name-new l word name e =
    let p = cond_ok (is_name word && not (is_used l word)) word name Name e in
    let q = and_parts (is_name word) (not (is_used l word)) p.0 in
    let P : Text → Type 0 = λ x. (is_name x ≡ true) × (is_used l x ≡ false) in
    subst P p.1 (q.0, not-true (is_used l word) q.1)

scale-small : (word : Text) (n : ℕ) → scale_in word ≡ Ok n → n ≤ MAX_SCALE
scale-small word n e =
    let p = cond_ok ((length word == 1) && all_ascii_digits word && nat_le (digits_value 10 word) MAX_SCALE)
    (digits_value 10 word) n Number e in
    let q = and_parts ((length word == 1) && all_ascii_digits word) (nat_le (digits_value 10 word) MAX_SCALE) p.0 in
    omega (arith, p.1, leb-true (digits_value 10 word) MAX_SCALE q.1)

limit-small : (most : ℕ) (word : Text) (n : ℕ) → limit_in most word ≡ Ok n → (1 ≤ n) × (n ≤ most)
limit-small most word n e =
    let p = cond_ok (nat_lt 0 (length word) && nat_le (length word) 7 && all_ascii_digits word
    && nat_lt 0 (digits_value 10 word) && nat_le (digits_value 10 word) most) (digits_value 10 word) n Number e in
    let q = and_parts (nat_lt 0 (length word) && nat_le (length word) 7 && all_ascii_digits word
    && nat_lt 0 (digits_value 10 word)) (nat_le (digits_value 10 word) most) p.0 in
    let r = and_parts (nat_lt 0 (length word) && nat_le (length word) 7 && all_ascii_digits word)
    (nat_lt 0 (digits_value 10 word)) q.0 in (
      omega (arith, p.1, ltb-true 0 (digits_value 10 word) r.1),
      omega (arith, p.1, leb-true (digits_value 10 word) most q.1),
    )

pub measure-there : (ms : List Measure) (k m : ℕ) (name : Text) → measure_from ms k name ≡ Some m → m < k + length ms
measure-there [] k m name e = absurd (cc e)
measure-there (x ∷ xs) k m name e = by (bytes_eq x.name name) e (λ h. measure-there xs (k + 1) m name h)
  where
    by : (b : Bool) → cond b (Some k) (measure_from xs (k + 1) name) ≡ Some m
        → (measure_from xs (k + 1) name ≡ Some m → m < (k + 1) + length xs) → m < k + length (x ∷ xs)
    by true h rest = let same : k ≡ m = cc in omega arith
    by false h rest = omega (arith, rest h)

kind-there : (ms : List Measure) (agg : Text) (o : Option ℕ) (kind : AggKind) → ((m : ℕ) → o ≡ Some m → m < length ms)
    → kind_named agg o ≡ Ok kind → IsThere (length ms) kind
kind-there ms agg None kind h e = absurd (cc e)
kind-there ms agg (Some m) kind h e =
    by (bytes_eq agg (codes "sum")) (bytes_eq agg (codes "least")) (bytes_eq agg (codes "greatest"))
    (bytes_eq agg (codes "mean")) e
  where
    by : (a b c d : Bool) → cond a (Ok (kinds.Sum m))
        (cond b (Ok (kinds.Least m)) (cond c (Ok (kinds.Greatest m)) (cond d (Ok (kinds.Mean m)) (Err Name)))) ≡ Ok kind
        → IsThere (length ms) kind
    by true b c d e = let same : kinds.Sum m ≡ kind = cc in subst (IsThere (length ms)) same (h m refl)
    by false true c d e = let same : kinds.Least m ≡ kind = cc in subst (IsThere (length ms)) same (h m refl)
    by false false true d e = let same : kinds.Greatest m ≡ kind = cc in subst (IsThere (length ms)) same (h m refl)
    by false false false true e = let same : kinds.Mean m ≡ kind = cc in subst (IsThere (length ms)) same (h m refl)
    by false false false false e = absurd (cc e)

count-there : (n : ℕ) (words : List Text) (kind : AggKind) → count_kind words ≡ Ok kind → IsThere n kind
count-there n [] kind e = let same : kinds.Count ≡ kind = cc in subst (IsThere n) same tt
count-there n (w ∷ ws) kind e = absurd (cc e)

kind-of-there : (ms : List Measure) (words : List Text) (kind : AggKind) → kind_of ms words ≡ Ok kind
    → IsThere (length ms) kind
unfolding kind_of
kind-of-there ms [] kind e = absurd (cc e)
kind-of-there ms (agg ∷ words) kind e = by (bytes_eq agg (codes "count")) e
  where
    by : (b : Bool) → cond b (count_kind words) (one_word words >>= λ name. kind_named agg (measure_from ms 0 name))
        ≡ Ok kind → IsThere (length ms) kind
    by true h = count-there (length ms) words kind h
    by false h =
        let p = bind_ok (one_word words) (λ name. kind_named agg (measure_from ms 0 name)) kind h in
        kind-there ms agg (measure_from ms 0 p.0) kind (λ m is. omega (arith, measure-there ms 0 m p.0 is)) p.2

-- the layouts that the lines leave
first-dim : (version : SchemaVersion) (id name : Text) → is_name id ≡ true → is_name name ≡ true
    → is_used (record start.layout { version = version; id = id }) name ≡ false
    → IsLayout (record start.layout { version = version; id = id; dims = name ∷ [] })
first-dim version id name i n u = record {
  some_dims = omega arith;
  few_dims = some-dims-may version;
  few_measures = omega arith;
  scales = tt;
  names = rw (i, n) refl;
  different_names = rw (bytes-flip id name (or_parts (bytes_eq id name) false u).0) refl;
  indexes = tt;
  different_indexes = refl;
  limits = record {
    some_nodes = omega arith;
    few_nodes = omega arith;
    some_rows = omega arith;
    few_rows
        = omega arith;
    some_values = omega arith;
    few_values = omega arith;
  };
}

next-dim : (l : Layout) (name : Text) → IsLayout l → length l.dims < max_dims l.version → is_name name ≡ true
    → is_used l name ≡ false → IsLayout (with_dim l name)
next-dim l name h few n u = wider l name h few (rw (n, u) refl)

more-names : (l : Layout) (m : Measure) → names_of (record l { measures = l.measures ++ m ∷ [] }) ≡ names_of l
    ++ m.name ∷ []
more-names l m = ap (λ xs. l.id ∷ (l.dims ++ xs)) (map-append (λ x. x.name) l.measures (m ∷ []))
    ∙ ap (λ xs. l.id ∷ xs) (sym (append_assoc l.dims (map (λ x. x.name) l.measures) (m.name ∷ [])))

next-measure : (l : Layout) (m : Measure) → IsLayout l → l.indexes ≡ [] → length l.measures < max_measures l.version
    → m.scale ≤ MAX_SCALE → is_name m.name ≡ true → is_used l m.name ≡ false
    → IsLayout (record l { measures = l.measures ++ m ∷ [] })
next-measure l m h none few small n u = record {
  some_dims = h.some_dims;
  few_dims = h.few_dims;
  few_measures = omega (arith, length_push l.measures m);
  scales = push-every (λ m. m.scale ≤ MAX_SCALE) l.measures m h.scales small;
  names = ap (list_all is_name) (more-names l m) ∙ push-all is_name (names_of l) m.name h.names n;
  different_names = ap (all_different bytes_eq) (more-names l m)
      ∙ push-different bytes_eq bytes-flip (names_of l) m.name h.different_names u;
  indexes = rw none tt;
  different_indexes = h.different_indexes;
  limits = h.limits;
}

next-index : (l : Layout) (kind : AggKind) → IsLayout l → IsThere (length l.measures) kind
    → list_any (λ k. same_kind k kind) l.indexes ≡ false → IsLayout (record l { indexes = l.indexes ++ kind ∷ [] })
next-index l kind h there fresh = record {
  some_dims = h.some_dims;
  few_dims = h.few_dims;
  few_measures = h.few_measures;
  scales = h.scales;
  names = h.names;
  different_names = h.different_names;
  indexes = push-every (IsThere (length l.measures)) l.indexes kind h.indexes there;
  different_indexes = push-different same_kind kind-flip l.indexes kind h.different_indexes fresh;
  limits = h.limits;
}

with-limits : (l : Layout) (nodes rows values : ℕ) → IsLayout l → (1 ≤ nodes) × (nodes ≤ 4000000) → (1 ≤ rows)
    × (rows ≤ 1000000) → (1 ≤ values) × (values ≤ 4000000)
    → IsLayout (record l { nodes = nodes; rows = rows; values = values })
with-limits l nodes rows values h n r v = record {
  some_dims = h.some_dims;
  few_dims = h.few_dims;
  few_measures = h.few_measures;
  scales = h.scales;
  names = h.names;
  different_names = h.different_names;
  indexes = h.indexes;
  different_indexes = h.different_indexes;
  limits = record {
    some_nodes = n.0;
    few_nodes = n.1;
    some_rows = r.0;
    few_rows = r.1;
    some_values
        = v.0;
    few_values = v.1;
  };
}

-- what stands after a dimension is a layout
layout-after : (stage : LastLine) (l : Layout) → may_end stage ≡ true → AtStage stage l → IsLayout l
layout-after stages.Start l may h = absurd (cc may)
layout-after stages.Qcube l may h = absurd (cc may)
layout-after stages.Id l may h = absurd (cc may)
layout-after stages.Dim l may h = h.0
layout-after stages.Measure l may h = h.0
layout-after _ l may h = h

from-index : (stage : LastLine) → may_index stage ≡ true → may_rows stage ≡ true
from-index stages.Nodes may = refl
from-index stages.Dim may = refl
from-index stages.Measure may = refl
from-index stages.Index may = refl
from-index _ may = absurd (cc may)

from-rows : (stage : LastLine) → may_rows stage ≡ true → may_values stage ≡ true
from-rows stages.Start may = absurd (cc may)
from-rows stages.Qcube may = absurd (cc may)
from-rows stages.Id may = absurd (cc may)
from-rows stages.Values may = absurd (cc may)
from-rows _ may = refl

from-values : (stage : LastLine) → may_values stage ≡ true → may_end stage ≡ true
from-values stages.Values may = refl
from-values _ may = may

-- the lines
keeps-id : (stage : LastLine) (l : Layout) (name : Text) → may_id stage ≡ true → AtStage stage l → is_name name ≡ true
    → AtStage stages.Id (record l { id = name })
keeps-id stages.Qcube l name may h n = (n, ap (λ (x : Layout). record x { id = name }) h)
keeps-id _ l name may h n = absurd (cc may)

keeps-dim : (stage : LastLine) (l : Layout) (name : Text) → may_dim stage ≡ true → AtStage stage l
    → length l.dims < max_dims l.version → is_name name ≡ true → is_used l name ≡ false
    → AtStage stages.Dim (record l { dims = l.dims ++ name ∷ [] })
keeps-dim stages.Id l name may h few n u =
    let P : Layout → Type 0 = λ x. is_used x name ≡ false
    → AtStage stages.Dim (record x { dims = x.dims ++ name ∷ [] }) in
    subst P (sym h.1) (λ v. (first-dim l.version l.id name h.0 n v, refl, refl)) u
keeps-dim stages.Dim l name may h few n u = (next-dim l name h.0 few n u, h.1, h.2)
keeps-dim _ l name may h few n u = absurd (cc may)

keeps-measure : (stage : LastLine) (l : Layout) (m : Measure) → may_measure stage ≡ true → AtStage stage l
    → length l.measures < max_measures l.version → m.scale ≤ MAX_SCALE → is_name m.name ≡ true
    → is_used l m.name ≡ false → AtStage stages.Measure (record l { measures = l.measures ++ m ∷ [] })
keeps-measure stages.Dim l m may h few small n u = (next-measure l m h.0 h.2 few small n u, h.2)
keeps-measure stages.Measure l m may h few small n u = (next-measure l m h.0 h.1 few small n u, h.1)
keeps-measure _ l m may h few small n u = absurd (cc may)

as-state : (s t : Progress) → s ≡ t → AtStage s.stage s.layout → Keeps t
as-state s t same h = subst Keeps same (record { holds = h })

id-kept : (s t : Progress) (words : List Text) → Keeps s → id_line s words ≡ Ok t → Keeps t
unfolding id_line
id-kept s t words k e =
    let a = bind_ok (in_order (may_id s.stage)) _ t e in
    let b = bind_ok (one_word words) _ t a.2 in
    let c = bind_ok (new_name s.layout b.0) _ t b.2 in
    let n = name-new s.layout b.0 c.0 c.1 in
    let same : record { stage = stages.Id; layout = record s.layout { id = c.0 } } ≡ t = cc (c.2) in
    as-state _ t same (keeps-id s.stage s.layout c.0 (in-order _ _ a.1) k.holds n.0)

dim-kept : (s t : Progress) (words : List Text) → Keeps s → dim_line s words ≡ Ok t → Keeps t
unfolding dim_line
dim-kept s t words k e =
    let a = bind_ok (in_order (may_dim s.stage && nat_lt (length s.layout.dims) (max_dims s.layout.version))) _ t e in
    let b = bind_ok (one_word words) _ t a.2 in
    let c = bind_ok (new_name s.layout b.0) _ t b.2 in
    let n = name-new s.layout b.0 c.0 c.1 in
    let may = and_parts (may_dim s.stage) (nat_lt (length s.layout.dims) (max_dims s.layout.version))
    (in-order _ _ a.1) in
    let same : record { stage = stages.Dim; layout = record s.layout { dims = s.layout.dims ++ c.0 ∷ [] } } ≡ t
    = cc (c.2) in
    as-state _ t same (keeps-dim s.stage s.layout c.0 may.0 k.holds
    (ltb-true (length s.layout.dims) (max_dims s.layout.version) may.1) n.0 n.1)

measure-kept : (s t : Progress) (words : List Text) → Keeps s → measure_line s words ≡ Ok t → Keeps t
unfolding measure_line
measure-kept s t words k e =
    let a = bind_ok (in_order
    (may_measure s.stage && nat_lt (length s.layout.measures) (max_measures s.layout.version))) _ t e in
    let b = bind_ok (two_words words) _ t a.2 in
    let c = bind_ok (new_name s.layout b.0.0) _ t b.2 in
    let d = bind_ok (scale_in b.0.1) _ t c.2 in
    let n = name-new s.layout b.0.0 c.0 c.1 in
    let may = and_parts (may_measure s.stage) (nat_lt (length s.layout.measures) (max_measures s.layout.version))
    (in-order _ _ a.1) in
    let same : record {
      stage = stages.Measure;
      layout
          = record s.layout { measures = s.layout.measures ++ (record { name = c.0; scale = d.0 }) ∷ [] };
    } ≡ t
    = cc (d.2) in
    as-state _ t same (keeps-measure s.stage s.layout (record { name = c.0; scale = d.0 }) may.0 k.holds
    (ltb-true (length s.layout.measures) (max_measures s.layout.version) may.1) (scale-small b.0.1 d.0 d.1) n.0 n.1)

index-kept : (s t : Progress) (words : List Text) → Keeps s → index_line s words ≡ Ok t → Keeps t
unfolding index_line
index-kept s t words k e =
    let a = bind_ok (in_order (may_index s.stage)) _ t e in
    let b = bind_ok (kind_of s.layout.measures words) _ t a.2 in
    let c = bind_ok (new_kind s.layout b.0) _ t b.2 in
    let p = cond_err (list_any (λ k. same_kind k b.0) s.layout.indexes) b.0 c.0 Name c.1 in
    let there : IsThere (length s.layout.measures) b.0 = kind-of-there s.layout.measures words b.0 b.1 in
    let whole : IsLayout s.layout
    = layout-after s.stage s.layout
    (from-values s.stage (from-rows s.stage (from-index s.stage (in-order _ _ a.1)))) k.holds in
    let same : record { stage = stages.Index; layout = record s.layout { indexes = s.layout.indexes ++ c.0 ∷ [] } } ≡ t
    = cc (c.2) in
    let first : record { stage = stages.Index; layout = record s.layout { indexes = s.layout.indexes ++ b.0 ∷ [] } }
    ≡ record { stage = stages.Index; layout = record s.layout { indexes = s.layout.indexes ++ c.0 ∷ [] } } =
    ap (λ (x : AggKind). let r : Progress
    = record { stage = stages.Index; layout = record s.layout { indexes = s.layout.indexes ++ x ∷ [] } } in
    r) p.1 in
    as-state _ t (first ∙ same) (next-index s.layout b.0 whole there p.0)

nodes-kept : (s t : Progress) (words : List Text) → Keeps s → nodes_line s words ≡ Ok t → Keeps t
unfolding nodes_line
nodes-kept s t words k e =
    let a = bind_ok (in_order (may_index s.stage)) _ t e in
    let b = bind_ok (one_word words) _ t a.2 in
    let c = bind_ok (limit_in 4000000 b.0) _ t b.2 in
    let whole : IsLayout s.layout
    = layout-after s.stage s.layout
    (from-values s.stage (from-rows s.stage (from-index s.stage (in-order _ _ a.1)))) k.holds in
    let same : record { stage = stages.Nodes; layout = record s.layout { nodes = c.0 } } ≡ t = cc (c.2) in
    as-state _ t same (with-limits s.layout c.0 s.layout.rows s.layout.values whole (limit-small 4000000 b.0 c.0 c.1)
    (whole.limits.some_rows, whole.limits.few_rows) (whole.limits.some_values, whole.limits.few_values))

rows-kept : (s t : Progress) (words : List Text) → Keeps s → rows_line s words ≡ Ok t → Keeps t
unfolding rows_line
rows-kept s t words k e =
    let a = bind_ok (in_order (may_rows s.stage)) _ t e in
    let b = bind_ok (one_word words) _ t a.2 in
    let c = bind_ok (limit_in 1000000 b.0) _ t b.2 in
    let whole : IsLayout s.layout
    = layout-after s.stage s.layout (from-values s.stage (from-rows s.stage (in-order _ _ a.1))) k.holds in
    let same : record { stage = stages.Rows; layout = record s.layout { rows = c.0 } } ≡ t = cc (c.2) in
    as-state _ t same (with-limits s.layout s.layout.nodes c.0 s.layout.values whole (
      whole.limits.some_nodes,
      whole.limits.few_nodes,
    ) (limit-small 1000000 b.0 c.0 c.1) (whole.limits.some_values, whole.limits.few_values))

values-kept : (s t : Progress) (words : List Text) → Keeps s → values_line s words ≡ Ok t → Keeps t
unfolding values_line
values-kept s t words k e =
    let a = bind_ok (in_order (may_values s.stage)) _ t e in
    let b = bind_ok (one_word words) _ t a.2 in
    let c = bind_ok (limit_in 4000000 b.0) _ t b.2 in
    let whole : IsLayout s.layout = layout-after s.stage s.layout (from-values s.stage (in-order _ _ a.1)) k.holds in
    let same : record { stage = stages.Values; layout = record s.layout { values = c.0 } } ≡ t = cc (c.2) in
    as-state _ t same (with-limits s.layout s.layout.nodes s.layout.rows c.0 whole (
      whole.limits.some_nodes,
      whole.limits.few_nodes,
    ) (whole.limits.some_rows, whole.limits.few_rows) (limit-small 4000000 b.0 c.0 c.1))

named-kept : (s t : Progress) (word : Text) (words : List Text) → Keeps s → named_line s word words ≡ Ok t → Keeps t
unfolding named_line
named-kept s t word words k e =
    by (bytes_eq word (codes "id")) (bytes_eq word (codes "dim")) (bytes_eq word (codes "measure"))
    (bytes_eq word (codes "index")) (bytes_eq word (codes "nodes")) (bytes_eq word (codes "rows"))
    (bytes_eq word (codes "values")) e
  where
    by : (a b c d e f g : Bool)
        → cond a (id_line s words)
        (cond b (dim_line s words)
        (cond c (measure_line s words)
        (cond d (index_line s words)
        (cond e (nodes_line s words) (cond f (rows_line s words) (cond g (values_line s words) (Err Order))))))) ≡ Ok t
        → Keeps t
    by true b c d e f g h = id-kept s t words k h
    by false true c d e f g h = dim-kept s t words k h
    by false false true d e f g h = measure-kept s t words k h
    by false false false true e f g h = index-kept s t words k h
    by false false false false true f g h = nodes-kept s t words k h
    by false false false false false true g h = rows-kept s t words k h
    by false false false false false false true h = values-kept s t words k h
    by false false false false false false false h = absurd (cc h)

at-start : (stage : LastLine) (l : Layout) → is_start stage ≡ true → AtStage stage l → l ≡ start.layout
at-start stages.Start l is h = h
at-start _ l is h = absurd (cc is)

version-kept : (s t : Progress) (word : Text) (words : List Text) → is_start s.stage ≡ true → Keeps s
    → version_line s word words ≡ Ok t → Keeps t
unfolding version_line
version-kept s t word words is k e = by (bytes_eq word (codes "qcube")) (version_in words) e
  where
    by : (b : Bool) (version : Option SchemaVersion) → cond b (with_version s version) (Err Version) ≡ Ok t → Keeps t
    by true (Some version) h =
        let same : record { stage = stages.Qcube; layout = record s.layout { version = version } } ≡ t = cc in
        as-state _ t same (ap (λ (l : Layout). record l { version = version }) (at-start s.stage s.layout is k.holds))
    by true None h = absurd (cc h)
    by false version h = absurd (cc h)

words-kept : (s t : Progress) (words : List Text) → Keeps s → line_of_words s words ≡ Ok t → Keeps t
words-kept s t [] k e = let same : s ≡ t = cc in subst Keeps same k
words-kept s t (word ∷ words) k e = by (is_start s.stage) refl e
  where
    by : (b : Bool) → is_start s.stage ≡ b
        → cond b (version_line s word words) (named_line s word words) ≡ Ok t → Keeps t
    by true is h = version-kept s t word words is k h
    by false is h = named-kept s t word words k h

pub line-kept : (s t : Progress) (line : List ℕ) → Keeps s → take_line s line ≡ Ok t → Keeps t
unfolding take_line
line-kept s t line k e = by (is_comment line) e
  where
    by : (b : Bool) → cond b (Ok s) (line_of_words s (words_of line)) ≡ Ok t → Keeps t
    by true h = let same : s ≡ t = cc in subst Keeps same k
    by false h = words-kept s t (words_of line) k h

and-on-ok : (n : ℕ) (r : Result Progress SchemaCause) (others : Progress → Result Layout Fault) (l : Layout)
    → and_on n r others ≡ Ok l → (t : Progress) × (r ≡ Ok t) × (others t ≡ Ok l)
and-on-ok n (Ok t) others l e = (t, refl, e)
and-on-ok n (Err c) others l e = absurd (cc e)

end-ok : (b : Bool) (x y : Layout) (f : Fault) → cond b (Ok x) (Err f) ≡ Ok y → (b ≡ true) × (x ≡ y)
end-ok true x y f e = (refl, cc)
end-ok false x y f e = absurd (cc e)

pub read-layout : (lines : List (List ℕ)) (n : ℕ) (s : Progress) (l : Layout) → Keeps s
    → read_lines lines n s ≡ Ok l → IsLayout l
unfolding read_lines
read-layout [] n s l k e =
    let p = end-ok (may_end s.stage) s.layout l (Line n End) e in
    subst IsLayout p.1 (layout-after s.stage s.layout p.0 k.holds)
read-layout (line ∷ lines) n s l k e =
    let p = and-on-ok n (take_line s line) (λ t. read_lines lines (n + 1) t) l e in
    read-layout lines (n + 1) p.0 l (line-kept s p.0 line k p.1) p.2

pub start-kept : Keeps start
start-kept = record { holds = refl }

few-at : (stage : LastLine) (l : Layout) → AtStage stage l → length l.measures ≤ 4
few-at stages.Start l h = omega (arith, ap (λ (x : Layout). length x.measures) h)
few-at stages.Qcube l h = omega (arith, ap (λ (x : Layout). length x.measures) h)
few-at stages.Id l h = omega (arith, ap (λ (x : Layout). length x.measures) h.1)
few-at stages.Dim l h = measures-few l h.0
few-at stages.Measure l h = measures-few l h.0
few-at _ l h = measures-few l h

pub few-kept : (s : Progress) → Keeps s → length s.layout.measures ≤ 4
few-kept s k = few-at s.stage s.layout k.holds
