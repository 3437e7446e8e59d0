-- The codes of the values that fields ask for.
use Rattle.std.proofs.Common.{◌≡◌, ◌⊎◌, inl, inr, ℕ, zero, suc, ◌+◌, ◌<◌, ◌≤◌, Bool, true, false, cond, Option, Some, None, List, [], ◌∷◌}
use Rattle.std.proofs.Common.{◌++◌, map, filter, length, take, get_or, refl, sym, ap, ap₂, subst, ◌∙◌, arith, lt-ltb}
use Rattle.std.specs.List.Sorted.{IsStrictlySortedBy}
use Rattle.std.specs.Cmp.{IsTotalOrder, nat_cmp_total}
use Rattle.std.specs.Cmp.Lexicographic.{bytes_decides, lists_total}
use Rattle.std.specs.FinMap.{IsAntisymmetric, nat_cmp-IsAntisymmetric, slice_cmp-IsAntisymmetric}
use Rattle.std.specs.List.{All, AllByRecursion, list_any}
use Rattle.std.specs.Option.{option_map}
use Rattle.std.specs.Str.{bytes_eq}
use Rattle.std.specs.Prelude.{IfSome, Vec}
use Rattle.std.specs.declared.alloc.Global.{Global}
use Rattle.std.proofs.lemmas.List.{append-nil, get_or_default, map-append}
use Rattle.std.proofs.lemmas.List.Elements.{All-get_or, filter_more}
use Rattle.std.proofs.lemmas.List.Quantifiers.{position-Some}
use Rattle.std.proofs.lemmas.Bool.{cases_lt, ltb-true}
use Rattle.std.proofs.Math.ListN.{get_or-append}
use Rattle.std.proofs.Math.Seq.{get_or-append_seam}
use Rattle.cube_defs.specs.Text.{Text, text_cmp}
use Rattle.cube_defs.specs.Tree.{distinct}
use Rattle.cube_defs.specs.Answers.{Box}
use Rattle.cube_laws.specs.Lists.{Among}
use Rattle.cube_laws.specs.Recoding.{BoxIsKnown, coded_box, known_box}
use Rattle.cube_laws.proofs.CallerLemmas.{among_distinct, rises_distinct, rises-filter, all_from, filter_all, filter_among, contains_among}
use Rattle.cube_defs.specs.declared.limits.TheConstants.{MAX_CODES}
use Rattle.cell_core.specs.Entry.{IsCode}
use Rattle.cell_core.specs.declared.fields.Field.{Field}
use Rattle.cell_core.specs.declared.fields.Field.TheVariants as fields
use Rattle.value_dict.specs.Boxes.{AreFieldCodes, IsOrdered, fields_box, field_values, is_between}
use Rattle.value_dict.specs.Recoded.{has_code, text_in}
use Rattle.value_dict.specs.TextLists.{IsDictionary, TextLists, code_in}
use Rattle.value_dict.specs.Decoded.{has_text}
use Rattle.value_dict.proofs.InOrder.{filter-distinct}
use Rattle.value_dict.proofs.Lists.{none_passes}

pub text_total : IsTotalOrder text_cmp
text_total = lists_total nat_cmp_total

pub text_anti : IsAntisymmetric text_cmp
text_anti = slice_cmp-IsAntisymmetric nat_cmp-IsAntisymmetric

among-any : (text : Text) (texts : List Text) → Among text texts → list_any (bytes_eq text) texts ≡ true
among-any text [] m = absurd m
among-any text (x ∷ texts) m = elim m [
  | inl e ↦ let here : bytes_eq text x ≡ true = (bytes_decides text x).1 e in grind (arith, here)
  | inr n ↦ let later : list_any (bytes_eq text) texts ≡ true = among-any text texts n in grind (arith, later)
]

module _ (lists : List (List Text)) (dim : ℕ) where
  abbrev texts : List Text
  texts = get_or lists dim []

  -- values that are there stay
  pub known-distinct : (values : List Text) → ((v : Text) → Among v values → Among v texts)
      → distinct text_cmp values ≡ filter (has_text lists dim) (distinct text_cmp values)
  known-distinct values there = sym (filter_all (has_text lists dim) (distinct text_cmp values)
      (all_from (λ v. has_text lists dim v ≡ true) (distinct text_cmp values)
      (λ v m. among-any v texts (there v ((among_distinct text_total text_anti v values).0 m)))))

  code-known : (code : ℕ) → code < length texts → has_code lists dim code ≡ true
  code-known code h = lt-ltb code (length texts) h

  pub codes-known : (codes : List ℕ) → All (λ code. code < length texts) codes
      → AllByRecursion (λ code. has_code lists dim code ≡ true) codes
  codes-known [] h = tt
  codes-known (code ∷ codes) h
      = (code-known code (h 0 0 (omega arith)), codes-known codes (λ k d l. h (suc k) d (omega arith)))

-- the box that is asked, from what is asked in each dimension
module _ (lists : List (List Text)) where
  pub box-told : (k : ℕ) (asks : List Field) (box : Box ℕ) → length box ≡ length asks
      → ((i : ℕ) → i < length asks → AreFieldCodes lists (k + i) (get_or asks i fields.Any) (get_or box i None))
      → (coded_box (text_in lists) k box ≡ known_box (has_text lists) k (fields_box lists k asks))
      × BoxIsKnown (has_code lists) k box
  box-told k [] [] long asked = (refl, tt)
  box-told k [] (choice ∷ box) long asked = absurd (omega arith)
  box-told k (field ∷ asks) [] long asked = absurd (omega arith)
  box-told k (field ∷ asks) (choice ∷ box) long asked =
      let here : k + 0 ≡ k = omega arith in
      let first : AreFieldCodes lists k field choice
      = subst (λ n. AreFieldCodes lists n field choice) here (asked 0 (omega arith)) in
      let rest = box-told (suc k) asks box (omega arith) (λ i l. let next : k + suc i ≡ suc k + i = omega arith in
      subst (λ n. AreFieldCodes lists n (get_or asks i fields.Any) (get_or box i None)) next
      (asked (suc i) (omega arith))) in
      (ap₂ (λ c cs. c ∷ cs) first.values rest.0, both choice first.known rest.1)
    where
      both : (choice : Option (List ℕ)) → IfSome choice (AllByRecursion (λ code. has_code lists k code ≡ true))
          → BoxIsKnown (has_code lists) (suc k) box → BoxIsKnown (has_code lists) k (choice ∷ box)
      both None h rest = rest
      both (Some codes) h rest = (h, rest)

  values-rise : (all : List Text) (field : Field) → IfSome (field_values all field) (IsStrictlySortedBy text_cmp)
  unfolding IsStrictlySortedBy
  values-rise all fields.Any = tt
  values-rise all fields.All = rises_distinct text_total text_anti all
  values-rise all (fields.One v) = (tt, tt)
  values-rise all (fields.Among values) = rises_distinct text_total text_anti values
  values-rise all (fields.Between low high) = rises_distinct text_total text_anti (filter (is_between low high) all)

  pub asked-rises : (k : ℕ) (asks : List Field)
      → IsOrdered text_cmp (known_box (has_text lists) k (fields_box lists k asks))
  unfolding IsStrictlySortedBy
  asked-rises k [] = tt
  asked-rises k (field ∷ asks)
      = go (field_values (get_or lists k []) field) (values-rise (get_or lists k []) field) (asked-rises (suc k) asks)
    where
      go : (values : Option (List Text)) → IfSome values (IsStrictlySortedBy text_cmp)
          → IsOrdered text_cmp (known_box (has_text lists) (suc k) (fields_box lists (suc k) asks))
          → IsOrdered text_cmp (known_box (has_text lists) k (values ∷ fields_box lists (suc k) asks))
      go None h rest = rest
      go (Some values) h rest = (rises-filter text_cmp (has_text lists k) values h, rest)

module _ (lists : List (List Text)) (dim : ℕ) (codes : List ℕ) where
  abbrev there : List Text
  there = get_or lists dim []

  -- the code of a text that is there comes last
  pub code-pushed : (text : Text) (code : ℕ) → code_in there text ≡ Some code
      → map (text_in lists dim) (codes ++ code ∷ []) ≡ map (text_in lists dim) codes
      ++ filter (has_text lists dim) (text ∷ [])
  code-pushed text code is =
      let found = position-Some (bytes_eq text) there code [] is in
      let same : text ≡ get_or there code [] = (bytes_decides text (get_or there code [])).0 found.1 in
      let has : has_text lists dim text ≡ true
      = among-any text there (contains_among text there (
        code,
        found.0,
        get_or_default there code text [] found.0
            ∙ sym same,
      )) in
      map-append (text_in lists dim) codes (code ∷ [])
      ∙ ap (λ (z : Text). map (text_in lists dim) codes ++ z ∷ []) (sym same)
      ∙ ap (λ (b : Bool). map (text_in lists dim) codes ++ cond b (text ∷ []) []) (sym has)

  pub no_code-pushed : (text : Text) → code_in there text ≡ None
      → map (text_in lists dim) codes ≡ map (text_in lists dim) codes ++ filter (has_text lists dim) (text ∷ [])
  no_code-pushed text is =
      sym (ap (λ (b : Bool). map (text_in lists dim) codes ++ cond b (text ∷ []) [])
      (none_passes (bytes_eq text) there is) ∙ append-nil (map (text_in lists dim) codes))

-- the texts so far that pass a test, and one text more
module _ (lists : List (List Text)) (dim : ℕ) (codes : List ℕ) (p : Text → Bool) (k : ℕ) (values : List Text)
    (l : k < length values) (before : map (text_in lists dim) codes ≡ filter p (take k values)) where
  abbrev text : Text
  text = get_or values k []

  more : (b : Bool) → p text ≡ b → filter p (take (k + 1) values) ≡ map (text_in lists dim) codes
      ++ cond b (text ∷ []) []
  more b e = filter_more p values k [] l
      ∙ ap₂ (λ (xs : List Text) (c : Bool). xs ++ cond c (text ∷ []) []) (sym before) e

  pub text-passed : (code : ℕ) → p text ≡ true → text_in lists dim code ≡ text
      → map (text_in lists dim) (codes ++ code ∷ []) ≡ filter p (take (k + 1) values)
  text-passed code e is = map-append (text_in lists dim) codes (code ∷ [])
      ∙ ap (λ (z : Text). map (text_in lists dim) codes ++ z ∷ []) is ∙ sym (more true e)

  pub text-failed : p text ≡ false → map (text_in lists dim) codes ≡ filter p (take (k + 1) values)
  text-failed e = sym (more false e ∙ append-nil (map (text_in lists dim) codes))

  pub text-taken : (new : List ℕ) → map (text_in lists dim) new ≡ map (text_in lists dim) codes ++ filter p (text ∷ [])
      → map (text_in lists dim) new ≡ filter p (take (k + 1) values)
  text-taken new e = e ∙ sym (more (p text) refl)

-- what is asked of a dimension, by the form of the field
module _ (lists : List (List Text)) (dim : ℕ) (codes : List ℕ) where
  abbrev all : List Text
  all = get_or lists dim []

  abbrev IsWithin : List ℕ → Type 0
  IsWithin = All (λ code. code < length all)

  module _ (sorted : List ℕ)
      (in_order : map (text_in lists dim) sorted ≡ distinct text_cmp (map (text_in lists dim) codes))
      (within : IsWithin sorted) where
    pub asked-all : map (text_in lists dim) codes ≡ all → AreFieldCodes lists dim fields.All (Some sorted)
    asked-all e = record {
      values = ap (λ (z : List Text). Some z) (in_order ∙ ap (distinct text_cmp) e
          ∙ known-distinct lists dim all (λ v m. m));
      known = codes-known lists dim sorted within;
    }

    pub asked-among : (values : List Text) → map (text_in lists dim) codes ≡ filter (has_text lists dim) values
        → AreFieldCodes lists dim (fields.Among values) (Some sorted)
    asked-among values e = record {
      values = ap (λ (z : List Text). Some z) (in_order ∙ ap (distinct text_cmp) e
          ∙ filter-distinct text_total text_anti (has_text lists dim) values);
      known = codes-known lists dim sorted within;
    }

  pub asked-between : (low high : Text)
      → map (text_in lists dim) codes ≡ distinct text_cmp (filter (is_between low high) all) → IsWithin codes
      → AreFieldCodes lists dim (fields.Between low high) (Some codes)
  asked-between low high e h = record {
    values = ap (λ (z : List Text). Some z) (e
        ∙ known-distinct lists dim (filter (is_between low high) all)
        (λ v m. (filter_among (is_between low high) v all m).0));
    known = codes-known lists dim codes h;
  }

-- one dimension more
pub box-pushed : (lists : List (List Text)) (asks : List Field) (box : Box ℕ) (choice : Option (List ℕ)) (n : ℕ)
    → length box ≡ n → ((i : ℕ) → i < n → AreFieldCodes lists i (get_or asks i fields.Any) (get_or box i None))
    → AreFieldCodes lists n (get_or asks n fields.Any) choice → (i : ℕ) → i < n + 1
    → AreFieldCodes lists i (get_or asks i fields.Any) (get_or (box ++ choice ∷ []) i None)
box-pushed lists asks box choice n long before new i l = go (cases_lt i n)
  where
    go : (i < n) ⊎ (n ≤ i) → AreFieldCodes lists i (get_or asks i fields.Any) (get_or (box ++ choice ∷ []) i None)
    go (inl h) = subst (AreFieldCodes lists i (get_or asks i fields.Any))
        (sym (get_or-append box (choice ∷ []) None i (omega arith))) (before i h)
    go (inr h) =
        let here : n ≡ i = omega arith in
        subst (λ k. AreFieldCodes lists k (get_or asks k fields.Any) (get_or (box ++ choice ∷ []) k None)) here
        (subst (λ k. AreFieldCodes lists n (get_or asks n fields.Any) (get_or (box ++ choice ∷ []) k None)) long
        (subst (AreFieldCodes lists n (get_or asks n fields.Any)) (sym (get_or-append_seam box choice [] None)) new))

pub choice-pushed : (old new : Box ℕ) (choice : Option (Vec ℕ Global)) → (choice ≡ None → new ≡ old ++ None ∷ [])
    → IfSome choice (λ codes. new ≡ old ++ Some codes.items ∷ [])
    → new ≡ old ++ option_map (λ (codes : Vec ℕ Global). codes.items) choice ∷ []
choice-pushed old new None any among = any refl
choice-pushed old new (Some codes) any among = among

-- the codes that are asked for may be those of values
pub choice-small : (dict : TextLists) (dim : ℕ) (field : Field) (choice : Option (Vec ℕ Global)) → IsDictionary dict
    → dim < length dict.lists
    → AreFieldCodes dict.lists dim field (option_map (λ (codes : Vec ℕ Global). codes.items) choice)
    → IfSome choice (λ codes. All IsCode codes.items)
choice-small dict dim field None is l asked = tt
choice-small dict dim field (Some codes) is l asked = small codes.items asked.known
  where
    small : (codes : List ℕ) → AllByRecursion (λ code. has_code dict.lists dim code ≡ true) codes → All IsCode codes
    small [] h = λ k d below. absurd (omega arith)
    small (code ∷ codes) h = λ k d below. by k d below (small codes h.1)
      where
        here : code < MAX_CODES
        here = omega (
          arith,
          ltb-true code (length (get_or dict.lists dim [])) h.0,
          All-get_or (λ texts. length texts ≤ dict.max) dict.lists dim [] l is.within,
          is.few_texts,
        )

        by : (k d : ℕ) → k < length (code ∷ codes) → All IsCode codes → IsCode (get_or (code ∷ codes) k d)
        by zero d below rest = here
        by (suc k) d below rest = rest k d (omega arith)
