-- Cells of another length, and their trails.
use Rattle.std.proofs.Common.{◌≡◌, ◌≢◌, ℕ, zero, suc, ◌+◌, ◌<◌, ◌≤◌, Option, Some, None, List, [], ◌∷◌, ◌++◌, length, set, length-set, refl}
use Rattle.std.proofs.Common.{sym, ap, subst, ◌∙◌, arith, replicate}
use Rattle.std.specs.Prelude.{slice_index_or}
use Rattle.std.specs.Option.{option_and_then, option_map}
use Rattle.cube_defs.specs.Cell.{Cell, depth, depth_index, depth_with, with_value}
use Rattle.tree_laws.specs.Walk.{last_label}
use Rattle.qc_arena.specs.NodeRecord.{IsInside, IsTrail, cell_on, with_labels}
use Rattle.qc_arena.specs.Resized.{resize, with_first}

pub length-resize : (n : ℕ) (c : Cell ℕ) → length (resize n c) ≡ n
length-resize zero c = refl
length-resize (suc n) [] = ap suc (length-resize n [])
length-resize (suc n) (e ∷ c) = ap suc (length-resize n c)

-- a cell of that length is as it was
pub resize_whole : (n : ℕ) (c : Cell ℕ) → length c ≡ n → resize n c ≡ c
resize_whole zero [] h = refl
resize_whole zero (e ∷ c) h = absurd (omega arith)
resize_whole (suc n) [] h = absurd (omega arith)
resize_whole (suc n) (e ∷ c) h = ap (λ (l : Cell ℕ). e ∷ l) (resize_whole n c (omega arith))

-- one entry more is Any
pub resize_more : (n : ℕ) (c : Cell ℕ) → n ≡ length c + 1 → resize n c ≡ c ++ None ∷ []
resize_more zero c h = absurd (omega arith)
resize_more (suc zero) [] h = refl
resize_more (suc (suc n)) [] h = absurd (omega arith)
resize_more (suc n) (e ∷ c) h = ap (λ (l : Cell ℕ). e ∷ l) (resize_more n c (omega arith))

pub resize_any : (n m : ℕ) → resize n (replicate m None) ≡ replicate n None
resize_any zero m = refl
resize_any (suc n) zero = ap (λ (l : Cell ℕ). None ∷ l) (resize_any n zero)
resize_any (suc n) (suc m) = ap (λ (l : Cell ℕ). None ∷ l) (resize_any n m)

resize-set : (n : ℕ) (c : Cell ℕ) (i : ℕ) (x : Option ℕ) → i < length c → set (resize n c) i x ≡ resize n (set c i x)
resize-set n [] i x h = absurd (omega arith)
resize-set zero (e ∷ c) i x h = refl
resize-set (suc n) (e ∷ c) zero x h = refl
resize-set (suc n) (e ∷ c) (suc i) x h = ap (λ (l : Cell ℕ). e ∷ l) (resize-set n c i x (omega arith))

-- depths
less_deep : (e : Option ℕ) (d n : ℕ) → depth_with e d ≤ suc n → d ≤ n
less_deep None zero n h = omega arith
less_deep None (suc d) n h = omega arith
less_deep (Some v) d n h = omega arith

-- a cell without values
all_gone : (e : Option ℕ) (d w : ℕ) (c : Cell ℕ) → depth_with e d ≤ zero
    → (d ≤ zero → resize w [] ≡ resize w c) → resize (suc w) [] ≡ resize (suc w) (e ∷ c)
all_gone None zero w c h rest = ap (λ (l : Cell ℕ). None ∷ l) (rest (omega arith))
all_gone None (suc d) w c h rest = absurd (omega arith)
all_gone (Some v) d w c h rest = absurd (omega arith)

-- entries behind the last value are given up and come back
pub resize_deep : (n w : ℕ) (c : Cell ℕ) → depth c ≤ n → resize w (resize n c) ≡ resize w c
resize_deep n zero c h = refl
resize_deep zero (suc w) [] h = refl
resize_deep zero (suc w) (e ∷ c) h = all_gone e (depth c) w c h (resize_deep zero w c)
resize_deep (suc n) (suc w) [] h = ap (λ (l : Cell ℕ). None ∷ l) (resize_deep n w [] (omega arith))
resize_deep (suc n) (suc w) (e ∷ c) h = ap (λ (l : Cell ℕ). e ∷ l) (resize_deep n w c (less_deep e (depth c) n h))

pub depth-resize : (n : ℕ) (c : Cell ℕ) → depth c ≤ n → depth (resize n c) ≡ depth c
depth-resize zero c h = omega arith
depth-resize (suc n) [] h = ap (depth_with {A = ℕ} None) (depth-resize n [] (omega arith))
depth-resize (suc n) (e ∷ c) h = ap (depth_with e) (depth-resize n c (less_deep e (depth c) n h))

one_more : (e : Option ℕ) (d : ℕ) → depth_with e d ≤ suc d
one_more None zero = omega arith
one_more None (suc d) = omega arith
one_more (Some v) d = omega arith

deeper_still : (e : Option ℕ) (a b : ℕ) → a ≤ b → depth_with e a ≤ depth_with e b
deeper_still None zero b h = omega arith
deeper_still None (suc a) zero h = absurd (omega arith)
deeper_still None (suc a) (suc b) h = omega arith
deeper_still (Some v) a b h = omega arith

below_deeper : (e : Option ℕ) (i d : ℕ) → i < d → suc i < depth_with e d
below_deeper e i zero h = absurd (omega arith)
below_deeper None i (suc d) h = omega arith
below_deeper (Some v) i (suc d) h = omega arith

pub depth_long : (c : Cell ℕ) → depth c ≤ length c
depth_long [] = omega arith
depth_long (e ∷ c) = let rest = depth_long c in let one = deeper_still e (depth c) (length c) rest in
    let all = one_more e (length c) in omega arith

set_deeper : (c : Cell ℕ) (i v : ℕ) → i < length c → depth c ≤ depth (with_value c i v)
set_deeper [] i v h = absurd (omega arith)
set_deeper (e ∷ c) zero v h = one_more e (depth c)
set_deeper (e ∷ c) (suc i) v h = deeper_still e (depth c) (depth (with_value c i v)) (set_deeper c i v (omega arith))

set_below : (c : Cell ℕ) (i v : ℕ) → i < length c → i < depth (with_value c i v)
set_below [] i v h = absurd (omega arith)
set_below (e ∷ c) zero v h = omega arith
set_below (e ∷ c) (suc i) v h = below_deeper e i (depth (with_value c i v)) (set_below c i v (omega arith))

-- the last label
entry_at : (n : ℕ) (c : Cell ℕ) (i : ℕ) → i < n → slice_index_or (resize n c) i None ≡ slice_index_or c i None
entry_at zero c i h = absurd (omega arith)
entry_at (suc n) [] zero h = refl
entry_at (suc n) [] (suc i) h = entry_at n [] i (omega arith)
entry_at (suc n) (e ∷ c) zero h = refl
entry_at (suc n) (e ∷ c) (suc i) h = entry_at n c i (omega arith)

abbrev label_below : Cell ℕ → ℕ → Option (ℕ × ℕ)
label_below c d = option_and_then (λ i. option_map (λ v. (i, v)) (slice_index_or c i None)) (depth_index d)

pub label-resize : (n : ℕ) (c : Cell ℕ) → depth c ≤ n → last_label (resize n c) ≡ last_label c
label-resize n c h = ap (label_below (resize n c)) (depth-resize n c h) ∙ at (depth c) h
  where
    at : (d : ℕ) → d ≤ n → label_below (resize n c) d ≡ label_below c d
    at zero h = refl
    at (suc i) h = ap (option_map (λ (v : ℕ). (i, v))) (entry_at n c i (omega arith))

-- trails
inside_same : (n m : ℕ) (labels : List (ℕ × ℕ)) → n ≡ m → IsInside n labels → IsInside m labels
inside_same n m labels e h = subst (λ x. IsInside x labels) e h

length-labels : (c : Cell ℕ) (labels : List (ℕ × ℕ)) → length (with_labels c labels) ≡ length c
length-labels c [] = refl
length-labels c (l ∷ rest) = length-labels (with_value c l.0 l.1) rest ∙ length-set c l.0 (Some l.1)

length-any : (n : ℕ) → length (replicate {A = Option ℕ} n None) ≡ n
length-any zero = refl
length-any (suc n) = ap suc (length-any n)

labels_resized : (n : ℕ) (c : Cell ℕ) (labels : List (ℕ × ℕ)) → IsInside (length c) labels
    → with_labels (resize n c) labels ≡ resize n (with_labels c labels)
labels_resized n c [] h = refl
labels_resized n c (l ∷ rest) h =
    ap (λ (x : Cell ℕ). with_labels x rest) (resize-set n c l.0 (Some l.1) h.0)
    ∙ labels_resized n (with_value c l.0 l.1) rest (inside_same _ _ rest (sym (length-set c l.0 (Some l.1))) h.1)

pub cell_on-resized : (n v : ℕ) (trail : List (ℕ × ℕ)) → trail ≢ [] → IsTrail trail
    → cell_on (with_first (n, v) trail) ≡ resize n (cell_on trail)
cell_on-resized n v [] h w = absurd (h refl)
cell_on-resized n v (first ∷ labels) h w =
    ap (λ (x : Cell ℕ). with_labels x labels) (sym (resize_any n first.0))
    ∙ labels_resized n (replicate first.0 None) labels (inside_same _ _ labels (sym (length-any first.0)) w)

labels_deeper : (c : Cell ℕ) (labels : List (ℕ × ℕ)) → IsInside (length c) labels
    → depth c ≤ depth (with_labels c labels)
labels_deeper c [] h = omega arith
labels_deeper c (l ∷ rest) h =
    let one = set_deeper c l.0 l.1 h.0 in
    let more = labels_deeper (with_value c l.0 l.1) rest
    (inside_same _ _ rest (sym (length-set c l.0 (Some l.1))) h.1) in
    omega arith

labels_inside : (c : Cell ℕ) (labels : List (ℕ × ℕ)) (n : ℕ) → IsInside (length c) labels
    → depth (with_labels c labels) ≤ n → IsInside n labels
labels_inside c [] n h d = tt
labels_inside c (l ∷ rest) n h d =
    let still = inside_same _ _ rest (sym (length-set c l.0 (Some l.1))) h.1 in
    let more = labels_deeper (with_value c l.0 l.1) rest still in
    let low = set_below c l.0 l.1 h.0 in
    (omega arith, labels_inside (with_value c l.0 l.1) rest n still d)

-- the labels are of the dimensions that are left
pub within_first : (n v : ℕ) (trail : List (ℕ × ℕ)) → IsTrail trail → depth (cell_on trail) ≤ n
    → IsTrail (with_first (n, v) trail)
within_first n v [] w d = tt
within_first n v (first ∷ labels) w d
    = labels_inside (replicate first.0 None) labels n (inside_same _ _ labels (sym (length-any first.0)) w) d

pub first_begun : (x : ℕ × ℕ) (trail : List (ℕ × ℕ)) → with_first x trail ≢ []
first_begun x [] e = cc
first_begun x (y ∷ rest) e = cc

inside_more : (n : ℕ) (labels : List (ℕ × ℕ)) (label : ℕ × ℕ) → IsInside n labels → label.0 < n
    → IsInside n (labels ++ label ∷ [])
inside_more n [] label h l = (l, tt)
inside_more n (x ∷ rest) label h l = (h.0, inside_more n rest label h.1 l)

pub within_more : (trail : List (ℕ × ℕ)) (label : ℕ × ℕ) → trail ≢ [] → IsTrail trail → label.0 < length (cell_on trail)
    → IsTrail (trail ++ label ∷ [])
within_more [] label h w l = absurd (h refl)
within_more (first ∷ labels) label h w l =
    let long = length-labels (replicate first.0 None) labels ∙ length-any first.0 in
    inside_more first.0 labels label w (omega arith)
