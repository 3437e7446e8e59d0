-- What a tree under images has at a number: what the first image says, or what is there now.
use Rattle.std.proofs.Common.{◌≡◌, ℕ, refl, sym, ap, ◌∙◌, Option, Some, None, List, [], ◌∷◌, IsSome, true≢false}
use Rattle.std.specs.FinMap as map
use Rattle.cube_defs.specs.Tree.{Tree}
use Rattle.qc_arena.specs.Map.{ImageMap, Known, or_image}
use Rattle.qc_arena.proofs.CallerLemmas.{get-over, or_twice}
use Rattle.qc_arena.specs.Looks.{look_of_image}
use Rattle.qc_arena.specs.declared.images.Look.{Look}
use Rattle.qc_arena.specs.declared.images.Look.TheVariants.{Gone, Same, Was}
use Rattle.pinned_view.specs.Past.{first_image, with_all_images}
use Rattle.pinned_view.specs.Views.{SaysOf}

pub get-past : (images : List ImageMap) (tree : Tree ℕ) (q : ℕ)
    → map.get (with_all_images images tree) q ≡ or_image (first_image images q) (map.get tree q)
get-past [] tree q = refl
get-past (i ∷ later) tree q =
    get-over i (with_all_images later tree) q ∙ ap (or_image (map.get i q)) (get-past later tree q)
    ∙ or_twice (map.get i q) (first_image later q) (map.get tree q)

-- where the first image is at hand
pub past_is : (images : List ImageMap) (tree : Tree ℕ) (q : ℕ) (o : Option (Option Known)) → o ≡ first_image images q
    → map.get (with_all_images images tree) q ≡ or_image o (map.get tree q)
past_is images tree q o e = get-past images tree q ∙ ap (λ i. or_image i (map.get tree q)) (sym e)

-- a node that was there isn't gone
pub not_gone : (images : List ImageMap) (tree : Tree ℕ) (q : ℕ) → Some None ≡ first_image images q
    → IsSome (map.get (with_all_images images tree) q) → ⊥
not_gone images tree q e h = by (map.get (with_all_images images tree) q) (past_is images tree q (Some None) e) h
  where
    by : (o : Option Known) → o ≡ None → IsSome o → ⊥
    by None e h = true≢false (sym h)
    by (Some r) e h = absurd cc

-- what a look at the first image says of the tree
pub says_of : (images : List ImageMap) (tree : Tree ℕ) (q : ℕ) (look : Look) → look_of_image look ≡ first_image images q
    → SaysOf (with_all_images images tree) q look
says_of images tree q Same e = tt
says_of images tree q Gone e = past_is images tree q (Some None) e
says_of images tree q (Was known) e = past_is images tree q (Some (Some known.now)) e
