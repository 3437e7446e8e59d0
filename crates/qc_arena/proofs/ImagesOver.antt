-- Images put over a tree, and images put over others.
use Rattle.std.proofs.Common.{◌≡◌, ◌∙◌, ℕ, Option, Some, None, refl, sym, ap}
use Rattle.std.specs.FinMap as map
use Rattle.std.specs.Option.{option_or}
use Rattle.cube_defs.specs.Tree.{Tree}
use Rattle.qc_arena.specs.Map.{ImageMap, Known, or_image, overlaid}
use Rattle.qc_arena.proofs.Imaged.{get-over}
use Rattle.qc_arena.proofs.SlotMaps.{map_is}

-- what the first of two images says, or the other, or what is there
pub or_twice : (a b : Option (Option Known)) (n : Option Known) → or_image a (or_image b n) ≡ or_image (option_or a b) n
or_twice None b n = refl
or_twice (Some image) b n = refl

-- images over later ones over a tree are both over the tree
pub over_both : (older later both : ImageMap) (tree : Tree ℕ)
    → ((q : ℕ) → map.get both q ≡ option_or (map.get older q) (map.get later q))
    → overlaid older (overlaid later tree) ≡ overlaid both tree
over_both older later both tree put = map_is (overlaid older (overlaid later tree)) (overlaid both tree) (λ q.
    get-over older (overlaid later tree) q
    ∙ ap (or_image (map.get older q)) (get-over later tree q)
    ∙ or_twice (map.get older q) (map.get later q) (map.get tree q)
    ∙ ap (λ i. or_image i (map.get tree q)) (sym (put q))
    ∙ sym (get-over both tree q))
