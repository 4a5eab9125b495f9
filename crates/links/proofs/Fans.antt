-- The links of a via, from one node after the other. Assumes nothing.
use Rattle.std.proofs.Common.{◌≡◌, ℕ, ◌*◌, List, [], ◌∷◌, length, map, flat_map, refl, sym, ap, ◌∙◌, length-append, arith, Float}
use Rattle.std.proofs.lemmas.List.{length-map}
use Rattle.net.specs.Net.{Edge}
use Rattle.links.specs.Made.{edge, pairs}

-- from one node to each of the others
unfoldable pub fan : Float → List ℕ → ℕ → List Edge
fan g top a = map (edge g a) top

pub fan-long : (g : Float) (top : List ℕ) (a : ℕ) → length (fan g top a) ≡ length top
unfolding fan
fan-long g top a = length-map top (edge g a)

pub fans : (g : Float) (bottom top : List ℕ) → flat_map (fan g top) bottom ≡ pairs g bottom top
unfolding fan pairs
fans g bottom top = refl

pub fans-long : (g : Float) (bottom top : List ℕ) → length (flat_map (fan g top) bottom) ≡ length (pairs g bottom top)
fans-long g bottom top = ap length (fans g bottom top)

count : (g : Float) (bottom top : List ℕ) → length (flat_map (fan g top) bottom) ≡ length bottom * length top
count g [] top = omega arith
count g (a ∷ bottom) top =
    length-append (fan g top a) (flat_map (fan g top) bottom)
    ∙ (let e = count g bottom top in let f = fan-long g top a in omega arith)

pub pairs-long : (g : Float) (bottom top : List ℕ) → length (pairs g bottom top) ≡ length bottom * length top
pairs-long g bottom top = sym (fans-long g bottom top) ∙ count g bottom top
