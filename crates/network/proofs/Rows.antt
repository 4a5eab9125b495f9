-- Rows that were written from their fronts: what stands in the front, and what a second write of it makes. Assumes nothing.
use Rattle.std.proofs.Common.{◌≡◌, refl, sym, ap, ap₂, ◌∙◌, List, [], ◌∷◌, ◌++◌, map, ℕ, length, take, drop}
use lib.Seq.{take-append_seam, drop-append_seam, drop-drop}
use Rattle.std.proofs.lemmas.List.{append_assoc, length-append}
use Rattle.cell.proofs.Offsets.{off-on}
use Rattle.net_rows.specs.Nodes.{in_mesh, in_ticks}
use Rattle.refusals.specs.Said.{written}
use Rattle.net.specs.Net.{MeshNode}
use Rattle.net.specs.Laws.{widest}
use Rattle.net.proofs.All.{All}
use Rattle.net.proofs.Faces.{Within}

pub take-written : {A : Type 0} (xs ys row : List A) (n : ℕ) → row ≡ written xs ys → n ≡ length xs → take n row ≡ xs
take-written xs ys row n e k = ap₂ (λ i l. take i l) k e ∙ take-append_seam xs (drop (length xs) ys)

-- the front written again, as long as before
pub write-again : {A : Type 0} (xs zs ys row : List A) (n : ℕ) → row ≡ written xs ys → n ≡ length xs → length zs ≡ length xs
    → zs ++ drop n row ≡ written zs ys
write-again xs zs ys row n e k same =
    ap (λ l. zs ++ l) (ap₂ (λ i l. drop i l) k e ∙ drop-append_seam xs (drop (length xs) ys) ∙ ap (λ i. drop i ys) (sym same))

-- behind the front a second list is written
pub write-behind : {A : Type 0} (xs zs ys row : List A) (n : ℕ) → row ≡ written xs ys → n ≡ length xs
    → take n row ++ written zs (drop n row) ≡ written (xs ++ zs) ys
write-behind xs zs ys row n e k =
    ap₂ (λ l m. l ++ written zs m) (take-written xs ys row n e k) (ap₂ (λ i l. drop i l) k e ∙ drop-append_seam xs (drop (length xs) ys))
    ∙ sym (append_assoc xs zs (drop (length zs) (drop (length xs) ys)))
    ∙ ap (λ l. (xs ++ zs) ++ l) (drop-drop (length zs) (length xs) ys ∙ ap (λ i. drop i ys) (sym (length-append xs zs)))

-- a node in range, as a caller holds it and back
pub mesh-ticks : (ns : List MeshNode) → All (Within widest) ns → map in_mesh (map in_ticks ns) ≡ ns
unfolding All
mesh-ticks [] h = refl
mesh-ticks (n ∷ ns) h =
    λ i. record { layer = n.layer; component = n.component; x = off-on n.x h.0.0 i; y = off-on n.y h.0.1 i } ∷ mesh-ticks ns h.1 i
