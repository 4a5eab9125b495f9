-- Items stored one after the other.
use Rattle.std.proofs.Common.{◌≡◌, ℕ, suc, ◌+◌, ◌-◌, ◌≤◌, arith, length, take, drop, List, [], ◌∷◌, ◌++◌, map, set, ℤ, refl, sym, ap, ◌∙◌, zero-add, append_assoc, append-nil, length-append}
use Rattle.std.proofs.lemmas.List.{map-append, length-map, take-append-drop, length-take, drop-set-lt, length-drop, drop-drop}
use Rattle.std.proofs.Math.Seq.{take-set-lt}
use Rattle.std.proofs.lemmas.List.Edits.{sets, sets-eq}
use Rattle.fields.proofs.Stores.{sets_append}
use Rattle.record.specs.Board.{Polygon}
use Rattle.record.specs.Rows.{point_row, rings}

-- one item more
pub stored_next : {A B : Type 0} (view : A → B) (row : List B) (first : ℕ) (front : List A) (x : A) {at : ℕ} → at ≡ first + length front
    → set (sets row first (map view front)) at (view x) ≡ sets row first (map view (front ++ x ∷ []))
stored_next view row first front x here =
    ap (λ k. set (sets row first (map view front)) k (view x)) (here ∙ ap (λ k. first + k) (sym (length-map front view)))
    ∙ sym (ap (sets row first) (map-append view front (x ∷ [])) ∙ sets_append row first (map view front) (view x ∷ []))

-- a list stored in a row's front, which was handed out
pub stored_front : {B : Type 0} (row : List B) (n i : ℕ) (xs : List B) → i + length xs ≤ n → sets (take n row) i xs ++ drop n row ≡ sets row i xs
stored_front row n i [] h = take-append-drop n row
stored_front row n i (x ∷ xs) h =
    let in_front : sets (take n (set row i x)) (suc i) xs ++ drop n (set row i x) ≡ sets (set row i x) (suc i) xs = stored_front (set row i x) n (suc i) xs (omega arith) in
    rw (← take-set-lt n row i x (omega arith), ← drop-set-lt n row i x (omega arith)) in_front

pub part_long : {B : Type 0} (row : List B) (first n : ℕ) → first + n ≤ length row → length (take (first + n - first) (drop first row)) ≡ n
part_long row first n room = omega (arith, room, length-drop first row, length-take (first + n - first) (drop first row))

-- and in a part of it
pub stored_part : {B : Type 0} (row ys : List B) (first n : ℕ) (xs : List B) → length xs ≡ n → first + n ≤ length row → ys ≡ sets (take (first + n - first) (drop first row)) 0 xs
    → take first row ++ (ys ++ drop (first + n - first) (drop first row)) ≡ sets row first xs
stored_part {B} row ys first n xs long room is =
    let rest : sets (take (first + n - first) (drop first row)) 0 xs ++ drop (first + n - first) (drop first row) ≡ sets (drop first row) 0 xs = stored_front (drop first row) (first + n - first) 0 xs (omega (arith, long)) in
    let behind : sets (drop first row) 0 xs ≡ xs ++ drop (0 + length xs) (drop first row) = sets-eq xs (drop first row) 0 (omega (arith, long, room, length-drop first row)) in
    let dropped : drop (0 + length xs) (drop first row) ≡ drop (first + length xs) row = ap (λ (k : ℕ). drop k (drop first row)) (zero-add (length xs)) ∙ drop-drop (length xs) first row in
    ap (λ (z : List B). take first row ++ (z ++ drop (first + n - first) (drop first row))) is
    ∙ ap (λ (z : List B). take first row ++ z) (rest ∙ behind ∙ ap (λ (z : List B). xs ++ z) dropped)
    ∙ sym (sets-eq xs row first (omega (arith, long, room)) ∙ append_assoc (take first row) xs (drop (first + length xs) row))

-- one polygon more: its points, and how many there are then
pub rings_next : (front : List Polygon) (p : Polygon) → rings (front ++ p ∷ []) ≡ rings front ++ p.points
rings_next [] p = append-nil p.points
rings_next (q ∷ front) p = ap (λ l. q.points ++ l) (rings_next front p) ∙ sym (append_assoc q.points (rings front) p.points)

pub rings_next_long : (front : List Polygon) (p : Polygon) → length (rings (front ++ p ∷ [])) ≡ length (rings front) + length p.points
rings_next_long front p = ap length (rings_next front p) ∙ length-append (rings front) p.points

pub stored_ring : (row : List (List ℤ)) (front : List Polygon) (p : Polygon) {first : ℕ} → first ≡ length (rings front)
    → sets (sets row 0 (map point_row (rings front))) first (map point_row p.points) ≡ sets row 0 (map point_row (rings (front ++ p ∷ [])))
stored_ring row front p here =
    let at : _ ≡ 0 + length (map point_row (rings front)) = here ∙ sym (length-map (rings front) point_row) ∙ sym (zero-add (length (map point_row (rings front)))) in
    ap (λ k. sets (sets row 0 (map point_row (rings front))) k (map point_row p.points)) at
    ∙ sym (ap (λ l. sets row 0 (map point_row l)) (rings_next front p) ∙ ap (sets row 0) (map-append point_row (rings front) p.points) ∙ sets_append row 0 (map point_row (rings front)) (map point_row p.points))

pub map_id : (xs : List ℕ) → map (λ (id : ℕ). id) xs ≡ xs
map_id [] = refl
map_id (x ∷ xs) = ap (λ (l : List ℕ). x ∷ l) (map_id xs)
