-- What the items of a list that is read are made of, as they are read again without a test.
use Rattle.std.proofs.Common.{◌≡◌, ℕ, ◌≤◌, ◌<◌, List, [], ◌∷◌, ◌++◌, ◌+◌, length, length-append, leb, leb-true, ◌&&◌, arith, ℤ, Option, Result, Ok, Err, refl, sym, ap, subst, ◌∙◌}
use Rattle.std.specs.Prelude.{IsOk, IsOkAnd}
use Rattle.std.specs.Int.{w16, w32, w64}
use Rattle.fields.specs.Cursor.{Cursor, number, signed_number}
use Rattle.fields.specs.Codec.{Codec, any, ranged, pair, many, chained, counted, times}
use Rattle.fields.proofs.Loop.{IsAt, reads_on, among}
use Rattle.fields.proofs.Laws.{number_room, tested_parts, signed_parts, pair_parts, named_parts, chained_parts, many_length, same_read, bind_ok, each}
use Rattle.refusals.specs.declared.Refusal.{Refusal}
use Rattle.refusals.specs.Limits.{sheet_low_bits, sheet_high_bits}
use Rattle.record.specs.declared.board.Limits.{Limits}
use Rattle.record.specs.Board.{Entry, Point, Polygon, is_above, layer, entry, coordinate, point, polygon, limits_of, polygon_list}
use Rattle.record.specs.declared.board.Version.TheVariants.{One}
use Rattle.record.specs.Rows.{rings}
use Rattle.record.specs.Walks.{HasRoom}

-- a read that comes to a value with a fact
pub ok_and : {A : Type 0} (r : Result A Refusal) (P : A → Type 0) → IsOkAnd r P → (x : A) × (r ≡ Ok x) × P x
ok_and (Ok x) P h = (x, refl, h)
ok_and (Err e) P h = absurd h

pub ok : {A : Type 0} (r : Result A Refusal) → IsOk r → (x : A) × (r ≡ Ok x)
ok (Ok x) h = (x, refl)
ok (Err e) h = absurd cc

-- ---- lists

module _ {A S : Type 0} (item : S → Codec A) (leaves : A → S) (most : ℕ) (seen : S) (old : Cursor) {x : List A × Cursor} (e : (chained w16 most item leaves seen).reading old ≡ Ok x)
    {n : ℕ} {d : Cursor} (read_count : number w16 old ≡ Ok (n, d)) where
  pub items_known : many item leaves seen n d ≡ Ok x
  items_known =
      let p = chained_parts item leaves w16 most seen old e in
      ap (λ (y : ℕ × Cursor). many item leaves seen y.0 y.1) (sym (same_read (number w16 old) p.2 read_count)) ∙ p.3

  pub list_known : {xs : List A} {end : Cursor} → many item leaves seen n d ≡ Ok (xs, end) → (chained w16 most item leaves seen).reading old ≡ Ok (xs, end)
  list_known read_items = e ∙ ap Ok (same_read (many item leaves seen n d) items_known read_items)

-- a row with room for the list has as many places as the list's number says
pub list_room : {A S B : Type 0} (item : S → Codec A) (leaves : A → S) (most : ℕ) (seen : S) (old : Cursor) (row : List B) → IsOkAnd ((chained w16 most item leaves seen).reading old) (HasRoom row)
    → {n : ℕ} {d : Cursor} → number w16 old ≡ Ok (n, d) → n ≤ length row
list_room item leaves most seen old row fits {n} {d} read_count =
    let list = ok_and ((chained w16 most item leaves seen).reading old) (HasRoom row) fits in
    omega (arith, list.2, many_length item leaves seen n d (items_known item leaves most seen old list.1 read_count))

-- ---- entries

module _ (l : Limits) (last : Option ℕ) (c : Cursor) {x : Entry × Cursor} (e : (entry l last).reading c ≡ Ok x) where
  entry_parts : (d : Cursor) × (number w16 c ≡ Ok (x.0.layer, d)) × (number w64 d ≡ Ok (x.0.cell, x.1))
  entry_parts =
      let p = pair_parts (layer last) (ranged w64 0 l.cell) c (named_parts _ (λ (e : Entry). (e.layer, e.cell)) (pair (layer last) (ranged w64 0 l.cell)) (λ x. refl) c e) in
      (p.0, (tested_parts (is_above last) (any w16) c p.1).0, (tested_parts _ (any w64) p.0 p.2).0)

  pub entry_room : 2 ≤ length c.rest
  entry_room = number_room w16 c entry_parts.1

  module _ {a : ℕ} {d : Cursor} (read_layer : number w16 c ≡ Ok (a, d)) where
    same : ◌≡◌ {A = ℕ × Cursor} (x.0.layer, entry_parts.0) (a, d)
    same = same_read (number w16 c) entry_parts.1 read_layer

    cell_read : number w64 d ≡ Ok (x.0.cell, x.1)
    cell_read = ap (λ (y : ℕ × Cursor). number w64 y.1) (sym same) ∙ entry_parts.2

    pub cell_room : 8 ≤ length d.rest
    cell_room = number_room w64 d cell_read

    pub entry_known : {b : ℕ} {end : Cursor} → number w64 d ≡ Ok (b, end) → (entry l last).reading c ≡ Ok (record { layer = a; cell = b }, end)
    entry_known read_cell =
        e ∙ ap (λ (y : ℕ × Cursor). Ok (record { layer = y.0; cell = x.0.cell }, x.1)) same
        ∙ ap (λ (y : ℕ × Cursor). Ok (record { layer = a; cell = y.0 }, y.1)) (same_read (number w64 d) cell_read read_cell)

-- ---- points

signed_room : (c : Cursor) {x : ℤ × Cursor} → signed_number c ≡ Ok x → 8 ≤ length c.rest
signed_room c e = number_room w64 c (bind_ok (number w64 c) _ e).1

module _ (c : Cursor) {x : Point × Cursor} (e : point.reading c ≡ Ok x) where
  point_parts : (d : Cursor) × (signed_number c ≡ Ok (x.0.x, d)) × (signed_number d ≡ Ok (x.0.y, x.1))
  point_parts =
      let p = pair_parts coordinate coordinate c (named_parts _ (λ (p : Point). (p.x, p.y)) (pair coordinate coordinate) (λ x. refl) c e) in
      (p.0, signed_parts _ c p.1, signed_parts _ p.0 p.2)

  pub x_room : 8 ≤ length c.rest
  x_room = signed_room c point_parts.1

  module _ {a : ℤ} {d : Cursor} (read_x : signed_number c ≡ Ok (a, d)) where
    same_x : ◌≡◌ {A = ℤ × Cursor} (x.0.x, point_parts.0) (a, d)
    same_x = same_read (signed_number c) point_parts.1 read_x

    y_read : signed_number d ≡ Ok (x.0.y, x.1)
    y_read = ap (λ (y : ℤ × Cursor). signed_number y.1) (sym same_x) ∙ point_parts.2

    pub y_room : 8 ≤ length d.rest
    y_room = signed_room d y_read

    pub point_known : {b : ℤ} {end : Cursor} → signed_number d ≡ Ok (b, end) → point.reading c ≡ Ok (record { x = a; y = b }, end)
    point_known read_y =
        e ∙ ap (λ (z : ℤ × Cursor). Ok (record { x = z.0; y = x.0.y }, x.1)) same_x
        ∙ ap (λ (z : ℤ × Cursor). Ok (record { x = a; y = z.0 }, z.1)) (same_read (signed_number d) y_read read_y)

-- ---- polygons

record PolygonParts (c : Cursor) (x : Polygon × Cursor) : Type 0 where
  d1 : Cursor
  d2 : Cursor
  d3 : Cursor
  d4 : Cursor
  n : ℕ
  layer : number w16 c ≡ Ok (x.0.layer, d1)
  component : number w32 d1 ≡ Ok (x.0.component, d2)
  sheet : number w64 d2 ≡ Ok (x.0.sheet, d3)
  high : x.0.sheet ≤ sheet_high_bits
  count : number w16 d3 ≡ Ok (n, d4)
  points : times point n d4 ≡ Ok (x.0.points, x.1)

module _ (l : Limits) (c : Cursor) {x : Polygon × Cursor} (e : (polygon l).reading c ≡ Ok x) where
  polygon_parts : PolygonParts c x
  unfolding polygon
  polygon_parts =
      let points = counted w16 l.ring_points point in
      let sheet = pair (ranged w64 sheet_low_bits sheet_high_bits) points in
      let component = pair (any w32) sheet in
      let p = pair_parts (any w16) component c (named_parts _ (λ (p : Polygon). (p.layer, (p.component, (p.sheet, p.points)))) (pair (any w16) component) (λ x. refl) c e) in
      let q = pair_parts (any w32) sheet p.0 p.2 in
      let r = pair_parts (ranged w64 sheet_low_bits sheet_high_bits) points q.0 q.2 in
      let s = tested_parts (λ n. leb sheet_low_bits n && leb n sheet_high_bits) (any w64) q.0 r.1 in
      let t = chained_parts (λ (_ : Unit {0}). point) (λ (_ : Point). tt) w16 l.ring_points tt r.0 r.2 in
      record {
        d1 = p.0;
        d2 = q.0;
        d3 = r.0;
        d4 = t.1;
        n = t.0;
        layer = p.1;
        component = q.1;
        sheet = s.0;
        high = leb-true x.0.sheet sheet_high_bits (each (leb sheet_low_bits x.0.sheet) (leb x.0.sheet sheet_high_bits) s.1).1;
        count = t.2;
        points = t.3;
      }

  pub layer_room : 2 ≤ length c.rest
  layer_room = number_room w16 c polygon_parts.layer

  module _ {a : ℕ} {e1 : Cursor} (read_layer : number w16 c ≡ Ok (a, e1)) where
    same_layer : ◌≡◌ {A = ℕ × Cursor} (x.0.layer, polygon_parts.d1) (a, e1)
    same_layer = same_read (number w16 c) polygon_parts.layer read_layer

    component_is : number w32 e1 ≡ Ok (x.0.component, polygon_parts.d2)
    component_is = ap (λ (y : ℕ × Cursor). number w32 y.1) (sym same_layer) ∙ polygon_parts.component

    pub component_room : 4 ≤ length e1.rest
    component_room = number_room w32 e1 component_is

    module _ {b : ℕ} {e2 : Cursor} (read_component : number w32 e1 ≡ Ok (b, e2)) where
      same_component : ◌≡◌ {A = ℕ × Cursor} (x.0.component, polygon_parts.d2) (b, e2)
      same_component = same_read (number w32 e1) component_is read_component

      sheet_is : number w64 e2 ≡ Ok (x.0.sheet, polygon_parts.d3)
      sheet_is = ap (λ (y : ℕ × Cursor). number w64 y.1) (sym same_component) ∙ polygon_parts.sheet

      pub sheet_room : 8 ≤ length e2.rest
      sheet_room = number_room w64 e2 sheet_is

      module _ {s : ℕ} {e3 : Cursor} (read_sheet : number w64 e2 ≡ Ok (s, e3)) where
        same_sheet : ◌≡◌ {A = ℕ × Cursor} (x.0.sheet, polygon_parts.d3) (s, e3)
        same_sheet = same_read (number w64 e2) sheet_is read_sheet

        pub sheet_known : s ≤ sheet_high_bits
        sheet_known = subst (λ (y : ℕ × Cursor). y.0 ≤ sheet_high_bits) same_sheet polygon_parts.high

        count_is : number w16 e3 ≡ Ok (polygon_parts.n, polygon_parts.d4)
        count_is = ap (λ (y : ℕ × Cursor). number w16 y.1) (sym same_sheet) ∙ polygon_parts.count

        pub count_room : 2 ≤ length e3.rest
        count_room = number_room w16 e3 count_is

        module _ {n : ℕ} {e4 : Cursor} (read_count : number w16 e3 ≡ Ok (n, e4)) where
          pub ring_known : times point n e4 ≡ Ok (x.0.points, x.1)
          ring_known = ap (λ (y : ℕ × Cursor). times point y.0 y.1) (sym (same_read (number w16 e3) count_is read_count)) ∙ polygon_parts.points

          pub polygon_known : {ps : List Point} {end : Cursor} → times point n e4 ≡ Ok (ps, end) → (polygon l).reading c ≡ Ok (record { layer = a; component = b; sheet = s; points = ps }, end)
          polygon_known read_ring =
              e
              ∙ ap (λ (y : ℕ × Cursor). Ok (record { layer = y.0; component = x.0.component; sheet = x.0.sheet; points = x.0.points }, x.1)) same_layer
              ∙ ap (λ (y : ℕ × Cursor). Ok (record { layer = a; component = y.0; sheet = x.0.sheet; points = x.0.points }, x.1)) same_component
              ∙ ap (λ (y : ℕ × Cursor). Ok (record { layer = a; component = b; sheet = y.0; points = x.0.points }, x.1)) same_sheet
              ∙ ap (λ (y : List Point × Cursor). Ok (record { layer = a; component = b; sheet = s; points = y.0 }, y.1)) (same_read (times point n e4) ring_known read_ring)

-- the points of the polygons so far and of the next one are not more than all
pub rings_room : (front : List Polygon) (p : Polygon) (rest : List Polygon) → length (rings front) + length p.points ≤ length (rings (front ++ p ∷ rest))
rings_room [] p rest = omega (arith, length-append p.points (rings rest))
rings_room (q ∷ front) p rest = omega (arith, length-append q.points (rings front), length-append q.points (rings (front ++ p ∷ rest)), rings_room front p rest)

-- the polygons of a list, turn by turn
module _ (old : Cursor) {x : List Polygon × Cursor} (e : (polygon_list (limits_of One)).reading old ≡ Ok x) {n : ℕ} {d : Cursor} (read_count : number w16 old ≡ Ok (n, d)) where
  polygons_known : many (λ (_ : Unit {0}). polygon (limits_of One)) (λ _. tt) tt n d ≡ Ok x
  polygons_known = items_known (λ (_ : Unit {0}). polygon (limits_of One)) (λ _. tt) _ tt old e read_count

  pub polygons_long : length x.0 ≡ n
  polygons_long = many_length (λ (_ : Unit {0}). polygon (limits_of One)) (λ _. tt) tt n d polygons_known

  module _ (i : ℕ) (front : List Polygon) (c : Cursor) (so_far : IsAt (λ (_ : Unit {0}). polygon (limits_of One)) (λ _. tt) tt n d i front tt c) (lt : i < n) where
    pub polygon_turn : (y : Polygon × Cursor) × ((polygon (limits_of One)).reading c ≡ Ok y)
    polygon_turn = reads_on (λ (_ : Unit {0}). polygon (limits_of One)) (λ _. tt) tt n d i front tt c so_far lt polygons_known

    pub turn_room : length (rings front) + length polygon_turn.0.0.points ≤ length (rings x.0)
    turn_room =
        let at = among (λ (_ : Unit {0}). polygon (limits_of One)) (λ _. tt) tt n d i front tt c so_far lt polygons_known polygon_turn.1 in
        subst (λ (ps : List Polygon). length (rings front) + length polygon_turn.0.0.points ≤ length (rings ps)) (sym at.1) (rings_room front polygon_turn.0.0 at.0)
