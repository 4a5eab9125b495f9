-- Nodes on a leaf's sides, and what is said of one that does not hang. Definitions only.
use Rattle.std.specs.Prelude.{ℕ, ◌≤◌, ◌≡◌}
use Rattle.cell.specs.Boxes.{Box, mid}
use Rattle.net.specs.Net.{Poly, MeshNode, Net, node_at, sw_of, se_of, ne_of, nw_of}
use Rattle.net.specs.Hang.{Joined}

-- an end of the range from a to b
pub data End (a b x : ℕ) : Type 0 where
  lower : x ≡ a → End a b x
  upper : x ≡ b → End a b x

-- an end of it, or its middle
pub data EndOrMiddle (a b x : ℕ) : Type 0 where
  end : End a b x → EndOrMiddle a b x
  middle : x ≡ mid a b → EndOrMiddle a b x

-- the point (x, y) is a corner of the box r
pub record Corner (r : Box) (x y : ℕ) : Type 0 where
  pub across : End r.x0 r.x1 x
  pub upright : End r.y0 r.y1 y

-- where the point (x, y) may lie on a side of the box r: the ends of the side and the point's place on it are in the
-- relation P
pub record OnSides (P : ℕ → ℕ → ℕ → Type 0) (r : Box) (x y : ℕ) : Type 0 where
  pub south : y ≡ r.y0 → r.x0 ≤ x → x ≤ r.x1 → P r.x0 r.x1 x
  pub north : y ≡ r.y1 → r.x0 ≤ x → x ≤ r.x1 → P r.x0 r.x1 x
  pub west : x ≡ r.x0 → r.y0 ≤ y → y ≤ r.y1 → P r.y0 r.y1 y
  pub east : x ≡ r.x1 → r.y0 ≤ y → y ≤ r.y1 → P r.y0 r.y1 y

-- the net joins two nodes by an edge
abbrev pub EdgeOf : Net → MeshNode → MeshNode → Type 0
EdgeOf n a b = Joined n.nodes n.edges a b

-- of the side from a to b, with m at its middle: "an end of that edge or its middle, and at the middle both halves are
-- edges of the net"
pub data Held (n : Net) (a m b x : MeshNode) : Type 0 where
  first : x ≡ a → Held n a m b x
  last : x ≡ b → Held n a m b x
  halved : x ≡ m → EdgeOf n a m → EdgeOf n m b → Held n a m b x

-- the node x hangs on no side of the leaf r of the polygon p
pub record HangsNot (n : Net) (p : Poly) (r : Box) (x : MeshNode) : Type 0 where
  pub south : x.y ≡ r.y0 → r.x0 ≤ x.x → x.x ≤ r.x1 → Held n (sw_of p r) (node_at p (mid r.x0 r.x1) r.y0) (se_of p r) x
  pub north : x.y ≡ r.y1 → r.x0 ≤ x.x → x.x ≤ r.x1 → Held n (nw_of p r) (node_at p (mid r.x0 r.x1) r.y1) (ne_of p r) x
  pub west : x.x ≡ r.x0 → r.y0 ≤ x.y → x.y ≤ r.y1 → Held n (sw_of p r) (node_at p r.x0 (mid r.y0 r.y1)) (nw_of p r) x
  pub east : x.x ≡ r.x1 → r.y0 ≤ x.y → x.y ≤ r.y1 → Held n (se_of p r) (node_at p r.x1 (mid r.y0 r.y1)) (ne_of p r) x
