-- The rules' lines of `leafnet`, each without its newline.
use Rattle.std.specs.Prelude.{ℕ, zero, suc, ◌/◌, ◌%◌, List, [], ◌∷◌, ◌++◌, codes, decimal, false}
use Rattle.std.specs.Fmt.{signed_decimal, digit_glyph}
use Rattle.std.specs.Float.{binary64}
use Rattle.std.specs.Float.Ieee.{to_bits}
use Rattle.refusals.specs.Said.{Said, accepted, refused}
use Rattle.cell.specs.declared.rectangles.Rect.{Rect}
use Rattle.net_rows.specs.declared.rows.Node.{Node}
use Rattle.net_rows.specs.declared.rows.Edge.{Edge}
use Rattle.leafnet_text.specs.declared.lines.Totals.{Totals}
use Rattle.leafnet_text.specs.declared.lines.Leaf.{Leaf}

abbrev pub space : List ℕ
space = codes " "

abbrev pub totals_line : Totals → List ℕ
totals_line t =
    codes "cells " ++ (decimal t.cells
    ++ (codes " leaves " ++ (decimal t.leaves
    ++ (codes " nodes " ++ (decimal t.nodes
    ++ (codes " edges " ++ (decimal t.edges
    ++ (codes " splits " ++ decimal t.splits))))))))

-- x0 y0 x1 y1
abbrev pub corners_text : Rect → List ℕ
corners_text r =
    signed_decimal r.x0 ++ (space ++ (signed_decimal r.y0 ++ (space ++ (signed_decimal r.x1 ++ (space ++ signed_decimal r.y1)))))

-- id polygon level, and the corners
abbrev pub leaf_line : Leaf → List ℕ
leaf_line l =
    codes "leaf " ++ (decimal l.id ++ (space ++ (decimal l.polygon ++ (space ++ (decimal l.level ++ (space ++ corners_text l.rect))))))

-- number layer component x y
abbrev pub node_line : ℕ → Node → List ℕ
node_line number n =
    codes "node " ++ (decimal number ++ (space ++ (decimal n.layer ++ (space ++ (decimal n.component
    ++ (space ++ (signed_decimal n.x ++ (space ++ signed_decimal n.y))))))))

-- the last k digits of n in base 16, in lower case: zeros stand in front of a number of fewer
abbrev pub last_hex : ℕ → ℕ → List ℕ
last_hex zero n = []
last_hex (suc k) n = last_hex k (n / 16) ++ (digit_glyph false (n % 16) ∷ [])

-- 64 bits
abbrev pub hex_16 : ℕ → List ℕ
hex_16 n = last_hex 16 n

-- the two ends, and the conductance's binary64 bits
abbrev pub edge_line : Edge → List ℕ
edge_line e =
    codes "edge " ++ (decimal e.from ++ (space ++ (decimal e.to ++ (space ++ hex_16 (to_bits binary64 e.conductance)))))

-- a line and its newline
abbrev pub ended : List ℕ → List ℕ
ended line = line ++ codes "\n"

-- number and place of a refusal
abbrev pub refusal_line : Said → List ℕ
refusal_line (refused number place) = codes "refused " ++ (decimal number ++ (space ++ decimal place))
refusal_line (accepted values) = []
