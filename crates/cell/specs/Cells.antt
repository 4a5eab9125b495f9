-- The cell that the code passes by value, and what its constructors and methods hand back.
use Rattle.std.specs.Prelude.{ℕ, ◌+◌}
use Rattle.cell.specs.declared.Cell.{Cell}
use Rattle.cell.specs.Boxes.{Box, Quad, mid, quadrant}

-- marks no parent and no child
abbrev pub no_cell : ℕ
no_cell = 4294967295

abbrev pub box_of : Cell → Box
box_of c = record { x0 = c.x0; y0 = c.y0; x1 = c.x1; y1 = c.y1 }

-- the cell with another box
abbrev pub boxed : Cell → Box → Cell
boxed c b =
    record {
      x0 = b.x0;
      y0 = b.y0;
      x1 = b.x1;
      y1 = b.y1;
      level = c.level;
      parent = c.parent;
      first = c.first;
      poly = c.poly;
    }

abbrev pub root_of : ℕ → ℕ → ℕ → ℕ → ℕ → Cell
root_of x0 y0 x1 y1 poly =
    record { x0 = x0; y0 = y0; x1 = x1; y1 = y1; level = 0; parent = no_cell; first = no_cell; poly = poly }

-- the point at which a cell is cut
abbrev pub centre : Cell → Cell
centre c =
    boxed c (record { x0 = mid c.x0 c.x1; y0 = mid c.y0 c.y1; x1 = mid c.x0 c.x1; y1 = mid c.y0 c.y1 })

abbrev pub cut_to : Quad → Cell → Cell
cut_to q c = boxed c (quadrant (box_of c) q)

-- the child in a quadrant of the cell c, whose id is given
abbrev pub child_of : ℕ → Quad → Cell → Cell
child_of id q c =
    record {
      x0 = (quadrant (box_of c) q).x0;
      y0 = (quadrant (box_of c) q).y0;
      x1 = (quadrant (box_of c) q).x1;
      y1 = (quadrant (box_of c) q).y1;
      level = c.level + 1;
      parent = id;
      first = no_cell;
      poly = c.poly;
    }
