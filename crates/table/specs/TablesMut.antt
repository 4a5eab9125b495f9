-- What a table holds that is being split.
use Rattle.std.specs.Prelude.{List}
use Rattle.table.specs.Mesh.{Cell}
use Rattle.table.specs.Rows.{cells_in}
use Rattle.table.specs.declared.edit.TableMut.{TableMut}

-- the cells, by id
abbrev pub cells_mut : TableMut → List Cell
cells_mut t = cells_in t.row.now t.head
