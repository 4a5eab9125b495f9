use Rattle.std.proofs.Common.{sym, ap, ◌∙◌, length, arith, subst}
use Rattle.table.specs.Mesh.{is_leaf}
use Rattle.table.specs.Tables.{cells}
use Rattle.table.proofs.Tables.{few_pass}
use Rattle.places.specs.Leaves.{leaves_of, AreSound}
use Rattle.places.proofs.Board.{entries-length, entries_are, entries_sound}
use Rattle.places.proofs.Leaves.of.Goals as goal

pub returns-clause-leaves : goal.returns-clause-leaves
returns-clause-leaves c =
    let t = c.args.table.now in
    let r = c.requires in
    ap (leaves_of c.args.polygons c.args.sheets.now) r.listed
    ∙ entries_are t.row.now t.head c.args.polygons c.args.sheets.now r.few_polygons r.known

pub invariant_of-result-clause-few : goal.invariant_of-result-clause-few
invariant_of-result-clause-few c =
    let t = c.args.table.now in
    omega (arith, ap length c.requires.listed, entries-length t.row.now t.head t.formed, few_pass (is_leaf (cells t)) 0 t.head.count, t.within, t.slots)

pub invariant_of-result-clause-sound : goal.invariant_of-result-clause-sound
invariant_of-result-clause-sound c =
    let t = c.args.table.now in
    subst (AreSound (length c.args.polygons.layers.now)) (sym c.requires.listed)
    (entries_sound t.row.now t.head c.args.polygons c.args.sheets.now t.formed c.requires.known)
