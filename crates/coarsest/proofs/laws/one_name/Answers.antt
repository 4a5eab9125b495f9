use Rattle.coarsest.proofs.Find.{named, tells}
use Rattle.coarsest.proofs.Numbered.{name-one}
use Rattle.coarsest.proofs.laws.one_name.Goals as goal

pub returns : goal.returns
returns c = λ M t formed i h.
    (let n = named M t formed i h in
    let w = tells M t formed n.root n.path i n.found in
    (n.root, n.path, n.found, w.box, w.level, λ s q f. name-one M t formed s n.root q n.path i f n.found))
