use Rattle.re_boxes.proofs.Grown.{grown_law as law}
use Rattle.re_boxes.proofs.box_laws.grown_law.Goals as goal

pub returns : goal.returns
returns c = law
