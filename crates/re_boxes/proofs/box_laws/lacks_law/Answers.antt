use Rattle.re_boxes.proofs.Grown.{lacks_law as law}
use Rattle.re_boxes.proofs.box_laws.lacks_law.Goals as goal

pub returns : goal.returns
returns c = law
