use Rattle.re_boxes.proofs.StrengthTests.{strength_law as law}
use Rattle.re_boxes.proofs.box_laws.strength_law.Goals as goal

pub returns : goal.returns
returns c = law
