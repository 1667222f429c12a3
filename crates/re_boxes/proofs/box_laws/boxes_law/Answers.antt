use Rattle.re_boxes.proofs.BoxLaw.{boxes_law as law}
use Rattle.re_boxes.proofs.box_laws.boxes_law.Goals as goal

pub returns : goal.returns
returns c = law
