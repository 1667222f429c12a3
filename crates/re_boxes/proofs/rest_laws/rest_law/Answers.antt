use Rattle.re_boxes.proofs.Rests as rests
use Rattle.re_boxes.proofs.rest_laws.rest_law.Goals as goal

pub returns : goal.returns
returns c = rests.rest_law
