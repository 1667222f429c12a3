use Rattle.re_labels.proofs.Strengths as strengths
use Rattle.re_labels.proofs.up_set_law.Goals as goal

pub returns : goal.returns
returns c = strengths.up_set_law
