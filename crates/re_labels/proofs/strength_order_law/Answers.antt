use Rattle.re_labels.proofs.Strengths as strengths
use Rattle.re_labels.proofs.strength_order_law.Goals as goal

pub returns : goal.returns
returns c = strengths.strength_order_law
