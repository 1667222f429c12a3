use Rattle.std.proofs.Common.{◌<◌, ◌∙◌, arith, length, sym}
use Rattle.re_labels.proofs.Membership.{AllByRecursion-weaker}
use Rattle.re_why.proofs.Named.{all-named, few-names}
use Rattle.re_why.proofs.pieces.push_choice.Goals as goal

pub from_labels-requires-clause-below : goal.from_labels-requires-clause-below
from_labels-requires-clause-below c = few-names c.args.names.now c.args.labels.now c.len-count.ensures.names (sym c.are_named.ensures ∙ c.if-are_named.true)
