use Rattle.std.proofs.Common.{◌∷◌}
use Rattle.re_boxes.proofs.NextLabels.{next-test}
use Rattle.re_boxes.specs.Spans.{tree_of}
use Rattle.re_boxes.proofs.visiting.is_next.Goals as goal

pub returns-in-None : goal.returns-in-None
returns-in-None c = λ other ending e. absurd (c.in-None.ensures (other ∷ ending) e)

pub returns-in-Some : goal.returns-in-Some
returns-in-Some c = next-test (tree_of c.args.constraint.now c.args.nodes.now) c.args.depth c.args.span c.in-Some.first c.args.label c.in-Some.ensures.1 c.requires.least
