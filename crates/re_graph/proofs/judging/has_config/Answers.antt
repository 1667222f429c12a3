use Rattle.std.proofs.Common.{sym}
use Rattle.re_labels.specs.declared.TheConstants.{MAX_LABELS}
use Rattle.re_choice.proofs.LabelTests.{below-all}
use Rattle.re_graph.proofs.Judged.{other-count, too-great}
use Rattle.re_graph.proofs.judging.has_config.Goals as goal

pub returns-then-not-has_count : goal.returns-then-not-has_count
returns-then-not-has_count c = other-count MAX_LABELS c.args.constraint.now c.args.labels.now c.degree-degree.ensures.constraint c.if-not-has_count.ensures

pub returns-then-not-are_labels : goal.returns-then-not-are_labels
returns-then-not-are_labels c = too-great c.args.constraint.now c.args.labels.now c.degree-degree.ensures.constraint c.if-not-are_labels.ensures

pub is_config-requires-clause-labels : goal.is_config-requires-clause-labels
is_config-requires-clause-labels c = below-all MAX_LABELS c.args.labels.now (sym c.if-not-are_labels.ensures)
