use Rattle.std.proofs.Common.{◌∙◌, ap, arith}
use Rattle.re_problem.specs.ProblemTexts.{lines_of}
use Rattle.re_graph_words.specs.GivenInputs.{labels_from}
use Rattle.re_graph_words.proofs.LabelSteps.{labels-refused}
use Rattle.re_graph_words.proofs.labels.read_labels.Goals as goal

pub lines-preserved : goal.lines-preserved
lines-preserved c = record {
  so_far = c.lines.invariant.so_far ∙ ap (labels_from c.args.input.now c.args.nodes c.lines.current c.lines.labels.items) c.cut_line.ensures.line ∙ c.in-Ok.ensures (lines_of c.cut_line.result.1.now);
  counted = omega (arith, c.cut_line.ensures.less, c.lines.invariant.counted);
  within = omega (arith, c.cut_line.ensures.less, c.lines.invariant.within);
}

pub returns-in-Err-clause-labels : goal.returns-in-Err-clause-labels
returns-in-Err-clause-labels c =
    labels-refused _ c.args.input.now c.args.nodes c.lines.current c.cut_line.result.0.now c.lines.labels.items (lines_of c.cut_line.result.1.now) c.in-Err.fault
    (c.lines.invariant.so_far ∙ ap (labels_from c.args.input.now c.args.nodes c.lines.current c.lines.labels.items) c.cut_line.ensures.line) c.in-Err.ensures
