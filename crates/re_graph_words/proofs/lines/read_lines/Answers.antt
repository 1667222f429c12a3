use Rattle.std.proofs.Common.{◌∙◌, ap, arith}
use Rattle.re_problem.specs.ProblemTexts.{lines_of}
use Rattle.re_graph_words.specs.GraphLines.{graph_from}
use Rattle.re_graph_words.proofs.LineSteps.{line-refused}
use Rattle.re_graph_words.proofs.lines.read_lines.Goals as goal

pub lines-preserved : goal.lines-preserved
lines-preserved c = record {
  so_far = c.lines.invariant.so_far ∙ ap (graph_from c.args.degrees c.lines.current c.lines.passive.items) c.cut_line.ensures.line ∙ c.in-Ok.ensures (lines_of c.cut_line.result.1.now);
  counted = omega (arith, c.cut_line.ensures.less, c.lines.invariant.counted);
  within = omega (arith, c.cut_line.ensures.less, c.lines.invariant.within);
}

pub returns-in-Err-clause-graph : goal.returns-in-Err-clause-graph
returns-in-Err-clause-graph c =
    line-refused _ c.args.degrees c.lines.current c.cut_line.result.0.now c.lines.passive.items (lines_of c.cut_line.result.1.now) c.in-Err.fault
    (c.lines.invariant.so_far ∙ ap (graph_from c.args.degrees c.lines.current c.lines.passive.items) c.cut_line.ensures.line) c.in-Err.ensures
