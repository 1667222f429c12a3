use Rattle.std.proofs.Common.{◌∙◌, ◌+◌, ap, arith, sym}
use Rattle.re_problem.specs.ProblemTexts.{lines_of}
use Rattle.re_judging.proofs.LineItems.{in_front, line_read}
use Rattle.re_judging.specs.LabelLines.{multisets_on}
use Rattle.re_judging.proofs.label_lines.multisets_on.Goals as goal

pub lines-preserved : goal.lines-preserved
lines-preserved c = record {
  so_far = c.lines.invariant.so_far ∙ ap (λ lines. in_front c.lines.multisets.items (multisets_on c.args.names.now c.args.degree c.lines.current lines)) c.cut_line.ensures.line
      ∙ line_read c.args.names.now c.args.degree c.lines.current c.cut_line.result.0.now (lines_of c.cut_line.result.1.now) c.lines.multisets.items c.in-Ok.multiset c.in-Ok.ensures
      ∙ ap (λ before. in_front before (multisets_on c.args.names.now c.args.degree (c.lines.current + 1) (lines_of c.cut_line.result.1.now))) (sym c.in-Ok-push.ensures.items);
  counted = omega (arith, c.cut_line.ensures.less, c.lines.invariant.counted);
  within = omega (arith, c.cut_line.ensures.less, c.lines.invariant.within);
}
