use Rattle.std.proofs.Common.{length}
use Rattle.re_problem.proofs.ReadTexts.{nothing_left}
use Rattle.re_net.proofs.RestLines.{all_read, line_read, line_wrong, nothing_read}
use Rattle.re_net.proofs.run_texts.read_rest.Goals as goal

pub lines-init : goal.lines-init
lines-init c = nothing_read c.args.certificate.now c.args.size c.args.first c.args.text.now c.requires.within c.requires.counted

pub lines-preserved : goal.lines-preserved
lines-preserved c =
    line_read c.args.certificate.now c.args.size c.args.first c.args.text.now c.lines.place c.lines.number c.lines.rest.now c.lines.invariant _ c.cut_line-ended.result.1.now c.cut_line-ended.ensures.first c.in-Ok.next c.in-Ok.ensures
    c.cut_line-ended.ensures.filled

pub returns-in-Err : goal.returns-in-Err
returns-in-Err c =
    line_wrong c.args.certificate.now c.args.size c.args.first c.args.text.now c.lines.place c.lines.number c.lines.rest.now c.lines.invariant _ c.cut_line-ended.result.1.now c.cut_line-ended.ensures.first c.in-Err.fault c.in-Err.ensures

pub returns : goal.returns
returns c =
    all_read c.args.certificate.now c.args.size c.args.first c.args.text.now c.lines.place c.lines.number c.lines.rest.now c.lines.invariant (nothing_left (length c.lines.rest.now) c.lines-test.ensures)
