use Rattle.std.proofs.Common.{◌≡◌, ◌+◌, arith, length, subst}
use Rattle.re_problem.proofs.ReadTexts.{nothing_left}
use Rattle.re_texts.proofs.ReadTexts.{ReadSoFar, all_read, line_read, line_wrong, nothing_read}
use Rattle.re_texts.proofs.map_texts.read_map.Goals as goal

pub lines-init : goal.lines-init
lines-init c = nothing_read c.args.kind c.args.text.now

pub lines-preserved : goal.lines-preserved
lines-preserved c =
    let same : c.lines.byte + length c.cut_line.result.0.now + 1 ≡ c.lines.byte + (length c.cut_line.result.0.now + 1) = omega arith in
    subst (λ b. ReadSoFar c.args.kind c.args.text.now c.in-Ok.next b (c.lines.number + 1) c.cut_line.result.1.now) same
    (line_read c.args.kind c.args.text.now c.lines.place c.lines.byte c.lines.number c.lines.rest.now c.cut_line.result.0.now c.cut_line.result.1.now c.lines.invariant c.cut_line.ensures.line c.in-Ok.next
    (c.in-Ok.ensures c.lines.invariant.state c.lines.invariant.at) c.cut_line.ensures.within c.cut_line.ensures.less c.cut_line.ensures.left)

pub returns-in-Err : goal.returns-in-Err
returns-in-Err c =
    line_wrong c.args.kind c.args.text.now c.lines.place c.lines.byte c.lines.number c.lines.rest.now c.cut_line.result.0.now c.cut_line.result.1.now c.lines.invariant c.cut_line.ensures.line c.in-Err.fault
    (c.in-Err.ensures c.lines.invariant.state c.lines.invariant.at)

pub returns : goal.returns
returns c =
    all_read c.args.kind c.args.text.now c.lines.place c.lines.byte c.lines.number c.lines.rest.now c.lines.invariant (nothing_left (length c.lines.rest.now) c.lines-test.ensures) c.end_lines.result c.end_lines.ensures
