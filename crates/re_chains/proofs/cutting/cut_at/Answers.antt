use Rattle.std.proofs.Common.{length, sym, ◌∙◌}
use Rattle.re_problem.proofs.ReadTexts.{nothing_left}
use Rattle.re_chains.proofs.CutLines.{behind_there, byte_there, front_there, counted_there, has_there, line_passed, no_longer, none_there, nothing_cut, number_there, within_there}
use Rattle.re_chains.proofs.cutting.cut_at.Goals as goal

pub lines-init : goal.lines-init
lines-init c = nothing_cut c.args.name.now c.args.text.now

pub lines-preserved : goal.lines-preserved
lines-preserved c =
    line_passed c.args.name.now c.args.text.now c.lines.byte c.lines.number c.lines.rest.now c.cut_line.result.0.now c.cut_line.result.1.now c.lines.invariant c.cut_line.ensures.line
    (sym c.is_line.ensures ∙ c.if-is_line.false) c.cut_line.ensures.within c.cut_line.ensures.less c.cut_line.ensures.left

pub returns-then-is_line : goal.returns-then-is_line
returns-then-is_line c =
    let here = sym c.is_line.ensures ∙ c.if-is_line.true in record {
      has = has_there c.args.name.now c.args.text.now c.lines.byte c.lines.number c.lines.rest.now c.cut_line.result.0.now c.cut_line.result.1.now c.lines.invariant c.cut_line.ensures.line here;
      front = front_there c.args.name.now c.args.text.now c.lines.byte c.lines.number c.lines.rest.now c.cut_line.result.0.now c.cut_line.result.1.now c.lines.invariant c.cut_line.ensures.line here;
      behind = behind_there c.args.name.now c.args.text.now c.lines.byte c.lines.number c.lines.rest.now c.cut_line.result.0.now c.cut_line.result.1.now c.lines.invariant c.cut_line.ensures.line here;
      byte = byte_there c.args.name.now c.args.text.now c.lines.byte c.lines.number c.lines.rest.now c.cut_line.result.0.now c.cut_line.result.1.now c.lines.invariant c.cut_line.ensures.line here;
      number = number_there c.args.name.now c.args.text.now c.lines.byte c.lines.number c.lines.rest.now c.cut_line.result.0.now c.cut_line.result.1.now c.lines.invariant c.cut_line.ensures.line here;
      counted = counted_there c.args.name.now c.args.text.now c.lines.byte c.lines.number c.lines.rest.now c.cut_line.result.0.now c.cut_line.result.1.now c.lines.invariant c.cut_line.ensures.line;
      few = no_longer c.lines.byte c.args.text.now;
      within = within_there c.args.name.now c.args.text.now c.lines.byte c.lines.number c.lines.rest.now c.cut_line.result.0.now c.cut_line.result.1.now c.lines.invariant c.cut_line.ensures.line c.cut_line.ensures.less
          c.cut_line.ensures.left;
    }

pub returns : goal.returns
returns c = none_there c.args.name.now c.args.text.now c.lines.byte c.lines.number c.lines.rest.now c.lines.invariant (nothing_left (length c.lines.rest.now) c.lines-test.ensures)
