use Rattle.std.proofs.Common.{length, sym, ◌∙◌}
use Rattle.re_labels.proofs.Tests.{above_zero}
use Rattle.re_problem.proofs.ReadTexts.{nothing_left}
use Rattle.re_chains.proofs.ProblemLines.{all_read, line_read, nothing_read, refused_there, section_there}
use Rattle.re_chains.proofs.reading.read_problem_at.Goals as goal

pub lines-init : goal.lines-init
lines-init c =
    nothing_read c.new-reader.result c.args.byte c.args.number c.args.text.now c.new-reader.ensures c.requires.counted
    (c.requires.within (above_zero (length c.args.text.now) (sym c.is_empty.ensures ∙ c.if-is_empty.false)))

pub lines-preserved : goal.lines-preserved
lines-preserved c =
    let fed = c.in-Ok.ensures c.args.byte c.args.number c.lines.invariant.before c.lines.invariant.stands in
    line_read c.lines.reader c.args.byte c.args.number c.args.text.now c.lines.current c.lines.rest.now c.cut_line.result.0.now c.cut_line.result.1.now c.lines.invariant c.cut_line.ensures.line
    c.feed.new.self (sym c.begins_section.ensures.test ∙ c.if-begins_section.false) fed.0 fed.1 c.cut_line.ensures.within c.cut_line.ensures.less c.cut_line.ensures.left

pub returns-then-begins_section : goal.returns-then-begins_section
returns-then-begins_section c =
    section_there c.lines.reader c.args.byte c.args.number c.args.text.now c.lines.current c.lines.rest.now c.cut_line.result.0.now c.cut_line.result.1.now c.lines.invariant c.cut_line.ensures.line
    c.section_fault.result (sym c.begins_section.ensures.test ∙ c.if-begins_section.true) c.section_fault.ensures

pub returns-in-Err : goal.returns-in-Err
returns-in-Err c =
    refused_there c.lines.reader c.args.byte c.args.number c.args.text.now c.lines.current c.lines.rest.now c.cut_line.result.0.now c.cut_line.result.1.now c.lines.invariant c.cut_line.ensures.line
    c.in-Err.fault (sym c.begins_section.ensures.test ∙ c.if-begins_section.false) c.in-Err.ensures

pub returns : goal.returns
returns c =
    all_read c.lines.reader c.args.byte c.args.number c.args.text.now c.lines.current c.lines.rest.now c.lines.invariant (nothing_left (length c.lines.rest.now) c.lines-test.ensures) c.finish.result c.finish.ensures
