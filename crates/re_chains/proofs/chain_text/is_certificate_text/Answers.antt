use Rattle.std.proofs.Common.{sym, ◌∙◌, length, rules}
use Rattle.re_problem.proofs.ReadTexts.{nothing_left}
use Rattle.re_chains.proofs.FirstLines.{empty_passed, filled_first, none_filled}
use Rattle.re_chains.specs.ChainTexts.{is_certificate_text}
use Rattle.re_chains.proofs.chain_text.is_certificate_text.Goals as goal

pub returns-then-not-is_empty_line : goal.returns-then-not-is_empty_line
unfolding is_certificate_text
returns-then-not-is_empty_line c =
    c.begins_section.ensures.test
    ∙ sym (filled_first c.args.text.now c.lines.rest.now c.cut_line.result.0.now c.cut_line.result.1.now c.lines.invariant c.cut_line.ensures.line (search rules))

pub lines-preserved : goal.lines-preserved
lines-preserved c =
    empty_passed c.args.text.now c.lines.rest.now c.cut_line.result.0.now c.cut_line.result.1.now c.lines.invariant c.cut_line.ensures.line (search rules)

pub returns : goal.returns
unfolding is_certificate_text
returns c = sym (none_filled c.args.text.now c.lines.rest.now c.lines.invariant (nothing_left (length c.lines.rest.now) c.lines-test.ensures))
