use Rattle.std.proofs.Common.{◌-◌, ◌∙◌, ap, subst}
use Rattle.re_chains.specs.ChainTexts.{ReadRefuses, chain_fault}
use Rattle.re_chains.specs.TwoTexts.{at_line}
use Rattle.re_chains.specs.declared.reading.TwoTexts.{TwoTexts}
use Rattle.re_chains.proofs.Wholes.{chain_read, chain_wrong, problem_wrong}
use Rattle.re_chains.proofs.reading.read_chain_two.Goals as goal

pub returns-in-Err-Bad : goal.returns-in-Err-Bad
returns-in-Err-Bad c =
    chain_wrong c.args.name.now c.args.text.now c.in-Some.cut c.in-Some.ensures c.in-Err-Bad.fault c.at_line.result
    (subst (ReadRefuses (chain_fault c.in-Some.cut.front.now)) c.in-Err-Bad.field-0-is c.in-Err-Bad.ensures)
    (c.at_line.ensures ∙ ap (at_line (c.in-Some.cut.number - 1)) c.in-Err-Bad.fault-is)

pub returns-in-Ok-read_problem_at : goal.returns-in-Ok-read_problem_at
returns-in-Ok-read_problem_at c =
    let texts : TwoTexts = record { bound = c.in-Ok.chain; problem = c.in-Ok-read_problem_at.problem } in
    chain_read c.args.name.now c.args.text.now c.in-Some.cut c.in-Some.ensures texts c.in-Ok.ensures.0 c.in-Ok.ensures.1 c.in-Ok-read_problem_at.ensures.0 c.in-Ok-read_problem_at.ensures.1

pub returns-in-Err : goal.returns-in-Err
returns-in-Err c = problem_wrong c.args.name.now c.args.text.now c.in-Some.cut c.in-Some.ensures c.in-Err.fault c.in-Ok.ensures.0 c.in-Err.ensures
