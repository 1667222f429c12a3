use Rattle.std.proofs.Common.{subst, sym}
use Rattle.re_settings.proofs.Judged.{judged}
use Rattle.re_settings.specs.InputProblems.{IsJudged}
use Rattle.re_settings.proofs.inputs.input_fault.Goals as goal

pub returns-clause-judged : goal.returns-clause-judged
returns-clause-judged c = subst (IsJudged c.args.problem.now c.args.input.now) (sym c.fault_of.ensures) (judged c.args.problem.now c.args.input.now c.names-names.ensures.problem)
