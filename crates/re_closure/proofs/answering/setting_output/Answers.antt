use Rattle.std.proofs.Common.{inl, inr, subst}
use Rattle.std.proofs.lemmas.Result.{IfOk-weaker}
use Rattle.re_settings.specs.Settings.{RefusesInput}
use Rattle.re_problem.specs.NamedProblems.{NamedProblem}
use Rattle.re_closure.proofs.answering.setting_output.Goals as goal

pub returns-in-Some : goal.returns-in-Some
returns-in-Some c =
    let refuses = subst (λ (p : NamedProblem). RefusesInput p c.args.setting.now c.in_ok-output.field-0) c.first.ensures.first c.in_ok-output.ensures in
    inl (subst (RefusesInput c.args.chain.first c.args.setting.now) c.in-Some.is refuses).1

pub returns-in-None : goal.returns-in-None
returns-in-None c =
    let refuses = subst (λ (p : NamedProblem). RefusesInput p c.args.setting.now c.in_ok-output.field-0) c.first.ensures.first c.in_ok-output.ensures in
    let is = subst (RefusesInput c.args.chain.first c.args.setting.now) c.in-None.is refuses in
    IfOk-weaker c.chain_output.result _ _ (λ output may. inr (is, may)) (c.chain_output.ensures c.args.chain c.judged_chain.ensures)
