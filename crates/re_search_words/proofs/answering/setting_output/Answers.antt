use Rattle.std.proofs.Common.{inl, inr, subst}
use Rattle.std.proofs.lemmas.Result.{IfOk-weaker}
use Rattle.re_settings.specs.Settings.{RefusesInput}
use Rattle.re_problem.specs.NamedProblems.{NamedProblem}
use Rattle.re_search_words.proofs.answering.setting_output.Goals as goal

pub returns-in-Some : goal.returns-in-Some
returns-in-Some c =
    let refuses = subst (λ (p : NamedProblem). RefusesInput p c.args.setting.now c.in_ok-output.field-0) c.first.ensures.first c.in_ok-output.ensures in
    inl (subst (RefusesInput c.args.certificate.first c.args.setting.now) c.in-Some.is refuses).1

pub returns-in-None : goal.returns-in-None
returns-in-None c =
    let refuses = subst (λ (p : NamedProblem). RefusesInput p c.args.setting.now c.in_ok-output.field-0) c.first.ensures.first c.in_ok-output.ensures in
    let is = subst (RefusesInput c.args.certificate.first c.args.setting.now) c.in-None.is refuses in
    IfOk-weaker c.sound_output.result _ _ (λ output may. inr (is, may)) c.sound_output.ensures
