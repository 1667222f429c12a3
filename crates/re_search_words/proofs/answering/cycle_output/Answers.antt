use Rattle.std.proofs.Common.{inl, inr, subst}
use Rattle.std.proofs.lemmas.Result.{IfOk-weaker}
use Rattle.re_settings.specs.Settings.{RefusesIn}
use Rattle.re_search_words.proofs.answering.cycle_output.Goals as goal

pub returns-in-Some : goal.returns-in-Some
returns-in-Some c = inr (subst (RefusesIn c.args.setting.now c.args.chain.now.certificate) c.in-Some.is c.in_ok-output.ensures)

pub returns-in-None : goal.returns-in-None
returns-in-None c =
    IfOk-weaker c.cycle_found.result _ _ (λ output may. inl (subst (RefusesIn c.args.setting.now c.args.chain.now.certificate) c.in-None.is c.in_ok-output.ensures, may)) c.cycle_found.ensures
