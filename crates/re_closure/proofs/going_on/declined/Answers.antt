use Rattle.std.proofs.Common.{subst, sym}
use Rattle.std.specs.Prelude.{IfOk}
use Rattle.std.proofs.lemmas.Result.{IfOk-weaker}
use Rattle.re_settings.specs.declared.setting.Setting.{Setting}
use Rattle.re_closure.proofs.GivenTaken.{judged_fixed}
use Rattle.re_closure.specs.ClosureWords.{IsJudgedFixed}
use Rattle.re_closure.proofs.going_on.declined.Goals as goal

pub returns : goal.returns
returns c =
    subst (λ (s : Setting). IfOk c.given_refusal.result (IsJudgedFixed s c.args.chain.now c.args.fixed.now)) (sym c.in-Given.is)
    (IfOk-weaker c.given_refusal.result _ _ (λ found refuses. judged_fixed c.in-Given.input c.args.chain.now c.args.fixed.now c.taken_law.ensures c.names-names.ensures.problem c.requires found refuses)
    c.given_refusal.ensures)
