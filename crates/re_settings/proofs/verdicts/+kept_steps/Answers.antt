use Rattle.std.proofs.Common.{◌∙◌, sym}
use Rattle.std.proofs.lemmas.Result.{IfOk-weaker}
use Rattle.re_settings.proofs.EndNumbers.{kept-here, kept-on, some_number}
use Rattle.re_settings.proofs.verdicts.+kept_steps.Goals as goal

pub returns-then-shown : goal.returns-then-shown
returns-then-shown t c = kept-here c.args.input.now c.args.bound.now c.args.number (some_number c.args.number c.if-number-eq0.false) (sym c.in_ok-shown.ensures ∙ c.if-shown.true)

pub returns : goal.returns
returns t c =
    IfOk-weaker c.kept_steps.result _ _ (λ kept e. e ∙ kept-on c.args.input.now c.args.bound.now c.args.number (some_number c.args.number c.if-number-eq0.false) (sym c.in_ok-shown.ensures ∙ c.if-shown.false)) c.kept_steps.ensures
