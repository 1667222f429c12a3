use Rattle.std.proofs.Common.{◌≡◌, subst}
use Rattle.std.proofs.lemmas.Result.{IfOk-weaker}
use Rattle.re_bridge_words.specs.ReduceWords.{IsReducedProductText}
use Rattle.re_frame.specs.Outcomes.{outcome_of}
use Rattle.re_frame.specs.declared.status.Status.TheVariants.{Done}
use Rattle.re_settings.specs.GivenTexts.{given_input}
use Rattle.re_bridge_words.proofs.reducing.given_output.Goals as goal

pub returns-in-Ok-clause-text : goal.returns-in-Ok-clause-text
returns-in-Ok-clause-text c =
    IfOk-weaker c.texts_output.result _ _
    (λ output gives.
    subst (λ problem. (outcome_of output).status ≡ Done → IsReducedProductText problem (given_input c.args.text.now) output.text.items) c.in-Ok.ensures.1
    (subst (λ input. (outcome_of output).status ≡ Done → IsReducedProductText c.in-Ok.texts.problem input output.text.items) c.in-Ok.ensures.2 gives))
    c.texts_output.ensures.text
