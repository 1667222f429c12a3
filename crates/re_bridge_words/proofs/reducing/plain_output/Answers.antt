use Rattle.std.proofs.Common.{◌≡◌, subst}
use Rattle.std.proofs.lemmas.Result.{IfOk-weaker}
use Rattle.re_bridge_words.specs.ReduceWords.{IsReducedText}
use Rattle.re_frame.specs.Outcomes.{outcome_of}
use Rattle.re_frame.specs.declared.status.Status.TheVariants.{Done}
use Rattle.re_bridge_words.proofs.reducing.plain_output.Goals as goal

pub returns-in-Ok-clause-text : goal.returns-in-Ok-clause-text
returns-in-Ok-clause-text c =
    IfOk-weaker c.reduced_output.result _ _
    (λ output gives. subst (λ problem. (outcome_of output).status ≡ Done → IsReducedText problem output.text.items) c.in-Ok.ensures.1 gives)
    c.reduced_output.ensures.text
