use Rattle.std.proofs.Common.{◌≡◌, ap, subst, sym, ◌∙◌}
use Rattle.std.proofs.lemmas.Result.{IfOk-weaker}
use Rattle.re_bridge_words.specs.BridgeWords.{IsBridgedText, kind_outcome}
use Rattle.re_cert.specs.Bounds.{Bound}
use Rattle.re_chains.specs.OverChains.{or_refusal}
use Rattle.re_frame.specs.Outcomes.{outcome_of}
use Rattle.re_frame.specs.declared.status.Status.TheVariants.{Done}
use Rattle.re_bridge_words.proofs.answering.sound_output.Goals as goal

pub returns-in-Ok-clause-output : goal.returns-in-Ok-clause-output
returns-in-Ok-clause-output c =
    IfOk-weaker c.chain_output.result _ _
    (λ output e. e ∙ ap (λ (b : Bound). kind_outcome b.kind c.args.to.now b) c.in-Ok.ensures.0
    ∙ ap (λ refusal. or_refusal refusal (kind_outcome c.args.chain.kind c.args.to.now c.args.chain)) (sym c.in-Ok.ensures.1))
    c.chain_output.ensures.output

pub returns-in-Ok-clause-text : goal.returns-in-Ok-clause-text
returns-in-Ok-clause-text c =
    IfOk-weaker c.chain_output.result _ _
    (λ output gives. subst (λ (b : Bound). (outcome_of output).status ≡ Done → IsBridgedText c.args.to.now b output.text.items) c.in-Ok.ensures.0 gives)
    c.chain_output.ensures.text
