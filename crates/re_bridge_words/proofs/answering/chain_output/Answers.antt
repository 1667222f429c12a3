use Rattle.std.proofs.Common.{◌≡◌, ap, subst, sym, ◌∙◌}
use Rattle.std.proofs.lemmas.Result.{IfOk-weaker}
use Rattle.re_bridge_words.specs.BridgeWords.{IsBridgedText, IsLongerText, kind_outcome}
use Rattle.re_chains.specs.HeldBounds.{held_bound}
use Rattle.re_chains.specs.declared.chains.Chain.{Chain}
use Rattle.re_frame.specs.Outcomes.{outcome_of}
use Rattle.re_frame.specs.declared.status.Status.TheVariants.{Done}
use Rattle.re_bridge_words.proofs.answering.chain_output.Goals as goal

pub returns-in-Lower-clause-output : goal.returns-in-Lower-clause-output
returns-in-Lower-clause-output c =
    IfOk-weaker c.lower_output.result _ _
    (λ output e. e ∙ ap (λ kind. kind_outcome kind c.args.to.now c.in-Lower.chain.certificate) (sym c.in-Lower.chain.chain.lower)
    ∙ ap (λ (held : Chain). kind_outcome (held_bound held).kind c.args.to.now (held_bound held)) (sym c.in-Lower.is))
    c.lower_output.ensures.output

pub returns-in-Lower-clause-text : goal.returns-in-Lower-clause-text
returns-in-Lower-clause-text c =
    IfOk-weaker c.lower_output.result _ _
    (λ output gives. subst (λ (held : Chain). (outcome_of output).status ≡ Done → IsBridgedText c.args.to.now (held_bound held) output.text.items) (sym c.in-Lower.is)
    (subst (λ kind. (outcome_of output).status ≡ Done → IsLongerText kind c.args.to.now c.in-Lower.chain.certificate output.text.items) (sym c.in-Lower.chain.chain.lower) gives))
    c.lower_output.ensures.text
