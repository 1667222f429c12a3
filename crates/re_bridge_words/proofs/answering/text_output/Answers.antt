use Rattle.std.proofs.Common.{◌≡◌, ◌∙◌, codes, subst, sym}
use Rattle.std.proofs.lemmas.Result.{IfOk-weaker}
use Rattle.re_bridge_words.proofs.NoBridge.{fault_isnt}
use Rattle.re_bridge_words.specs.BridgeWords.{BridgeWorth, IsBridgedText}
use Rattle.re_bridge_words.specs.Laws.{NoLonger, NoWorth}
use Rattle.re_chains.specs.Chains.{chain_of}
use Rattle.re_frame.specs.Outcomes.{outcome_of, refused}
use Rattle.re_frame.specs.declared.status.Status.TheVariants.{Done}
use Rattle.re_chains.specs.TwoTexts.{back_problem}
use Rattle.re_bridge_words.proofs.answering.text_output.Goals as goal

pub returns-in-Ok-clause-text : goal.returns-in-Ok-clause-text
unfolding BridgeWorth
returns-in-Ok-clause-text c =
    IfOk-weaker c.bound_output.result _ _
    (λ output gives.
    subst (λ bound. (outcome_of output).status ≡ Done → IsBridgedText (back_problem (codes "to") c.args.text.now) (chain_of bound) output.text.items) c.in-Ok.ensures.1
    (subst (λ next. (outcome_of output).status ≡ Done → IsBridgedText next (chain_of c.in-Ok.texts.bound) output.text.items) c.in-Ok.ensures.2 gives))
    c.bound_output.ensures.text

pub returns-in-Ok-clause-no : goal.returns-in-Ok-clause-no
unfolding NoWorth
returns-in-Ok-clause-no c =
    IfOk-weaker c.bound_output.result _ _
    (λ output gives.
    subst (λ bound. outcome_of output ≡ refused (codes "no\n") → NoLonger (back_problem (codes "to") c.args.text.now) (chain_of bound)) c.in-Ok.ensures.1
    (subst (λ next. outcome_of output ≡ refused (codes "no\n") → NoLonger next (chain_of c.in-Ok.texts.bound)) c.in-Ok.ensures.2 gives))
    c.bound_output.ensures.no

pub returns-in_ok-fault_output-in-Err-Bad-clause-no : goal.returns-in_ok-fault_output-in-Err-Bad-clause-no
returns-in_ok-fault_output-in-Err-Bad-clause-no c = λ is. absurd (fault_isnt _ (sym c.in_ok-fault_output-in-Err-Bad.ensures ∙ is))
