use Rattle.std.proofs.Common.{◌≡◌, ap, subst, sym, ◌∙◌}
use Rattle.std.proofs.lemmas.Result.{IfOk-weaker}
use Rattle.re_problem.specs.NamedProblems.{IsNamedProblem}
use Rattle.re_bridge_words.proofs.NoBridge.{no_longer}
use Rattle.re_bridge_words.specs.BridgeWords.{IsBridgedText, sound_outcome}
use Rattle.re_bridge_words.specs.Laws.{NoLonger}
use Rattle.re_cert.specs.Bounds.{Bound}
use Rattle.re_cert.specs.declared.certificate.Kind.{Kind}
use Rattle.re_cert.specs.declared.certificate.Kind.TheVariants.{Fixed, Lower, Upper}
use Rattle.re_chains.specs.Chains.{chain_kind}
use Rattle.re_frame.specs.Outcomes.{outcome_of}
use Rattle.re_frame.specs.declared.status.Status.TheVariants.{Done}
use Rattle.re_bridge_words.proofs.answering.bound_output.Goals as goal

open_kind : (kind : Kind) → chain_kind kind ≡ Fixed → ⊥
open_kind Lower e = cc
open_kind Upper e = cc
open_kind Fixed e = cc

pub sound_output-requires : goal.sound_output-requires
sound_output-requires c = subst (λ (b : Bound). b.kind ≡ Fixed → ⊥) (sym c.in_ok-chain.ensures) (open_kind c.args.bound.kind)

pub returns-clause-output : goal.returns-clause-output
returns-clause-output c = IfOk-weaker c.sound_output.result _ _ (λ output e. e ∙ ap (sound_outcome c.args.to.now) c.in_ok-chain.ensures) c.sound_output.ensures.output

pub returns-clause-text : goal.returns-clause-text
returns-clause-text c =
    IfOk-weaker c.sound_output.result _ _
    (λ output gives. subst (λ (b : Bound). (outcome_of output).status ≡ Done → IsBridgedText c.args.to.now b output.text.items) c.in_ok-chain.ensures gives)
    c.sound_output.ensures.text

pub returns-clause-no : goal.returns-clause-no
returns-clause-no c =
    IfOk-weaker c.sound_output.result _ _
    (λ output e is.
    subst (NoLonger c.args.to.now) c.in_ok-chain.ensures
    (no_longer c.no_law.ensures c.no_upper_law.ensures c.args.to.now c.in_ok-chain.chain (subst IsNamedProblem c.last-last.ensures c.names-last.ensures.problem) c.names-to.ensures.problem (sym e ∙ is)))
    c.sound_output.ensures.output
