use Rattle.std.proofs.Common.{◌≡◌, ◌++◌, ◌∷◌, [], true, sym, ap, ◌∙◌, subst}
use Rattle.re_cert.specs.Bounds.{Bound, is_bound}
use Rattle.re_chains.specs.Chains.{IsSoundChain}
use Rattle.re_chains.specs.Chains.{chain_kind}
use Rattle.re_shaping.proofs.MoreSteps.{bound_holds, held-stepped, step_holds}
use Rattle.re_shaping.proofs.stepping.with_step.Goals as goal

pub built-requires : goal.built-requires
built-requires c =
    subst (λ (b : Bound). is_bound b ≡ true)
    (sym (held-stepped c.args.certificate.now c.chain_kind-kind.result c.in_ok-first.first c.push.new.self.items c.new.result.items
    (c.chain_kind-kind.ensures ∙ ap chain_kind c.kind.ensures.kind) (c.in_ok-first.ensures ∙ c.first.ensures.first)
    (c.in_ok-push.ensures.items ∙ (λ i. (c.in_ok-steps.ensures ∙ c.steps.ensures.steps) i ++ c.requires.step i ∷ [])) c.new.ensures.items))
    (bound_holds c.args.certificate.now c.kind.ensures.bound c.over_problems.ensures c.requires.room)

pub returns-clause-sound : goal.returns-clause-sound
returns-clause-sound c = λ sound.
    subst IsSoundChain
    (sym (c.built.ensures
    ∙ held-stepped c.args.certificate.now c.chain_kind-kind.result c.in_ok-first.first c.push.new.self.items c.new.result.items
    (c.chain_kind-kind.ensures ∙ ap chain_kind c.kind.ensures.kind) (c.in_ok-first.ensures ∙ c.first.ensures.first)
    (c.in_ok-push.ensures.items ∙ (λ i. (c.in_ok-steps.ensures ∙ c.steps.ensures.steps) i ++ c.requires.step i ∷ [])) c.new.ensures.items))
    (step_holds c.args.certificate.now (record { bound = c.kind.ensures.bound; problems = c.over_problems.ensures; sound = sound }) c.requires.room)
