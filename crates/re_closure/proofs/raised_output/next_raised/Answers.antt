use Rattle.std.proofs.Common.{◌≡◌, ◌++◌, ◌∷◌, [], Err, Some, ap, rules, subst, sym, ◌∙◌}
use Rattle.std.specs.Prelude.{option_map}
use Rattle.re_cert.specs.Bounds.{is_bound, last_problem}
use Rattle.re_cert.specs.declared.certificate.Kind.TheVariants.{Lower}
use Rattle.re_shaping.specs.Relaxing.{relaxed_limit}
use Rattle.re_chains.specs.Chains.{IsSound, chain_with}
use Rattle.re_shaping.specs.declared.stepping.ChainStepFault.TheVariants as why
use Rattle.re_problem.specs.NamedProblems.{NamedProblem}
use Rattle.re_closure.proofs.RaisedWithin.{raised_chain-bound, raised_chain-sound}
use Rattle.re_closure.specs.Diagrams.{raised}
use Rattle.re_closure.specs.RaisedClosures.{step_to_raised}
use Rattle.re_closure.proofs.raised_output.next_raised.Goals as goal

pub returns-in-Err-clause-stop : goal.returns-in-Err-clause-stop
returns-in-Err-clause-stop c = λ fault e other.
    let same : c.in-Err.fault ≡ fault = cc in
    let passed : c.derived_step.result ≡ Err c.in-Err.fault = search rules in
    let told = c.derived_step.ensures.stop c.in-Err.fault passed (λ none. other (sym same ∙ none)) in
    ap (λ (p : NamedProblem). option_map why.Limit (relaxed_limit p (raised c.args.edges.now p))) (sym c.last.ensures) ∙ told ∙ ap Some same

pub with_step-requires : goal.with_step-requires
with_step-requires c =
    let step : c.in-Ok.step ≡ step_to_raised c.args.edges.now (last_problem c.args.chain.now.certificate) = c.in-Ok.ensures.step ∙ ap (step_to_raised c.args.edges.now) c.last.ensures in
    let written = c.in-Ok-by_rows.ensures.written in
    let limit = ap (λ (p : NamedProblem). relaxed_limit p (raised c.args.edges.now p)) (sym c.last.ensures) ∙ c.in-Ok.ensures.none in
    (λ i. is_bound (chain_with Lower (written i).first ((written i).steps ++ step i ∷ [])))
    ∙ raised_chain-bound c.args.edges.now c.args.chain.now.certificate c.steps-steps.ensures.bound c.args.chain.now.chain c.over_problems.ensures c.requires.room limit

pub returns-in-Ok-with_step-clause-chain : goal.returns-in-Ok-with_step-clause-chain
returns-in-Ok-with_step-clause-chain c =
    let step : c.in-Ok.step ≡ step_to_raised c.args.edges.now (last_problem c.args.chain.now.certificate) = c.in-Ok.ensures.step ∙ ap (step_to_raised c.args.edges.now) c.last.ensures in
    let written = c.in-Ok-by_rows.ensures.written in
    c.new.ensures ∙ c.in-Ok-with_step.ensures ∙ (λ i. chain_with Lower (written i).first ((written i).steps ++ step i ∷ []))

pub new-requires-clause-sound : goal.new-requires-clause-sound
new-requires-clause-sound c =
    let step : c.in-Ok.step ≡ step_to_raised c.args.edges.now (last_problem c.args.chain.now.certificate) = c.in-Ok.ensures.step ∙ ap (step_to_raised c.args.edges.now) c.last.ensures in
    let written = c.in-Ok-by_rows.ensures.written in
    let limit = ap (λ (p : NamedProblem). relaxed_limit p (raised c.args.edges.now p)) (sym c.last.ensures) ∙ c.in-Ok.ensures.none in
    subst IsSound (sym (c.in-Ok-with_step.ensures ∙ (λ i. chain_with Lower (written i).first ((written i).steps ++ step i ∷ []))))
    (raised_chain-sound c.args.edges.now c.args.chain.now.certificate c.steps-steps.ensures.bound c.args.chain.now.chain c.over_problems.ensures c.requires.room limit)

pub returns-in-Ok-with_step-clause-none : goal.returns-in-Ok-with_step-clause-none
returns-in-Ok-with_step-clause-none c = ap (λ (p : NamedProblem). relaxed_limit p (raised c.args.edges.now p)) (sym c.last.ensures) ∙ c.in-Ok.ensures.none
