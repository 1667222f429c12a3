use Rattle.std.proofs.Common.{◌≡◌, Some, ap, arith, length, subst, rules, sym, ◌∙◌}
use Rattle.std.specs.Prelude.{option_map}
use Rattle.re_shaping.specs.Relaxing.{relaxed_limit, relaxed_step}
use Rattle.re_shaping.specs.declared.stepping.ChainStepFault.TheVariants as why
use Rattle.re_labels.specs.Configs.{image_at}
use Rattle.re_labels.proofs.Membership.{length-count_from}
use Rattle.re_labels.specs.Lists.{count_from}
use Rattle.re_problem.specs.NamedProblems.{NamedProblem, unnamed}
use Rattle.re_problem.specs.Steps.{IsRelaxed}
use Rattle.re_closure.proofs.RaisedProblems.{raised-relaxed}
use Rattle.re_closure.proofs.RaisedWithin.{own_relaxed}
use Rattle.re_closure.specs.Diagrams.{raised}
use Rattle.re_closure.proofs.raised_output.derived_step.Goals as goal
use Rattle.re_closure_laws.proofs.Itself.{own_image}

pub relaxed_step-requires-clause-count : goal.relaxed_step-requires-clause-count
relaxed_step-requires-clause-count c =
    let n = c.len.ensures.len ∙ ap length c.names.ensures.names in
    ap length (c.as_slice.ensures.value ∙ c.all_labels-labels.ensures) ∙ length-count_from 0 c.len.result ∙ n

pub relaxed_step-requires-clause-below : goal.relaxed_step-requires-clause-below
relaxed_step-requires-clause-below c = λ label low.
    let n = c.len.ensures.len ∙ ap length c.names.ensures.names in
    let all = c.as_slice.ensures.value ∙ c.all_labels-labels.ensures ∙ ap (count_from 0) n in
    let image : image_at c.as_slice.result.now label ≡ label = ap (λ l. image_at l label) all ∙ own_image (length c.args.problem.now.names) label low in
    let names : length c.in-Ok.raised.names ≡ length c.args.problem.now.names = ap (λ (p : NamedProblem). length p.names) c.in-Ok.ensures.raised in
    omega (arith, image, names, low)

pub relaxed_step-requires-clause-relaxed : goal.relaxed_step-requires-clause-relaxed
relaxed_step-requires-clause-relaxed c =
    let n = c.len.ensures.len ∙ ap length c.names.ensures.names in
    let all = c.as_slice.ensures.value ∙ c.all_labels-labels.ensures ∙ ap (count_from 0) n in
    let problem : NamedProblem = c.args.problem.now in
    let is = own_relaxed problem (raised c.args.edges.now problem) c.names.ensures.problem (raised-relaxed c.args.edges.now problem c.names.ensures.problem) in
    subst (λ images. IsRelaxed (unnamed problem) (unnamed c.in-Ok.raised) (image_at images)) (sym all)
    (subst (λ (p : NamedProblem). IsRelaxed (unnamed problem) (unnamed p) (image_at (count_from 0 (length problem.names)))) (sym c.in-Ok.ensures.raised) is)

pub returns-in-Ok-relaxed_step-clause-step : goal.returns-in-Ok-relaxed_step-clause-step
returns-in-Ok-relaxed_step-clause-step c =
    let n = c.len.ensures.len ∙ ap length c.names.ensures.names in
    let all = c.as_slice.ensures.value ∙ c.all_labels-labels.ensures ∙ ap (count_from 0) n in
    c.in-Ok-relaxed_step.ensures.step ∙ (λ i. relaxed_step (image_at (all i)) c.args.problem.now (c.in-Ok.ensures.raised i))

pub returns-in-Ok-relaxed_step-clause-none : goal.returns-in-Ok-relaxed_step-clause-none
returns-in-Ok-relaxed_step-clause-none c = ap (relaxed_limit c.args.problem.now) (sym c.in-Ok.ensures.raised) ∙ c.in-Ok-relaxed_step.ensures.none

pub returns-in-Err-Limit-relaxed_step-clause-stop : goal.returns-in-Err-Limit-relaxed_step-clause-stop
returns-in-Err-Limit-relaxed_step-clause-stop c = λ fault e other.
    let same : why.Limit c.in-Err-Limit-relaxed_step.limit ≡ fault = cc in
    let told = c.relaxed_step.ensures.limit c.in-Err-Limit-relaxed_step.limit (search rules) in
    ap (option_map why.Limit) (ap (relaxed_limit c.args.problem.now) (sym c.in-Ok.ensures.raised) ∙ told) ∙ ap Some same
