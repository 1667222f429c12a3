use Rattle.std.proofs.Common.{◌≡◌, ◌<◌, ◌∷◌, [], Err, None, ap, length, sym, ◌∙◌}
use Rattle.re_cert.specs.Bounds.{is_bound}
use Rattle.re_chains.specs.Chains.{chain_with}
use Rattle.re_problem.specs.NamedProblems.{NamedProblem}
use Rattle.re_shaping.proofs.FirstSteps.{err_is}
use Rattle.re_shaping.proofs.Laws.{begun-last, begun-limit, begun-merged, first_merged-bound, may-merge}
use Rattle.re_shaping.specs.Merging.{first_merged, merged_problem}
use Rattle.re_shaping.specs.Relaxing.{relaxed_limit}
use Rattle.re_shaping.proofs.merging.merged_first.Goals as goal

pub returns-in_err-step-clause-limit : goal.returns-in_err-step-clause-limit
returns-in_err-step-clause-limit c = λ limit e.
    sym (begun-limit c.args.from c.args.to c.args.certificate.now c.requires.none)
    ∙ ap (λ (p : NamedProblem). relaxed_limit p (merged_problem c.args.from c.args.to p)) (sym c.first.ensures.first)
    ∙ c.in_err-step.ensures.limit limit (ap Err (err_is c.from_residual.result c.in_err-step.field-0.0 _ c.from_residual.ensures.1 e))

pub begun-requires : goal.begun-requires
begun-requires c =
    let may = may-merge c.args.from c.args.to c.args.certificate.now c.requires.may in
    let to : c.args.to < length c.args.certificate.now.first.names = begun-last (λ (p : NamedProblem). c.args.to < length p.names) c.args.certificate.now c.requires.none may.to in
    let step : c.in_ok-step.step ≡ first_merged c.args.from c.args.to c.args.certificate.now.first = c.in_ok-step.ensures.step ∙ ap (first_merged c.args.from c.args.to) c.first.ensures.first in
    let limit : relaxed_limit c.args.certificate.now.first (merged_problem c.args.from c.args.to c.args.certificate.now.first) ≡ None =
    ap (λ (p : NamedProblem). relaxed_limit p (merged_problem c.args.from c.args.to p)) (sym c.first.ensures.first) ∙ c.in_ok-step.ensures.none in
    (λ i. is_bound (chain_with (c.kind.ensures.kind i) (c.first-2.ensures.first i) (step i ∷ [])))
    ∙ first_merged-bound c.args.from c.args.to c.args.certificate.now.first to may.apart c.over_problems.ensures.first limit c.args.certificate.now.kind may.lower

pub returns-clause-merged : goal.returns-clause-merged
returns-clause-merged c =
    let step : c.in_ok-step.step ≡ first_merged c.args.from c.args.to c.args.certificate.now.first = c.in_ok-step.ensures.step ∙ ap (first_merged c.args.from c.args.to) c.first.ensures.first in
    c.in_ok-begun.ensures ∙ (λ i. chain_with (c.kind.ensures.kind i) (c.first-2.ensures.first i) (step i ∷ [])) ∙ begun-merged c.args.from c.args.to c.args.certificate.now c.requires.none

pub returns-clause-none : goal.returns-clause-none
returns-clause-none c =
    sym (begun-limit c.args.from c.args.to c.args.certificate.now c.requires.none)
    ∙ ap (λ (p : NamedProblem). relaxed_limit p (merged_problem c.args.from c.args.to p)) (sym c.first.ensures.first) ∙ c.in_ok-step.ensures.none
