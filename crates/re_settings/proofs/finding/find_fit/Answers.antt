use Rattle.std.proofs.Common.{◌≡◌, ◌∙◌, ap, length}
use Rattle.std.proofs.lemmas.Result.{IfOk-weaker}
use Rattle.re_problem.specs.NamedProblems.{unnamed}
use Rattle.re_settings.proofs.Answering.{answered-by}
use Rattle.re_settings.specs.Fits.{problem_with}
use Rattle.re_settings.proofs.finding.find_fit.Goals as goal

pub returns-clause-answer : goal.returns-clause-answer
returns-clause-answer c =
    let same : problem_with c.len-count.result c.active.result.now c.passive.result.now ≡ unnamed c.args.input.now
    = (λ i. problem_with ((c.len-count.ensures.len ∙ ap length c.names.ensures.names) i) (c.active.ensures.active i) (c.passive.ensures.passive i)) in
    IfOk-weaker c.fit_between.result _ _ (λ o f. answered-by (unnamed c.args.problem.now) (problem_with c.len-count.result c.active.result.now c.passive.result.now) (unnamed c.args.input.now) c.args.tries _ same
    c.names-problem.ensures.problem.problem c.requires.input f) c.fit_between.ensures.found
