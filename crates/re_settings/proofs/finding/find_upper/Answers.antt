use Rattle.std.proofs.Common.{◌≡◌, ◌∙◌, ap, length}
use Rattle.std.proofs.lemmas.Result.{IfOk-weaker}
use Rattle.re_given.specs.Inputs.{exchanged}
use Rattle.re_problem.specs.NamedProblems.{unnamed}
use Rattle.re_settings.proofs.Answering.{leading-by}
use Rattle.re_settings.specs.Fits.{problem_with}
use Rattle.re_settings.proofs.finding.find_upper.Goals as goal

pub returns-clause-leading : goal.returns-clause-leading
returns-clause-leading c =
    let same : problem_with c.len-count.result c.passive.result.now c.active.result.now ≡ exchanged (unnamed c.args.next.now)
    = (λ i. problem_with ((c.len-count.ensures.len ∙ ap length c.names.ensures.names) i) (c.passive.ensures.passive i) (c.active.ensures.active i)) in
    IfOk-weaker c.fit_between.result _ _ (λ o f. leading-by (unnamed c.args.problem.now) (problem_with c.len-count.result c.passive.result.now c.active.result.now) (unnamed c.args.next.now) c.args.tries _ same
    c.names-problem.ensures.problem.problem c.names.ensures.problem.problem c.requires.active c.requires.passive f) c.fit_between.ensures.found
