use Rattle.std.proofs.Common.{◌≡◌, None, Some, ap, length, sym, ◌∙◌}
use Rattle.re_problem.specs.NamedProblems.{NamedProblem}
use Rattle.re_labels.specs.GoodRows.{allowed}
use Rattle.re_closure.proofs.RaisedProblems.{raised_built}
use Rattle.re_closure.specs.Diagrams.{all_below, raised, raised_constraint}
use Rattle.re_closure.proofs.diagrams.raised.Goals as goal

pub unreachable-requires : goal.unreachable-requires
unreachable-requires c =
    let problem : NamedProblem = c.args.problem.now in
    let count : c.len.result ≡ length problem.names = c.len.ensures.len ∙ ap length c.names.ensures.names in
    let sets = c.as_slice.ensures.value ∙ c.all_below-below.ensures ∙ ap (all_below c.args.edges.now) count in
    let passive : c.in-Ok.passive ≡ raised_constraint c.args.edges.now (length problem.names) problem.passive =
    c.in-Ok.ensures.allowed ∙ (λ i. record { degree = (c.passive.ensures.passive i).degree; configs = allowed (c.passive.ensures.passive i) (sets i) (c.passive.ensures.passive i).degree }) in
    let there : None ≡ Some (raised c.args.edges.now problem) =
    sym c.in-None.is ∙ c.build.ensures
    ∙ raised_built c.args.edges.now problem c.names.ensures.problem _ _ _ (c.in_ok-names.ensures ∙ c.names-2.ensures.names) (c.in_ok-active.ensures ∙ c.active.ensures.active) passive in
    cc
