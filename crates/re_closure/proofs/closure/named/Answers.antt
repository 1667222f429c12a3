use Rattle.std.proofs.Common.{◌≡◌, None, Some, sym, ap, ◌∙◌}
use Rattle.re_problem.specs.NamedProblems.{NamedProblem, built}
use Rattle.re_step.specs.LabelNames.{label_names}
use Rattle.re_closure.proofs.NamedFamilies.{surely_built}
use Rattle.re_closure.proofs.closure.named.Goals as goal

pub unreachable-requires : goal.unreachable-requires
unreachable-requires c =
    let problem : NamedProblem = record { names = label_names c.args.labels; active = c.args.active; passive = c.args.passive } in
    let there : None ≡ Some problem =
    sym c.in-None.is ∙ c.build.ensures ∙ ap (λ names. built names c.args.active c.args.passive) c.in_ok-names.ensures ∙ surely_built (label_names c.args.labels) c.args.active c.args.passive c.requires.named in
    cc
