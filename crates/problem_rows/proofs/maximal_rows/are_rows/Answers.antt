use Rattle.std.proofs.Common.{◌<◌}
use Rattle.std.specs.List.{AllByRecursion}
use Rattle.re_labels.specs.Configs.{IsConfig}
use Rattle.re_labels.proofs.Membership.{AllByRecursion-weaker}
use Rattle.problem_rows.proofs.maximal_rows.are_rows.Goals as goal

pub are_maximal_rows-requires-clause-below : goal.are_maximal_rows-requires-clause-below
are_maximal_rows-requires-clause-below c =
    AllByRecursion-weaker (IsConfig c.args.constraint.now.degree 128) (AllByRecursion (λ x. x < 128)) (λ config is. is.below) c.args.constraint.now.configs c.degree-degree.ensures.constraint.configs
