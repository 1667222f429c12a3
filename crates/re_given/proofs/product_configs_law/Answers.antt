use Rattle.re_given.proofs.Pairs.{from_parts, parts}
use Rattle.re_given.proofs.product_configs_law.Goals as goal

pub returns : goal.returns
returns c = λ problem input pairs is is_input. (
  (parts problem.labels input.labels problem.active input.active pairs, λ h. from_parts problem.labels input.labels problem.active input.active is.active is_input.is_problem.active pairs h.0 h.1),
  (parts problem.labels input.labels problem.passive input.passive pairs, λ h. from_parts problem.labels input.labels problem.passive input.passive is.passive is_input.is_problem.passive pairs h.0 h.1),
)
