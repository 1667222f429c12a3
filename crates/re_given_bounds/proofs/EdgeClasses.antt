-- The class of what is solvable given few edge colours.
use Rattle.std.proofs.Common.{◌≡◌, ◌+◌, ◌*◌, subst, arith}
use Rattle.re_classes.proofs.Decided.{above_log_star}
use Rattle.re_given_bounds.proofs.FewEdgeColours.{few_edge_colours_local}
use Rattle.re_given_bounds.specs.EdgeClasses.{EdgeColouredLaw, OrderEdgeColouredLaw}
use Rattle.re_local.proofs.FewColours.{last_hops}
use Rattle.re_local.specs.LocalAlgorithms.{SolvableLocal}

pub edge_coloured : EdgeColouredLaw
edge_coloured problem is (k, solvable) = (
  k + (last_hops problem.passive.degree problem.active.degree + 14),
  λ h N few.
      let same : 2 * h + k + (last_hops problem.passive.degree problem.active.degree + 14)
      ≡ 2 * h + (k + (last_hops problem.passive.degree problem.active.degree + 14)) = omega arith in
      subst (SolvableLocal problem N) same (few_edge_colours_local problem is h k N solvable few),
)

pub order_edge_coloured : OrderEdgeColouredLaw
order_edge_coloured problem is never coloured = (above_log_star problem is never, edge_coloured problem is coloured)
