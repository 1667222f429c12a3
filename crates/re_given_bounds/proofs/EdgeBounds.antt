-- What certificates say of problems that are solvable given few edge colours.
use Rattle.std.proofs.Common.{◌+◌, ◌-◌, ◌*◌, length, subst}
use Rattle.re_classes.proofs.ApartClasses.{log_apart}
use Rattle.re_given_bounds.proofs.EdgeClasses.{edge_coloured}
use Rattle.re_given_bounds.proofs.FewEdgeColours.{few_edge_colours_local, few_edge_input}
use Rattle.re_given_bounds.specs.EdgeBounds.{NoEdgeColouredLaw, UpperBoundEdgeColouredLaw}
use Rattle.re_local.proofs.FewColours.{last_hops}
use Rattle.re_given.specs.InputExamples.{edge_colouring}
use Rattle.re_given_bounds.proofs.ClassMeaning.{above_log}
use Rattle.re_bounds.proofs.GivenMeaning.{valid_given}
use Rattle.re_bounds.specs.GivenBounds.{MeansGiven}
use Rattle.re_problem.specs.NamedProblems.{unnamed}
use Rattle.re_problem.specs.Problems.{Problem}

pub upper_bound_edge_coloured : UpperBoundEdgeColouredLaw
upper_bound_edge_coloured = (
  λ a p. last_hops p a + 14,
  λ bound h N over upper valid l.
      let input : Problem = edge_colouring bound.first.active.degree bound.first.passive.degree (bound.first.passive.degree * (bound.first.active.degree - 1) + 1) in
      few_edge_colours_local (unnamed bound.first) over.first.problem h (length bound.steps) N
      (subst (λ kind. MeansGiven kind (length bound.steps) (unnamed bound.first) input) upper
      (valid_given bound input over.fits over.first over.next (few_edge_input (unnamed bound.first) over.first.problem h) valid))
      l,
)

pub no_edge_coloured : NoEdgeColouredLaw
no_edge_coloured bound over accepted coloured =
    log_apart (unnamed bound.first) (edge_coloured (unnamed bound.first) over.first.problem coloured) (above_log bound over accepted)
