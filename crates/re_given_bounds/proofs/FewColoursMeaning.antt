-- What certificates say of problems that are solvable given few colours.
use Rattle.std.proofs.Common.{◌+◌, ◌-◌, ◌*◌, length, subst}
use Rattle.re_local.proofs.FewColours.{few_colours_local, few_input, last_hops}
use Rattle.re_given.specs.Unavoidable.{colouring}
use Rattle.re_bounds.proofs.GivenMeaning.{valid_given}
use Rattle.re_given_bounds.specs.FewColoursBounds.{UpperBoundLocalLaw}
use Rattle.re_bounds.specs.GivenBounds.{MeansGiven}
use Rattle.re_problem.specs.NamedProblems.{unnamed}
use Rattle.re_problem.specs.Problems.{Problem}

pub upper_bound_local : UpperBoundLocalLaw
upper_bound_local = (
  λ a p. last_hops a p + 7,
  λ bound h N over upper valid l.
      let input : Problem = colouring bound.first.active.degree bound.first.passive.degree (bound.first.active.degree * (bound.first.passive.degree - 1) + 1) in
      few_colours_local (unnamed bound.first) over.first.problem h (length bound.steps) N
      (subst (λ kind. MeansGiven kind (length bound.steps) (unnamed bound.first) input) upper
      (valid_given bound input over.fits over.first over.next (few_input (unnamed bound.first) over.first.problem h) valid))
      l,
)
