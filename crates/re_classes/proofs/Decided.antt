-- What decides the class of a problem.
use Rattle.std.proofs.Common.{◌≡◌, ◌+◌, ◌*◌, ◌≤◌, subst, arith}
use Rattle.re_classes.proofs.ApartClasses.{constant_apart, log_star_above_constant}
use Rattle.re_classes.specs.Classes.{IsConstantLocal}
use Rattle.re_classes.specs.Laws.{AboveLogStarLaw, BelowLogStarLaw, ConstantLaw, IsUnsolvable, MoreThanConstantLaw, NothingBetweenLaw, OrderLogStarLaw}
use Rattle.re_local.proofs.FewColours.{few_colours_local, last_hops}
use Rattle.re_local.specs.LocalAlgorithms.{SolvableLocal}
use Rattle.re_layers.specs.Towers.{tower}
use Rattle.re_classes.proofs.BeyondLocal.{beyond_local}
use Rattle.re_classes.proofs.FewIdentifiers.{below_tower}
use Rattle.re_classes.proofs.Gap.{beyond_ports}
use Rattle.re_classes.proofs.PortNumbered.{Solvable-local, SolvableLocal-unnoticed}

pub constant : ConstantLaw
constant problem is = (
  (λ local. let (N, ports) = Solvable-local problem local.0 is in (local.0, ports (local.1 N))),
  (λ ports. (ports.0, λ N. SolvableLocal-unnoticed problem N ports.0 ports.1)),
)

pub more_than_constant : MoreThanConstantLaw
more_than_constant problem is = ((λ beyond S. (beyond_local problem S is).0 (beyond S)), (λ never T. (beyond_local problem T is).1 (never T)))

pub above_log_star : AboveLogStarLaw
above_log_star problem is never = (
  problem.labels + 6,
  λ T N many solvable.
      let same : T + (problem.labels + 6) ≡ T + problem.labels + 6 = omega arith in
      beyond_ports problem problem.labels T N is (below_tower problem.labels) (subst (λ h. tower h ≤ N) same many) never solvable,
)

pub below_log_star : BelowLogStarLaw
below_log_star problem is (k, solvable) = (
  k + (last_hops problem.active.degree problem.passive.degree + 7),
  λ h N few.
      let same : 2 * h + k + (last_hops problem.active.degree problem.passive.degree + 7)
      ≡ 2 * h + (k + (last_hops problem.active.degree problem.passive.degree + 7)) = omega arith in
      subst (SolvableLocal problem N) same (few_colours_local problem is h k N solvable few),
)

pub order_log_star : OrderLogStarLaw
order_log_star problem is never coloured = (above_log_star problem is never, below_log_star problem is coloured)

pub nothing_between : NothingBetweenLaw
nothing_between problem is = (
  ((λ never. (more_than_constant problem is).1 (unsolvable never)), (λ more local. constant_apart problem local more)),
  ((λ never. above_log_star problem is (unsolvable never)), (λ above local. constant_apart problem local (log_star_above_constant problem above))),
)
  where
    unsolvable : (IsConstantLocal problem → ⊥) → IsUnsolvable problem
    unsolvable never S solvable = never ((constant problem is).1 (S, solvable))
