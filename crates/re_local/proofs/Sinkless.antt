-- The relaxation of sinkless orientation, where nodes have identifiers.
use Rattle.std.proofs.Common.{◌<◌, ℕ, ◌∷◌, refl, sym, subst, arith, ◌≤◌, ◌≡◌}
use Rattle.std.specs.List.{AllByRecursion}
use Rattle.re_labels.specs.Orders.{placements}
use Rattle.re_labels.specs.Sets.{set_of}
use Rattle.re_given.proofs.Worked.{back_relaxed, turn}
use Rattle.re_given.specs.Unavoidable.{reached}
use Rattle.re_laws.proofs.SlowRounds.{Solvable-from_derived}
use Rattle.re_laws.proofs.Worked.{relaxed_sinkless_not_solvable, twice_is, two_steps}
use Rattle.re_laws.proofs.ZeroRounds.{Solvable-zero}
use Rattle.re_laws.specs.Chains as chain
use Rattle.re_laws.specs.Chains.{IsLowerChain}
use Rattle.re_local.proofs.Complete.{Separates-complete}
use Rattle.re_local.proofs.LocalBounds.{fixed_point_local}
use Rattle.re_local.proofs.LocalGiven.{SolvableLabelled-local}
use Rattle.re_local.specs.Identifiers.{IdHypergraph}
use Rattle.re_local.specs.LocalAlgorithms.{SolvableLocal}
use Rattle.re_local.specs.Separating.{Separates, complete}
use Rattle.re_problem.proofs.Examples.{IsProblem-relaxed_sinkless, relaxed_sinkless_twice}
use Rattle.re_problem.specs.Derived.{derived, derived_by}
use Rattle.re_problem.specs.Examples.{relaxed_sinkless}
use Rattle.re_problem.specs.Problems.{Problem}
use Rattle.re_problem.specs.Zero.{Zero}

once_few : (derived relaxed_sinkless).labels ≤ 2
unfolding set_of placements
once_few = let e : (derived relaxed_sinkless).labels ≡ 2 = refl in omega (arith, e)

twice_not_Zero : Zero (derived_by 2 relaxed_sinkless) → ⊥
twice_not_Zero holds =
    relaxed_sinkless_not_solvable 2
    (Solvable-from_derived relaxed_sinkless 1 (Solvable-from_derived (derived relaxed_sinkless) 0 ((Solvable-zero (derived_by 2 relaxed_sinkless) twice_is).1 holds)))

few : AllByRecursion (λ (problem : Problem). problem.labels ≤ 2) (relaxed_sinkless ∷ reached two_steps)
few = (omega arith, (once_few, (subst (λ (problem : Problem). problem.labels ≤ 2) (sym relaxed_sinkless_twice) (omega arith), tt)))

pub sinkless_local : (N T : ℕ) (hyper : IdHypergraph) → Separates 3 2 N 2 T hyper → SolvableLocal relaxed_sinkless N T → ⊥
sinkless_local N T hyper separates h =
    fixed_point_local relaxed_sinkless relaxed_sinkless (derived_by 2 relaxed_sinkless) 0 1 2 N T turn hyper IsProblem-relaxed_sinkless chain.IsLowerChain.done two_steps back_relaxed twice_not_Zero few separates
    (SolvableLabelled-local relaxed_sinkless N T h)

pub sinkless_at_once : (N : ℕ) → 8 < N → SolvableLocal relaxed_sinkless N 0 → ⊥
sinkless_at_once N many = sinkless_local N 0 (complete 3 2 N) (Separates-complete 3 2 N 2 (omega arith) (omega arith) (omega arith) (omega arith))
