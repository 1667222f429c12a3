-- What lower steps say of local algorithms.
use Rattle.std.proofs.Common.{ℕ, ◌+◌, ◌≤◌, ◌<◌, ◌∷◌, arith}
use Rattle.std.specs.List.{AllByRecursion}
use Rattle.re_given.proofs.AvoidedInputs.{fixed_point_unavoidable, shorter_bound_unavoidable}
use Rattle.re_given.specs.Inputs.{IsInput}
use Rattle.re_given.specs.Unavoidable.{reached}
use Rattle.re_laws.specs.Chains.{IsLowerChain}
use Rattle.re_local.proofs.IdentifierInputs.{IsInput-identifiers, some_identifier}
use Rattle.re_local.proofs.LocalGiven.{SolvableGiven-labelled}
use Rattle.re_local.proofs.UnavoidableIdentifiers.{identifiers_unavoidable}
use Rattle.re_local.specs.Identifiers.{IdHypergraph, identifiers}
use Rattle.re_local.specs.LocalAlgorithms.{SolvableLabelled}
use Rattle.re_local.specs.Separating.{Separates}
use Rattle.re_problem.specs.Problems.{IsProblem, Problem}
use Rattle.re_problem.specs.Steps.{IsRelaxed}
use Rattle.re_problem.specs.Zero.{Zero}

pub fixed_point_local : (first middle last : Problem) (back k n N T : ℕ) (image : ℕ → ℕ) (hyper : IdHypergraph) → IsProblem first → IsLowerChain first back middle → (round : IsLowerChain middle (k + 1) last) → IsRelaxed last middle image → (Zero last → ⊥)
    → AllByRecursion (λ (problem : Problem). problem.labels ≤ n) (middle ∷ reached round) → Separates first.active.degree first.passive.degree N n T hyper → SolvableLabelled first N T → ⊥
fixed_point_local first middle last back k n N T image hyper is to_middle round relaxed not_zero few separates h =
    let a : ℕ = first.active.degree in
    let p : ℕ = first.passive.degree in
    let some : 1 ≤ a = (let least = is.active.least in omega arith) in
    let more : 1 ≤ p = (let least = is.passive.least in omega arith) in
    let is_input : IsInput first (identifiers a p N hyper) = IsInput-identifiers first N hyper is (some_identifier a p N n hyper some more separates.joins) separates.edges in
    fixed_point_unavoidable is is_input to_middle round (omega arith) relaxed not_zero few (identifiers_unavoidable a p N n hyper some more separates.joins) T (SolvableGiven-labelled first N T hyper is_input separates.apart h)

pub shorter_bound_local : (first last : Problem) (k n N T : ℕ) (hyper : IdHypergraph) → IsProblem first → (steps : IsLowerChain first k last) → (Zero last → ⊥) → AllByRecursion (λ (problem : Problem). problem.labels ≤ n) (first ∷ reached steps)
    → Separates first.active.degree first.passive.degree N n T hyper → T < k → SolvableLabelled first N T → ⊥
shorter_bound_local first last k n N T hyper is steps not_zero few separates l h =
    let a : ℕ = first.active.degree in
    let p : ℕ = first.passive.degree in
    let some : 1 ≤ a = (let least = is.active.least in omega arith) in
    let more : 1 ≤ p = (let least = is.passive.least in omega arith) in
    let is_input : IsInput first (identifiers a p N hyper) = IsInput-identifiers first N hyper is (some_identifier a p N n hyper some more separates.joins) separates.edges in
    shorter_bound_unavoidable is is_input steps not_zero few (identifiers_unavoidable a p N n hyper some more separates.joins) T l (SolvableGiven-labelled first N T hyper is_input separates.apart h)
