-- Chains of steps: bounds whose END and BACK aren't asked for.
use Rattle.std.specs.Prelude.{◌≡◌, true, List, [], None}
use Rattle.std.specs.List.{AllByRecursion}
use Rattle.re_problem.specs.NamedProblems.{IsNamedProblem, NamedProblem}
use Rattle.re_cert.specs.Bounds.{Bound, BoundStep, is_bound, next_problems}
use Rattle.re_cert.specs.declared.certificate.Kind.{Kind}
use Rattle.re_cert.specs.declared.certificate.Kind.TheVariants.{Lower, Upper}
use Rattle.re_check.specs.Verdicts.{steps_fault}

-- the kind of a chain: a fixed point stands for the lower bound with its steps
abbrev pub chain_kind : Kind → Kind
chain_kind Upper = Upper
chain_kind kind = Lower

-- the chain of these steps from a first problem
abbrev pub chain_with : Kind → NamedProblem → List BoundStep → Bound
chain_with kind first steps = record { kind = chain_kind kind; back = 0; first = first; steps = steps; renaming = [] }

-- the chain that a bound stands for
abbrev pub chain_of : Bound → Bound
chain_of bound = chain_with bound.kind bound.first bound.steps

-- each step meets its clauses
abbrev pub IsSound : Bound → Type 0
IsSound bound = steps_fault bound.first 1 bound.steps ≡ None

-- a bound whose first problem, and those of whose steps, are problems
pub record IsOverProblems (bound : Bound) : Type 0 where
  pub first : IsNamedProblem bound.first
  pub next : AllByRecursion IsNamedProblem (next_problems bound.steps)

-- it is a bound, over problems, and each of its steps meets its clauses
pub record IsSoundChain (chain : Bound) : Type 0 where
  pub bound : is_bound chain ≡ true
  pub problems : IsOverProblems chain
  pub sound : IsSound chain

-- it is of kind lower, and each of its steps meets its clauses
pub record IsSoundLower (chain : Bound) : Type 0 where
  pub lower : chain.kind ≡ Lower
  pub sound : IsSound chain

-- it is of kind upper, and each of its steps meets its clauses
pub record IsSoundUpper (chain : Bound) : Type 0 where
  pub upper : chain.kind ≡ Upper
  pub sound : IsSound chain

-- the chain that a bound stands for is as sound as the bound
abbrev pub ChainLaw : Type 0
ChainLaw = (bound : Bound) → IsSoundChain bound → IsSoundChain (chain_of bound)
