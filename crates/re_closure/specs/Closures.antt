-- What the closure of the last problem of a chain comes to.
use Rattle.std.specs.Prelude.{◌≡◌, ℕ, ◌+◌, ◌<◌, ◌≤◌, List, [], length, slice_index_or, Some, None}
use Rattle.std.specs.List.{AllByRecursion}
use Rattle.re_cert.specs.Bounds.{Bound, last_problem}
use Rattle.re_cert.specs.declared.certificate.Kind.TheVariants.{Fixed}
use Rattle.re_cert.specs.declared.certificate.TheConstants.{MAX_STEPS}
use Rattle.re_labels.specs.Rows.{placed}
use Rattle.re_shaping.specs.Extensions.{GoesOn}
use Rattle.re_labels.specs.declared.TheConstants.{MAX_LABELS}
use Rattle.re_problem.specs.NamedProblems.{NamedProblem, unnamed}
use Rattle.re_problem.specs.Zero.{zero_place}
use Rattle.re_closure_laws.specs.Lines.{Family, problem_of, topmost}
use Rattle.re_closure.specs.Limits.{IsSmallClosure, PassesLimit}
use Rattle.re_closure.specs.Sides.{closed_bound}
use Rattle.re_closure.specs.declared.types.Closing.{Closing}
use Rattle.re_closure.specs.declared.types.Closing.TheVariants.{Found, Solvable, SolvableClosure}
use Rattle.re_closure.specs.declared.types.ClosureLimit.{ClosureLimit}
use Rattle.re_closure.specs.declared.types.ClosureLimit.TheVariants.{Steps}

-- sets of labels of the problem
abbrev pub AreNamed : NamedProblem → List (List ℕ) → Type 0
AreNamed problem sets = AllByRecursion (AllByRecursion (λ label. label < length problem.names)) sets

-- there is room for three steps more
abbrev pub HasRoom : Bound → Type 0
HasRoom chain = length chain.steps + 3 ≤ MAX_STEPS

-- the bound is the chain with the steps to the closure of its last problem and back, the closure isn't solvable without communication, and the bound goes on from the chain
pub record IsClosed (chain bound : Bound) : Type 0 where
  pub active : Family
  pub passive : Family
  pub closure : IsSmallClosure (unnamed (last_problem chain)) active passive
  pub not_zero : zero_place (problem_of active passive) ≡ None
  pub bound_is : bound ≡ closed_bound chain active passive
  pub goes_on : GoesOn Fixed 3 MAX_LABELS chain bound

-- the closure of the problem is solvable without communication, as its first configuration with this property shows, whose labels stand for these sets
pub record IsSolvableBy (problem : NamedProblem) (sets : List (List ℕ)) : Type 0 where
  pub active : Family
  pub passive : Family
  pub closure : IsSmallClosure (unnamed problem) active passive
  pub place : ℕ
  pub first : zero_place (problem_of active passive) ≡ Some place
  pub sets_are : sets ≡ placed passive.sets (slice_index_or (topmost active).configs place [])
  pub named : AreNamed problem sets

-- the limit that is passed: of steps, and where there is room for them one of the closure
abbrev pub LimitIs : Bound → ClosureLimit → Type 0
LimitIs chain Steps = MAX_STEPS < length chain.steps + 3
LimitIs chain passed = HasRoom chain × PassesLimit (unnamed (last_problem chain)) passed

-- the place of the first configuration that shows that the chain's last problem is solvable without communication, exactly where it is; the fixed point of its
-- closure, exactly where there is room for it and the closure passes no limit and isn't solvable without communication; or the configuration that shows that it is
abbrev pub Answers : Bound → Closing → Type 0
Answers chain (Solvable place) = zero_place (unnamed (last_problem chain)) ≡ Some place
Answers chain (Found bound) = (zero_place (unnamed (last_problem chain)) ≡ None) × HasRoom chain × IsClosed chain bound
Answers chain (SolvableClosure sets) = (zero_place (unnamed (last_problem chain)) ≡ None) × HasRoom chain × IsSolvableBy (last_problem chain) sets.items
