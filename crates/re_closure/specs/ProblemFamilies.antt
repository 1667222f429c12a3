-- The families that a problem's lines and sets make.
use Rattle.std.specs.Prelude.{◌≡◌, ℕ, ◌⊎◌, List, length, map}
use Rattle.re_problem.specs.NamedProblems.{NamedProblem}
use Rattle.re_problem.specs.Problems.{Problem}
use Rattle.re_closure_laws.specs.Closures.{Occurs, down_lines, up_lines}
use Rattle.re_closure_laws.specs.Lines.{Family, others}
use Rattle.re_closure.specs.Kept.{HasManyCombinations, HasManyLines}
use Rattle.re_closure.specs.declared.families.Families.{Families}

-- the lines of the passive side, with the sets
abbrev pub passive_family : NamedProblem → Families → Family
passive_family problem families = record { degree = problem.passive.degree; lines = families.passive.items; sets = families.sets.items }

-- the lines of the active side, with what the sets leave of the labels
abbrev pub active_family : NamedProblem → Families → Family
active_family problem families = record { degree = problem.active.degree; lines = families.active.items; sets = map (others (length problem.names)) families.sets.items }

-- the set stands in a passive line, or is what one in an active line leaves of the labels below n
abbrev pub IsNeeded : ℕ → List (List (List ℕ)) → List (List (List ℕ)) → List ℕ → Type 0
IsNeeded n passive active set = Occurs passive set ⊎ ((other : List ℕ) × Occurs active other × (set ≡ others n other))

-- on one of the two sides more than `MAX_ROWS` lines, of which none dominates another, come from the lines of the problem by combinations
abbrev pub HasManySide : Problem → Type 0
HasManySide problem = HasManyLines problem.passive.degree (up_lines problem) ⊎ HasManyLines problem.active.degree (down_lines problem)

-- on one of the two sides the lines of the problem and the combinations of those that come from them are more than `MAX_COMBINATIONS`
abbrev pub HasManySideCombinations : Problem → Type 0
HasManySideCombinations problem = HasManyCombinations problem.passive.degree (up_lines problem) ⊎ HasManyCombinations problem.active.degree (down_lines problem)
