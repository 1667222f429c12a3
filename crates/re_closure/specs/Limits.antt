-- The limits of a closure.
use Rattle.std.specs.Prelude.{◌≡◌, ℕ, ◌<◌, ◌≤◌, ◌⊎◌, length}
use Rattle.re_labels.specs.declared.TheConstants.{MAX_LABELS}
use Rattle.re_labels.specs.declared.constraint_table.TheConstants.{MAX_CONFIGURATIONS}
use Rattle.re_problem.specs.Problems.{Problem}
use Rattle.re_closure_laws.specs.Closures.{AreClosure}
use Rattle.re_closure_laws.specs.Lines.{Family, below}
use Rattle.re_closure.specs.ProblemFamilies.{HasManySide, HasManySideCombinations}
use Rattle.re_labels.specs.declared.TheConstants.{MAX_ROWS}
use Rattle.re_closure.specs.declared.types.ClosureLimit.{ClosureLimit}
use Rattle.re_closure.specs.declared.types.ClosureLimit.TheVariants.{Combinations, Configurations, Labels, Rows, Steps}

-- the closure of the problem, with few lines, few labels, and few configurations on both sides
pub record IsSmallClosure (problem : Problem) (active passive : Family) : Type 0 where
  pub closure : AreClosure problem active passive
  pub passive_lines : length passive.lines ≤ MAX_ROWS
  pub active_lines : length active.lines ≤ MAX_ROWS
  pub labels : length passive.sets ≤ MAX_LABELS
  pub below_passive : length (below passive).configs ≤ MAX_CONFIGURATIONS
  pub below_active : length (below active).configs ≤ MAX_CONFIGURATIONS

-- the closure of the problem has so many labels, and that is too many
pub record HasManyLabels (problem : Problem) (count : ℕ) : Type 0 where
  pub active : Family
  pub passive : Family
  pub closure : AreClosure problem active passive
  pub labels : length passive.sets ≡ count
  pub many : MAX_LABELS < count

-- the closure of the problem has few labels, and too many configurations on one of the two sides
pub record HasManyConfigurations (problem : Problem) : Type 0 where
  pub active : Family
  pub passive : Family
  pub closure : AreClosure problem active passive
  pub labels : length passive.sets ≤ MAX_LABELS
  pub many : MAX_CONFIGURATIONS < length (below passive).configs ⊎ MAX_CONFIGURATIONS < length (below active).configs

-- what a limit says of the problem: on the way to its closure too many lines, of which none dominates another, come from its own; its lines, and the
-- combinations of those that come from them, are too many; its closure has too many labels, or configurations
abbrev pub PassesLimit : Problem → ClosureLimit → Type 0
PassesLimit problem Rows = HasManySide problem
PassesLimit problem Combinations = HasManySideCombinations problem
PassesLimit problem (Labels count) = HasManyLabels problem count
PassesLimit problem Configurations = HasManyConfigurations problem
PassesLimit problem Steps = ⊥
