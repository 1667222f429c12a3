-- What shows that a problem is greedy, behind derived problems and from one side or the other.
use Rattle.std.specs.Prelude.{◌≡◌, ℕ, suc, ◌≤◌, Bool, List, IsTrue}
use Rattle.re_classes.specs.Classes.{IsBelowLogStar}
use Rattle.re_classes.specs.Laws.{IsSolvableColoured}
use Rattle.re_forest_words.specs.declared.showing.Showing.{Showing}
use Rattle.re_forest_words.specs.declared.showing.Showing.TheVariants.{NotGreedy, Shown as IsBy, Unknown}
use Rattle.re_forest_words.specs.declared.showing.Shown.{Shown}
use Rattle.re_given.specs.Inputs.{exchanged}
use Rattle.re_greedy.specs.Greedy.{IsGreedy}
use Rattle.re_labels.specs.declared.sides.Side.{Side}
use Rattle.re_labels.specs.declared.sides.Side.TheVariants.{Active, Passive}
use Rattle.re_problem.specs.Derived.{derived, derived_by}
use Rattle.re_problem.specs.NamedProblems.{unnamed}
use Rattle.re_problem.specs.Problems.{IsProblem, Problem}

-- the problem whose active nodes are those of the side
abbrev pub from_side : Side → Problem → Problem
from_side Active problem = problem
from_side Passive problem = exchanged problem

-- at most so many derived problems behind it stands one that is greedy from the side with these multisets
pub record IsShown (problem : Problem) (most : ℕ) (shown : Shown) : Type 0 where
  pub few : shown.steps ≤ most
  pub there : unnamed shown.problem ≡ from_side shown.side (derived_by shown.steps problem)
  pub greedy : IsGreedy (unnamed shown.problem) shown.partial.items

-- no derived problem up to this one is greedy from either side
abbrev pub IsNowhereGreedy : Problem → ℕ → Type 0
IsNowhereGreedy problem most = (k : ℕ) (side : Side) (partial : List (List ℕ)) → k ≤ most → IsGreedy (from_side side (derived_by k problem)) partial → ⊥

-- what shows it, or that nothing does
abbrev pub IsShowing : Problem → ℕ → Showing → Type 0
IsShowing problem most (IsBy shown) = IsShown problem most shown
IsShowing problem most NotGreedy = IsNowhereGreedy problem most
IsShowing problem most Unknown = Unit {0}

-- what shows it from the side of the passive nodes, or that nothing does, where that is known of the active ones
abbrev pub IsPassiveShowing : Problem → Bool → Showing → Type 0
IsPassiveShowing problem known (IsBy shown) = IsShown problem 0 shown
IsPassiveShowing problem known NotGreedy = IsTrue known × ((partial : List (List ℕ)) → IsGreedy (exchanged problem) partial → ⊥)
IsPassiveShowing problem known Unknown = Unit {0}

-- what shows it behind the derived problem, or that nothing does, where that is known of the problem itself
abbrev pub IsNextShowing : Problem → ℕ → Bool → Showing → Type 0
IsNextShowing problem more known (IsBy shown) = IsShown problem (suc more) shown
IsNextShowing problem more known NotGreedy = IsTrue known × IsNowhereGreedy (derived problem) more
IsNextShowing problem more known Unknown = Unit {0}

-- that nothing shows it, where that is known
abbrev pub IsNone : Bool → Showing → Type 0
IsNone known (IsBy shown) = ⊥
IsNone known NotGreedy = IsTrue known
IsNone known Unknown = Unit {0}

-- few derived problems
abbrev pub IsFew : Showing → Type 0
IsFew (IsBy shown) = shown.steps ≤ 2
IsFew NotGreedy = Unit {0}
IsFew Unknown = Unit {0}

-- what is shown means that the problem is solvable given few colours, and takes at most the order of log* N rounds
abbrev pub ShownLaw : Type 0
ShownLaw = (problem : Problem) (most : ℕ) (shown : Shown) → IsProblem problem → IsShown problem most shown → IsSolvableColoured problem × IsBelowLogStar problem
