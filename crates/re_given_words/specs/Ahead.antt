-- What makes a problem solvable in one and in two rounds, over its own labels.
use Rattle.std.specs.Prelude.{ℕ, ◌<◌, ◌≤◌, List, length, Contains}
use Rattle.std.specs.List.{AllZip}
use Rattle.re_labels.specs.Lists.{count_from}
use Rattle.re_labels.specs.Configs.{IsConfig}
use Rattle.re_labels.specs.Rows.{placed}
use Rattle.re_labels.specs.Constraints.{Constraint}
use Rattle.re_labels.specs.GoodRows.{IsAllowed, IsGood}
use Rattle.re_problem.specs.Problems.{Problem}
use Rattle.re_laws.specs.Algorithms.{Solvable}
use Rattle.re_given_words.specs.declared.looking.Ahead.{Ahead}
use Rattle.re_given_words.specs.declared.looking.Ahead.TheVariants.{Exactly, MoreThan}
use Rattle.re_given_words.specs.declared.standing.Standing.{Standing}

-- ---- one round
-- a row that is good for passive nodes, of whose sets each multiset, drawn with repetition, has an active choice
pub record ShowsOne (problem : Problem) (row : List (List ℕ)) : Type 0 where
  pub good : IsGood problem.passive row
  pub choice : (places : List ℕ) → IsConfig problem.active.degree (length row) places → IsAllowed problem.active (placed row places)

-- some row shows it
abbrev pub SolvableByRow : Problem → Type 0
SolvableByRow problem = (row : List (List ℕ)) × ShowsOne problem row

-- ---- two rounds
-- the set is one of those that stand at the port
abbrev pub StandsAt : List Standing → ℕ → List ℕ → Type 0
StandsAt standing port set = Contains standing (record { port = port; set = set })

-- each choice of a set at each port of an active node has an active choice
abbrev pub HaveChoices : Constraint → List Standing → Type 0
HaveChoices active standing = (sets : List (List ℕ)) → AllZip (StandsAt standing) (count_from 0 active.degree) sets → IsAllowed active sets

-- sets that stand at the ports of an active node: from each multiset of as many ports as a passive node has, some choice of a set at each is good for
-- passive nodes, and each choice of a set at each port has an active choice
pub record ShowsTwo (problem : Problem) (standing : List Standing) : Type 0 where
  pub rows : (ports : List ℕ) → IsConfig problem.passive.degree problem.active.degree ports → (row : List (List ℕ)) × AllZip (StandsAt standing) ports row × IsGood problem.passive row
  pub choice : HaveChoices problem.active standing

-- some sets show it
abbrev pub SolvableByRows : Problem → Type 0
SolvableByRows problem = (standing : List Standing) × ShowsTwo problem standing

-- ---- what is told
-- the least rounds from 1 on that are enough, and no more than the most; or that all up to so many are too few
abbrev pub IsTold : Problem → ℕ → Ahead → Type 0
IsTold problem most (Exactly rounds) = (1 ≤ rounds) × (rounds ≤ most) × Solvable problem rounds × ((T : ℕ) → 1 ≤ T → T < rounds → Solvable problem T → ⊥)
IsTold problem most (MoreThan rounds) = (rounds ≤ most) × ((T : ℕ) → 1 ≤ T → T ≤ rounds → Solvable problem T → ⊥)
