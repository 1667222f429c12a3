-- The search for sets at the ports that show two rounds.
use Rattle.std.specs.Prelude.{◌≡◌, ℕ, ◌-◌, Bool, true, List, ◌++◌, length, map, Contains, Option, Some, ◌⊎◌}
use Rattle.std.specs.List.{AllZip, flat_map}
use Rattle.re_labels.specs.Lists.{count_from}
use Rattle.re_labels.specs.Configs.{IsConfig}
use Rattle.re_labels.specs.Orders.{placements}
use Rattle.re_labels.specs.Rearranging.{Rearranged}
use Rattle.re_labels.specs.Rows.{placed}
use Rattle.re_labels.specs.Constraints.{Constraint}
use Rattle.re_labels.specs.GoodRows.{IsAllowed}
use Rattle.re_problem.specs.Problems.{Problem}
use Rattle.re_given_words.specs.Ahead.{HaveChoices, StandsAt}
use Rattle.re_given_words.specs.declared.searching.Next.{Next}
use Rattle.re_given_words.specs.declared.searching.Open.{Open}
use Rattle.re_given_words.specs.declared.standing.Standing.{Standing}

-- ---- rows in any order
-- the sets of some row of the list, in some order
abbrev pub IsOrdered : List (List (List ℕ)) → List (List ℕ) → Type 0
IsOrdered rows sets = (row : List (List ℕ)) × Contains rows row × Rearranged row sets

-- the sets of the row in each order
abbrev pub orders_of : List (List ℕ) → List (List (List ℕ))
orders_of row = map (placed row) (placements (length row))

-- those of each row
abbrev pub all_orders : List (List (List ℕ)) → List (List (List ℕ))
all_orders rows = flat_map orders_of rows

-- ---- sets that show two rounds, each multiset of ports by a row of a list
pub record ShowsTwoBy (problem : Problem) (rows : List (List (List ℕ))) (standing : List Standing) : Type 0 where
  pub served : (ports : List ℕ) → IsConfig problem.passive.degree problem.active.degree ports → (sets : List (List ℕ)) × AllZip (StandsAt standing) ports sets × IsOrdered rows sets
  pub choice : HaveChoices problem.active standing

-- what stands stands in the second list, too
abbrev pub IsPart : List Standing → List Standing → Type 0
IsPart standing whole = (port : ℕ) (set : List ℕ) → StandsAt standing port set → StandsAt whole port set

-- ---- one set more
-- at the port of the new set that one, and at each other port one that stands there
abbrev pub IsDrawn : List Standing → Standing → ℕ → List ℕ → Type 0
IsDrawn standing new port set = ((port ≡ new.port) × (set ≡ new.set)) ⊎ ((port ≡ new.port → ⊥) × StandsAt standing port set)

-- the sets behind those that are drawn already
abbrev pub AreDrawn : ℕ → List Standing → Standing → List (List ℕ) → List (List ℕ) → Type 0
AreDrawn ports standing new drawn sets = AllZip (IsDrawn standing new) (count_from (length drawn) (ports - length drawn)) sets

-- some choice behind those that are drawn has no active choice
abbrev pub IsMissed : Constraint → List Standing → Standing → List (List ℕ) → Type 0
IsMissed active standing new drawn = (sets : List (List ℕ)) × AreDrawn active.degree standing new drawn sets × (IsAllowed active (drawn ++ sets) → ⊥)

-- each one has
abbrev pub AreAllowed : Constraint → List Standing → Standing → List (List ℕ) → Type 0
AreAllowed active standing new drawn = (sets : List (List ℕ)) → AreDrawn active.degree standing new drawn sets → IsAllowed active (drawn ++ sets)

-- ---- a row more
-- the sets stand at the ports now, or they would leave a choice without an active choice
pub record IsAdded (active : Constraint) (ports : List ℕ) (sets : List (List ℕ)) (standing : List Standing) (fits : Bool) (more : List Standing) : Type 0 where
  pub choice : HaveChoices active more
  pub kept : IsPart standing more
  pub placed : fits ≡ true → AllZip (StandsAt more) ports sets
  pub whole : (whole : List Standing) → HaveChoices active whole → IsPart standing whole → AllZip (StandsAt whole) ports sets → (fits ≡ true) × IsPart more whole

-- no sets that hold these and stand at the ports have an active choice for each choice
abbrev pub IsRefused : Constraint → List ℕ → List (List ℕ) → List Standing → Type 0
IsRefused active ports sets standing = (whole : List Standing) → HaveChoices active whole → IsPart standing whole → AllZip (StandsAt whole) ports sets → ⊥

-- ---- multisets of ports that are to be served
-- it has a row of sets that stand at its ports
abbrev pub IsSupplied : List Standing → Open → Type 0
IsSupplied whole open_ = (sets : List (List ℕ)) × Contains open_.rows.items sets × AllZip (StandsAt whole) open_.ports sets

-- the same ports, with all rows of those before that may stand beside the others
pub record IsLeft (active : Constraint) (standing : List Standing) (before after : Open) : Type 0 where
  pub ports : after.ports ≡ before.ports
  pub rows : (sets : List (List ℕ)) → Contains after.rows.items sets → Contains before.rows.items sets
  pub fitting : (whole : List Standing) → HaveChoices active whole → IsPart standing whole → IsSupplied whole before → IsSupplied whole after

-- each of the second list is left of one of the first, with the ports of all of them
pub record AreLeft (active : Constraint) (standing : List Standing) (before after : List Open) : Type 0 where
  pub count : length after ≡ length before
  pub ports : (open_ : Open) → Contains before open_ → (left : Open) × Contains after left × (left.ports ≡ open_.ports)
  pub left : (left : Open) → Contains after left → (open_ : Open) × Contains before open_ × IsLeft active standing open_ left

-- ---- under way
-- the sets that stand serve all multisets of ports but those that are open, and each of these has all rows by which sets that hold these can show two rounds
pub record IsUnderWay (problem : Problem) (rows : List (List (List ℕ))) (opens : List Open) (standing : List Standing) : Type 0 where
  pub choice : HaveChoices problem.active standing
  pub served : (ports : List ℕ) → IsConfig problem.passive.degree problem.active.degree ports
      → ((sets : List (List ℕ)) × AllZip (StandsAt standing) ports sets × IsOrdered rows sets) ⊎ ((open_ : Open) × Contains opens open_ × (open_.ports ≡ ports))
  pub ordered : (open_ : Open) → Contains opens open_ → (sets : List (List ℕ)) → Contains open_.rows.items sets → IsOrdered rows sets
  pub supplied : (whole : List Standing) → ShowsTwoBy problem rows whole → IsPart standing whole → (open_ : Open) → Contains opens open_ → IsSupplied whole open_

-- sets that hold these and these at the ports can't show two rounds, or they hold all that stands next
abbrev pub IsPassed : Problem → List (List (List ℕ)) → List Standing → List ℕ → List (List ℕ) → Option Next → Type 0
IsPassed problem rows standing ports sets next =
    (whole : List Standing) → ShowsTwoBy problem rows whole → IsPart standing whole → AllZip (StandsAt whole) ports sets → (more : Next) × (next ≡ Some more) × IsPart more.standing.items whole
