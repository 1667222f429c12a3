-- What is found of a map between two problems: its first violation, in a stated order.
use Rattle.std.specs.Prelude.{ℕ, ◌==◌, nat_lt, Bool, not, ◌&&◌, List, [], ◌∷◌, length, map, take, if◌then◌else◌, Option, None, Some, option_map}
use Rattle.std.specs.List.{find}
use Rattle.re_labels.specs.Lists.{count_from}
use Rattle.re_labels.specs.Sets.{has}
use Rattle.re_labels.specs.declared.sides.Side.{Side}
use Rattle.re_labels.specs.declared.sides.Side.TheVariants.{Active as ActiveSide, Passive as PassiveSide}
use Rattle.re_labels.specs.Configs.{image_at}
use Rattle.re_labels.specs.Rows.{set_at}
use Rattle.re_labels.specs.Constraints.{Constraint, has_config}
use Rattle.re_labels.specs.GoodRows.{is_allowed, is_good}
use Rattle.re_problem.specs.Problems.{Problem}
use Rattle.re_problem.specs.declared.verdict.MapVerdict.{MapVerdict}
use Rattle.re_problem.specs.declared.verdict.MapVerdict.TheVariants.{Active, Count, Degrees, Empty, Passive, Twice, Yes}

-- the first configuration whose image isn't one of the other constraint's
abbrev pub first_lost : List ℕ → Constraint → Constraint → Option (List ℕ)
first_lost images from to = find (λ config. not (has_config to (map (image_at images) config))) from.configs

-- the first configuration whose sets are no good row of the other constraint
abbrev pub first_not_good : List (List ℕ) → Constraint → Constraint → Option (List ℕ)
first_not_good sets to from = find (λ config. not (is_good from (map (set_at sets) config))) to.configs

-- the first configuration from whose sets no choice is one of the other constraint's
abbrev pub first_not_allowed : List (List ℕ) → Constraint → Constraint → Option (List ℕ)
first_not_allowed sets to from = find (λ config. not (is_allowed from (map (set_at sets) config))) to.configs

-- the first label below n that passes a test
abbrev pub first_label : (ℕ → Bool) → ℕ → Option ℕ
first_label test n = find test (count_from 0 n)

-- the first label whose set is empty
abbrev pub first_empty : List (List ℕ) → Option ℕ
first_empty sets = first_label (λ label. length (set_at sets label) == 0) (length sets)

-- the first label that has the image of a lower one
abbrev pub first_twice : List ℕ → Option ℕ
first_twice images = first_label (λ label. has (take label images) (image_at images label)) (length images)

-- the side, where the other constraint has more configurations on it
abbrev pub larger : Side → Constraint → Constraint → Option Side
larger side from to = if nat_lt (length from.configs) (length to.configs) then Some side else None

-- whether the problem has these degrees
abbrev pub has_degrees : Problem → ℕ → ℕ → Bool
has_degrees problem active passive = problem.active.degree == active && problem.passive.degree == passive

-- a violation, where a test fails
abbrev pub unless : Bool → MapVerdict → Option MapVerdict
unless passes violation = if passes then None else Some violation

-- the first violation that there is, and Yes where there is none
abbrev pub first_violation : List (Option MapVerdict) → MapVerdict
first_violation [] = Yes
first_violation (None ∷ others) = first_violation others
first_violation (Some violation ∷ others) = violation

-- whether the second problem is a relaxation of the first by these images of its labels
abbrev pub relaxation_verdict : Problem → Problem → List ℕ → MapVerdict
relaxation_verdict from to images = first_violation (
    unless (has_degrees to from.active.degree from.passive.degree) Degrees
    ∷ option_map Active (first_lost images from.active to.active)
    ∷ option_map Passive (first_lost images from.passive to.passive)
    ∷ [])

-- whether the second problem is an upper step of the first by these sets, which its labels stand for
abbrev pub restriction_verdict : Problem → Problem → List (List ℕ) → MapVerdict
restriction_verdict from to sets = first_violation (
    unless (has_degrees to from.passive.degree from.active.degree) Degrees
    ∷ option_map Empty (first_empty sets)
    ∷ option_map Active (first_not_good sets to.active from.passive)
    ∷ option_map Passive (first_not_allowed sets to.passive from.active)
    ∷ [])

-- whether the second problem is the first under these other labels
abbrev pub renaming_verdict : Problem → Problem → List ℕ → MapVerdict
renaming_verdict from to images = first_violation (
    unless (has_degrees to from.active.degree from.passive.degree) Degrees
    ∷ option_map Twice (first_twice images)
    ∷ option_map Active (first_lost images from.active to.active)
    ∷ option_map Passive (first_lost images from.passive to.passive)
    ∷ option_map Count (larger ActiveSide from.active to.active)
    ∷ option_map Count (larger PassiveSide from.passive to.passive)
    ∷ [])
