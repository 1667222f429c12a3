-- Strength of labels.
use Rattle.std.specs.Prelude.{ℕ, Bool, not, ◌||◌, List, Contains, filter}
use Rattle.std.specs.List.{list_all}
use Rattle.re_labels.specs.Lists.{count_from}
use Rattle.re_labels.specs.Sets.{has}
use Rattle.re_labels.specs.Configs.{replaced}
use Rattle.re_labels.specs.Constraints.{Constraint, Has, has_config}

-- b is at least as strong as a: one a replaced by b in a configuration gives a configuration
abbrev pub IsAtLeastAsStrong : Constraint → ℕ → ℕ → Type 0
IsAtLeastAsStrong constraint b a =
    (config : List ℕ) → Contains constraint.configs config → Contains config a → Has constraint (replaced a b config)

-- whether b in place of one a gives a configuration, where this configuration holds a
abbrev pub may_replace : Constraint → ℕ → ℕ → List ℕ → Bool
may_replace constraint b a config = not (has config a) || has_config constraint (replaced a b config)

-- whether b is at least as strong as a
abbrev pub is_at_least_as_strong : Constraint → ℕ → ℕ → Bool
is_at_least_as_strong constraint b a = list_all (may_replace constraint b a) constraint.configs

-- the labels below n that are at least as strong as a
abbrev pub up_set : Constraint → ℕ → ℕ → List ℕ
up_set constraint a n = filter (λ b. is_at_least_as_strong constraint b a) (count_from 0 n)

-- the constraint without the configurations that hold this label
abbrev pub constraint_without : ℕ → Constraint → Constraint
constraint_without label constraint = record {
  degree = constraint.degree;
  configs = filter (λ config. not (has config label)) constraint.configs;
}
