-- Rows that spell a constraint.
use Rattle.std.specs.Prelude.{◌≡◌, ℕ, ◌<◌, ◌≤◌, ◌⊎◌, Bool, ◌||◌, List, [], ◌∷◌, ◌++◌, Contains, MatchOption, Option, length}
use Rattle.std.specs.List.{IsDistinct}
use Rattle.re_labels.specs.Rows.{Dominates, dominates, singles}
use Rattle.re_labels.specs.declared.TheConstants.{MAX_ROWS}
use Rattle.re_labels.specs.Constraints.{Constraint}
use Rattle.re_labels.specs.GoodRows.{IsDominated, IsGood, IsMaximal, max_rows}
use Rattle.re_describe.specs.declared.condensing.TheConstants.{MOST_LISTED}

-- every choice of one label of each set of a row is a configuration, and each configuration is such a choice, in some order
pub record Spells (constraint : Constraint) (rows : List (List (List ℕ))) : Type 0 where
  pub good : (row : List (List ℕ)) → Contains rows row → IsGood constraint row
  pub whole : (config : List ℕ) → Contains constraint.configs config → IsDominated rows (singles config)

-- each row is a configuration of the constraint alone
abbrev pub AreAlone : Constraint → List (List (List ℕ)) → Type 0
AreAlone constraint rows = (row : List (List ℕ)) → Contains rows row → (config : List ℕ) × Contains constraint.configs config × (row ≡ singles config)

-- the rows are maximal; or, where there are more than `MAX_ROWS` maximal rows, configurations alone
abbrev pub AreTops : Constraint → ℕ → List (List (List ℕ)) → Type 0
AreTops constraint labels rows =
    ((row : List (List ℕ)) → Contains rows row → IsMaximal constraint labels row) ⊎ ((MAX_ROWS < length (max_rows constraint labels)) × AreAlone constraint rows)

-- no row of the list dominates another one
abbrev pub AreApart : List (List (List ℕ)) → Type 0
AreApart rows = (row other : List (List ℕ)) → Contains rows row → Contains rows other → Dominates row other → row ≡ other

-- one of the two rows dominates the other
abbrev pub comparable : List (List ℕ) → List (List ℕ) → Bool
comparable row other = dominates row other || dominates other row

-- the rows among which the groups of a constraint are: they spell it, they are maximal or configurations, and none dominates another one
pub record AreSources (constraint : Constraint) (labels : ℕ) (rows : List (List (List ℕ))) : Type 0 where
  pub spells : Spells constraint rows
  pub tops : AreTops constraint labels rows
  pub apart : AreApart rows

-- rows of the others that spell the constraint; none of them stands twice, or dominates another one
pub record AreTaken (constraint : Constraint) (others rows : List (List (List ℕ))) : Type 0 where
  pub spells : Spells constraint rows
  pub distinct : IsDistinct comparable rows
  pub among : (row : List (List ℕ)) → Contains rows row → Contains others row

-- the groups of a constraint: rows that spell it, none of which stands twice or dominates another one; they are maximal, or configurations where there are
-- too many maximal ones
pub record AreGroups (constraint : Constraint) (labels : ℕ) (rows : List (List (List ℕ))) : Type 0 where
  pub spells : Spells constraint rows
  pub distinct : IsDistinct comparable rows
  pub tops : AreTops constraint labels rows

-- nothing exactly where there are too many configurations to list, and else the groups
abbrev pub Condenses : Constraint → ℕ → Option (List (List (List ℕ))) → Type 0
Condenses constraint labels rows =
    MatchOption rows (MOST_LISTED < length constraint.configs) (λ few. (length constraint.configs ≤ MOST_LISTED) × AreGroups constraint labels few)

-- a row of the list dominates this one already; or none does, and a row of others that does comes behind the list
abbrev pub TakesIn : List (List (List ℕ)) → List (List (List ℕ)) → List (List (List ℕ)) → List (List ℕ) → Type 0
TakesIn others old new row =
    (IsDominated old row × (new ≡ old))
    ⊎ ((IsDominated old row → ⊥) × ((top : List (List ℕ)) × Contains others top × IsDominated (top ∷ []) row × (new ≡ old ++ top ∷ [])))
