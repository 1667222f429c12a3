-- The choice that a node makes where its neighbours leave it sets.
use Rattle.std.specs.Prelude.{◌≡◌, ℕ, suc, true, List, [], map, find, unwrap_or}
use Rattle.std.specs.List.{list_any}
use Rattle.re_labels.specs.Rows.{choices, set_at}
use Rattle.re_laws.specs.Algorithms.{Plain, around, at_port, back_at}
use Rattle.re_laws.specs.Trees.{IsView, shift}
use Rattle.re_labels.specs.Constraints.{Constraint, has_config}
use Rattle.re_algo.specs.Tables.{AnswerTable, given}

-- the label that the answer of the neighbour on a port gives to the edge
abbrev pub label_over : AnswerTable → Plain → ℕ → ℕ
label_over table v port = at_port (given table (shift table.radius v port)) (back_at v port)

-- the sets that the answers around a view stand for
abbrev pub sets_around : List (List ℕ) → ℕ → AnswerTable → Plain → List (List ℕ)
sets_around sets degree table v = map (set_at sets) (around degree table.radius (given table) v)

-- the first choice from these sets that is a configuration
abbrev pub choice_at : Constraint → List (List ℕ) → AnswerTable → Plain → List ℕ
choice_at constraint sets table v = unwrap_or (find (has_config constraint) (choices (sets_around sets table.degrees.passive table v))) []

-- a view of one round more at which there is one
pub record HasChoice (constraint : Constraint) (sets : List (List ℕ)) (table : AnswerTable) (v : Plain) : Type 0 where
  pub view : IsView table.degrees.passive table.degrees.active (suc table.radius) v
  pub some : list_any (has_config constraint) (choices (sets_around sets table.degrees.passive table v)) ≡ true
