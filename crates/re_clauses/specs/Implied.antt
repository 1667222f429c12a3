-- What clauses imply.
use Rattle.std.specs.Prelude.{◌≡◌, ◌==◌, ◌+◌, ◌-◌, ◌%◌, ℕ, Bool, true, false, List, if◌then◌else◌, slice_index_or}
use Rattle.re_clauses.specs.Clauses.{Satisfies, holds, satisfies}

-- the literal that is true of the values of which this one is false
abbrev pub negation : ℕ → ℕ
negation literal = if literal % 2 == 0 then literal + 1 else literal - 1

-- what satisfies the clauses satisfies this clause
abbrev pub Implies : List (List ℕ) → List ℕ → Type 0
Implies clauses clause = (values : ℕ → Bool) → Satisfies values clauses → satisfies values clause ≡ true

-- what satisfies the clauses satisfies each of the others
abbrev pub ImplyAll : List (List ℕ) → List (List ℕ) → Type 0
ImplyAll clauses others = (values : ℕ → Bool) → Satisfies values clauses → Satisfies values others

-- each marked literal is false of the values
abbrev pub AreFalse : (ℕ → Bool) → List Bool → Type 0
AreFalse values marks = (literal : ℕ) → slice_index_or marks literal false ≡ true → holds values literal ≡ false

-- what satisfies the clauses makes each marked literal false
abbrev pub Refute : List (List ℕ) → List Bool → Type 0
Refute clauses marks = (values : ℕ → Bool) → Satisfies values clauses → AreFalse values marks

-- the values by which a variable holds where the mark of its literal stands
abbrev pub values_of : List Bool → ℕ → Bool
values_of marks variable = slice_index_or marks (variable + variable) false
