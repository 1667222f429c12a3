-- A diagram of labels, and the problem relaxed so that its passive constraint respects it.
use Rattle.std.specs.Prelude.{◌≡◌, ℕ, ◌<◌, ◌==◌, Bool, true, ◌&&◌, ◌||◌, ◌↔◌, List, [], ◌∷◌, Contains, filter, length, map, if◌then◌else◌}
use Rattle.re_labels.specs.Lists.{count_from}
use Rattle.re_labels.specs.Sets.{has, union}
use Rattle.re_problem.specs.NamedProblems.{IsNamedProblem, NamedProblem, unnamed}
use Rattle.re_problem.specs.Steps.{IsRelaxed}
use Rattle.re_labels.specs.Constraints.{Constraint}
use Rattle.re_labels.specs.GoodRows.{allowed}
use Rattle.re_labels.specs.Strength.{IsAtLeastAsStrong}

-- the least order that holds the edges, each of which has its lower label first: a way along edges leads up from the one label to the other
pub data IsBelow (edges : List (ℕ × ℕ)) : ℕ → ℕ → Type 0 where
  same : {x : ℕ} → IsBelow edges x x
  through : {x y z : ℕ} → Contains edges (x, y) → IsBelow edges y z → IsBelow edges x z

-- whether it has the one label below the other: without the first edge, or through it
abbrev pub is_below : List (ℕ × ℕ) → ℕ → ℕ → Bool
is_below [] x y = x == y
is_below (edge ∷ edges) x y = is_below edges x y || (is_below edges x edge.0 && is_below edges edge.1 y)

-- the labels below n that it has below a label, with this label
abbrev pub labels_below : List (ℕ × ℕ) → ℕ → ℕ → List ℕ
labels_below edges n y = filter (λ x. is_below edges x y) (count_from 0 n)

-- the sets of the labels below each label
abbrev pub all_below : List (ℕ × ℕ) → ℕ → List (List ℕ)
all_below edges n = map (labels_below edges n) (count_from 0 n)

-- the constraint in which each label may stand for each one below it
abbrev pub raised_constraint : List (ℕ × ℕ) → ℕ → Constraint → Constraint
raised_constraint edges n constraint = record { degree = constraint.degree; configs = allowed constraint (all_below edges n) constraint.degree }

-- the problem in which around passive nodes each label may stand for each one below it: relaxed just so far that it respects the diagram
abbrev pub raised : List (ℕ × ℕ) → NamedProblem → NamedProblem
raised edges problem = record { names = problem.names; active = problem.active; passive = raised_constraint edges (length problem.names) problem.passive }

-- the test tells the order
abbrev pub OrderLaw : Type 0
OrderLaw = (edges : List (ℕ × ℕ)) (x y : ℕ) → (is_below edges x y ≡ true) ↔ IsBelow edges x y

-- the raised problem is a problem, and a relaxation in which each label stays; it respects the order: a label is at least as strong as each one below it
abbrev pub RaisedLaw : Type 0
RaisedLaw = (edges : List (ℕ × ℕ)) (problem : NamedProblem) → IsNamedProblem problem →
    IsNamedProblem (raised edges problem) × IsRelaxed (unnamed problem) (unnamed (raised edges problem)) (λ x. x)
    × ((low high : ℕ) → IsBelow edges low high → high < length problem.names → IsAtLeastAsStrong (raised edges problem).passive high low)

-- ---- what is computed
-- a set of labels with those below the lower end of an edge too, where it holds the upper one
abbrev pub with_lower : List ℕ → ℕ → List ℕ → List ℕ
with_lower lower high set = if has set high then union set lower else set
