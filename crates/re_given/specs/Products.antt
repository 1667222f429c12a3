-- Problems whose labels are pairs: a label of a problem, and one of an input problem of it.
use Rattle.std.specs.Prelude.{ℕ, ◌*◌, ◌/◌, ◌%◌, Bool, ◌&&◌, List, map, filter}
use Rattle.re_labels.specs.Orders.{multisets}
use Rattle.re_problem.specs.Problems.{Problem}
use Rattle.re_labels.specs.Constraints.{Constraint, has_config}

-- the first parts of pairs x * m + y of a number x and a number y below m, in order
abbrev pub firsts : ℕ → List ℕ → List ℕ
firsts m pairs = map (λ pair. pair / m) pairs

-- their second parts
abbrev pub seconds : ℕ → List ℕ → List ℕ
seconds m pairs = map (λ pair. pair % m) pairs

-- whether the first parts are a configuration of one constraint, and the second parts one of the other
abbrev pub are_pairs : ℕ → Constraint → Constraint → List ℕ → Bool
are_pairs m own given pairs = has_config own (firsts m pairs) && has_config given (seconds m pairs)

-- the multisets of so many such pairs
abbrev pub pairs_among : ℕ → ℕ → Constraint → Constraint → Constraint
pairs_among count m own given = record { degree = own.degree; configs = filter (are_pairs m own given) (multisets own.degree 0 count) }

-- the multisets of such pairs of labels below n and below m
abbrev pub pairs_of : ℕ → ℕ → Constraint → Constraint → Constraint
pairs_of n m own given = pairs_among (n * m) m own given

-- the problem with the labels of the input problem beside its own
abbrev pub product : Problem → Problem → Problem
product problem input = record {
  labels = problem.labels * input.labels;
  active = pairs_of problem.labels input.labels problem.active input.active;
  passive = pairs_of problem.labels input.labels problem.passive input.passive;
}
