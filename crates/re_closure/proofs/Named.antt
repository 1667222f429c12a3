-- The sets of the closure are sets of labels of the problem.
use Rattle.std.proofs.Common.{◌<◌, ◌∷◌, ℕ, List, [], zero, suc, get_or, length}
use Rattle.std.specs.List.{AllByRecursion}
use Rattle.re_labels.proofs.Membership.{AllByRecursion-from_contains}
use Rattle.re_labels.specs.Rows.{placed}
use Rattle.re_closure_laws.proofs.Generated.{closure_families_law}
use Rattle.re_closure_laws.specs.Closures.{AreClosure}
use Rattle.re_closure_laws.specs.Lines.{Family}
use Rattle.re_problem.specs.NamedProblems.{NamedProblem, unnamed}
use Rattle.re_problem.specs.Problems.{IsProblem}
use Rattle.re_closure.specs.Closures.{AreNamed}

pub named_sets : (problem : NamedProblem) (active passive : Family) → IsProblem (unnamed problem) → AreClosure (unnamed problem) active passive → AreNamed problem passive.sets
named_sets problem active passive is closure =
    AllByRecursion-from_contains (AllByRecursion (λ label. label < length problem.names)) passive.sets (λ set held. ((closure_families_law (unnamed problem) active passive is closure).2.sets set held).1)

-- sets at whatever labels; a label without a set has the empty one
set_named : (problem : NamedProblem) (sets : List (List ℕ)) → AreNamed problem sets → (k : ℕ) → AllByRecursion (λ label. label < length problem.names) (get_or sets k [])
set_named problem [] h k = tt
set_named problem (s ∷ sets) h zero = h.0
set_named problem (s ∷ sets) h (suc k) = set_named problem sets h.1 k

pub placed_named : (problem : NamedProblem) (sets : List (List ℕ)) → AreNamed problem sets → (labels : List ℕ) → AreNamed problem (placed sets labels)
placed_named problem sets h [] = tt
placed_named problem sets h (x ∷ labels) = (set_named problem sets h x, placed_named problem sets h labels)
