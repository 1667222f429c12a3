-- Two hops are one round of the graph.
use Rattle.std.proofs.Common.{◌≡◌, ℕ, suc, ◌*◌, ◌≤◌, ◌⊎◌, inl, inr, subst, sym, arith}
use Rattle.re_cert.specs.declared.certificate.Kind.TheVariants.{Fixed, Lower, Upper}
use Rattle.re_check.specs.declared.verdict.Verdict.TheVariants.{Accepted, Refused}
use Rattle.re_laws.proofs.MoreRounds.{Solvable-more}
use Rattle.re_laws.specs.Algorithms.{Solvable}
use Rattle.re_problem.specs.Problems.{Problem}
use Rattle.re_evidence.specs.GraphRounds.{GraphLaw}
use Rattle.re_laws.specs.Rounds.{GraphSolvable, rounds_above, rounds_below}

-- twice the half that is rounded up is the number, or the next one
same_or_next : (m : ℕ) → (2 * rounds_above m ≡ m) ⊎ (2 * rounds_above m ≡ suc m)
same_or_next m = grind arith

pub solvable_above : (problem : Problem) (m : ℕ) → Solvable problem m → GraphSolvable problem (rounds_above m)
solvable_above problem m solvable = by (same_or_next m)
  where
    by : (2 * rounds_above m ≡ m) ⊎ (2 * rounds_above m ≡ suc m) → GraphSolvable problem (rounds_above m)
    by (inl same) = subst (Solvable problem) (sym same) solvable
    by (inr next) = subst (Solvable problem) (sym next) (Solvable-more problem m solvable)

pub twice_below : (k r : ℕ) → r ≤ rounds_below k → 2 * r ≤ k
twice_below k r few = omega arith

pub graph_means : GraphLaw
graph_means (Accepted Lower steps) problem none = λ rounds few. none (2 * rounds) (twice_below steps rounds few)
graph_means (Accepted Upper steps) problem solvable = solvable_above problem steps solvable
graph_means (Accepted Fixed steps) problem none = λ rounds. none (2 * rounds)
graph_means (Refused step clause) problem told = tt
