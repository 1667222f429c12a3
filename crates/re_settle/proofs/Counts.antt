-- What `rounds` counts beside what is claimed.
use Rattle.std.proofs.Common.{◌≡◌, ℕ, zero, suc, ◌<◌, ◌≤◌, ◌⊎◌, Bool, true, false, inl, inr, refl, sym, ap, ◌∙◌, arith, None, Some}
use Rattle.std.specs.Prelude.{◌==◌, if◌then◌else◌}
use Rattle.std.proofs.lemmas.Bool.{eqb-true}
use Rattle.re_given_words.proofs.CountingMeans.{count_means}
use Rattle.re_given_words.specs.Counting.{AllFew, IsCounted, MayTell}
use Rattle.re_given_words.specs.declared.counting.Counted.{Counted}
use Rattle.re_given_words.specs.declared.counting.Counted.TheVariants as counted
use Rattle.re_labels.proofs.Before.{three_ways}
use Rattle.re_laws.specs.Algorithms.{Solvable}
use Rattle.re_problem.specs.Derived.{derived_by}
use Rattle.re_problem.specs.NamedProblems.{NamedProblem, unnamed}
use Rattle.re_problem.specs.Problems.{IsProblem, Problem}
use Rattle.re_problem.specs.Zero.{Zero}
use Rattle.re_search.specs.Laws.{NonePassed}
use Rattle.re_evidence.specs.Claims.{Holds, within}
use Rattle.re_settle.specs.Claims.{claim_of}
use Rattle.re_settle.specs.Ways.{AnswersCount}
use Rattle.re_evidence.specs.declared.types.Claim.TheVariants.{Between, Exactly, Never}
use Rattle.re_settle.specs.declared.types.Settled.{Settled}
use Rattle.re_settle.specs.declared.types.Settled.TheVariants as settled
use Rattle.re_step.specs.Derivations.{step_limit}
use Rattle.re_step.specs.declared.derivation.StepLimit.{StepLimit}

-- ---- what is counted to be exact is exact
exact_means : (problem : NamedProblem) (rounds : ℕ) → IsProblem (unnamed problem) → IsCounted (unnamed problem) None 8 (counted.Exactly rounds) → Holds (Exactly rounds) (unnamed problem)
exact_means problem rounds is counts = count_means (unnamed problem) is None 8 (counted.Exactly rounds) tt counts

one_number : (problem : Problem) (k m : ℕ) → Holds (Exactly k) problem → Holds (Exactly m) problem → k ≡ m
one_number problem k m (solves, fewer) (solves', fewer') = go (three_ways k m)
  where
    go : (k < m) ⊎ (k ≡ m) ⊎ (m < k) → k ≡ m
    go (inl less) = absurd (fewer' k less solves)
    go (inr (inl same)) = same
    go (inr (inr more)) = absurd (fewer m more solves')

-- where no number of rounds is enough, none is
pub never_counts : (problem : NamedProblem) → IsProblem (unnamed problem) → Holds Never (unnamed problem) → (rounds : ℕ) → IsCounted (unnamed problem) None 8 (counted.Exactly rounds)
    → Never ≡ Exactly rounds
never_counts problem is never rounds counts = absurd (never rounds (exact_means problem rounds is counts).0)

-- a number that is claimed is the one that is counted
pub exact_counts : (problem : NamedProblem) (settled : Settled) (k : ℕ) → IsProblem (unnamed problem) → Holds (Exactly k) (unnamed problem) → claim_of settled ≡ Exactly k → AnswersCount problem settled
exact_counts problem settled k is holds claims = λ rounds counts. claims ∙ ap Exactly (one_number (unnamed problem) k rounds holds (exact_means problem rounds is counts))

-- ---- where another count is told, none is exact by steps alone
few_apart : (problem : Problem) (rounds r : ℕ) → Zero (derived_by rounds problem) → AllFew problem None (suc r) → NonePassed problem rounds
    → (passed : StepLimit) (steps : ℕ) → steps < suc r → step_limit (derived_by steps problem) ≡ Some passed → ⊥
few_apart problem rounds r there few none passed steps low at = go (three_ways rounds (suc r))
  where
    apart : None ≡ Some passed → ⊥
    apart e = cc

    go : (rounds < suc r) ⊎ (rounds ≡ suc r) ⊎ (suc r < rounds) → ⊥
    go (inl less) = few rounds less there
    go (inr (inl same)) = apart (sym (none steps (omega (arith, low, same))) ∙ at)
    go (inr (inr more)) = apart (sym (none steps (omega (arith, low, more))) ∙ at)

pub uncounted : (problem : Problem) (counts : Counted) → MayTell problem None 8 counts → ((rounds : ℕ) → counts ≡ counted.Exactly rounds → ⊥) → (rounds : ℕ)
    → IsCounted problem None 8 (counted.Exactly rounds) → ⊥
uncounted problem (counted.Exactly r) told other rounds exact = other r refl
uncounted problem (counted.MoreThan r) (inl (most, few, none)) other rounds (low, there, before, free) = few rounds (omega (arith, most, low)) there
uncounted problem (counted.MoreThan r) (inr told) other rounds (low, there, before, free) =
    let most : r ≡ 8 = told.0 in
    told.1 rounds (omega (arith, most, low)) there
uncounted problem (counted.Passed r passed) (inl (less, at, few, none)) other rounds (low, there, before, free) =
    few_apart problem rounds r there few free passed r (omega arith) at
uncounted problem (counted.Passed r passed) (inr told) other rounds exact = absurd told
uncounted problem (counted.Tried r) (inl (low, untold, few, none)) other rounds exact = absurd untold
uncounted problem (counted.Tried r) (inr told) other rounds exact = absurd told
uncounted problem (counted.Stopped r steps passed) (inl told) other rounds exact = absurd told
uncounted problem (counted.Stopped r steps passed) (inr (less, few, behind)) other rounds (low, there, before, free) =
    few_apart problem rounds r there few free passed steps behind.0 behind.1

-- ---- what is solvable without communication
none_below : (k : ℕ) → (0 < k → ⊥) → k ≡ 0
none_below zero least = refl
none_below (suc k) least = absurd (least (omega arith))

within_zero : (problem : Problem) (more most : ℕ) → Holds (within more most) problem → Solvable problem 0 → within more most ≡ Exactly 0
within_zero problem more most holds solvable = go (most == suc more) refl holds
  where
    go : (b : Bool) → (most == suc more) ≡ b → Holds (if b then Exactly most else Between more most) problem → (if b then Exactly most else Between more most) ≡ Exactly 0
    go true e (solves, fewer) = absurd (fewer 0 (let next : most ≡ suc more = eqb-true most (suc more) e in omega (arith, next)) solvable)
    go false e (none, solves) = absurd (none 0 (omega arith) solvable)

pub zero_claimed : (problem : NamedProblem) (settled : Settled) → Holds (claim_of settled) (unnamed problem) → Solvable (unnamed problem) 0 → claim_of settled ≡ Exactly 0
zero_claimed problem settled.Unsolvable holds solvable = absurd (holds 0 solvable)
zero_claimed problem (settled.Exactly shown) holds solvable = ap Exactly (none_below shown.rounds (λ few. holds.1 0 few solvable))
zero_claimed problem (settled.Never way) holds solvable = absurd (holds 0 solvable)
zero_claimed problem (settled.Within more None) holds solvable = absurd (holds 0 (omega arith) solvable)
zero_claimed problem (settled.Within more (Some most)) holds solvable = within_zero (unnamed problem) more.rounds most.rounds holds solvable
