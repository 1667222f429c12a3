-- What is told ahead of a step that passes a limit.
use Rattle.std.proofs.Common.{◌≡◌, ℕ, zero, suc, ◌+◌, ◌-◌, ◌<◌, ◌≤◌, max, ◌⊎◌, inl, inr, sym, ap, ◌∙◌, subst, arith, None}
use Rattle.re_labels.proofs.Before.{three_ways}
use Rattle.re_laws.proofs.ChainRounds.{Solvable-rounds}
use Rattle.re_laws.specs.Algorithms.{Solvable}
use Rattle.re_problem.specs.Derived.{derived, derived_by}
use Rattle.re_problem.specs.Problems.{IsProblem, Problem}
use Rattle.re_problem.specs.Zero.{Zero}
use Rattle.re_step.specs.declared.derivation.StepLimit.{StepLimit}
use Rattle.re_given_words.specs.Ahead.{IsTold}
use Rattle.re_given_words.specs.declared.looking.Ahead.{Ahead}
use Rattle.re_given_words.specs.declared.looking.Ahead.TheVariants as ahead
use Rattle.re_given_words.specs.Counting.{AllFew, IsCounted, MayTell}
use Rattle.re_given_words.specs.declared.counting.Counted.TheVariants.{Exactly, MoreThan, Passed, Stopped}
use Rattle.re_problem.proofs.DerivedProblem.{IsProblem-derived_by}

-- derived k times and h times more
derived-more : (problem : Problem) (k h : ℕ) → derived_by h (derived_by k problem) ≡ derived_by (k + h) problem
derived-more problem k zero = let same : k ≡ k + 0 = omega arith in ap (λ n. derived_by n problem) same
derived-more problem k (suc h) =
    let same : suc (k + h) ≡ k + suc h = omega arith in
    ap derived (derived-more problem k h) ∙ ap (λ n. derived_by n problem) same

-- what is told of few rounds is told of more
pub told-wider : (problem : Problem) (few most : ℕ) (told : Ahead) → few ≤ most → IsTold problem few told → IsTold problem most told
told-wider problem few most (ahead.Exactly rounds) l is = (is.0, omega (arith, l, is.1), is.2, is.3)
told-wider problem few most (ahead.MoreThan rounds) l is = (omega (arith, l, is.0), is.1)

module _ (problem : Problem) (is : IsProblem problem) (current : Problem) (steps rounds most : ℕ) (limit : StepLimit) (behind : steps ≤ rounds) (here : current ≡ derived_by steps problem) (counts : IsCounted problem None most (Passed rounds limit)) where
  zero-there : (more : ℕ) → Solvable current more → Zero (derived_by (steps + more) problem)
  zero-there more solvable =
      subst Zero (derived-more problem steps more) ((Solvable-rounds (derived_by steps problem) more (IsProblem-derived_by steps problem is)).0 (subst (λ p. Solvable p more) here solvable))

  solvable-there : (more : ℕ) → Zero (derived_by (steps + more) problem) → Solvable current more
  solvable-there more holds =
      subst (λ p. Solvable p more) (sym here) ((Solvable-rounds (derived_by steps problem) more (IsProblem-derived_by steps problem is)).1 (subst Zero (sym (derived-more problem steps more)) holds))

  -- all are too few where those are that are more than what is counted
  few-there : (few : ℕ) → ((T : ℕ) → rounds < steps + T → steps + T < few → Solvable current T → ⊥) → AllFew problem None few
  few-there few none j low holds = go (three_ways rounds j)
    where
      go : (rounds < j) ⊎ ((rounds ≡ j) ⊎ (j < rounds)) → ⊥
      go (inl above) =
          let same : j ≡ steps + (j - steps) = omega (arith, above, behind) in
          none (j - steps) (omega (arith, above, behind)) (omega (arith, above, behind, low)) (solvable-there (j - steps) (subst (λ n. Zero (derived_by n problem)) same holds))
      go (inr (inl equal)) = counts.2 j (omega (arith, equal)) holds
      go (inr (inr below)) = counts.2 j (omega (arith, below)) holds

  -- what is enough is more than what is counted
  beyond : (more : ℕ) → Zero (derived_by (steps + more) problem) → rounds < steps + more
  beyond more holds = go (three_ways rounds (steps + more))
    where
      go : (rounds < steps + more) ⊎ ((rounds ≡ steps + more) ⊎ (steps + more < rounds)) → rounds < steps + more
      go (inl above) = above
      go (inr (inl equal)) = absurd (counts.2 (steps + more) (omega (arith, equal)) holds)
      go (inr (inr below)) = absurd (counts.2 (steps + more) (omega (arith, below)) holds)

  pub told-exactly : (more : ℕ) → IsTold current (most - steps) (ahead.Exactly more) → MayTell problem None most (Exactly (steps + more))
  told-exactly more told = inr (
    (let l = counts.0 in omega (arith, told.0, told.1, l, behind)),
    zero-there more told.2,
    few-there (steps + more) (λ T above low. told.3 T (omega (arith, above, behind)) (omega (arith, low))),
    rounds,
    limit,
    (beyond more (zero-there more told.2), counts.1, counts.3),
  )

  few-behind : (few more : ℕ) → few ≡ max rounds (steps + more) → IsTold current (most - steps) (ahead.MoreThan more) → AllFew problem None (suc few)
  few-behind few more greater told =
      few-there (suc few) (λ T above low. told.1 T (omega (arith, above, behind)) (omega (arith, above, low, greater)))

  pub told-all : (few more : ℕ) → few ≡ max rounds (steps + more) → IsTold current (most - steps) (ahead.MoreThan more) → few ≡ most → MayTell problem None most (MoreThan few)
  told-all few more greater told whole = inr (
    whole,
    few-behind few more greater told,
    rounds,
    limit,
    ((let l = counts.0 in omega (arith, l, whole)), counts.1, counts.3),
  )

  pub told-stopped : (few more : ℕ) → few ≡ max rounds (steps + more) → IsTold current (most - steps) (ahead.MoreThan more) → (few ≡ most → ⊥) → MayTell problem None most (Stopped few rounds limit)
  told-stopped few more greater told other = inr (
    (let l = counts.0 in below few most (omega (arith, told.0, l, behind, greater)) other),
    few-behind few more greater told,
    (omega (arith, greater), counts.1, counts.3),
  )
    where
      below : (k m : ℕ) → k ≤ m → (k ≡ m → ⊥) → k < m
      below k m le other = go (three_ways k m)
        where
          go : (k < m) ⊎ ((k ≡ m) ⊎ (m < k)) → k < m
          go (inl less) = less
          go (inr (inl equal)) = absurd (other equal)
          go (inr (inr more)) = absurd (omega (arith, more, le))
