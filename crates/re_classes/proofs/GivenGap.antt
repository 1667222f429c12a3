-- Given what is unavoidable, few rounds solve no more than ports alone.
use Rattle.std.proofs.Common.{sym, ◌<◌, ◌≡◌, ℕ, zero, suc, ◌+◌, ◌≤◌, inl, inr, ◌∙◌, ap, subst, arith, add-one}
use Rattle.std.specs.Prelude.{◌⊎◌}
use Rattle.re_classes.proofs.DerivedLabels.{few_labels}
use Rattle.re_layers.proofs.Towers.{tower-le, tower-next}
use Rattle.re_classes.specs.FewRoundsLaws.{ColouredGapLaw, ColouredPairsGapLaw, UnavoidableGapLaw, UnavoidableRoundsLaw}
use Rattle.re_layers.specs.Towers.{tower}
use Rattle.re_given.proofs.AvoidedInputs.{Zero-from_given, halves, unavoidable_fewer}
use Rattle.re_given.proofs.ChainGiven.{SolvableGiven-rounds, exchanged_by-twice}
use Rattle.re_given.proofs.ColouredPairs.{pairs_unavoidable}
use Rattle.re_given.proofs.Colourings.{IsInput-colouring, colouring_unavoidable}
use Rattle.re_given.proofs.MoreGiven.{SolvableGiven-more}
use Rattle.re_given.proofs.RelativeGiven.{IsInput-derived_by}
use Rattle.re_given.proofs.Ungiven.{SolvableGiven-ungiven}
use Rattle.re_given.specs.Given.{SolvableGiven}
use Rattle.re_given.specs.Inputs.{IsInput, exchanged, exchanged_by}
use Rattle.re_given.specs.Unavoidable.{IsUnavoidable, colouring}
use Rattle.re_laws.proofs.ChainRounds.{Solvable-rounds}
use Rattle.re_laws.proofs.MoreRounds.{Solvable-more}
use Rattle.re_laws.specs.Algorithms.{Solvable}
use Rattle.re_problem.proofs.DerivedProblem.{IsProblem-derived_by}
use Rattle.re_problem.specs.Derived.{derived_by}
use Rattle.re_problem.specs.Problems.{Problem}

-- what is unavoidable for lists below a tower is so for those below a lower one
pub unavoidable_lower : (input : Problem) (h k : ℕ) → h ≤ k → IsUnavoidable input (tower k) → IsUnavoidable input (tower h)
unavoidable_lower input h k l = unavoidable_fewer input (tower h) (tower k) (tower-le h k l)

pub unavoidable_rounds : UnavoidableRoundsLaw
unavoidable_rounds problem input h T is is_input l unavoidable = (without, SolvableGiven-ungiven problem input T is_input)
  where
    without : SolvableGiven problem input T → Solvable problem T
    without solvable =
        let last : Problem = derived_by T problem in
        let few : IsUnavoidable (exchanged_by T input) last.labels =
        unavoidable_fewer (exchanged_by T input) last.labels (tower (T + h)) (few_labels problem T h l) unavoidable in
        (Solvable-rounds problem T is).1
        (Zero-from_given last (exchanged_by T input) (IsProblem-derived_by T problem is) (IsInput-derived_by T problem input is_input) few
        ((SolvableGiven-rounds problem input T is is_input).0 solvable))

-- exchanged an even number of times it is what it was
at_even : (input : Problem) (T half n : ℕ) → T ≡ half + half → IsUnavoidable input n → IsUnavoidable (exchanged_by T input) n
at_even input T half n e unavoidable =
    let same : exchanged_by T input ≡ input = ap (λ m. exchanged_by m input) e ∙ exchanged_by-twice half input in
    subst (λ i. IsUnavoidable i n) (sym same) unavoidable

pub unavoidable_gap : UnavoidableGapLaw
unavoidable_gap problem input h T is is_input l unavoidable solvable = rw add-one (go (halves T))
  where
    go : ((half : ℕ) × (T ≡ half + half)) ⊎ ((half : ℕ) × (suc T ≡ half + half)) → Solvable problem (suc T)
    go (inl (half, e)) =
        let lower : IsUnavoidable input (tower (T + h)) = unavoidable_lower input (T + h) (T + h + 1) (omega arith) unavoidable in
        Solvable-more problem T ((unavoidable_rounds problem input h T is is_input l (at_even input T half (tower (T + h)) e lower)).0 solvable)
    go (inr (half, e)) =
        let next : T + h + 1 ≡ suc T + h = omega arith in
        let high : IsUnavoidable input (tower (suc T + h)) = subst (λ k. IsUnavoidable input (tower k)) next unavoidable in
        (unavoidable_rounds problem input h (suc T) is is_input l (at_even input (suc T) half (tower (suc T + h)) e high)).0
        (SolvableGiven-more problem input T is_input solvable)

-- ---- colourings
pub coloured_gap : ColouredGapLaw
coloured_gap problem h T c is l enough many solvable =
    unavoidable_gap problem (colouring problem.active.degree problem.passive.degree c) h T is (IsInput-colouring problem c is enough) l
    (colouring_unavoidable problem.active.degree problem.passive.degree c (tower (T + h + 1)) (let least = is.active.least in omega arith) many) solvable

module _ (a c : ℕ) (least : 1 ≤ a) where
  pairs_met : (T k : ℕ) → tower (suc k) < c → ((half : ℕ) × (T ≡ half + half)) ⊎ ((half : ℕ) × (suc T ≡ half + half)) → IsUnavoidable (exchanged_by T (colouring a 2 c)) (tower k)
  pairs_met T k many (inl (half, e)) =
      let next : suc (tower k) ≤ tower (suc k) = tower-next k in
      at_even (colouring a 2 c) T half (tower k) e (colouring_unavoidable a 2 c (tower k) least (omega (arith, next, many)))
  pairs_met T k many (inr (zero, e)) = absurd (omega (arith, e))
  pairs_met T k many (inr (suc half, e)) =
      let odd : T ≡ suc (half + half) = omega (arith, e) in
      let same : exchanged_by T (colouring a 2 c) ≡ exchanged (colouring a 2 c) =
      ap (λ m. exchanged_by m (colouring a 2 c)) odd ∙ ap exchanged (exchanged_by-twice half (colouring a 2 c)) in
      subst (λ i. IsUnavoidable i (tower k)) (sym same) (pairs_unavoidable a c (tower k) least many)

pub coloured_pairs_gap : ColouredPairsGapLaw
coloured_pairs_gap problem h T c is edge l many =
    let a : ℕ = problem.active.degree in
    let two : tower 1 ≤ tower (T + h + 1) = tower-le 1 (T + h + 1) (omega arith) in
    let here : IsInput problem (colouring a problem.passive.degree c) = IsInput-colouring problem c is (omega (arith, edge, two, many)) in
    let is_input : IsInput problem (colouring a 2 c) = subst (λ p. IsInput problem (colouring a p c)) edge here in
    let next : T + h + 1 ≡ suc (T + h) = omega arith in
    let above_it : tower (suc (T + h)) < c = subst (λ k. tower k < c) next many in
    unavoidable_rounds problem (colouring a 2 c) h T is is_input l (pairs_met a c (let least = is.active.least in omega arith) T (T + h) above_it (halves T))
