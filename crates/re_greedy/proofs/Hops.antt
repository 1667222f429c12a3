-- Two hops by two upper steps: passive nodes tell active ones what they see, and active ones choose by it.
use Rattle.std.proofs.Common.{◌≡◌, ℕ, suc, ◌<◌, List, filter, map, length, refl, ◌∙◌, subst}
use Rattle.std.specs.Prelude.{Contains}
use Rattle.std.specs.List.{AllByRecursion}
use Rattle.std.proofs.lemmas.List.{length-map}
use Rattle.re_labels.proofs.LawsOfRows.{multisets_law}
use Rattle.re_labels.proofs.Rearranging.{Rearranged-map, length-AllZip}
use Rattle.re_labels.proofs.Sorting.{IsConfig-sorted, Rearranged-sorted}
use Rattle.re_labels.specs.Configs.{sorted}
use Rattle.re_labels.specs.Orders.{multisets}
use Rattle.re_labels.specs.Rows.{IsChoice}
use Rattle.re_given.proofs.ChainGiven.{IsInput-upper}
use Rattle.re_given.proofs.SlowGiven.{SolvableGiven-upper}
use Rattle.re_given.specs.Given.{SolvableGiven}
use Rattle.re_given.specs.Inputs.{IsInput, exchanged}
use Rattle.re_labels.proofs.Membership.{AllByRecursion-from_contains, Contains-filter, Contains-filter_cases, Contains-map_cases}
use Rattle.re_labels.specs.Sets.{IsIn}
use Rattle.re_problem.specs.Problems.{Problem}
use Rattle.re_problem.specs.Steps.{IsUpper}
use Rattle.re_labels.proofs.Goodness.{IsAllowed-Rearranged, IsAllowed-is_allowed, IsGood-Rearranged, IsGood-is_good, is_allowed-IsAllowed, is_good-IsGood}
use Rattle.re_labels.specs.Constraints.{Has}
use Rattle.re_labels.specs.GoodRows.{IsAllowed, IsGood, is_allowed, is_good}

-- ---- between the two steps
module _ (problem : Problem) (L : ℕ) (sets : ℕ → List ℕ) where
  -- passive nodes have labels whose sets are a good row, and active ones those whose sets are allowed
  abbrev middle : Problem
  middle = record {
    labels = L;
    active = record { degree = problem.passive.degree; configs = filter (λ c. is_good problem.passive (map sets c)) (multisets problem.passive.degree 0 L) };
    passive = record { degree = problem.active.degree; configs = filter (λ c. is_allowed problem.active (map sets c)) (multisets problem.active.degree 0 L) };
  }

  middle_upper : IsUpper problem middle sets
  middle_upper = record {
    active_degree = refl;
    passive_degree = refl;
    good = λ config held. is_good-IsGood problem.passive (map sets config) (Contains-filter_cases (λ c. is_good problem.passive (map sets c)) (multisets problem.passive.degree 0 L) config held).1;
    choice = λ config held. is_allowed-IsAllowed problem.active (map sets config) (Contains-filter_cases (λ c. is_allowed problem.active (map sets c)) (multisets problem.active.degree 0 L) config held).1;
  }

  has_good : (ys : List ℕ) → length ys ≡ problem.passive.degree → AllByRecursion (λ y. y < L) ys → IsGood problem.passive (map sets ys) → Has middle.active ys
  has_good ys count below good =
      Contains-filter (λ c. is_good problem.passive (map sets c)) (multisets problem.passive.degree 0 L) (sorted ys)
      (((multisets_law problem.passive.degree L).1 (sorted ys)).1 (IsConfig-sorted problem.passive.degree L ys count below))
      (IsGood-is_good problem.passive (map sets (sorted ys)) (IsGood-Rearranged problem.passive (Rearranged-map sets (Rearranged-sorted ys)) good))

  has_allowed : (ys : List ℕ) → length ys ≡ problem.active.degree → AllByRecursion (λ y. y < L) ys → IsAllowed problem.active (map sets ys)
      → Has middle.passive ys
  has_allowed ys count below allowed =
      Contains-filter (λ c. is_allowed problem.active (map sets c)) (multisets problem.active.degree 0 L) (sorted ys)
      (((multisets_law problem.active.degree L).1 (sorted ys)).1 (IsConfig-sorted problem.active.degree L ys count below))
      (IsAllowed-is_allowed problem.active (map sets (sorted ys)) (IsAllowed-Rearranged problem.active (Rearranged-map sets (Rearranged-sorted ys)) allowed))

-- ---- both steps
-- from where a problem is solved: passive nodes choose labels with a good row of sets, and however they choose, the sets around an active node are
-- allowed
module _ (problem next : Problem) (L : ℕ) (sets wide : ℕ → List ℕ)
    (active_degree : next.active.degree ≡ problem.active.degree)
    (passive_degree : next.passive.degree ≡ problem.passive.degree)
    (active_count : (config : List ℕ) → Contains next.active.configs config → length config ≡ problem.active.degree)
    (passive_count : (config : List ℕ) → Contains next.passive.configs config → length config ≡ problem.passive.degree)
    (filled : (config : List ℕ) (x : ℕ) → Contains next.active.configs config → Contains config x → 0 < length (wide x))
    (allowed : (config ys : List ℕ) → Contains next.active.configs config → IsChoice ys (map wide config) → AllByRecursion (λ y. y < L) ys × IsAllowed problem.active (map sets ys))
    (good : (config : List ℕ) → Contains next.passive.configs config → (ys : List ℕ) × IsChoice ys (map wide config) × AllByRecursion (λ y. y < L) ys × IsGood problem.passive (map sets ys)) where
  second : IsUpper (middle problem L sets) next wide
  second = record {
    active_degree = active_degree;
    passive_degree = passive_degree;
    good = λ config held. record {
      count = length-map config wide ∙ active_count config held;
      filled = AllByRecursion-from_contains (λ s. 0 < length s) (map wide config) (λ s at.
          let (x, there, e) = Contains-map_cases wide config s at in
          subst (λ s. 0 < length s) e (filled config x held there));
      choice = λ labels chosen.
          let (below, row) = allowed config labels held chosen in
          has_allowed problem L sets labels (length-AllZip IsIn labels (map wide config) chosen ∙ (length-map config wide ∙ active_count config held)) below row;
    };
    choice = λ config held.
        let (ys, chosen, below, row) = good config held in
        (ys, chosen, has_good problem L sets ys (length-AllZip IsIn ys (map wide config) chosen ∙ (length-map config wide ∙ passive_count config held)) below row);
  }

  pub SolvableGiven-hops : (input : Problem) (T : ℕ) → IsInput problem input → SolvableGiven next input T → SolvableGiven problem input (suc (suc T))
  SolvableGiven-hops input T is solvable =
      SolvableGiven-upper problem (middle problem L sets) input sets (suc T) is (middle_upper problem L sets)
      (SolvableGiven-upper (middle problem L sets) next (exchanged input) wide T (IsInput-upper (middle_upper problem L sets) is) second solvable)
