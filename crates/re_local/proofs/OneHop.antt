-- One hop by two upper steps.
use Rattle.std.proofs.Common.{◌≡◌, ℕ, ◌<◌, List, [], filter, map, length, get_or, refl, ◌∙◌, subst, arith}
use Rattle.std.specs.Prelude.{Contains}
use Rattle.std.specs.List.{AllByRecursion}
use Rattle.std.proofs.lemmas.List.{get_or-map, length-map}
use Rattle.re_labels.proofs.LawsOfRows.{multisets_law}
use Rattle.re_labels.proofs.Rearranging.{AllZip-at, Rearranged-map, length-AllZip}
use Rattle.re_labels.proofs.Sorting.{IsConfig-sorted, Rearranged-sorted}
use Rattle.re_labels.specs.Configs.{IsConfig, sorted}
use Rattle.re_labels.specs.Orders.{multisets}
use Rattle.re_labels.specs.Rows.{IsChoice}
use Rattle.re_given.proofs.ChainGiven.{IsInput-upper}
use Rattle.re_given.proofs.SlowGiven.{SolvableGiven-upper, SolvableGiven-zero}
use Rattle.re_given.specs.Given.{SolvableGiven}
use Rattle.re_given.specs.Inputs.{IsInput, exchanged}
use Rattle.re_labels.proofs.Membership.{AllByRecursion-contains, AllByRecursion-from_contains, Contains-filter, Contains-filter_cases, Contains-map_cases}
use Rattle.re_labels.specs.Sets.{IsIn}
use Rattle.re_problem.specs.Problems.{Problem}
use Rattle.re_problem.specs.Steps.{IsUpper}
use Rattle.re_labels.proofs.Goodness.{IsAllowed-Rearranged, IsAllowed-is_allowed, IsGood-Rearranged, IsGood-is_good, is_allowed-IsAllowed, is_good-IsGood}
use Rattle.re_labels.specs.Constraints.{Has}
use Rattle.re_labels.specs.GoodRows.{IsAllowed, IsGood, is_allowed, is_good}

-- ---- between the two steps
module _ (problem : Problem) (L : ℕ) (sets : ℕ → List ℕ) where
  -- passive nodes have labels whose sets are a good row, and active ones those whose sets are allowed
  abbrev middle : Problem
  middle = record {
    labels = L;
    active = record { degree = problem.passive.degree; configs = filter (λ c. is_good problem.passive (map sets c)) (multisets problem.passive.degree 0 L) };
    passive = record { degree = problem.active.degree; configs = filter (λ c. is_allowed problem.active (map sets c)) (multisets problem.active.degree 0 L) };
  }

  middle_upper : IsUpper problem middle sets
  middle_upper = record {
    active_degree = refl;
    passive_degree = refl;
    good = λ config held. is_good-IsGood problem.passive (map sets config) (Contains-filter_cases (λ c. is_good problem.passive (map sets c)) (multisets problem.passive.degree 0 L) config held).1;
    choice = λ config held. is_allowed-IsAllowed problem.active (map sets config) (Contains-filter_cases (λ c. is_allowed problem.active (map sets c)) (multisets problem.active.degree 0 L) config held).1;
  }

  has_good : (ys : List ℕ) → length ys ≡ problem.passive.degree → AllByRecursion (λ y. y < L) ys → IsGood problem.passive (map sets ys) → Has middle.active ys
  has_good ys count below good =
      Contains-filter (λ c. is_good problem.passive (map sets c)) (multisets problem.passive.degree 0 L) (sorted ys)
      (((multisets_law problem.passive.degree L).1 (sorted ys)).1 (IsConfig-sorted problem.passive.degree L ys count below))
      (IsGood-is_good problem.passive (map sets (sorted ys)) (IsGood-Rearranged problem.passive (Rearranged-map sets (Rearranged-sorted ys)) good))

  has_allowed : (ys : List ℕ) → length ys ≡ problem.active.degree → AllByRecursion (λ y. y < L) ys → IsAllowed problem.active (map sets ys)
      → Has middle.passive ys
  has_allowed ys count below allowed =
      Contains-filter (λ c. is_allowed problem.active (map sets c)) (multisets problem.active.degree 0 L) (sorted ys)
      (((multisets_law problem.active.degree L).1 (sorted ys)).1 (IsConfig-sorted problem.active.degree L ys count below))
      (IsAllowed-is_allowed problem.active (map sets (sorted ys)) (IsAllowed-Rearranged problem.active (Rearranged-map sets (Rearranged-sorted ys)) allowed))

-- ---- both steps
-- passive nodes can choose labels with a good row of sets, and however they choose, the sets around an active node are allowed
pub SolvableGiven-hop : (problem input : Problem) (L : ℕ) (sets wide : ℕ → List ℕ) → IsInput problem input
    → ((config ys : List ℕ) → Contains input.active.configs config → IsChoice ys (map wide config) → AllByRecursion (λ y. y < L) ys × IsAllowed problem.active (map sets ys))
    → ((config : List ℕ) → Contains input.passive.configs config → (ys : List ℕ) × IsChoice ys (map wide config) × AllByRecursion (λ y. y < L) ys × IsGood problem.passive (map sets ys))
    → SolvableGiven problem input 1
SolvableGiven-hop problem input L sets wide is allowed good =
    SolvableGiven-upper problem (middle problem L sets) input sets 0 is (middle_upper problem L sets)
    (SolvableGiven-zero (middle problem L sets) (exchanged input) (IsInput-upper (middle_upper problem L sets) is) (wide, second))
  where
    active_is : (config : List ℕ) → Contains input.active.configs config → IsConfig input.active.degree input.labels config
    active_is config held = AllByRecursion-contains (IsConfig input.active.degree input.labels) input.active.configs config is.is_problem.active.configs held

    passive_is : (config : List ℕ) → Contains input.passive.configs config → IsConfig input.passive.degree input.labels config
    passive_is config held = AllByRecursion-contains (IsConfig input.passive.degree input.labels) input.passive.configs config is.is_problem.passive.configs held

    some_of : (s : List ℕ) (y : ℕ) → Contains s y → 0 < length s
    some_of s y (j, l, e) = omega (arith, l)

    filled : (x : ℕ) → x < input.labels → 0 < length (wide x)
    filled x low =
        let (config, held, (k, l, e)) = (is.occurs x low).1 in
        let (ys, chosen, below, row) = good config held in
        let count : length ys ≡ length config = length-AllZip IsIn ys (map wide config) chosen ∙ length-map config wide in
        let member : Contains (get_or (map wide config) k []) (get_or ys k 0) = AllZip-at IsIn ys (map wide config) k 0 [] chosen (omega (arith, l, count)) in
        let set_is : get_or (map wide config) k [] ≡ wide (get_or config k x) = get_or-map wide config k x [] l in
        some_of (wide x) (get_or ys k 0) (subst (λ w. Contains (wide w) (get_or ys k 0)) e (subst (λ s. Contains s (get_or ys k 0)) set_is member))

    second : IsUpper (middle problem L sets) (exchanged (exchanged input)) wide
    second = record {
      active_degree = is.active_degree;
      passive_degree = is.passive_degree;
      good = λ config held. record {
        count = length-map config wide ∙ ((active_is config held).count ∙ is.active_degree);
        filled = AllByRecursion-from_contains (λ s. 0 < length s) (map wide config) (λ s at.
            let (x, there, e) = Contains-map_cases wide config s at in
            subst (λ s. 0 < length s) e (filled x (AllByRecursion-contains (λ x. x < input.labels) config x (active_is config held).below there)));
        choice = λ labels chosen.
            let (below, row) = allowed config labels held chosen in
            has_allowed problem L sets labels (length-AllZip IsIn labels (map wide config) chosen ∙ (length-map config wide ∙ ((active_is config held).count ∙ is.active_degree))) below row;
      };
      choice = λ config held.
          let (ys, chosen, below, row) = good config held in
          (ys, chosen, has_good problem L sets ys (length-AllZip IsIn ys (map wide config) chosen ∙ (length-map config wide ∙ ((passive_is config held).count ∙ is.passive_degree))) below row);
    }
