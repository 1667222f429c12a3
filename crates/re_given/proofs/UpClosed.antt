-- Where some sets lead to the exchanged input problem, some up-sets do.
use Rattle.std.proofs.Common.{◌≡◌, ℕ, ◌+◌, ◌<◌, List, [], ◌∷◌, ◌++◌, filter, map, length, get_or, subst, sym, ◌∙◌, ap, arith, append-nil}
use Rattle.std.specs.Prelude.{Contains}
use Rattle.std.specs.List.{AllByRecursion, AllZip, list_any}
use Rattle.std.proofs.lemmas.List.{get_or-map, length-map}
use Rattle.re_labels.proofs.Rearranging.{Rearranged-sym}
use Rattle.re_labels.specs.Configs.{IsConfig}
use Rattle.re_labels.specs.Rows.{IsChoice, set_at}
use Rattle.re_given.proofs.AllInputViews.{Has-below}
use Rattle.re_given.proofs.Fitting.{Rearranged-front}
use Rattle.re_given.specs.Given.{ZeroGiven}
use Rattle.re_given.specs.Inputs.{IsInput, exchanged}
use Rattle.re_given.specs.UpSets.{IsFit, IsUpSet}
use Rattle.re_labels.proofs.Membership.{AllByRecursion-contains, Contains-count_from, Contains-filter, Contains-filter_cases, Contains-here, Contains-later, any_found, any_true, get_or-count_from, length-count_from, map-alike}
use Rattle.re_labels.proofs.Numbers.{IsLabelSet-count_from, IsLabelSet-filter}
use Rattle.re_labels.specs.Lists.{count_from}
use Rattle.re_laws.proofs.Ports.{AllByRecursion-count, length-ports}
use Rattle.re_laws.proofs.FastRounds.{some_member}
use Rattle.re_problem.specs.Problems.{IsProblem, Problem}
use Rattle.re_problem.specs.Steps.{IsUpper}
use Rattle.re_labels.proofs.Goodness.{Has-Rearranged}
use Rattle.re_labels.proofs.Strengths.{IsAtLeastAsStrong-refl, IsAtLeastAsStrong-test, IsAtLeastAsStrong-trans, is_at_least_as_strong-fact, stronger_first}
use Rattle.re_labels.specs.Constraints.{Constraint, Has, IsConstraint}
use Rattle.re_labels.specs.GoodRows.{IsAllowed, IsGood}
use Rattle.re_labels.specs.Strength.{IsAtLeastAsStrong, is_at_least_as_strong}

-- a choice from sets none of which is empty
some_choice : (row : List (List ℕ)) → AllByRecursion (λ (s : List ℕ). 0 < length s) row → (labels : List ℕ) × IsChoice labels row
some_choice [] h = ([], tt)
some_choice ([] ∷ row) h = absurd (let l : 0 < length {A = ℕ} [] = h.0 in omega arith)
some_choice ((x ∷ s) ∷ row) h =
    let (labels, chosen) = some_choice row h.1 in
    (x ∷ labels, (Contains-here x s, chosen))

-- labels that are all at least as strong stand wherever the others do
stronger_all : (K : Constraint) (seen labels stronger : List ℕ) → AllZip (λ y x. IsAtLeastAsStrong K y x) stronger labels → Has K (labels ++ seen) → Has K (stronger ++ seen)
stronger_all K seen [] [] zip has = has
stronger_all K seen [] (y ∷ stronger) zip has = absurd zip
stronger_all K seen (x ∷ labels) [] zip has = absurd zip
stronger_all K seen (x ∷ labels) (y ∷ stronger) zip has =
    let one : Has K (y ∷ labels ++ seen) = stronger_first K x y (labels ++ seen) zip.0 has in
    Has-Rearranged K (Rearranged-front stronger y seen) (stronger_all K (y ∷ seen) labels stronger zip.1 (Has-Rearranged K (Rearranged-sym (Rearranged-front labels y seen)) one))

module _ (problem input : Problem) (is : IsProblem problem) (is_input : IsInput problem input) (sets : ℕ → List ℕ) (upper : IsUpper problem (exchanged input) sets) where
  -- the labels of the problem that are at least as strong as one of the set
  abbrev closed : ℕ → List ℕ
  closed z = filter (λ b. list_any (λ a. is_at_least_as_strong problem.passive b a) (sets z)) (count_from 0 problem.labels)

  abbrev closed_sets : List (List ℕ)
  closed_sets = map closed (count_from 0 input.labels)

  closed_in : (z a b : ℕ) → Contains (sets z) a → b < problem.labels → IsAtLeastAsStrong problem.passive b a → Contains (closed z) b
  closed_in z a b held l strong =
      Contains-filter (λ b. list_any (λ a. is_at_least_as_strong problem.passive b a) (sets z)) (count_from 0 problem.labels) b (Contains-count_from 0 problem.labels b (omega arith) (omega arith))
      (any_true (λ a. is_at_least_as_strong problem.passive b a) (sets z) a held (IsAtLeastAsStrong-test problem.passive a b strong))

  closed_from : (z b : ℕ) → Contains (closed z) b → (a : ℕ) × Contains (sets z) a × IsAtLeastAsStrong problem.passive b a
  closed_from z b held =
      let (listed, passes) = Contains-filter_cases (λ b. list_any (λ a. is_at_least_as_strong problem.passive b a) (sets z)) (count_from 0 problem.labels) b held in
      let (a, at, strong) = any_found (λ a. is_at_least_as_strong problem.passive b a) (sets z) passes in
      (a, at, is_at_least_as_strong-fact problem.passive a b strong)

  closed_up : (z : ℕ) → IsUpSet problem.passive problem.labels (closed z)
  closed_up z = record {
    is_set = IsLabelSet-filter (λ b. list_any (λ a. is_at_least_as_strong problem.passive b a) (sets z)) problem.labels (count_from 0 problem.labels) (IsLabelSet-count_from 0 problem.labels problem.labels (omega arith));
    up = λ x y held l strong.
        let (a, at, above) = closed_from z x held in
        closed_in z a y at l (IsAtLeastAsStrong-trans problem.passive a x y above strong);
  }

  own_closed : (z x : ℕ) → Contains (sets z) x → x < problem.labels → Contains (closed z) x
  own_closed z x held l = closed_in z x x held l (IsAtLeastAsStrong-refl problem.passive problem.labels x is.passive)

  -- a choice stays one
  still_chosen : (config labels : List ℕ) → IsChoice labels (map sets config) → ((x : ℕ) → Contains labels x → x < problem.labels) → IsChoice labels (map closed config)
  still_chosen [] [] chosen below = tt
  still_chosen [] (x ∷ labels) chosen below = absurd chosen
  still_chosen (z ∷ config) [] chosen below = absurd chosen
  still_chosen (z ∷ config) (x ∷ labels) chosen below =
      (own_closed z x chosen.0 (below x (Contains-here x labels)), still_chosen config labels chosen.1 (λ y held. below y (Contains-later y x labels held)))

  -- and a choice of the closed sets is at least as strong as one of the sets
  chosen_below : (config stronger : List ℕ) → IsChoice stronger (map closed config) → (labels : List ℕ) × IsChoice labels (map sets config) × AllZip (λ y x. IsAtLeastAsStrong problem.passive y x) stronger labels
  chosen_below [] [] chosen = ([], tt, tt)
  chosen_below [] (x ∷ stronger) chosen = absurd chosen
  chosen_below (z ∷ config) [] chosen = absurd chosen
  chosen_below (z ∷ config) (y ∷ stronger) chosen =
      let (a, at, above) = closed_from z y chosen.0 in
      let (labels, rest, zip) = chosen_below config stronger chosen.1 in
      (a ∷ labels, (at, rest), (above, zip))

  filled_by : (config labels : List ℕ) → IsChoice labels (map closed config) → AllByRecursion (λ (s : List ℕ). 0 < length s) (map closed config)
  filled_by [] labels chosen = tt
  filled_by (z ∷ config) [] chosen = absurd chosen
  filled_by (z ∷ config) (x ∷ labels) chosen = (some_member (closed z) x chosen.0, filled_by config labels chosen.1)

  good_closed : (config : List ℕ) → Contains input.passive.configs config → IsGood problem.passive (map closed config)
  good_closed config held =
      let good : IsGood problem.passive (map sets config) = upper.good config held in
      let (labels, chosen) = some_choice (map sets config) good.filled in
      record {
        count = length-map config closed ∙ (sym (length-map config sets) ∙ good.count);
        filled = filled_by config labels (still_chosen config labels chosen (Has-below problem.labels problem.passive labels is.passive (good.choice labels chosen)));
        choice = λ stronger strong.
            let (weaker, chosen', zip) = chosen_below config stronger strong in
            subst (Has problem.passive) (append-nil stronger) (stronger_all problem.passive [] weaker stronger zip (subst (Has problem.passive) (sym (append-nil weaker)) (good.choice weaker chosen')));
      }

  allowed_closed : (config : List ℕ) → Contains input.active.configs config → IsAllowed problem.active (map closed config)
  allowed_closed config held =
      let (labels, chosen, has) = upper.choice config held in
      (labels, still_chosen config labels chosen (Has-below problem.labels problem.active labels is.active has), has)

  -- as a list of sets
  listed_sets : (constraint : Constraint) → IsConstraint input.labels constraint → (config : List ℕ) → Contains constraint.configs config → map (set_at closed_sets) config ≡ map closed config
  listed_sets constraint is_constraint config held = map-alike (set_at closed_sets) closed config (λ z at.
      let below : z < input.labels = AllByRecursion-contains (λ x. x < input.labels) config z (AllByRecursion-contains (IsConfig constraint.degree input.labels) constraint.configs config is_constraint.configs held).below at in
      get_or-map closed (count_from 0 input.labels) z 0 [] (omega (arith, length-count_from 0 input.labels)) ∙ ap closed (let e : get_or (count_from 0 input.labels) z 0 ≡ 0 + z = get_or-count_from 0 input.labels z 0 below in omega arith))

  pub IsFit-closed : IsFit problem input closed_sets
  IsFit-closed = record {
    count = length-ports closed 0 input.labels;
    up_sets = AllByRecursion-count (IsUpSet problem.passive problem.labels) closed 0 input.labels (λ k l. closed_up (0 + k));
    upper = record {
      active_degree = upper.active_degree;
      passive_degree = upper.passive_degree;
      good = λ config held. subst (IsGood problem.passive) (sym (listed_sets input.passive is_input.is_problem.passive config held)) (good_closed config held);
      choice = λ config held. subst (IsAllowed problem.active) (sym (listed_sets input.active is_input.is_problem.active config held)) (allowed_closed config held);
    };
  }

pub fit_from : (problem input : Problem) → IsProblem problem → IsInput problem input → ZeroGiven problem input → (sets : List (List ℕ)) × IsFit problem input sets
fit_from problem input is is_input (sets, upper) = (closed_sets problem input is is_input sets upper, IsFit-closed problem input is is_input sets upper)
