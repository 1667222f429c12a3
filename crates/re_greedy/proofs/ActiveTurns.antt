-- The turn of one colour, at active nodes: those of the colour put out labels that fit what they are told, and the others keep what they have.
use Rattle.std.proofs.Common.{◌≡◌, ℕ, suc, ◌+◌, ◌-◌, ◌≤◌, ◌<◌, Bool, true, false, eqb, List, [], ◌∷◌, map, length, refl, sym, ◌∙◌, subst, arith, inl, inr}
use Rattle.std.specs.Prelude.{Contains}
use Rattle.std.specs.List.{AllByRecursion, AllZip}
use Rattle.std.proofs.lemmas.Bool.Decides.{nat_tests}
use Rattle.std.proofs.lemmas.List.{length-map}
use Rattle.std.proofs.lemmas.List.Elements.{Contains-get_or}
use Rattle.re_labels.proofs.Rearranging.{Contains-Rearranged, length-AllZip}
use Rattle.re_labels.proofs.Sorting.{Rearranged-sorted, length-sorted}
use Rattle.re_labels.specs.Configs.{IsConfig, sorted}
use Rattle.re_labels.specs.Rows.{IsChoice}
use Rattle.re_greedy.proofs.Parts.{choice_only, chosen_itself}
use Rattle.re_greedy.proofs.Stages.{Acts, active_there, stage, stage_active}
use Rattle.re_greedy.proofs.Told.{L, sets, sets_itself, sets_there, told, wide, wide_cases, wide_only}
use Rattle.re_greedy.specs.Greedy.{IsGreedy}
use Rattle.re_labels.proofs.Membership.{AllByRecursion-contains, AllByRecursion-from_contains, Contains-here, Contains-later, Contains-map_cases}
use Rattle.re_labels.proofs.Tests.{eqb-same, eqb-true}
use Rattle.re_labels.specs.Sets.{IsIn, has}
use Rattle.re_problem.specs.Problems.{IsProblem, Problem}
use Rattle.re_labels.specs.Constraints.{Constraint, Has}
use Rattle.re_labels.specs.GoodRows.{IsAllowed}
use Rattle.re_local.proofs.ColouredHops.{chosen_in, in_replicate}

-- labels of a configuration are below the number of labels
pub has_below : (problem : Problem) (labels : List ℕ) → IsProblem problem → Has problem.active labels → (z : ℕ) → Contains labels z → z < problem.labels
has_below problem labels is has z at =
    let config : IsConfig problem.active.degree problem.labels (sorted labels) =
    AllByRecursion-contains (IsConfig problem.active.degree problem.labels) problem.active.configs (sorted labels) is.active.configs has in
    AllByRecursion-contains (λ z. z < problem.labels) (sorted labels) z config.below (Contains-Rearranged z (Rearranged-sorted labels) at)

pub has_count : (problem : Problem) (labels : List ℕ) → IsProblem problem → Has problem.active labels → length labels ≡ problem.active.degree
has_count problem labels is has =
    let config : IsConfig problem.active.degree problem.labels (sorted labels) =
    AllByRecursion-contains (IsConfig problem.active.degree problem.labels) problem.active.configs (sorted labels) is.active.configs has in
    sym (length-sorted labels) ∙ config.count

module _ (problem : Problem) (partial : List (List ℕ)) (c q : ℕ) (is : IsProblem problem) (greedy : IsGreedy problem partial) (turn : q < c) where
  abbrev n : ℕ
  n = problem.labels

  abbrev member : Constraint
  member = record { degree = problem.passive.degree; configs = partial }

  abbrev most : ℕ
  most = L problem partial c q

  abbrev told_here : ℕ → List ℕ
  told_here = told problem partial c q

  abbrev wide_here : ℕ → List ℕ
  wide_here = wide problem partial c q

  abbrev sets_here : ℕ → List ℕ
  sets_here = sets problem partial c q

  -- those of other colours keep what they have
  settled : (config ys : List ℕ) → IsConfig problem.active.degree (n + c) config → Acts problem c (suc q) config → ((z : ℕ) → Contains config z → z ≡ n + q → ⊥)
      → IsChoice ys (map wide_here config) → AllByRecursion (λ y. y < most) ys × IsAllowed (stage problem partial c (suc q)).active (map sets_here ys)
  settled config ys config_is does other chosen =
      let same : config ≡ ys = sym (choice_only wide_here config ys (λ z y at in_set. wide_only problem partial c q z y (other z at) in_set) chosen) in
      let low : (z : ℕ) → Contains config z → z < n + c = λ z at. AllByRecursion-contains (λ z. z < n + c) config z config_is.below at in
      subst (λ ys. AllByRecursion (λ y. y < most) ys × IsAllowed (stage problem partial c (suc q)).active (map sets_here ys)) same (
        AllByRecursion-from_contains (λ y. y < most) config (λ z at. let l = low z at in omega (arith, l)),
        (config, chosen_itself sets_here config (λ z at. sets_itself problem partial c q z (low z at)), active_there problem partial c (suc q) config config_is.count config_is.below does),
      )

  -- what labels fit beside is in their sets
  fits : (labels ys : List ℕ) → ((z : ℕ) → Contains labels z → z < n) → ((y : ℕ) → Contains ys y → n + c ≤ y)
      → AllZip (λ label seen. Contains partial (sorted (label ∷ seen))) labels (map told_here ys) → IsChoice labels (map sets_here ys)
  fits [] [] low high zip = tt
  fits [] (y ∷ ys) low high zip = absurd zip
  fits (z ∷ labels) [] low high zip = absurd zip
  fits (z ∷ labels) (y ∷ ys) low high zip = (
    sets_there problem partial c q y z (high y (Contains-here y ys)) (low z (Contains-here z labels)) zip.0,
    fits labels ys (λ w at. low w (Contains-later w z labels at)) (λ w at. high w (Contains-later w y ys at)) zip.1,
  )

  -- those of colour q put out labels that fit what they see
  acting : (ys : List ℕ) → length ys ≡ problem.active.degree → ((y : ℕ) → Contains ys y → Contains (wide_here (n + q)) y)
      → AllByRecursion (λ y. y < most) ys × IsAllowed (stage problem partial c (suc q)).active (map sets_here ys)
  acting ys count each =
      let around : AllByRecursion (λ seen. Contains partial seen × (length seen < problem.passive.degree)) (map told_here ys) =
      AllByRecursion-from_contains (λ seen. Contains partial seen × (length seen < problem.passive.degree)) (map told_here ys) (λ seen at.
      let (y, there, e) = Contains-map_cases told_here ys seen at in
      let (high, low, fewer) = wide_cases problem partial c q y (each y there) in
      subst (λ seen. Contains partial seen × (length seen < problem.passive.degree)) e (Contains-get_or partial (y - (n + c)) [] (omega (arith, high, low)), fewer)) in
      let (labels, zip, has) = greedy.next (map told_here ys) (length-map ys told_here ∙ count) around in
      let low : (z : ℕ) → Contains labels z → z < n = has_below problem labels is has in (
        AllByRecursion-from_contains (λ y. y < most) ys (λ y at. (wide_cases problem partial c q y (each y at)).1),
        (
          labels,
          fits labels ys low (λ y at. (wide_cases problem partial c q y (each y at)).0) zip,
          active_there problem partial c (suc q) labels (has_count problem labels is has)
              (AllByRecursion-from_contains (λ z. z < n + c) labels (λ z at. let l = low z at in omega (arith, l))) (inl has),
        ),
      )

  pub allowed : (config ys : List ℕ) → Contains (stage problem partial c q).active.configs config → IsChoice ys (map wide_here config)
      → AllByRecursion (λ y. y < most) ys × IsAllowed (stage problem partial c (suc q)).active (map sets_here ys)
  allowed config ys held chosen =
      let (config_is, does) = stage_active problem partial c q config held in
      by config_is does
    where
      in_wide : ((z : ℕ) → Contains config z → z ≡ n + q) → (y : ℕ) → Contains ys y → Contains (wide_here (n + q)) y
      in_wide same y at =
          let (z, there, in_set) = chosen_in wide_here ys config y chosen at in
          subst (λ z. Contains (wide_here z) y) (same z there) in_set

      by : IsConfig problem.active.degree (n + c) config → Acts problem c q config
          → AllByRecursion (λ y. y < most) ys × IsAllowed (stage problem partial c (suc q)).active (map sets_here ys)
      by config_is (inl has) =
          settled config ys config_is (inl has) (λ z at e. (let low = has_below problem config is has z at in absurd (omega (arith, low, e)))) chosen
      by config_is (inr (x, low, high, e)) = at (eqb x (n + q)) refl
        where
          at : (b : Bool) → eqb x (n + q) ≡ b → AllByRecursion (λ y. y < most) ys × IsAllowed (stage problem partial c (suc q)).active (map sets_here ys)
          at true same =
              let x_is : x ≡ n + q = eqb-true x (n + q) same in
              let count : length ys ≡ problem.active.degree = length-AllZip IsIn ys (map wide_here config) chosen ∙ (length-map config wide_here ∙ config_is.count) in
              acting ys count (in_wide (λ z there. in_replicate problem.active.degree x z (subst (λ zs. Contains zs z) e there) ∙ x_is))
          at false apart =
              let other : x ≡ n + q → ⊥ = λ f. (let one : eqb x (n + q) ≡ true = subst (λ w. eqb x w ≡ true) f (eqb-same x) in absurd (cc)) in
              let later : n + suc q ≤ x = grind (arith, nat_tests) in
              settled config ys config_is (inr (x, later, high, e))
              (λ z there f. other (sym (in_replicate problem.active.degree x z (subst (λ zs. Contains zs z) e there)) ∙ f)) chosen
