-- The test of the maximal rows tells whether one round is enough.
use Rattle.std.proofs.Common.{◌≡◌, ℕ, true, false, cond, ◌||◌, List, [], ◌∷◌, map, find, get_or, Option, None, Some, is_some, refl, sym, ap, ◌∙◌, subst}
use Rattle.std.specs.Prelude.{Bool, Contains, IfSome}
use Rattle.std.proofs.lemmas.Bool.{false≢true}
use Rattle.std.proofs.lemmas.List.Elements.{Contains-get_or}
use Rattle.std.proofs.lemmas.List.Quantifiers.{position-Some}
use Rattle.std.specs.List.{list_any, position}
use Rattle.re_labels.proofs.Membership.{Contains-In, Contains-map_cases, In-Contains, all-In, all-In_from}
use Rattle.re_labels.proofs.LabelPlaces.{map-get-place_of}
use Rattle.re_labels.specs.Lists.{place_of}
use Rattle.re_labels.proofs.LawsOfRows.{multisets_law}
use Rattle.re_labels.specs.Configs.{IsConfig}
use Rattle.re_labels.specs.Orders.{multisets}
use Rattle.re_labels.specs.Rows.{choices, placed, set_at}
use Rattle.re_labels.proofs.Goodness.{IsAllowed-is_allowed, is_allowed-IsAllowed}
use Rattle.re_labels.proofs.MaxSets.{max_sets-row, maximal}
use Rattle.re_labels.specs.Constraints.{has_config}
use Rattle.re_labels.specs.GoodRows.{max_rows, max_sets}
use Rattle.re_problem.proofs.DerivedProblem.{IsProblem-derived, IsUpper-derived}
use Rattle.re_problem.proofs.ZeroPlaces.{none-fails}
use Rattle.re_problem.specs.Derived.{derived}
use Rattle.re_problem.specs.Problems.{IsProblem, Problem}
use Rattle.re_problem.specs.Zero.{Zero}
use Rattle.re_laws.proofs.FastRounds.{Solvable-derived}
use Rattle.re_laws.proofs.ZeroRounds.{Solvable-zero}
use Rattle.re_laws.specs.Algorithms.{Solvable}
use Rattle.re_given_words.proofs.OneRound.{degrees_of, one-from_zero}
use Rattle.re_given_words.proofs.RoundsLaws.{Solvable-row}
use Rattle.re_given_words.specs.Ahead.{ShowsOne}
use Rattle.re_given_words.specs.RowTests.{has_choice, has_choices}

-- the first element that passes is there where some element passes
find-any : {A : Type 0} (test : A → Bool) (xs : List A) → is_some (find test xs) ≡ list_any test xs
find-any test [] = refl
find-any {A} test (x ∷ xs) = go (test x) (find-any test xs)
  where
    go : (b : Bool) → is_some (find test xs) ≡ list_any test xs → is_some (cond b (Some x) (find test xs)) ≡ (b || list_any test xs)
    go true e = refl
    go false e = e

module _ (problem : Problem) (is : IsProblem problem) where
  -- a maximal row that passes is enough
  pub one-shown : (row : List (List ℕ)) → Contains (max_rows problem.passive problem.labels) row → has_choices problem.active problem.passive.degree row ≡ true → Solvable problem 1
  one-shown row held test =
      let top = maximal problem.passive problem.labels row held in
      Solvable-row problem (degrees_of problem is) row (record {
        good = top.good;
        choice = λ places config.
            let here : IsConfig problem.active.degree problem.passive.degree places = subst (λ n. IsConfig problem.active.degree n places) top.good.count config in
            is_allowed-IsAllowed problem.active (placed row places)
            (sym (find-any (has_config problem.active) (choices (placed row places))) ∙ all-In (has_choice problem.active row) (multisets problem.active.degree 0 problem.passive.degree) test places
            (Contains-In places (multisets problem.active.degree 0 problem.passive.degree) (((multisets_law problem.active.degree problem.passive.degree).1 places).1 here)));
      })

  passes : (row : List (List ℕ)) → Contains (max_rows problem.passive problem.labels) row → ShowsOne problem row → has_choices problem.active problem.passive.degree row ≡ true
  passes row held shows =
      all-In_from (has_choice problem.active row) (multisets problem.active.degree 0 problem.passive.degree) (λ places among.
      let config : IsConfig problem.active.degree problem.passive.degree places =
      ((multisets_law problem.active.degree problem.passive.degree).1 places).0 (In-Contains places (multisets problem.active.degree 0 problem.passive.degree) among) in
      find-any (has_config problem.active) (choices (placed row places)) ∙ IsAllowed-is_allowed problem.active (placed row places) (shows.choice places (subst (λ n. IsConfig problem.active.degree n places) (sym shows.good.count) config)))

  -- where none passes, one round isn't
  pub none-shown : ((row : List (List ℕ)) → Contains (max_rows problem.passive problem.labels) row → has_choices problem.active problem.passive.degree row ≡ false) → Solvable problem 1 → ⊥
  none-shown none solvable = go ((Solvable-zero (derived problem) (IsProblem-derived problem is)).0 (Solvable-derived problem 0 is solvable))
    where
      go : Zero (derived problem) → ⊥
      go zero_there =
          let sets : List (List ℕ) = max_sets problem.passive problem.labels in
          let shows : ShowsOne problem (map (set_at sets) zero_there.0) = one-from_zero problem (derived problem) (set_at sets) (IsUpper-derived problem) zero_there in
          let (row, at, e) = Contains-map_cases (map (place_of sets)) (max_rows problem.passive problem.labels) zero_there.0 zero_there.1 in
          let row_is : map (set_at sets) zero_there.0 ≡ row = ap (map (set_at sets)) (sym e) ∙ map-get-place_of sets row (max_sets-row problem.passive problem.labels row at) in
          false≢true (sym (none row at) ∙ passes row at (subst (ShowsOne problem) row_is shows))

  -- ---- the place of the first row that passes
  abbrev rows : List (List (List ℕ))
  rows = max_rows problem.passive problem.labels

  pub place-shown : (o : Option ℕ) → o ≡ position (has_choices problem.active problem.passive.degree) (max_rows problem.passive problem.labels) → IfSome o (λ place. Solvable problem 1)
  place-shown None e = tt
  place-shown (Some place) e =
      let found = position-Some (has_choices problem.active problem.passive.degree) rows place [] (sym e) in
      one-shown (get_or rows place []) (Contains-get_or rows place [] found.0) found.1

  pub none-there : (o : Option ℕ) → o ≡ position (has_choices problem.active problem.passive.degree) (max_rows problem.passive problem.labels) → o ≡ None → Solvable problem 1 → ⊥
  none-there o e none =
      none-shown (λ row (k, l, at). ap (has_choices problem.active problem.passive.degree) (sym at) ∙ none-fails (has_choices problem.active problem.passive.degree) rows (sym e ∙ none) k row l)
