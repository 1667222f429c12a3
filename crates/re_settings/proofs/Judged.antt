-- Whether a problem is an input problem of another one.
use Rattle.std.proofs.Common.{◌≡◌, ℕ, ◌<◌, ◌≤◌, Bool, true, false, cond, eqb, not, List, [], ◌∷◌, length, get_or, inl, inr, refl, sym, ap, ◌∙◌, subst, arith, true≢false, Option, None, Some}
use Rattle.std.specs.Prelude.{◌&&◌, ◌||◌, Contains, find}
use Rattle.std.proofs.lemmas.List.Elements.{Contains-get_or}
use Rattle.re_choice.proofs.Beginning.{some_found}
use Rattle.re_labels.proofs.Membership.{AllByRecursion-contains, Contains-count_from, Contains-here, Contains-later, any_true, count_from_range}
use Rattle.re_labels.proofs.Tests.{above_zero, and-true, eqb-same, eqb-true, true-and}
use Rattle.re_labels.specs.Lists.{count_from}
use Rattle.re_labels.specs.Sets.{has}
use Rattle.re_labels.specs.Configs.{IsConfig}
use Rattle.re_problem.proofs.Building.{fact-occurs, occurs-fact}
use Rattle.re_problem.specs.NamedProblems.{IsNamedProblem, NamedProblem, OccursIn, occurs, unnamed}
use Rattle.re_given.specs.Inputs.{IsInput}
use Rattle.re_settings.specs.InputProblems.{IsJudged, input_fault, is_one_sided, side_fault}
use Rattle.re_settings.specs.declared.inputs.InputFault.TheVariants.{Degrees, Empty}
use Rattle.re_labels.specs.Constraints.{Constraint}

-- what is found is there, and passes
found_one : (p : ℕ → Bool) (xs : List ℕ) (x : ℕ) → find p xs ≡ Some x → Contains xs x × (p x ≡ true)
found_one p [] x e = absurd (let there : None ≡ Some x = e in cc)
found_one p (y ∷ xs) x e = go (p y) refl e (λ f. found_one p xs x f)
  where
    go : (t : Bool) → p y ≡ t → cond t (Some y) (find p xs) ≡ Some x → (find p xs ≡ Some x → Contains xs x × (p x ≡ true)) → Contains (y ∷ xs) x × (p x ≡ true)
    go true test h others =
        let same : y ≡ x = (let there : Some y ≡ Some x = h in cc) in
        (subst (Contains (y ∷ xs)) same (Contains-here y xs), subst (λ z. p z ≡ true) same test)
    go false test h others = let (at, passes) = others h in (Contains-later x y xs at, passes)

-- two tests that are both passed or both failed
alike : (a b : Bool) → (not (a && b) && (a || b)) ≡ false → (a ≡ true → b ≡ true) × (b ≡ true → a ≡ true)
alike true true e = (λ h. h, λ h. h)
alike true false e = absurd (cc)
alike false true e = absurd (cc)
alike false false e = (λ h. h, λ h. h)

unlike : (a b : Bool) → (not (a && b) && (a || b)) ≡ true → (a ≡ true → b ≡ true) → (b ≡ true → a ≡ true) → ⊥
unlike true true e f g = cc
unlike true false e f g = true≢false (sym (f refl))
unlike false true e f g = true≢false (sym (g refl))
unlike false false e f g = cc

module _ (problem input : NamedProblem) (is : IsNamedProblem input) where
  sided : (label : ℕ) → label < length input.names → find (is_one_sided input) (count_from 0 (length input.names)) ≡ None → is_one_sided input label ≡ false
  sided label l none = go (is_one_sided input label) refl
    where
      go : (b : Bool) → b ≡ is_one_sided input label → is_one_sided input label ≡ false
      go false e = sym e
      go true e = absurd (some_found (is_one_sided input) (count_from 0 (length input.names)) (any_true (is_one_sided input) (count_from 0 (length input.names)) label (Contains-count_from 0 (length input.names) label (omega arith) (omega (arith, l))) (sym e)) none)

  same_degrees : (eqb input.active.degree problem.active.degree && eqb input.passive.degree problem.passive.degree) ≡ true → (input.active.degree ≡ problem.active.degree) × (input.passive.degree ≡ problem.passive.degree)
  same_degrees e =
      let both = and-true (eqb input.active.degree problem.active.degree) (eqb input.passive.degree problem.passive.degree) e in
      (eqb-true input.active.degree problem.active.degree both.0, eqb-true input.passive.degree problem.passive.degree both.1)

  -- a label that stands on one side stands on both
  both_sides : (label : ℕ) → label < length input.names → find (is_one_sided input) (count_from 0 (length input.names)) ≡ None → OccursIn input.active label × OccursIn input.passive label
  both_sides label l none =
      let (there, back) = alike (occurs input.active label) (occurs input.passive label) (sided label l none) in
      elim (is.occur label l) [
        | inl h ↦ (h, occurs-fact input.passive label (there (fact-occurs input.active label h)))
        | inr h ↦ (occurs-fact input.active label (back (fact-occurs input.passive label h)), h)
      ]

  no_label : length input.names ≡ 0 → IsInput (unnamed problem) (unnamed input) → ⊥
  no_label none is_input =
      let config : List ℕ = get_or input.active.configs 0 [] in
      let held : Contains input.active.configs config = Contains-get_or input.active.configs 0 [] is_input.some in
      let is_config : IsConfig input.active.degree (length input.names) config = AllByRecursion-contains (IsConfig input.active.degree (length input.names)) input.active.configs config is.problem.active.configs held in
      let least : 2 ≤ input.active.degree = is.problem.active.least in
      let label : ℕ = get_or config 0 0 in
      let at : Contains config label = Contains-get_or config 0 0 (omega (arith, is_config.count, least)) in
      let l : label < length input.names = AllByRecursion-contains (λ x. x < length input.names) config label is_config.below at in
      omega (arith, l, none)

  some_active : (label : ℕ) → OccursIn input.active label → 0 < length input.active.configs
  some_active label (config, (k, range, e), at) = omega (arith, range)

  by_labels : (f : Option ℕ) → find (is_one_sided input) (count_from 0 (length input.names)) ≡ f → (eqb input.active.degree problem.active.degree && eqb input.passive.degree problem.passive.degree) ≡ true
      → IsJudged problem input (side_fault input f)
  by_labels None none degrees = by_count (eqb (length input.names) 0) refl
    where
      by_count : (b : Bool) → eqb (length input.names) 0 ≡ b → IsJudged problem input (cond b (Some Empty) None)
      by_count true e = (tt, λ is_input. no_label (eqb-true (length input.names) 0 e) is_input)
      by_count false e = record {
        is_problem = is.problem;
        active_degree = (same_degrees degrees).0;
        passive_degree = (same_degrees degrees).1;
        some = some_active 0 (both_sides 0 (above_zero (length input.names) e) none).0;
        occurs = λ label l. both_sides label l none;
      }
  by_labels (Some label) found degrees =
      let (at, test) = found_one (is_one_sided input) (count_from 0 (length input.names)) label found in
      let range = count_from_range 0 (length input.names) label at in
      let l : label < length input.names = omega (arith, range.1) in (
        l,
        λ is_input. unlike (occurs input.active label) (occurs input.passive label) test
            (λ e. fact-occurs input.passive label (is_input.occurs label l).1)
            (λ e. fact-occurs input.active label (is_input.occurs label l).0),
      )

  pub judged : IsJudged problem input (input_fault problem input)
  judged = go (eqb input.active.degree problem.active.degree && eqb input.passive.degree problem.passive.degree) refl
    where
      go : (b : Bool) → (eqb input.active.degree problem.active.degree && eqb input.passive.degree problem.passive.degree) ≡ b
          → IsJudged problem input (cond b (side_fault input (find (is_one_sided input) (count_from 0 (length input.names)))) (Some Degrees))
      go true e = by_labels (find (is_one_sided input) (count_from 0 (length input.names))) refl e
      go false e = (
        tt,
        λ is_input. true≢false (sym (true-and (eqb input.active.degree problem.active.degree) (eqb input.passive.degree problem.passive.degree)
            (ap (λ m. eqb m problem.active.degree) is_input.active_degree ∙ eqb-same problem.active.degree) (ap (λ m. eqb m problem.passive.degree) is_input.passive_degree ∙ eqb-same problem.passive.degree)) ∙ e),
      )

  pub judged-none : input_fault problem input ≡ None → IsInput (unnamed problem) (unnamed input)
  judged-none e = subst (IsJudged problem input) e judged

-- ---- the test in code
pub sided-test : (input : NamedProblem) (active passive : List ℕ) (label : ℕ) (r : Bool) → has active label ≡ occurs input.active label → has passive label ≡ occurs input.passive label
    → r ≡ (not (has active label && has passive label) && (has active label || has passive label)) → r ≡ is_one_sided input label
sided-test input active passive label r a p e = e ∙ (λ i. not (a i && p i) && (a i || p i))

pub occurs-is : (given constraint : Constraint) (set : List ℕ) (label : ℕ) → given ≡ constraint → has set label ≡ occurs given label → has set label ≡ occurs constraint label
occurs-is given constraint set label same test = test ∙ ap (λ k. occurs k label) same
