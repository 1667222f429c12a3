-- The problem of two families of a closure, with names: each label stands in a configuration.
use Rattle.std.proofs.Common.{◌≡◌, ℕ, ◌<◌, ◌≤◌, List, [], ◌∷◌, length, map, Option, None, Some, sym, ap, ◌∙◌, subst, inl, inr, ◌⊎◌, arith}
use Rattle.std.specs.Prelude.{Contains, MatchOption}
use Rattle.std.specs.List.{AllByRecursion}
use Rattle.re_labels.proofs.ChoicesOfRows.{IsUnder-refl}
use Rattle.re_labels.proofs.Rearranging.{Contains-Rearranged, Rearranged-refl}
use Rattle.re_labels.proofs.Sorting.{Rearranged-sorted}
use Rattle.re_labels.specs.Configs.{sorted}
use Rattle.re_labels.specs.Rows.{IsUnder, placed, set_at}
use Rattle.re_labels.proofs.Membership.{AllByRecursion-contains, Contains-here, Contains-later, Contains-map, length-map'}
use Rattle.re_labels.proofs.LabelPlaces.{get-place_of, map-get-place_of, place_of-below}
use Rattle.re_labels.specs.Lists.{place_of}
use Rattle.re_labels.specs.Sets.{IsIn, IsLabelSet, IsWithin}
use Rattle.re_labels.specs.declared.TheConstants.{MAX_LABELS}
use Rattle.re_labels.specs.Constraints.{Constraint}
use Rattle.re_labels.specs.GoodRows.{IsDominated}
use Rattle.re_problem.proofs.Building.{build_law}
use Rattle.re_problem.specs.NamedProblems.{IsNamedProblem, NamedProblem, OccursIn, built, unnamed}
use Rattle.re_problem.specs.Problems.{IsProblem, Problem}
use Rattle.re_step.proofs.NameLemmas.{IsNames-label_names, length-label_names}
use Rattle.re_closure_laws.proofs.Below.{Has-below}
use Rattle.re_labels.proofs.Searching.{same_read}
use Rattle.re_closure_laws.proofs.FirstSteps.{IsIn-others, IsIn-others_cases, first_step_law, opposite_to, others-more}
use Rattle.re_closure_laws.proofs.Generated.{IsLabelSet-others, active_first, closure_families_law, fit, same_set}
use Rattle.re_closure_laws.proofs.Returning.{other_way}
use Rattle.re_closure_laws.proofs.Steps.{Has-topmost, step_law}
use Rattle.re_closure_laws.specs.Closures.{AreClosure, down_lines}
use Rattle.re_closure_laws.specs.Lines.{AreAround, AreOpposed, Family, IsFamily, below, others, problem_of, topmost}
use Rattle.re_step.proofs.StepLemmas.{wider}
use Rattle.re_closure.specs.Sides.{named_of}

-- ---- without the names
pub unnamed_of : (active passive : Family) → unnamed (named_of active passive) ≡ problem_of active passive
unnamed_of active passive = λ i. record { labels = length-label_names (length passive.sets) i; active = topmost active; passive = below passive }

-- ---- labels stand in configurations
module _ (family : Family) (is : IsFamily family) (x : ℕ) (low : x < length family.sets) (line : List (List ℕ)) (held : Contains family.lines line) (there : Contains line (set_at family.sets x)) where
  abbrev labels : List ℕ
  labels = map (place_of family.sets) line

  abbrev set : List ℕ
  set = set_at family.sets x

  known : (set : List ℕ) → Contains line set → Contains family.sets set
  known set i = is.known line set held i

  own_place : place_of family.sets (set_at family.sets x) ≡ x
  own_place =
      let k = place_of family.sets set in
      let at : set_at family.sets k ≡ set = get-place_of family.sets set (known set there) in
      is.apart k x (place_of-below family.sets set (known set there)) low (subst (IsWithin (set_at family.sets k)) at (λ z i. i)) (subst (λ s. IsWithin s (set_at family.sets k)) at (λ z i. i))

  among : IsIn x (sorted (map (place_of family.sets) line))
  among = Contains-Rearranged x (Rearranged-sorted labels) (subst (Contains labels) own_place (Contains-map (place_of family.sets) line set there))

  places_low : (l : List (List ℕ)) → ((set : List ℕ) → Contains l set → Contains family.sets set) → AllByRecursion (λ x. x < length family.sets) (map (place_of family.sets) l)
  places_low [] h = tt
  places_low (s ∷ l) h = (place_of-below family.sets s (h s (Contains-here s l)), places_low l (λ set i. h set (Contains-later set s l i)))

  pub occurs_topmost : OccursIn (topmost family) x
  occurs_topmost = (sorted labels, Has-topmost family is line labels held (Rearranged-refl labels), among)

  pub occurs_below : OccursIn (below family) x
  occurs_below =
      let dom : IsDominated family.lines (placed family.sets labels) = (line, held, (line, Rearranged-refl line, subst (λ w. IsUnder w line) (sym (map-get-place_of family.sets line known)) (IsUnder-refl line))) in
      (sorted labels, Has-below family is labels (length-map' (place_of family.sets) line ∙ is.count line held) (places_low line known) dom, among)

-- ---- the families of a closure
module _ (problem : Problem) (active passive : Family) (is : IsProblem problem) (closure : AreClosure problem active passive) where
  families : IsFamily active × IsFamily passive × AreAround problem active passive
  families = closure_families_law problem active passive is closure

  pub opposed : AreOpposed active passive
  opposed = (first_step_law problem active passive is families.0 families.1 families.2).0

  others-twice : (s : List ℕ) → IsLabelSet problem.labels s → others problem.labels (others problem.labels s) ≡ s
  others-twice s h = let n = problem.labels in same_set n (others n (others n s)) s (IsLabelSet-others n (others n s)) h
      (others-more n (others n (others n s)) s (λ x i. (IsIn-others_cases n x (others n s) i).0) (λ x i. IsIn-others n x (others n (others n s)) (IsIn-others_cases n x s i).0 (λ k. (IsIn-others_cases n x (others n s) k).1 i)))
      (λ x i. IsIn-others n x (others n s) (AllByRecursion-contains (λ x. x < n) s x h.1 i) (λ k. (IsIn-others_cases n x s k).1 i))

  pub same_count : length active.sets ≡ length passive.sets
  same_count = ap length closure.opposite ∙ length-map' (others problem.labels) passive.sets

  -- the set of a label stands in a passive line, or in an active one stands what it leaves
  abbrev InPassive : ℕ → Type 0
  InPassive x = (line : List (List ℕ)) × Contains passive.lines line × Contains line (set_at passive.sets x)

  abbrev InActive : ℕ → Type 0
  InActive x = (line : List (List ℕ)) × Contains active.lines line × Contains line (set_at active.sets x)

  either : (x : ℕ) → x < length passive.sets → InPassive x ⊎ InActive x
  either x low = elim ((closure.sets (set_at passive.sets x)).0 (x, low, same_read passive.sets x (set_at passive.sets x) [] low)) [
    | inl occurs ↦ inl occurs
    | inr (other, (line, held, there), e) ↦
        let fits = AllByRecursion-contains (IsLabelSet problem.labels) line other (fit problem.labels active.degree (down_lines problem)
        (λ l k. let two = active_first problem is l k in (two.0 ∙ sym closure.active_degree, two.1)) (closure.active_lines.generated line held)).1 there in
        let at : set_at active.sets x ≡ other = opposite_to problem.labels active.sets passive.sets closure.opposite x low ∙ ap (others problem.labels) e ∙ others-twice other fits in
        inr (line, held, subst (Contains line) (sym at) there)
  ]

  low_active : (x : ℕ) → x < length passive.sets → x < length active.sets
  low_active x low = omega (arith, low, same_count)

  pub named_closed : length passive.sets ≤ MAX_LABELS → IsNamedProblem (named_of active passive)
  named_closed few = record {
    names = IsNames-label_names (length passive.sets) few;
    problem = subst IsProblem (sym (unnamed_of active passive)) (step_law active passive families.0 families.1 opposed).0;
    occur = λ x l.
        let low : x < length passive.sets = subst (λ m. x < m) (length-label_names (length passive.sets)) l in
        elim (either x low) [
          | inl (line, held, there) ↦ inr (occurs_below passive families.1 x low line held there)
          | inr (line, held, there) ↦ inl (occurs_topmost active families.0 x (low_active x low) line held there)
        ];
  }

  pub named_between : length passive.sets ≤ MAX_LABELS → IsNamedProblem (named_of passive active)
  named_between few = record {
    names = IsNames-label_names (length active.sets) (omega (arith, few, same_count));
    problem = subst IsProblem (sym (unnamed_of passive active)) (step_law passive active families.1 families.0 (other_way active passive opposed)).0;
    occur = λ x l.
        let high : x < length active.sets = subst (λ m. x < m) (length-label_names (length active.sets)) l in
        let low : x < length passive.sets = omega (arith, high, same_count) in
        elim (either x low) [
          | inl (line, held, there) ↦ inl (occurs_topmost passive families.1 x low line held there)
          | inr (line, held, there) ↦ inr (occurs_below active families.0 x high line held there)
        ];
  }

-- ---- it is built
pub surely_built : (names : List (List ℕ)) (active passive : Constraint) → IsNamedProblem (record { names = names; active = active; passive = passive })
    → built names active passive ≡ Some (record { names = names; active = active; passive = passive })
surely_built names active passive is =
    some (built names active passive) (build_law names active passive is.names (wider (length names) active is.names.few is.problem.active) (wider (length names) passive is.names.few is.problem.passive))
  where
    some : (o : Option NamedProblem)
        → MatchOption o (IsNamedProblem (record { names = names; active = active; passive = passive }) → ⊥)
        (λ problem. (problem ≡ record { names = names; active = active; passive = passive }) × IsNamedProblem (record { names = names; active = active; passive = passive }))
        → o ≡ Some (record { names = names; active = active; passive = passive })
    some None m = absurd (m is)
    some (Some problem) m = ap Some m.0
