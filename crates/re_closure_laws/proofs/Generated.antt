-- The closure of a problem is of two families that go with it.
use Rattle.std.proofs.Common.{◌≡◌, ℕ, zero, suc, ◌<◌, ◌≤◌, List, [], ◌∷◌, length, map, refl, sym, ap, ◌∙◌, subst, inl, inr, arith}
use Rattle.std.specs.Prelude.{Contains, not}
use Rattle.std.specs.List.{AllByRecursion, AllZip}
use Rattle.std.proofs.lemmas.Bool.{cases_lt}
use Rattle.re_labels.proofs.Placing.{Rearranged-placed}
use Rattle.re_labels.proofs.Rearranging.{length-Rearranged}
use Rattle.re_labels.proofs.Sorting.{AllByRecursion-Rearranged, sorted_again}
use Rattle.re_labels.specs.Configs.{IsConfig}
use Rattle.re_labels.specs.Orders.{placements}
use Rattle.re_labels.specs.Rearranging.{Rearranged}
use Rattle.re_labels.specs.Rows.{IsChoice, combined, meets, placed, set_at}
use Rattle.re_labels.proofs.Membership.{AllByRecursion-contains, Contains-In, Contains-map, Contains-map_cases, length-map'}
use Rattle.re_labels.proofs.Numbers.{IsLabelSet-count_from, IsLabelSet-filter, IsLabelSet-union, number-Sub}
use Rattle.re_labels.proofs.Sets.{IsWithin-Sub}
use Rattle.re_labels.specs.Lists.{IsRising, count_from}
use Rattle.re_labels.specs.Sets.{IsIn, IsLabelSet, IsWithin, has, number}
use Rattle.re_labels.proofs.Closure.{Shape, good-along, good-combined}
use Rattle.re_labels.proofs.Goodness.{Has-Rearranged}
use Rattle.re_labels.specs.Constraints.{Constraint, Has}
use Rattle.re_labels.specs.GoodRows.{IsDominated}
use Rattle.re_labels.specs.Strength.{is_at_least_as_strong}
use Rattle.re_boxes.proofs.StrengthTests.{strength_law}
use Rattle.re_problem.specs.Problems.{IsProblem, Problem}
use Rattle.re_labels.proofs.Searching.{same_read}
use Rattle.re_closure_laws.proofs.FirstSteps.{IsIn-others, IsIn-others_cases, opposite_to, others-more}
use Rattle.re_closure_laws.proofs.UpSets.{exact, to_ups, ups}
use Rattle.re_closure_laws.specs.Closures.{AreClosure, AreTopmost, IsGenerated, down_lines, up_lines}
use Rattle.re_closure_laws.specs.Closures.IsGenerated.{combine, move, start}
use Rattle.re_closure_laws.specs.Laws.{ClosureFamiliesLaw}
use Rattle.re_closure_laws.specs.Lines.{AreAround, Family, IsFamily, others, up}

-- ---- sets by their numbers
pub same_set : (n : ℕ) (s t : List ℕ) → IsLabelSet n s → IsLabelSet n t → IsWithin s t → IsWithin t s → s ≡ t
same_set n s t h k a b =
    let one = number-Sub s t h.0 k.0 (IsWithin-Sub s t a) in
    let two = number-Sub t s k.0 h.0 (IsWithin-Sub t s b) in
    one.1 two.0

rising_at : (sets : List (List ℕ)) (x y : ℕ) → IsRising (λ s t. number s < number t) sets → x < y → y < length sets → number (set_at sets x) < number (set_at sets y)
rising_at [] x y h l m = absurd (omega arith)
rising_at (s ∷ sets) x zero h l m = absurd (omega arith)
rising_at (s ∷ []) x (suc y) h l m = absurd (omega arith)
rising_at (s ∷ t ∷ sets) zero (suc zero) h l m = h.0
rising_at (s ∷ t ∷ sets) zero (suc (suc y)) h l m = let more = rising_at (t ∷ sets) zero (suc y) h.1 (omega arith) (omega arith) in omega (arith, h.0, more)
rising_at (s ∷ t ∷ sets) (suc x) (suc y) h l m = rising_at (t ∷ sets) x y h.1 (omega arith) (omega arith)

one_place : (sets : List (List ℕ)) (x y : ℕ) → IsRising (λ s t. number s < number t) sets → x < length sets → y < length sets → set_at sets x ≡ set_at sets y → x ≡ y
one_place sets x y h l m e = elim (cases_lt x y) [
  | inl low ↦ absurd (let a = rising_at sets x y h low m in let b = ap number e in omega (arith, a, b))
  | inr ge ↦ elim (cases_lt y x) [
    | inl low ↦ absurd (let a = rising_at sets y x h low l in let b = ap number e in omega (arith, a, b))
    | inr le ↦ omega arith
  ]
]

pub IsLabelSet-others : (n : ℕ) (s : List ℕ) → IsLabelSet n (others n s)
IsLabelSet-others n s = IsLabelSet-filter (λ label. not (has s label)) n (count_from 0 n) (IsLabelSet-count_from 0 n n (omega arith))

others-twice : (n : ℕ) (s : List ℕ) → IsLabelSet n s → others n (others n s) ≡ s
others-twice n s h = same_set n (others n (others n s)) s (IsLabelSet-others n (others n s)) h
    (others-more n (others n (others n s)) s (λ x i. (IsIn-others_cases n x (others n s) i).0) (λ x i. IsIn-others n x (others n (others n s)) (IsIn-others_cases n x s i).0 (λ k. (IsIn-others_cases n x (others n s) k).1 i)))
    (λ x i. IsIn-others n x (others n s) (AllByRecursion-contains (λ x. x < n) s x h.1 i) (λ k. (IsIn-others_cases n x s k).1 i))

-- ---- what holds of each line that comes from some lines
module _ (n d : ℕ) (starts : List (List (List ℕ))) where
  abbrev AreFit : List (List ℕ) → Type 0
  AreFit line = (length line ≡ d) × AllByRecursion (IsLabelSet n) line

  length_meets : (r u : List (List ℕ)) → length r ≡ length u → length (meets r u) ≡ length r
  length_meets [] u e = refl
  length_meets (s ∷ r) [] e = absurd (omega arith)
  length_meets (s ∷ r) (t ∷ u) e = ap suc (length_meets r u (omega arith))

  length_combined : (i : ℕ) (r u : List (List ℕ)) → length r ≡ length u → length (combined i r u) ≡ length r
  length_combined i [] u e = refl
  length_combined i (s ∷ r) [] e = absurd (omega arith)
  length_combined zero (s ∷ r) (t ∷ u) e = ap suc (length_meets r u (omega arith))
  length_combined (suc i) (s ∷ r) (t ∷ u) e = ap suc (length_combined i r u (omega arith))

  meets_sets : (r u : List (List ℕ)) → AllByRecursion (IsLabelSet n) r → AllByRecursion (IsLabelSet n) (meets r u)
  meets_sets [] u h = tt
  meets_sets (s ∷ r) [] h = tt
  meets_sets (s ∷ r) (t ∷ u) h = (IsLabelSet-filter (has t) n s h.0, meets_sets r u h.1)

  combined_sets : (i : ℕ) (r u : List (List ℕ)) → AllByRecursion (IsLabelSet n) r → AllByRecursion (IsLabelSet n) u → AllByRecursion (IsLabelSet n) (combined i r u)
  combined_sets i [] u h k = tt
  combined_sets i (s ∷ r) [] h k = tt
  combined_sets zero (s ∷ r) (t ∷ u) h k = (IsLabelSet-union n s t h.0 k.0.1, meets_sets r u h.1)
  combined_sets (suc i) (s ∷ r) (t ∷ u) h k = (IsLabelSet-filter (has t) n s h.0, combined_sets i r u h.1 k.1)

  pub moved : (other : List (List ℕ)) (order : List ℕ) → length other ≡ d → Contains (placements d) order → Rearranged other (placed other order)
  moved other order e listed = Rearranged-placed other order (Contains-In order (placements (length other)) (subst (λ m. Contains (placements m) order) (sym e) listed))

  pub fit : ((line : List (List ℕ)) → Contains starts line → (length line ≡ d) × AllByRecursion (IsLabelSet n) line)
      → {line : List (List ℕ)} → IsGenerated d starts line → (length line ≡ d) × AllByRecursion (IsLabelSet n) line
  fit first (start held) = first _ held
  fit first (combine {line = line} {other = other} {order = order} {i = i} g k listed low) =
      let one = fit first g in
      let two = fit first k in
      let p = moved other order two.0 listed in
      let e : length line ≡ length (placed other order) = one.0 ∙ sym two.0 ∙ length-Rearranged p in
      (length_combined i line (placed other order) e ∙ one.0, combined_sets i line (placed other order) one.1 (AllByRecursion-Rearranged (IsLabelSet n) p two.1))
  fit first (move g p) = let one = fit first g in (sym (length-Rearranged p) ∙ one.0, AllByRecursion-Rearranged (IsLabelSet n) p one.1)

  shape_of : (r u : List (List ℕ)) → length r ≡ length u → Shape r u
  shape_of [] [] e = tt
  shape_of [] (t ∷ u) e = absurd (omega arith)
  shape_of (s ∷ r) [] e = absurd (omega arith)
  shape_of (s ∷ r) (t ∷ u) e = (tt, shape_of r u (omega arith))

  -- each choice of labels is a configuration, where it is so for the first lines
  pub good : (K : Constraint) → ((line : List (List ℕ)) → Contains starts line → (length line ≡ d) × AllByRecursion (IsLabelSet n) line)
      → ((line : List (List ℕ)) → Contains starts line → (c : List ℕ) → IsChoice c line → Has K c)
      → {line : List (List ℕ)} → IsGenerated d starts line → (c : List ℕ) → IsChoice c line → Has K c
  good K first choices (start held) c k = choices _ held c k
  good K first choices (combine {line = line} {other = other} {order = order} {i = i} g h listed low) c k =
      let one = fit first g in
      let two = fit first h in
      let p = moved other order two.0 listed in
      good-combined (Has K) (λ c d. Has-Rearranged K) i line other (placed other order) p (shape_of line (placed other order) (one.0 ∙ sym two.0 ∙ length-Rearranged p)) (good K first choices g) (good K first choices h) c k
  good K first choices (move g p) c k = good-along (Has K) (λ c d. Has-Rearranged K) p (good K first choices g) c k

module _ (problem : Problem) (is : IsProblem problem) where
  up_label_set : (x : ℕ) → IsLabelSet problem.labels (up problem x)
  up_label_set x = IsLabelSet-filter (λ b. is_at_least_as_strong problem.passive b x) problem.labels (count_from 0 problem.labels) (IsLabelSet-count_from 0 problem.labels problem.labels (omega arith))

  each_set : (f : ℕ → List ℕ) (c : List ℕ) → ((x : ℕ) → IsLabelSet problem.labels (f x)) → AllByRecursion (IsLabelSet problem.labels) (map f c)
  each_set f [] h = tt
  each_set f (x ∷ c) h = (h x, each_set f c h)

  pub passive_first : (line : List (List ℕ)) → Contains (up_lines problem) line → (length line ≡ problem.passive.degree) × AllByRecursion (IsLabelSet problem.labels) line
  passive_first line held =
      let (config, at, e) = Contains-map_cases (map (up problem)) problem.passive.configs line held in
      let c = AllByRecursion-contains (IsConfig problem.passive.degree problem.labels) problem.passive.configs config is.passive.configs at in
      (ap length (sym e) ∙ length-map' (up problem) config ∙ c.count, subst (AllByRecursion (IsLabelSet problem.labels)) e (each_set (up problem) config up_label_set))

  pub active_first : (line : List (List ℕ)) → Contains (down_lines problem) line → (length line ≡ problem.active.degree) × AllByRecursion (IsLabelSet problem.labels) line
  active_first line held =
      let left : ℕ → List ℕ = λ x. others problem.labels (up problem x) in
      let (config, at, e) = Contains-map_cases (map left) problem.active.configs line held in
      let c = AllByRecursion-contains (IsConfig problem.active.degree problem.labels) problem.active.configs config is.active.configs at in
      (ap length (sym e) ∙ length-map' left config ∙ c.count, subst (AllByRecursion (IsLabelSet problem.labels)) e (each_set left config (λ x. IsLabelSet-others problem.labels (up problem x))))

module _ (problem : Problem) (active passive : Family) (is : IsProblem problem) (closure : AreClosure problem active passive) where
  fit_passive : (line : List (List ℕ)) → Contains (up_lines problem) line → (length line ≡ passive.degree) × AllByRecursion (IsLabelSet problem.labels) line
  fit_passive line held = let two = passive_first problem is line held in (two.0 ∙ sym closure.passive_degree, two.1)

  fit_active : (line : List (List ℕ)) → Contains (down_lines problem) line → (length line ≡ active.degree) × AllByRecursion (IsLabelSet problem.labels) line
  fit_active line held = let two = active_first problem is line held in (two.0 ∙ sym closure.active_degree, two.1)

  passive_fit : (line : List (List ℕ)) → Contains passive.lines line → (length line ≡ passive.degree) × AllByRecursion (IsLabelSet problem.labels) line
  passive_fit line held = fit problem.labels passive.degree (up_lines problem) fit_passive (closure.passive_lines.generated line held)

  active_fit : (line : List (List ℕ)) → Contains active.lines line → (length line ≡ active.degree) × AllByRecursion (IsLabelSet problem.labels) line
  active_fit line held = fit problem.labels active.degree (down_lines problem) fit_active (closure.active_lines.generated line held)

  label_sets : (set : List ℕ) → Contains passive.sets set → IsLabelSet problem.labels set
  label_sets set held = elim ((closure.sets set).0 held) [
    | inl occurs ↦ AllByRecursion-contains (IsLabelSet problem.labels) occurs.0 set (passive_fit occurs.0 occurs.1).1 occurs.2
    | inr left ↦ subst (IsLabelSet problem.labels) (sym left.2) (IsLabelSet-others problem.labels left.0)
  ]

  label_set_at : (x : ℕ) → x < length passive.sets → IsLabelSet problem.labels (set_at passive.sets x)
  label_set_at x low = label_sets (set_at passive.sets x) (x, low, same_read passive.sets x (set_at passive.sets x) [] low)

  -- choices from the up-sets of a configuration
  up_choice : (config c : List ℕ) → AllByRecursion (λ x. x < problem.labels) config → IsChoice c (map (up problem) config) → AllZip (λ x y. IsIn y (ups problem.passive problem.labels is.passive x)) config c
  up_choice [] [] h k = tt
  up_choice [] (y ∷ c) h k = absurd k
  up_choice (x ∷ config) [] h k = absurd k
  up_choice (x ∷ config) (y ∷ c) h k = (to_ups problem.passive problem.labels is.passive x y h.0 k.0, up_choice config c h.1 k.1)

  choices : (line : List (List ℕ)) → Contains (up_lines problem) line → (c : List ℕ) → IsChoice c line → Has problem.passive c
  choices line held c k =
      let (config, at, e) = Contains-map_cases (map (up problem)) problem.passive.configs line held in
      let f = AllByRecursion-contains (IsConfig problem.passive.degree problem.labels) problem.passive.configs config is.passive.configs at in
      let whole : Has problem.passive config = subst (Contains problem.passive.configs) (sym (sorted_again config f.ascends)) at in
      let strong = strength_law problem.passive problem.labels (ups problem.passive problem.labels is.passive) (exact problem.passive problem.labels is.passive) in
      strong.keeps config c (up_choice config c f.below (subst (IsChoice c) (sym e) k)) whole

  combinations : (family : Family) (starts : List (List (List ℕ))) → AreTopmost family.degree starts family.lines → (line other : List (List ℕ)) (order : List ℕ) (i : ℕ) → Contains family.lines line → Contains family.lines other
      → Contains (placements family.degree) order → i < family.degree → IsDominated family.lines (combined i line (placed other order))
  combinations family starts top line other order i held there listed low = top.dominate (combined i line (placed other order)) (combine (top.generated line held) (top.generated other there) listed low)

  is_passive : IsFamily passive
  is_passive = record {
    least = subst (λ m. 2 ≤ m) (sym closure.passive_degree) is.passive.least;
    most = subst (λ m. m ≤ 6) (sym closure.passive_degree) is.passive.most;
    count = λ line held. (passive_fit line held).0;
    known = λ line set held i. (closure.sets set).1 (inl (line, held, i));
    apart = λ x y x_low y_low h k.
        one_place passive.sets x y closure.ascends x_low y_low (same_set problem.labels (set_at passive.sets x) (set_at passive.sets y) (label_set_at x x_low) (label_set_at y y_low) h k);
    combinations = combinations passive (up_lines problem) closure.passive_lines;
  }

  same_count : length active.sets ≡ length passive.sets
  same_count = ap length closure.opposite ∙ length-map' (others problem.labels) passive.sets

  back_within : (x y : ℕ) → x < length passive.sets → y < length passive.sets → IsWithin (set_at active.sets x) (set_at active.sets y) → IsWithin (set_at passive.sets y) (set_at passive.sets x)
  back_within x y x_low y_low h =
      others-more problem.labels (set_at passive.sets y) (set_at passive.sets x) (λ z i. AllByRecursion-contains (λ z. z < problem.labels) (set_at passive.sets y) z (label_set_at y y_low).1 i)
      (subst (λ w. IsWithin w (others problem.labels (set_at passive.sets y))) (opposite_to problem.labels active.sets passive.sets closure.opposite x x_low)
      (subst (IsWithin (set_at active.sets x)) (opposite_to problem.labels active.sets passive.sets closure.opposite y y_low) h))

  is_active : IsFamily active
  is_active = record {
    least = subst (λ m. 2 ≤ m) (sym closure.active_degree) is.active.least;
    most = subst (λ m. m ≤ 6) (sym closure.active_degree) is.active.most;
    count = λ line held. (active_fit line held).0;
    known = λ line set held i.
        let fits = AllByRecursion-contains (IsLabelSet problem.labels) line set (active_fit line held).1 i in
        let there : Contains passive.sets (others problem.labels set) = (closure.sets (others problem.labels set)).1 (inr (set, (line, held, i), refl)) in
        subst (λ sets. Contains sets set) (sym closure.opposite)
        (subst (Contains (map (others problem.labels) passive.sets)) (others-twice problem.labels set fits) (Contains-map (others problem.labels) passive.sets (others problem.labels set) there));
    apart = λ x y x_low y_low h k.
        let x_in : x < length passive.sets = subst (λ m. x < m) same_count x_low in
        let y_in : y < length passive.sets = subst (λ m. y < m) same_count y_low in
        is_passive.apart x y x_in y_in (back_within y x y_in x_in k) (back_within x y x_in y_in h);
    combinations = combinations active (down_lines problem) closure.active_lines;
  }

  around : AreAround problem active passive
  around = record {
    active_degree = closure.active_degree;
    passive_degree = closure.passive_degree;
    sets = label_sets;
    opposite = closure.opposite;
    ups = λ config held. closure.passive_lines.dominate (map (up problem) config) (start (Contains-map (map (up problem)) problem.passive.configs config held));
    downs = λ config held. let left : ℕ → List ℕ = λ x. others problem.labels (up problem x) in
        closure.active_lines.dominate (map left config) (start (Contains-map (map left) problem.active.configs config held));
    choices = λ line labels held k. good problem.labels passive.degree (up_lines problem) problem.passive fit_passive choices (closure.passive_lines.generated line held) labels k;
  }

  pub families : IsFamily active × IsFamily passive × AreAround problem active passive
  families = (is_active, is_passive, around)

pub closure_families_law : ClosureFamiliesLaw
closure_families_law = families
