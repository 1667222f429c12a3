-- From a problem a lower step leads to that of two families that go with it.
use Rattle.std.proofs.Common.{◌≡◌, ℕ, ◌<◌, true, false, not, List, [], ◌∷◌, length, map, refl, sym, ap, ◌∙◌, subst, arith}
use Rattle.std.specs.Prelude.{Contains}
use Rattle.std.specs.List.{AllByRecursion}
use Rattle.std.proofs.lemmas.Bool.{false≢true}
use Rattle.re_labels.proofs.OrdersAt.{get_or-map}
use Rattle.re_labels.proofs.Placing.{placed-Rearranged}
use Rattle.re_labels.proofs.Rearranging.{Contains-Rearranged, Rearranged-map, Rearranged-sym}
use Rattle.re_labels.proofs.Rows.{AreSets}
use Rattle.re_labels.proofs.Sorting.{AllByRecursion-Rearranged, Rearranged-sorted}
use Rattle.re_labels.specs.Configs.{IsConfig, sorted}
use Rattle.re_labels.specs.Orders.{placements}
use Rattle.re_labels.specs.Rearranging.{Rearranged}
use Rattle.re_labels.specs.Rows.{IsChoice, IsUnder, combined, placed, set_at, singles}
use Rattle.re_labels.proofs.Membership.{AllByRecursion-contains, Contains-In, Contains-count_from, Contains-filter, Contains-filter_cases, Contains-here, Contains-later, In-Contains, count_from_range, length-map'}
use Rattle.re_labels.proofs.LabelPlaces.{get-place_of, place_of-below}
use Rattle.re_labels.proofs.Sets.{IsIn-has, has-IsIn}
use Rattle.re_labels.specs.Lists.{count_from, place_of}
use Rattle.re_labels.specs.Sets.{IsIn, IsWithin, has}
use Rattle.re_labels.proofs.Closure.{IsFull, IsReached, Shape, closure, IsFull-under, IsFull-perm}
use Rattle.re_labels.proofs.MaxRows.{max_rows-IsMaximal}
use Rattle.re_labels.proofs.MaxSets.{allowed_law, max_sets-from, max_sets-row}
use Rattle.re_labels.specs.Constraints.{Constraint, Has}
use Rattle.re_labels.specs.GoodRows.{IsAllowed, IsDominated, IsGood, IsMaximal, allowed, max_rows, max_sets}
use Rattle.re_boxes.proofs.Spread.{IsIn-filled}
use Rattle.re_problem.specs.Problems.{IsProblem, Problem}
use Rattle.re_problem.specs.Steps.{IsLowerStepBySet, label_at, label_of}
use Rattle.re_labels.proofs.ClosureLaw.{IsFull-sets}
use Rattle.re_labels.proofs.Searching.{same_read}
use Rattle.re_closure_laws.proofs.Below.{Has-below, maximal_is}
use Rattle.re_closure_laws.proofs.Entries.{labels_at_by, labels_of_by, placed_in, sets_by}
use Rattle.re_closure_laws.proofs.Steps.{Has-topmost}
use Rattle.re_closure_laws.proofs.Unders.{dominated_moved, dominated_under, one_in}
use Rattle.re_closure_laws.proofs.UpSets.{max_set_up, own_up}
use Rattle.re_closure_laws.specs.Laws.{FirstStepLaw}
use Rattle.re_closure_laws.specs.Lines.{AreAround, AreOpposed, Family, IsFamily, below, entries_to, others, problem_of, topmost, up}

-- ---- the labels that a set leaves out
pub IsIn-others : (n x : ℕ) (s : List ℕ) → x < n → (IsIn x s → ⊥) → IsIn x (others n s)
IsIn-others n x s low out = Contains-filter (λ label. not (has s label)) (count_from 0 n) x (Contains-count_from 0 n x (omega arith) (omega arith))
    (elim (has s x) as (λ b. has s x ≡ b → not b ≡ true) [ true ↦ λ e. absurd (out (has-IsIn s x e)) | false ↦ λ e. refl ] refl)

pub IsIn-others_cases : (n x : ℕ) (s : List ℕ) → IsIn x (others n s) → (x < n) × (IsIn x s → ⊥)
IsIn-others_cases n x s i =
    let two = Contains-filter_cases (λ label. not (has s label)) (count_from 0 n) x i in
    let range = count_from_range 0 n x two.0 in
    (omega (arith, range.1), λ k. false≢true (ap not (sym (IsIn-has s x k)) ∙ two.1))

pub others-less : (n : ℕ) (s t : List ℕ) → IsWithin s t → IsWithin (others n t) (others n s)
others-less n s t h x i = let two = IsIn-others_cases n x t i in IsIn-others n x s two.0 (λ k. two.1 (h x k))

pub others-more : (n : ℕ) (s t : List ℕ) → ((x : ℕ) → IsIn x s → x < n) → IsWithin (others n t) (others n s) → IsWithin s t
others-more n s t low h x i = elim (has t x) as (λ b. has t x ≡ b → IsIn x t) [
  | true ↦ λ e. has-IsIn t x e
  | false ↦ λ e. absurd ((IsIn-others_cases n x s (h x (IsIn-others n x t (low x i) (λ k. false≢true (sym e ∙ IsIn-has t x k))))).1 i)
] refl

-- the other side's set for a label
pub opposite_to : (n : ℕ) (outer sets : List (List ℕ)) → outer ≡ map (others n) sets → (k : ℕ) → k < length sets → set_at outer k ≡ others n (set_at sets k)
opposite_to n outer sets e k low = ap (λ l. set_at l k) e ∙ get_or-map (others n) sets k [] [] low

module _ (problem : Problem) (active passive : Family) (is : IsProblem problem) (a : IsFamily active) (p : IsFamily passive) (around : AreAround problem active passive) where
  abbrev P : Constraint
  P = problem.passive

  abbrev N : ℕ
  N = problem.labels

  abbrev W : List (List (List ℕ))
  W = passive.lines

  count : length active.sets ≡ length passive.sets
  count = ap length around.opposite ∙ length-map' (others problem.labels) passive.sets

  opposite_at : (k : ℕ) → k < length passive.sets → set_at active.sets k ≡ others problem.labels (set_at passive.sets k)
  opposite_at = opposite_to problem.labels active.sets passive.sets around.opposite

  labels_low : (k : ℕ) → k < length passive.sets → (x : ℕ) → IsIn x (set_at passive.sets k) → x < problem.labels
  labels_low k low x i = AllByRecursion-contains (λ x. x < problem.labels) (set_at passive.sets k) x (around.sets (set_at passive.sets k) (k, low, same_read passive.sets k (set_at passive.sets k) [] low)).1 i

  pub opposed : AreOpposed active passive
  opposed = record {
    count = count;
    within = λ x y x_low y_low.
        let same = count in
        let x_in : x < length passive.sets = omega (arith, x_low) in
        let y_in : y < length passive.sets = omega (arith, y_low) in (
          (λ h. others-more problem.labels (set_at passive.sets y) (set_at passive.sets x) (labels_low y y_in)
              (subst (λ w. IsWithin w (others problem.labels (set_at passive.sets y))) (opposite_at x x_in) (subst (IsWithin (set_at active.sets x)) (opposite_at y y_in) h))),
          (λ h. subst (λ w. IsWithin w (set_at active.sets y)) (sym (opposite_at x x_in)) (subst (IsWithin (others problem.labels (set_at passive.sets x))) (sym (opposite_at y y_in))
              (others-less problem.labels (set_at passive.sets y) (set_at passive.sets x) h))),
        );
  }

  config_low : (c : List ℕ) → Has problem.passive c → AllByRecursion (λ x. x < problem.labels) c
  config_low c has = AllByRecursion-Rearranged (λ x. x < problem.labels) (Rearranged-sym (Rearranged-sorted c))
      (AllByRecursion-contains (IsConfig problem.passive.degree problem.labels) problem.passive.configs (sorted c) is.passive.configs has).below

  singles_up : (c : List ℕ) → AllByRecursion (λ x. x < problem.labels) c → IsUnder (singles c) (map (up problem) c)
  singles_up [] h = tt
  singles_up (x ∷ c) h = (one_in x (up problem x) (own_up problem.passive problem.labels is.passive x h.0), singles_up c h.1)

  abbrev IsLine : List (List ℕ) → Type 0
  IsLine line = Contains passive.lines line

  -- each good row is dominated by a line
  covered : (r : List (List ℕ)) → IsGood problem.passive r → IsFull r → IsReached (Has problem.passive) IsLine r
  covered r good full = closure (Has problem.passive) IsLine base step r good.choice full
    where
      base : (c : List ℕ) → Has problem.passive c → IsReached (Has problem.passive) IsLine (singles c)
      base c has =
          let dom = dominated_under passive.lines (map (up problem) c) (singles c) (singles_up c (config_low c has))
          (dominated_moved passive.lines (map (up problem) (sorted c)) (map (up problem) c) (Rearranged-map (up problem) (Rearranged-sym (Rearranged-sorted c))) (around.ups (sorted c) has)) in
          (dom.0, dom.1, dom.2.0, dom.2.1, dom.2.2)

      step : (r u t : List (List ℕ)) (i : ℕ) → IsLine r → IsLine u → Rearranged u t → Shape r t → i < length r → IsFull (combined i r t) → IsReached (Has problem.passive) IsLine (combined i r t)
      step r u t i held there q shape low full =
          let o = placed-Rearranged u t q in
          let listed : Contains (placements passive.degree) o.0 = subst (λ k. Contains (placements k) o.0) (p.count u there) (In-Contains o.0 (placements (length u)) o.1) in
          let low' : i < passive.degree = (let b = p.count r held in omega arith) in
          let dom : IsDominated passive.lines (combined i r t) = subst (λ w. IsDominated passive.lines (combined i r w)) (sym o.2) (p.combinations r u o.0 i held there listed low') in
          (dom.0, dom.1, dom.2.0, dom.2.1, dom.2.2)

  line_sets : (line : List (List ℕ)) → ((set : List ℕ) → Contains line set → Contains passive.sets set) → IsFull line → AreSets problem.labels line
  line_sets [] known full = tt
  line_sets (s ∷ line) known full = ((around.sets s (known s (Contains-here s line)), IsIn-filled full.0.0 s full.0.1), line_sets line (λ set i. known set (Contains-later set s line i)) full.1)

  line_filled : (line : List (List ℕ)) → IsFull line → AllByRecursion (λ s. 0 < length s) line
  line_filled [] full = tt
  line_filled (s ∷ line) full = (IsIn-filled full.0.0 s full.0.1, line_filled line full.1)

  -- each maximal row is a line
  pub of_maximal : (r : List (List ℕ)) → Contains (max_rows problem.passive problem.labels) r → (line : List (List ℕ)) × Contains passive.lines line × Rearranged line r
  of_maximal r held =
      let m = max_rows-IsMaximal problem.passive problem.labels r (Contains-In r (max_rows problem.passive problem.labels) held) in
      let full = IsFull-sets problem.labels r m.is_row.sets in
      go m full (covered r m.good full)
    where
      go : IsMaximal problem.passive problem.labels r → IsFull r → IsReached (Has problem.passive) IsLine r → (line : List (List ℕ)) × Contains passive.lines line × Rearranged line r
      go m full (line, there, t, q, u) =
          let filled : IsFull line = IsFull-perm (Rearranged-sym q) (IsFull-under r t u full) in
          let good : IsGood problem.passive line = record {
            count = p.count line there ∙ around.passive_degree;
            filled = line_filled line filled;
            choice = λ c k. around.choices line c there k;
          } in
          (line, there, maximal_is problem.passive problem.labels r line t m (line_sets line (λ set i. p.known line set there i) filled) good q u)

  of_max_set : (set : List ℕ) → Contains (max_sets problem.passive problem.labels) set → Contains passive.sets set
  of_max_set set held =
      let (row, at, i) = max_sets-from problem.passive problem.labels set held in
      let (line, there, q) = of_maximal row at in
      p.known line set there (Contains-Rearranged set (Rearranged-sym q) i)

  abbrev f : List ℕ → ℕ
  f set = place_of passive.sets set

  -- a choice of labels from sets of the maximal rows, on the active side
  choice_opposed : (sets : List (List ℕ)) (c : List ℕ) → ((set : List ℕ) → Contains sets set → Contains (max_sets problem.passive problem.labels) set)
      → IsChoice c sets → IsUnder (placed active.sets (map f sets)) (map (λ x. others problem.labels (up problem x)) c) × AllByRecursion (λ x. x < length active.sets) (map f sets)
  choice_opposed [] [] h k = (tt, tt)
  choice_opposed [] (x ∷ c) h k = absurd k
  choice_opposed (s ∷ sets) [] h k = absurd k
  choice_opposed (s ∷ sets) (x ∷ c) h k =
      let max = h s (Contains-here s sets) in
      let known : Contains passive.sets s = of_max_set s max in
      let low : f s < length passive.sets = place_of-below passive.sets s known in
      let x_low : x < problem.labels = AllByRecursion-contains (λ x. x < problem.labels) s x (around.sets s known).1 k.0 in
      let at : set_at active.sets (f s) ≡ others problem.labels s = opposite_at (f s) low ∙ ap (others problem.labels) (get-place_of passive.sets s known) in
      let same = count in
      let more = choice_opposed sets c (λ set j. h set (Contains-later set s sets j)) k.1 in (
        (subst (λ w. IsWithin w (others problem.labels (up problem x))) (sym at) (others-less problem.labels (up problem x) s (max_set_up problem.passive problem.labels is.passive s max x x_low k.0)), more.0),
        (omega (arith, low), more.1),
      )

  active_met : (row : List (List ℕ)) → Contains (max_rows problem.passive problem.labels) row → Has (topmost passive) (map (label_of (entries_to problem passive)) row)
  active_met row held =
      let (line, there, q) = of_maximal row held in
      let to_f : map (label_of (entries_to problem passive)) row ≡ map f row = labels_of_by f (max_sets problem.passive problem.labels) row (λ set i. max_sets-row problem.passive problem.labels row held set i) in
      subst (Has (topmost passive)) (sym to_f) (Has-topmost passive p line (map f row) there (Rearranged-map f (Rearranged-sym q)))

  passive_met : (places : List ℕ) → Contains (allowed problem.active (max_sets problem.passive problem.labels) problem.active.degree) places → Has (below active) (map (label_at (entries_to problem passive)) places)
  passive_met places held =
      let (config, allow) = ((allowed_law problem.active (max_sets problem.passive problem.labels) problem.active.degree).1 places).0 held in
      go config allow
    where
      go : IsConfig problem.active.degree (length (max_sets problem.passive problem.labels)) places → IsAllowed problem.active (placed (max_sets problem.passive problem.labels) places)
          → Has (below active) (map (label_at (entries_to problem passive)) places)
      go config (c, chosen, has) =
          let sets = max_sets problem.passive problem.labels in
          let left : ℕ → List ℕ = λ x. others problem.labels (up problem x) in
          let two = choice_opposed (placed sets places) c (placed_in sets places config.below) chosen in
          let length_is : length (map f (placed sets places)) ≡ active.degree = length-map' f (placed sets places) ∙ length-map' (set_at sets) places ∙ config.count ∙ sym around.active_degree in
          let dom : IsDominated active.lines (map left c) = dominated_moved active.lines (map left (sorted c)) (map left c) (Rearranged-map left (Rearranged-sym (Rearranged-sorted c))) (around.downs (sorted c) has) in
          subst (Has (below active)) (sym (labels_at_by f sets places config.below))
          (Has-below active a (map f (placed sets places)) length_is two.1 (dominated_under active.lines (map left c) (placed active.sets (map f (placed sets places))) two.0 dom))

  pub lower_step : IsLowerStepBySet problem (problem_of passive active) (max_rows problem.passive problem.labels) (entries_to problem passive)
  lower_step = record {
    active_degree = around.passive_degree;
    passive_degree = around.active_degree;
    maximal = refl;
    sets = sets_by f (max_sets problem.passive problem.labels);
    active = active_met;
    passive = λ places held. passive_met places (subst (λ s. Contains (allowed problem.active s problem.active.degree) places) (sets_by f (max_sets problem.passive problem.labels)) held);
  }

pub first_step_law : FirstStepLaw
first_step_law problem active passive is a p around = (opposed problem active passive is a p around, lower_step problem active passive is a p around)
