-- An algorithm that solves a problem given an input problem gives one with a round less that solves the derived problem, given the
-- exchanged input problem.
use Rattle.std.proofs.Common.{subst, ◌≡◌, ℕ, suc, pred, ◌+◌, ◌≤◌, ◌<◌, Bool, true, Some, List, [], map, length, get_or, refl, sym, ◌∙◌, ap, arith, one-add, append-nil, ◌==◌, ◌&&◌}
use Rattle.std.specs.Prelude.{Contains, find, unwrap_or}
use Rattle.std.specs.List.{AllByRecursion}
use Rattle.std.proofs.lemmas.List.{get_or-map, get_or_default}
use Rattle.std.proofs.lemmas.List.Elements.{Contains-get_or}
use Rattle.re_labels.proofs.Placing.{Dominates-dominates}
use Rattle.re_labels.proofs.Rearranging.{AllZip-at, AllZip-flip, Contains-Rearranged, Rearranged-map, Rearranged-sym, length-AllZip}
use Rattle.re_labels.proofs.Sorting.{Rearranged-sorted, sorted-Rearranged, sorted_again}
use Rattle.re_labels.specs.Configs.{IsConfig, sorted}
use Rattle.re_labels.specs.Orders.{multisets}
use Rattle.re_labels.specs.Rearranging.{Rearranged}
use Rattle.re_labels.specs.Rows.{IsChoice, IsUnder, dominates, placed, set_at}
use Rattle.re_given.proofs.Fitting.{FitsAround-shift}
use Rattle.re_given.proofs.GivenTables.{SolvableGiven-by, same_input_view-refl, same_input_view-same}
use Rattle.re_given.proofs.GrownInputs.{grown_children, passive_sides}
use Rattle.re_given.proofs.JoinedInputs.{FitsAround-joined, IsNeighbour, IsTree-joined, Neighbour, around-joined, joined, known-joined, known-neighbour, label_of, no_neighbour, payloads-joined, same_behind}
use Rattle.re_given.proofs.KnownViews.{HasCount, HasCount-tree, payloads-known}
use Rattle.re_given.proofs.SlowGiven.{Has-root}
use Rattle.re_given.proofs.ZeroGiven.{beside, beside_at, beside_from, beside_set, count_is}
use Rattle.re_given.specs.Given.{SolvableGiven, SolvesGivenBy, answer_known, around_known, same_input_view}
use Rattle.re_given.specs.InputViews.{Fits, InputView, known, payloads}
use Rattle.re_given.specs.Inputs.{IsInput, exchanged}
use Rattle.re_labels.proofs.Membership.{AllByRecursion-contains, Contains-filter, Contains-map, first_found, get_or-count_from, length-count_from}
use Rattle.re_labels.proofs.LabelPlaces.{map-get-place_of}
use Rattle.re_labels.proofs.Tests.{and-true, eqb-same, eqb-true, true-and}
use Rattle.re_labels.specs.Lists.{count_from, place_of}
use Rattle.re_labels.specs.Sets.{IsIn, IsLabelSet, IsWithin}
use Rattle.re_laws.proofs.FastRounds.{collected, fitted_is, some_member}
use Rattle.re_laws.proofs.Ports.{AllByRecursion-count, AllZip-count, length-ports, map-count}
use Rattle.re_laws.specs.Algorithms.{at_port}
use Rattle.re_laws.specs.Fast.{fitted}
use Rattle.re_problem.proofs.DerivedProblem.{max_row_ascends}
use Rattle.re_problem.proofs.Places.{places_listed}
use Rattle.re_problem.proofs.StepLaws.{map-map}
use Rattle.re_problem.specs.Derived.{derived}
use Rattle.re_problem.specs.Problems.{IsProblem, Problem}
use Rattle.re_labels.proofs.Goodness.{IsAllowed-Rearranged, IsAllowed-is_allowed}
use Rattle.re_labels.proofs.MaxRows.{dominated}
use Rattle.re_labels.proofs.MaxSets.{max_sets-row}
use Rattle.re_labels.specs.Constraints.{Has}
use Rattle.re_labels.specs.GoodRows.{IsGood, is_allowed, max_rows, max_sets}
use Rattle.re_laws.proofs.JoinedBranches.{back-shift, backs-child}
use Rattle.re_laws.proofs.ViewLaws.{IsChild, IsView-shift, child_of, shift-shift}
use Rattle.re_laws.specs.Trees.{Child, IsTree, IsView, Tree, backs, child_at, cut, shift}

-- whether over the port of the view lies a node that knows this, and whose port i it is
abbrev pub lies_over : ℕ → InputView → ℕ → InputView → ℕ → Bool
lies_over T k i u q = at_port (backs u) q == i && same_input_view (known T (shift (suc T) u q)) k

-- the back ports of a view are ports of the other side
pub back_range : {E : Type 0} (d e t : ℕ) (v : Tree E) → IsView d e (suc t) v → (k : ℕ) → k < d → (1 ≤ at_port (backs v) (suc k)) × (at_port (backs v) (suc k) ≤ e)
back_range d e t v is k l =
    let c = child_of d e t d v is k l in
    let here : at_port (backs v) (suc k) ≡ c.0.back = backs-child k c.0 v c.1 in
    let low = c.2.least in
    let high = c.2.most in
    (rw here low, rw here high)

module _ (problem input : Problem) (is : IsProblem problem) (is_input : IsInput problem input) (T : ℕ) (f : InputView → List ℕ) (solves : SolvesGivenBy problem input (suc T) f) where
  abbrev rows : List (List (List ℕ))
  rows = max_rows problem.passive problem.labels

  abbrev sets : List (List ℕ)
  sets = max_sets problem.passive problem.labels

  -- the labels that the algorithm puts on the edge at port i of a passive node that knows this, at any neighbour that may be there
  abbrev pub seen : InputView → ℕ → List ℕ
  seen k i = beside problem input (suc T) f (lies_over T k i)

  -- these sets for all ports
  abbrev pub seen_row : InputView → List (List ℕ)
  seen_row k = map (seen k) (count_from 1 problem.passive.degree)

  -- the first maximal row that dominates what is seen, fitted to it
  abbrev pub top_row : InputView → List (List ℕ)
  top_row k = let other = seen_row k in fitted (unwrap_or (find (λ row. dominates row other) rows) []) other

  -- its sets, by their places
  abbrev pub fast_given : InputView → List ℕ
  fast_given k = map (place_of sets) (top_row k)

  -- what a neighbour puts on the edge is seen
  seen_at : (k u : InputView) (i q : ℕ) → IsView problem.active.degree problem.passive.degree (suc (suc T)) u → Fits input.active input.passive u → 1 ≤ q → q ≤ problem.active.degree → at_port (backs u) q ≡ i → known T (shift (suc T) u q) ≡ k
      → Contains (seen k i) (at_port (f (known (suc T) u)) q)
  seen_at k u i q view fits low high back over =
      beside_at problem input is is_input (suc T) f solves (lies_over T k i) u q view fits low high
      (true-and (at_port (backs u) q == i) (same_input_view (known T (shift (suc T) u q)) k) (rw back (eqb-same i)) (rw over (same_input_view-refl k)))

  -- a neighbour over whose port lies a node that knows this, and that puts that label there
  abbrev Puts : InputView → ℕ → ℕ → Neighbour → Type 0
  Puts k i x here =
      IsNeighbour problem.active.degree problem.passive.degree (suc T) input.active input.passive here × (here.child.back ≡ i) × (known T (shift (suc T) here.view here.port) ≡ k) × (at_port (f (known (suc T) here.view)) here.port ≡ x)

  seen_from : (k : InputView) (i x : ℕ) → Contains (seen k i) x → (here : Neighbour) × Puts k i x here
  seen_from k i x held =
      let (here, near, passes, label) = beside_from problem input is is_input (suc T) f solves (lies_over T k i) x held in
      let both = and-true (at_port (backs here.view) here.port == i) (same_input_view (known T (shift (suc T) here.view here.port)) k) passes in
      (here, (near, sym (backs-child (pred here.port) here.child here.view near.at) ∙ eqb-true (at_port (backs here.view) here.port) i both.0, same_input_view-same (known T (shift (suc T) here.view here.port)) k both.1, label))

  -- something is seen at each port
  seen_some : (w : InputView) → IsView problem.passive.degree problem.active.degree (suc T) w → Fits input.passive input.active w → (k : ℕ) → k < problem.passive.degree → 0 < length (seen (known T w) (suc k))
  seen_some w view fits k l = grown (grown_children input.labels problem.passive.degree problem.active.degree input.passive input.active T (suc (suc T)) problem.passive.degree [] w (passive_sides problem input is_input) view (omega arith) fits)
    where
      grown : (s : InputView) × IsTree problem.passive.degree problem.active.degree (suc (suc (suc T))) problem.passive.degree s × Fits input.passive input.active s × (cut (suc T) s ≡ w) → 0 < length (seen (known T w) (suc k))
      grown (s, s_view, s_fits, s_cut) = go (child_of problem.passive.degree problem.active.degree (suc (suc T)) problem.passive.degree s s_view k l)
        where
          go : (c : Child ℕ) × (child_at k s ≡ Some c) × IsChild problem.active.degree problem.passive.degree (suc (suc T)) c → 0 < length (seen (known T w) (suc k))
          go (c, at, child) =
              let u : InputView = shift (suc (suc T)) s (suc k) in
              let u_view : IsView problem.active.degree problem.passive.degree (suc (suc T)) u = IsView-shift problem.passive.degree problem.active.degree (suc (suc T)) s (suc k) c s_view (omega arith) (omega arith) at child in
              let u_fits : Fits input.active input.passive u = FitsAround-shift input.passive input.active problem.passive.degree problem.active.degree (suc (suc T)) s (suc k) c at child s_fits in
              let over : known T (shift (suc T) u c.back) ≡ known T w = ap (known T) (shift-shift problem.passive.degree problem.active.degree (suc T) s (suc k) c s_view at child ∙ s_cut) in
              some_member (seen (known T w) (suc k)) (at_port (f (known (suc T) u)) c.back) (seen_at (known T w) u (suc k) c.back u_view u_fits child.least child.most (back-shift problem.passive.degree problem.active.degree (suc T) s (suc k) c at child) over)

  -- whatever is chosen from what is seen stands together at some passive node
  seen_choice : (w : InputView) → IsView problem.passive.degree problem.active.degree (suc T) w → Fits input.passive input.active w → (labels : List ℕ) → IsChoice labels (seen_row (known T w)) → Has problem.passive labels
  seen_choice w view fits labels chosen =
      go (collected IsIn (λ i x here. Puts (known T w) i x here) (seen (known T w)) 1 problem.passive.degree labels no_neighbour chosen (λ i x held. seen_from (known T w) i x held))
    where
      go : (near : List Neighbour) × (length near ≡ problem.passive.degree) × ((k : ℕ) → k < problem.passive.degree → Puts (known T w) (1 + k) (get_or labels k 0) (get_or near k no_neighbour)) → Has problem.passive labels
      go (near, count, each) = subst (Has problem.passive) shown (solves.passive (joined near) s_view s_fits)
        where
          neighbours : (k : ℕ) → k < problem.passive.degree → IsNeighbour problem.active.degree problem.passive.degree (suc T) input.active input.passive (get_or near k no_neighbour)
          neighbours k l = (each k l).0

          back : (k : ℕ) → k < problem.passive.degree → (get_or near k no_neighbour).child.back ≡ suc k
          back k l = rw one-add at (each k l).1

          over : (k : ℕ) → k < problem.passive.degree → known T (shift (suc T) (get_or near k no_neighbour).view (get_or near k no_neighbour).port) ≡ known T w
          over k l = (each k l).2

          w_count : HasCount problem.passive.degree w
          w_count = HasCount-tree problem.passive.degree problem.active.degree T problem.passive.degree w view

          s_view : IsView problem.passive.degree problem.active.degree (suc (suc (suc T))) (joined near)
          s_view = IsTree-joined problem.active.degree problem.passive.degree (suc T) problem.passive.degree input.active input.passive near count neighbours

          labels_are : map label_of near ≡ payloads w
          labels_are = sym (payloads-joined near) ∙ (sym (payloads-known T (joined near)) ∙ (ap payloads (known-joined problem.active.degree problem.passive.degree T input.active input.passive near count neighbours w w_count back over) ∙ payloads-known T w))

          s_fits : Fits input.passive input.active (joined near)
          s_fits = FitsAround-joined problem.active.degree problem.passive.degree (suc T) problem.passive.degree input.active input.passive [] near count neighbours
              (subst (Has input.passive) (sym (append-nil (map label_of near) ∙ labels_are)) (Has-root input.passive input.active problem.passive.degree problem.active.degree T w view fits))

          labels_count : length labels ≡ problem.passive.degree
          labels_count = length-AllZip IsIn labels (seen_row (known T w)) chosen ∙ length-ports (seen (known T w)) 1 problem.passive.degree

          shown : around_known problem.passive.degree (suc T) f (joined near) ≡ labels
          shown = around-joined problem.active.degree problem.passive.degree (suc T) input.active input.passive near count neighbours f labels labels_count (λ k l. (
            known-neighbour problem.active.degree problem.passive.degree (suc T) input.active input.passive near count neighbours k l (same_behind problem.active.degree problem.passive.degree T input.active input.passive near count neighbours w w_count back over k l),
            (each k l).3,
          ))

  seen_good : (w : InputView) → IsView problem.passive.degree problem.active.degree (suc T) w → Fits input.passive input.active w → IsGood problem.passive (seen_row (known T w))
  seen_good w view fits = record {
    count = length-ports (seen (known T w)) 1 problem.passive.degree;
    filled = AllByRecursion-count (λ (set : List ℕ). 0 < length set) (seen (known T w)) 1 problem.passive.degree (λ k l. rw one-add (seen_some w view fits k l));
    choice = seen_choice w view fits;
  }

  seen_sets : (k : InputView) → AllByRecursion (IsLabelSet problem.labels) (seen_row k)
  seen_sets k = AllByRecursion-count (IsLabelSet problem.labels) (seen k) 1 problem.passive.degree (λ j l. beside_set problem input is is_input (suc T) f solves (lies_over T k (1 + j)))

  -- the chosen row is maximal, and what is seen lies in it place by place
  top_is : (w : InputView) → IsView problem.passive.degree problem.active.degree (suc T) w → Fits input.passive input.active w
      → (row : List (List ℕ)) × Contains rows row × Rearranged row (top_row (known T w)) × IsUnder (seen_row (known T w)) (top_row (known T w))
  top_is w view fits =
      let other : List (List ℕ) = seen_row (known T w) in
      let (row, held, dom) = dominated problem.passive problem.labels other (seen_good w view fits) (seen_sets (known T w)) in
      let (at, passes) = first_found (λ row. dominates row other) rows [] row held (Dominates-dominates row other dom) in
      let found : List (List ℕ) = unwrap_or (find (λ row. dominates row other) rows) [] in
      let (order, inside) = fitted_is found other passes in
      (found, at, order, inside)

  top_in_sets : (w : InputView) → IsView problem.passive.degree problem.active.degree (suc T) w → Fits input.passive input.active w → (set : List ℕ) → Contains (top_row (known T w)) set → Contains sets set
  top_in_sets w view fits set at =
      let (row, held, order, inside) = top_is w view fits in
      max_sets-row problem.passive problem.labels row held set (Contains-Rearranged set (Rearranged-sym order) at)

  fast_active : (w : InputView) → IsView problem.passive.degree problem.active.degree (suc T) w → Fits input.passive input.active w → Has (derived problem).active (fast_given (known T w))
  fast_active w view fits =
      let (row, held, order, inside) = top_is w view fits in
      let e : sorted (fast_given (known T w)) ≡ map (place_of sets) row = sym (sorted-Rearranged (Rearranged-map (place_of sets) order)) ∙ sorted_again (map (place_of sets) row) (max_row_ascends problem.passive problem.labels row held) in
      rw e (Contains-map (map (place_of sets)) rows row held)

  -- the set that the neighbour on port q gives to the edge
  abbrev set_over : InputView → ℕ → List ℕ
  set_over v q = get_or (top_row (known T (shift (suc T) v q))) (pred (at_port (backs v) q)) []

  top_count : (w : InputView) → IsView problem.passive.degree problem.active.degree (suc T) w → Fits input.passive input.active w → length (top_row (known T w)) ≡ problem.passive.degree
  top_count w view fits =
      let (row, held, order, inside) = top_is w view fits in
      sym (length-AllZip IsWithin (seen_row (known T w)) (top_row (known T w)) inside) ∙ length-ports (seen (known T w)) 1 problem.passive.degree

  -- what is known of the edge at port j + 1 of an active node
  over_is : (v : InputView) → IsView problem.active.degree problem.passive.degree (suc (suc T)) v → Fits input.active input.passive v → (j : ℕ) → j < problem.active.degree
      → Contains sets (set_over v (suc j)) × Contains (set_over v (suc j)) (at_port (f (known (suc T) v)) (suc j)) × (at_port (fast_given (known T (shift (suc T) v (suc j)))) (at_port (backs v) (suc j)) ≡ place_of sets (set_over v (suc j)))
  over_is v view fits j l = go (child_of problem.active.degree problem.passive.degree (suc T) problem.active.degree v view j l) (back_range problem.active.degree problem.passive.degree (suc T) v view j l)
    where
      go : (c : Child ℕ) × (child_at j v ≡ Some c) × IsChild problem.passive.degree problem.active.degree (suc T) c → (1 ≤ at_port (backs v) (suc j)) × (at_port (backs v) (suc j) ≤ problem.passive.degree)
          → Contains sets (set_over v (suc j)) × Contains (set_over v (suc j)) (at_port (f (known (suc T) v)) (suc j)) × (at_port (fast_given (known T (shift (suc T) v (suc j)))) (at_port (backs v) (suc j)) ≡ place_of sets (set_over v (suc j)))
      go (c, at, child) (low, high) =
          let w : InputView = shift (suc T) v (suc j) in
          let i : ℕ = at_port (backs v) (suc j) in
          let w_view : IsView problem.passive.degree problem.active.degree (suc T) w = IsView-shift problem.active.degree problem.passive.degree (suc T) v (suc j) c view (omega arith) (omega arith) at child in
          let w_fits : Fits input.passive input.active w = FitsAround-shift input.active input.passive problem.active.degree problem.passive.degree (suc T) v (suc j) c at child fits in
          let (row, held, order, inside) = top_is w w_view w_fits in
          let count : length (top_row (known T w)) ≡ problem.passive.degree = top_count w w_view w_fits in
          let seen_count : length (seen_row (known T w)) ≡ problem.passive.degree = length-ports (seen (known T w)) 1 problem.passive.degree in
          let member : Contains (top_row (known T w)) (set_over v (suc j)) = Contains-get_or (top_row (known T w)) (pred i) [] (omega arith) in
          let port_is : get_or (count_from 1 problem.passive.degree) (pred i) 0 ≡ 1 + pred i = get_or-count_from 1 problem.passive.degree (pred i) 0 (omega arith) in
          let port_is' : get_or (count_from 1 problem.passive.degree) (pred i) 0 ≡ i = omega arith in
          let seen_is : get_or (seen_row (known T w)) (pred i) [] ≡ seen (known T w) i = get_or-map (seen (known T w)) (count_from 1 problem.passive.degree) (pred i) 0 [] (omega (arith, length-count_from 1 problem.passive.degree)) ∙ ap (seen (known T w)) port_is' in
          let within : IsWithin (seen (known T w) i) (set_over v (suc j)) = subst (λ set. IsWithin set (set_over v (suc j))) seen_is (AllZip-at IsWithin (seen_row (known T w)) (top_row (known T w)) (pred i) [] [] inside (omega arith)) in
          let shown : Contains (seen (known T w) i) (at_port (f (known (suc T) v)) (suc j)) = seen_at (known T w) v i (suc j) view fits (omega arith) (omega arith) refl refl in (
            top_in_sets w w_view w_fits (set_over v (suc j)) member,
            within (at_port (f (known (suc T) v)) (suc j)) shown,
            get_or-map (place_of sets) (top_row (known T w)) (pred i) [] 0 (omega arith),
          )

  fast_passive : (v : InputView) → IsView problem.active.degree problem.passive.degree (suc (suc T)) v → Fits input.active input.passive v → Has (derived problem).passive (around_known problem.active.degree T fast_given v)
  fast_passive v view fits = subst (Has (derived problem).passive) (sym near_is) (Contains-filter (λ places. is_allowed problem.active (placed sets places)) (multisets problem.active.degree 0 (length sets)) (sorted (map (place_of sets) over)) listed some_active)
    where
      over : List (List ℕ)
      over = map (set_over v) (count_from 1 problem.active.degree)

      over_count : length over ≡ problem.active.degree
      over_count = length-ports (set_over v) 1 problem.active.degree

      over_held : (set : List ℕ) → Contains over set → Contains sets set
      over_held set at = AllByRecursion-contains (Contains sets) over set (AllByRecursion-count (Contains sets) (set_over v) 1 problem.active.degree (λ j l. rw one-add (over_is v view fits j l).0)) at

      listed : Contains (multisets problem.active.degree 0 (length sets)) (sorted (map (place_of sets) over))
      listed = subst (λ d. Contains (multisets d 0 (length sets)) (sorted (map (place_of sets) over))) over_count (places_listed sets over over_held)

      near_is : around_known problem.active.degree T fast_given v ≡ map (place_of sets) over
      near_is = map-count (λ q. at_port (fast_given (known T (shift (suc T) v q))) (at_port (backs v) q)) (λ q. place_of sets (set_over v q)) 1 problem.active.degree (λ j l. rw one-add (over_is v view fits j l).2)
          ∙ sym (map-map (place_of sets) (set_over v) (count_from 1 problem.active.degree))

      labels_count : length (f (known (suc T) v)) ≡ problem.active.degree
      labels_count = count_is problem input is is_input (suc T) f solves v view fits

      chosen : IsChoice (f (known (suc T) v)) over
      chosen = AllZip-flip (λ set x. IsIn x set) over (f (known (suc T) v)) (AllZip-count (λ set x. IsIn x set) (set_over v) 1 problem.active.degree (f (known (suc T) v)) labels_count (λ j d l.
          let default : get_or (f (known (suc T) v)) j 0 ≡ get_or (f (known (suc T) v)) j d = get_or_default (f (known (suc T) v)) j 0 d (omega (arith, labels_count)) in
          rw (one-add, ← default) (over_is v view fits j l).1))

      some_active : is_allowed problem.active (placed sets (sorted (map (place_of sets) over))) ≡ true
      some_active =
          let back : map (set_at sets) (map (place_of sets) over) ≡ over = map-get-place_of sets over over_held in
          let order : Rearranged over (placed sets (sorted (map (place_of sets) over))) = subst (λ row. Rearranged row (placed sets (sorted (map (place_of sets) over)))) back (Rearranged-map (set_at sets) (Rearranged-sorted (map (place_of sets) over))) in
          IsAllowed-is_allowed problem.active (placed sets (sorted (map (place_of sets) over))) (IsAllowed-Rearranged problem.active order (f (known (suc T) v), chosen, solves.active v view fits))

  pub SolvesGivenBy-fast : SolvesGivenBy (derived problem) (exchanged input) T fast_given
  SolvesGivenBy-fast = record { active = fast_active; passive = fast_passive }

-- an input problem has a passive configuration: one of the first label
some_passive : (problem input : Problem) → IsInput problem input → 0 < length input.passive.configs
some_passive problem input is =
    let config : List ℕ = get_or input.active.configs 0 [] in
    let held : Contains input.active.configs config = Contains-get_or input.active.configs 0 [] is.some in
    let is_config : IsConfig input.active.degree input.labels config = AllByRecursion-contains (IsConfig input.active.degree input.labels) input.active.configs config is.is_problem.active.configs held in
    let least : 2 ≤ input.active.degree = is.is_problem.active.least in
    let label : ℕ = get_or config 0 0 in
    let at : Contains config label = Contains-get_or config 0 0 (omega (arith, is_config.count, least)) in
    let l : label < input.labels = AllByRecursion-contains (λ x. x < input.labels) config label is_config.below at in
    let (other, other_held, other_at) = (is.occurs label l).1 in
    let (k, range, same) = other_held in omega (arith, range)

-- the exchanged input problem is one of each problem whose degrees are exchanged
pub IsInput-exchanged : (problem next input : Problem) → IsInput problem input → next.active.degree ≡ problem.passive.degree → next.passive.degree ≡ problem.active.degree → IsInput next (exchanged input)
IsInput-exchanged problem next input is a p = record {
  is_problem = record { active = is.is_problem.passive; passive = is.is_problem.active };
  active_degree = is.passive_degree ∙ sym a;
  passive_degree = is.active_degree ∙ sym p;
  some = some_passive problem input is;
  occurs = λ label l. ((is.occurs label l).1, (is.occurs label l).0);
}

pub IsInput-derived : (problem input : Problem) → IsInput problem input → IsInput (derived problem) (exchanged input)
IsInput-derived problem input is = IsInput-exchanged problem (derived problem) input is refl refl

-- what solves a problem gives, one round earlier, what solves the derived problem
pub SolvableGiven-derived : (problem input : Problem) (T : ℕ) → IsProblem problem → IsInput problem input → SolvableGiven problem input (suc T) → SolvableGiven (derived problem) (exchanged input) T
SolvableGiven-derived problem input T is is_input (table, solves) =
    SolvableGiven-by (derived problem) (exchanged input) T (fast_given problem input is is_input T (answer_known table) solves.solves) (IsInput-derived problem input is_input)
    (SolvesGivenBy-fast problem input is is_input T (answer_known table) solves.solves)
