-- Passive nodes are content exactly where the sets of labels that they may get form good rows.
use Rattle.std.proofs.Common.{◌≡◌, ℕ, zero, suc, pred, ◌+◌, ◌≤◌, ◌<◌, true, List, [], ◌∷◌, map, length, get_or, refl, sym, ◌∙◌, ap, arith, one-add, ◌==◌, ◌&&◌, Some}
use Rattle.std.specs.Prelude.{Contains, ◌↔◌}
use Rattle.std.specs.List.{AllByRecursion, list_any}
use Rattle.std.proofs.lemmas.Bool.Decides.{nat_tests}
use Rattle.std.proofs.lemmas.List.{get_or-map, get_or_default, length-map}
use Rattle.std.proofs.lemmas.List.Elements.{Contains-get_or, same_from_all_zip}
use Rattle.re_labels.proofs.Rearranging.{Contains-Rearranged, length-AllZip}
use Rattle.re_labels.proofs.Replacing.{Contains-support_of, has-support_of}
use Rattle.re_labels.proofs.Sorting.{Rearranged-sorted, length-sorted}
use Rattle.re_labels.specs.Configs.{IsConfig, sorted, support_of}
use Rattle.re_labels.specs.Rows.{IsChoice}
use Rattle.re_labels.proofs.Membership.{AllByRecursion-contains, AllByRecursion-from_contains, Contains-count_from, Contains-filter, Contains-filter_cases, Contains-map, Contains-map_cases, any_found, any_true, count_from_range, get_or-count_from, length-count_from}
use Rattle.re_labels.proofs.Sets.{IsIn-has, has-IsIn}
use Rattle.re_labels.proofs.Tests.{and-true}
use Rattle.re_labels.specs.Lists.{count_from}
use Rattle.re_labels.specs.Sets.{IsIn}
use Rattle.re_laws.proofs.FastRounds.{collected, some_member}
use Rattle.re_laws.proofs.Ports.{AllByRecursion-count, AllZip-count, back_range, find_ports, length-ports, map-at_port}
use Rattle.re_laws.proofs.Tables.{same_view-refl, same_view-same}
use Rattle.re_laws.proofs.ZeroRounds.{IsTree-star, backs-star, star}
use Rattle.re_laws.specs.Algorithms.{Plain, around, at_port, back_at, same_view}
use Rattle.re_laws.specs.Fast.{seen, seen_row}
use Rattle.re_problem.specs.Problems.{IsProblem, Problem}
use Rattle.re_labels.specs.Constraints.{Has}
use Rattle.re_labels.specs.GoodRows.{IsGood}
use Rattle.re_laws.proofs.AllViewsLemmas.{Contains-all_views, all_views-IsView}
use Rattle.re_laws.proofs.JoinedBranches.{IsView-branchwise, back-shift, backs-child, child_at-branchwise, joined, shift-branchwise}
use Rattle.re_laws.proofs.ViewLaws.{IsChild, IsTree-cut, IsView-pad, IsView-shift, child_of, cut-pad, shift-shift}
use Rattle.re_laws.specs.AllViews.{all_views}
use Rattle.re_laws.specs.Ends.{AreEnds, End, IsEnd, branchwise, no_end}
use Rattle.re_laws.specs.Trees.{Child, IsView, backs, child_at, cut, leaf, pad, shift}
use Rattle.re_algo.specs.Laws.{SeenLaw}
use Rattle.re_algo.specs.SeenRows.{seen_rows}

module _ (problem : Problem) (is : IsProblem problem) (T : ℕ) (f : Plain → List ℕ)
    (active : (u : Plain) → IsView problem.active.degree problem.passive.degree T u → Has problem.active (f u)) where
  config_is : (u : Plain) → IsView problem.active.degree problem.passive.degree T u → IsConfig problem.active.degree problem.labels (sorted (f u))
  config_is u view = AllByRecursion-contains (IsConfig problem.active.degree problem.labels) problem.active.configs (sorted (f u)) is.active.configs (active u view)

  pub count_is : (u : Plain) → IsView problem.active.degree problem.passive.degree T u → length (f u) ≡ problem.active.degree
  count_is u view = sym (length-sorted (f u)) ∙ (config_is u view).count

  pub label_below : (u : Plain) (q : ℕ) → IsView problem.active.degree problem.passive.degree T u → 1 ≤ q → q ≤ problem.active.degree → at_port (f u) q < problem.labels
  label_below u q view low high =
      let held : Contains (f u) (get_or (f u) (pred q) 0) = Contains-get_or (f u) (pred q) 0 (omega (arith, count_is u view)) in
      AllByRecursion-contains (λ x. x < problem.labels) (sorted (f u)) (at_port (f u) q) (config_is u view).below (Contains-Rearranged (at_port (f u) q) (Rearranged-sorted (f u)) held)

  active_some : 1 ≤ problem.active.degree
  active_some = let l = is.active.least in omega arith

  passive_some : 1 ≤ problem.passive.degree
  passive_some = let l = is.passive.least in omega arith

module _ (problem : Problem) (is : IsProblem problem) (T : ℕ) (f : Plain → List ℕ)
    (active : (u : Plain) → IsView problem.active.degree problem.passive.degree (suc T) u → Has problem.active (f u)) where
  -- what a neighbour puts on the edge is seen
  seen_at : (w u : Plain) (i q : ℕ) → IsView problem.active.degree problem.passive.degree (suc T) u → 1 ≤ q → q ≤ problem.active.degree → back_at u q ≡ i → shift T u q ≡ w → Contains (seen problem T f w i) (at_port (f u) q)
  seen_at w u i q view low high back over =
      let x : ℕ = at_port (f u) q in
      let tests : (back_at u q == i && same_view (shift T u q) w && at_port (f u) q == x) ≡ true =
      (let first : (back_at u q == i) ≡ true = grind (arith, nat_tests) in let third : (at_port (f u) q == x) ≡ true = grind (arith, nat_tests) in rw (first, over, same_view-refl w, third) refl) in
      Contains-filter (λ x. list_any (λ u. list_any (λ q. back_at u q == i && same_view (shift T u q) w && at_port (f u) q == x) (count_from 1 problem.active.degree)) (all_views problem.active.degree problem.passive.degree (suc T))) (count_from 0 problem.labels) x
      (Contains-count_from 0 problem.labels x (omega arith) (let m = label_below problem is (suc T) f active u q view low high in omega arith))
      (any_true (λ u. list_any (λ q. back_at u q == i && same_view (shift T u q) w && at_port (f u) q == x) (count_from 1 problem.active.degree)) (all_views problem.active.degree problem.passive.degree (suc T)) u (Contains-all_views problem.active.degree problem.passive.degree (suc T) u view)
      (any_true (λ q. back_at u q == i && same_view (shift T u q) w && at_port (f u) q == x) (count_from 1 problem.active.degree) q (Contains-count_from 1 problem.active.degree q low (omega arith)) tests))

  -- what is seen is what some neighbour puts there
  seen_from : (w : Plain) (i x : ℕ) → Contains (seen problem T f w i) x → (here : End) × IsEnd problem.active.degree problem.passive.degree T w i here × (at_port (f here.view) here.port ≡ x)
  seen_from w i x held =
      let (listed, some) = Contains-filter_cases (λ x. list_any (λ u. list_any (λ q. back_at u q == i && same_view (shift T u q) w && at_port (f u) q == x) (count_from 1 problem.active.degree)) (all_views problem.active.degree problem.passive.degree (suc T))) (count_from 0 problem.labels) x held in
      let (u, view, some') = any_found (λ u. list_any (λ q. back_at u q == i && same_view (shift T u q) w && at_port (f u) q == x) (count_from 1 problem.active.degree)) (all_views problem.active.degree problem.passive.degree (suc T)) some in
      let (q, port, tests) = any_found (λ q. back_at u q == i && same_view (shift T u q) w && at_port (f u) q == x) (count_from 1 problem.active.degree) some' in
      let outer = and-true (back_at u q == i && same_view (shift T u q) w) (at_port (f u) q == x) tests in
      let inner = and-true (back_at u q == i) (same_view (shift T u q) w) outer.0 in
      let range = count_from_range 1 problem.active.degree q port in
      let first : (back_at u q == i) ≡ true = inner.0 in
      let third : (at_port (f u) q == x) ≡ true = outer.1 in
      let low : 1 ≤ q = range.0 in
      let high : q < 1 + problem.active.degree = range.1 in
      (record { view = u; port = q }, record { is_view = all_views-IsView problem.active.degree problem.passive.degree (suc T) u view; least = low; most = omega arith; back = grind (arith, nat_tests); over = same_view-same (shift T u q) w inner.1 }, grind (arith, nat_tests))

  -- what the neighbour over a port puts on the edge is seen at the node, with two rounds less
  around_seen : (s : Plain) → IsView problem.passive.degree problem.active.degree (suc (suc T)) s → (k : ℕ) → k < problem.passive.degree → Contains (seen problem T f (cut T s) (suc k)) (at_port (f (shift (suc T) s (suc k))) (back_at s (suc k)))
  around_seen s view k l = go (child_of problem.passive.degree problem.active.degree (suc T) problem.passive.degree s view k l)
    where
      go : (c : Child (Unit {0})) × (child_at k s ≡ Some c) × IsChild problem.active.degree problem.passive.degree (suc T) c → Contains (seen problem T f (cut T s) (suc k)) (at_port (f (shift (suc T) s (suc k))) (back_at s (suc k)))
      go (c, at, child) =
          let u : Plain = shift (suc T) s (suc k) in
          let u_view : IsView problem.active.degree problem.passive.degree (suc T) u = IsView-shift problem.passive.degree problem.active.degree (suc T) s (suc k) c view (omega arith) (omega arith) at child in
          let over : shift T u c.back ≡ cut T s = shift-shift problem.passive.degree problem.active.degree T s (suc k) c view at child in
          let back_is : back_at s (suc k) ≡ c.back = backs-child k c s at in
          rw back_is (seen_at (cut T s) u (suc k) c.back u_view child.least child.most (back-shift problem.passive.degree problem.active.degree T s (suc k) c at child) over)

  -- something is seen at each port
  seen_some : (w : Plain) → IsView problem.passive.degree problem.active.degree T w → (k : ℕ) → k < problem.passive.degree → 0 < length (seen problem T f w (suc k))
  seen_some w view k l =
      let s : Plain = pad problem.passive.degree problem.active.degree (suc (suc T)) tt w in
      let s_view : IsView problem.passive.degree problem.active.degree (suc (suc T)) s =
      IsView-pad problem.passive.degree problem.active.degree T (suc (suc T)) tt w (passive_some problem is (suc T) f active) (active_some problem is (suc T) f active) view (omega arith) in
      let back : cut T s ≡ w = cut-pad problem.passive.degree problem.active.degree T (suc (suc T)) tt w view (omega arith) in
      some_member (seen problem T f w (suc k)) (at_port (f (shift (suc T) s (suc k))) (back_at s (suc k))) (rw back at (around_seen s s_view k l))

  -- whatever is chosen from what is seen stands together at some passive node
  seen_choice : ((s : Plain) → IsView problem.passive.degree problem.active.degree (suc (suc T)) s → Has problem.passive (around problem.passive.degree (suc T) f s))
      → (w : Plain) → IsView problem.passive.degree problem.active.degree T w → (labels : List ℕ) → IsChoice labels (seen_row problem T f w) → Has problem.passive labels
  seen_choice passive w view labels chosen = go (collected IsIn (λ i x here. IsEnd problem.active.degree problem.passive.degree T w i here × (at_port (f here.view) here.port ≡ x)) (seen problem T f w) 1 problem.passive.degree labels no_end chosen (λ i x held. let (here, there, label) = seen_from w i x held in (here, (there, label))))
    where
      go : (ends : List End) × (length ends ≡ problem.passive.degree) × ((k : ℕ) → k < problem.passive.degree → IsEnd problem.active.degree problem.passive.degree T w (1 + k) (get_or ends k no_end) × (at_port (f (get_or ends k no_end).view) (get_or ends k no_end).port ≡ get_or labels k 0)) → Has problem.passive labels
      go (ends, count, each) = rw shown at (passive s s_view)
        where
          s : Plain
          s = branchwise ends

          are : AreEnds problem.active.degree problem.passive.degree T w ends
          are = record { count = count; each = λ k l. rw one-add at (each k l).0 }

          s_view : IsView problem.passive.degree problem.active.degree (suc (suc T)) s
          s_view = IsView-branchwise problem.active.degree problem.passive.degree T w ends are

          labels_count : length labels ≡ problem.passive.degree
          labels_count = length-AllZip IsIn labels (seen_row problem T f w) chosen ∙ length-ports (seen problem T f w) 1 problem.passive.degree

          at : (k : ℕ) (d : ℕ) → k < problem.passive.degree → at_port (f (shift (suc T) s (suc k))) (back_at s (suc k)) ≡ get_or labels k d
          at k d l =
              let u_is : shift (suc T) s (suc k) ≡ (get_or ends k no_end).view = shift-branchwise problem.active.degree problem.passive.degree T w ends view are k l in
              let q_is : back_at s (suc k) ≡ (get_or ends k no_end).port = backs-child k (joined (get_or ends k no_end)) s (child_at-branchwise ends k (omega (arith, count))) in
              let label : at_port (f (get_or ends k no_end).view) (get_or ends k no_end).port ≡ get_or labels k 0 = (each k l).1 in
              let default : get_or labels k 0 ≡ get_or labels k d = get_or_default labels k 0 d (omega (arith, labels_count)) in
              rw (u_is, q_is) (label ∙ default)

          shown : around problem.passive.degree (suc T) f s ≡ labels
          shown = sym (same_from_all_zip (λ (x y : ℕ). x ≡ y) (around problem.passive.degree (suc T) f s) labels (AllZip-count (λ (x y : ℕ). x ≡ y) (λ port. at_port (f (shift (suc T) s port)) (back_at s port)) 1 problem.passive.degree labels labels_count (λ k d l. rw one-add (at k d l))) (λ x y e. sym e))

  seen_good : ((s : Plain) → IsView problem.passive.degree problem.active.degree (suc (suc T)) s → Has problem.passive (around problem.passive.degree (suc T) f s))
      → (w : Plain) → IsView problem.passive.degree problem.active.degree T w → IsGood problem.passive (seen_row problem T f w)
  seen_good passive w view = record {
    count = length-ports (seen problem T f w) 1 problem.passive.degree;
    filled = AllByRecursion-count (λ (set : List ℕ). 0 < length set) (seen problem T f w) 1 problem.passive.degree (λ k l. rw one-add (seen_some w view k l));
    choice = seen_choice passive w view;
  }

  -- the labels around a passive node are a choice from what is seen there with two rounds less
  around_chosen : (s : Plain) → IsView problem.passive.degree problem.active.degree (suc (suc T)) s → IsChoice (around problem.passive.degree (suc T) f s) (seen_row problem T f (cut T s))
  around_chosen s view =
      AllZip-count IsIn (λ port. at_port (f (shift (suc T) s port)) (back_at s port)) 1 problem.passive.degree (seen_row problem T f (cut T s)) (length-ports (seen problem T f (cut T s)) 1 problem.passive.degree) (λ k d l.
      let port_is : get_or (count_from 1 problem.passive.degree) k 0 ≡ 1 + k = get_or-count_from 1 problem.passive.degree k 0 l in
      let row_is : get_or (seen_row problem T f (cut T s)) k d ≡ seen problem T f (cut T s) (1 + k) = get_or-map (seen problem T f (cut T s)) (count_from 1 problem.passive.degree) k 0 d (omega (arith, length-count_from 1 problem.passive.degree)) ∙ ap (seen problem T f (cut T s)) port_is in
      rw (row_is, one-add) (around_seen s view k l))

  pub seen_rows-more : ((s : Plain) → IsView problem.passive.degree problem.active.degree (suc (suc T)) s → Has problem.passive (around problem.passive.degree (suc T) f s))
      ↔ AllByRecursion (IsGood problem.passive) (seen_rows problem (suc T) f)
  seen_rows-more = (
    λ passive. AllByRecursion-from_contains (IsGood problem.passive) (seen_rows problem (suc T) f) (λ row held.
        let (w, at, e) = Contains-map_cases (seen_row problem T f) (all_views problem.passive.degree problem.active.degree T) row held in
        rw (← e) (seen_good passive w (all_views-IsView problem.passive.degree problem.active.degree T w at))),
    λ good s view.
        let w_view : IsView problem.passive.degree problem.active.degree T (cut T s) = IsTree-cut problem.passive.degree problem.active.degree (suc (suc T)) T problem.passive.degree s view (omega arith) in
        let row_good : IsGood problem.passive (seen_row problem T f (cut T s)) = AllByRecursion-contains (IsGood problem.passive) (seen_rows problem (suc T) f) (seen_row problem T f (cut T s)) good
        (Contains-map (seen_row problem T f) (all_views problem.passive.degree problem.active.degree T) (cut T s) (Contains-all_views problem.passive.degree problem.active.degree T (cut T s) w_view)) in
        row_good.choice (around problem.passive.degree (suc T) f s) (around_chosen s view),
  )

of_support : (xs : List ℕ) (x : ℕ) → Contains (support_of xs) x → Contains xs x
of_support xs x held = has-IsIn xs x (sym (has-support_of xs x) ∙ IsIn-has (support_of xs) x held)

-- labels of one set
all_chosen : (set labels : List ℕ) (i n : ℕ) → IsChoice labels (map (λ port. set) (count_from i n)) → AllByRecursion (Contains set) labels
all_chosen set [] i zero chosen = tt
all_chosen set (x ∷ labels) i zero chosen = absurd chosen
all_chosen set [] i (suc n) chosen = tt
all_chosen set (x ∷ labels) i (suc n) chosen = (chosen.0, all_chosen set labels (suc i) n chosen.1)

weaker : (set xs labels : List ℕ) → ((x : ℕ) → Contains set x → Contains xs x) → AllByRecursion (Contains set) labels → AllByRecursion (Contains xs) labels
weaker set xs [] each h = tt
weaker set xs (x ∷ labels) each h = (each x h.0, weaker set xs labels each h.1)

module _ (problem : Problem) (is : IsProblem problem) (f : Plain → List ℕ)
    (active : (u : Plain) → IsView problem.active.degree problem.passive.degree 0 u → Has problem.active (f u)) where
  count_at : length (f leaf) ≡ problem.active.degree
  count_at = count_is problem is 0 f active leaf tt

  abbrev row : List (List ℕ)
  row = map (λ port. support_of (f leaf)) (count_from 1 problem.passive.degree)

  drawn : ((s : Plain) → IsView problem.passive.degree problem.active.degree 1 s → Has problem.passive (around problem.passive.degree 0 f s))
      → (labels : List ℕ) → IsChoice labels row → Has problem.passive labels
  drawn passive labels chosen = go (find_ports (f leaf) labels (weaker (support_of (f leaf)) (f leaf) labels (of_support (f leaf)) (all_chosen (support_of (f leaf)) labels 1 problem.passive.degree chosen)))
    where
      labels_count : length labels ≡ problem.passive.degree
      labels_count = length-AllZip IsIn labels row chosen ∙ length-ports (λ port. support_of (f leaf)) 1 problem.passive.degree

      go : (bs : List ℕ) × (map (at_port (f leaf)) bs ≡ labels) × AllByRecursion (λ b. (1 ≤ b) × (b ≤ length (f leaf))) bs → Has problem.passive labels
      go (bs, same, range) =
          let many : length bs ≡ problem.passive.degree = sym (length-map bs (at_port (f leaf))) ∙ (ap length same ∙ labels_count) in
          let view : IsView problem.passive.degree problem.active.degree 1 (star bs) = rw many at (IsTree-star problem.passive.degree problem.active.degree bs (rw count_at at range)) in
          let shown : around problem.passive.degree 0 f (star bs) ≡ labels =
          map-at_port (at_port (f leaf)) (backs (star bs)) problem.passive.degree (ap length (backs-star bs) ∙ many) ∙ (ap (map (at_port (f leaf))) (backs-star bs) ∙ same) in
          rw shown at (passive (star bs) view)

  -- the label that a passive node gets at a port is one of the answer
  label_in : (s : Plain) → IsView problem.passive.degree problem.active.degree 1 s → (k : ℕ) → k < problem.passive.degree → Contains (support_of (f leaf)) (at_port (f leaf) (back_at s (suc k)))
  label_in s view k l =
      let range : (1 ≤ back_at s (suc k)) × (back_at s (suc k) ≤ problem.active.degree) = back_range problem.passive.degree problem.active.degree 0 s view k l in
      Contains-support_of (f leaf) (at_port (f leaf) (back_at s (suc k))) (Contains-get_or (f leaf) (pred (back_at s (suc k))) 0 (let c = count_at in omega arith))

  row_good : ((s : Plain) → IsView problem.passive.degree problem.active.degree 1 s → Has problem.passive (around problem.passive.degree 0 f s)) → IsGood problem.passive row
  row_good passive = record {
    count = length-ports (λ port. support_of (f leaf)) 1 problem.passive.degree;
    filled = AllByRecursion-count (λ (set : List ℕ). 0 < length set) (λ port. support_of (f leaf)) 1 problem.passive.degree (λ k l.
        some_member (support_of (f leaf)) (at_port (f leaf) 1) (Contains-support_of (f leaf) (at_port (f leaf) 1) (Contains-get_or (f leaf) 0 0 (let c = count_at in let m = is.active.least in omega arith))));
    choice = drawn passive;
  }

  around_drawn : (s : Plain) → IsView problem.passive.degree problem.active.degree 1 s → IsChoice (around problem.passive.degree 0 f s) row
  around_drawn s view =
      AllZip-count IsIn (λ port. at_port (f leaf) (back_at s port)) 1 problem.passive.degree row (length-ports (λ port. support_of (f leaf)) 1 problem.passive.degree) (λ k d l.
      rw (get_or-map (λ port. support_of (f leaf)) (count_from 1 problem.passive.degree) k 0 d (omega (arith, length-count_from 1 problem.passive.degree)), one-add) (label_in s view k l))

  pub seen_rows-none : ((s : Plain) → IsView problem.passive.degree problem.active.degree 1 s → Has problem.passive (around problem.passive.degree 0 f s)) ↔ AllByRecursion (IsGood problem.passive) (seen_rows problem 0 f)
  seen_rows-none = (
    λ passive. (row_good passive, tt),
    λ good s view. let first : IsGood problem.passive row = good.0 in first.choice (around problem.passive.degree 0 f s) (around_drawn s view),
  )

pub seen_law : SeenLaw
seen_law problem zero f is active = seen_rows-none problem is f active
seen_law problem (suc T) f is active = seen_rows-more problem is T f active
