-- What an algorithm puts beside an edge of which something is known, and why one of no rounds gives an upper step to the exchanged input problem.
use Rattle.std.proofs.Common.{◌≡◌, ℕ, zero, suc, pred, ◌+◌, ◌≤◌, ◌<◌, Bool, true, List, [], ◌∷◌, ◌++◌, map, filter, length, get_or, subst, refl, sym, ◌∙◌, ap, arith, one-add, append-nil, ◌==◌, ◌&&◌}
use Rattle.std.specs.Prelude.{Contains}
use Rattle.std.specs.List.{AllZip, list_any}
use Rattle.std.proofs.lemmas.List.{get_or_default, length-map}
use Rattle.std.proofs.lemmas.List.Elements.{Contains-get_or, same_from_all_zip}
use Rattle.re_labels.proofs.Rearranging.{AllZip-flip, Rearranged-sym, length-AllZip}
use Rattle.re_labels.proofs.Sorting.{sorted_again}
use Rattle.re_labels.specs.Configs.{IsConfig}
use Rattle.re_labels.specs.Rows.{IsChoice}
use Rattle.re_given.proofs.AllInputViews.{Contains-fitting, Has-below, fitting-IsView, fitting_views}
use Rattle.re_given.proofs.Fitting.{Rearranged-front}
use Rattle.re_given.proofs.JoinedInputs.{FitsAround-joined, IsNeighbour, IsTree-joined, Neighbour, around-joined, joined, known-neighbour, label_of, no_neighbour}
use Rattle.re_given.proofs.SlowGiven.{payloads-child}
use Rattle.re_given.proofs.GrownInputs.{both_occur}
use Rattle.re_given.specs.Given.{SolvesGivenBy, ZeroGiven, around_known}
use Rattle.re_given.specs.InputViews.{Fits, FitsAround, InputView, known, payloads}
use Rattle.re_given.specs.Inputs.{IsInput, exchanged}
use Rattle.re_problem.specs.NamedProblems.{OccursIn}
use Rattle.re_labels.proofs.Membership.{AllByRecursion-contains, AllByRecursion-from_contains, Contains-count_from, Contains-filter, Contains-filter_cases, Contains-map_cases, any_found, any_true, count_from_range}
use Rattle.re_labels.proofs.Numbers.{IsLabelSet-count_from, IsLabelSet-filter}
use Rattle.re_labels.proofs.Tests.{and-true, eqb-same, eqb-true, true-and}
use Rattle.re_labels.specs.Lists.{count_from}
use Rattle.re_labels.specs.Sets.{IsIn, IsLabelSet}
use Rattle.re_laws.proofs.Mapping.{count_of}
use Rattle.re_laws.proofs.FastRounds.{collected, some_member}
use Rattle.re_laws.proofs.Ports.{AllZip-count, map-at_port}
use Rattle.re_laws.specs.Algorithms.{at_port}
use Rattle.re_problem.specs.Problems.{IsProblem, Problem}
use Rattle.re_problem.specs.Steps.{IsUpper}
use Rattle.re_labels.proofs.Goodness.{Has-Rearranged}
use Rattle.re_labels.specs.Constraints.{Constraint, Has, IsConstraint}
use Rattle.re_labels.specs.GoodRows.{IsAllowed}
use Rattle.re_laws.proofs.ViewLaws.{child_of}
use Rattle.re_laws.specs.Trees.{IsTree, IsView, end, leaf, more}

-- the labels that the algorithm puts on an edge, at any active node and port that pass a test
abbrev pub beside : Problem → Problem → ℕ → (InputView → List ℕ) → (InputView → ℕ → Bool) → List ℕ
beside problem input r f test =
    filter (λ x. list_any (λ u. list_any (λ q. test u q && at_port (f (known r u)) q == x) (count_from 1 problem.active.degree)) (fitting_views input (suc r))) (count_from 0 problem.labels)

-- a configuration is itself the multiset of its labels
pub config-Has : (n : ℕ) (constraint : Constraint) (config : List ℕ) → IsConstraint n constraint → Contains constraint.configs config → Has constraint config
config-Has n constraint config is held =
    let config_is : IsConfig constraint.degree n config = AllByRecursion-contains (IsConfig constraint.degree n) constraint.configs config is.configs held in
    rw (sorted_again config config_is.ascends) held

module _ (problem input : Problem) (is : IsProblem problem) (is_input : IsInput problem input) (r : ℕ) (f : InputView → List ℕ) (solves : SolvesGivenBy problem input r f) where
  pub count_is : (u : InputView) → IsView problem.active.degree problem.passive.degree (suc r) u → Fits input.active input.passive u → length (f (known r u)) ≡ problem.active.degree
  count_is u view fits = count_of problem.labels problem.active (f (known r u)) is.active (solves.active u view fits)

  -- what a node that passes puts there is among them
  pub beside_at : (test : InputView → ℕ → Bool) (u : InputView) (q : ℕ) → IsView problem.active.degree problem.passive.degree (suc r) u → Fits input.active input.passive u → 1 ≤ q → q ≤ problem.active.degree → test u q ≡ true
      → Contains (beside problem input r f test) (at_port (f (known r u)) q)
  beside_at test u q view fits low high passes =
      let x : ℕ = at_port (f (known r u)) q in
      let held : Contains (f (known r u)) x = Contains-get_or (f (known r u)) (pred q) 0 (omega (arith, count_is u view fits)) in
      let below : x < problem.labels = Has-below problem.labels problem.active (f (known r u)) is.active (solves.active u view fits) x held in
      let both : (test u q && at_port (f (known r u)) q == x) ≡ true = true-and (test u q) (at_port (f (known r u)) q == x) passes (eqb-same x) in
      let listed : Contains (fitting_views input (suc r)) u = Contains-fitting input (suc r) u is_input.is_problem (rw (is_input.active_degree, is_input.passive_degree) view) fits in
      Contains-filter (λ x. list_any (λ u. list_any (λ q. test u q && at_port (f (known r u)) q == x) (count_from 1 problem.active.degree)) (fitting_views input (suc r))) (count_from 0 problem.labels) x
      (Contains-count_from 0 problem.labels x (omega arith) (omega arith))
      (any_true (λ u. list_any (λ q. test u q && at_port (f (known r u)) q == x) (count_from 1 problem.active.degree)) (fitting_views input (suc r)) u listed
      (any_true (λ q. test u q && at_port (f (known r u)) q == x) (count_from 1 problem.active.degree) q (Contains-count_from 1 problem.active.degree q low (omega arith)) both))

  -- a view of the input problem is one of the problem
  view_here : (u : InputView) → IsView input.active.degree input.passive.degree (suc r) u → IsView problem.active.degree problem.passive.degree (suc r) u
  view_here u view = rw (is_input.active_degree, is_input.passive_degree) at view

  -- and each of them is put there by some node that passes
  pub beside_from : (test : InputView → ℕ → Bool) (x : ℕ) → Contains (beside problem input r f test) x
      → (here : Neighbour) × IsNeighbour problem.active.degree problem.passive.degree r input.active input.passive here × (test here.view here.port ≡ true) × (at_port (f (known r here.view)) here.port ≡ x)
  beside_from test x held =
      let (listed, found) = Contains-filter_cases (λ x. list_any (λ u. list_any (λ q. test u q && at_port (f (known r u)) q == x) (count_from 1 problem.active.degree)) (fitting_views input (suc r))) (count_from 0 problem.labels) x held in
      let (u, u_in, found') = any_found (λ u. list_any (λ q. test u q && at_port (f (known r u)) q == x) (count_from 1 problem.active.degree)) (fitting_views input (suc r)) found in
      let (q, port, tests) = any_found (λ q. test u q && at_port (f (known r u)) q == x) (count_from 1 problem.active.degree) found' in
      let both = and-true (test u q) (at_port (f (known r u)) q == x) tests in
      let (low, high) = count_from_range 1 problem.active.degree q port in
      let (view, fits) = fitting-IsView input (suc r) u u_in in
      let view_is : IsView problem.active.degree problem.passive.degree (suc r) u = view_here u view in
      let (c, at, child) = child_of problem.active.degree problem.passive.degree r problem.active.degree u view_is (pred q) (omega arith) in
      (record { view = u; port = q; child = c }, record { is_view = view_is; fits = fits; least = low; most = omega arith; at = at }, both.0, eqb-true (at_port (f (known r u)) q) x both.1)

  pub beside_set : (test : InputView → ℕ → Bool) → IsLabelSet problem.labels (beside problem input r f test)
  beside_set test =
      IsLabelSet-filter (λ x. list_any (λ u. list_any (λ q. test u q && at_port (f (known r u)) q == x) (count_from 1 problem.active.degree)) (fitting_views input (suc r)))
      problem.labels (count_from 0 problem.labels) (IsLabelSet-count_from 0 problem.labels problem.labels (omega arith))

-- ---- no rounds
-- a node with these input labels
abbrev pub list_view : List ℕ → InputView
list_view [] = end
list_view (x ∷ xs) = more 1 x leaf (list_view xs)

pub payloads-list_view : (xs : List ℕ) → payloads (list_view xs) ≡ xs
payloads-list_view [] = refl
payloads-list_view (x ∷ xs) = ap (◌∷◌ x) (payloads-list_view xs)

pub IsTree-list_view : (d e : ℕ) (xs : List ℕ) → 1 ≤ e → IsTree d e 1 (length xs) (list_view xs)
IsTree-list_view d e [] some = tt
IsTree-list_view d e (x ∷ xs) some = (omega arith, some, tt, IsTree-list_view d e xs some)

pub FitsAround-list_view : (own other : Constraint) (xs seen : List ℕ) → Has own (xs ++ seen) → FitsAround own other seen (list_view xs)
FitsAround-list_view own other [] seen has = has
FitsAround-list_view own other (x ∷ xs) seen has = (tt, FitsAround-list_view own other xs (x ∷ seen) (Has-Rearranged own (Rearranged-sym (Rearranged-front xs x seen)) has))

module _ (problem input : Problem) (is : IsProblem problem) (is_input : IsInput problem input) (f : InputView → List ℕ) (solves : SolvesGivenBy problem input 0 f) where
  -- the labels that the algorithm puts beside an input label
  abbrev pub sets_given : ℕ → List ℕ
  sets_given z = beside problem input 0 f (λ u q. at_port (payloads u) q == z)

  passive_some : 1 ≤ problem.passive.degree
  passive_some = let l = is.passive.least in omega arith

  view_of : (config : List ℕ) → Contains input.active.configs config → IsView problem.active.degree problem.passive.degree 1 (list_view config) × Fits input.active input.passive (list_view config)
  view_of config held =
      let has : Has input.active config = config-Has input.labels input.active config is_input.is_problem.active held in
      let count : length config ≡ problem.active.degree = count_of input.labels input.active config is_input.is_problem.active has ∙ is_input.active_degree in (
        subst (λ n. IsTree problem.active.degree problem.passive.degree 1 n (list_view config)) count (IsTree-list_view problem.active.degree problem.passive.degree config passive_some),
        FitsAround-list_view input.active input.passive config [] (subst (Has input.active) (sym (append-nil config)) has),
      )

  ports_count : (config : List ℕ) → Contains input.active.configs config → length config ≡ problem.active.degree
  ports_count config held = count_of input.labels input.active config is_input.is_problem.active (config-Has input.labels input.active config is_input.is_problem.active held) ∙ is_input.active_degree

  -- what stands at a place of a configuration is put beside the input label there
  put_beside : (config : List ℕ) → Contains input.active.configs config → (k : ℕ) → k < problem.active.degree → Contains (sets_given (get_or config k 0)) (at_port (f (known 0 (list_view config))) (suc k))
  put_beside config held k l =
      let (view, fits) = view_of config held in
      let same : at_port (payloads (list_view config)) (suc k) ≡ get_or config k 0 = ap (λ xs. get_or xs k 0) (payloads-list_view config) in
      beside_at problem input is is_input 0 f solves (λ u q. at_port (payloads u) q == get_or config k 0) (list_view config) (suc k) view fits (omega arith) (omega arith) (rw same (eqb-same (get_or config k 0)))

  given_some : (z : ℕ) → OccursIn input.active z → 0 < length (sets_given z)
  given_some z (config, held, (k, l, e)) =
      let at : get_or config k 0 ≡ z = get_or_default config k 0 z l ∙ e in
      some_member (sets_given z) (at_port (f (known 0 (list_view config))) (suc k)) (subst (λ y. Contains (sets_given y) (at_port (f (known 0 (list_view config))) (suc k))) at (put_beside config held k (omega (arith, ports_count config held))))

  allowed_given : (config : List ℕ) → Contains input.active.configs config → IsAllowed problem.active (map sets_given config)
  allowed_given config held =
      let (view, fits) = view_of config held in
      let labels : List ℕ = f (known 0 (list_view config)) in
      let count : length labels ≡ problem.active.degree = count_is problem input is is_input 0 f solves (list_view config) view fits in
      let zip : AllZip (λ set x. IsIn x set) (map (λ port. sets_given (at_port config port)) (count_from 1 problem.active.degree)) labels =
      AllZip-count (λ set x. IsIn x set) (λ port. sets_given (at_port config port)) 1 problem.active.degree labels count (λ k d l.
      let default : get_or labels k 0 ≡ get_or labels k d = get_or_default labels k 0 d (omega (arith, count)) in
      rw (one-add, ← default) (put_beside config held k l)) in
      let chosen : AllZip (λ set x. IsIn x set) (map sets_given config) labels = subst (λ row. AllZip (λ set x. IsIn x set) row labels) (map-at_port sets_given config problem.active.degree (ports_count config held)) zip in
      (labels, AllZip-flip (λ set x. IsIn x set) (map sets_given config) labels chosen, solves.active (list_view config) view fits)

  -- a neighbour on an edge with that input label that puts that label on it
  abbrev Puts : ℕ → ℕ → Neighbour → Type 0
  Puts z x here = IsNeighbour problem.active.degree problem.passive.degree 0 input.active input.passive here × (label_of here ≡ z) × (at_port (f (known 0 here.view)) here.port ≡ x)

  puts_from : (z x : ℕ) → Contains (sets_given z) x → (here : Neighbour) × Puts z x here
  puts_from z x held =
      let (here, near, passes, label) = beside_from problem input is is_input 0 f solves (λ u q. at_port (payloads u) q == z) x held in
      (here, (near, sym (payloads-child (pred here.port) here.child here.view near.at) ∙ eqb-true (at_port (payloads here.view) here.port) z passes, label))

  choice_given : (config : List ℕ) → Contains input.passive.configs config → (labels : List ℕ) → IsChoice labels (map sets_given config) → Has problem.passive labels
  choice_given config held labels chosen =
      go (collected IsIn (λ j x here. Puts (at_port config j) x here) (λ port. sets_given (at_port config port)) 1 problem.passive.degree labels no_neighbour
      (subst (IsChoice labels) (sym (map-at_port sets_given config problem.passive.degree count)) chosen) (λ j x held. puts_from (at_port config j) x held))
    where
      has : Has input.passive config
      has = config-Has input.labels input.passive config is_input.is_problem.passive held

      count : length config ≡ problem.passive.degree
      count = count_of input.labels input.passive config is_input.is_problem.passive has ∙ is_input.passive_degree

      go : (near : List Neighbour) × (length near ≡ problem.passive.degree) × ((k : ℕ) → k < problem.passive.degree → Puts (at_port config (1 + k)) (get_or labels k 0) (get_or near k no_neighbour)) → Has problem.passive labels
      go (near, near_count, each) = subst (Has problem.passive) shown (solves.passive (joined near) view fits)
        where
          neighbours : (k : ℕ) → k < problem.passive.degree → IsNeighbour problem.active.degree problem.passive.degree 0 input.active input.passive (get_or near k no_neighbour)
          neighbours k l = (each k l).0

          view : IsView problem.passive.degree problem.active.degree 2 (joined near)
          view = IsTree-joined problem.active.degree problem.passive.degree 0 problem.passive.degree input.active input.passive near near_count neighbours

          labels_are : map label_of near ≡ config
          labels_are = sym (same_from_all_zip (λ (x y : ℕ). x ≡ y) (map label_of near) config (zip near config problem.passive.degree near_count count (λ k l. (rw one-add at (each k l)).1)) (λ x y e. sym e))
            where
              zip : (near : List Neighbour) (xs : List ℕ) (n : ℕ) → length near ≡ n → length xs ≡ n → ((k : ℕ) → k < n → label_of (get_or near k no_neighbour) ≡ get_or xs k 0) → AllZip (λ (x y : ℕ). x ≡ y) (map label_of near) xs
              zip [] [] n c c' same = tt
              zip [] (x ∷ xs) n c c' same = absurd (omega arith)
              zip (here ∷ near) [] n c c' same = absurd (omega arith)
              zip (here ∷ near) (x ∷ xs) zero c c' same = absurd (cc)
              zip (here ∷ near) (x ∷ xs) (suc n) c c' same = (same zero (omega arith), zip near xs n (omega arith) (omega arith) (λ k l. same (suc k) (omega arith)))

          fits : Fits input.passive input.active (joined near)
          fits = FitsAround-joined problem.active.degree problem.passive.degree 0 problem.passive.degree input.active input.passive [] near near_count neighbours
              (subst (Has input.passive) (sym (append-nil (map label_of near) ∙ labels_are)) has)

          labels_count : length labels ≡ problem.passive.degree
          labels_count = length-AllZip IsIn labels (map sets_given config) chosen ∙ (length-map config sets_given ∙ count)

          shown : around_known problem.passive.degree 0 f (joined near) ≡ labels
          shown = around-joined problem.active.degree problem.passive.degree 0 input.active input.passive near near_count neighbours f labels labels_count (λ k l.
              (known-neighbour problem.active.degree problem.passive.degree 0 input.active input.passive near near_count neighbours k l refl, (each k l).2))

  pub IsUpper-given : IsUpper problem (exchanged input) sets_given
  IsUpper-given = record {
    active_degree = is_input.passive_degree;
    passive_degree = is_input.active_degree;
    good = λ config held.
        let has : Has input.passive config = config-Has input.labels input.passive config is_input.is_problem.passive held in
        record {
          count = length-map config sets_given ∙ (count_of input.labels input.passive config is_input.is_problem.passive has ∙ is_input.passive_degree);
          filled = AllByRecursion-from_contains (λ (s : List ℕ). 0 < length s) (map sets_given config) (λ s at.
              let (z, z_in, same) = Contains-map_cases sets_given config s at in
              subst (λ (s : List ℕ). 0 < length s) same (given_some z ((both_occur problem input is_input z).1 (config, held, z_in))));
          choice = choice_given config held;
        };
    choice = allowed_given;
  }

pub ZeroGiven-from : (problem input : Problem) (f : InputView → List ℕ) → IsProblem problem → IsInput problem input → SolvesGivenBy problem input 0 f → ZeroGiven problem input
ZeroGiven-from problem input f is is_input solves = (sets_given problem input is is_input f solves, IsUpper-given problem input is is_input f solves)
