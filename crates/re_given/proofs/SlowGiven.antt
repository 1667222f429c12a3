-- The construction for one round more, given an input problem, and that for none.
use Rattle.std.proofs.Common.{◌≡◌, ℕ, zero, suc, pred, ◌+◌, ◌≤◌, ◌<◌, List, [], map, length, get_or, refl, sym, ◌∙◌, ap, arith, one-add}
use Rattle.std.specs.Prelude.{Contains, Some, find, unwrap_or}
use Rattle.std.proofs.lemmas.List.{append-nil, get_or-map, length-map}
use Rattle.re_labels.proofs.ChoicesOfRows.{IsChoice-Rearranged, IsChoice-choices, choices-IsChoice}
use Rattle.re_labels.proofs.Rearranging.{AllZip-at, Rearranged-map, Rearranged-sym, length-AllZip}
use Rattle.re_labels.proofs.Sorting.{Rearranged-sorted, length-sorted}
use Rattle.re_labels.specs.Configs.{sorted}
use Rattle.re_labels.specs.Rows.{IsChoice, choices}
use Rattle.re_given.proofs.Fitting.{FitsAround-cut, FitsAround-shift, Has-around}
use Rattle.re_given.proofs.GivenTables.{SolvableGiven-by}
use Rattle.re_given.proofs.KnownViews.{backs-known, known-cut, known-shift, payloads-known}
use Rattle.re_given.specs.Given.{SolvableGiven, SolvesGivenBy, ZeroGiven, answer_known, around_known}
use Rattle.re_given.specs.InputViews.{Fits, InputView, known, payloads}
use Rattle.re_given.specs.Inputs.{IsInput, exchanged}
use Rattle.re_labels.proofs.Membership.{first_found, get_or-count_from, length-count_from}
use Rattle.re_labels.specs.Lists.{count_from}
use Rattle.re_labels.specs.Sets.{IsIn}
use Rattle.re_laws.proofs.Ports.{AllZip-count, length-ports, map-count}
use Rattle.re_laws.specs.Algorithms.{at_port}
use Rattle.re_problem.specs.Problems.{Problem}
use Rattle.re_problem.specs.Steps.{IsUpper}
use Rattle.re_labels.proofs.Goodness.{Has-Rearranged, Has-has_config, has_config-Has}
use Rattle.re_labels.specs.Constraints.{Constraint, Has, has_config}
use Rattle.re_labels.specs.GoodRows.{IsAllowed, IsGood}
use Rattle.re_laws.proofs.JoinedBranches.{back-shift, backs-child}
use Rattle.re_laws.proofs.ViewLaws.{HasRoom, HasRoom-tree, IsChild, IsTree-cut, IsView-shift, child_at-put, child_of, shift-at, shift-shift}
use Rattle.re_laws.specs.Trees.{Child, IsTree, IsView, backs, child_at, cut, end, leaf, more, others, put, shift}

-- ---- choices
-- the first choice from the sets that these labels stand for that the constraint allows
abbrev pub choice_from : Constraint → (ℕ → List ℕ) → List ℕ → List ℕ
choice_from constraint sets near = unwrap_or (find (has_config constraint) (choices (map sets near))) []

pub choice_is : (constraint : Constraint) (sets : ℕ → List ℕ) (near : List ℕ) → IsAllowed constraint (map sets (sorted near)) → IsChoice (choice_from constraint sets near) (map sets near) × Has constraint (choice_from constraint sets near)
choice_is constraint sets near (labels, chosen, held) =
    let (labels', order, chosen') = IsChoice-Rearranged labels (Rearranged-map sets (Rearranged-sym (Rearranged-sorted near))) chosen in
    let held' : Has constraint labels' = Has-Rearranged constraint order held in
    let (at, passes) = first_found (has_config constraint) (choices (map sets near)) [] labels' (choices-IsChoice (map sets near) labels' chosen') (Has-has_config constraint labels' held') in
    (IsChoice-choices (map sets near) (choice_from constraint sets near) at, has_config-Has constraint (choice_from constraint sets near) passes)

-- what is chosen at a neighbour lies in the set that stands over the port
pub chosen_within : (sets : ℕ → List ℕ) (labels near row : List ℕ) (q k : ℕ) (d : List ℕ) → IsChoice labels (map sets near) → 1 ≤ q → q ≤ length near → k < length row → at_port near q ≡ get_or row k 0 → Contains (get_or (map sets row) k d) (at_port labels q)
chosen_within sets labels near row q k d chosen low high l same =
    let size : length labels ≡ length near = length-AllZip IsIn labels (map sets near) chosen ∙ length-map near sets in
    let member : Contains (get_or (map sets near) (pred q) d) (get_or labels (pred q) 0) = AllZip-at IsIn labels (map sets near) (pred q) 0 d chosen (omega arith) in
    let set_is : get_or (map sets near) (pred q) d ≡ get_or (map sets row) k d =
    get_or-map sets near (pred q) 0 d (omega arith) ∙ (ap sets same ∙ sym (get_or-map sets row k 0 d l)) in
    rw (← set_is) member

-- choices from a good row in another order are allowed
pub good_choice : (constraint : Constraint) (sets : ℕ → List ℕ) (row labels : List ℕ) → IsGood constraint (map sets (sorted row)) → IsChoice labels (map sets row) → Has constraint labels
good_choice constraint sets row labels good chosen =
    let (labels', order, chosen') = IsChoice-Rearranged labels (Rearranged-map sets (Rearranged-sorted row)) chosen in
    Has-Rearranged constraint (Rearranged-sym order) (good.choice labels' chosen')

good_count : (constraint : Constraint) (sets : ℕ → List ℕ) (row : List ℕ) → IsGood constraint (map sets (sorted row)) → length row ≡ constraint.degree
good_count constraint sets row good = sym (length-map (sorted row) sets ∙ length-sorted row) ∙ good.count

-- ---- ports
pub at_port-around : (degree T : ℕ) (f : InputView → List ℕ) (v : InputView) (port : ℕ) → 1 ≤ port → port ≤ degree → at_port (around_known degree T f v) port ≡ at_port (f (known T (shift (suc T) v port))) (at_port (backs v) port)
at_port-around degree T f v port low high =
    let at : get_or (count_from 1 degree) (pred port) 0 ≡ 1 + pred port = get_or-count_from 1 degree (pred port) 0 (omega arith) in
    let is : 1 + pred port ≡ port = omega arith in
    get_or-map (λ port. at_port (f (known T (shift (suc T) v port))) (at_port (backs v) port)) (count_from 1 degree) (pred port) 0 0 (omega (arith, length-count_from 1 degree)) ∙ ap (λ port. at_port (f (known T (shift (suc T) v port))) (at_port (backs v) port)) (at ∙ is)

-- what neighbours output that know one round less is known
pub around-known : (d e T : ℕ) (f : InputView → List ℕ) (v : InputView) → IsView d e (suc (suc T)) v → around_known d T f (known (suc T) v) ≡ around_known d T f v
around-known d e T f v is = map-count (λ port. at_port (f (known T (shift (suc T) (known (suc T) v) port))) (at_port (backs (known (suc T) v)) port)) (λ port. at_port (f (known T (shift (suc T) v port))) (at_port (backs v) port)) 1 d (λ k l. rw one-add (each k l (child_of d e (suc T) d v is k l)))
  where
    each : (k : ℕ) → k < d → (c : Child ℕ) × (child_at k v ≡ Some c) × IsChild e d (suc T) c → at_port (f (known T (shift (suc T) (known (suc T) v) (suc k)))) (at_port (backs (known (suc T) v)) (suc k)) ≡ at_port (f (known T (shift (suc T) v (suc k)))) (at_port (backs v) (suc k))
    each k l (c, at, child) = rw (backs-known T v, known-shift T v (suc k) c at) refl

pub payloads-child : (k : ℕ) (c : Child ℕ) (x : InputView) → child_at k x ≡ Some c → get_or (payloads x) k 0 ≡ c.payload
payloads-child k c leaf h = cc
payloads-child k c end h = cc
payloads-child zero c (more back label branch rest) h = cc
payloads-child (suc k) c (more back label branch rest) h = payloads-child k c rest h

pub length-payloads : (d e t n : ℕ) (x : InputView) → IsTree d e (suc t) n x → length (payloads x) ≡ n
length-payloads d e t n leaf h = absurd h
length-payloads d e t zero end h = refl
length-payloads d e t (suc n) end h = absurd h
length-payloads d e t zero (more back label branch rest) h = absurd h
length-payloads d e t (suc n) (more back label branch rest) h = ap suc (length-payloads d e t n rest h.3)

-- the edge has one input label, seen from both its ends
pub payload-shift : (d e t : ℕ) (v : InputView) (i : ℕ) (c : Child ℕ) → child_at (pred i) v ≡ Some c → IsChild e d (suc t) c → get_or (payloads (shift (suc t) v i)) (pred c.back) 0 ≡ c.payload
payload-shift d e t v i c at child =
    let behind : Child ℕ = record { back = i; payload = c.payload; branch = cut t (others (pred i) v) } in
    let room : HasRoom (pred c.back) c.branch = HasRoom-tree e d t (pred e) c.branch child.branch (pred c.back) (let l = child.least in let m = child.most in omega arith) in
    rw (shift-at (suc t) v i c at) (payloads-child (pred c.back) behind (put (pred c.back) behind c.branch) (child_at-put (pred c.back) behind c.branch room))

-- what stands around the root of a view that fits
pub Has-root : (own other : Constraint) (d e t : ℕ) (v : InputView) → IsView d e (suc t) v → Fits own other v → Has own (payloads v)
Has-root own other d e t v is fits = rw append-nil at (Has-around own other d e t d [] v is fits)

-- ---- one round more
module _ (problem next input : Problem) (sets : ℕ → List ℕ) (T : ℕ) (B : InputView → List ℕ)
    (upper : IsUpper problem next sets)
    (solves : SolvesGivenBy next (exchanged input) T B) where
  -- the first choice from the sets that the neighbours' answers stand for that is active
  abbrev pub slow_given : InputView → List ℕ
  slow_given k = choice_from problem.active sets (around_known problem.active.degree T B k)

  slow_is : (v : InputView) → IsView problem.active.degree problem.passive.degree (suc (suc T)) v → Fits input.active input.passive v → IsChoice (slow_given (known (suc T) v)) (map sets (around_known problem.active.degree T B v)) × Has problem.active (slow_given (known (suc T) v))
  slow_is v is fits =
      let near : List ℕ = around_known problem.active.degree T B v in
      let passive : Has next.passive near = rw upper.passive_degree at (solves.passive v (rw (upper.passive_degree, upper.active_degree) is) fits) in
      rw (around-known problem.active.degree problem.passive.degree T B v is) (choice_is problem.active sets near (upper.choice (sorted near) passive))

  next_is : (s : InputView) → IsView problem.passive.degree problem.active.degree (suc (suc (suc T))) s → Fits input.passive input.active s → Has next.active (B (known T s))
  next_is s is fits =
      rw (known-cut T (suc T) s (omega arith)) at (solves.active (cut (suc T) s) (rw (upper.passive_degree, upper.active_degree) (IsTree-cut problem.passive.degree problem.active.degree (suc (suc (suc T))) (suc T) problem.passive.degree s is (omega arith))) (FitsAround-cut input.passive input.active [] (suc T) s fits))

  next_good : (s : InputView) → IsView problem.passive.degree problem.active.degree (suc (suc (suc T))) s → Fits input.passive input.active s → IsGood problem.passive (map sets (sorted (B (known T s))))
  next_good s is fits = upper.good (sorted (B (known T s))) (next_is s is fits)

  slow_within : (s : InputView) → IsView problem.passive.degree problem.active.degree (suc (suc (suc T))) s → Fits input.passive input.active s → (k : ℕ) (d : List ℕ) → k < problem.passive.degree
      → Contains (get_or (map sets (B (known T s))) k d) (at_port (slow_given (known (suc T) (shift (suc (suc T)) s (suc k)))) (at_port (backs s) (suc k)))
  slow_within s is fits k d l = go (child_of problem.passive.degree problem.active.degree (suc (suc T)) problem.passive.degree s is k l)
    where
      go : (c : Child ℕ) × (child_at k s ≡ Some c) × IsChild problem.active.degree problem.passive.degree (suc (suc T)) c → Contains (get_or (map sets (B (known T s))) k d) (at_port (slow_given (known (suc T) (shift (suc (suc T)) s (suc k)))) (at_port (backs s) (suc k)))
      go (c, at, child) =
          let u : InputView = shift (suc (suc T)) s (suc k) in
          let near : List ℕ = around_known problem.active.degree T B u in
          let low : 1 ≤ c.back = child.least in
          let high : c.back ≤ problem.active.degree = child.most in
          let u_is : IsView problem.active.degree problem.passive.degree (suc (suc T)) u = IsView-shift problem.passive.degree problem.active.degree (suc (suc T)) s (suc k) c is (omega arith) (omega arith) at child in
          let u_fits : Fits input.active input.passive u = FitsAround-shift input.passive input.active problem.passive.degree problem.active.degree (suc (suc T)) s (suc k) c at child fits in
          let near_count : length near ≡ problem.active.degree = length-ports (λ port. at_port (B (known T (shift (suc T) u port))) (at_port (backs u) port)) 1 problem.active.degree in
          let count : length (B (known T s)) ≡ problem.passive.degree = good_count problem.passive sets (B (known T s)) (next_good s is fits) in
          let over : known T (shift (suc T) u c.back) ≡ known T s =
          ap (known T) (shift-shift problem.passive.degree problem.active.degree (suc T) s (suc k) c is at child) ∙ known-cut T (suc T) s (omega arith) in
          let label_is : at_port near c.back ≡ get_or (B (known T s)) k 0 =
          at_port-around problem.active.degree T B u c.back low high ∙ (ap (λ w. at_port (B w) (at_port (backs u) c.back)) over ∙ ap (at_port (B (known T s))) (back-shift problem.passive.degree problem.active.degree (suc T) s (suc k) c at child)) in
          let back_is : at_port (backs s) (suc k) ≡ c.back = backs-child k c s at in
          rw back_is (chosen_within sets (slow_given (known (suc T) u)) near (B (known T s)) c.back k d (slow_is u u_is u_fits).0 low (omega arith) (omega arith) label_is)

  pub SolvesGivenBy-upper : SolvesGivenBy problem input (suc T) slow_given
  SolvesGivenBy-upper = record { active = λ v is fits. (slow_is v is fits).1; passive = passive }
    where
      passive : (s : InputView) → IsView problem.passive.degree problem.active.degree (suc (suc (suc T))) s → Fits input.passive input.active s → Has problem.passive (around_known problem.passive.degree (suc T) slow_given s)
      passive s is fits =
          let row : List ℕ = B (known T s) in
          let count : length row ≡ problem.passive.degree = good_count problem.passive sets row (next_good s is fits) in
          good_choice problem.passive sets row (around_known problem.passive.degree (suc T) slow_given s) (next_good s is fits)
          (AllZip-count IsIn (λ port. at_port (slow_given (known (suc T) (shift (suc (suc T)) s port))) (at_port (backs s) port)) 1 problem.passive.degree (map sets row) (length-map row sets ∙ count) (λ k d l. rw one-add (slow_within s is fits k d l)))

pub SolvableGiven-upper : (problem next input : Problem) (sets : ℕ → List ℕ) (T : ℕ) → IsInput problem input → IsUpper problem next sets → SolvableGiven next (exchanged input) T → SolvableGiven problem input (suc T)
SolvableGiven-upper problem next input sets T is upper (table, solves) =
    SolvableGiven-by problem input (suc T) (slow_given problem next input sets T (answer_known table) upper solves.solves) is
    (SolvesGivenBy-upper problem next input sets T (answer_known table) upper solves.solves)

-- ---- no round
module _ (problem input : Problem) (sets : ℕ → List ℕ) (upper : IsUpper problem (exchanged input) sets) where
  -- the first choice from the sets of the node's own input labels that is active
  abbrev pub chosen_given : InputView → List ℕ
  chosen_given k = choice_from problem.active sets (payloads k)

  chosen_is : (v : InputView) → IsView problem.active.degree problem.passive.degree 1 v → Fits input.active input.passive v → IsChoice (chosen_given (known 0 v)) (map sets (payloads v)) × Has problem.active (chosen_given (known 0 v))
  chosen_is v is fits =
      rw (payloads-known 0 v) (choice_is problem.active sets (payloads v) (upper.choice (sorted (payloads v)) (Has-root input.active input.passive problem.active.degree problem.passive.degree 0 v is fits)))

  root_good : (s : InputView) → IsView problem.passive.degree problem.active.degree 2 s → Fits input.passive input.active s → IsGood problem.passive (map sets (sorted (payloads s)))
  root_good s is fits = upper.good (sorted (payloads s)) (Has-root input.passive input.active problem.passive.degree problem.active.degree 1 s is fits)

  label_within : (s : InputView) → IsView problem.passive.degree problem.active.degree 2 s → Fits input.passive input.active s → (k : ℕ) (d : List ℕ) → k < problem.passive.degree
      → Contains (get_or (map sets (payloads s)) k d) (at_port (chosen_given (known 0 (shift 1 s (suc k)))) (at_port (backs s) (suc k)))
  label_within s is fits k d l = go (child_of problem.passive.degree problem.active.degree 1 problem.passive.degree s is k l)
    where
      go : (c : Child ℕ) × (child_at k s ≡ Some c) × IsChild problem.active.degree problem.passive.degree 1 c → Contains (get_or (map sets (payloads s)) k d) (at_port (chosen_given (known 0 (shift 1 s (suc k)))) (at_port (backs s) (suc k)))
      go (c, at, child) =
          let u : InputView = shift 1 s (suc k) in
          let low : 1 ≤ c.back = child.least in
          let high : c.back ≤ problem.active.degree = child.most in
          let u_is : IsView problem.active.degree problem.passive.degree 1 u = IsView-shift problem.passive.degree problem.active.degree 1 s (suc k) c is (omega arith) (omega arith) at child in
          let u_fits : Fits input.active input.passive u = FitsAround-shift input.passive input.active problem.passive.degree problem.active.degree 1 s (suc k) c at child fits in
          let count : length (payloads u) ≡ problem.active.degree = length-payloads problem.active.degree problem.passive.degree 0 problem.active.degree u u_is in
          let row_count : length (payloads s) ≡ problem.passive.degree = length-payloads problem.passive.degree problem.active.degree 1 problem.passive.degree s is in
          let label_is : at_port (payloads u) c.back ≡ get_or (payloads s) k 0 =
          payload-shift problem.passive.degree problem.active.degree 0 s (suc k) c at child ∙ sym (payloads-child k c s at) in
          let back_is : at_port (backs s) (suc k) ≡ c.back = backs-child k c s at in
          rw back_is (chosen_within sets (chosen_given (known 0 u)) (payloads u) (payloads s) c.back k d (chosen_is u u_is u_fits).0 low (omega arith) (omega arith) label_is)

  pub SolvesGivenBy-zero : SolvesGivenBy problem input 0 chosen_given
  SolvesGivenBy-zero = record { active = λ v is fits. (chosen_is v is fits).1; passive = passive }
    where
      passive : (s : InputView) → IsView problem.passive.degree problem.active.degree 2 s → Fits input.passive input.active s → Has problem.passive (around_known problem.passive.degree 0 chosen_given s)
      passive s is fits =
          let row : List ℕ = payloads s in
          let count : length row ≡ problem.passive.degree = length-payloads problem.passive.degree problem.active.degree 1 problem.passive.degree s is in
          good_choice problem.passive sets row (around_known problem.passive.degree 0 chosen_given s) (root_good s is fits)
          (AllZip-count IsIn (λ port. at_port (chosen_given (known 0 (shift 1 s port))) (at_port (backs s) port)) 1 problem.passive.degree (map sets row) (length-map row sets ∙ count) (λ k d l. rw one-add (label_within s is fits k d l)))

pub SolvableGiven-zero : (problem input : Problem) → IsInput problem input → ZeroGiven problem input → SolvableGiven problem input 0
SolvableGiven-zero problem input is (sets, upper) = SolvableGiven-by problem input 0 (chosen_given problem input sets upper) is (SolvesGivenBy-zero problem input sets upper)
