-- A local algorithm that solves the input problem, and behind it an algorithm that solves a problem given it.
use Rattle.std.proofs.Common.{◌≡◌, ℕ, zero, suc, pred, ◌+◌, ◌≤◌, ◌<◌, Some, List, [], ◌∷◌, ◌++◌, map, refl, sym, ◌∙◌, ap, subst, arith, append-nil, one-add, zero-add}
use Rattle.std.specs.Prelude.{Contains, unwrap_or}
use Rattle.std.proofs.lemmas.List.Elements.{Contains-append_left}
use Rattle.re_labels.proofs.Rearranging.{Rearranged-map, Rearranged-refl, Rearranged-sym}
use Rattle.re_labels.specs.Rearranging.{Rearranged, chained, kept}
use Rattle.re_given.proofs.Fitting.{FitsAround-cut, FitsAround-shift, Has-around, Rearranged-front}
use Rattle.re_given.proofs.KnownViews.{backs-known, child_at-known, known_child, known-cut, known-known, known-shift}
use Rattle.re_given.proofs.LabelledViews.{HasOutputs, Kind, active_behind, active_kind, behind_labels, child_labels, listed-same, passive_behind, passive_kind, ports-places, same_child, with_labels}
use Rattle.re_given.proofs.Relabelled.{backs-cut}
use Rattle.re_given.specs.Given.{SolvableGiven, SolvesGivenBy, answer_known, around_known}
use Rattle.re_given.specs.InputViews.{Fits, InputView, known, payloads}
use Rattle.re_given.specs.Inputs.{IsInput}
use Rattle.re_labels.proofs.Membership.{Contains-here, Contains-later, Contains-none}
use Rattle.re_labels.specs.Lists.{count_from}
use Rattle.re_laws.proofs.Ports.{map-count}
use Rattle.re_laws.specs.Algorithms.{at_port}
use Rattle.re_local.proofs.ColouredLocal.{alike, different_Rearranged, part_right}
use Rattle.re_local.proofs.FewerRounds.{IsPart, behind_active-cut, behind_passive-cut, held, part_append, part_different, part_map, shown-cut}
use Rattle.re_layers.specs.Networks.{AreDifferent}
use Rattle.re_local.specs.LocalAlgorithms.{SolvableLocal, SolvesApart, behind_active, behind_passive, identified, shown}
use Rattle.re_problem.specs.Problems.{IsProblem, Problem}
use Rattle.re_labels.specs.Constraints.{Has}
use Rattle.re_laws.proofs.ViewLaws.{HasRoom, HasRoom-tree, IsChild, IsTree-cut, IsView-shift, child_at-put, child_of, others-put, shift-at, shift-cut}
use Rattle.re_laws.specs.Trees.{Child, IsView, backs, child_at, cut, end, leaf, more, others, put, shift}

-- ---- lists in another order
moved : (xs ys zs : List ℕ) → Rearranged (xs ++ (ys ++ zs)) (ys ++ (xs ++ zs))
moved xs [] zs = Rearranged-refl (xs ++ zs)
moved xs (y ∷ ys) zs = chained (Rearranged-front xs y (ys ++ zs)) (kept (moved xs ys zs))

turned_round : (xs ys : List ℕ) → Rearranged (xs ++ ys) (ys ++ xs)
turned_round xs [] = rw (append-nil xs) (Rearranged-refl xs)
turned_round xs (y ∷ ys) = chained (Rearranged-front xs y ys) (kept (turned_round xs ys))

kept_front : (xs : List ℕ) {ys zs : List ℕ} → Rearranged ys zs → Rearranged (xs ++ ys) (xs ++ zs)
kept_front [] h = h
kept_front (x ∷ xs) h = kept (kept_front xs h)

-- ---- what is shown behind one child and behind the others
parts_active : (k : ℕ) (c : Child ℕ) (x : InputView) → child_at k x ≡ Some c → Rearranged (behind_active x) (behind_passive c.branch ++ behind_active (others k x))
parts_active k c leaf at = absurd (cc)
parts_active k c end at = absurd (cc)
parts_active zero c (more back label branch rest) at =
    let is = ap (λ found. unwrap_or found c) at in
    subst (λ (c : Child ℕ). Rearranged (behind_passive branch ++ behind_active rest) (behind_passive c.branch ++ behind_active rest)) is (Rearranged-refl (behind_passive branch ++ behind_active rest))
parts_active (suc k) c (more back label branch rest) at =
    chained (kept_front (behind_passive branch) (parts_active k c rest at)) (moved (behind_passive branch) (behind_passive c.branch) (behind_active (others k rest)))

parts_passive : (k : ℕ) (c : Child ℕ) (x : InputView) → child_at k x ≡ Some c → Rearranged (behind_passive x) ((c.payload ∷ behind_active c.branch) ++ behind_passive (others k x))
parts_passive k c leaf at = absurd (cc)
parts_passive k c end at = absurd (cc)
parts_passive zero c (more back label branch rest) at =
    let is = ap (λ found. unwrap_or found c) at in
    subst (λ (c : Child ℕ). Rearranged ((label ∷ behind_active branch) ++ behind_passive rest) ((c.payload ∷ behind_active c.branch) ++ behind_passive rest)) is (Rearranged-refl ((label ∷ behind_active branch) ++ behind_passive rest))
parts_passive (suc k) c (more back label branch rest) at =
    chained (kept_front (label ∷ behind_active branch) (parts_passive k c rest at)) (moved (label ∷ behind_active branch) (c.payload ∷ behind_active c.branch) (behind_passive (others k rest)))

pub payload_in : (k : ℕ) (c : Child ℕ) (x : InputView) → child_at k x ≡ Some c → Contains (payloads x) c.payload
payload_in k c leaf at = absurd (cc)
payload_in k c end at = absurd (cc)
payload_in zero c (more back label branch rest) at =
    let is = ap (λ found. unwrap_or found c) at in
    subst (λ (c : Child ℕ). Contains (label ∷ payloads rest) c.payload) is (Contains-here label (payloads rest))
payload_in (suc k) c (more back label branch rest) at = Contains-later c.payload label (payloads rest) (payload_in k c rest at)

-- ---- the views of neighbours, where the labels around an active node have one identifier
module _ (base : Problem) (id : ℕ → ℕ) (one : (labels : List ℕ) (y z : ℕ) → Has base.active labels → Contains labels y → Contains labels z → id y ≡ id z) where
  first_is : (x : InputView) (z : ℕ) → Contains (payloads x) z → ((y : ℕ) → Contains (payloads x) y → id y ≡ id z) → map id (shown x) ≡ map id (z ∷ behind_active x)
  first_is leaf z at same = absurd (Contains-none z at)
  first_is end z at same = absurd (Contains-none z at)
  first_is (more back label branch rest) z at same = ap (λ w. w ∷ map id (behind_active (more back label branch rest))) (same label (Contains-here label (payloads rest)))

  shown_is : (d e t : ℕ) (x : InputView) (z : ℕ) → IsView d e (suc t) x → Fits base.active base.passive x → Contains (payloads x) z → map id (shown x) ≡ map id (z ∷ behind_active x)
  shown_is d e t x z view fits at =
      first_is x z at (λ y there. one (payloads x ++ []) y z (Has-around base.active base.passive d e t d [] x view fits)
      (Contains-append_left (payloads x) [] y there) (Contains-append_left (payloads x) [] z at))

  different_passive : (d e t : ℕ) (v : InputView) (k : ℕ) → IsView d e (suc t) v → Fits base.active base.passive v → k < d → AreDifferent (map id (shown v))
      → AreDifferent (map id (behind_passive (shift t v (suc k))))
  different_passive d e zero v k view fits l apart = tt
  different_passive d e (suc t) v k view fits l apart = go (child_of d e (suc t) d v view k l)
    where
      go : (c : Child ℕ) × (child_at k v ≡ Some c) × IsChild e d (suc t) c → AreDifferent (map id (behind_passive (shift (suc t) v (suc k))))
      go (c, at, child) =
          let back : Child ℕ = record { back = suc k; payload = c.payload; branch = cut t (others k v) } in
          let room : HasRoom (pred c.back) c.branch = HasRoom-tree e d t (pred e) c.branch child.branch (pred c.back) (let l = child.least in let m = child.most in omega arith) in
          let u : InputView = put (pred c.back) back c.branch in
          let seen : shift (suc t) v (suc k) ≡ u = shift-at (suc t) v (suc k) c at in
          let parts : Rearranged (behind_passive u) ((c.payload ∷ behind_active (cut t (others k v))) ++ behind_passive c.branch) =
          subst (λ rest. Rearranged (behind_passive u) ((c.payload ∷ behind_active (cut t (others k v))) ++ behind_passive rest)) (others-put (pred c.back) back c.branch room)
          (parts_passive (pred c.back) back u (child_at-put (pred c.back) back c.branch room)) in
          let less : IsPart ((c.payload ∷ behind_active (cut t (others k v))) ++ behind_passive c.branch) ((c.payload ∷ behind_active (others k v)) ++ behind_passive c.branch) =
          part_append (held (behind_active-cut t (others k v))) (part_right [] (behind_passive c.branch)) in
          let order : Rearranged (c.payload ∷ behind_active v) ((c.payload ∷ behind_active (others k v)) ++ behind_passive c.branch) =
          kept (chained (parts_active k c v at) (turned_round (behind_passive c.branch) (behind_active (others k v)))) in
          let whole : AreDifferent (map id (c.payload ∷ behind_active v)) = subst AreDifferent (shown_is d e (suc t) v c.payload view fits (payload_in k c v at)) apart in
          rw seen (different_Rearranged (Rearranged-map id (Rearranged-sym parts)) (part_different (part_map id less) (different_Rearranged (Rearranged-map id order) whole)))

  different_active : (d e t : ℕ) (v : InputView) (k : ℕ) → IsView e d (suc t) v → Fits base.passive base.active v → k < e → AreDifferent (map id (behind_passive v))
      → AreDifferent (map id (shown (shift t v (suc k))))
  different_active d e zero v k view fits l apart = tt
  different_active d e (suc t) v k view fits l apart = go (child_of e d (suc t) e v view k l)
    where
      go : (c : Child ℕ) × (child_at k v ≡ Some c) × IsChild d e (suc t) c → AreDifferent (map id (shown (shift (suc t) v (suc k))))
      go (c, at, child) =
          let back : Child ℕ = record { back = suc k; payload = c.payload; branch = cut t (others k v) } in
          let room : HasRoom (pred c.back) c.branch = HasRoom-tree d e t (pred d) c.branch child.branch (pred c.back) (let l = child.least in let m = child.most in omega arith) in
          let u : InputView = put (pred c.back) back c.branch in
          let seen : shift (suc t) v (suc k) ≡ u = shift-at (suc t) v (suc k) c at in
          let there : child_at (pred c.back) u ≡ Some back = child_at-put (pred c.back) back c.branch room in
          let u_view : IsView d e (suc t) u = subst (IsView d e (suc t)) seen (IsView-shift e d (suc t) v (suc k) c view (omega arith) (omega arith) at child) in
          let u_fits : Fits base.active base.passive u = subst (Fits base.active base.passive) seen (FitsAround-shift base.passive base.active e d (suc t) v (suc k) c at child fits) in
          let parts : Rearranged (behind_active u) (behind_passive (cut t (others k v)) ++ behind_active c.branch) =
          subst (λ rest. Rearranged (behind_active u) (behind_passive (cut t (others k v)) ++ behind_active rest)) (others-put (pred c.back) back c.branch room) (parts_active (pred c.back) back u there) in
          let less : IsPart (c.payload ∷ (behind_passive (cut t (others k v)) ++ behind_active c.branch)) (c.payload ∷ (behind_passive (others k v) ++ behind_active c.branch)) =
          held (part_append (behind_passive-cut t (others k v)) (part_right [] (behind_active c.branch))) in
          let order : Rearranged (behind_passive v) (c.payload ∷ (behind_passive (others k v) ++ behind_active c.branch)) =
          chained (parts_passive k c v at) (kept (turned_round (behind_active c.branch) (behind_passive (others k v)))) in
          let near : AreDifferent (map id (c.payload ∷ behind_active u)) =
          different_Rearranged (Rearranged-map id (Rearranged-sym (kept parts))) (part_different (part_map id less) (different_Rearranged (Rearranged-map id order) apart)) in
          rw seen (subst AreDifferent (sym (shown_is d e t u c.payload u_view u_fits (payload_in (pred c.back) back u there))) near)

-- ---- what is known decides the labels
-- what is known shows a child only where there is one
child_behind : (T k : ℕ) (d : Child ℕ) (x : InputView) → child_at k (known T x) ≡ Some d → (c : Child ℕ) × (child_at k x ≡ Some c)
child_behind T k d leaf h = absurd (cc)
child_behind T k d end h = absurd (cc)
child_behind T zero d (more back label branch rest) h = (record { back = back; payload = label; branch = branch }, refl)
child_behind zero (suc k) d (more back label branch rest) h = child_behind zero k d rest h
child_behind (suc T) (suc k) d (more back label branch rest) h = child_behind (suc T) k d rest h

known_near : (d e q : ℕ) (x y : InputView) (k : ℕ) → IsView d e (suc (suc q)) x → known (suc q) x ≡ known (suc q) y → k < d
    → known q (shift (suc q) x (suc k)) ≡ known q (shift (suc q) y (suc k))
known_near d e q x y k view same l =
    let (c, at, child) = child_of d e (suc q) d x view k l in
    let (c', at') = child_behind (suc q) k (known_child (suc q) c) y (ap (child_at k) (sym same) ∙ child_at-known (suc q) k c x at) in
    sym (known-shift q x (suc k) c at) ∙ (ap (λ z. known q (shift (suc q) z (suc k))) same ∙ known-shift q y (suc k) c' at')

same_known : (S q : ℕ) (x y : InputView) → S ≤ q → known q x ≡ known q y → known S x ≡ known S y
same_known S q x y l same = sym (known-known S q x l) ∙ (ap (known S) same ∙ known-known S q y l)

same_back : (q : ℕ) (x y : InputView) (port : ℕ) → 0 < q → known q x ≡ known q y → at_port (backs x) port ≡ at_port (backs y) port
same_back zero x y port some same = absurd (omega arith)
same_back (suc q) x y port some same = ap (λ ports. at_port ports port) (sym (backs-known q x) ∙ (ap backs same ∙ backs-known q y))

-- ---- a local algorithm's labels
module _ (base input : Problem) (id : ℕ → ℕ) (one : (labels : List ℕ) (y z : ℕ) → Has base.active labels → Contains labels y → Contains labels z → id y ≡ id z)
    (is_input_problem : IsProblem input) (S : ℕ) (B : InputView → List ℕ) (solves_input : SolvesApart input base id S B) where
  abbrev a : ℕ
  a = input.active.degree

  abbrev p : ℕ
  p = input.passive.degree

  -- the views at which it has to solve the problem, and deeper ones
  abbrev Active : ℕ → InputView → Type 0
  Active r v = IsView a p r v × Fits base.active base.passive v × AreDifferent (map id (shown v))

  abbrev Passive : ℕ → InputView → Type 0
  Passive r v = IsView p a r v × Fits base.passive base.active v × AreDifferent (map id (behind_passive v))

  abbrev puts : InputView → List ℕ
  puts v = B (known S v)

  pub outputs : HasOutputs input (suc S) puts Active Passive
  outputs = record {
    active_view = λ r v here. here.0;
    passive_view = λ r v here. here.0;
    active_near = λ r v k here l.
        let (c, at, child) = child_of a p r a v here.0 k l in (
          IsView-shift a p r v (suc k) c here.0 (omega arith) (omega arith) at child,
          FitsAround-shift base.active base.passive a p r v (suc k) c at child here.1,
          different_passive base id one a p r v k here.0 here.1 l here.2,
        );
    passive_near = λ r v k here l.
        let (c, at, child) = child_of p a r p v here.0 k l in (
          IsView-shift p a r v (suc k) c here.0 (omega arith) (omega arith) at child,
          FitsAround-shift base.passive base.active p a r v (suc k) c at child here.1,
          different_active base id one a p r v k here.0 here.1 l here.2,
        );
    enough = λ u v l. ap B (known-cut S u v (omega arith));
    active = λ r v here l.
        subst (λ k. Has input.active (B k)) (known-cut S (suc S) v (omega arith))
        (solves_input.active (cut (suc S) v) (IsTree-cut a p r (suc S) a v here.0 l) (FitsAround-cut base.active base.passive [] (suc S) v here.1)
        (part_different (part_map id (shown-cut (suc S) v)) here.2));
    passive = λ r v here l.
        subst (Has input.passive)
        (ports-places (λ port. at_port (B (known S (shift (suc S) (cut (suc (suc S)) v) port))) (at_port (backs (cut (suc (suc S)) v)) port))
        (λ k. at_port (B (known S (shift r v (suc k)))) (at_port (backs v) (suc k))) 0 p (λ k m. rw zero-add (around r v here.0 l k m)))
        (solves_input.passive (cut (suc (suc S)) v) (IsTree-cut p a (suc r) (suc (suc S)) p v here.0 (omega arith))
        (FitsAround-cut base.passive base.active [] (suc (suc S)) v here.1) (part_different (part_map id (behind_passive-cut (suc (suc S)) v)) here.2));
  }
    where
      around : (r : ℕ) (v : InputView) → IsView p a (suc r) v → suc S ≤ r → (k : ℕ) → k < p
          → at_port (B (known S (shift (suc S) (cut (suc (suc S)) v) (suc k)))) (at_port (backs (cut (suc (suc S)) v)) (suc k)) ≡ at_port (B (known S (shift r v (suc k)))) (at_port (backs v) (suc k))
      around r v view l k m =
          let (c, at, child) = child_of p a r p v view k m in
          rw (backs-cut (suc S) v, shift-cut r (suc S) v (suc k) c l at, known-cut S (suc S) (shift r v (suc k)) (omega arith)) refl

  abbrev active_side : Kind ℕ
  active_side = active_kind input is_input_problem (suc S) puts Active Passive outputs

  abbrev passive_side : Kind ℕ
  passive_side = passive_kind input is_input_problem (suc S) puts Active Passive outputs

  mutual
    known_active : (t q : ℕ) (x y : InputView) → IsView a p (suc q) x → known q x ≡ known q y → S + t ≤ q
        → with_labels active_side passive_side t (suc q) x ≡ with_labels active_side passive_side t (suc q) y
    known_active zero q x y view same l = refl
    known_active (suc t) zero x y view same l = absurd (omega arith)
    known_active (suc t) (suc q) x y view same l =
        listed-same 0 (child_labels active_side passive_side t (suc (suc q)) x) (child_labels active_side passive_side t (suc (suc q)) y) a
        (λ k m. rw zero-add (each k (known_passive t q (shift (suc q) x (suc k)) (shift (suc q) y (suc k)) (there k m) (known_near a p q x y k view same m) (omega arith))))
      where
        there : (k : ℕ) → k < a → IsView p a (suc q) (shift (suc q) x (suc k))
        there k m =
            let (c, at, child) = child_of a p (suc q) a x view k m in
            IsView-shift a p (suc q) x (suc k) c view (omega arith) (omega arith) at child

        each : (k : ℕ) → with_labels passive_side active_side t (suc q) (shift (suc q) x (suc k)) ≡ with_labels passive_side active_side t (suc q) (shift (suc q) y (suc k))
            → child_labels active_side passive_side t (suc (suc q)) x k ≡ child_labels active_side passive_side t (suc (suc q)) y k
        each k beyond =
            let back : at_port (backs x) (suc k) ≡ at_port (backs y) (suc k) = same_back (suc q) x y (suc k) (omega arith) same in
            same_child back (ap (λ z. at_port (B z) (suc k)) (same_known S (suc q) x y (omega arith) same))
            (ap (λ b. others (pred b) (with_labels passive_side active_side t (suc q) (shift (suc q) x (suc k)))) back ∙ ap (others (pred (at_port (backs y) (suc k)))) beyond)

    known_passive : (t q : ℕ) (x y : InputView) → IsView p a (suc q) x → known q x ≡ known q y → S + t ≤ q
        → with_labels passive_side active_side t (suc q) x ≡ with_labels passive_side active_side t (suc q) y
    known_passive zero q x y view same l = refl
    known_passive (suc t) zero x y view same l = absurd (omega arith)
    known_passive (suc t) (suc q) x y view same l =
        listed-same 0 (child_labels passive_side active_side t (suc (suc q)) x) (child_labels passive_side active_side t (suc (suc q)) y) p
        (λ k m. rw zero-add (each k (known_near p a q x y k view same m) (known_active t q (shift (suc q) x (suc k)) (shift (suc q) y (suc k)) (there k m) (known_near p a q x y k view same m) (omega arith))))
      where
        there : (k : ℕ) → k < p → IsView a p (suc q) (shift (suc q) x (suc k))
        there k m =
            let (c, at, child) = child_of p a (suc q) p x view k m in
            IsView-shift p a (suc q) x (suc k) c view (omega arith) (omega arith) at child

        each : (k : ℕ) → known q (shift (suc q) x (suc k)) ≡ known q (shift (suc q) y (suc k))
            → with_labels active_side passive_side t (suc q) (shift (suc q) x (suc k)) ≡ with_labels active_side passive_side t (suc q) (shift (suc q) y (suc k))
            → child_labels passive_side active_side t (suc (suc q)) x k ≡ child_labels passive_side active_side t (suc (suc q)) y k
        each k near beyond =
            let back : at_port (backs x) (suc k) ≡ at_port (backs y) (suc k) = same_back (suc q) x y (suc k) (omega arith) same in
            let seen : known S (shift (suc q) x (suc k)) ≡ known S (shift (suc q) y (suc k)) = same_known S q (shift (suc q) x (suc k)) (shift (suc q) y (suc k)) (omega arith) near in
            same_child back (ap (λ z. at_port (B z) (at_port (backs x) (suc k))) seen ∙ ap (at_port (B (known S (shift (suc q) y (suc k))))) back)
            (ap (λ b. others (pred b) (with_labels active_side passive_side t (suc q) (shift (suc q) x (suc k)))) back ∙ ap (others (pred (at_port (backs y) (suc k)))) beyond)

  -- ---- an algorithm of T rounds to which these labels are given
  module _ (problem : Problem) (is : IsInput problem input) (T : ℕ) (A : InputView → List ℕ) (solves : SolvesGivenBy problem input T A) where
    -- what it gives at a view of radius S + T + 2
    abbrev behind : InputView → List ℕ
    behind v = behind_labels input is_input_problem (suc S) puts Active Passive outputs problem is T A solves (suc (suc (S + T))) v

    behind_known : (v : InputView) → IsView a p (suc (suc (S + T))) v → behind v ≡ behind (known (suc (S + T)) v)
    behind_known v view =
        ap (λ x. A (known T x)) (known_active (suc T) (suc (S + T)) v (known (suc (S + T)) v) view (sym (known-known (suc (S + T)) (suc (S + T)) v (omega arith))) (omega arith))

    pub SolvesApart-composed : SolvesApart problem base id (suc (S + T)) behind
    SolvesApart-composed = record {
      active = λ v view fits apart.
          let here : IsView a p (suc (suc (S + T))) v = rw (is.active_degree, is.passive_degree) view in
          subst (Has problem.active) (behind_known v here)
          (active_behind input is_input_problem (suc S) puts Active Passive outputs problem is T A solves (suc (suc (S + T))) v (here, fits, apart) (omega arith));
      passive = λ v view fits apart.
          let here : IsView p a (suc (suc (suc (S + T)))) v = rw (is.active_degree, is.passive_degree) view in
          subst (Has problem.passive) (around_is v here)
          (passive_behind input is_input_problem (suc S) puts Active Passive outputs problem is T A solves (suc (suc (S + T))) v (here, fits, apart) (omega arith));
    }
      where
        around_is : (v : InputView) → IsView p a (suc (suc (suc (S + T)))) v
            → map (λ port. at_port (behind (shift (suc (suc (S + T))) v port)) (at_port (backs v) port)) (count_from 1 problem.passive.degree) ≡ around_known problem.passive.degree (suc (S + T)) behind v
        around_is v view =
            map-count (λ port. at_port (behind (shift (suc (suc (S + T))) v port)) (at_port (backs v) port))
            (λ port. at_port (behind (known (suc (S + T)) (shift (suc (suc (S + T))) v port))) (at_port (backs v) port)) 1 problem.passive.degree (λ k l. rw one-add (each k l))
          where
            each : (k : ℕ) → k < problem.passive.degree
                → at_port (behind (shift (suc (suc (S + T))) v (suc k))) (at_port (backs v) (suc k)) ≡ at_port (behind (known (suc (S + T)) (shift (suc (suc (S + T))) v (suc k)))) (at_port (backs v) (suc k))
            each k n =
                let m : k < p = rw is.passive_degree n in
                let (c, at, child) = child_of p a (suc (suc (S + T))) p v view k m in
                let there : IsView a p (suc (suc (S + T))) (shift (suc (suc (S + T))) v (suc k)) = IsView-shift p a (suc (suc (S + T))) v (suc k) c view (omega arith) (omega arith) at child in
                ap (λ xs. at_port xs (at_port (backs v) (suc k))) (behind_known (shift (suc (suc (S + T))) v (suc k)) there)

pub SolvableLocal-composed : (problem input : Problem) (N S T : ℕ) → IsInput problem input → SolvableLocal input N S → SolvableGiven problem input T → SolvableLocal problem N (S + T + 1)
SolvableLocal-composed problem input N S T is (B, solves_input) (table, solves) =
    let some : 1 ≤ input.active.degree = let l = is.is_problem.active.least in omega (arith, l) in
    let base : Problem = identified input.active.degree input.passive.degree N in
    let composed : SolvesApart problem base (λ x. x) (suc (S + T)) (behind base input (λ x. x) (alike input.active.degree input.passive.degree N some) is.is_problem S B solves_input problem is T (answer_known table) solves.solves) =
    SolvesApart-composed base input (λ x. x) (alike input.active.degree input.passive.degree N some) is.is_problem S B solves_input problem is T (answer_known table) solves.solves in
    let rounds : suc (S + T) ≡ S + T + 1 = omega arith in
    let local : SolvableLocal problem N (suc (S + T)) = (
      behind base input (λ x. x) (alike input.active.degree input.passive.degree N some) is.is_problem S B solves_input problem is T (answer_known table) solves.solves,
      subst (λ d. SolvesApart problem (identified problem.active.degree d N) (λ x. x) (suc (S + T)) (behind base input (λ x. x) (alike input.active.degree input.passive.degree N some) is.is_problem S B solves_input problem is T (answer_known table) solves.solves)) is.passive_degree
          (subst (λ d. SolvesApart problem (identified d input.passive.degree N) (λ x. x) (suc (S + T)) (behind base input (λ x. x) (alike input.active.degree input.passive.degree N some) is.is_problem S B solves_input problem is T (answer_known table) solves.solves)) is.active_degree composed),
    ) in
    subst (SolvableLocal problem N) rounds local
