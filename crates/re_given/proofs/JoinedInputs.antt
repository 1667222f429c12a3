-- Neighbours of one passive node, joined into a view of it.
use Rattle.std.proofs.Common.{◌≡◌, ℕ, zero, suc, pred, ◌≤◌, ◌<◌, Some, List, [], ◌∷◌, ◌++◌, map, length, get_or, subst, refl, sym, ◌∙◌, ap, arith, one-add}
use Rattle.std.specs.Prelude.{unwrap_or}
use Rattle.std.proofs.lemmas.List.{get_or_default}
use Rattle.std.proofs.lemmas.List.Elements.{same_from_all_zip}
use Rattle.re_labels.proofs.Rearranging.{Rearranged-sym}
use Rattle.re_given.proofs.Fitting.{FitsAround-others, Rearranged-front}
use Rattle.re_given.proofs.KnownViews.{HasCount, HasCount-known, child_at-known, known_child, known-cut, known-put, others-known, same_children}
use Rattle.re_given.specs.Given.{around_known}
use Rattle.re_given.specs.InputViews.{Fits, FitsAround, InputView, known, payloads}
use Rattle.re_laws.proofs.Ports.{AllZip-count}
use Rattle.re_laws.specs.Algorithms.{at_port}
use Rattle.re_labels.proofs.Goodness.{Has-Rearranged}
use Rattle.re_labels.specs.Constraints.{Constraint, Has}
use Rattle.re_laws.proofs.JoinedBranches.{backs-child}
use Rattle.re_laws.proofs.ViewLaws.{HasRoom, HasRoom-tree, IsChild, IsTree-others, child_at-put, child_of, others-put, put-others, shift-at}
use Rattle.re_laws.specs.Trees.{Child, IsTree, IsView, backs, child_at, cut, end, leaf, more, others, put, shift}

-- a neighbour: its view, its port of the edge, and its child at that port
pub record Neighbour : Type 0 where
  pub view : InputView
  pub port : ℕ
  pub child : Child ℕ

abbrev pub no_neighbour : Neighbour
no_neighbour = record { view = leaf; port = 0; child = record { back = 0; payload = 0; branch = leaf } }

-- the input label of the edge to it
abbrev pub label_of : Neighbour → ℕ
label_of here = here.child.payload

-- as a child of the node
abbrev pub as_child : Neighbour → Child ℕ
as_child here = record { back = here.port; payload = here.child.payload; branch = others (pred here.port) here.view }

-- the node's view
abbrev pub joined : List Neighbour → InputView
joined [] = end
joined (here ∷ near) = more here.port here.child.payload (others (pred here.port) here.view) (joined near)

-- a view of radius r + 1 that fits, with this child at this port
pub record IsNeighbour (d e r : ℕ) (own other : Constraint) (here : Neighbour) : Type 0 where
  pub is_view : IsView d e (suc r) here.view
  pub fits : Fits own other here.view
  pub least : 1 ≤ here.port
  pub most : here.port ≤ d
  pub at : child_at (pred here.port) here.view ≡ Some here.child

pub child_at-joined : (near : List Neighbour) (k : ℕ) → k < length near → child_at k (joined near) ≡ Some (as_child (get_or near k no_neighbour))
child_at-joined [] k l = absurd (omega arith)
child_at-joined (here ∷ near) zero l = refl
child_at-joined (here ∷ near) (suc k) l = child_at-joined near k (omega arith)

pub HasCount-joined : (near : List Neighbour) (n : ℕ) → length near ≡ n → HasCount n (joined near)
HasCount-joined [] zero count = tt
HasCount-joined [] (suc n) count = absurd (cc)
HasCount-joined (here ∷ near) zero count = absurd (cc)
HasCount-joined (here ∷ near) (suc n) count = HasCount-joined near n (omega arith)

pub payloads-joined : (near : List Neighbour) → payloads (joined near) ≡ map label_of near
payloads-joined [] = refl
payloads-joined (here ∷ near) = ap (◌∷◌ here.child.payload) (payloads-joined near)

others-tree : (d e r : ℕ) (own other : Constraint) (here : Neighbour) → IsNeighbour d e r own other here → IsTree d e (suc r) (pred d) (others (pred here.port) here.view)
others-tree zero e r own other here is = let l = is.least in let m = is.most in absurd (omega arith)
others-tree (suc d) e r own other here is = IsTree-others (suc d) e r d (pred here.port) here.view is.is_view (let l = is.least in let m = is.most in omega arith)

pub IsTree-joined : (d e r n : ℕ) (own other : Constraint) (near : List Neighbour) → length near ≡ n → ((k : ℕ) → k < n → IsNeighbour d e r own other (get_or near k no_neighbour)) → IsTree e d (suc (suc r)) n (joined near)
IsTree-joined d e r zero own other [] count each = tt
IsTree-joined d e r zero own other (here ∷ near) count each = absurd (cc)
IsTree-joined d e r (suc n) own other [] count each = absurd (cc)
IsTree-joined d e r (suc n) own other (here ∷ near) count each =
    let first : IsNeighbour d e r own other here = each zero (omega arith) in
    (first.least, first.most, others-tree d e r own other here first, IsTree-joined d e r n own other near (omega arith) (λ k l. each (suc k) (omega arith)))

pub FitsAround-joined : (d e r n : ℕ) (own other : Constraint) (seen : List ℕ) (near : List Neighbour) → length near ≡ n → ((k : ℕ) → k < n → IsNeighbour d e r own other (get_or near k no_neighbour)) → Has other (map label_of near ++ seen) → FitsAround other own seen (joined near)
FitsAround-joined d e r zero own other seen [] count each has = has
FitsAround-joined d e r zero own other seen (here ∷ near) count each has = absurd (cc)
FitsAround-joined d e r (suc n) own other seen [] count each has = absurd (cc)
FitsAround-joined d e r (suc n) own other seen (here ∷ near) count each has =
    let first : IsNeighbour d e r own other here = each zero (omega arith) in (
      (FitsAround-others own other [] (pred here.port) here.child here.view first.at first.fits).1,
      FitsAround-joined d e r n own other (here.child.payload ∷ seen) near (omega arith) (λ k l. each (suc k) (omega arith)) (Has-Rearranged other (Rearranged-sym (Rearranged-front (map label_of near) here.child.payload seen)) has),
    )

HasRoom-known : (T k : ℕ) (x : InputView) → HasRoom k x → HasRoom k (known T x)
HasRoom-known T zero x h = tt
HasRoom-known T (suc k) leaf h = absurd h
HasRoom-known T (suc k) end h = absurd h
HasRoom-known zero (suc k) (more back label branch rest) h = HasRoom-known zero k rest h
HasRoom-known (suc T) (suc k) (more back label branch rest) h = HasRoom-known (suc T) k rest h

module _ (d e r : ℕ) (own other : Constraint) (near : List Neighbour) (count : length near ≡ e) (each : (k : ℕ) → k < e → IsNeighbour d e r own other (get_or near k no_neighbour)) where
  -- what the neighbour over port k + 1 knows after r rounds, where it knows the child over the edge
  pub known-neighbour : (k : ℕ) → k < e
      → known_child r (record { back = suc k; payload = label_of (get_or near k no_neighbour); branch = cut r (others k (joined near)) }) ≡ known_child r (get_or near k no_neighbour).child
      → known r (shift (suc r) (joined near) (suc k)) ≡ known r (get_or near k no_neighbour).view
  known-neighbour k l same =
      let here : Neighbour = get_or near k no_neighbour in
      let turned : Child ℕ = record { back = suc k; payload = label_of here; branch = cut r (others k (joined near)) } in
      let seen : shift (suc r) (joined near) (suc k) ≡ put (pred here.port) turned (others (pred here.port) here.view) = shift-at (suc r) (joined near) (suc k) (as_child here) (child_at-joined near k (omega (arith, count))) in
      let back : put (pred here.port) here.child (others (pred here.port) here.view) ≡ here.view = put-others (pred here.port) here.child here.view (each k l).at in
      let one : known r (put (pred here.port) turned (others (pred here.port) here.view)) ≡ put (pred here.port) (known_child r turned) (known r (others (pred here.port) here.view)) = known-put r (pred here.port) turned (others (pred here.port) here.view) in
      let two : known r (put (pred here.port) here.child (others (pred here.port) here.view)) ≡ put (pred here.port) (known_child r here.child) (known r (others (pred here.port) here.view)) = known-put r (pred here.port) here.child (others (pred here.port) here.view) in
      ap (known r) seen ∙ (one ∙ (ap (λ c. put (pred here.port) c (known r (others (pred here.port) here.view))) same ∙ (sym two ∙ ap (known r) back)))

  -- where each neighbour puts a label on its edge, these labels stand around the node
  pub around-joined : (f : InputView → List ℕ) (labels : List ℕ) → length labels ≡ e
      → ((k : ℕ) → k < e → (known r (shift (suc r) (joined near) (suc k)) ≡ known r (get_or near k no_neighbour).view) × (at_port (f (known r (get_or near k no_neighbour).view)) (get_or near k no_neighbour).port ≡ get_or labels k 0))
      → around_known e r f (joined near) ≡ labels
  around-joined f labels labels_count puts =
      sym (same_from_all_zip (λ (x y : ℕ). x ≡ y) (around_known e r f (joined near)) labels
      (AllZip-count (λ (x y : ℕ). x ≡ y) (λ port. at_port (f (known r (shift (suc r) (joined near) port))) (at_port (backs (joined near)) port)) 1 e labels labels_count (λ k m l. rw one-add (at k m l))) (λ x y e. sym e))
    where
      at : (k m : ℕ) → k < e → at_port (f (known r (shift (suc r) (joined near) (suc k)))) (at_port (backs (joined near)) (suc k)) ≡ get_or labels k m
      at k m l =
          let port : at_port (backs (joined near)) (suc k) ≡ (get_or near k no_neighbour).port = backs-child k (as_child (get_or near k no_neighbour)) (joined near) (child_at-joined near k (omega (arith, count))) in
          let default : get_or labels k 0 ≡ get_or labels k m = get_or_default labels k 0 m (omega (arith, labels_count)) in
          rw ((puts k l).0, port) ((puts k l).1 ∙ default)

-- neighbours that look back at one node: they all see the same of it, which is what the joined view shows
module _ (d e T : ℕ) (own other : Constraint) (near : List Neighbour) (count : length near ≡ e) (each : (k : ℕ) → k < e → IsNeighbour d e (suc T) own other (get_or near k no_neighbour))
    (w : InputView) (w_is : HasCount e w)
    (back : (k : ℕ) → k < e → (get_or near k no_neighbour).child.back ≡ suc k)
    (over : (k : ℕ) → k < e → known T (shift (suc T) (get_or near k no_neighbour).view (get_or near k no_neighbour).port) ≡ known T w) where
  -- the child of the node's view at a place, turned to the neighbour there
  abbrev behind : ℕ → Child ℕ
  behind k = let here = get_or near k no_neighbour in record { back = here.port; payload = here.child.payload; branch = cut T (others (pred here.port) here.view) }

  room : (k : ℕ) → k < e → HasRoom (pred (get_or near k no_neighbour).child.back) (get_or near k no_neighbour).child.branch
  room k l =
      let here : Neighbour = get_or near k no_neighbour in
      let (c, at, child) = child_of d e (suc T) d here.view (each k l).is_view (pred here.port) (let a = (each k l).least in let b = (each k l).most in omega arith) in
      let same : c ≡ here.child = ap (λ found. unwrap_or found c) (sym at ∙ (each k l).at) in
      let is : IsChild e d (suc T) here.child = subst (IsChild e d (suc T)) same child in
      HasRoom-tree e d T (pred e) here.child.branch is.branch (pred here.child.back) (let a = is.least in let b = is.most in omega arith)

  seen_is : (k : ℕ) → k < e → known T w ≡ put k (known_child T (behind k)) (known T (get_or near k no_neighbour).child.branch)
  seen_is k l =
      let here : Neighbour = get_or near k no_neighbour in
      let turned : shift (suc T) here.view here.port ≡ put (pred here.child.back) (behind k) here.child.branch = shift-at (suc T) here.view here.port here.child (each k l).at in
      let place : pred here.child.back ≡ k = ap pred (back k l) in
      sym (over k l) ∙ (ap (known T) turned ∙ (known-put T (pred here.child.back) (behind k) here.child.branch ∙ ap (λ j. put j (known_child T (behind k)) (known T here.child.branch)) place))

  room_known : (k : ℕ) → k < e → HasRoom k (known T (get_or near k no_neighbour).child.branch)
  room_known k l = HasRoom-known T k (get_or near k no_neighbour).child.branch (subst (λ j. HasRoom j (get_or near k no_neighbour).child.branch) (ap pred (back k l)) (room k l))

  -- the node knows the same in both views
  pub known-joined : known T (joined near) ≡ known T w
  known-joined = same_children e (known T (joined near)) (known T w) (HasCount-known T e (joined near) (HasCount-joined near e count)) (HasCount-known T e w w_is) place
    where
      cut_child : (T k : ℕ) → known_child T (as_child (get_or near k no_neighbour)) ≡ known_child T (record { back = (get_or near k no_neighbour).port; payload = (get_or near k no_neighbour).child.payload; branch = cut T (others (pred (get_or near k no_neighbour).port) (get_or near k no_neighbour).view) })
      cut_child zero k = refl
      cut_child (suc T) k =
          let here : Neighbour = get_or near k no_neighbour in
          ap (λ branch. record { back = here.port; payload = here.child.payload; branch = branch }) (sym (known-cut T (suc T) (others (pred here.port) here.view) (omega arith)))

      place : (k : ℕ) → k < e → (c : Child ℕ) × (child_at k (known T (joined near)) ≡ Some c) × (child_at k (known T w) ≡ Some c)
      place k l = (
        known_child T (as_child (get_or near k no_neighbour)),
        child_at-known T k (as_child (get_or near k no_neighbour)) (joined near) (child_at-joined near k (omega (arith, count))),
        ap (child_at k) (seen_is k l) ∙ (child_at-put k (known_child T (behind k)) (known T (get_or near k no_neighbour).child.branch) (room_known k l) ∙ ap Some (sym (cut_child T k))),
      )

  -- each neighbour knows the same of the node behind its edge
  pub same_behind : (k : ℕ) → k < e → known_child (suc T) (record { back = suc k; payload = label_of (get_or near k no_neighbour); branch = cut (suc T) (others k (joined near)) }) ≡ known_child (suc T) (get_or near k no_neighbour).child
  same_behind k l =
      let here : Neighbour = get_or near k no_neighbour in
      let beyond : others k (known T w) ≡ known T here.child.branch = ap (others k) (seen_is k l) ∙ others-put k (known_child T (behind k)) (known T here.child.branch) (room_known k l) in
      let branch_is : known T (cut (suc T) (others k (joined near))) ≡ known T here.child.branch =
      known-cut T (suc T) (others k (joined near)) (omega arith) ∙ (sym (others-known T k (joined near)) ∙ (ap (others k) known-joined ∙ beyond)) in
      let back_is : suc k ≡ here.child.back = sym (back k l) in
      rw (branch_is, ← back_is) refl
