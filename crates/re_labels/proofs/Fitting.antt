-- Configurations of a prefix tree whose labels are drawn from sets.
use Rattle.std.proofs.Common.{◌≡◌, ℕ, zero, suc, ◌<◌, ◌≤◌, ◌+◌, Bool, true, List, [], ◌∷◌, length, get_or, drop, refl, sym, ap, ◌∙◌, subst, arith, inl, inr}
use Rattle.std.proofs.Math.Seq.{drop-cons}
use Rattle.std.specs.List.{remove}
use Rattle.std.specs.Prelude.{Contains, IsTrue, ◌↔◌}
use Rattle.re_labels.proofs.ChoicesOfRows.{IsChoice-Rearranged}
use Rattle.re_labels.proofs.Sorting.{Rearranged-sorted, sorted-Rearranged, sorted_again}
use Rattle.re_labels.specs.Configs.{IsConfig, sorted}
use Rattle.re_labels.proofs.Placing.{Pick, here, picked, there, no_length}
use Rattle.re_labels.proofs.Rearranging.{AllZip-Rearranged, Rearranged-refl, Rearranged-sym, length-Rearranged}
use Rattle.re_labels.specs.Rearranging.{Rearranged, chained, kept, swapped, unmoved}
use Rattle.re_labels.specs.Rows.{IsChoice}
use Rattle.re_labels.proofs.Before.{three_ways}
use Rattle.re_labels.proofs.ListSets.{list_set-In}
use Rattle.re_labels.proofs.Membership.{AllByRecursion-contains, In-Contains}
use Rattle.re_labels.proofs.Tests.{same_tests}
use Rattle.re_labels.proofs.Goodness.{IsAllowed-is_allowed, is_allowed-IsAllowed}
use Rattle.re_labels.specs.Constraints.{Constraint, IsConstraint}
use Rattle.re_labels.specs.GoodRows.{IsAllowed, is_allowed}
use Rattle.re_labels.specs.Sets.{IsIn}
use Rattle.re_labels.proofs.TreeGrowth.{begins-own}
use Rattle.re_labels.proofs.TreeLeaves.{held_place, leaf-In, reached}
use Rattle.re_labels.proofs.TreeRanks.{begins-is, begins-more, begins-tail}
use Rattle.re_labels.proofs.TreeWalks.{links_higher}
use Rattle.re_labels.specs.declared.prefix_tree.Node.{Node}
use Rattle.re_labels.specs.Fitting.{Completes, CompletesFrom, Draws}
use Rattle.re_labels.specs.declared.prefix_tree.Kind.{Kind}
use Rattle.re_labels.specs.declared.prefix_tree.Kind.TheVariants.{Inner, Leaf}
use Rattle.re_labels.specs.PrefixTrees.{IsBelow, IsLink, IsTree, begins, held_configs, leaf_configs, node_at}

-- ---- drawing one label
taken : {X : Type 0} (d : X) {s : X} {xs ys : List X} → Pick s xs ys → (i : ℕ) × (i < length xs) × (get_or xs i d ≡ s) × (ys ≡ remove xs i)
taken d here = (0, omega arith, refl, refl)
taken d (there {y = y} k) = let r = taken d k in (suc r.0, omega (arith, r.1), r.2, ap (λ l. y ∷ l) r.3)

to_front : {X : Type 0} (d : X) (xs : List X) (i : ℕ) → i < length xs → Rearranged xs (get_or xs i d ∷ remove xs i)
to_front d [] i l = absurd (omega arith)
to_front d (x ∷ xs) zero l = Rearranged-refl (x ∷ xs)
to_front d (x ∷ xs) (suc i) l = chained (kept (to_front d xs i (omega arith))) swapped

pub Draws-more : (x : ℕ) (labels : List ℕ) (sets : List (List ℕ)) (i : ℕ) → i < length sets → IsIn x (get_or sets i []) → Draws labels (remove sets i) → Draws (x ∷ labels) sets
Draws-more x labels sets i l held rest = (get_or sets i [] ∷ rest.0, chained (to_front [] sets i l) (kept rest.1), (held, rest.2))

pub Draws-first : (x : ℕ) (labels : List ℕ) (sets : List (List ℕ)) → Draws (x ∷ labels) sets → (i : ℕ) × (i < length sets) × IsIn x (get_or sets i []) × Draws labels (remove sets i)
Draws-first x labels sets ([], moved, chosen) = absurd chosen
Draws-first x labels sets (s ∷ moved, order, chosen) =
    let p = picked (Rearranged-sym order) here in
    let t = taken [] p.1 in
    (t.0, t.1, subst (IsIn x) (sym t.2) chosen.0, (moved, subst (λ l. Rearranged l moved) t.3 (Rearranged-sym p.2), chosen.1))

module _ (degree : ℕ) (nodes : List Node) (key : ℕ → List ℕ) (tree : IsTree degree nodes (held_configs nodes) key) where
  -- nothing is left to draw at a leaf
  pub leaf-completes : (q : ℕ) → q < length nodes → length (key q) ≡ degree → Completes (held_configs nodes) (key q) []
  leaf-completes q l long = by_kind (node_at nodes q).kind refl (tree.below q l)
    where
      by_kind : (k : Kind) → (node_at nodes q).kind ≡ k → IsBelow degree nodes (held_configs nodes) key (key q) k → Completes (held_configs nodes) (key q) []
      by_kind (Inner first leaves) e below = absurd (let short = below.0 in omega arith)
      by_kind (Leaf config) e below = (
        config,
        In-Contains config (held_configs nodes) (list_set-In (leaf_configs nodes) config (leaf-In nodes q config l e)),
        subst (λ k. begins k config ≡ true) (sym below.1) (begins-own config degree),
        ([], unmoved, subst (λ labels. IsChoice labels []) (sym (drop_all (length (key q)) config (omega (arith, below.0)))) tt),
      )
        where
          drop_all : (n : ℕ) (xs : List ℕ) → length xs ≤ n → drop n xs ≡ []
          drop_all zero [] l = refl
          drop_all zero (x ∷ xs) l = absurd (omega arith)
          drop_all (suc n) [] l = refl
          drop_all (suc n) (x ∷ xs) l = drop_all n xs (omega arith)

  module _ (at : ℕ) (above : List ℕ) (on : key at ≡ (node_at nodes at).label ∷ above) (sets : List (List ℕ)) (depth : length above + length sets ≡ degree) (some_set : 0 < length sets) where
    next_label : (config : List ℕ) → Contains (held_configs nodes) config → drop (length above) config ≡ get_or config (length above) 0 ∷ drop (suc (length above)) config
    next_label config held = let long = (held_place degree nodes key tree config held).2 in drop-cons config (length above) 0 (omega arith)

    -- a completion below this child
    pub completes-here : (least i : ℕ) → least ≤ (node_at nodes at).label → i < length sets → IsIn (node_at nodes at).label (get_or sets i []) → Completes (held_configs nodes) (key at) (remove sets i) → CompletesFrom (held_configs nodes) above least sets
    completes-here least i low l held rest =
        let begun : begins ((node_at nodes at).label ∷ above) rest.0 ≡ true = subst (λ k. begins k rest.0 ≡ true) on rest.2 in
        let tail = begins-tail (node_at nodes at).label above rest.0 begun in
        let label = tail.1 in
        let draws : Draws (drop (suc (length above)) rest.0) (remove sets i) = subst (λ k. Draws (drop k rest.0) (remove sets i)) (ap length on) rest.3 in (
          rest.0,
          rest.1,
          tail.0,
          omega arith,
          subst (λ labels. Draws labels sets) (sym (next_label rest.0 rest.1))
              (Draws-more (get_or rest.0 (length above) 0) (drop (suc (length above)) rest.0) sets i l (subst (λ x. IsIn x (get_or sets i [])) label held) draws),
        )

    -- each completion is below this child or further on
    pub completes-further : (least : ℕ) → IsLink nodes key above least at
        → ((i : ℕ) → i < length sets → IsIn (node_at nodes at).label (get_or sets i []) → Completes (held_configs nodes) (key at) (remove sets i) → ⊥)
        → CompletesFrom (held_configs nodes) above least sets → CompletesFrom (held_configs nodes) above ((node_at nodes at).label + 1) sets
    completes-further least link none (config, held, begun, low, draws) =
        let there = reached degree nodes key tree config held (suc (length above)) (omega arith) in
        let below : key there.0 ≡ get_or config (length above) 0 ∷ above = there.2 ∙ ap (λ k. get_or config (length above) 0 ∷ k) (sym (begins-is above config begun)) in
        let near = link.nearest there.0 (get_or config (length above) 0) there.1 below low in
        let least_label = near.1 in
        elim (three_ways (node_at nodes at).label (get_or config (length above) 0)) [
          | inl less ↦ (config, held, begun, omega arith, draws)
          | inr (inl same) ↦ absurd (
              let first = Draws-first (get_or config (length above) 0) (drop (suc (length above)) config) sets (subst (λ labels. Draws labels sets) (next_label config held) draws) in
              none first.0 first.1 (subst (λ x. IsIn x (get_or sets first.0 [])) (sym same) first.2) (
                config,
                held,
                subst (λ k. begins k config ≡ true) (sym on) (begins-more (node_at nodes at).label above config begun same),
                subst (λ k. Draws (drop k config) (remove sets first.0)) (sym (ap length on)) first.3,
              ))
          | inr (inr more) ↦ absurd (omega arith)
        ]

  -- where there is no further child, nothing goes on
  pub completes-nowhere : (above : List ℕ) (least : ℕ) (sets : List (List ℕ)) → length above + length sets ≡ degree → 0 < length sets → IsLink nodes key above least 0 → CompletesFrom (held_configs nodes) above least sets → ⊥
  completes-nowhere above least sets depth some link (config, held, begun, low, draws) =
      let there = reached degree nodes key tree config held (suc (length above)) (omega arith) in
      let below : key there.0 ≡ get_or config (length above) 0 ∷ above = there.2 ∙ ap (λ k. get_or config (length above) 0 ∷ k) (sym (begins-is above config begun)) in
      let near = (link.nearest there.0 (get_or config (length above) 0) there.1 below low).0 in
      omega arith

pub length-one_taken : {X : Type 0} (d : X) (xs : List X) (i : ℕ) → i < length xs → length xs ≡ suc (length (remove xs i))
length-one_taken d xs i l = length-Rearranged (to_front d xs i l)

-- ---- one child
module _ (degree : ℕ) (nodes : List Node) (key : ℕ → List ℕ) (above : List ℕ) (least at : ℕ) (sets : List (List ℕ)) (tree : IsTree degree nodes (held_configs nodes) key) (depth : length above + length sets ≡ degree) (some_set : 0 < length sets)
    (link : IsLink nodes key above least at) (some : 0 < at) where
  on : key at ≡ (node_at nodes at).label ∷ above
  on = (link.child some).1

  pub depth-below : (i : ℕ) → i < length sets → length (key at) + length (remove sets i) ≡ degree
  depth-below i l = let e = ap length on in let f = length-one_taken [] sets i l in omega arith

  pub short-below : (i : ℕ) → i < length sets → 0 < length (remove sets i) → length (key at) < degree
  short-below i l more = let e = ap length on in let f = length-one_taken [] sets i l in omega arith

  -- the last set is drawn from at a leaf
  pub last-drawn : (i : ℕ) → i < length sets → IsIn (node_at nodes at).label (get_or sets i []) → length (remove sets i) ≡ 0 → CompletesFrom (held_configs nodes) above least sets
  last-drawn i l held empty =
      let long : length (key at) ≡ degree = (let d = depth-below i l in omega arith) in
      completes-here degree nodes key tree at above on sets depth some_set least i (link.child some).0 l held
      (subst (Completes (held_configs nodes) (key at)) (sym (no_length (remove sets i) empty)) (leaf-completes degree nodes key tree at link.within long))

  pub more-drawn : (i : ℕ) → i < length sets → IsIn (node_at nodes at).label (get_or sets i []) → CompletesFrom (held_configs nodes) (key at) 0 (remove sets i) → CompletesFrom (held_configs nodes) above least sets
  more-drawn i l held rest =
      completes-here degree nodes key tree at above on sets depth some_set least i (link.child some).0 l held (rest.0, rest.1, rest.2, rest.4)

  pub all-drawn : (i : ℕ) → Completes (held_configs nodes) (key at) (remove sets i) → CompletesFrom (held_configs nodes) (key at) 0 (remove sets i)
  all-drawn i rest = (rest.0, rest.1, rest.2, omega arith, rest.3)

  pub further : ((i : ℕ) → i < length sets → IsIn (node_at nodes at).label (get_or sets i []) → Completes (held_configs nodes) (key at) (remove sets i) → ⊥)
      → CompletesFrom (held_configs nodes) above least sets → CompletesFrom (held_configs nodes) above ((node_at nodes at).label + 1) sets
  further none = completes-further degree nodes key tree at above on sets depth some_set least link none

  pub nearer : CompletesFrom (held_configs nodes) above ((node_at nodes at).label + 1) sets → CompletesFrom (held_configs nodes) above least sets
  nearer found = let low = (link.child some).0 in let high = found.3 in (found.0, found.1, found.2, omega arith, found.4)

  pub sibling-link : IsLink nodes key above ((node_at nodes at).label + 1) (node_at nodes at).next
  sibling-link = tree.sibling at above link.within on

  pub next-higher : 0 < (node_at nodes at).next → (node_at nodes at).label < (node_at nodes (node_at nodes at).next).label
  next-higher more = links_higher degree nodes (held_configs nodes) key above at tree link.within on more

-- ---- allowed rows
module _ (constraint : Constraint) (n : ℕ) (is : IsConstraint n constraint) (row : List (List ℕ)) where
  to_allowed : Completes constraint.configs [] row → IsAllowed constraint row
  to_allowed (config, held, begun, (moved, order, chosen)) =
      let r = IsChoice-Rearranged config (Rearranged-sym order) chosen in
      let ascends = (AllByRecursion-contains (IsConfig constraint.degree n) constraint.configs config is.configs held).ascends in
      (r.0, r.2, subst (Contains constraint.configs) (sym (sorted_again config ascends) ∙ sorted-Rearranged r.1) held)

  from_allowed : IsAllowed constraint row → Completes constraint.configs [] row
  from_allowed (labels, chosen, held) =
      let r = AllZip-Rearranged IsIn (Rearranged-sorted labels) row chosen in
      (sorted labels, held, refl, (r.0, r.1, r.2))

  pub allowed-completes : (r : Bool) → IsTrue r ↔ Completes constraint.configs [] row → r ≡ is_allowed constraint row
  allowed-completes r on = same_tests r (is_allowed constraint row) (λ h. IsAllowed-is_allowed constraint row (to_allowed (on.0 h))) (λ h. on.1 (from_allowed (is_allowed-IsAllowed constraint row h)))
