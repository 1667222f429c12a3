-- The places from one of a prefix tree up to the root.
use Rattle.std.proofs.Common.{◌≡◌, ℕ, zero, suc, ◌<◌, ◌≤◌, ◌+◌, ◌-◌, List, ◌∷◌, length, get_or, refl, sym, ap, ◌∙◌, subst, arith}
use Rattle.re_labels.specs.declared.prefix_tree.Node.{Node}
use Rattle.re_labels.proofs.TreeLeaves.{leaf_key}
use Rattle.re_labels.specs.declared.prefix_tree.Kind.TheVariants.{Leaf}
use Rattle.re_labels.specs.PrefixTrees.{IsTree, held_configs, node_at, prefix}
use Rattle.re_labels.specs.TreeGrowth.{places_up}

pub length-places_up : (nodes : List Node) (at count : ℕ) → length (places_up nodes at count) ≡ count
length-places_up nodes at zero = refl
length-places_up nodes at (suc count) = ap suc (length-places_up nodes (node_at nodes at).parent count)

pub places_up-start : (nodes : List Node) (at count : ℕ) → 0 < count → get_or (places_up nodes at count) 0 0 ≡ at
places_up-start nodes at zero l = absurd (omega arith)
places_up-start nodes at (suc count) l = refl

-- behind each place comes its parent
pub places_up-next : (nodes : List Node) (at count k : ℕ) → suc k < count → get_or (places_up nodes at count) (suc k) 0 ≡ (node_at nodes (get_or (places_up nodes at count) k 0)).parent
places_up-next nodes at zero k l = absurd (omega arith)
places_up-next nodes at (suc zero) k l = absurd (omega arith)
places_up-next nodes at (suc (suc count)) zero l = refl
places_up-next nodes at (suc (suc count)) (suc k) l = places_up-next nodes (node_at nodes at).parent (suc count) k (omega arith)

module _ (degree : ℕ) (nodes : List Node) (configs : List (List ℕ)) (key : ℕ → List ℕ) (tree : IsTree degree nodes configs key) (config : List ℕ) where
  pub below_root : (at d : ℕ) → key at ≡ prefix config (suc d) → 0 < at
  below_root zero d on = absurd (let empty = tree.root in cc)
  below_root (suc at) d on = omega arith

  -- the parent of a place on the way of a configuration
  pub parent_on_way : (at d : ℕ) → at < length nodes → key at ≡ prefix config (suc d) → ((node_at nodes at).parent < length nodes) × (key (node_at nodes at).parent ≡ prefix config d)
  parent_on_way at d l on =
      let up = tree.parent at (below_root at d on) l in
      let above : key up.0 ≡ prefix config d = tails (sym up.2 ∙ on) in
      (subst (λ p. p < length nodes) (sym up.3) up.1, ap key up.3 ∙ above)
    where
      tails : {x y : ℕ} {xs ys : List ℕ} → x ∷ xs ≡ y ∷ ys → xs ≡ ys
      tails e = cc

  -- from a place on the way of a configuration they are the places of that way
  pub up_way : (at d count : ℕ) → at < length nodes → key at ≡ prefix config d → (j : ℕ) → j < count → j ≤ d
      → (get_or (places_up nodes at count) j 0 < length nodes) × (key (get_or (places_up nodes at count) j 0) ≡ prefix config (d - j))
  up_way at d zero l on j low deep = absurd (omega arith)
  up_way at d (suc count) l on zero low deep = let whole : d ≡ d - 0 = omega arith in (l, on ∙ ap (prefix config) whole)
  up_way at zero (suc count) l on (suc j) low deep = absurd (omega arith)
  up_way at (suc d) (suc count) l on (suc j) low deep =
      let up = parent_on_way at d l on in
      let rest = up_way (node_at nodes at).parent d count up.0 up.1 j (omega arith) (omega arith) in
      let left : d - j ≡ suc d - suc j = omega arith in
      (rest.0, rest.1 ∙ ap (prefix config) left)

  -- nodes with the same parents there have the same places
  pub up_same : (new : List Node) → ((q : ℕ) → q < length nodes → (node_at new q).parent ≡ (node_at nodes q).parent)
      → (at d : ℕ) → at < length nodes → key at ≡ prefix config d → places_up new at (suc d) ≡ places_up nodes at (suc d)
  up_same new same at zero l on = refl
  up_same new same at (suc d) l on =
      let up = parent_on_way at d l on in
      ap (λ p. at ∷ places_up new p (suc d)) (same at l) ∙ ap (λ w. at ∷ w) (up_same new same (node_at nodes at).parent d up.0 up.1)

-- up from a leaf they are on the way of its configuration
pub climbed : (nodes : List Node) (config last : List ℕ) (near labels depth : ℕ) → labels ≡ length config → near < length nodes → (node_at nodes near).kind ≡ Leaf last
    → (key : ℕ → List ℕ) → IsTree (length config) nodes (held_configs nodes) key → (j : ℕ) → j < labels - depth + 1
    → (get_or (places_up nodes near (labels - depth + 1)) j 0 < length nodes) × (key (get_or (places_up nodes near (labels - depth + 1)) j 0) ≡ prefix last (length config - j))
climbed nodes config last near labels depth whole within kind key tree j low =
    up_way (length config) nodes (held_configs nodes) key tree last near (length config) (labels - depth + 1) within
    (leaf_key (length config) nodes key tree near last within kind).1 j low (omega (arith, low, whole))
