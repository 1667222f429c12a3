-- The leaves of a prefix tree and its configurations.
use Rattle.std.proofs.Common.{◌≡◌, ℕ, zero, suc, ◌<◌, ◌≤◌, List, [], ◌∷◌, length, get_or, refl, sym, ap, ◌∙◌, subst, arith, inl, inr, ◌⊎◌}
use Rattle.std.proofs.lemmas.List.{ext_get_or}
use Rattle.std.specs.Prelude.{Contains}
use Rattle.re_labels.proofs.Before.{three_ways}
use Rattle.re_labels.proofs.ListSets.{In-list_set, list_set-In}
use Rattle.re_labels.proofs.Membership.{Contains-In, In, In-Contains, In-append_cases, In-append_left, In-append_right}
use Rattle.re_labels.proofs.TreeGrowth.{length-prefix}
use Rattle.re_labels.specs.declared.prefix_tree.Kind.{Kind}
use Rattle.re_labels.specs.declared.prefix_tree.Kind.TheVariants.{Inner, Leaf}
use Rattle.re_labels.specs.declared.prefix_tree.Node.{Node}
use Rattle.re_labels.specs.PrefixTrees.{IsBelow, IsInnerPlace, IsPrefixTree, IsTree, configs_of, held_configs, leaf_configs, node_at, prefix}
use Rattle.re_labels.specs.TreeGrowth.{IsGap}
use Rattle.re_labels.specs.TreeWalks.{IsMissing}

-- a configuration is known by all its labels
pub prefix_whole : (config other : List ℕ) (d : ℕ) → length config ≡ d → length other ≡ d → prefix config d ≡ prefix other d → config ≡ other
prefix_whole config other d e f same = ext_get_or 0 config other (e ∙ sym f) (λ i l. label_at d i (omega arith) same)
  where
    label_at : (d i : ℕ) → i < d → prefix config d ≡ prefix other d → get_or config i 0 ≡ get_or other i 0
    label_at zero i l same = absurd (omega arith)
    label_at (suc d) i l same = elim (three_ways i d) [
      | inl less ↦ label_at d i less cc
      | inr (inl equal) ↦ let here : get_or config d 0 ≡ get_or other d 0 = cc in ap (λ j. get_or config j 0) equal ∙ here ∙ ap (λ j. get_or other j 0) (sym equal)
      | inr (inr more) ↦ absurd (omega arith)
    ]

-- ---- leaves in the vector
pub leaf-In : (nodes : List Node) (q : ℕ) (config : List ℕ) → q < length nodes → (node_at nodes q).kind ≡ Leaf config → In config (leaf_configs nodes)
leaf-In [] q config l e = absurd (omega arith)
leaf-In (node ∷ nodes) zero config l e = In-append_left config (configs_of node.kind) (leaf_configs nodes) (subst (λ k. In config (configs_of k)) (sym e) (inl refl))
leaf-In (node ∷ nodes) (suc q) config l e = In-append_right config (configs_of node.kind) (leaf_configs nodes) (leaf-In nodes q config (omega arith) e)

pub In-leaf : (nodes : List Node) (config : List ℕ) → In config (leaf_configs nodes) → (q : ℕ) × (q < length nodes) × ((node_at nodes q).kind ≡ Leaf config)
In-leaf [] config i = absurd i
In-leaf (node ∷ nodes) config i = by_case (In-append_cases config (configs_of node.kind) (leaf_configs nodes) i) (In-leaf nodes config)
  where
    here : (k : Kind) → In config (configs_of k) → k ≡ Leaf config
    here (Inner first leaves) i = absurd i
    here (Leaf held) (inl e) = ap Leaf (sym e)
    here (Leaf held) (inr i) = absurd i

    by_case : In config (configs_of node.kind) ⊎ In config (leaf_configs nodes) → (In config (leaf_configs nodes) → (q : ℕ) × (q < length nodes) × ((node_at nodes q).kind ≡ Leaf config))
        → (q : ℕ) × (q < suc (length nodes)) × ((node_at (node ∷ nodes) q).kind ≡ Leaf config)
    by_case (inl i) rest = (zero, omega arith, here node.kind i)
    by_case (inr i) rest = let r = rest i in (suc r.0, omega (arith, r.1), r.2)

module _ (degree : ℕ) (nodes : List Node) (key : ℕ → List ℕ) (tree : IsTree degree nodes (held_configs nodes) key) where
  -- all labels of a configuration lead to it
  pub leaf_there : (q : ℕ) (config : List ℕ) → q < length nodes → length config ≡ degree → key q ≡ prefix config degree → (node_at nodes q).kind ≡ Leaf config
  leaf_there q config l fits e = by_kind (node_at nodes q).kind (tree.below q l)
    where
      by_kind : (k : Kind) → IsBelow degree nodes (held_configs nodes) key (key q) k → k ≡ Leaf config
      by_kind (Inner first leaves) below = absurd (let short = below.0 in let long : length (key q) ≡ degree = ap length e ∙ length-prefix config degree in omega arith)
      by_kind (Leaf held) below = ap Leaf (prefix_whole held config degree below.0 fits (sym below.1 ∙ e))

  pub held_there : (q : ℕ) (config : List ℕ) → q < length nodes → length config ≡ degree → key q ≡ prefix config degree → Contains (held_configs nodes) config
  held_there q config l fits e = In-Contains config (held_configs nodes) (list_set-In (leaf_configs nodes) config (leaf-In nodes q config l (leaf_there q config l fits e)))

  -- what a leaf says of its configuration
  pub leaf_key : (q : ℕ) (config : List ℕ) → q < length nodes → (node_at nodes q).kind ≡ Leaf config → (length config ≡ degree) × (key q ≡ prefix config degree)
  leaf_key q config l e = subst (IsBelow degree nodes (held_configs nodes) key (key q)) e (tree.below q l)

  -- each configuration has its degree, and all parts of its way are there
  pub held_place : (config : List ℕ) → Contains (held_configs nodes) config → (q : ℕ) × (q < length nodes) × (length config ≡ degree) × (key q ≡ prefix config degree)
  held_place config held =
      let leaf = In-leaf nodes config (In-list_set (leaf_configs nodes) config (Contains-In config (held_configs nodes) held)) in
      let below : IsBelow degree nodes (held_configs nodes) key (key leaf.0) (Leaf config) = subst (IsBelow degree nodes (held_configs nodes) key (key leaf.0)) leaf.2 (tree.below leaf.0 leaf.1) in
      (leaf.0, leaf.1, below.0, below.1)

  pub reached : (config : List ℕ) → Contains (held_configs nodes) config → (d : ℕ) → d ≤ degree → (q : ℕ) × (q < length nodes) × (key q ≡ prefix config d)
  reached config held d l = let leaf = held_place config held in above degree leaf.0 leaf.1 leaf.3 l
    where
      above : (e q : ℕ) → q < length nodes → key q ≡ prefix config e → d ≤ e → (p : ℕ) × (p < length nodes) × (key p ≡ prefix config d)
      above zero q l e low = let none : d ≡ 0 = omega arith in (q, l, e ∙ ap (prefix config) (sym none))
      above (suc e) q l on low = elim (three_ways d (suc e)) [
        | inl less ↦
            let some : 0 < q = above_root q on in
            let up = tree.parent q some l in
            let on_up : key up.0 ≡ prefix config e = cc in
            above e up.0 up.1 on_up (omega arith)
        | inr (inl same) ↦ (q, l, on ∙ ap (prefix config) (sym same))
        | inr (inr more) ↦ absurd (omega arith)
      ]
        where
          above_root : (q : ℕ) → key q ≡ prefix config (suc e) → 0 < q
          above_root zero on = absurd (let empty = tree.root in cc)
          above_root (suc q) on = omega arith

  -- a configuration whose way leaves the tree isn't held
  pub gap-new : (config : List ℕ) (depth parent before after : ℕ) → depth < degree → IsGap nodes key config depth parent before after → Contains (held_configs nodes) config → ⊥
  gap-new config depth parent before after inside gap held = let place = reached config held (suc depth) (omega arith) in gap.missing place.0 place.1 place.2

-- ---- going down
pub inner-place : (nodes : List Node) (config : List ℕ) (place depth : ℕ) → IsPrefixTree (length config) nodes → place < length nodes → depth < length config
    → ((key : ℕ → List ℕ) → IsTree (length config) nodes (held_configs nodes) key → key place ≡ prefix config depth) → IsInnerPlace nodes place
inner-place nodes config place depth tree within short on =
    (length config, tree.0, tree.1, within, subst (λ i. i < length config) (sym (ap length (on tree.0 tree.1) ∙ length-prefix config depth)) short)

pub short-key : (nodes : List Node) (config : List ℕ) (place depth : ℕ) (key : ℕ → List ℕ) → depth < length config → key place ≡ prefix config depth → length (key place) < length config
short-key nodes config place depth key short on = subst (λ i. i < length config) (sym (ap length on ∙ length-prefix config depth)) short

pub gap-found : (nodes : List Node) (config : List ℕ) (key : ℕ → List ℕ) (depth parent wanted before after : ℕ) → wanted ≡ get_or config depth 0 → parent < length nodes → key parent ≡ prefix config depth
    → IsMissing nodes key (key parent) wanted before after → IsGap nodes key config depth parent before after
gap-found nodes config key depth parent wanted before after label within on missing =
    let is : IsMissing nodes key (prefix config depth) (get_or config depth 0) before after =
    subst (λ w. IsMissing nodes key (prefix config depth) w before after) label (subst (λ a. IsMissing nodes key a wanted before after) on missing) in
    record { within = within; on_way = on; missing = is.missing; first = is.first; behind = is.behind; last = is.last; rest = is.rest }
