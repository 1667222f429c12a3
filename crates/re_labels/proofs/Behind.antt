-- The gap behind a leaf.
use Rattle.std.proofs.Common.{◌≡◌, ℕ, suc, ◌<◌, List, length, get_or, refl, sym, ap, ◌∙◌, arith}
use Rattle.re_labels.proofs.PlacesUp.{below_root, parent_on_way}
use Rattle.re_labels.proofs.TreeLeaves.{gap-found, leaf_key}
use Rattle.re_labels.proofs.TreeWalks.{walk_end, walk_near}
use Rattle.re_labels.specs.declared.prefix_tree.Kind.TheVariants.{Leaf}
use Rattle.re_labels.specs.declared.prefix_tree.Node.{Node}
use Rattle.re_labels.specs.PrefixTrees.{IsPrefixTree, IsTree, held_configs, node_at, prefix}
use Rattle.re_labels.specs.TreeGrowth.{IsFound}

-- a configuration with another last label, which is higher, comes behind a leaf without a sibling
pub found_behind : (nodes : List Node) (config other : List ℕ) (near last : ℕ) → IsPrefixTree (length config) nodes → near < length nodes → (node_at nodes near).kind ≡ Leaf other → suc last ≡ length config
    → prefix config last ≡ prefix other last → (node_at nodes near).label < get_or config last 0 → (node_at nodes near).next ≡ 0 → IsFound nodes config last (node_at nodes near).parent near 0
found_behind nodes config other near last whole within kind long same low alone = record {
  inside = omega (arith, long);
  parent_within = (above whole.0 whole.1).0;
  before_within = within;
  after_within = omega (arith, within);
  gap = λ key tree.
      let up = above key tree in
      gap-found nodes config key last (node_at nodes near).parent (get_or config last 0) near 0 refl up.0 (up.1 ∙ sym same)
      (walk_end (length config) nodes (held_configs nodes) key tree (key (node_at nodes near).parent) (get_or config last 0) near 0
      (walk_near (length config) nodes (held_configs nodes) key tree near (node_at nodes near).parent (get_or config last 0) 0 within (below_root (length config) nodes (held_configs nodes) key tree other near last (on key tree)) refl low (sym alone))
      (λ some. absurd (omega (arith, some))));
}
  where
    on : (key : ℕ → List ℕ) → IsTree (length config) nodes (held_configs nodes) key → key near ≡ prefix other (suc last)
    on key tree = (leaf_key (length config) nodes key tree near other within kind).1 ∙ ap (prefix other) (sym long)

    above : (key : ℕ → List ℕ) → IsTree (length config) nodes (held_configs nodes) key → ((node_at nodes near).parent < length nodes) × (key (node_at nodes near).parent ≡ prefix other last)
    above key tree = parent_on_way (length config) nodes (held_configs nodes) key tree other near last within (on key tree)
