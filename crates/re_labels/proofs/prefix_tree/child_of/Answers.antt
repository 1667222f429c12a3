use Rattle.std.proofs.Common.{◌≡◌, ◌<◌, ◌-◌, ◌∷◌, ◌∙◌, ℕ, List, cond, eqb, length, ap, sym, subst, arith, slice_index_or}
use Rattle.re_labels.proofs.TreeWalks.{child_there, falls, links_higher, read-there, walk_at, walk_end, walk_step, walk_within}
use Rattle.re_labels.specs.PrefixTrees.{IsTree, held_configs, node_at}
use Rattle.re_labels.specs.declared.prefix_tree.Node.{Node}
use Rattle.re_labels.specs.TreeWalks.{IsWalked}
use Rattle.re_labels.proofs.prefix_tree.child_of.Goals as goal

pub returns-then-is_child : goal.returns-then-is_child
returns-then-is_child c =
    let nodes = c.args.nodes.now in
    let near = c.is_child.ensures c.if-is_child.true in (
      near.0,
      λ degree key is short. child_there degree nodes (held_configs nodes) key is c.args.near c.args.parent near.0 near.1 near.2 ∙ ap (λ l. l ∷ key c.args.parent) near.3,
    )

pub loop-at-init : goal.loop-at-init
loop-at-init c = record {
  within = c.start_of-start.ensures.after;
  behind = c.start_of-start.ensures.before;
  walked = c.start_of-start.ensures.walked;
}

pub returns-then-here-label : goal.returns-then-here-label
returns-then-here-label c =
    let nodes = c.args.nodes.now in
    let label : (node_at nodes c.loop-at.at).label ≡ c.args.label =
    ap (λ (n : Node). n.label) (sym (read-there nodes c.loop-at.at c.index-nodes-at.result c.loop-at.invariant.within c.index-nodes-at.is)) ∙ c.if-here-label.true in (
      c.loop-at.invariant.within,
      λ degree key is short.
          walk_at degree nodes (held_configs nodes) key is (key c.args.parent) c.args.label c.loop-at.before c.loop-at.at (c.loop-at.invariant.walked degree key is short) (omega (arith, c.loop-at-test.true))
          ∙ ap (λ x. x ∷ key c.args.parent) label,
    )

pub returns-then-label-here : goal.returns-then-label-here
returns-then-label-here c =
    let nodes = c.args.nodes.now in
    let label = read-there nodes c.loop-at.at c.index-nodes-at.result c.loop-at.invariant.within c.index-nodes-at.is in
    let above : c.args.label < (node_at nodes c.loop-at.at).label = subst (λ (n : Node). c.args.label < n.label) label c.if-label-here.true in (
      c.loop-at.invariant.behind,
      c.loop-at.invariant.within,
      λ degree key is short.
          walk_end degree nodes (held_configs nodes) key is (key c.args.parent) c.args.label c.loop-at.before c.loop-at.at (c.loop-at.invariant.walked degree key is short) (λ some. above),
    )

pub loop-at-preserved : goal.loop-at-preserved
loop-at-preserved c =
    let nodes = c.args.nodes.now in
    let there = read-there nodes c.loop-at.at c.index-nodes-at.result c.loop-at.invariant.within c.index-nodes-at.is in
    let next : (slice_index_or nodes c.loop-at.at c.index-nodes-at-in-loop-at.result).next ≡ (node_at nodes c.loop-at.at).next =
    ap (λ (n : Node). n.next) (read-there nodes c.loop-at.at c.index-nodes-at-in-loop-at.result c.loop-at.invariant.within c.index-nodes-at-in-loop-at.is) in
    let low : (node_at nodes c.loop-at.at).label < c.args.label =
    subst (λ (n : Node). n.label < c.args.label) there (omega (arith, c.if-here-label.false, c.if-label-here.false)) in
    let step : (degree : ℕ) (key : ℕ → List ℕ) → IsTree degree nodes (held_configs nodes) key → length (key c.args.parent) < degree
    → IsWalked nodes key (key c.args.parent) c.args.label c.loop-at.at (slice_index_or nodes c.loop-at.at c.index-nodes-at-in-loop-at.result).next =
    λ degree key is short. walk_step degree nodes (held_configs nodes) key is (key c.args.parent) c.args.label c.loop-at.before c.loop-at.at
    (slice_index_or nodes c.loop-at.at c.index-nodes-at-in-loop-at.result).next (c.loop-at.invariant.walked degree key is short) (omega (arith, c.loop-at-test.true)) low next in
    record {
      within = walk_within c.requires.0 nodes (held_configs nodes) c.requires.1 c.requires.2 (c.requires.1 c.args.parent) c.args.label c.loop-at.at
          (slice_index_or nodes c.loop-at.at c.index-nodes-at-in-loop-at.result).next (step c.requires.0 c.requires.1 c.requires.2 c.requires.4);
      behind = c.loop-at.invariant.within;
      walked = step;
    }

pub loop-at-smaller : goal.loop-at-smaller
loop-at-smaller c =
    let nodes = c.args.nodes.now in
    let next : (slice_index_or nodes c.loop-at.at c.index-nodes-at-in-loop-at.result).next ≡ (node_at nodes c.loop-at.at).next =
    ap (λ (n : Node). n.next) (read-there nodes c.loop-at.at c.index-nodes-at-in-loop-at.result c.loop-at.invariant.within c.index-nodes-at-in-loop-at.is) in
    let label : (node_at nodes c.loop-at.at).label < 256 =
    subst (λ (n : Node). n.label < 256) (read-there nodes c.loop-at.at c.index-nodes-at.result c.loop-at.invariant.within c.index-nodes-at.is) (omega (arith, c.index-nodes-at.element_fits.fits)) in
    let on = walk_at c.requires.0 nodes (held_configs nodes) c.requires.1 c.requires.2 (c.requires.1 c.args.parent) c.args.label c.loop-at.before c.loop-at.at
    (c.loop-at.invariant.walked c.requires.0 c.requires.1 c.requires.2 c.requires.4) (omega (arith, c.loop-at-test.true)) in
    subst (λ t. cond (eqb t 0) 0 (256 - (node_at nodes t).label) < cond (eqb c.loop-at.at 0) 0 (256 - (node_at nodes c.loop-at.at).label)) (sym next)
    (falls c.loop-at.at (node_at nodes c.loop-at.at).next (node_at nodes c.loop-at.at).label (node_at nodes (node_at nodes c.loop-at.at).next).label c.loop-at-test.true label
    (links_higher c.requires.0 nodes (held_configs nodes) c.requires.1 (c.requires.1 c.args.parent) c.loop-at.at c.requires.2 c.loop-at.invariant.within on))

pub returns : goal.returns
returns c =
    let nodes = c.args.nodes.now in
    let at : c.loop-at.at ≡ 0 = c.loop-at-test.false in (
      c.loop-at.invariant.behind,
      omega (arith, c.requires.3),
      λ degree key is short.
          walk_end degree nodes (held_configs nodes) key is (key c.args.parent) c.args.label c.loop-at.before 0
          (subst (λ t. IsWalked nodes key (key c.args.parent) c.args.label c.loop-at.before t) at (c.loop-at.invariant.walked degree key is short)) (λ some. absurd (omega arith)),
    )
