use Rattle.std.proofs.Common.{◌≡◌, ◌<◌, ◌∙◌, ℕ, suc, List, length, ap, sym, subst, arith, add-one}
use Rattle.re_labels.proofs.TreeRanks.{inner-short, leaf-rank, root-leaves, root-rank, some-node}
use Rattle.re_labels.proofs.TreeWalks.{read-there}
use Rattle.re_labels.specs.PrefixTrees.{IsTree, held_configs, node_at}
use Rattle.re_labels.specs.declared.prefix_tree.Kind.TheVariants.{Inner, Leaf}
use Rattle.re_labels.specs.declared.prefix_tree.Node.{Node}
use Rattle.re_labels.proofs.prefix_tree.leaf_at.Goals as goal

pub loop-level-init : goal.loop-level-init
loop-level-init c =
    let filled = some-node c.args.nodes.now c.args.number c.requires.within in
    record {
      within = filled;
      less = subst (λ n. c.args.number < n) (sym (root-leaves c.args.degree c.args.nodes.now c.requires.tree.0 c.requires.tree.1 filled)) c.requires.within;
      depth = λ key tree. ap length tree.root;
      rank = λ key tree. root-rank c.args.degree c.args.nodes.now key c.args.number tree;
    }

pub child_with-requires-clause-inner : goal.child_with-requires-clause-inner
child_with-requires-clause-inner c =
    let tree = c.requires.tree in
    (c.args.degree, tree.0, tree.1, c.loop-level.invariant.within, subst (λ n. n < c.args.degree) (sym (c.loop-level.invariant.depth tree.0 tree.1)) c.loop-level-test.true)

pub loop-level-preserved : goal.loop-level-preserved
loop-level-preserved c =
    let short : (key : ℕ → List ℕ) → IsTree c.args.degree c.args.nodes.now (held_configs c.args.nodes.now) key → length (key c.loop-level.place) < c.args.degree =
    λ key tree. subst (λ n. n < c.args.degree) (sym (c.loop-level.invariant.depth key tree)) c.loop-level-test.true in
    record {
      within = c.child_with.ensures.place;
      less = c.child_with.ensures.within;
      depth = λ key tree. ap length (c.child_with.ensures.key c.args.degree key tree (short key tree)) ∙ ap suc (c.loop-level.invariant.depth key tree) ∙ sym (add-one c.loop-level._level);
      rank = λ key tree. c.child_with.ensures.before c.args.degree key tree (short key tree) ∙ c.loop-level.invariant.rank key tree;
    }

pub unreachable-requires : goal.unreachable-requires
unreachable-requires c =
    let tree = c.requires.tree in
    let nodes = c.args.nodes.now in
    let kind : (node_at nodes c.loop-level.place).kind ≡ Inner c.in-Inner.first c.in-Inner.leaves =
    sym (ap (λ (n : Node). n.kind) (read-there nodes c.loop-level.place c.index-nodes-place.result c.loop-level.invariant.within c.index-nodes-place.is)) ∙ c.in-Inner.is in
    let short = inner-short c.args.degree nodes (held_configs nodes) tree.0 c.loop-level.place c.in-Inner.first c.in-Inner.leaves tree.1 c.loop-level.invariant.within kind in
    omega (arith, short, c.loop-level.invariant.depth tree.0 tree.1, c.loop-level-test.false)

pub returns : goal.returns
returns c =
    let tree = c.requires.tree in
    let nodes = c.args.nodes.now in
    let kind : (node_at nodes c.loop-level.place).kind ≡ Leaf c.in-Leaf.config =
    sym (ap (λ (n : Node). n.kind) (read-there nodes c.loop-level.place c.index-nodes-place.result c.loop-level.invariant.within c.index-nodes-place.is)) ∙ c.in-Leaf.is in
    sym (leaf-rank c.args.degree nodes tree.0 tree.1 c.loop-level.place c.args.number c.loop-level.rest c.in-Leaf.config c.loop-level.invariant.within kind c.loop-level.invariant.less
    (c.loop-level.invariant.rank tree.0 tree.1))
