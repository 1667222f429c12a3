use Rattle.std.proofs.Common.{◌≡◌, ◌<◌, ◌≤◌, ◌+◌, ◌-◌, ◌∷◌, ◌∙◌, ℕ, List, length, ap, sym, subst, arith, count_by, slice_index_or}
use Rattle.re_labels.proofs.TreeRanks.{first-rank, leaves-counted, next-rank}
use Rattle.re_labels.proofs.TreeWalks.{first_link, links_higher, read-there}
use Rattle.re_labels.specs.PrefixTrees.{IsLink, IsTree, first_of, held_configs, leaves_of, node_at}
use Rattle.re_labels.specs.TreeWalks.{precedes}
use Rattle.re_labels.specs.declared.prefix_tree.Node.{Node}
use Rattle.re_labels.proofs.prefix_tree.child_with.Goals as goal

pub loop-rest-init : goal.loop-rest-init
loop-rest-init c =
    let nodes = c.args.nodes.now in
    let kind : c.first_of-at.result ≡ first_of (node_at nodes c.args.parent).kind =
    c.first_of-at.ensures ∙ ap (λ (n : Node). first_of n.kind) (read-there nodes c.args.parent c.index-nodes-parent.result c.requires.inner.3 c.index-nodes-parent.is) in
    let link : (degree : ℕ) (key : ℕ → List ℕ) → IsTree degree nodes (held_configs nodes) key → length (key c.args.parent) < degree → IsLink nodes key (key c.args.parent) 0 c.first_of-at.result =
    λ degree key tree short. first_link degree nodes (held_configs nodes) key tree c.args.parent c.first_of-at.result c.requires.inner.3 short kind in
    let ranked = λ (degree : ℕ) (key : ℕ → List ℕ) (tree : IsTree degree nodes (held_configs nodes) key) (short : length (key c.args.parent) < degree).
    first-rank degree nodes key tree c.args.parent c.requires.inner.3 short c.first_of-at.result c.args.number (link degree key tree short)
    (subst (λ n. c.args.number < n) (leaves-counted degree nodes key tree c.args.parent c.requires.inner.3) c.requires.within) in
    record {
      within = (link c.requires.inner.0 c.requires.inner.1 c.requires.inner.2 c.requires.inner.4).within;
      key = λ degree key tree short. ((link degree key tree short).child (ranked degree key tree short).0).1;
      rank = λ degree key tree short. (ranked degree key tree short).1;
    }

pub loop-rest-smaller : goal.loop-rest-smaller
loop-rest-smaller c =
    let nodes = c.args.nodes.now in
    let at = c.loop-rest.at in
    let degree = c.requires.inner.0 in
    let key = c.requires.inner.1 in
    let tree = c.requires.inner.2 in
    let short = c.requires.inner.4 in
    let next : (slice_index_or nodes at c.index-nodes-at-in-loop-rest.result).next ≡ (node_at nodes at).next =
    ap (λ (n : Node). n.next) (read-there nodes at c.index-nodes-at-in-loop-rest.result c.loop-rest.invariant.within c.index-nodes-at-in-loop-rest.is) in
    let below : c.leaves_of-below.result ≡ leaves_of (node_at nodes at).kind =
    c.leaves_of-below.ensures ∙ ap (λ (n : Node). leaves_of n.kind) (read-there nodes at c.index-nodes-at.result c.loop-rest.invariant.within c.index-nodes-at.is) in
    let on = c.loop-rest.invariant.key degree key tree short in
    let some = (next-rank degree nodes key tree c.args.parent c.requires.inner.3 short at c.loop-rest.rest c.args.number c.loop-rest.invariant.within on
    (subst (λ n. c.args.number < n) (leaves-counted degree nodes key tree c.args.parent c.requires.inner.3) c.requires.within)
    (c.loop-rest.invariant.rank degree key tree short) (subst (λ n. n ≤ c.loop-rest.rest) below c.if-rest-below.false)).0 in
    let higher = links_higher degree nodes (held_configs nodes) key (key c.args.parent) at tree c.loop-rest.invariant.within on some in
    let narrow = tree.narrow at c.loop-rest.invariant.within in
    subst (λ t. 256 - (node_at nodes t).label < 256 - (node_at nodes at).label) (sym next) (omega (arith, higher, narrow))

pub loop-rest-preserved : goal.loop-rest-preserved
loop-rest-preserved c =
    let nodes = c.args.nodes.now in
    let at = c.loop-rest.at in
    let next : (slice_index_or nodes at c.index-nodes-at-in-loop-rest.result).next ≡ (node_at nodes at).next =
    ap (λ (n : Node). n.next) (read-there nodes at c.index-nodes-at-in-loop-rest.result c.loop-rest.invariant.within c.index-nodes-at-in-loop-rest.is) in
    let below : c.leaves_of-below.result ≡ leaves_of (node_at nodes at).kind =
    c.leaves_of-below.ensures ∙ ap (λ (n : Node). leaves_of n.kind) (read-there nodes at c.index-nodes-at.result c.loop-rest.invariant.within c.index-nodes-at.is) in
    let ranked = λ (degree : ℕ) (key : ℕ → List ℕ) (tree : IsTree degree nodes (held_configs nodes) key) (short : length (key c.args.parent) < degree).
    next-rank degree nodes key tree c.args.parent c.requires.inner.3 short at c.loop-rest.rest c.args.number c.loop-rest.invariant.within (c.loop-rest.invariant.key degree key tree short)
    (subst (λ n. c.args.number < n) (leaves-counted degree nodes key tree c.args.parent c.requires.inner.3) c.requires.within)
    (c.loop-rest.invariant.rank degree key tree short) (subst (λ n. n ≤ c.loop-rest.rest) below c.if-rest-below.false) in
    let link = λ (degree : ℕ) (key : ℕ → List ℕ) (tree : IsTree degree nodes (held_configs nodes) key) (short : length (key c.args.parent) < degree).
    tree.sibling at (key c.args.parent) c.loop-rest.invariant.within (c.loop-rest.invariant.key degree key tree short) in
    record {
      within = subst (λ t. t < length nodes) (sym next) (link c.requires.inner.0 c.requires.inner.1 c.requires.inner.2 c.requires.inner.4).within;
      key = λ degree key tree short. subst (λ t. key t ≡ (node_at nodes t).label ∷ key c.args.parent) (sym next) ((link degree key tree short).child (ranked degree key tree short).0).1;
      rank = λ degree key tree short.
          (λ i. (c.loop-rest.rest - below i) + count_by (precedes (key (next i))) (held_configs nodes)) ∙ (ranked degree key tree short).1;
    }
