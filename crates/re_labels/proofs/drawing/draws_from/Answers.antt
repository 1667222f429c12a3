use Rattle.std.proofs.Common.{◌≡◌, ◌<◌, ◌∙◌, ℕ, List, length, [], ap, sym, subst, arith, zero-add}
use Rattle.re_labels.proofs.TreeWalks.{first_link}
use Rattle.re_labels.specs.PrefixTrees.{IsLink, IsTree, bare_root, first_of, held_configs, node_at}
use Rattle.re_labels.specs.declared.prefix_tree.Node.{Node}
use Rattle.re_labels.proofs.drawing.draws_from.Goals as goal

root-link : (degree : ℕ) (nodes : List Node) (key : ℕ → List ℕ) (first : ℕ) → IsTree degree nodes (held_configs nodes) key → 0 < length nodes → 0 < degree → first ≡ first_of (node_at nodes 0).kind → IsLink nodes key [] 0 first
root-link degree nodes key first tree some short e =
    subst (λ k. IsLink nodes key k 0 first) tree.root (first_link degree nodes (held_configs nodes) key tree 0 first some (subst (λ k. length k < degree) (sym tree.root) short) e)

pub completes_from-requires-clause-open : goal.completes_from-requires-clause-open
completes_from-requires-clause-open c =
    let tree = c.requires.tree in (
      length c.args.sets.now,
      tree.0,
      [],
      0,
      tree.1,
      zero-add (length c.args.sets.now),
      c.requires.some,
      root-link (length c.args.sets.now) c.args.nodes.now tree.0 c.first_of.result tree.1 c.in-Some.ensures.item.3.0 c.requires.some
          (c.first_of.ensures ∙ ap (λ (n : Node). first_of n.kind) (c.in-Some.ensures.item.3.1 bare_root)),
    )

pub returns-in-Some : goal.returns-in-Some
returns-in-Some c =
    let tree = c.requires.tree in
    let on = c.completes_from.ensures (length c.args.sets.now) tree.0 [] 0 tree.1 (zero-add (length c.args.sets.now))
    (root-link (length c.args.sets.now) c.args.nodes.now tree.0 c.first_of.result tree.1 c.in-Some.ensures.item.3.0 c.requires.some
    (c.first_of.ensures ∙ ap (λ (n : Node). first_of n.kind) (c.in-Some.ensures.item.3.1 bare_root))) in
    (λ h. let found = on.0 h in (found.0, found.1, found.2, found.4), λ found. on.1 (found.0, found.1, found.2, omega arith, found.3))
