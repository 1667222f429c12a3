use Rattle.std.proofs.Common.{◌≡◌, ◌<◌, ◌∙◌, length, ap, sym, subst, arith}
use Rattle.re_labels.proofs.TreeWalks.{first_link, read-node, read-there, walk_near, walk_start, walk_within}
use Rattle.re_labels.specs.PrefixTrees.{first_of, held_configs, node_at}
use Rattle.re_labels.specs.declared.prefix_tree.Node.{Node}
use Rattle.re_labels.proofs.prefix_tree.start_of.Goals as goal

pub returns-then-node-label-clause-walked : goal.returns-then-node-label-clause-walked
returns-then-node-label-clause-walked c degree key is short =
    let nodes = c.args.nodes.now in
    let within : c.args.near < length nodes = omega (arith, c.if-near-nodes.true) in
    let read = read-node nodes c.args.near c.index-nodes-near.result within c.index-nodes-near.is in
    walk_near degree nodes (held_configs nodes) key is c.args.near c.args.parent c.args.label c.index-nodes-near.result.next within (omega (arith, c.if-near-ne0.true))
    (sym (ap (λ (n : Node). n.parent) read) ∙ c.if-node-parent.true) (subst (λ (n : Node). n.label < c.args.label) read c.if-node-label.true) (ap (λ (n : Node). n.next) read)

pub returns-then-node-label-clause-after : goal.returns-then-node-label-clause-after
returns-then-node-label-clause-after c =
    let nodes = c.args.nodes.now in
    let within : c.args.near < length nodes = omega (arith, c.if-near-nodes.true) in
    let read = read-node nodes c.args.near c.index-nodes-near.result within c.index-nodes-near.is in
    walk_within c.requires.0 nodes (held_configs nodes) c.requires.1 c.requires.2 (c.requires.1 c.args.parent) c.args.label c.args.near c.index-nodes-near.result.next
    (walk_near c.requires.0 nodes (held_configs nodes) c.requires.1 c.requires.2 c.args.near c.args.parent c.args.label c.index-nodes-near.result.next within (omega (arith, c.if-near-ne0.true))
    (sym (ap (λ (n : Node). n.parent) read) ∙ c.if-node-parent.true) (subst (λ (n : Node). n.label < c.args.label) read c.if-node-label.true) (ap (λ (n : Node). n.next) read))

pub returns-clause-after : goal.returns-clause-after
returns-clause-after c =
    let nodes = c.args.nodes.now in
    let kind : c.first_of.result ≡ first_of (node_at nodes c.args.parent).kind =
    c.first_of.ensures ∙ ap (λ (n : Node). first_of n.kind) (read-there nodes c.args.parent c.index-nodes-parent.result c.requires.3 c.index-nodes-parent.is) in
    (first_link c.requires.0 nodes (held_configs nodes) c.requires.1 c.requires.2 c.args.parent c.first_of.result c.requires.3 c.requires.4 kind).within

pub returns-clause-walked : goal.returns-clause-walked
returns-clause-walked c degree key is short =
    let nodes = c.args.nodes.now in
    let kind : c.first_of.result ≡ first_of (node_at nodes c.args.parent).kind =
    c.first_of.ensures ∙ ap (λ (n : Node). first_of n.kind) (read-there nodes c.args.parent c.index-nodes-parent.result c.requires.3 c.index-nodes-parent.is) in
    walk_start degree nodes (held_configs nodes) key is (key c.args.parent) c.args.label c.first_of.result
    (first_link degree nodes (held_configs nodes) key is c.args.parent c.first_of.result c.requires.3 short kind)
