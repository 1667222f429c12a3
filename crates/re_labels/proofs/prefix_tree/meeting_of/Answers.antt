use Rattle.std.proofs.Common.{◌≡◌, ◌<◌, ◌-◌, ◌∙◌, ap, arith, length, subst, sym}
use Rattle.re_labels.proofs.PlacesUp.{climbed}
use Rattle.re_labels.proofs.TreeWalks.{read-there}
use Rattle.re_labels.specs.PrefixTrees.{node_at, prefix}
use Rattle.re_labels.specs.declared.prefix_tree.Kind.TheVariants.{Leaf}
use Rattle.re_labels.specs.declared.prefix_tree.Node.{Node}
use Rattle.re_labels.proofs.prefix_tree.meeting_of.Goals as goal

pub up_from-requires : goal.up_from-requires
up_from-requires c j low =
    let nodes = c.args.nodes.now in
    let within : c.args.near < length nodes = omega (arith, c.if-near-nodes.false) in
    let kind : (node_at nodes c.args.near).kind ≡ Leaf c.in-Leaf.last = sym (ap (λ (n : Node). n.kind) (read-there nodes c.args.near c.index-nodes-near.result within c.index-nodes-near.is)) ∙ c.in-Leaf.is in
    (climbed nodes c.args.config.now c.in-Leaf.last c.args.near (length c.labels-labels.result.now) c.shared-depth.result (ap length c.labels-labels.ensures.labels) within kind c.requires.tree.0 c.requires.tree.1 j low).0

pub returns-clause-within : goal.returns-clause-within
returns-clause-within c =
    let nodes = c.args.nodes.now in
    let within : c.args.near < length nodes = omega (arith, c.if-near-nodes.false) in
    let kind : (node_at nodes c.args.near).kind ≡ Leaf c.in-Leaf.last = sym (ap (λ (n : Node). n.kind) (read-there nodes c.args.near c.index-nodes-near.result within c.index-nodes-near.is)) ∙ c.in-Leaf.is in
    subst (λ p. p < length nodes) (sym c.up_from.ensures)
    (climbed nodes c.args.config.now c.in-Leaf.last c.args.near (length c.labels-labels.result.now) c.shared-depth.result (ap length c.labels-labels.ensures.labels) within kind c.requires.tree.0 c.requires.tree.1
    (length c.labels-labels.result.now - c.shared-depth.result) (omega arith)).0

pub returns-clause-on_way : goal.returns-clause-on_way
returns-clause-on_way c key tree =
    let nodes = c.args.nodes.now in
    let within : c.args.near < length nodes = omega (arith, c.if-near-nodes.false) in
    let kind : (node_at nodes c.args.near).kind ≡ Leaf c.in-Leaf.last = sym (ap (λ (n : Node). n.kind) (read-there nodes c.args.near c.index-nodes-near.result within c.index-nodes-near.is)) ∙ c.in-Leaf.is in
    let back : length c.args.config.now - (length c.labels-labels.result.now - c.shared-depth.result) ≡ c.shared-depth.result = omega (arith, ap length c.labels-labels.ensures.labels, c.shared-depth.ensures.most) in
    ap key c.up_from.ensures
    ∙ (climbed nodes c.args.config.now c.in-Leaf.last c.args.near (length c.labels-labels.result.now) c.shared-depth.result (ap length c.labels-labels.ensures.labels) within kind key tree
    (length c.labels-labels.result.now - c.shared-depth.result) (omega arith)).1
    ∙ ap (prefix c.in-Leaf.last) back ∙ ap (λ l. prefix l c.shared-depth.result) (sym c.labels.ensures.labels) ∙ sym c.shared-depth.ensures.same ∙ ap (λ l. prefix l c.shared-depth.result) c.labels-labels.ensures.labels
