use Rattle.std.proofs.Common.{◌≡◌, ◌<◌, ◌-◌, ◌∙◌, ap, arith, get_or, length, subst, suc, sym}
use Rattle.re_labels.proofs.Behind.{found_behind}
use Rattle.re_labels.proofs.TreeWalks.{read-node}
use Rattle.re_labels.specs.PrefixTrees.{node_at, prefix}
use Rattle.re_labels.specs.TreeGrowth.{IsFound}
use Rattle.re_labels.specs.declared.prefix_tree.Kind.TheVariants.{Leaf}
use Rattle.re_labels.specs.declared.prefix_tree.Node.{Node}
use Rattle.re_labels.proofs.prefix_tree.gap_behind.Goals as goal

pub returns : goal.returns
returns c =
    let nodes = c.args.nodes.now in
    let config = c.args.config.now in
    let near = c.args.near in
    let labels = c.labels-labels.ensures.labels in
    let last = length c.labels-labels.result.now - 1 in
    let within : near < length nodes = omega (arith, c.if-near-nodes.false) in
    let read = read-node nodes near c.index-nodes-near.result within c.index-nodes-near.is in
    let kind : (node_at nodes near).kind ≡ Leaf c.in-Leaf.other = sym (ap (λ (n : Node). n.kind) read) ∙ c.in-Leaf.is in
    let long : suc last ≡ length config = omega (arith, ap length labels, c.labels-labels.ensures.two) in
    let same : prefix config last ≡ prefix c.in-Leaf.other last =
    ap (λ l. prefix l last) (sym labels) ∙ subst (λ n. prefix c.labels-labels.result.now n ≡ prefix c.labels.result.now n) c.if-shared-last.false c.shared.ensures.same ∙ ap (λ l. prefix l last) c.labels.ensures.labels in
    let low : (node_at nodes near).label < get_or config last 0 =
    subst (λ l. (node_at nodes near).label < get_or l last 0) labels (subst (λ (n : Node). n.label < get_or c.labels-labels.result.now last 0) read c.if-node-labels.false) in
    let alone = sym (ap (λ (n : Node). n.next) read) ∙ c.if-node-ne0.false in
    subst (λ (n : Node). IsFound nodes config last n.parent near 0) (sym read) (found_behind nodes config c.in-Leaf.other near last c.requires within kind long same low alone)
