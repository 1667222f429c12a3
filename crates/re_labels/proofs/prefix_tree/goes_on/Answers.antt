use Rattle.std.proofs.Common.{◌≡◌, ◌≤◌, ◌<◌, ◌+◌, ◌-◌, ◌++◌, ◌∷◌, [], ◌∙◌, ap, arith, get_or, length, subst, sym}
use Rattle.re_labels.specs.Lists.{IsRising}
use Rattle.re_labels.proofs.Runs.{one_more, rising_other}
use Rattle.re_labels.proofs.TreeLeaves.{leaf_key}
use Rattle.re_labels.proofs.TreeWalks.{read-node}
use Rattle.re_labels.specs.PrefixTrees.{node_at, prefix}
use Rattle.re_labels.specs.declared.prefix_tree.Kind.TheVariants.{Leaf}
use Rattle.re_labels.specs.declared.prefix_tree.Node.{Node}
use Rattle.re_labels.proofs.prefix_tree.goes_on.Goals as goal

pub returns : goal.returns
returns c _ =
    let nodes = c.args.nodes.now in
    let labels = c.args.labels.now in
    let near = c.args.near in
    let other = c.in-Leaf.other in
    let within : near < length nodes = omega (arith, c.if-near-nodes.false) in
    let read = read-node nodes near c.index-nodes-near.result within c.index-nodes-near.is in
    let kind : (node_at nodes near).kind ≡ Leaf other = sym (ap (λ (n : Node). n.kind) read) ∙ c.in-Leaf.is in
    let long : length other ≡ length labels + 1 = (leaf_key (length labels + 1) nodes c.requires.tree.0 c.requires.tree.1 near other within kind).0 in
    let same : prefix labels (length labels) ≡ prefix other (length labels) =
    subst (λ n. prefix labels n ≡ prefix other n) c.if-shared-labels.false (c.shared.ensures.same ∙ ap (λ l. prefix l c.shared.result) c.labels.ensures.labels) in
    let whole = one_more labels other long same in
    let rises : IsRising (λ x y. x ≤ y) (labels ++ get_or other (length labels) 0 ∷ []) = subst (IsRising (λ x y. x ≤ y)) whole c.labels.ensures.config.ascends in (
      record {
        within = within;
        kind = (get_or other (length labels) 0, kind ∙ ap Leaf whole);
        low = subst (λ (n : Node). n.label < c.args.least) read (omega (arith, c.if-node-least.false));
        alone = sym (ap (λ (n : Node). n.next) read) ∙ c.if-node-ne0.false;
      },
      rising_other labels (get_or other (length labels) 0) c.args.least (length labels - 1) (omega (arith, c.requires.some)) rises (omega (arith, c.if-labels-least.false)),
    )
