use Rattle.std.proofs.Common.{ap, sym, arith}
use Rattle.re_labels.proofs.TreeLabels.{labels-held, labels-more}
use Rattle.re_labels.proofs.TreeWalks.{read-there}
use Rattle.re_labels.specs.declared.prefix_tree.Node.{Node}
use Rattle.re_labels.proofs.prefix_tree.labels_of.Goals as goal

pub loop-place-preserved : goal.loop-place-preserved
loop-place-preserved c =
    let nodes = c.args.nodes.now in
    record {
      most = omega (arith, c.loop-place-test.true);
      labels = labels-more nodes c.loop-place.place c.loop-place.labels c.insert-labels.result _ (omega (arith, c.loop-place.auto.place)) (ap (λ (n : Node). n.label) (sym (read-there nodes c.loop-place.place c.index-nodes-place.result c.loop-place-test.true c.index-nodes-place.is)))
          c.insert-labels.ensures c.loop-place.invariant.labels;
    }

pub returns : goal.returns
returns c =
    let nodes = c.args.nodes.now in
    labels-held c.requires.0 nodes c.requires.1.0 c.requires.1.1 c.loop-place.labels (λ label.
    let each = c.loop-place.invariant.labels label in (
      λ h. let q = each.0 h in (q.0, q.1, omega (arith, q.1, q.2, c.loop-place.invariant.most, c.loop-place.auto.place-end), q.3),
      λ q. each.1 (q.0, q.1, omega (arith, q.2, c.loop-place-test.false), q.3),
    ))
