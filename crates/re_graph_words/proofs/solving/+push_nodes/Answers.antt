use Rattle.std.proofs.Common.{◌<◌, ◌-◌, ◌++◌, ◌∙◌, ap, arith, length, subst, sym, take}
use Rattle.std.proofs.lemmas.Result.{on_ok_weaker}
use Rattle.std.specs.List.{AllByRecursion}
use Rattle.std.specs.Prelude.{codes}
use Rattle.re_texts.specs.CertificateLines.{image_text}
use Rattle.re_graph.specs.Solving.{labels_of}
use Rattle.re_walks.proofs.ConfigBeginnings.{low-drop, low-take}
use Rattle.re_graph_words.specs.Solutions.{node_lines}
use Rattle.re_graph_words.proofs.Nodes.{first-count, first-length, one-node, other-count, some-nodes}
use Rattle.re_graph_words.proofs.solving.+push_nodes.Goals as goal

pub first_labels-requires : goal.first_labels-requires
first_labels-requires t c = first-count c.args.degree c.args.nodes c.args.labels.now (some-nodes c.args.nodes c.if-nodes-eq0.false) c.requires.count

pub other_labels-requires : goal.other_labels-requires
other_labels-requires t c = first-count c.args.degree c.args.nodes c.args.labels.now (some-nodes c.args.nodes c.if-nodes-eq0.false) c.requires.count

pub push_node-requires : goal.push_node-requires
push_node-requires t c =
    let held = first-length c.args.degree c.args.nodes c.args.labels.now c.first_labels.result.now (some-nodes c.args.nodes c.if-nodes-eq0.false) c.requires.count c.first_labels.ensures in
    record {
      least = omega (arith, held, c.requires.least);
      most = omega (arith, held, c.requires.most);
      named = subst (AllByRecursion (λ label. label < length c.args.names.now)) (sym c.first_labels.ensures) (low-take (length c.args.names.now) c.args.degree c.args.labels.now c.requires.named);
    }

pub push_nodes-requires : goal.push_nodes-requires
push_nodes-requires t c = (
  omega (arith, some-nodes c.args.nodes c.if-nodes-eq0.false, c.decreases),
  (
    c.requires.least,
    (
      c.requires.most,
      (
        ap length c.other_labels.ensures ∙ other-count c.args.degree c.args.nodes c.args.labels.now (some-nodes c.args.nodes c.if-nodes-eq0.false) c.requires.count,
        subst (AllByRecursion (λ label. label < length c.args.names.now)) (sym c.other_labels.ensures) (low-drop (length c.args.names.now) c.args.degree c.args.labels.now c.requires.named),
      ),
    ),
  ),
)

pub returns : goal.returns
returns t c =
    on_ok_weaker c.push_nodes.result (λ e. e
    ∙ ap (λ front. front ++ node_lines c.args.names.now (labels_of c.args.degree (c.args.nodes - 1) c.other_labels.result.now)) (c.in_ok-push_node.ensures
    ∙ ap (λ first. c.args.text.now.items ++ (image_text c.args.names.now first ++ codes "\n")) c.first_labels.ensures)
    ∙ ap (λ others. (c.args.text.now.items ++ (image_text c.args.names.now (take c.args.degree c.args.labels.now) ++ codes "\n")) ++ node_lines c.args.names.now (labels_of c.args.degree (c.args.nodes - 1) others)) c.other_labels.ensures
    ∙ one-node c.args.names.now c.args.degree c.args.nodes c.args.labels.now c.args.text.now.items (some-nodes c.args.nodes c.if-nodes-eq0.false)) c.push_nodes.ensures
