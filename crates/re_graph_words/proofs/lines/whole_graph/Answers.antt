use Rattle.std.proofs.Common.{◌≡◌, ◌∙◌, ap, eqb, false, length, subst, sym}
use Rattle.re_graph.specs.Building.{graph_of}
use Rattle.re_graph_words.specs.GraphLines.{nodes_in}
use Rattle.re_graph_words.proofs.Wholes.{built, some-lines}
use Rattle.re_graph_words.proofs.lines.whole_graph.Goals as goal

pub returns-in-Some-clause-graph : goal.returns-in-Some-clause-graph
returns-in-Some-clause-graph c =
    let some = subst (λ n. eqb n 0 ≡ false) (sym c.as_slice.ensures.len ∙ ap length c.as_slice.ensures.value) (sym c.is_empty.ensures ∙ c.if-is_empty.false) in
    let nodes : c.nodes_in-nodes.result ≡ nodes_in c.args.passive.items = c.nodes_in-nodes.ensures ∙ ap nodes_in c.as_slice.ensures.value in
    sym (built c.args.degrees c.args.number c.args.passive.items _ (some-lines c.args.passive.items some)
    (c.in-Some.ensures.graph ∙ ap (λ n. graph_of (record { active_degree = c.args.degrees.active; passive_degree = c.args.degrees.passive; nodes = n; passive = c.args.passive.items })) nodes))
