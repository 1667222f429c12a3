use Rattle.std.proofs.Common.{◌≡◌, ◌∙◌, ◌+◌, ap, arith, map, suc}
use Rattle.re_labels.specs.Lists.{count_from}
use Rattle.re_net.specs.FiniteTrees.{node_count}
use Rattle.re_net.specs.Rounds.{round}
use Rattle.re_net.specs.Runs.{output_of, standing_of}
use Rattle.re_net.proofs.RunSteps.{output_is, standings_more}
use Rattle.re_net.proofs.runs.standings.Goals as goal

pub loop-node-preserved : goal.loop-node-preserved
loop-node-preserved g c =
    let i = c.loop-node.invariant in
    let r = c.round-round.ensures.round ∙ (λ k. round (i.tree_is k) (i.bound_is k) (i.delivered_is k) c.loop-node.node) in
    let l = output_is c.loop-node.net.tree c.loop-node.net.bound c.loop-node.net.delivered c.loop-node.node (g.R.Rule.answer c.loop-node.rule) c.in_ok-labels.labels c.in_ok-labels.ensures.gives c.in_ok-labels.ensures.labels
    ∙ (λ k. output_of (i.tree_is k) (i.bound_is k) (i.delivered_is k) (λ v. i.answers v k) c.loop-node.node) in
    let this : record { round = c.round-round.result; labels = c.in_ok-labels.labels } ≡ standing_of c.args.net.now.tree c.args.net.now.bound c.args.net.now.delivered (g.R.Rule.answer c.args.rule.now) c.loop-node.node =
    (λ k. record { round = r k; labels = l k }) in
    let more : suc c.loop-node.node ≡ c.loop-node.node + 1 = omega arith in
    record {
      tree_is = c.in_ok-labels.ensures.tree ∙ i.tree_is;
      bound_is = c.in_ok-labels.ensures.bound ∙ i.bound_is;
      delivered_is = c.in_ok-labels.ensures.delivered ∙ i.delivered_is;
      degrees_are = c.in_ok-labels.ensures.rule_degrees ∙ i.degrees_are;
      radius_is = c.in_ok-labels.ensures.rule_radius ∙ i.radius_is;
      answers = λ v. c.in_ok-labels.ensures.rule_answers v ∙ i.answers v;
      so_far = c.in_ok-push.ensures.items
          ∙ standings_more c.args.net.now.tree c.args.net.now.bound c.args.net.now.delivered (g.R.Rule.answer c.args.rule.now) c.loop-node.all.items c.loop-node.node _ i.so_far this
          ∙ ap (λ n. map (standing_of c.args.net.now.tree c.args.net.now.bound c.args.net.now.delivered (g.R.Rule.answer c.args.rule.now)) (count_from 0 n)) more;
    }

pub returns-clause-standings : goal.returns-clause-standings
returns-clause-standings g c =
    let len = c.len-node-end.ensures.len in
    let past = c.loop-node-test.false in
    let end = c.loop-node.auto.node-end in
    let count : c.loop-node.node ≡ node_count c.tree.result.now = omega arith in
    c.loop-node.invariant.so_far
    ∙ ap (λ n. map (standing_of c.args.net.now.tree c.args.net.now.bound c.args.net.now.delivered (g.R.Rule.answer c.args.rule.now)) (count_from 0 n)) (count ∙ ap node_count c.tree.ensures.tree)
