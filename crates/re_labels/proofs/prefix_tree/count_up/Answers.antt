use Rattle.std.proofs.Common.{◌≡◌, ◌<◌, ◌∙◌, ◌==◌, add-one, ap, arith, count_by, get_or, length, length-take, refl, subst, suc, sym, take}
use Rattle.std.proofs.Math.Seq.{take-length}
use Rattle.std.proofs.lemmas.List.Sums.{count_by-le-length}
use Rattle.re_labels.proofs.PlacesUp.{length-places_up, places_up-next}
use Rattle.re_labels.proofs.TreeChanges.{count_more, leaves_of-with, same_part}
use Rattle.re_labels.proofs.TreeWalks.{read-there}
use Rattle.re_labels.specs.PrefixTrees.{leaves_of, node_at}
use Rattle.re_labels.specs.TreeGrowth.{places_up, with_leaves}
use Rattle.re_labels.specs.declared.prefix_tree.Node.{Node}
use Rattle.re_labels.proofs.prefix_tree.count_up.Goals as goal

pub count_leaf-requires : goal.count_leaf-requires
count_leaf-requires c =
    let nodes = c.args.nodes.now in
    let at = c.loop-level.at in
    let places = places_up nodes c.args.start c.args.count in
    let within : at < length nodes = subst (λ p. p < length nodes) (sym (c.loop-level.invariant.at c.loop-level-test.true)) (c.requires.within c.loop-level._level c.loop-level-test.true) in
    let kind = ap (λ (n : Node). leaves_of n.kind) (read-there c.loop-level.nodes at c.index-nodes-at-in-loop-level.result (omega (arith, within, c.loop-level.auto.nodes)) c.index-nodes-at-in-loop-level.is) in
    let now = ap leaves_of (c.loop-level.invariant.kind at) in
    let most = leaves_of-with (node_at nodes at).kind (count_by (λ p. p == at) (take c.loop-level._level places)) in
    let counted = count_by-le-length (λ p. p == at) (take c.loop-level._level places) in
    omega (arith, kind, now, most, counted, length-take c.loop-level._level places, length-places_up nodes c.args.start c.args.count, c.requires.fits at, c.loop-level-test.true)

pub loop-level-preserved : goal.loop-level-preserved
loop-level-preserved c =
    let nodes = c.args.nodes.now in
    let now = c.loop-level.nodes in
    let at = c.loop-level.at in
    let places = places_up nodes c.args.start c.args.count in
    let here = c.loop-level.invariant.at c.loop-level-test.true in
    let within : at < length nodes = subst (λ p. p < length nodes) (sym here) (c.requires.within c.loop-level._level c.loop-level-test.true) in
    let inside : at < length now = omega (arith, within, c.loop-level.auto.nodes) in
    let read = read-there now at c.index-nodes-at-in-loop-level.result inside c.index-nodes-at-in-loop-level.is in
    let first = read-there now at c.index-nodes-at.result inside c.index-nodes-at.is in
    let long : c.loop-level._level < length places = subst (λ n. c.loop-level._level < n) (sym (length-places_up nodes c.args.start c.args.count)) c.loop-level-test.true in
    record {
      label = λ q. same_part (λ (n : Node). n.label) now at _ inside (ap (λ (n : Node). n.label) read) q ∙ c.loop-level.invariant.label q;
      next = λ q. same_part (λ (n : Node). n.next) now at _ inside (ap (λ (n : Node). n.next) read) q ∙ c.loop-level.invariant.next q;
      parent = λ q. same_part (λ (n : Node). n.parent) now at _ inside (ap (λ (n : Node). n.parent) read) q ∙ c.loop-level.invariant.parent q;
      kind = count_more now _ (λ q. (node_at nodes q).kind) places c.loop-level._level at _ long here inside refl
          (c.count_leaf.ensures ∙ ap (λ (n : Node). with_leaves n.kind 1) read) c.loop-level.invariant.kind;
      at = λ more.
          let less : suc c.loop-level._level < c.args.count = omega (arith, more) in
          ap (λ (n : Node). n.parent) first ∙ c.loop-level.invariant.parent at ∙ ap (λ p. (node_at nodes p).parent) here
          ∙ sym (places_up-next nodes c.args.start c.args.count c.loop-level._level less) ∙ ap (λ k. get_or places k 0) (sym (add-one c.loop-level._level));
    }

pub returns-clause-kind : goal.returns-clause-kind
returns-clause-kind c q =
    let nodes = c.args.nodes.now in
    let places = places_up nodes c.args.start c.args.count in
    let whole : c.loop-level._level ≡ length places = omega (arith, c.loop-level-test.false, c.loop-level.auto._level-end, length-places_up nodes c.args.start c.args.count) in
    c.loop-level.invariant.kind q ∙ ap (λ l. with_leaves (node_at nodes q).kind (count_by (λ p. p == q) l)) (ap (λ k. take k places) whole ∙ take-length places)
