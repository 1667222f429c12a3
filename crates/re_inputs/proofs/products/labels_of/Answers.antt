use Rattle.std.proofs.Common.{◌<◌, ◌∙◌, arith, subst, sym}
use Rattle.std.specs.Prelude.{Contains}
use Rattle.std.proofs.lemmas.Bool.{false≢true}
use Rattle.re_inputs.proofs.ProductNames.{counted_more, name_there}
use Rattle.re_inputs.specs.NamedProducts.{pair_count, pair_name, product_names}
use Rattle.re_labels.proofs.Membership.{In-Contains}
use Rattle.re_labels.specs.Lists.{place_of}
use Rattle.re_inputs.proofs.products.labels_of.Goals as goal

pub unreachable-requires : goal.unreachable-requires
unreachable-requires c =
    let text = c.as_slice.ensures.value ∙ c.in_ok-name.ensures in
    let l : c.loop-pair.pair < pair_count c.args.problem.now c.args.input.now = omega (arith, c.loop-pair-test.true, c.requires.count) in
    let held = In-Contains (pair_name c.args.problem.now c.args.input.now c.loop-pair.pair) (product_names c.args.problem.now c.args.input.now) (name_there c.args.problem.now c.args.input.now c.loop-pair.pair l) in
    false≢true (c.in-None.ensures.held.1 (subst (λ names. Contains names c.as_slice.result.now) (sym c.requires.names) (subst (Contains (product_names c.args.problem.now c.args.input.now)) (sym text) held)))

pub loop-pair-preserved : goal.loop-pair-preserved
loop-pair-preserved c =
    let text = c.as_slice.ensures.value ∙ c.in_ok-name.ensures in
    counted_more (λ pair. place_of (product_names c.args.problem.now c.args.input.now) (pair_name c.args.problem.now c.args.input.now pair)) c.loop-pair.pair c.loop-pair.labels.items c.push.new.self.items c.in-Some.label
    c.loop-pair.invariant c.in_ok-push-in-Some.ensures.items (c.in-Some.ensures.place ∙ (λ i. place_of (c.requires.names i) (text i)))
