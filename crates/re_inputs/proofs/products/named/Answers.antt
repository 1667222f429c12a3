use Rattle.std.proofs.Common.{◌<◌, ◌*◌, ◌∙◌, ap, length, subst, sym}
use Rattle.std.specs.List.{AllByRecursion}
use Rattle.re_given.specs.Products.{pairs_of}
use Rattle.re_inputs.proofs.NamedProofs.{named_is}
use Rattle.re_inputs.proofs.ProductNames.{labels_low, length-product_labels}
use Rattle.re_inputs.proofs.ProductProofs.{IsNamedProblem-product}
use Rattle.re_inputs.specs.NamedProducts.{named_product, relabelled}
use Rattle.re_labels.specs.declared.TheConstants.{MAX_LABELS}
use Rattle.re_inputs.proofs.products.named.Goals as goal

pub side_of-requires-clause-count : goal.side_of-requires-clause-count
side_of-requires-clause-count c =
    let n = c.len-n.ensures.len ∙ ap length c.names.ensures.names in
    let m = c.len-m.ensures.len ∙ ap length c.names-2.ensures.names in
    ap length (c.as_slice.ensures.value ∙ c.in-Ok.ensures) ∙ length-product_labels c.args.problem.now c.args.input.now ∙ sym (λ i. n i * m i)

pub side_of-requires-clause-below : goal.side_of-requires-clause-below
side_of-requires-clause-below c =
    subst (AllByRecursion (λ label. label < MAX_LABELS)) (sym (c.as_slice.ensures.value ∙ c.in-Ok.ensures)) (labels_low c.args.problem.now c.args.input.now c.requires.few)

pub side_of-requires-2-clause-count : goal.side_of-requires-2-clause-count
side_of-requires-2-clause-count c =
    let n = c.len-n.ensures.len ∙ ap length c.names.ensures.names in
    let m = c.len-m.ensures.len ∙ ap length c.names-2.ensures.names in
    ap length (c.as_slice-2.ensures.value ∙ c.in-Ok.ensures) ∙ length-product_labels c.args.problem.now c.args.input.now ∙ sym (λ i. n i * m i)

pub side_of-requires-2-clause-below : goal.side_of-requires-2-clause-below
side_of-requires-2-clause-below c =
    subst (AllByRecursion (λ label. label < MAX_LABELS)) (sym (c.as_slice-2.ensures.value ∙ c.in-Ok.ensures)) (labels_low c.args.problem.now c.args.input.now c.requires.few)

pub problem_of-requires : goal.problem_of-requires
problem_of-requires c =
    let n = c.len-n.ensures.len ∙ ap length c.names.ensures.names in
    let m = c.len-m.ensures.len ∙ ap length c.names-2.ensures.names in
    let labels = c.as_slice.ensures.value ∙ c.in-Ok.ensures in
    let labels' = c.as_slice-2.ensures.value ∙ c.in-Ok.ensures in
    named_is (named_product c.args.problem.now c.args.input.now) c.args.names c.in_ok-active.active c.in_ok-passive.passive c.requires.names
    (c.in_ok-active.ensures.side ∙ (λ i. relabelled (labels i) (pairs_of (n i) (m i) (c.active.ensures.active i) (c.active-2.ensures.active i))))
    (c.in_ok-passive.ensures.side ∙ (λ i. relabelled (labels' i) (pairs_of (n i) (m i) (c.passive.ensures.passive i) (c.passive-2.ensures.passive i))))
    (IsNamedProblem-product c.args.problem.now c.args.input.now c.requires.few c.requires.own c.names.ensures.problem c.requires.input)
