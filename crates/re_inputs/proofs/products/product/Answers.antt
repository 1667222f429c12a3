use Rattle.std.proofs.Common.{◌≡◌, ◌≤◌, ◌*◌, ◌∙◌, ap, arith, length, sym}
use Rattle.re_inputs.proofs.ProductProofs.{nameless_fault}
use Rattle.re_inputs.specs.NamedProducts.{pair_count}
use Rattle.re_labels.specs.declared.TheConstants.{MAX_LABELS}
use Rattle.re_inputs.proofs.products.product.Goals as goal

pub returns-in-Some : goal.returns-in-Some
returns-in-Some c =
    let n = c.len.ensures.len ∙ ap length c.names.ensures.names in
    let m = c.len-2.ensures.len ∙ ap length c.names-2.ensures.names in
    let count : c.len.result * c.len-2.result ≡ pair_count c.args.problem.now c.args.input.now = (λ i. n i * m i) in
    let few : pair_count c.args.problem.now c.args.input.now ≤ MAX_LABELS = omega (arith, c.if-count.false, count) in
    nameless_fault c.args.problem.now c.args.input.now c.in-Some.pair few (sym c.in_ok-pair.ensures.nameless ∙ c.in-Some.is)
