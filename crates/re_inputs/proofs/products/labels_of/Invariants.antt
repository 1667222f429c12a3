use Rattle.std.proofs.Common.{◌≡◌, map}
use Rattle.re_inputs.specs.NamedProducts.{pair_name, product_names}
use Rattle.re_labels.specs.Lists.{count_from, place_of}
use Rattle.re_inputs.proofs.products.labels_of.Given as goal

abbrev pub invariant-loop-pair : goal.invariant-loop-pair
invariant-loop-pair l = l.labels.items ≡ map (λ pair. place_of (product_names l.problem l.input) (pair_name l.problem l.input pair)) (count_from 0 l.pair)
