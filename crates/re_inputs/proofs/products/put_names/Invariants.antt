use Rattle.std.proofs.Common.{◌≡◌, ◌<◌, ℕ, false}
use Rattle.re_inputs.specs.NamedProducts.{is_nameless, pair_names}
use Rattle.re_labels.specs.ListSets.{list_set}
use Rattle.re_inputs.proofs.products.put_names.Given as goal

abbrev pub invariant-loop-pair : goal.invariant-loop-pair
invariant-loop-pair l = record {
  names : l.names ≡ list_set (pair_names l.problem l.input l.pair);
  before : (k : ℕ) → k < l.pair → is_nameless l.problem l.input k ≡ false;
}
