use Rattle.std.proofs.Common.{◌≡◌, ◌∷◌, ◌++◌, [], length}
use Rattle.std.specs.List.{flat_map}
use Rattle.re_labels.specs.Configs.{sorted}
use Rattle.re_labels.specs.Orders.{placements}
use Rattle.re_inputs.specs.Pairings.{beside_in}
use Rattle.re_labels.specs.ListSets.{list_set}
use Rattle.re_inputs.proofs.pairing.put_pairings.Given as goal

abbrev pub invariant-loop-order : goal.invariant-loop-order
invariant-loop-order l = record {
  degree : l.constraint.degree ≡ l.fn.constraint.degree;
  all : l.yielded ++ l.order-iterator ≡ placements (length l.first);
  configs : l.constraint.configs ≡ list_set (l.fn.constraint.configs ++ flat_map (λ order. sorted (beside_in l.m l.first l.second order) ∷ []) l.yielded);
}
