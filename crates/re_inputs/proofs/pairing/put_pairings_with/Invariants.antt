use Rattle.std.proofs.Common.{◌≡◌, ◌++◌, List, ℕ}
use Rattle.std.specs.List.{flat_map}
use Rattle.re_inputs.specs.Pairings.{pairings}
use Rattle.re_labels.specs.ListSets.{list_set}
use Rattle.re_inputs.proofs.pairing.put_pairings_with.Given as goal

abbrev pub invariant-loop-second : goal.invariant-loop-second
invariant-loop-second l = (done : List (List ℕ)) × record {
  degree : l.constraint.degree ≡ l.fn.constraint.degree;
  all : done ++ l.second-iterator ≡ l.given.configs;
  configs : l.constraint.configs ≡ list_set (l.fn.constraint.configs ++ flat_map (pairings l.m l.first) done);
}
