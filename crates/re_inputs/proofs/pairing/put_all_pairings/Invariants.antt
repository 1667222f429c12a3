use Rattle.std.proofs.Common.{◌≡◌, ◌++◌, List, ℕ}
use Rattle.std.specs.List.{flat_map}
use Rattle.re_inputs.specs.Pairings.{pairings_with}
use Rattle.re_labels.specs.ListSets.{list_set}
use Rattle.re_inputs.proofs.pairing.put_all_pairings.Given as goal

abbrev pub invariant-loop-first : goal.invariant-loop-first
invariant-loop-first l = (done : List (List ℕ)) × record {
  degree : l.constraint.degree ≡ l.fn.constraint.degree;
  all : done ++ l.first-iterator ≡ l.own.configs;
  configs : l.constraint.configs ≡ list_set (l.fn.constraint.configs ++ flat_map (pairings_with l.m l.given) done);
}
