use Rattle.std.proofs.Common.{◌≡◌, ◌++◌, filter}
use Rattle.re_labels.specs.Orders.{multisets}
use Rattle.re_inputs.specs.NamedInputs.{may_stand}
use Rattle.re_labels.specs.ListSets.{list_set}
use Rattle.re_inputs.proofs.making.oriented_constraint.Given as goal

abbrev pub invariant-loop-picks : goal.invariant-loop-picks
invariant-loop-picks l = record {
  degree : l.constraint.degree ≡ l.degree;
  all : l.yielded ++ l.picks-iterator ≡ multisets l.degree 0 2;
  configs : l.constraint.configs ≡ list_set (filter (may_stand l.mixed) l.yielded);
}
