use Rattle.std.proofs.Common.{◌≡◌, ℕ, ◌++◌, filter}
use Rattle.re_labels.specs.Orders.{multisets}
use Rattle.re_families.specs.Families.{rule, rules_of}
use Rattle.re_labels.specs.ListSets.{list_set}
use Rattle.re_families.proofs.making.constraint_of.Given as goal

abbrev pub invariant-loop-picks : goal.invariant-loop-picks
invariant-loop-picks l = record {
  degree : l.constraint.degree ≡ l.degree;
  all : l.yielded ++ l.picks-iterator ≡ multisets l.degree 0 l.labels;
  configs : (number : ℕ) → l.constraint.configs ≡ list_set (filter (rule (rules_of l.kind number) l.side) l.yielded);
}
