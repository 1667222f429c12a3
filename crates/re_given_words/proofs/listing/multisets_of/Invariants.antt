use Rattle.std.proofs.Common.{◌≡◌, ◌++◌}
use Rattle.re_labels.specs.Orders.{multisets}
use Rattle.re_given_words.proofs.listing.multisets_of.Given as goal

abbrev pub invariant-loop-picks : goal.invariant-loop-picks
invariant-loop-picks l = record {
  all : l.yielded ++ l.picks-iterator ≡ multisets l.count 0 l.below;
  items : l.all.items ≡ l.yielded;
}
