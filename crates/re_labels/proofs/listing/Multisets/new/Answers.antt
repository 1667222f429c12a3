use Rattle.std.proofs.Common.{ap, ◌∙◌}
use Rattle.re_labels.proofs.NextMultisets.{first-multiset, no-multiset}
use Rattle.re_labels.specs.Orders.{multisets_left}
use Rattle.re_labels.proofs.listing.Multisets.new.Goals as goal
use Rattle.re_labels.proofs.listing.Multisets.new.Goals.{else-below-eq0, then-below-eq0}

pub returns : goal.returns
returns c = elim c.if-below-eq0.branch [
  | then-below-eq0 w ↦ ap (multisets_left c.args.below) w.next-is ∙ no-multiset c.args.length c.args.below w.if-below-eq0.true c.requires.two
  | else-below-eq0 w ↦ ap (multisets_left c.args.below) w.next-is ∙ first-multiset c.args.length c.args.below w.all_alike.result w.if-below-eq0.false w.all_alike.ensures
]
