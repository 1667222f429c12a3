use Rattle.std.proofs.Common.{◌+◌, get_or, length, refl}
use Rattle.re_labels.proofs.NextMultisets.{goes-raised, parted-numbers}
use Rattle.re_labels.proofs.Patterns.{others-are}
use Rattle.re_labels.proofs.listing.+following.Goals as goal

pub returns-then-first-below : goal.returns-then-first-below
returns-then-first-below t c =
    let numbers = c.args.numbers.now in
    goes-raised c.args.below numbers _ (get_or numbers 0 0) (parted-numbers numbers _ (get_or numbers 0 0) c.in-len1-up.len_at_least refl (others-are numbers)) c.requires.few
    (length numbers) (get_or numbers 0 0 + 1) c.all_alike.result c.following.result c.following.ensures c.in_default-following.is refl refl c.if-first-below.true c.all_alike.ensures
