use Rattle.std.proofs.Common.{subst, sym}
use Rattle.re_labels.specs.Rearranging.{Rearranged}
use Rattle.re_given_words.proofs.Serving.{inserted-at}
use Rattle.re_given_words.proofs.searching.put.Goals as goal

pub returns : goal.returns
returns c = subst (Rearranged _) (sym c.in_ok-insert.ensures.items) (inserted-at c.args.more c.args.opens.now.items c.place_of-place.result)
