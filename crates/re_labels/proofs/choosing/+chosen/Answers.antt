use Rattle.std.proofs.Common.{◌∙◌}
use Rattle.re_labels.proofs.Patterns.{others-are, parted}
use Rattle.re_labels.proofs.Rounds.{chosen-found}
use Rattle.re_labels.proofs.choosing.+chosen.Goals as goal

pub returns-clause-chosen : goal.returns-clause-chosen
returns-clause-chosen t c =
    chosen-found c.args.sets.now _ c.first-item.result c.args.index c.chosen-rounds.result.0 c.from-count.result c.label_at.result c.chosen-rounds.result.1.items c.insert.new.self.items
    (parted c.args.sets.now _ c.first-item.result c.in-len1-up.len_at_least c.first-item.is (others-are c.args.sets.now)) c.requires.filled c.chosen-rounds.ensures.chosen (c.from-count.ensures ∙ c.count.ensures.count)
    c.label_at.ensures.label c.insert.ensures.items
