use Rattle.std.proofs.Common.{sym, take}
use Rattle.re_labels.proofs.configuration.of_ascending.Goals as goal
use Rattle.re_labels.proofs.Sorting.{sorted_again}

pub returns : goal.returns
returns c = sym (sorted_again (take c.args.count c.args.held) c.requires.rises)
