use Rattle.std.proofs.Common.{◌<◌, subst, sym}
use Rattle.std.specs.List.{AllByRecursion}
use Rattle.re_cert.specs.Entries.{label_items}
use Rattle.re_judging.proofs.LineItems.{labels_low}
use Rattle.re_judging.proofs.label_lines.+line_multiset.Goals as goal

pub from_labels-requires-clause-below : goal.from_labels-requires-clause-below
from_labels-requires-clause-below t c =
    subst (AllByRecursion (λ x. x < 128)) (sym c.as_slice.ensures.value)
    (labels_low c.args.names.now (label_items c.args.line.now) c.args.most 128 c.in-Some.labels.items c.len-count.ensures.names.few c.in-Some.ensures)
