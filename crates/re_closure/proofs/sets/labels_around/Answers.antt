use Rattle.std.proofs.Common.{◌≡◌, ◌+◌, [], filter, ap, subst, sym, ◌∙◌}
use Rattle.re_labels.specs.Rows.{set_at}
use Rattle.re_labels.specs.Lists.{count_from}
use Rattle.re_labels.specs.Sets.{within}
use Rattle.re_labels.proofs.Searching.{same_read}
use Rattle.re_closure.proofs.Filters.{one_in, one_out}
use Rattle.re_closure.proofs.sets.labels_around.Goals.{then-within, else-within}
use Rattle.re_closure.proofs.sets.labels_around.Goals as goal

pub loop-place-preserved : goal.loop-place-preserved
loop-place-preserved c =
    let place = c.loop-place.place in
    let at = c.index-sets-place.is ∙ same_read c.args.sets.now place c.index-sets-place.result [] c.loop-place-test.true in
    let told = ap (λ s. within c.args.set s) (sym at) ∙ sym c.within.ensures in
    elim c.if-within.branch [
      | then-within w ↦ one_in (λ label. within c.args.set (set_at c.args.sets.now label)) c.loop-place.labels c.if-within.labels place (told ∙ w.if-within.true) c.loop-place.invariant (w.labels-is ∙ w.insert-labels.ensures)
      | else-within w ↦ subst (λ labels. labels ≡ filter (λ label. within c.args.set (set_at c.args.sets.now label)) (count_from 0 (place + 1))) (sym w.labels-is)
          (one_out (λ label. within c.args.set (set_at c.args.sets.now label)) c.loop-place.labels place (told ∙ w.if-within.false) c.loop-place.invariant)
    ]
