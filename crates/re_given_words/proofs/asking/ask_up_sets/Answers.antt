use Rattle.std.proofs.Common.{subst}
use Rattle.re_labels.specs.Sets.{IsIn}
use Rattle.re_given_words.proofs.asking.ask_up_sets.Goals as goal

pub loop-label-preserved : goal.loop-label-preserved
loop-label-preserved c = λ values follows satisfied.
    c.in_ok-ask_up.ensures values (λ set low other at. follows set c.loop-label.label other low c.loop-label-test.true (subst (IsIn other) c.up_set.ensures at)) (c.loop-label.invariant values follows satisfied)
