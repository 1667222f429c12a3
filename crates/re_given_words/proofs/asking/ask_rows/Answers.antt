use Rattle.std.proofs.Common.{◌∙◌, subst}
use Rattle.re_given_words.specs.Asking.{AreIn}
use Rattle.re_given_words.proofs.asking.ask_rows.Goals as goal

pub loop-k-preserved : goal.loop-k-preserved
loop-k-preserved c = λ values none satisfied.
    c.in_ok-forbid_all.ensures values (λ tuple at are. none c.loop-k.k c.loop-k-test.true tuple at (subst (λ sets. AreIn values c.args.labels sets tuple) (c.numbers.ensures.numbers ∙ c.numbers_from-sets.ensures) are))
    (c.loop-k.invariant values none satisfied)
