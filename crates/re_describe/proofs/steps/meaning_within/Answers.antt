use Rattle.re_describe.proofs.Growing.{not_fitting}
use Rattle.re_describe.proofs.Thinning.{fitting_set}
use Rattle.re_describe.proofs.steps.meaning_within.Goals as goal

pub returns-then-not-set_fits : goal.returns-then-not-set_fits
returns-then-not-set_fits c = λ fit. not_fitting c.args.strength.now.labels c.args.set c.set_fits.result c.set_fits.ensures c.if-not-set_fits.true fit

pub meaning_of-requires-clause-set : goal.meaning_of-requires-clause-set
meaning_of-requires-clause-set c = fitting_set c.args.strength.now.labels c.args.set c.set_fits.result c.count-count.ensures.set c.set_fits.ensures c.if-not-set_fits.false
