use Rattle.re_problem.proofs.Drawing.{says-shows_zero}
use Rattle.re_problem.proofs.zero.shows_zero.Goals as goal

pub returns : goal.returns
returns c = says-shows_zero c.args.passive.now c.new-drawn.result.items c.labels.result.now c.args.config.now c.always_fits.result c.new-drawn.ensures c.labels.ensures.labels c.always_fits.ensures.fits
