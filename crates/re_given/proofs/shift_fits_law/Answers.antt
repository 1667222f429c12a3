use Rattle.std.proofs.Common.{arith, suc}
use Rattle.re_given.proofs.Fitting.{FitsAround-shift}
use Rattle.re_laws.proofs.ViewLaws.{child_of}
use Rattle.re_given.proofs.shift_fits_law.Goals as goal

pub returns : goal.returns
returns c = λ problem input T k v l view fits.
    let (child, at, is) = child_of problem.passive.degree problem.active.degree T problem.passive.degree v view k l in
    FitsAround-shift input.passive input.active problem.passive.degree problem.active.degree T v (suc k) child at is fits
