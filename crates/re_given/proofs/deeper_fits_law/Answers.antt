use Rattle.std.proofs.Common.{[]}
use Rattle.re_given.proofs.GrownInputs.{active_sides, grown_children}
use Rattle.re_given.proofs.deeper_fits_law.Goals as goal

pub returns : goal.returns
returns c = λ problem input T S v is l view fits. grown_children input.labels problem.active.degree problem.passive.degree input.active input.passive T S problem.active.degree [] v (active_sides problem input is) view l fits
