use Rattle.re_labels.specs.Rows.{set_at}
use Rattle.re_given.proofs.UpClosed.{fit_from}
use Rattle.re_given.proofs.fit_law.Goals as goal

pub returns : goal.returns
returns c = λ problem input is is_input. (fit_from problem input is is_input, λ fit. (set_at fit.0, fit.1.upper))
