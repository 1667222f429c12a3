use Rattle.re_frame.specs.Outcomes.{outcome_of}
use Rattle.re_settings.proofs.TextsThatFit.{done_has}
use Rattle.re_settings.proofs.printing.has_text_in.Goals as goal

pub returns : goal.returns
returns c =
    let fits = done_has c.args.setting.now c.args.bound.now (outcome_of c.in_ok-output.output) c.in_ok-output.ensures.outcome c.in_ok-output.ensures.text in
    (λ yes. fits.0 (c.is_done.ensures.0 yes), λ has. c.is_done.ensures.1 (fits.1 has))
