use Rattle.std.proofs.Common.{ap, sym}
use Rattle.re_chains.proofs.WordsGiven.{none_fails}
use Rattle.re_bounds.specs.GivenBounds.{IsOver}
use Rattle.re_settings.proofs.Held.{accepted_back, refused_back}
use Rattle.re_settings.specs.Verdicts.{or_back}
use Rattle.re_settings.proofs.verdicts.back_verdict.Goals as goal

pub returns-in-Accepted-clause-outcome : goal.returns-in-Accepted-clause-outcome
returns-in-Accepted-clause-outcome c =
    let over : IsOver c.args.bound.now = record { fits = c.kind-kind.ensures.bound; first = c.over_problems.ensures.first; next = c.over_problems.ensures.next } in
    let meets = accepted_back c.args.bound.now c.args.input.now over c.requires.input (none_fails _ c.requires.sound) c.requires.kind c.in-Accepted.kind c.in-Accepted.steps (sym c.in-Accepted.ensures.verdict) in
    ap (λ b. or_back b c.args.bound.now) (sym meets)

pub returns-in-Refused-clause-outcome : goal.returns-in-Refused-clause-outcome
returns-in-Refused-clause-outcome c =
    let over : IsOver c.args.bound.now = record { fits = c.kind-kind.ensures.bound; first = c.over_problems.ensures.first; next = c.over_problems.ensures.next } in
    let meets = refused_back c.args.bound.now c.args.input.now over c.requires.input (none_fails _ c.requires.sound) c.requires.kind c.args.number c.requires.back c.requires.few c.requires.ends c.in-Refused.step c.in-Refused.clause
    (sym c.in-Refused.ensures.verdict) in
    ap (λ b. or_back b c.args.bound.now) (sym meets)
