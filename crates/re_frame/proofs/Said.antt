-- What a command may answer, whatever bytes it reads.
use Rattle.std.proofs.Common.{◌≡◌, Bool, true, refl, sym, subst}
use Rattle.re_check.specs.declared.verdict.Verdict.{Verdict}
use Rattle.re_check.specs.declared.verdict.Verdict.TheVariants.{Accepted, Refused}
use Rattle.re_problem.specs.declared.fault.InputFault.{InputFault}
use Rattle.re_problem.specs.declared.fault.InputFault.TheVariants as input
use Rattle.re_frame.specs.Check.{verdict_outcome}
use Rattle.re_frame.specs.Outcomes.{Outcome, outcome_of, status_of}
use Rattle.re_frame.specs.Runs.{MaySay}
use Rattle.re_frame.specs.TextFaults.{fault_status}
use Rattle.re_frame.specs.declared.output.Output.{Output}

pub said : (output : Output) (outcome : Outcome) (judging : Bool) → outcome_of output ≡ outcome → MaySay outcome.status judging → MaySay (status_of output.answer) judging
said output outcome judging is says = subst (λ (o : Outcome). MaySay o.status judging) (sym is) says

-- equal outcomes may say the same
pub says_as : (outcome given : Outcome) → outcome ≡ given → MaySay given.status true → MaySay outcome.status true
says_as outcome given e may = subst (λ (o : Outcome). MaySay o.status true) (sym e) may

pub fault_says : (fault : InputFault) (judging : Bool) → MaySay (fault_status fault) judging
fault_says (input.BadByte at) judging = tt
fault_says (input.BadItem line) judging = tt
fault_says (input.WrongDegree line) judging = tt
fault_says (input.MissingBlock line) judging = tt
fault_says (input.ExtraBlock line) judging = tt
fault_says (input.DegreeOutOfRange degree) judging = tt
fault_says (input.TooManyLabels line) judging = tt
fault_says (input.TooManyConfigurations line) judging = tt
fault_says (input.BadSection line) judging = tt
fault_says (input.BadEntry line) judging = tt
fault_says (input.BadBack line) judging = tt
fault_says (input.TooManySteps line) judging = tt
fault_says (input.TooManyRows line) judging = tt
fault_says (input.TooManyViews line) judging = tt
fault_says (input.TooManyNodes line) judging = tt
fault_says input.EarlyEnd judging = tt

pub check_says : (given : Verdict) → MaySay (verdict_outcome given).status true
check_says (Accepted kind steps) = tt
check_says (Refused step clause) = refl
