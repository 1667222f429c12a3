use Rattle.std.proofs.Common.{◌∙◌, ap, option_map, sym}
use Rattle.re_frame.specs.Outcomes.{outcome_of}
use Rattle.re_judging.proofs.FaultLaws.{fault_here}
use Rattle.re_judging.specs.Judging.{in_part}
use Rattle.re_judging.specs.PartFaults.{part_fault}
use Rattle.re_judging.proofs.part_faults.+parts_fault.Goals as goal

pub returns-in-Some : goal.returns-in-Some
returns-in-Some t c =
    sym (fault_here c.args.more c.args.number c.args.text.now (outcome_of c.in-Some.output)
    (ap (λ bytes. option_map (in_part c.args.number) (part_fault bytes)) (sym c.first_part.ensures.part) ∙ sym c.in_ok-output.ensures ∙ ap (option_map outcome_of) c.in-Some.is))
