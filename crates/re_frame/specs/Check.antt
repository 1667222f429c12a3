-- The command `check`: the verdict on a certificate.
use Rattle.std.specs.Prelude.{ℕ, Bool, true, false, List, ◌++◌, if◌then◌else◌, Option, Some, None, codes}
use Rattle.std.specs.Fmt.{decimal}
use Rattle.re_cert.specs.Bounds.{Bound}
use Rattle.re_cert.specs.CertificateTexts.{certificate_fault, certificate_of, text_lines}
use Rattle.re_cert.specs.declared.certificate.Kind.TheVariants.{Lower, Upper, Fixed}
use Rattle.re_problem.specs.declared.fault.InputFault.{InputFault}
use Rattle.re_check.specs.Verdicts.{verdict_of}
use Rattle.re_check.specs.declared.verdict.Verdict.{Verdict}
use Rattle.re_check.specs.declared.verdict.Verdict.TheVariants.{Accepted, Refused}
use Rattle.re_check.specs.declared.clause.Clause.{Clause}
use Rattle.re_check.specs.declared.clause.Clause.TheVariants.{L1, L2, L3, L4, L5, U1, U2, U3, U4, End, Back}
use Rattle.re_frame.specs.Outcomes.{Outcome}
use Rattle.re_frame.specs.TextFaults.{fault_outcome}
use Rattle.re_frame.specs.declared.status.Status.TheVariants.{Done, No}

abbrev pub clause_name : Clause → List ℕ
clause_name L1 = codes "L1"
clause_name L2 = codes "L2"
clause_name L3 = codes "L3"
clause_name L4 = codes "L4"
clause_name L5 = codes "L5"
clause_name U1 = codes "U1"
clause_name U2 = codes "U2"
clause_name U3 = codes "U3"
clause_name U4 = codes "U4"
clause_name End = codes "END"
clause_name Back = codes "BACK"

-- END and BACK are judged after the steps
abbrev pub is_final : Clause → Bool
is_final End = true
is_final Back = true
is_final clause = false

-- the line of a refusal
abbrev pub refused_line : ℕ → Clause → List ℕ
refused_line step clause =
    if is_final clause then codes "refused: clause " ++ clause_name clause ++ codes "\n"
    else codes "refused: step " ++ decimal step ++ codes ", clause " ++ clause_name clause ++ codes "\n"

-- the line of a verdict
abbrev pub verdict_line : Verdict → List ℕ
verdict_line (Accepted Lower steps) = codes "accepted: not solvable in " ++ decimal steps ++ codes " or fewer rounds\n"
verdict_line (Accepted Upper steps) = codes "accepted: solvable in " ++ decimal steps ++ codes " rounds\n"
verdict_line (Accepted Fixed steps) = codes "accepted: not solvable in any number of rounds\n"
verdict_line (Refused step clause) = refused_line step clause

abbrev pub verdict_outcome : Verdict → Outcome
verdict_outcome (Accepted kind steps) = record { status = Done; text = verdict_line (Accepted kind steps) }
verdict_outcome (Refused step clause) = record { status = No; text = verdict_line (Refused step clause) }

-- the outcome for a certificate, or for the first fault of its text
abbrev pub judged : Option InputFault → Bound → Outcome
judged (Some fault) bound = fault_outcome fault
judged None bound = verdict_outcome (verdict_of bound)

-- the outcome for a certificate text
unfoldable pub check_outcome : List ℕ → Outcome
check_outcome bytes = judged (certificate_fault (text_lines bytes)) (certificate_of (text_lines bytes))
