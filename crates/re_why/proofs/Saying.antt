-- What the word may answer.
use Rattle.std.proofs.Common.{ℕ, true, List, Option, Some, None}
use Rattle.re_problem.specs.declared.fault.InputFault.{InputFault}
use Rattle.re_cert.specs.Bounds.{Bound}
use Rattle.re_cert.specs.CertificateTexts.{certificate_fault, certificate_of, text_lines}
use Rattle.re_check.specs.Verdicts.{verdict_of}
use Rattle.re_frame.proofs.Said.{check_says, fault_says}
use Rattle.re_frame.specs.Runs.{MaySay}
use Rattle.re_why.specs.Explaining.{explained_if, explaining_outcome}

explained_says : (fault : Option InputFault) (bound : Bound) → MaySay (explained_if fault bound).status true
explained_says (Some fault) bound = fault_says fault true
explained_says None bound = check_says (verdict_of bound)

pub explaining_says : (bytes : List ℕ) → MaySay (explaining_outcome bytes).status true
unfolding explaining_outcome
explaining_says bytes = explained_says (certificate_fault (text_lines bytes)) (certificate_of (text_lines bytes))
