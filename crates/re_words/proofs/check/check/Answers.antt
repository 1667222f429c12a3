use Rattle.std.proofs.Common.{ap, subst, true}
use Rattle.re_cert.specs.CertificateTexts.{certificate_of, text_lines}
use Rattle.re_check.specs.Verdicts.{Means}
use Rattle.re_problem.specs.NamedProblems.{NamedProblem, unnamed}
use Rattle.re_frame.specs.Outcomes.{Outcome}
use Rattle.re_words.proofs.Meant.{accepted_means}
use Rattle.re_frame.proofs.Said.{check_says, fault_says, said}
use Rattle.re_frame.specs.Check.{verdict_outcome}
use Rattle.re_frame.specs.TextFaults.{fault_outcome}
use Rattle.re_words.proofs.check.check.Goals as goal

pub returns-in_ok-verdict_output-in-Ok-clause-means : goal.returns-in_ok-verdict_output-in-Ok-clause-means
returns-in_ok-verdict_output-in-Ok-clause-means g c = λ done bytes told.
    let is = c.in-Ok.ensures.report bytes told in (
      is.faultless,
      accepted_means c.in-Ok.report.verdict (certificate_of (text_lines bytes)) c.in_ok-verdict_output-in-Ok.field-0.answer
          is.verdict (subst (λ (p : NamedProblem). Means c.in-Ok.report.verdict (unnamed p)) is.first c.in-Ok.ensures.means)
          (ap (λ (outcome : Outcome). outcome.status) c.in_ok-verdict_output-in-Ok.ensures) done,
    )

pub returns-in_ok-verdict_output-in-Ok-clause-says : goal.returns-in_ok-verdict_output-in-Ok-clause-says
returns-in_ok-verdict_output-in-Ok-clause-says g c =
    said c.in_ok-verdict_output-in-Ok.field-0 (verdict_outcome c.in-Ok.report.verdict) true c.in_ok-verdict_output-in-Ok.ensures (check_says c.in-Ok.report.verdict)

pub returns-in_ok-fault_output-in-Err-Input-clause-says : goal.returns-in_ok-fault_output-in-Err-Input-clause-says
returns-in_ok-fault_output-in-Err-Input-clause-says g c =
    said c.in_ok-fault_output-in-Err-Input.field-0 (fault_outcome c.in-Err-Input.fault) true c.in_ok-fault_output-in-Err-Input.ensures (fault_says c.in-Err-Input.fault true)
