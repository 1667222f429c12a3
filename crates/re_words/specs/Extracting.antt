-- The command `extract`: the algorithm of an upper bound, as a table.
use Rattle.std.specs.Prelude.{ℕ, List, codes, Option, None, Some}
use Rattle.re_problem.specs.NamedProblems.{NamedProblem}
use Rattle.re_problem.specs.declared.fault.InputFault.{InputFault}
use Rattle.re_cert.specs.Bounds.{Bound}
use Rattle.re_cert.specs.CertificateTexts.{certificate_fault, certificate_of, text_lines}
use Rattle.re_cert.specs.declared.certificate.Kind.TheVariants.{Upper}
use Rattle.re_check.specs.Verdicts.{verdict_of}
use Rattle.re_check.specs.declared.verdict.Verdict.{Verdict}
use Rattle.re_check.specs.declared.verdict.Verdict.TheVariants.{Accepted, Refused}
use Rattle.re_algo.specs.declared.counting.TheConstants.{MAX_VIEWS}
use Rattle.re_algo.specs.Tables.{AnswerTable}
use Rattle.re_table_texts.specs.PrintedTables.{table_text}
use Rattle.re_extract.specs.UpperTables.{listed_table}
use Rattle.re_frame.specs.Check.{verdict_outcome}
use Rattle.re_frame.specs.Outcomes.{Outcome, done, limit_of, refused}
use Rattle.re_frame.specs.TextFaults.{fault_outcome}

-- the problem with its table, unless there are too many views
abbrev pub algorithm_outcome : NamedProblem → Option AnswerTable → Outcome
algorithm_outcome problem None = limit_of MAX_VIEWS (codes "views")
algorithm_outcome problem (Some table) = done (table_text problem table)

-- a certificate that is refused has the line of `check`, and one that is accepted but of no upper bound a line of its own
abbrev pub extracted_from : Bound → Verdict → Outcome
extracted_from bound (Accepted Upper steps) = algorithm_outcome bound.first (listed_table bound)
extracted_from bound (Accepted kind steps) = refused (codes "no: not an upper bound\n")
extracted_from bound (Refused step clause) = verdict_outcome (Refused step clause)

abbrev pub if_read : Option InputFault → Bound → Outcome
if_read (Some fault) bound = fault_outcome fault
if_read None bound = extracted_from bound (verdict_of bound)

-- the outcome for a certificate text: that of its certificate, or of its first fault
unfoldable pub extracting_outcome : List ℕ → Outcome
extracting_outcome bytes = if_read (certificate_fault (text_lines bytes)) (certificate_of (text_lines bytes))
