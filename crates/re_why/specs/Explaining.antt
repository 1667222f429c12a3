-- The word `why`: the verdict on a certificate, and what shows a refusal.
use Rattle.std.specs.Prelude.{ℕ, Bool, false, List, [], ◌∷◌, ◌++◌, codes, Option, None, Some}
use Rattle.std.specs.Str.{bytes_eq}
use Rattle.re_problem.specs.declared.fault.InputFault.{InputFault}
use Rattle.re_cert.specs.Bounds.{Bound}
use Rattle.re_cert.specs.CertificateTexts.{certificate_fault, certificate_of, text_lines}
use Rattle.re_check.specs.Verdicts.{verdict_of}
use Rattle.re_frame.specs.Check.{verdict_outcome}
use Rattle.re_frame.specs.Outcomes.{Outcome}
use Rattle.re_frame.specs.TextFaults.{fault_outcome}
use Rattle.re_why.specs.Finding.{bound_refutation}
use Rattle.re_why.specs.WitnessTexts.{refutation_line}

-- the words are this one
abbrev pub names_why : List (List ℕ) → Bool
names_why (word ∷ []) = bytes_eq (codes "why") word
names_why words = false

-- the line of help
unfoldable pub why_help : List ℕ
why_help = codes "why: reads a certificate, gives the line of check, and behind a refusal a line that shows it\n"

-- the outcome of `check`, and behind it the line that shows a refusal
abbrev pub explained : Bound → Outcome
explained bound = record { status = (verdict_outcome (verdict_of bound)).status; text = (verdict_outcome (verdict_of bound)).text ++ refutation_line bound (bound_refutation bound) }

abbrev pub explained_if : Option InputFault → Bound → Outcome
explained_if (Some fault) bound = fault_outcome fault
explained_if None bound = explained bound

-- the outcome for a certificate text: that of its certificate, or of its first fault
unfoldable pub explaining_outcome : List ℕ → Outcome
explaining_outcome bytes = explained_if (certificate_fault (text_lines bytes)) (certificate_of (text_lines bytes))
