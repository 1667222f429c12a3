-- Texts of a bound and an input problem, as they are printed: the text of a certificate, a line `== given`, and the canonical text of a problem.
use Rattle.std.specs.Prelude.{◌≡◌, ◌≤◌, ℕ, List, ◌++◌, codes, length, None}
use Rattle.re_texts.specs.CanonicalLines.{IsWithinLimits}
use Rattle.re_cert.specs.Bounds.{Bound}
use Rattle.re_cert.specs.CertificateTexts.{certificate_fault, certificate_of, text_lines}
use Rattle.re_texts.specs.PrintedCertificates.{certificate_text}
use Rattle.re_frame.specs.Outcomes.{Outcome, done, within_limit}
use Rattle.re_frame.specs.declared.status.Status.TheVariants.{Done}
use Rattle.re_io.specs.declared.read.TheConstants.{MAX_BYTES}
use Rattle.re_problem.specs.CanonicalTexts.{canonical}
use Rattle.re_problem.specs.NamedProblems.{IsNamedProblem, NamedProblem}
use Rattle.re_chains.specs.TwoTexts.{back_problem, front_bound, two_fault}

abbrev pub given_text : Bound → NamedProblem → List ℕ
given_text bound input = certificate_text bound ++ codes "== given\n" ++ canonical input

-- the text, where it is no longer than a text that is read may be
abbrev pub given_text_outcome : Bound → NamedProblem → Outcome
given_text_outcome bound input = within_limit done (given_text bound input)

-- the text has no fault, and is read as this bound and this input problem
pub record IsReadAs (bound : Bound) (input : NamedProblem) (text : List ℕ) : Type 0 where
  pub right : two_fault (codes "given") text ≡ None
  pub bound_is : front_bound (codes "given") text ≡ bound
  pub input_is : back_problem (codes "given") text ≡ input

-- and it is no longer than a text that is read may be
pub record IsGivenText (bound : Bound) (input : NamedProblem) (text : List ℕ) : Type 0 where
  pub short : length text ≤ MAX_BYTES
  pub read : IsReadAs bound input text

-- where the outcome is Done, its text is read as this bound and this input problem
abbrev pub GivesBoth : Bound → NamedProblem → Outcome → Type 0
GivesBoth bound input outcome = outcome.status ≡ Done → IsGivenText bound input outcome.text

-- a bound whose text is read as the bound, and a problem: what is printed of them is read as them
abbrev pub GivenTextLaw : Type 0
GivenTextLaw = (bound : Bound) (input : NamedProblem) → certificate_fault (text_lines (certificate_text bound)) ≡ None → certificate_of (text_lines (certificate_text bound)) ≡ bound
    → IsNamedProblem input → IsWithinLimits input → IsReadAs bound input (given_text bound input)
