-- Chains as texts: a certificate text, or a problem text.
use Rattle.std.specs.Prelude.{◌≡◌, ℕ, Bool, false, not, List, [], find, if◌then◌else◌, Option, Some, None, Result, Ok, Err}
use Rattle.std.specs.Option.{option_map_or}
use Rattle.re_problem.specs.Bytes.{is_empty_line}
use Rattle.re_problem.specs.NamedProblems.{NamedProblem}
use Rattle.re_problem.specs.ProblemTexts.{first_fault, lines_of, problem_of}
use Rattle.re_problem.specs.declared.fault.InputFault.{InputFault}
use Rattle.re_problem.specs.declared.fault.TextFault.{TextFault}
use Rattle.re_problem.specs.declared.fault.TextFault.TheVariants.{Bad, NoMemory}
use Rattle.re_problem.specs.SectionLines.{is_section}
use Rattle.re_cert.specs.Bounds.{Bound}
use Rattle.re_cert.specs.CertificateTexts.{certificate_fault, certificate_of, text_lines}
use Rattle.re_cert.specs.declared.certificate.Kind.TheVariants.{Lower}
use Rattle.re_chains.specs.Chains.{chain_of, chain_with}

-- the first of the lines that isn't of blanks alone begins with `==`
abbrev pub begins_section : List (List ℕ) → Bool
begins_section lines = option_map_or is_section (find (λ line. not (is_empty_line line)) lines) false

-- whether the text is read as that of a certificate, and not as that of a problem
unfoldable pub is_certificate_text : List ℕ → Bool
is_certificate_text bytes = begins_section (lines_of bytes)

-- the first fault of the text, if any
abbrev pub chain_fault : List ℕ → Option InputFault
chain_fault bytes = if is_certificate_text bytes then certificate_fault (text_lines bytes) else first_fault 0 1 (lines_of bytes)

-- the chain that a problem stands for: the lower bound without steps
abbrev pub problem_chain : NamedProblem → Bound
problem_chain problem = chain_with Lower problem []

-- the bound that the text writes, where it has no fault: that of its certificate, or the lower bound without steps of its problem
abbrev pub text_bound : List ℕ → Bound
text_bound bytes = if is_certificate_text bytes then certificate_of (text_lines bytes) else problem_chain (problem_of (lines_of bytes))

-- the chain that the text writes, where it has no fault: that of its certificate, or that of its problem
abbrev pub text_chain : List ℕ → Bound
text_chain bytes = if is_certificate_text bytes then chain_of (certificate_of (text_lines bytes)) else problem_chain (problem_of (lines_of bytes))

-- what a text gives with this first fault, if any, and this chain: the chain exactly where there is no fault, and else the fault
abbrev pub ReadRefuses : Option InputFault → TextFault → Type 0
ReadRefuses first (Bad fault) = first ≡ Some fault
ReadRefuses first NoMemory = Unit {0}

abbrev pub ReadGives : Option InputFault → Bound → Result Bound TextFault → Type 0
ReadGives first chain (Ok bound) = (first ≡ None) × (bound ≡ chain)
ReadGives first chain (Err fault) = ReadRefuses first fault
