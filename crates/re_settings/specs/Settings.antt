-- What algorithms are given besides their ports: nothing, or a solution of an input problem; which bounds are taken there, and what is printed.
use Rattle.std.specs.Prelude.{◌≡◌, ◌↔◌, ℕ, length, List, Option, None, Some}
use Rattle.re_cert.specs.Bounds.{Bound, last_problem}
use Rattle.re_cert.specs.declared.certificate.Kind.{Kind}
use Rattle.re_chains.specs.Chains.{IsSoundLower, IsSoundUpper}
use Rattle.re_chains.specs.GivenTexts.{GivesBoth, IsGivenText, given_text, given_text_outcome}
use Rattle.re_chains.specs.OverChains.{GivesText, IsTextOf, certificate_outcome}
use Rattle.re_check.specs.Verdicts.{Means, verdict_of}
use Rattle.re_check.specs.declared.verdict.Verdict.TheVariants.{Accepted}
use Rattle.re_settings.specs.InputProblems.{input_fault}
use Rattle.re_settings.specs.declared.inputs.InputFault.{InputFault}
use Rattle.re_frame.specs.Outcomes.{Outcome, outcome_of, refused}
use Rattle.re_frame.specs.SearchLines.{solvable_line}
use Rattle.re_frame.specs.declared.output.Output.{Output}
use Rattle.re_given.specs.Given.{SolvableGiven}
use Rattle.re_given.specs.Inputs.{IsInput}
use Rattle.re_bounds.specs.GivenBounds.{MeansGiven}
use Rattle.re_settings.specs.Taken.{IsTaken}
use Rattle.re_settings.specs.InputFaults.{fault_line}
use Rattle.re_settings.specs.Verdicts.{given_outcome}
use Rattle.re_settings.specs.declared.setting.Setting.{Setting}
use Rattle.re_settings.specs.declared.setting.Setting.TheVariants.{Alone, Given}
use Rattle.re_settings.specs.declared.bound_words.BoundWord.TheVariants as word
use Rattle.re_laws.specs.Algorithms.{Solvable}
use Rattle.re_problem.specs.NamedProblems.{NamedProblem, unnamed}
use Rattle.re_problem.specs.Problems.{Problem}
use Rattle.re_problem.specs.Zero.{zero_place}
use Rattle.re_texts.specs.PrintedCertificates.{certificate_text}

-- the input problem, if one is given
abbrev pub input_of : Setting → Option NamedProblem
input_of Alone = None
input_of (Given input) = Some input

-- ---- algorithms
-- what is given, if anything, is an input problem of the problem
abbrev pub IsSettingOf : Problem → Setting → Type 0
IsSettingOf problem Alone = Unit {0}
IsSettingOf problem (Given input) = IsInput problem (unnamed input)

-- an algorithm of so many rounds solves the problem there
abbrev pub SolvableIn : Setting → Problem → ℕ → Type 0
SolvableIn Alone problem T = Solvable problem T
SolvableIn (Given input) problem T = SolvableGiven problem (unnamed input) T

-- what a bound of this kind and of so many steps says of algorithms there
abbrev pub MeansIn : Setting → Kind → ℕ → Problem → Type 0
MeansIn Alone kind steps problem = Means (Accepted kind steps) problem
MeansIn (Given input) kind steps problem = MeansGiven kind steps problem (unnamed input)

-- ---- bounds
-- the bound is taken: `check` accepts it, or `given` does given the input problem
abbrev pub IsTakenIn : Setting → Bound → Type 0
IsTakenIn Alone bound = verdict_of bound ≡ Accepted bound.kind (length bound.steps)
IsTakenIn (Given input) bound = IsTaken input bound

-- a sound chain of kind lower is taken alone exactly where its last problem isn't solvable without communication, and one of kind upper exactly where it is
pub record TakenAlone (chain : Bound) : Type 0 where
  pub lower : IsSoundLower chain → IsTakenIn Alone chain ↔ zero_place (unnamed (last_problem chain)) ≡ None
  pub upper : IsSoundUpper chain → IsTakenIn Alone chain ↔ (zero_place (unnamed (last_problem chain)) ≡ None → ⊥)

abbrev pub TakenAloneLaw : Type 0
TakenAloneLaw = (chain : Bound) → TakenAlone chain

-- ---- refusals
-- the line where what is given is no input problem of the problem
abbrev pub IsFaultIn : NamedProblem → Setting → Outcome → Type 0
IsFaultIn problem Alone outcome = ⊥
IsFaultIn problem (Given input) outcome = (fault : InputFault) × (input_fault problem input ≡ Some fault) × (outcome ≡ refused (fault_line input fault))

-- nothing exactly where it is one, or nothing is given
abbrev pub RefusesInput : NamedProblem → Setting → Option Output → Type 0
RefusesInput problem setting None = IsSettingOf (unnamed problem) setting
RefusesInput problem setting (Some output) = (IsSettingOf (unnamed problem) setting → ⊥) × IsFaultIn problem setting (outcome_of output)

-- what the words answer to a chain of kind lower that isn't taken: alone the line of the first configuration by which its last problem is solvable without
-- communication, and given an input problem what `given` answers
abbrev pub IsRefusalIn : Setting → Bound → Outcome → Type 0
IsRefusalIn Alone chain outcome = (place : ℕ) × (zero_place (unnamed (last_problem chain)) ≡ Some place) × (outcome ≡ refused (solvable_line (last_problem chain) place))
IsRefusalIn (Given input) chain outcome = outcome ≡ given_outcome word.Given input chain

-- nothing exactly where the chain is taken
abbrev pub RefusesIn : Setting → Bound → Option Output → Type 0
RefusesIn setting chain None = IsTakenIn setting chain
RefusesIn setting chain (Some output) = (IsTakenIn setting chain → ⊥) × IsRefusalIn setting chain (outcome_of output)

-- ---- texts
-- the text of a bound, with the input problem behind it where one is given
abbrev pub text_in : Setting → Bound → List ℕ
text_in Alone bound = certificate_text bound
text_in (Given input) bound = given_text bound input

-- that text, where it is no longer than a text that is read may be
abbrev pub text_outcome_in : Setting → Bound → Outcome
text_outcome_in Alone bound = certificate_outcome bound
text_outcome_in (Given input) bound = given_text_outcome bound input

-- the text is no longer than one that is read, and is read as this bound, and as this input problem where one is given
abbrev pub IsTextIn : Setting → Bound → List ℕ → Type 0
IsTextIn Alone bound text = IsTextOf bound text
IsTextIn (Given input) bound text = IsGivenText bound input text

-- where the outcome is Done, its text is read so
abbrev pub GivesIn : Setting → Bound → Outcome → Type 0
GivesIn Alone bound outcome = GivesText bound outcome
GivesIn (Given input) bound outcome = GivesBoth bound input outcome

-- the bound has a text that is read as it
abbrev pub HasTextIn : Setting → Bound → Type 0
HasTextIn setting bound = IsTextIn setting bound (text_in setting bound)
