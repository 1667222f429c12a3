-- What is said in a setting, and the statuses of it.
use Rattle.std.proofs.Common.{Bool, true, refl}
use Rattle.re_cert.specs.Bounds.{Bound}
use Rattle.re_chains.proofs.GivenSays.{given_text_says}
use Rattle.re_chains.proofs.WordsGiven.{certificate_says}
use Rattle.re_frame.proofs.Said.{says_as}
use Rattle.re_frame.specs.Outcomes.{Outcome}
use Rattle.re_frame.specs.Runs.{MaySay}
use Rattle.re_problem.specs.NamedProblems.{NamedProblem}
use Rattle.re_settings.proofs.Saying.{given_says}
use Rattle.re_settings.specs.Settings.{IsFaultIn, IsRefusalIn, text_outcome_in}
use Rattle.re_settings.specs.declared.setting.Setting.{Setting}
use Rattle.re_settings.specs.declared.setting.Setting.TheVariants as settings
use Rattle.re_settings.specs.declared.bound_words.BoundWord.TheVariants.{Given}

pub text_says : (setting : Setting) (bound : Bound) (judging : Bool) → MaySay (text_outcome_in setting bound).status judging
text_says settings.Alone bound judging = certificate_says bound judging
text_says (settings.Given input) bound judging = given_text_says bound input judging

pub refusal_says : (setting : Setting) (chain : Bound) (outcome : Outcome) → IsRefusalIn setting chain outcome → MaySay outcome.status true
refusal_says settings.Alone chain outcome (place, zero, is) = says_as outcome _ is refl
refusal_says (settings.Given input) chain outcome is = says_as outcome _ is (given_says Given input chain)

pub input_says : (problem : NamedProblem) (setting : Setting) (outcome : Outcome) → IsFaultIn problem setting outcome → MaySay outcome.status true
input_says problem settings.Alone outcome wrong = absurd wrong
input_says problem (settings.Given input) outcome (fault, came, is) = says_as outcome _ is refl
