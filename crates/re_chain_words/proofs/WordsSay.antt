-- What the words may say.
use Rattle.std.proofs.Common.{ℕ, true, false, List, [], Option, Some, None, refl}
use Rattle.re_problem.specs.ProblemTexts.{first_fault, lines_of, problem_of}
use Rattle.re_cert.specs.Bounds.{Bound, last_problem}
use Rattle.re_cert.specs.CertificateTexts.{certificate_fault, certificate_of, text_lines}
use Rattle.re_chains.specs.Chains.{chain_with}
use Rattle.re_chains.specs.OverChains.{certificate_outcome}
use Rattle.re_shaping.specs.Tidied.{tidied}
use Rattle.re_frame.specs.Runs.{MaySay}
use Rattle.re_shaping.specs.declared.refusal.Refusal.{Refusal}
use Rattle.re_shaping.specs.declared.stepping.ChainStepFault.{ChainStepFault}
use Rattle.re_shaping.specs.declared.stepping.ChainStepFault.TheVariants.{Limit, NoMemory, TooManySteps}
use Rattle.re_step.specs.declared.derivation.StepLimit.{StepLimit}
use Rattle.re_chains.proofs.WordsGiven.{certificate_says, or_fault_says, over_any_says, over_sound_says, problem_says}
use Rattle.re_chain_words.specs.Answers.{begin_outcome, is_judging, last_outcome, or_stop, shaped_outcome, step_outcome, tidy_outcome, word_outcome}
use Rattle.re_chain_words.specs.Shapings.{drop_outcome, merge_outcome, name_outcome, or_line, or_merge_line}
use Rattle.re_chain_words.specs.declared.words.ChainWord.{ChainWord}
use Rattle.re_chain_words.specs.declared.words.ChainWord.TheVariants.{Begin, Last, Shape, Tidy}
use Rattle.re_chain_words.specs.declared.words.Shaping.{Shaping}
use Rattle.re_chain_words.specs.declared.words.Shaping.TheVariants.{Drop, Merge, Name, Step}

or_stop_says : (number : ℕ) (fault : Option ChainStepFault) (chain : Bound) → MaySay (or_stop number fault chain).status true
or_stop_says number None chain = certificate_says chain true
or_stop_says number (Some (Limit passed)) chain = tt
or_stop_says number (Some TooManySteps) chain = tt
or_stop_says number (Some NoMemory) chain = tt

or_line_says : (line : Refusal → List ℕ) (refusal : Option Refusal) (chain : Bound) → MaySay (or_line line refusal chain).status true
or_line_says line (Some refusal) chain = refl
or_line_says line None chain = certificate_says chain true

or_merge_line_says : (line : Refusal → List ℕ) (refusal : Option Refusal) (passed : Option StepLimit) (chain : Bound) → MaySay (or_merge_line line refusal passed chain).status true
or_merge_line_says line (Some refusal) passed chain = refl
or_merge_line_says line None (Some passed) chain = tt
or_merge_line_says line None None chain = certificate_says chain true

shaped_says : (shaping : Shaping) (chain : Bound) → MaySay (shaped_outcome shaping chain).status true
unfolding step_outcome merge_outcome name_outcome drop_outcome
shaped_says Step chain = or_stop_says _ _ _
shaped_says (Merge x y) chain = or_merge_line_says _ _ _ _
shaped_says (Name x y) chain = or_line_says _ _ _
shaped_says (Drop x) chain = or_line_says _ _ _

pub word_says : (word : ChainWord) (bytes : List ℕ) → MaySay (word_outcome word bytes).status (is_judging word)
unfolding begin_outcome last_outcome tidy_outcome
word_says (Begin kind) bytes = or_fault_says (first_fault 0 1 (lines_of bytes)) (certificate_outcome (chain_with kind (problem_of (lines_of bytes)) [])) false (certificate_says (chain_with kind (problem_of (lines_of bytes)) []) false)
word_says Last bytes = over_any_says last_outcome bytes false (λ chain. problem_says (last_problem chain) false)
word_says Tidy bytes = or_fault_says (certificate_fault (text_lines bytes)) (certificate_outcome (tidied (certificate_of (text_lines bytes)))) false (certificate_says (tidied (certificate_of (text_lines bytes))) false)
word_says (Shape shaping) bytes = over_sound_says (shaped_outcome shaping) bytes (shaped_says shaping)
