-- The fault of a text of a problem and an input problem that is cut.
use Rattle.std.proofs.Common.{◌≡◌, ℕ, ◌+◌, List, length, sym, ap, ◌∙◌, Option, Some, None, Ok}
use Rattle.std.specs.Prelude.{codes, if◌then◌else◌}
use Rattle.re_problem.specs.ProblemTexts.{lines_of, or_else, problem_of}
use Rattle.re_problem.specs.declared.fault.InputFault.{InputFault}
use Rattle.re_problem.specs.declared.fault.InputFault.TheVariants.{EarlyEnd}
use Rattle.re_problem.specs.declared.fault.TextFault.{TextFault}
use Rattle.re_problem.specs.declared.fault.TextFault.TheVariants.{Bad, NoMemory}
use Rattle.re_chains.specs.TwoTexts.{IsCut, ProblemRefuses, front_text, lines_behind, lines_to, problem_fault, problem_lines}
use Rattle.re_chains.specs.declared.cutting.Cut.{Cut}
use Rattle.re_settings.specs.GivenTexts.{GivenGives, GivenRefuses, given_fault, input_text_fault}
use Rattle.re_settings.specs.declared.texts.GivenTexts.{GivenTexts}

module _ (text : List ℕ) (cut : Cut) (is : IsCut (codes "given") text cut) where
  behind_fault : Option InputFault
  behind_fault = problem_fault cut.byte cut.number (lines_of cut.behind.now)

  behind_is : input_text_fault text ≡ behind_fault
  unfolding behind_fault
  behind_is =
      ap (λ b. problem_fault b (length (lines_to (codes "given") text) + 1) (lines_behind (codes "given") text)) (sym is.byte)
      ∙ ap (λ n. problem_fault cut.byte n (lines_behind (codes "given") text)) (sym is.number)
      ∙ ap (λ l. problem_fault cut.byte cut.number l) (sym is.behind)

  cut_fault : given_fault text ≡ or_else (problem_fault 0 1 (lines_of cut.front.now)) behind_fault
  unfolding given_fault
  cut_fault =
      ap (λ b. if b then or_else (problem_fault 0 1 (lines_of (front_text (codes "given") text))) (input_text_fault text) else or_else (problem_fault 0 1 (lines_of text)) (Some EarlyEnd)) is.has
      ∙ ap (λ t. or_else (problem_fault 0 1 (lines_of t)) (input_text_fault text)) (sym is.front)
      ∙ ap (λ f. or_else (problem_fault 0 1 (lines_of cut.front.now)) f) behind_is

  pub front_wrong : (fault : TextFault) → ProblemRefuses 0 1 (lines_of cut.front.now) fault → GivenRefuses text fault
  front_wrong (Bad fault) wrong = cut_fault ∙ ap (λ f. or_else f behind_fault) wrong
  front_wrong NoMemory wrong = tt

  rest : problem_fault 0 1 (lines_of cut.front.now) ≡ None → given_fault text ≡ behind_fault
  rest none = cut_fault ∙ ap (λ f. or_else f behind_fault) none

  pub input_wrong : (fault : TextFault) → problem_fault 0 1 (lines_of cut.front.now) ≡ None → ProblemRefuses cut.byte cut.number (lines_of cut.behind.now) fault → GivenRefuses text fault
  unfolding behind_fault
  input_wrong (Bad fault) none wrong = rest none ∙ wrong
  input_wrong NoMemory none wrong = tt

  pub both_read : (texts : GivenTexts) → problem_fault 0 1 (lines_of cut.front.now) ≡ None → texts.problem ≡ problem_of (problem_lines (lines_of cut.front.now))
      → problem_fault cut.byte cut.number (lines_of cut.behind.now) ≡ None → texts.input ≡ problem_of (problem_lines (lines_of cut.behind.now)) → GivenGives text (Ok texts)
  unfolding behind_fault
  both_read texts none front right input =
      (rest none ∙ right, front ∙ ap (λ t. problem_of (problem_lines (lines_of t))) is.front, input ∙ ap (λ l. problem_of (problem_lines l)) is.behind)
