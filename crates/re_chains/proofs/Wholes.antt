-- The fault of a text that is cut.
use Rattle.std.proofs.Common.{◌≡◌, ℕ, ◌+◌, ◌-◌, List, length, sym, ap, ◌∙◌, arith, Option, Some, None, Ok}
use Rattle.std.specs.Prelude.{if◌then◌else◌, option_map}
use Rattle.re_problem.specs.ProblemTexts.{bytes_of, lines_of, or_else, problem_of}
use Rattle.re_problem.specs.declared.fault.InputFault.{InputFault}
use Rattle.re_problem.specs.declared.fault.InputFault.TheVariants.{EarlyEnd}
use Rattle.re_problem.specs.declared.fault.TextFault.{TextFault}
use Rattle.re_problem.specs.declared.fault.TextFault.TheVariants.{Bad, NoMemory}
use Rattle.re_chains.specs.ChainTexts.{chain_fault, text_bound, text_chain}
use Rattle.re_chains.specs.TwoTexts.{ChainReadGives, IsCut, ProblemRefuses, ReadGives, ReadRefuses, at_line, front_text, lines_behind, lines_to, problem_fault, problem_lines, two_fault}
use Rattle.re_chains.specs.declared.cutting.Cut.{Cut}
use Rattle.re_chains.specs.declared.reading.TwoTexts.{TwoTexts}

pub cut_fault : (name text : List ℕ) (cut : Cut) → IsCut name text cut
    → two_fault name text ≡ or_else (option_map (at_line (cut.number - 1)) (chain_fault cut.front.now)) (problem_fault cut.byte cut.number (lines_of cut.behind.now))
unfolding two_fault
cut_fault name text cut is =
    ap (λ b. if b then or_else (option_map (at_line (length (lines_to name text))) (chain_fault (front_text name text))) (problem_fault (bytes_of (lines_to name text)) (length (lines_to name text) + 1) (lines_behind name text)) else or_else (chain_fault text) (Some EarlyEnd)) is.has
    ∙ ap (λ t. or_else (option_map (at_line (length (lines_to name text))) (chain_fault t)) (problem_fault (bytes_of (lines_to name text)) (length (lines_to name text) + 1) (lines_behind name text))) (sym is.front)
    ∙ ap (λ n. or_else (option_map (at_line n) (chain_fault cut.front.now)) (problem_fault (bytes_of (lines_to name text)) (length (lines_to name text) + 1) (lines_behind name text))) (let number = is.number in let same : length (lines_to name text) ≡ cut.number - 1 = omega arith in same)
    ∙ ap (λ b. or_else (option_map (at_line (cut.number - 1)) (chain_fault cut.front.now)) (problem_fault b (length (lines_to name text) + 1) (lines_behind name text))) (sym is.byte)
    ∙ ap (λ n. or_else (option_map (at_line (cut.number - 1)) (chain_fault cut.front.now)) (problem_fault cut.byte n (lines_behind name text))) (sym is.number)
    ∙ ap (λ l. or_else (option_map (at_line (cut.number - 1)) (chain_fault cut.front.now)) (problem_fault cut.byte cut.number l)) (sym is.behind)

module _ (name text : List ℕ) (cut : Cut) (is : IsCut name text cut) where
  behind_fault : Option InputFault
  behind_fault = problem_fault cut.byte cut.number (lines_of cut.behind.now)

  pub chain_wrong : (fault other : InputFault) → chain_fault cut.front.now ≡ Some fault → other ≡ at_line (cut.number - 1) fault → two_fault name text ≡ Some other
  unfolding behind_fault
  chain_wrong fault other wrong same =
      cut_fault name text cut is ∙ ap (λ f. or_else (option_map (at_line (cut.number - 1)) f) behind_fault) wrong ∙ ap Some (sym same)

  rest : chain_fault cut.front.now ≡ None → two_fault name text ≡ behind_fault
  unfolding behind_fault
  rest none = cut_fault name text cut is ∙ ap (λ f. or_else (option_map (at_line (cut.number - 1)) f) behind_fault) none

  pub problem_wrong : (fault : TextFault) → chain_fault cut.front.now ≡ None → ProblemRefuses cut.byte cut.number (lines_of cut.behind.now) fault → ReadRefuses name text fault
  unfolding behind_fault
  problem_wrong (Bad fault) none wrong = rest none ∙ wrong
  problem_wrong NoMemory none wrong = tt

  pub both_read : (texts : TwoTexts) → chain_fault cut.front.now ≡ None → texts.bound ≡ text_bound cut.front.now → problem_fault cut.byte cut.number (lines_of cut.behind.now) ≡ None
      → texts.problem ≡ problem_of (problem_lines (lines_of cut.behind.now)) → ReadGives name text (Ok texts)
  unfolding behind_fault
  both_read texts none bound right to =
      (rest none ∙ right, bound ∙ ap text_bound is.front, to ∙ ap (λ l. problem_of (problem_lines l)) is.behind)

  pub chain_read : (texts : TwoTexts) → chain_fault cut.front.now ≡ None → texts.bound ≡ text_chain cut.front.now → problem_fault cut.byte cut.number (lines_of cut.behind.now) ≡ None
      → texts.problem ≡ problem_of (problem_lines (lines_of cut.behind.now)) → ChainReadGives name text (Ok texts)
  unfolding behind_fault
  chain_read texts none chain right to =
      (rest none ∙ right, chain ∙ ap text_chain is.front, to ∙ ap (λ l. problem_of (problem_lines l)) is.behind)
