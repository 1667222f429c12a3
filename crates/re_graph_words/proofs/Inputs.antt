-- The text of a problem and a graph, by its parts.
use Rattle.std.proofs.Common.{◌≡◌, ◌+◌, ◌∙◌, ℕ, List, false, None, Result, Err, ap, length, subst, sym}
use Rattle.std.specs.Prelude.{codes, if◌then◌else◌}
use Rattle.re_problem.specs.NamedProblems.{NamedProblem}
use Rattle.re_problem.specs.ProblemTexts.{lines_of, problem_of}
use Rattle.re_problem.specs.declared.fault.InputFault.TheVariants.{EarlyEnd}
use Rattle.re_problem.specs.declared.fault.TextFault.{TextFault}
use Rattle.re_problem.specs.declared.fault.TextFault.TheVariants as text_fault
use Rattle.re_chains.specs.TwoTexts.{IsCut, ProblemRefuses, front_text, has_line, lines_behind, lines_to, problem_fault, problem_lines}
use Rattle.re_chains.specs.declared.cutting.Cut.{Cut}
use Rattle.re_graph_words.specs.GraphInputs.{front_problem, graph_for, graph_input, or_text_fault}
use Rattle.re_graph_words.specs.Reading.{GraphGives, IsRefused, TextRefuses}
use Rattle.re_graph_words.specs.declared.faults.GraphFault.{GraphFault}
use Rattle.re_graph_words.specs.declared.faults.GraphFault.TheVariants.{Text}
use Rattle.re_graph_words.specs.declared.faults.ReadFault.{ReadFault}
use Rattle.re_graph_words.specs.declared.texts.GraphText.{GraphText}

-- a text without the line
pub without-line : (bytes : List ℕ) → has_line (codes "graph") bytes ≡ false → graph_input bytes ≡ or_text_fault (problem_fault 0 1 (lines_of bytes)) (Err (Text EarlyEnd))
unfolding graph_input
without-line bytes none =
    ap (λ b. if b then or_text_fault (problem_fault 0 1 (lines_of (front_text (codes "graph") bytes)))
    (graph_for (front_problem (front_text (codes "graph") bytes)) (length (lines_to (codes "graph") bytes) + 1) (lines_behind (codes "graph") bytes))
    else or_text_fault (problem_fault 0 1 (lines_of bytes)) (Err (Text EarlyEnd))) none

-- a text with it
pub with-line : (bytes : List ℕ) (cut : Cut) → IsCut (codes "graph") bytes cut → graph_input bytes
    ≡ or_text_fault (problem_fault 0 1 (lines_of cut.front.now)) (graph_for (problem_of (problem_lines (lines_of cut.front.now))) cut.number (lines_of cut.behind.now))
unfolding graph_input
with-line bytes cut is =
    ap (λ b. if b then or_text_fault (problem_fault 0 1 (lines_of (front_text (codes "graph") bytes)))
    (graph_for (front_problem (front_text (codes "graph") bytes)) (length (lines_to (codes "graph") bytes) + 1) (lines_behind (codes "graph") bytes))
    else or_text_fault (problem_fault 0 1 (lines_of bytes)) (Err (Text EarlyEnd))) is.has
    ∙ ap (λ front. or_text_fault (problem_fault 0 1 (lines_of front)) (graph_for (problem_of (problem_lines (lines_of front))) (length (lines_to (codes "graph") bytes) + 1) (lines_behind (codes "graph") bytes))) (sym is.front)
    ∙ ap (λ number. or_text_fault (problem_fault 0 1 (lines_of cut.front.now)) (graph_for (problem_of (problem_lines (lines_of cut.front.now))) number (lines_behind (codes "graph") bytes))) (sym is.number)
    ∙ ap (λ lines. or_text_fault (problem_fault 0 1 (lines_of cut.front.now)) (graph_for (problem_of (problem_lines (lines_of cut.front.now))) cut.number lines)) (sym is.behind)

-- the fault of the problem's text
refused-by : (wanted rest : Result GraphText GraphFault) (lines : List (List ℕ)) (fault : TextFault) (given : ReadFault) → wanted ≡ or_text_fault (problem_fault 0 1 lines) rest
    → ProblemRefuses 0 1 lines fault → TextRefuses fault given → IsRefused wanted given
refused-by wanted rest lines (text_fault.Bad fault) given is wrong e = subst (IsRefused wanted) (sym e) (is ∙ ap (λ f. or_text_fault f rest) wrong)
refused-by wanted rest lines text_fault.NoMemory given is wrong e = subst (IsRefused wanted) (sym e) tt

pub refused-without : (bytes : List ℕ) (fault : TextFault) (given : ReadFault) → has_line (codes "graph") bytes ≡ false → ProblemRefuses 0 1 (lines_of bytes) fault → TextRefuses fault given → IsRefused (graph_input bytes) given
refused-without bytes fault given none wrong e = refused-by (graph_input bytes) (Err (Text EarlyEnd)) (lines_of bytes) fault given (without-line bytes none) wrong e

pub early-end : (bytes : List ℕ) → has_line (codes "graph") bytes ≡ false → problem_fault 0 1 (lines_of bytes) ≡ None → graph_input bytes ≡ Err (Text EarlyEnd)
early-end bytes none right = without-line bytes none ∙ ap (λ f. or_text_fault f (Err (Text EarlyEnd))) right

pub refused-with : (bytes : List ℕ) (cut : Cut) (fault : TextFault) (given : ReadFault) → IsCut (codes "graph") bytes cut → ProblemRefuses 0 1 (lines_of cut.front.now) fault → TextRefuses fault given → IsRefused (graph_input bytes) given
refused-with bytes cut fault given is wrong e =
    refused-by (graph_input bytes) (graph_for (problem_of (problem_lines (lines_of cut.front.now))) cut.number (lines_of cut.behind.now)) (lines_of cut.front.now) fault given (with-line bytes cut is) wrong e

-- what is given to the problem and the lines is given to the text
pub given-with : (bytes : List ℕ) (cut : Cut) (problem : NamedProblem) (given : Result GraphText ReadFault) → IsCut (codes "graph") bytes cut → problem_fault 0 1 (lines_of cut.front.now) ≡ None
    → problem ≡ problem_of (problem_lines (lines_of cut.front.now)) → GraphGives (graph_for problem cut.number (lines_of cut.behind.now)) given → GraphGives (graph_input bytes) given
given-with bytes cut problem given is right e gives =
    subst (λ wanted. GraphGives wanted given)
    (ap (λ p. graph_for p cut.number (lines_of cut.behind.now)) e
    ∙ sym (with-line bytes cut is ∙ ap (λ f. or_text_fault f (graph_for (problem_of (problem_lines (lines_of cut.front.now))) cut.number (lines_of cut.behind.now))) right)) gives
