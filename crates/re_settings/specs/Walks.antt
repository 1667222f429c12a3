-- Sets of labels for the labels of an input problem, as a walk finds them, and the lines that show them.
use Rattle.std.specs.Prelude.{◌≡◌, ℕ, ◌<◌, false, List, [], ◌++◌, codes, flat_map, length, slice_index_or}
use Rattle.std.specs.List.{AllByRecursion}
use Rattle.re_cert.specs.Bounds.{Bound, problem_at}
use Rattle.re_texts.specs.CertificateLines.{entry_text}
use Rattle.re_settings.specs.Fits.{fit_walk, sets_for}
use Rattle.re_frame.specs.Outcomes.{Outcome, limit}
use Rattle.re_given.specs.Inputs.{exchanged_by}
use Rattle.re_labels.specs.Lists.{count_from}
use Rattle.re_problem.specs.NamedProblems.{NamedProblem, unnamed}
use Rattle.re_problem.specs.Problems.{Problem}
use Rattle.re_walks.specs.Walking.{Walk, cut, found, nowhere}
use Rattle.re_settings.specs.declared.fitting.FitAnswer.{FitAnswer}
use Rattle.re_settings.specs.declared.fitting.FitAnswer.TheVariants.{Missing, Sets, TooMany}
use Rattle.re_settings.specs.declared.fitting.TheConstants.{MAX_TRIES}

-- ---- what a walk comes to
-- the sets of the first labels that the walk finds, one of labels of the problem for each input label
pub record AreFirst (problem input : Problem) (sets : List (List ℕ)) : Type 0 where
  pub labels : List ℕ
  pub came : fit_walk problem input MAX_TRIES ≡ found labels
  pub sets_are : sets ≡ sets_for input labels
  pub count : length sets ≡ input.labels
  pub below : AllByRecursion (AllByRecursion (λ label. label < problem.labels)) sets

-- the first sets, or that there are none, or that the tries don't suffice
abbrev pub IsFitAnswer : Problem → Problem → FitAnswer → Type 0
IsFitAnswer problem input (Sets sets) = AreFirst problem input sets.items
IsFitAnswer problem input Missing = fit_walk problem input MAX_TRIES ≡ nowhere
IsFitAnswer problem input TooMany = fit_walk problem input MAX_TRIES ≡ cut

-- ---- along a bound
-- the input problem of the problem behind so many steps: exchanged as often
abbrev pub input_at : NamedProblem → ℕ → Problem
input_at input number = exchanged_by number (unnamed input)

-- the walk for sets by which the problem behind so many steps is solvable in 0 rounds given its input problem
abbrev pub walk_at : NamedProblem → Bound → ℕ → Walk
walk_at input bound number = fit_walk (unnamed (problem_at bound number)) (input_at input number) MAX_TRIES

-- ---- lines
-- an input label and its set, as in the map of an upper step to the input problem
abbrev pub fit_line : NamedProblem → NamedProblem → List (List ℕ) → ℕ → List ℕ
fit_line problem input sets label = entry_text false problem.names input.names (record { set = slice_index_or sets label []; label = label }) ++ codes "\n"

-- `yes`, and a line for each input label in order
abbrev pub fit_text : NamedProblem → NamedProblem → List (List ℕ) → List ℕ
fit_text problem input sets = codes "yes\n" ++ flat_map (fit_line problem input sets) (count_from 0 (length sets))

-- these lines for the problem behind so many steps, by these labels of the places
abbrev pub shown_at : NamedProblem → Bound → ℕ → List ℕ → List ℕ
shown_at input bound number labels = fit_text (problem_at bound number) input (sets_for (input_at input number) labels)

-- the line where the tries don't suffice
abbrev pub tries_outcome : Outcome
tries_outcome = limit (codes "limit: more than 1000000 tries\n")
