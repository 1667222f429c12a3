-- What the word `flexible` may answer.
use Rattle.std.specs.Prelude.{◌≡◌, ◌<◌, ℕ, List, ◌++◌, flat_map, codes, Option, Some, None}
use Rattle.std.specs.Fmt.{decimal}
use Rattle.re_cert.specs.Bounds.{last_problem}
use Rattle.re_chains.specs.ChainTexts.{chain_fault, text_chain}
use Rattle.re_flexible.specs.Lengths.{IsFlexibility}
use Rattle.re_flexible.specs.declared.levels.Flexibility.{Flexibility}
use Rattle.re_flexible.specs.declared.levels.Flexibility.TheVariants.{Flexible, Length, NoSolution}
use Rattle.re_frame.specs.Outcomes.{Outcome, done, refused}
use Rattle.re_frame.specs.TextFaults.{fault_outcome}
use Rattle.re_labels.specs.Lists.{IsRising}
use Rattle.re_texts.specs.SetTexts.{named_text}
use Rattle.re_problem.specs.NamedProblems.{NamedProblem, unnamed}
use Rattle.re_problem.specs.declared.fault.InputFault.{InputFault}

-- the names of the labels, each behind a blank
abbrev pub labels_text : List (List ℕ) → List ℕ → List ℕ
labels_text names set = flat_map (λ label. codes " " ++ named_text names label) set

-- the line: Done for a flexible set, and else No
abbrev pub flexibility_outcome : List (List ℕ) → Flexibility → Outcome
flexibility_outcome names (Flexible set) = done (codes "flexible:" ++ (labels_text names set ++ codes "\n"))
flexibility_outcome names (Length k) = refused (codes "not flexible: length " ++ (decimal k ++ codes "\n"))
flexibility_outcome names NoSolution = refused (codes "no solution\n")

-- the labels of a set stand once, in order
abbrev pub IsListed : Flexibility → Type 0
IsListed (Flexible set) = IsRising (λ x y. x < y) set
IsListed (Length k) = Unit {0}
IsListed NoSolution = Unit {0}

-- the line of the greatest flexible set with the least label, of the number of levels, or that there is none
pub record IsAnswer (problem : NamedProblem) (outcome : Outcome) : Type 0 where
  pub flexibility : Flexibility
  pub is : IsFlexibility (unnamed problem) flexibility
  pub listed : IsListed flexibility
  pub line : outcome ≡ flexibility_outcome problem.names flexibility

-- the line of the first fault of the text, and else this one of the last problem
abbrev pub MayGiveRead : Option InputFault → NamedProblem → Outcome → Type 0
MayGiveRead (Some fault) problem outcome = outcome ≡ fault_outcome fault
MayGiveRead None problem outcome = IsAnswer problem outcome

-- what the word may give to a text, which writes a chain
unfoldable pub MayGive : List ℕ → Outcome → Type 0
MayGive bytes outcome = MayGiveRead (chain_fault bytes) (last_problem (text_chain bytes)) outcome
