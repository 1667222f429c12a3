-- What steps more and maps by rows keep.
use Rattle.std.specs.Prelude.{◌≡◌, ℕ, List, None}
use Rattle.re_problem.specs.Problems.{Problem}
use Rattle.re_problem.specs.Steps.{IsLowerStepByRow, IsLowerStepBySet, SetEntry}
use Rattle.re_cert.specs.Bounds.{Bound}
use Rattle.re_chains.specs.Chains.{IsSoundChain}
use Rattle.re_shaping.specs.RowForms.{by_rows, row_form}
use Rattle.re_shaping.specs.Stepped.{stepped, stepping_fault}

-- a sound chain stays sound with one step more, where nothing keeps it from that
abbrev pub StepLaw : Type 0
StepLaw = (bound : Bound) → IsSoundChain bound → stepping_fault bound ≡ None → IsSoundChain (stepped bound)

-- a lower step by sets is one by rows, with the images of its rows by its entries
abbrev pub RowFormLaw : Type 0
RowFormLaw = (problem next : Problem) (rows : List (List (List ℕ))) (entries : List SetEntry) → IsLowerStepBySet problem next rows entries
    → IsLowerStepByRow problem next rows (row_form rows entries)

-- a sound chain stays sound with its maps by rows
abbrev pub ByRowsLaw : Type 0
ByRowsLaw = (bound : Bound) → IsSoundChain bound → IsSoundChain (by_rows bound)
