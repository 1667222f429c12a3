-- The lines of faults of texts.
use Rattle.std.specs.Prelude.{ℕ, List, ◌++◌, codes}
use Rattle.std.specs.Fmt.{decimal}
use Rattle.re_problem.specs.declared.fault.InputFault.{InputFault}
use Rattle.re_problem.specs.declared.fault.InputFault.TheVariants.{BadByte, BadItem, WrongDegree, MissingBlock, ExtraBlock, DegreeOutOfRange, TooManyLabels, TooManyConfigurations, BadSection, BadEntry, BadBack, TooManySteps, TooManyRows, TooManyViews, TooManyNodes, EarlyEnd}
use Rattle.re_frame.specs.Outcomes.{Outcome}
use Rattle.re_frame.specs.declared.status.Status.{Status}
use Rattle.re_frame.specs.declared.status.Status.TheVariants.{BadInput, Limit}

-- the line of a fault of a text
abbrev pub fault_line : InputFault → List ℕ
fault_line (BadByte byte) = codes "input: byte " ++ decimal byte ++ codes ": not allowed\n"
fault_line (BadItem line) = codes "input: line " ++ decimal line ++ codes ": not a list of items\n"
fault_line (WrongDegree line) = codes "input: line " ++ decimal line ++ codes ": wrong degree\n"
fault_line (MissingBlock line) = codes "input: line " ++ decimal line ++ codes ": a block is missing\n"
fault_line (ExtraBlock line) = codes "input: line " ++ decimal line ++ codes ": a third block\n"
fault_line (DegreeOutOfRange degree) = codes "input: degree " ++ decimal degree ++ codes " is not from 2 to 6\n"
fault_line (TooManyLabels line) = codes "limit: line " ++ decimal line ++ codes ": more than 128 labels\n"
fault_line (TooManyConfigurations line) = codes "limit: line " ++ decimal line ++ codes ": more than 1048576 configurations\n"
fault_line (BadSection line) = codes "input: line " ++ decimal line ++ codes ": section not expected\n"
fault_line (BadEntry line) = codes "input: line " ++ decimal line ++ codes ": bad entry\n"
fault_line (BadBack line) = codes "input: line " ++ decimal line ++ codes ": back is not before the last problem\n"
fault_line (TooManySteps line) = codes "limit: line " ++ decimal line ++ codes ": more than 64 steps\n"
fault_line (TooManyRows line) = codes "limit: line " ++ decimal line ++ codes ": more than 1024 rows\n"
fault_line (TooManyViews line) = codes "limit: line " ++ decimal line ++ codes ": more than 65536 views\n"
fault_line (TooManyNodes line) = codes "limit: line " ++ decimal line ++ codes ": more than 4096 nodes\n"
fault_line EarlyEnd = codes "input: ends too early\n"

-- a text that passes a limit isn't wrong
abbrev pub fault_status : InputFault → Status
fault_status (TooManyLabels line) = Limit
fault_status (TooManyConfigurations line) = Limit
fault_status (TooManySteps line) = Limit
fault_status (TooManyRows line) = Limit
fault_status (TooManyViews line) = Limit
fault_status (TooManyNodes line) = Limit
fault_status fault = BadInput

abbrev pub fault_outcome : InputFault → Outcome
fault_outcome fault = record { status = fault_status fault; text = fault_line fault }
