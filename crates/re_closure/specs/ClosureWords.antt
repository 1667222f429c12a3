-- The word `closure`, and what it may answer.
use Rattle.std.specs.Prelude.{◌≡◌, ℕ, zero, suc, ◌⊎◌, nat_le, Bool, true, false, List, [], ◌∷◌, ◌++◌, codes, length, if◌then◌else◌, Option, Some, None, option_map}
use Rattle.std.specs.Fmt.{decimal}
use Rattle.std.specs.Str.{bytes_eq}
use Rattle.re_problem.specs.NamedProblems.{NamedProblem, unnamed}
use Rattle.re_problem.specs.Zero.{zero_place}
use Rattle.re_problem.specs.declared.fault.InputFault.{InputFault}
use Rattle.re_cert.specs.Bounds.{Bound, last_problem}
use Rattle.re_cert.specs.declared.certificate.TheConstants.{MAX_STEPS}
use Rattle.re_cert.specs.declared.certificate.Kind.{Kind}
use Rattle.re_cert.specs.declared.certificate.Kind.TheVariants.{Fixed, Upper}
use Rattle.re_problem.specs.Numerals.{number_of}
use Rattle.re_shaping.specs.RowForms.{by_rows}
use Rattle.re_shaping.specs.Stepped.{stepped, stepping_fault}
use Rattle.re_shaping.specs.declared.stepping.ChainStepFault.{ChainStepFault}
use Rattle.re_shaping.specs.declared.stepping.ChainStepFault.TheVariants as chain_step_fault
use Rattle.re_chains.specs.ChainTexts.{text_chain}
use Rattle.re_chains.specs.OverChains.{GivesText, certificate_outcome, steps_refusal}
use Rattle.re_check.specs.declared.verdict.Verdict.{Verdict}
use Rattle.re_shaping.specs.Relaxing.{relaxed_limit}
use Rattle.re_closure.specs.Closures.{HasRoom, IsClosed, IsSolvableBy, LimitIs}
use Rattle.re_closure.specs.DiagramTexts.{diagram_edges, diagram_fault, front_chain, has_diagram}
use Rattle.re_closure.specs.Diagrams.{raised}
use Rattle.re_closure.specs.RaisedClosures.{IsRaisedClosed, IsRaisedSolvableBy, RaisedLimitIs, raised_chain}
use Rattle.re_closure.specs.declared.answering.ClosureWord.{ClosureWord}
use Rattle.re_closure.specs.declared.going_on.Said.{Said}
use Rattle.re_closure.specs.declared.going_on.Said.TheVariants.{Closed, Open}
use Rattle.re_closure.specs.declared.answering.TheConstants.{MAX_FURTHER}
use Rattle.re_closure.specs.declared.types.ClosureLimit.{ClosureLimit}
use Rattle.re_closure.specs.declared.types.ClosureLimit.TheVariants.{Combinations, Configurations, Labels, Rows, Steps}
use Rattle.re_frame.specs.Check.{verdict_outcome}
use Rattle.re_frame.specs.Outcomes.{Outcome, limit, limit_of, outcome_of, refused}
use Rattle.re_frame.specs.declared.output.Output.{Output}
use Rattle.re_settings.specs.Taken.{IsTaken}
use Rattle.re_settings.specs.SettingTexts.{parts_of}
use Rattle.re_given_words.specs.Extensions.{GoesOnIn}
use Rattle.re_settings.specs.Settings.{GivesIn, IsFaultIn, IsRefusalIn, IsSettingOf, IsTakenIn, text_outcome_in}
use Rattle.re_settings.specs.Verdicts.{given_outcome}
use Rattle.re_settings.specs.declared.setting.Setting.{Setting}
use Rattle.re_settings.specs.declared.setting.Setting.TheVariants.{Alone, Given}
use Rattle.re_settings.specs.declared.bound_words.BoundWord.TheVariants as word
use Rattle.re_labels.specs.declared.TheConstants.{MAX_LABELS}
use Rattle.re_frame.specs.SearchLines.{not_lower_line, solvable_line}
use Rattle.re_limits.specs.StepLimits.{limit_line as step_line}
use Rattle.re_frame.specs.TextFaults.{fault_outcome}
use Rattle.re_texts.specs.SetTexts.{row_text}

-- the number of steps, if it is one of at most eight
abbrev pub closure_with : Option ℕ → Option ClosureWord
closure_with (Some steps) = if nat_le steps MAX_FURTHER then Some (record { steps = steps }) else None
closure_with None = None

-- the word with its number, which is 0 where none stands
unfoldable pub closure_word_of : List (List ℕ) → Option ClosureWord
closure_word_of (word ∷ []) = if bytes_eq (codes "closure") word then Some (record { steps = 0 }) else None
closure_word_of (word ∷ steps ∷ []) = if bytes_eq (codes "closure") word then closure_with (number_of steps) else None
closure_word_of words = None

-- the line of help
unfoldable pub closure_help : List ℕ
closure_help = codes "closure, closure K: reads a chain, or one with a diagram or with a line == given and an input problem, gives the fixed point by right-closed sets that goes on from it, or from it with 1, 2, .. K steps more\n"

-- ---- lines
-- the line for a problem whose closure is solvable without communication, with the configuration of sets of its labels that shows it
abbrev pub closure_line : NamedProblem → List (List ℕ) → List ℕ
closure_line problem sets = codes "not found: solvable without communication: " ++ row_text problem.names sets ++ codes "\n"

-- the line of a limit that the closure passes
abbrev pub limit_line : ClosureLimit → List ℕ
limit_line Rows = codes "limit: closure: more than 1024 rows\n"
limit_line Combinations = codes "limit: closure: more than 1048576 combinations\n"
limit_line (Labels count) = codes "limit: closure: more than 128 labels: " ++ decimal count ++ codes "\n"
limit_line Configurations = codes "limit: closure: more than 1048576 configurations\n"
limit_line Steps = (limit_of MAX_STEPS (codes "steps")).text

-- ---- answers
-- the text in the setting of the fixed point of the closure of the last problem; it is read as this fixed point, which goes on from the chain there
pub record IsClosedText (setting : Setting) (chain bound : Bound) (outcome : Outcome) : Type 0 where
  pub one : outcome ≡ text_outcome_in setting bound
  pub gives : GivesIn setting bound outcome
  pub room : HasRoom chain
  pub closed : IsClosed chain bound
  pub goes_on : GoesOnIn setting Fixed 3 MAX_LABELS chain bound

abbrev pub IsFound : Setting → Bound → Outcome → Type 0
IsFound setting chain outcome = (bound : Bound) × IsClosedText setting chain bound outcome

-- the line of the configuration that shows that the closure is solvable without communication
abbrev pub IsClosureLine : Bound → Outcome → Type 0
IsClosureLine chain outcome =
    (sets : List (List ℕ)) × (outcome ≡ refused (closure_line (last_problem chain) sets)) × HasRoom chain × IsSolvableBy (last_problem chain) sets

-- the line of a limit that is passed
abbrev pub IsLimitLine : Bound → Outcome → Type 0
IsLimitLine chain outcome = (passed : ClosureLimit) × (outcome ≡ limit (limit_line passed)) × LimitIs chain passed

-- the answer of `given` to the fixed point of the closure, where it doesn't accept it; alone each is accepted
abbrev pub IsDeclined : Setting → Bound → Outcome → Type 0
IsDeclined Alone bound outcome = ⊥
IsDeclined (Given input) bound outcome = (IsTaken input bound → ⊥) × (outcome ≡ given_outcome word.Given input bound)

-- there is no such fixed point, and this says why: the configuration by which the closure is solvable without communication, or the answer to its fixed point
abbrev pub IsUnfound : Setting → Bound → Outcome → Type 0
IsUnfound setting chain outcome = IsClosureLine chain outcome ⊎ ((bound : Bound) × HasRoom chain × IsClosed chain bound × IsDeclined setting bound outcome)

-- what the word may give to a chain that is taken: the text of the fixed point; what is given where there is none; or the line of a limit
abbrev pub MayFind : (Outcome → Type 0) → Setting → Bound → Outcome → Type 0
MayFind MayGiveUnfound setting chain outcome = IsFound setting chain outcome ⊎ (MayGiveUnfound outcome ⊎ IsLimitLine chain outcome)

-- and to one that isn't: why it isn't
abbrev pub MayFindBehind : (Outcome → Type 0) → Setting → Bound → Outcome → Type 0
MayFindBehind MayGiveUnfound setting chain outcome =
    (IsTakenIn setting chain × MayFind MayGiveUnfound setting chain outcome) ⊎ ((IsTakenIn setting chain → ⊥) × IsRefusalIn setting chain outcome)

-- the line of what keeps a chain from its step of this number
abbrev pub stop_outcome : ℕ → ChainStepFault → Outcome
stop_outcome number (chain_step_fault.Limit passed) = limit (step_line number passed)
stop_outcome number fault = limit_of MAX_STEPS (codes "steps")

-- that line, and where nothing keeps the chain from the step what the chain with this step may be given
abbrev pub MayStep : ℕ → Option ChainStepFault → (Outcome → Type 0) → Outcome → Type 0
MayStep number None MayGiveNext outcome = MayGiveNext outcome
MayStep number (Some fault) MayGiveNext outcome = outcome ≡ stop_outcome number fault

-- there is no such fixed point, and the chain goes on by its derived step
abbrev pub MayGoOn : Setting → Bound → (Outcome → Type 0) → Outcome → Type 0
MayGoOn setting chain MayGiveNext outcome = ((why : Outcome) × IsUnfound setting chain why) × MayStep (suc (length chain.steps)) (stepping_fault chain) MayGiveNext outcome

-- what the word may give to a chain of kind lower: the fixed point of the closure of its last problem, or where there is none what it gives to the chain with one
-- derived step more, up to so many steps
abbrev pub MayFindWithin : ℕ → Setting → Bound → Outcome → Type 0
MayFindWithin zero setting chain outcome = MayFindBehind (IsUnfound setting chain) setting chain outcome
MayFindWithin (suc more) setting chain outcome = MayFindBehind (MayGoOn setting chain (MayFindWithin more setting (stepped chain))) setting chain outcome

-- ---- answers behind a diagram
-- the text of the fixed point of the closure of the raised problem; it is read as this fixed point
abbrev pub IsRaisedFound : List (ℕ × ℕ) → Bound → Outcome → Type 0
IsRaisedFound edges chain outcome = (bound : Bound) × (outcome ≡ certificate_outcome bound) × GivesText bound outcome × HasRoom chain × IsRaisedClosed edges chain bound

-- the line of the configuration that shows that this closure is solvable without communication
abbrev pub IsRaisedLine : List (ℕ × ℕ) → Bound → Outcome → Type 0
IsRaisedLine edges chain outcome =
    (sets : List (List ℕ)) × (outcome ≡ refused (closure_line (last_problem chain) sets)) × HasRoom chain × IsRaisedSolvableBy edges (last_problem chain) sets

-- the line of a limit that is passed
abbrev pub IsRaisedLimitLine : List (ℕ × ℕ) → Bound → Outcome → Type 0
IsRaisedLimitLine edges chain outcome = (passed : ClosureLimit) × (outcome ≡ limit (limit_line passed)) × RaisedLimitIs edges chain passed

-- what may be given where the last problem isn't solvable without communication: the fixed point of the closure of the raised problem; what is given where this
-- closure is solvable without communication; or the line of a limit
abbrev pub MayFindRaised : (Outcome → Type 0) → List (ℕ × ℕ) → Bound → Outcome → Type 0
MayFindRaised MayGiveSolvable edges chain outcome = IsRaisedFound edges chain outcome ⊎ (MayGiveSolvable outcome ⊎ IsRaisedLimitLine edges chain outcome)

-- the line of the configuration where the last problem is solvable without communication, and else what may be found
abbrev pub MayFindRaisedBehind : (Outcome → Type 0) → Option ℕ → List (ℕ × ℕ) → Bound → Outcome → Type 0
MayFindRaisedBehind MayGiveSolvable (Some place) edges chain outcome = outcome ≡ refused (solvable_line (last_problem chain) place)
MayFindRaisedBehind MayGiveSolvable None edges chain outcome = MayFindRaised MayGiveSolvable edges chain outcome

-- the closure of the raised problem is solvable without communication, and the chain goes on by the step to the derived problem of the raised problem; behind it
-- there is no diagram
abbrev pub MayGoOnRaised : List (ℕ × ℕ) → Bound → (Outcome → Type 0) → Outcome → Type 0
MayGoOnRaised edges chain MayGiveNext outcome =
    HasRoom chain × ((sets : List (List ℕ)) × IsRaisedSolvableBy edges (last_problem chain) sets)
    × MayStep (suc (length chain.steps)) (option_map chain_step_fault.Limit (relaxed_limit (last_problem chain) (raised edges (last_problem chain)))) MayGiveNext outcome

-- what the word may give to a chain of kind lower with a diagram
abbrev pub MayFindRaisedWithin : ℕ → List (ℕ × ℕ) → Bound → Outcome → Type 0
MayFindRaisedWithin zero edges chain outcome = MayFindRaisedBehind (IsRaisedLine edges chain) (zero_place (unnamed (last_problem chain))) edges chain outcome
MayFindRaisedWithin (suc more) edges chain outcome =
    MayFindRaisedBehind (MayGoOnRaised edges chain (MayFindWithin more Alone (raised_chain edges chain))) (zero_place (unnamed (last_problem chain))) edges chain outcome

-- the same with or without a diagram, which stands alone
abbrev pub MayFindBy : Option (List (ℕ × ℕ)) → ℕ → Setting → Bound → Outcome → Type 0
MayFindBy None more setting chain outcome = MayFindWithin more setting chain outcome
MayFindBy (Some edges) more setting chain outcome = MayFindRaisedWithin more edges chain outcome

-- ---- texts
-- a chain of kind upper is refused
abbrev pub MayGiveAt : Kind → Option (List (ℕ × ℕ)) → ℕ → Setting → Bound → Outcome → Type 0
MayGiveAt Upper diagram more setting chain outcome = outcome ≡ refused not_lower_line
MayGiveAt kind diagram more setting chain outcome = MayFindBy diagram more setting chain outcome

-- the line of `check` for the first step that fails, and else what may be given to the chain
abbrev pub MayGiveSound : Option Verdict → Option (List (ℕ × ℕ)) → ℕ → Setting → Bound → Outcome → Type 0
MayGiveSound (Some verdict) diagram more setting chain outcome = outcome ≡ verdict_outcome verdict
MayGiveSound None diagram more setting chain outcome = MayGiveAt chain.kind diagram more setting chain outcome

-- the line where what is given is no input problem of the chain's first one comes before
abbrev pub MayGiveIn : Option (List (ℕ × ℕ)) → ℕ → Setting → Bound → Outcome → Type 0
MayGiveIn diagram more setting chain outcome =
    IsFaultIn chain.first setting outcome ⊎ (IsSettingOf (unnamed chain.first) setting × MayGiveSound (steps_refusal chain) diagram more setting chain outcome)

-- and that of the first fault of the text
abbrev pub MayGiveRead : Option InputFault → Option (List (ℕ × ℕ)) → ℕ → Setting → Bound → Outcome → Type 0
MayGiveRead (Some fault) diagram more setting chain outcome = outcome ≡ fault_outcome fault
MayGiveRead None diagram more setting chain outcome = MayGiveIn diagram more setting chain outcome

-- the chain of a text, from which goes on what is found; with a diagram its maps are by rows
abbrev pub closure_chain : List ℕ → Bound
closure_chain bytes = if has_diagram bytes then by_rows (front_chain bytes) else text_chain (parts_of bytes).front

-- what is given there: behind a diagram there is no input problem
abbrev pub closure_setting : List ℕ → Setting
closure_setting bytes = if has_diagram bytes then Alone else (parts_of bytes).setting

-- what the word may give to a text with a diagram, and to one without
abbrev pub MayGiveBy : Bool → ClosureWord → List ℕ → Outcome → Type 0
MayGiveBy true word bytes outcome = MayGiveRead (diagram_fault bytes) (Some (diagram_edges bytes)) word.steps Alone (front_chain bytes) outcome
MayGiveBy false word bytes outcome = MayGiveRead (parts_of bytes).fault None word.steps (parts_of bytes).setting (text_chain (parts_of bytes).front) outcome

-- what it may give to a text, which has a diagram where it has the line of one
unfoldable pub MayGive : ClosureWord → List ℕ → Outcome → Type 0
MayGive word bytes outcome = MayGiveBy (has_diagram bytes) word bytes outcome

-- ---- calls
-- nothing is given
abbrev pub NoOutcome : Outcome → Type 0
NoOutcome outcome = ⊥

-- what is said of a chain without a further step: all that is to say; or it is taken, but there is no such fixed point
abbrev pub Closes : Setting → Bound → Said → Type 0
Closes setting chain (Closed output) = MayFindBehind NoOutcome setting chain (outcome_of output)
Closes setting chain (Open output) = IsTakenIn setting chain × IsUnfound setting chain (outcome_of output)

-- the fixed point of the closure goes on from the chain, or the answer to it
abbrev pub IsJudgedFixed : Setting → Bound → Bound → Option Output → Type 0
IsJudgedFixed setting chain bound None = GoesOnIn setting Fixed 3 MAX_LABELS chain bound
IsJudgedFixed setting chain bound (Some output) = IsDeclined setting bound (outcome_of output)
