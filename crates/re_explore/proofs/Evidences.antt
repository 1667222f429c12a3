-- What `judge` tells of evidence is of its problem.
use Rattle.std.proofs.Common.{◌≡◌, List, ℕ, true, refl, sym, ap, ◌∙◌, subst, inl, inr, Option, None, Some}
use Rattle.re_chains.proofs.WordsGiven.{fault_not_done}
use Rattle.re_frame.specs.Outcomes.{Outcome, refused, too_long}
use Rattle.re_frame.proofs.Said.{fault_says, says_as}
use Rattle.re_frame.specs.Runs.{MaySay}
use Rattle.re_frame.specs.TextFaults.{fault_outcome}
use Rattle.re_frame.specs.declared.status.Status.{Status}
use Rattle.re_frame.specs.declared.status.Status.TheVariants.{Done}
use Rattle.re_judging.specs.Joints.{first_part}
use Rattle.re_judging.specs.Judging.{IsTold, IsToldOf, JudgeLaw, MayJudge}
use Rattle.re_judging.specs.PartVerdicts.{IsPart}
use Rattle.re_judging.specs.declared.types.Judged.{Judged}
use Rattle.re_judging.specs.declared.types.Judged.TheVariants.{Holds, Refused}
use Rattle.re_problem.specs.NamedProblems.{NamedProblem}
use Rattle.re_problem.specs.ProblemTexts.{first_fault, lines_of, problem_of}
use Rattle.re_problem.specs.declared.fault.InputFault.{InputFault}
use Rattle.re_explore.proofs.PartProblems.{part_problem}
use Rattle.re_explore.specs.Evidence.{EvidenceLaw, IsEvidence, IsNothing, IsOf, IsOfFirst, IsShowing, MayShow, MayShowRead, nothing_line}

-- what comes of the text in another way holds too, and is of the same problem, where it is told
same_part : (problem : NamedProblem) (bytes : List ℕ) (outcome : Outcome) (first other : Judged) → IsPart bytes first → IsToldOf first outcome → IsPart bytes other → IsOf problem other
    → IsOf problem first
same_part problem bytes outcome (Refused output) other a told b same = absurd told
same_part problem bytes outcome (Holds part) (Refused output) a told b same = absurd same
same_part problem bytes outcome (Holds part) (Holds other) a told b same = part_problem bytes part other a b ∙ same

-- where `judge` answers Done and the first part is of this problem, so is the one that it judged
pub of_first : JudgeLaw → (problem : NamedProblem) (text : List ℕ) (outcome : Outcome) → (may : MayJudge text outcome) → outcome.status ≡ Done → IsOfFirst problem text
    → IsOf problem may.first
of_first law problem text outcome may done (other, part, same) =
    same_part problem (first_part text) outcome may.first other may.judged (law text outcome may done) part same

-- what is told of that part is told of this problem
told_of : (problem : NamedProblem) (outcome : Outcome) (first : Judged) → IsToldOf first outcome → IsOf problem first → IsTold problem outcome
told_of problem outcome (Refused output) told same = absurd told
told_of problem outcome (Holds part) told same = subst (λ (p : NamedProblem). IsTold p outcome) same told

-- whenever `judge` answers Done to evidence, what it tells is true of the problem
pub evidence_told : JudgeLaw → EvidenceLaw
evidence_told law problem text evidence outcome may done =
    let told : IsToldOf may.first outcome = law text outcome may done in
    told_of problem outcome may.first told
    (same_part problem (first_part text) outcome may.first evidence.may.first may.judged told evidence.may.judged evidence.of_problem)

-- ---- what is written with Done
-- another outcome isn't Done
not_done : (outcome given : Outcome) → outcome ≡ given → (given.status ≡ Done → ⊥) → outcome.status ≡ Done → ⊥
not_done outcome given is other done = other (sym (ap (λ (o : Outcome). o.status) is) ∙ done)

no_nothing : (problem : NamedProblem) (text : List ℕ) (outcome : Outcome) → IsNothing problem text outcome → outcome.status ≡ Done → ⊥
no_nothing problem text outcome (inl (is, long)) done = not_done outcome too_long is (λ e. cc) done
no_nothing problem text outcome (inr (is, unjudged)) done = not_done outcome (refused nothing_line) is (λ e. cc) done

shown_worth : (problem : NamedProblem) (outcome : Outcome) → IsShowing problem outcome → outcome.status ≡ Done → IsEvidence problem outcome.text
shown_worth problem outcome (inl shown) done = shown.evidence
shown_worth problem outcome (inr unshown) done = absurd (no_nothing problem _ outcome unshown.nothing done)

read_worth : (fault : Option InputFault) (problem : NamedProblem) (outcome : Outcome) → MayShowRead fault problem outcome → outcome.status ≡ Done → IsEvidence problem outcome.text
read_worth (Some fault) problem outcome is done = absurd (not_done outcome (fault_outcome fault) is (fault_not_done fault) done)
read_worth None problem outcome showing done = shown_worth problem outcome showing done

-- what the word writes with Done is evidence of the problem of its text
pub evidence_worth : (bytes : List ℕ) (outcome : Outcome) → MayShow bytes outcome → outcome.status ≡ Done → IsEvidence (problem_of (lines_of bytes)) outcome.text
unfolding MayShow
evidence_worth bytes outcome may done = read_worth (first_fault 0 1 (lines_of bytes)) (problem_of (lines_of bytes)) outcome may done

-- ---- what the word may say
nothing_says : (problem : NamedProblem) (text : List ℕ) (outcome : Outcome) → IsNothing problem text outcome → MaySay outcome.status true
nothing_says problem text outcome (inl (is, long)) = says_as outcome too_long is tt
nothing_says problem text outcome (inr (is, unjudged)) = says_as outcome (refused nothing_line) is refl

showing_says : (problem : NamedProblem) (outcome : Outcome) → IsShowing problem outcome → MaySay outcome.status true
showing_says problem outcome (inl shown) = subst (λ (status : Status). MaySay status true) (sym shown.status) tt
showing_says problem outcome (inr unshown) = nothing_says problem _ outcome unshown.nothing

read_says : (fault : Option InputFault) (problem : NamedProblem) (outcome : Outcome) → MayShowRead fault problem outcome → MaySay outcome.status true
read_says (Some fault) problem outcome is = says_as outcome (fault_outcome fault) is (fault_says fault true)
read_says None problem outcome showing = showing_says problem outcome showing

pub show_says : (bytes : List ℕ) (outcome : Outcome) → MayShow bytes outcome → MaySay outcome.status true
unfolding MayShow
show_says bytes outcome may = read_says (first_fault 0 1 (lines_of bytes)) (problem_of (lines_of bytes)) outcome may
