-- What the word tells of a text piece by piece: first what is claimed, then the rest.
use Rattle.std.specs.Prelude.{◌≡◌, ◌≤◌, ℕ, true, false, List, [], ◌∷◌, ◌++◌, codes, None}
use Rattle.re_chains.specs.TwoTexts.{has_line}
use Rattle.re_frame.specs.Outcomes.{Outcome, outcome_of, status_of}
use Rattle.re_frame.specs.Runs.{MaySay}
use Rattle.re_problem.specs.ProblemTexts.{first_fault, lines_of, problem_of}
use Rattle.re_settle.specs.Answers.{by_claim}
use Rattle.re_settle.specs.GivenAnswers.{MaySettle}
use Rattle.re_settle.specs.Lines.{claim_lines}
use Rattle.re_settle.specs.Ways.{IsSettled}
use Rattle.re_settle.specs.declared.claimed.Claimed.{Claimed}
use Rattle.re_settle.specs.declared.claimed.Telling.{Telling}
use Rattle.re_settle.specs.declared.claimed.Telling.TheVariants.{Claims, Whole}
use Rattle.re_settle.specs.declared.words.SettleWord.{SettleWord}

-- the text has no line `== given` and no fault, and this is claimed of its problem, where bounds are taken as often as the word says
pub record IsClaimedOf (word : SettleWord) (bytes : List ℕ) (claimed : Claimed) : Type 0 where
  pub alone : has_line (codes "given") bytes ≡ false
  pub faultless : first_fault 0 1 (lines_of bytes) ≡ None
  pub problem : claimed.problem ≡ problem_of (lines_of bytes)
  pub times : claimed.times ≡ word.times

-- what the word may tell of a text at once: the whole of what it may give, or what is claimed
abbrev pub MayTell : SettleWord → List ℕ → Telling → Type 0
MayTell word bytes (Whole output) = MaySettle word bytes (outcome_of output)
MayTell word bytes (Claims claimed) = IsClaimedOf word bytes claimed

-- so much is known of the problem, where bounds are taken so many times
pub record IsClaim (claimed : Claimed) : Type 0 where
  pub few : claimed.times ≤ 64
  pub known : IsSettled claimed.times claimed.problem claimed.classified

-- what is claimed is known
abbrev pub IsSure : Telling → Type 0
IsSure (Whole output) = Unit {0}
IsSure (Claims claimed) = IsClaim claimed

-- the whole answer is one
abbrev pub Says : Telling → Type 0
Says (Whole output) = MaySay (status_of output.answer) true
Says (Claims claimed) = Unit {0}

-- the lines of what is claimed
abbrev pub front_of : Claimed → List ℕ
front_of claimed = claim_lines claimed.problem claimed.classified.settled

-- the outcome that these lines begin, and the rest ends
abbrev pub told : Claimed → List ℕ → Outcome
told claimed rest = by_claim claimed.classified.settled (front_of claimed ++ rest)

-- the word may give it to each text of whose problem so much is claimed
abbrev pub MayFollow : Claimed → List ℕ → Type 0
MayFollow claimed rest = (word : SettleWord) (bytes : List ℕ) → IsClaimedOf word bytes claimed → MaySettle word bytes (told claimed rest)

-- the last line of the text is ended
abbrev pub IsEnded : List ℕ → Type 0
IsEnded text = (before : List ℕ) × (text ≡ before ++ 10 ∷ [])
