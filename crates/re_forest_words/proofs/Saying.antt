-- What the words may say.
use Rattle.std.proofs.Common.{ℕ, Bool, true, false, cond, ltb, List, Option, Some, None, length, refl}
use Rattle.re_cert.specs.Bounds.{last_problem}
use Rattle.re_chains.specs.ChainTexts.{chain_fault, text_chain}
use Rattle.re_flexible.specs.declared.levels.Flexibility.{Flexibility}
use Rattle.re_flexible.specs.declared.levels.Flexibility.TheVariants.{Flexible, Length, NoSolution}
use Rattle.re_forest_words.specs.Answers.{MayGive, MayGiveRead, flexibility_outcome}
use Rattle.re_forest_words.specs.GreedyAnswers.{MayGive as MayGiveWord, MayGiveGreedy, MayGiveRead as MayGiveGreedyRead, showing_outcome}
use Rattle.re_forest_words.specs.GreedyTexts.{shown_text}
use Rattle.re_forest_words.specs.declared.showing.Showing.{Showing}
use Rattle.re_forest_words.specs.declared.showing.Showing.TheVariants.{NotGreedy, Shown, Unknown}
use Rattle.re_forest_words.specs.declared.words.ForestWord.{ForestWord}
use Rattle.re_forest_words.specs.declared.words.ForestWord.TheVariants.{Flexible as FlexibleWord, Greedy}
use Rattle.re_frame.proofs.Said.{fault_says, says_as}
use Rattle.re_frame.specs.Outcomes.{Outcome, done, too_long}
use Rattle.re_frame.specs.Runs.{MaySay}
use Rattle.re_io.specs.declared.read.TheConstants.{MAX_BYTES}
use Rattle.re_problem.specs.NamedProblems.{NamedProblem}
use Rattle.re_problem.specs.declared.fault.InputFault.{InputFault}

line_says : (names : List (List ℕ)) (flexibility : Flexibility) → MaySay (flexibility_outcome names flexibility).status true
line_says names (Flexible set) = tt
line_says names (Length k) = refl
line_says names NoSolution = refl

read_says : (fault : Option InputFault) (problem : NamedProblem) (outcome : Outcome) → MayGiveRead fault problem outcome → MaySay outcome.status true
read_says (Some fault) problem outcome may = says_as outcome _ may (fault_says fault true)
read_says None problem outcome may = says_as outcome _ may.line (line_says problem.names may.flexibility)

flexible_says : (bytes : List ℕ) (outcome : Outcome) → MayGive bytes outcome → MaySay outcome.status true
unfolding MayGive
flexible_says bytes outcome may = read_says (chain_fault bytes) (last_problem (text_chain bytes)) outcome may

-- ---- `greedy`
text_says : (b : Bool) (text : List ℕ) → MaySay (cond b too_long (done text)).status true
text_says true text = tt
text_says false text = tt

showing_says : (showing : Showing) → MaySay (showing_outcome showing).status true
showing_says (Shown shown) = text_says (ltb MAX_BYTES (length (shown_text shown))) (shown_text shown)
showing_says NotGreedy = refl
showing_says Unknown = refl

greedy_read_says : (most : ℕ) (fault : Option InputFault) (problem : NamedProblem) (outcome : Outcome) → MayGiveGreedyRead most fault problem outcome → MaySay outcome.status true
greedy_read_says most (Some fault) problem outcome may = says_as outcome _ may (fault_says fault true)
greedy_read_says most None problem outcome may = says_as outcome _ may.text (showing_says may.showing)

greedy_says : (most : ℕ) (bytes : List ℕ) (outcome : Outcome) → MayGiveGreedy most bytes outcome → MaySay outcome.status true
unfolding MayGiveGreedy
greedy_says most bytes outcome may = greedy_read_says most (chain_fault bytes) (last_problem (text_chain bytes)) outcome may

pub word_says : (word : ForestWord) (bytes : List ℕ) (outcome : Outcome) → MayGiveWord word bytes outcome → MaySay outcome.status true
word_says FlexibleWord bytes outcome may = flexible_says bytes outcome may
word_says (Greedy most) bytes outcome may = greedy_says most bytes outcome may
