-- The commands of `explore`, and the words that name them. A family of words is an alternative of each definition here.
use Rattle.std.specs.Prelude.{◌≡◌, ℕ, Bool, true, false, ◌&&◌, ◌||◌, List, [], ◌∷◌, ◌++◌, Option, None, Some, option_map, codes, if◌then◌else◌}
use Rattle.std.specs.Str.{bytes_eq}
use Rattle.re_frame.specs.Outcomes.{Outcome, done, within_limit}
use Rattle.re_frame.specs.declared.status.Status.TheVariants.{BadWords}
use Rattle.re_bridge_words.specs.Answers.{bridge_help, bridge_word_of}
use Rattle.re_chain_words.specs.Answers.{MayGive as MayGiveChain, is_judging as chain_judges}
use Rattle.re_chain_words.specs.ChainWords.{chain_help, chain_word_of}
use Rattle.re_closure.specs.ClosureWords.{closure_help, closure_word_of}
use Rattle.re_describe.specs.DescribeWords.{MayDescribe, describe_help, describe_word_of, may_refuse}
use Rattle.re_forest_words.specs.GreedyAnswers.{MayGive as MayGiveForest}
use Rattle.re_forest_words.specs.Words.{IsForestWord, forest_help, forest_word_of}
use Rattle.re_frame.specs.Answers.{MayAnswer}
use Rattle.re_given_words.specs.Words.{given_help, given_word_of}
use Rattle.re_graph_words.specs.Words.{graph_help, graph_word_of}
use Rattle.re_inputs.specs.InputWords.{IsInputWord, input_help, input_outcome, input_word_of}
use Rattle.re_judging.specs.Judging.{MayJudge}
use Rattle.re_judging.specs.Words.{judge_help, names_judge}
use Rattle.re_search_words.specs.RelaxedWords.{MayGive as MayGiveRelaxed, relaxed_help, relaxed_word_of}
use Rattle.re_search_words.specs.Words.{search_help, search_word_of}
use Rattle.re_settle.specs.Words.{settle_help, settle_word_of}
use Rattle.re_explore.specs.Evidence.{MayShow}
use Rattle.re_explore.specs.EvidenceWords.{IsEvidenceWord, evidence_help, evidence_word_of}
use Rattle.re_why.specs.Explaining.{explaining_outcome, names_why, why_help}
use Rattle.re_asking.specs.Beside.{MayGiveBeside}
use Rattle.re_asking.specs.BesideWords.{named_input, own_words}
use Rattle.re_asking.specs.NearWords.{has_line_of, own_lines, wrong_word}
use Rattle.re_asking.specs.declared.beside.FrontText.{FrontText}
use Rattle.re_asking.specs.declared.beside_words.NamedInput.{NamedInput}
use Rattle.re_explore.specs.TextWords.{IsTextWord, MayGiveWord, front_of}
use Rattle.re_explore.specs.declared.command.Command.{Command}
use Rattle.re_explore.specs.declared.command.Command.TheVariants.{Beside, Chains, Describes, Explains, Forests, Help, HelpOn, Inputs, Judges, Reads, Relaxes, Shows}
use Rattle.re_explore.specs.declared.text_words.TextWord.{TextWord}
use Rattle.re_explore.specs.declared.text_words.TextWord.TheVariants.{Bridges, Closes, Givens, Graphs, Searches, Settles}

abbrev pub is_help : List (List ℕ) → Bool
is_help (word ∷ []) = bytes_eq (codes "help") word
is_help words = false

-- the first of two commands, where there is one
abbrev pub or_else : Option Command → Option Command → Option Command
or_else (Some command) other = Some command
or_else None other = other

-- the command of a word whose text may have an input problem
abbrev pub reading : Option TextWord → Option Command
reading word = option_map Reads word

-- the command that goes on from a chain
abbrev pub command_over_chains : List (List ℕ) → Option Command
command_over_chains words =
    or_else (option_map Chains (chain_word_of words))
    (or_else (reading (option_map Searches (search_word_of words)))
    (or_else (reading (option_map Closes (closure_word_of words)))
    (or_else (option_map Relaxes (relaxed_word_of words)) (reading (option_map Bridges (bridge_word_of words))))))

-- the command that tells of a certificate, or of texts of evidence
abbrev pub command_over_certificates : List (List ℕ) → Option Command
command_over_certificates words =
    if names_why words then Some Explains else or_else (option_map Describes (describe_word_of words)) (if names_judge words then Some Judges else None)

-- the command that tells of a problem, alone or beside an input problem or a graph
abbrev pub command_over_problems : List (List ℕ) → Option Command
command_over_problems words =
    or_else (option_map Forests (forest_word_of words))
    (or_else (reading (option_map Graphs (graph_word_of words)))
    (or_else (reading (option_map Givens (given_word_of words)))
    (or_else (option_map Inputs (input_word_of words))
    (or_else (reading (option_map Settles (settle_word_of words))) (option_map Shows (evidence_word_of words))))))

-- the command that these words name without an input problem behind them
unfoldable pub command_alone : List (List ℕ) → Option Command
command_alone words = if is_help words then Some Help else or_else (command_over_certificates words) (or_else (command_over_problems words) (command_over_chains words))

-- the word with this input problem behind it, where both are named, and it reads one
abbrev pub word_beside : TextWord → Option FrontText → Option NamedInput → Option Command
word_beside word (Some front) (Some input) = Some (Beside (record { word = word; front = front; input = input }))
word_beside word front input = None

abbrev pub command_beside : Option Command → Option NamedInput → Option Command
command_beside (Some (Reads word)) input = word_beside word (front_of word) input
command_beside command input = None

-- whether it is the word of a line of help
abbrev pub is_chain_word : List ℕ → Bool
is_chain_word word =
    has_line_of word chain_help || (has_line_of word why_help || (has_line_of word search_help || (has_line_of word closure_help
    || (has_line_of word relaxed_help || (has_line_of word bridge_help || (has_line_of word describe_help || has_line_of word judge_help))))))

abbrev pub is_problem_word : List ℕ → Bool
is_problem_word word =
    has_line_of word settle_help || (has_line_of word evidence_help || (has_line_of word forest_help || (has_line_of word graph_help
    || (has_line_of word given_help || has_line_of word input_help))))

-- `help` behind such a word
abbrev pub is_help_on : List (List ℕ) → Bool
is_help_on (word ∷ help ∷ []) = bytes_eq (codes "help") help && (is_chain_word word || is_problem_word word)
is_help_on words = false

-- the command with a named input problem behind its word, or the help on a word
abbrev pub command_behind : List (List ℕ) → Option Command
command_behind words = if is_help_on words then Some HelpOn else command_beside (command_alone (own_words words)) (named_input words)

-- the command that these words name
unfoldable pub command_of : List (List ℕ) → Option Command
command_of words = or_else (command_alone words) (command_behind words)

-- the numbers of a command are such as words can give it
abbrev pub Fits : Command → Type 0
Fits (Reads word) = IsTextWord word
Fits (Beside beside) = IsTextWord beside.word
Fits (Inputs word) = IsInputWord word
Fits Help = Unit {0}
Fits HelpOn = Unit {0}
Fits (Chains word) = Unit {0}
Fits Explains = Unit {0}
Fits (Relaxes word) = Unit {0}
Fits (Describes word) = Unit {0}
Fits Judges = Unit {0}
Fits (Shows word) = IsEvidenceWord word
Fits (Forests word) = IsForestWord word

-- the lines of help of the words over chains and certificates
unfoldable pub chain_lines : List ℕ
chain_lines = chain_help ++ why_help ++ search_help ++ closure_help ++ relaxed_help ++ bridge_help ++ describe_help ++ judge_help

-- and of those over problems
unfoldable pub problem_lines : List ℕ
problem_lines = settle_help ++ evidence_help ++ forest_help ++ graph_help ++ given_help ++ input_help

-- and those of the words of `re`, a block of its own, and a hint
unfoldable pub lines_of_re : List ℕ
lines_of_re = codes "\nre check: reads a certificate, gives the verdict on it\nre zero: reads a problem, gives whether it is solvable without communication\nre rounds K: reads a problem, gives its number of rounds, up to K\nre lower K M, re upper K M, re fixed K M: reads a problem, gives a certificate with at most K steps, with at most M labels merged or left out in each\nre read: reads a problem, gives its canonical text\nre step N: reads a problem, gives the N-th derived problem\nre universal: reads a problem, gives the maximal rows of its passive side\nre diagram active, re diagram passive: reads a problem, gives the strength diagram of this side\nre merge, re trim: reads a problem, gives it with equal labels merged, or without covered labels\nre relax, re restrict, re rename: reads two problems and a map between them, gives whether it leads from the one to the other\nre extract: reads the certificate of an upper bound, gives its algorithm as a table\nre run: reads the certificate of an upper bound, a tree and deliveries, gives what the nodes output\nre table, re faster, re slower: reads a table, gives whether it solves its problem, or one with a round less or more\nre family NAME A P N, re make N: reads nothing, gives a problem of a family, or the verdict on one step from a colouring\n\nA label that stands on one side of a problem alone is in no solution: look for a typo\nBehind words that read a line == given its input problem may be named instead: given N colours, given N edge colours, given sides, given orientation, given both\n"

-- the lines of help of all words of `explore`
unfoldable pub word_lines : List ℕ
word_lines = codes "help: reads nothing, gives these lines\n" ++ chain_lines ++ problem_lines

-- all lines of help
unfoldable pub help_text : List ℕ
help_text = word_lines ++ lines_of_re

-- those of the first of these words
unfoldable pub help_on : List (List ℕ) → List ℕ
help_on [] = []
help_on (word ∷ words) = own_lines word word_lines

-- words that are no command are answered by the lines of help of the first one or the words that it is near to, and none by all lines of help
unfoldable pub bad_text : List (List ℕ) → List ℕ
bad_text [] = codes "words: not a command\n" ++ help_text
bad_text (word ∷ words) = wrong_word word word_lines

abbrev pub bad_words : List (List ℕ) → Outcome
bad_words words = record { status = BadWords; text = bad_text words }

-- the outcomes that a command may have that these words name, where it reads these bytes: one alone, but where it searches or describes
abbrev pub IsOutcome : List (List ℕ) → Option Command → List ℕ → Outcome → Type 0
IsOutcome words None bytes outcome = outcome ≡ bad_words words
IsOutcome words (Some Help) bytes outcome = outcome ≡ done help_text
IsOutcome words (Some HelpOn) bytes outcome = outcome ≡ done (help_on words)
IsOutcome words (Some (Chains word)) bytes outcome = MayAnswer (MayGiveChain word) bytes outcome
IsOutcome words (Some Explains) bytes outcome = outcome ≡ within_limit explaining_outcome bytes
IsOutcome words (Some (Reads word)) bytes outcome = MayAnswer (MayGiveWord word) bytes outcome
IsOutcome words (Some (Beside beside)) bytes outcome = MayAnswer (MayGiveBeside (MayGiveWord beside.word) beside.front beside.input) bytes outcome
IsOutcome words (Some (Relaxes word)) bytes outcome = MayAnswer (MayGiveRelaxed word) bytes outcome
IsOutcome words (Some (Describes word)) bytes outcome = MayAnswer (MayDescribe word) bytes outcome
IsOutcome words (Some Judges) bytes outcome = MayAnswer MayJudge bytes outcome
IsOutcome words (Some (Shows word)) bytes outcome = MayAnswer MayShow bytes outcome
IsOutcome words (Some (Forests word)) bytes outcome = MayAnswer (MayGiveForest word) bytes outcome
IsOutcome words (Some (Inputs word)) bytes outcome = outcome ≡ input_outcome word

-- whether the command reads its input
abbrev pub is_reading : Option Command → Bool
is_reading (Some (Chains word)) = true
is_reading (Some Explains) = true
is_reading (Some (Reads word)) = true
is_reading (Some (Beside beside)) = true
is_reading (Some (Relaxes word)) = true
is_reading (Some (Describes word)) = true
is_reading (Some Judges) = true
is_reading (Some (Shows word)) = true
is_reading (Some (Forests word)) = true
is_reading (Some (Inputs word)) = false
is_reading (Some Help) = false
is_reading (Some HelpOn) = false
is_reading None = false

-- whether its answer can be No
abbrev pub is_judging : Option Command → Bool
is_judging (Some (Chains word)) = chain_judges word
is_judging (Some Explains) = true
is_judging (Some (Reads word)) = true
is_judging (Some (Beside beside)) = true
is_judging (Some (Relaxes word)) = true
is_judging (Some (Shows word)) = true
is_judging (Some (Forests word)) = true
is_judging (Some (Inputs word)) = false
is_judging (Some (Describes word)) = may_refuse word
is_judging (Some Judges) = true
is_judging (Some Help) = false
is_judging (Some HelpOn) = false
is_judging None = false

-- whether its text is written piece by piece, the claim before what is found of the class
abbrev pub is_telling : Option Command → Bool
is_telling (Some (Reads (Settles word))) = true
is_telling command = false
