-- What each block of a report says, and reports in Markdown.
use Rattle.std.specs.Prelude.{◌≡◌, ℕ, ◌-◌, List, [], ◌++◌, codes, flat_map, length, MatchOption, Option, Some, None, slice_get}
use Rattle.std.specs.Fmt.{decimal}
use Rattle.re_cert.specs.Bounds.{Bound, last_problem, problem_at}
use Rattle.re_check.specs.Verdicts.{verdict_of}
use Rattle.re_check.specs.declared.clause.Clause.{Clause}
use Rattle.re_check.specs.declared.clause.Clause.TheVariants.{L1, L2, L3, L4, L5, U1, U2, U3, U4, End, Back}
use Rattle.re_check.specs.declared.verdict.Verdict.{Verdict}
use Rattle.re_check.specs.declared.verdict.Verdict.TheVariants.{Accepted, Refused}
use Rattle.re_flexible.specs.Lengths.{IsFlexibility}
use Rattle.re_flexible.specs.declared.levels.Flexibility.{Flexibility}
use Rattle.re_flexible.specs.declared.levels.Flexibility.TheVariants.{Flexible, Length, NoSolution}
use Rattle.re_frame.specs.Check.{verdict_line}
use Rattle.re_problem.specs.NamedProblems.{NamedProblem, unnamed}
use Rattle.re_labels.specs.Constraints.{Constraint}
use Rattle.re_describe.specs.Blocks.{report_of}
use Rattle.re_describe.specs.Heads.{claim, graph_claim, identifiers_claim, model, problem_text}
use Rattle.re_describe.specs.Pieces.{index_of, items_text, listed, shown}
use Rattle.re_describe.specs.Spelling.{Condenses}
use Rattle.re_describe.specs.Steps.{SaysStep}
use Rattle.re_describe.specs.Writing.{WritesBy}
use Rattle.re_describe.specs.declared.blocks.Block.{Block}
use Rattle.re_describe.specs.declared.blocks.Block.TheVariants.{Active, Check, Claim, Fails, Graph, Identifiers, Labels, Line, Model, Notation, Order, Passive, Problem, Step, Title, WayBack}

-- ---- constraints
-- a row, as a line that stands as it is
abbrev pub row_line : List (List ℕ) → List (List ℕ) → List ℕ
row_line names row = codes "    " ++ (items_text names row ++ codes "\n")

-- a constraint in these rows, or that it isn't listed
abbrev pub rows_text : List ℕ → List (List ℕ) → Option (List (List (List ℕ))) → List ℕ
rows_text title names None = title ++ codes ": more than 4096 configurations, which are not listed here\n"
rows_text title names (Some rows) = title ++ (codes ", lines: " ++ (decimal (length rows) ++ (codes "\n\n" ++ flat_map (row_line names) rows)))

-- the groups of the constraint, of so many labels
pub record SaysRows (title : List ℕ) (names : List (List ℕ)) (constraint : Constraint) (text : List ℕ) : Type 0 where
  pub rows : Option (List (List (List ℕ)))
  pub condensed : Condenses constraint (length names) rows
  pub said : text ≡ rows_text title names rows

-- ---- the order of rounds of a problem that takes at least the order of log N
abbrev pub order_text : List (List ℕ) → Flexibility → List ℕ
order_text names (Flexible set) =
    codes "\nThe labels `" ++ (listed names [] (codes "`, `") set
    ++ codes "` are a flexible set (`re_flexible::flexibility_of`), so on these forests problem 0 takes at most the order of $\\log N$ rounds, too (`re_forests::below_log_law`): exactly that order.\n")
order_text names (Length count) = []
order_text names NoSolution = codes "\nNo set of its labels is left by trimming (`re_flexible::flexibility_of`), so forests of enough nodes have no solution of problem 0 (`re_forests::never_law`).\n"

-- it is that of the flexible sets, or levels, that the problem has
pub record SaysOrder (problem : NamedProblem) (text : List ℕ) : Type 0 where
  pub flexibility : Flexibility
  pub is : IsFlexibility (unnamed problem) flexibility
  pub said : text ≡ order_text problem.names flexibility

-- ---- the way back
-- a label of the last problem, and what it becomes
abbrev pub pair_with : List (List ℕ) → List ℕ → List (List ℕ) → List ℕ → ℕ × ℕ → List ℕ
pair_with last last_index target target_index pair =
    codes "    " ++ (shown last last_index pair.0 ++ (codes " becomes " ++ (shown target target_index pair.1 ++ codes "\n")))

abbrev pub back_title : ℕ → ℕ → List ℕ
back_title steps back = (codes "\n## The way back\n\nProblem " ++ decimal steps) ++ (codes " becomes problem " ++ (decimal back ++ codes " under this renaming:\n\n"))

-- all of them, from the problem behind so many steps to that of another number
abbrev pub pairs_text : ℕ → List (List ℕ) → ℕ → List (List ℕ) → List (ℕ × ℕ) → List ℕ
pairs_text steps last back target pairs = back_title steps back ++ flat_map (pair_with last (index_of steps) target (index_of back)) pairs

abbrev pub back_text : Bound → List ℕ
back_text bound = pairs_text (length bound.steps) (last_problem bound).names bound.back (problem_at bound bound.back).names bound.renaming

-- ---- marks, and words that are the same in each report
-- the name of a clause, and what it asks
abbrev pub asked : Clause → List ℕ
asked L1 = codes "L1: the degrees of the next problem are those of the one before, exchanged"
asked L2 = codes "L2: the rows are the maximal rows of the passive constraint before, in order"
asked L3 = codes "L3: by sets, the entries have exactly the sets that occur in the rows, each once and ascending; by rows, there are as many images as rows"
asked L4 = codes "L4: the image of each row is an active configuration of the next problem"
asked L5 = codes "L5: for each multiset of the sets that occur from which some choice is active before, each choice of a label that each of them becomes is passive in the next problem"
asked U1 = codes "U1: the degrees of the next problem are those of the one before, exchanged"
asked U2 = codes "U2: the entries have exactly the labels of the next problem, each once and ascending, each with a nonempty set of labels of the problem before"
asked U3 = codes "U3: the sets of each active configuration of the next problem are a good row of the passive constraint before: every choice from them is passive"
asked U4 = codes "U4: from the sets of each passive configuration of the next problem some choice is active before"
asked End = codes "END: the last problem is not solvable without communication, or in an upper bound it is"
asked Back = codes "BACK: the first labels of the renaming are exactly those of the last problem, each once and ascending; it is one to one, and makes the last problem the one to which it goes back"

abbrev pub fails_text : Clause → List ℕ
fails_text clause = codes "\n**The check fails here, at clause " ++ (asked clause ++ codes ". `explore why` shows what refutes it.**\n")

abbrev pub step_text : ℕ → List ℕ
step_text number = codes "\n## Step " ++ (decimal number ++ (codes ", from problem " ++ (decimal (number - 1) ++ (codes " to problem " ++ (decimal number ++ codes "\n")))))

abbrev pub notation_text : List ℕ
notation_text = codes "\n## Notation\n\nA line of a constraint is a row of sets of labels, one for each edge of a node; `[AB]` is the set of `A` and `B`, and `A^2` stands for `A A`. Each choice of one label of each set is a configuration, and the lines of a constraint have all its configurations and no others. Labels of different problems have nothing to do with each other, also where they have one name: in steps `A_2` is the label `A` of problem 2. A label of a problem behind a step stands for a set of labels of the problem before: `<A_1,B_1>` is the set of all labels that are at least as strong as `A` or `B` around passive nodes of problem 1, `[A_1 B_1]` that of `A` and `B` alone. Where several sets became one label, it is merged.\n"

abbrev pub exit_code : Verdict → List ℕ
exit_code (Accepted kind steps) = codes "0"
exit_code (Refused step clause) = codes "1"

abbrev pub check_text : Verdict → List ℕ
check_text verdict =
    codes "\n## How to check it\n\nThat problem 0 is the problem that is meant is for the reader to see. Each step and the end can be checked by hand, by the clauses that docs/DEFINITIONS.md of the repository `re` states; or by `re check < FILE`, where FILE holds the certificate, which prints the line at the top of this report and ends with exit status " ++ (exit_code verdict
    ++ codes ". That it accepts exactly what meets these clauses, and that an accepted certificate means what the claim above says, is proved of its source by machine. Of a problem text `explore begin lower` gives the certificate.\n")

-- ---- blocks
-- the text is what the block of a report on the bound says
abbrev pub Says : Bound → Block → List ℕ → Type 0
Says bound Title text = text ≡ codes "# Report on a certificate\n"
Says bound Line text = text ≡ codes "\n    " ++ verdict_line (verdict_of bound)
Says bound Claim text = text ≡ claim (verdict_of bound)
Says bound Model text = text ≡ model bound.first.active.degree bound.first.passive.degree
Says bound Graph text = text ≡ graph_claim (verdict_of bound)
Says bound Identifiers text = text ≡ identifiers_claim bound.first.active.degree (verdict_of bound)
Says bound Order text = SaysOrder bound.first text
Says bound Notation text = text ≡ notation_text
Says bound (Problem number) text = text ≡ problem_text number (problem_at bound number)
Says bound (Active number) text = SaysRows (codes "\nActive constraint") (problem_at bound number).names (problem_at bound number).active text
Says bound (Passive number) text = SaysRows (codes "\nPassive constraint") (problem_at bound number).names (problem_at bound number).passive text
Says bound (Step number) text = text ≡ step_text number
Says bound (Labels number) text = MatchOption (slice_get bound.steps (number - 1)) (text ≡ []) (λ s. SaysStep (problem_at bound (number - 1)) (number - 1) s text)
Says bound (Fails clause) text = text ≡ fails_text clause
Says bound WayBack text = text ≡ back_text bound
Says bound Check text = text ≡ check_text (verdict_of bound)

-- the text is what the blocks say, one behind the other
abbrev pub Writes : Bound → List Block → List ℕ → Type 0
Writes bound blocks text = WritesBy (Says bound) blocks text

-- the text is a report on the bound in Markdown
abbrev pub IsMarkdown : Bound → List ℕ → Type 0
IsMarkdown bound text = Writes bound (report_of bound) text
