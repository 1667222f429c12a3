-- The report on a bound given an input problem, block by block.
use Rattle.std.specs.Prelude.{◌≡◌, ℕ, ◌==◌, Bool, true, false, List, [], ◌∷◌, ◌++◌, codes, if◌then◌else◌, length, map, Option, None, Some}
use Rattle.re_cert.specs.Bounds.{Bound}
use Rattle.re_cert.specs.declared.certificate.Kind.{Kind}
use Rattle.re_chains.specs.OverChains.{steps_refusal}
use Rattle.re_check.specs.declared.verdict.Verdict.{Verdict}
use Rattle.re_check.specs.declared.verdict.Verdict.TheVariants.{Accepted}
use Rattle.re_frame.specs.Outcomes.{Outcome}
use Rattle.re_frame.specs.declared.status.Status.{Status}
use Rattle.re_frame.specs.declared.status.Status.TheVariants.{Done}
use Rattle.re_settings.specs.Verdicts.{given_outcome}
use Rattle.re_settings.specs.declared.bound_words.BoundWord.TheVariants as word
use Rattle.re_problem.specs.NamedProblems.{NamedProblem}
use Rattle.re_describe.specs.Blocks.{body_blocks}
use Rattle.re_describe.specs.GivenHeads.{given_check_text, given_claim, given_graph_claim, given_model, lines_block}
use Rattle.re_describe.specs.InputNames.{input_text}
use Rattle.re_describe.specs.Reports.{Says, SaysRows}
use Rattle.re_describe.specs.Writing.{WritesBy}
use Rattle.re_describe.specs.declared.blocks.Block.TheVariants.{Notation}
use Rattle.re_describe.specs.declared.given_blocks.GivenBlock.{GivenBlock}
use Rattle.re_describe.specs.declared.given_blocks.GivenBlock.TheVariants as given

-- ---- the blocks
-- the verdict on the steps alone: that on the first that fails, or that all is well so far
abbrev pub verdict_or : Option Verdict → Bound → Verdict
verdict_or (Some refusal) bound = refusal
verdict_or None bound = Accepted bound.kind (length bound.steps)

abbrev pub steps_verdict : Bound → Verdict
steps_verdict bound = verdict_or (steps_refusal bound) bound

-- where the passive nodes are edges, the claim in rounds of the graph
abbrev pub given_graph_blocks : ℕ → List GivenBlock
given_graph_blocks passive = if passive == 2 then given.Graph ∷ [] else []

-- the title, the lines of `given`, what they say, and the input problem
abbrev pub given_front_blocks : ℕ → List GivenBlock
given_front_blocks passive =
    given.Title ∷ given.Lines ∷ given.Claim ∷ given.Model ∷ (given_graph_blocks passive ++ (given.Input ∷ given.InputActive ∷ given.InputPassive ∷ given.Of Notation ∷ []))

-- behind that the problems, the steps and the way back of a report on a bound of this kind, with so many steps and this verdict, and how to check it
abbrev pub given_blocks_with : Verdict → ℕ → ℕ → Kind → List GivenBlock
given_blocks_with verdict passive steps kind = given_front_blocks passive ++ (map given.Of (body_blocks verdict steps kind) ++ given.Check ∷ [])

-- the report on a bound
abbrev pub given_report_of : Bound → List GivenBlock
given_report_of bound = given_blocks_with (steps_verdict bound) bound.first.passive.degree (length bound.steps) bound.kind

-- ---- what they say
abbrev pub is_done : Status → Bool
is_done Done = true
is_done status = false

-- what `given` answers, and whether the bound holds
abbrev pub judged : NamedProblem → Bound → Outcome
judged input bound = given_outcome word.Given input bound

abbrev pub holds : NamedProblem → Bound → Bool
holds input bound = is_done (judged input bound).status

-- the text is what the block of a report on the bound given the input problem says
abbrev pub SaysGiven : NamedProblem → Bound → GivenBlock → List ℕ → Type 0
SaysGiven input bound given.Title text = text ≡ codes "# Report on a certificate, given a solution of an input problem\n"
SaysGiven input bound given.Lines text = text ≡ lines_block (judged input bound).text
SaysGiven input bound given.Claim text = text ≡ given_claim (holds input bound) bound.kind (length bound.steps)
SaysGiven input bound given.Model text = text ≡ given_model bound.first.active.degree bound.first.passive.degree
SaysGiven input bound given.Graph text = text ≡ given_graph_claim (holds input bound) bound.kind (length bound.steps)
SaysGiven input bound given.Input text = text ≡ input_text input
SaysGiven input bound given.InputActive text = SaysRows (codes "\nActive constraint of the input problem") input.names input.active text
SaysGiven input bound given.InputPassive text = SaysRows (codes "\nPassive constraint of the input problem") input.names input.passive text
SaysGiven input bound (given.Of block) text = Says bound block text
SaysGiven input bound given.Check text = text ≡ given_check_text (holds input bound)

-- the text is what the blocks say, one behind the other
abbrev pub WritesGiven : NamedProblem → Bound → List GivenBlock → List ℕ → Type 0
WritesGiven input bound blocks text = WritesBy (SaysGiven input bound) blocks text

-- the text is a report on the bound given the input problem, in Markdown
abbrev pub IsGivenMarkdown : NamedProblem → Bound → List ℕ → Type 0
IsGivenMarkdown input bound text = WritesGiven input bound (given_report_of bound) text
