-- The blocks of a report on a bound.
use Rattle.std.specs.Prelude.{ℕ, ◌==◌, ◌+◌, not, ◌||◌, List, [], ◌∷◌, ◌++◌, flat_map, if◌then◌else◌, length}
use Rattle.re_labels.specs.Lists.{count_from}
use Rattle.re_cert.specs.Bounds.{Bound, is_fixed}
use Rattle.re_cert.specs.declared.certificate.Kind.{Kind}
use Rattle.re_cert.specs.declared.certificate.Kind.TheVariants.{Fixed}
use Rattle.re_check.specs.Verdicts.{verdict_of}
use Rattle.re_check.specs.declared.clause.Clause.TheVariants.{Back, End}
use Rattle.re_check.specs.declared.verdict.Verdict.{Verdict}
use Rattle.re_check.specs.declared.verdict.Verdict.TheVariants.{Accepted, Refused}
use Rattle.re_frame.specs.Check.{is_final}
use Rattle.re_describe.specs.declared.blocks.Block.{Block}
use Rattle.re_describe.specs.declared.blocks.Block.TheVariants.{Active, Check, Claim, Fails, Graph, Identifiers, Labels, Line, Model, Notation, Order, Passive, Problem, Step, Title, WayBack}

-- where the passive nodes are edges, the claim in rounds of the graph
abbrev pub graph_blocks : ℕ → List Block
graph_blocks passive = if passive == 2 then Graph ∷ [] else []

-- of an accepted certificate, what it says where nodes have unique identifiers; after a fixed point, of the order of rounds
abbrev pub identifier_blocks : Verdict → List Block
identifier_blocks (Accepted Fixed steps) = Identifiers ∷ Order ∷ []
identifier_blocks (Accepted kind steps) = Identifiers ∷ []
identifier_blocks (Refused step clause) = []

-- the title, the line of `check`, what it says, and how constraints and labels are written
abbrev pub front_blocks : Verdict → ℕ → List Block
front_blocks verdict passive = Title ∷ Line ∷ Claim ∷ Model ∷ (graph_blocks passive ++ (identifier_blocks verdict ++ Notation ∷ []))

-- the problem of a number, and its two constraints
abbrev pub problem_blocks : ℕ → List Block
problem_blocks number = Problem number ∷ Active number ∷ Passive number ∷ []

-- the clause that fails, where it is one of the step of this number that fails first
abbrev pub step_mark : Verdict → ℕ → List Block
step_mark (Accepted kind steps) number = []
step_mark (Refused step clause) number = if is_final clause || not (step == number) then [] else Fails clause ∷ []

-- END, where it fails first
abbrev pub end_mark : Verdict → List Block
end_mark (Refused step End) = Fails End ∷ []
end_mark verdict = []

-- BACK, where it fails first
abbrev pub back_mark : Verdict → List Block
back_mark (Refused step Back) = Fails Back ∷ []
back_mark verdict = []

-- a step by its number, what its labels stand for, and the problem to which it leads
abbrev pub step_blocks : Verdict → ℕ → List Block
step_blocks verdict number = Step number ∷ (step_mark verdict number ++ (Labels number ∷ problem_blocks number))

-- the way back of a fixed point
abbrev pub back_blocks : Verdict → Kind → List Block
back_blocks verdict kind = if is_fixed kind then WayBack ∷ back_mark verdict else []

-- the problems of a bound of this kind, with so many steps and this verdict, the steps between them, and the way back
abbrev pub body_blocks : Verdict → ℕ → Kind → List Block
body_blocks verdict steps kind =
    problem_blocks 0 ++ (flat_map (λ place. step_blocks verdict (place + 1)) (count_from 0 steps) ++ (end_mark verdict ++ back_blocks verdict kind))

-- the blocks of a report on such a bound, whose first problem has passive nodes of this degree
abbrev pub blocks_with : Verdict → ℕ → ℕ → Kind → List Block
blocks_with verdict passive steps kind = front_blocks verdict passive ++ (body_blocks verdict steps kind ++ Check ∷ [])

-- the report on a bound
abbrev pub report_of : Bound → List Block
report_of bound = blocks_with (verdict_of bound) bound.first.passive.degree (length bound.steps) bound.kind
