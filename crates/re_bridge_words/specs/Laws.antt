-- What the answer `no` means.
use Rattle.std.specs.Prelude.{◌≡◌, ℕ, List, codes}
use Rattle.re_problem.specs.NamedProblems.{IsNamedProblem, NamedProblem, unnamed}
use Rattle.re_problem.specs.Steps.{IsUpperStep, LowerMap, SetEntry}
use Rattle.re_cert.specs.Bounds.{Bound, last_problem}
use Rattle.re_cert.specs.declared.certificate.Kind.{Kind}
use Rattle.re_cert.specs.declared.certificate.Kind.TheVariants.{Fixed, Lower, Upper}
use Rattle.re_chains.specs.Chains.{chain_of}
use Rattle.re_chains.specs.TwoTexts.{back_problem, front_bound}
use Rattle.re_frame.specs.Outcomes.{refused}
use Rattle.re_bridge.specs.Laws.{Meets}
use Rattle.re_bridge_words.specs.BridgeWords.{bridge_outcome, upper_outcome}

-- by no map does a lower step from the one problem to the other meet its clauses
abbrev pub NoLowerStep : NamedProblem → NamedProblem → Type 0
NoLowerStep before next = (map : LowerMap) → Meets before next map → ⊥

-- by no sets does an upper step lead from the one problem to the other
abbrev pub NoUpperStep : NamedProblem → NamedProblem → Type 0
NoUpperStep before next = (entries : List SetEntry) → IsUpperStep (unnamed before) (unnamed next) entries → ⊥

-- where the answer to a chain of kind lower is `no`, no lower step leads from its last problem to the given one
abbrev pub NoLaw : Type 0
NoLaw = (next : NamedProblem) (chain : Bound) → IsNamedProblem (last_problem chain) → IsNamedProblem next → bridge_outcome next chain ≡ refused (codes "no\n")
    → NoLowerStep (last_problem chain) next

-- where the answer to a chain of kind upper is `no`, no upper step leads from its last problem to the given one
abbrev pub NoUpperLaw : Type 0
NoUpperLaw = (next : NamedProblem) (chain : Bound) → IsNamedProblem (last_problem chain) → IsNamedProblem next → upper_outcome next chain ≡ refused (codes "no\n")
    → NoUpperStep (last_problem chain) next

-- ---- over the bytes
-- no step of this kind leads from the one problem to the other
abbrev pub NoStep : Kind → NamedProblem → NamedProblem → Type 0
NoStep Upper before next = NoUpperStep before next
NoStep Lower before next = NoLowerStep before next
NoStep Fixed before next = NoLowerStep before next

-- no step of the chain's kind leads from its last problem to this one
abbrev pub NoLonger : NamedProblem → Bound → Type 0
NoLonger next chain = NoStep chain.kind (last_problem chain) next

-- none leads from the last problem of the chain that the text writes to the problem behind it
unfoldable pub NoWorth : List ℕ → Type 0
NoWorth bytes = NoLonger (back_problem (codes "to") bytes) (chain_of (front_bound (codes "to") bytes))
