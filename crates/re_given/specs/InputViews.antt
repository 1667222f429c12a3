-- Views whose payloads are input labels: the payload of a child is the label of the edge to it.
use Rattle.std.specs.Prelude.{ℕ, zero, suc, List, [], ◌∷◌, ⊤}
use Rattle.re_labels.specs.Constraints.{Constraint, Has}
use Rattle.re_laws.specs.Trees.{Tree, leaf, end, more}

-- an input view
abbrev pub InputView : Type 0
InputView = Tree ℕ

-- the input labels of the children, in order
abbrev pub payloads : InputView → List ℕ
payloads leaf = []
payloads end = []
payloads (more back label branch rest) = label ∷ payloads rest

-- the input labels seen so far around a node and those of its further children are a configuration of its side, and so on behind each
-- child, on the other side; the leaf shows nothing
abbrev pub FitsAround : Constraint → Constraint → List ℕ → InputView → Type 0
FitsAround own other seen leaf = ⊤
FitsAround own other seen end = Has own seen
FitsAround own other seen (more back label branch rest) =
    FitsAround other own (label ∷ []) branch × FitsAround own other (label ∷ seen) rest

-- around each node all of whose edges the view shows, its root among them, stands a configuration of the node's side
abbrev pub Fits : Constraint → Constraint → InputView → Type 0
Fits own other v = FitsAround own other [] v

-- what a node knows after T rounds: its view of radius T + 1, with the back ports of the last layer hidden as 0
abbrev pub known : ℕ → InputView → InputView
known T leaf = leaf
known T end = end
known zero (more back label branch rest) = more 0 label leaf (known zero rest)
known (suc T) (more back label branch rest) = more back label (known T branch) (known (suc T) rest)
