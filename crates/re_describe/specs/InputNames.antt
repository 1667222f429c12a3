-- The names of input problems in a report.
use Rattle.std.specs.Prelude.{ℕ, Bool, ◌&&◌, List, [], ◌∷◌, ◌++◌, codes, find, length, Option, None, Some}
use Rattle.std.specs.Fmt.{decimal}
use Rattle.std.specs.Str.{bytes_eq}
use Rattle.re_inputs.specs.NamedInputs.{fits, input_of}
use Rattle.re_inputs.specs.declared.kinds.InputKind.{InputKind}
use Rattle.re_inputs.specs.declared.kinds.InputKind.TheVariants.{Both, Colouring, Edges, Nothing, Orientation, Sides}
use Rattle.re_problem.specs.CanonicalTexts.{canonical}
use Rattle.re_problem.specs.NamedProblems.{NamedProblem}
use Rattle.re_describe.specs.Heads.{counts}

-- the number that the kind has where an input problem has so many labels: that of its colours
abbrev pub number_for : InputKind → ℕ → ℕ
number_for Colouring labels = labels
number_for Edges labels = labels
number_for kind labels = 0

-- whether the input problem is the one of this kind in its degrees
abbrev pub is_of_kind : NamedProblem → InputKind → Bool
is_of_kind input kind =
    fits kind input.active.degree input.passive.degree (number_for kind (length input.names))
    && bytes_eq (canonical (input_of kind input.active.degree input.passive.degree (number_for kind (length input.names)))) (canonical input)

-- the kinds; the two sides are told before a colouring with two colours
abbrev pub told_kinds : List InputKind
told_kinds = Sides ∷ Colouring ∷ Edges ∷ Orientation ∷ Both ∷ Nothing ∷ []

abbrev pub kind_of : NamedProblem → Option InputKind
kind_of input = find (is_of_kind input) told_kinds

-- what a solution of it is, with so many labels
abbrev pub kind_text : InputKind → ℕ → List ℕ
kind_text Colouring labels =
    codes "\nA solution is a proper colouring of the active nodes with " ++ (decimal labels ++ codes " colours: all edges of an active node have its colour, and those of a passive node different ones.\n")
kind_text Edges labels =
    codes "\nA solution is a proper colouring of the passive nodes with " ++ (decimal labels ++ codes " colours: all edges of a passive node have its colour, and those of an active node different ones.\n")
kind_text Sides labels = codes "\nA solution tells the two sides of the graph whose edges are the passive nodes: all edges of an active node have the label of its side, and those of a passive node one label of each.\n"
kind_text Orientation labels = codes "\nA solution is an orientation: exactly one edge of each passive node leads out of its active node, and it has the label `O`; the others have `I`.\n"
kind_text Both labels =
    codes "\nA solution is an orientation by which edges lead into each active node and out of it: exactly one edge of each passive node leads out of its active node, and it has the label `O`; the others have `I`.\n"
kind_text Nothing labels = codes "\nA solution says nothing: there is one label.\n"

abbrev pub name_text : Option InputKind → ℕ → List ℕ
name_text None labels = []
name_text (Some kind) labels = kind_text kind labels

-- the input problem: its title, what a solution is where it is one of these kinds, and its numbers
abbrev pub input_text : NamedProblem → List ℕ
input_text input = codes "\n## Input problem\n" ++ (name_text (kind_of input) (length input.names) ++ counts input)
