-- The bound that the path to a node of the search tree shows.
use Rattle.std.specs.Prelude.{ℕ, suc, List, [], ◌∷◌, if◌then◌else◌, Option, None, Some}
use Rattle.re_problem.specs.NamedProblems.{NamedProblem}
use Rattle.re_cert.specs.Bounds.{Bound, is_fixed}
use Rattle.re_cert.specs.declared.certificate.Kind.{Kind}
use Rattle.re_search.specs.Nodes.{Node, way_back}

-- each label with its image
abbrev pub pairs_of : ℕ → List ℕ → List (ℕ × ℕ)
pairs_of label [] = []
pairs_of label (image ∷ images) = (label, image) ∷ pairs_of (suc label) images

-- the bound of these steps that goes back to a problem by a map, if it goes back at all
abbrev pub bound_with : Kind → NamedProblem → Node → Option (ℕ × List ℕ) → Bound
bound_with kind first node None = record { kind = kind; back = 0; first = first; steps = node.steps; renaming = [] }
bound_with kind first node (Some way) = record { kind = kind; back = way.0; first = first; steps = node.steps; renaming = pairs_of 0 way.1 }

-- the bound that the path to a node shows
abbrev pub bound_of : Kind → NamedProblem → Node → Bound
bound_of kind first node = bound_with kind first node (if is_fixed kind then way_back first node else None)
