-- The entries of a map: two items on a line.
use Rattle.std.specs.Prelude.{ℕ, ◌==◌, Bool, false, ◌||◌, List, [], ◌∷◌, Option, None, Some}
use Rattle.std.specs.Option.{option_map}
use Rattle.re_problem.specs.Items.{ItemText}
use Rattle.re_problem.specs.Labels.{labels_held}
use Rattle.re_problem.specs.NamedProblems.{NamedProblem}
use Rattle.re_problem.specs.Pairs.{ItemPair, label_held}
use Rattle.re_texts.specs.declared.entries.MapKind.{MapKind}
use Rattle.re_texts.specs.declared.entries.MapKind.TheVariants.{Labels, Sets}

-- the problem whose labels have images: labels of `from` have labels, labels of `to` have sets
abbrev pub source : MapKind → NamedProblem → NamedProblem → NamedProblem
source Labels from to = from
source Sets from to = to

-- the problem of the images
abbrev pub target : MapKind → NamedProblem → NamedProblem → NamedProblem
target Labels from to = to
target Sets from to = from

-- a group stands where a label is asked
abbrev pub has_group : MapKind → ItemPair → Bool
has_group Labels pair = pair.left.group || pair.right.group
has_group Sets pair = pair.left.group

-- the image that an item writes, as a set: a label alone, or any set, where its labels are known
abbrev pub image_on : MapKind → List (List ℕ) → ItemText → Option (List ℕ)
image_on Labels names item = option_map (λ label. label ∷ []) (label_held names item)
image_on Sets names item = labels_held names item.names

-- whether this is the label whose turn it is
abbrev pub is_next : Option ℕ → ℕ → Bool
is_next None count = false
is_next (Some label) count = label == count
