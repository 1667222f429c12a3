-- What the entries make of one label.
use Rattle.std.specs.Prelude.{ℕ, List, filter, map}
use Rattle.re_labels.specs.Configs.{support_of}
use Rattle.re_labels.specs.Sets.{has}
use Rattle.re_problem.specs.Steps.{SetEntry}

-- the set of the labels of the entries whose sets hold the label
abbrev pub labels_over : List SetEntry → ℕ → List ℕ
labels_over entries label = support_of (map (λ (entry : SetEntry). entry.label) (filter (λ (entry : SetEntry). has entry.set label) entries))
