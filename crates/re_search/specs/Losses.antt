-- What shows early that one problem isn't the other under other labels: degrees, counts, and images of the first labels alone.
use Rattle.std.specs.Prelude.{ℕ, nat_le, nat_lt, Bool, not, ◌&&◌, List, length, map}
use Rattle.std.specs.List.{list_all, list_any}
use Rattle.re_labels.specs.Configs.{image_at}
use Rattle.re_problem.specs.Verdicts.{has_degrees}
use Rattle.re_problem.specs.Problems.{Problem}
use Rattle.re_labels.specs.Constraints.{Constraint, has_config}

-- the degrees are equal, and the other problem has no more configurations
abbrev pub may_become : Problem → Problem → Bool
may_become from to =
    has_degrees to from.active.degree from.passive.degree
    && nat_le (length to.active.configs) (length from.active.configs) && nat_le (length to.passive.configs) (length from.passive.configs)

-- each of the labels has an image
abbrev pub are_mapped : List ℕ → List ℕ → Bool
are_mapped images labels = list_all (λ label. nat_lt label (length images)) labels

-- the labels of the configuration have images, and these are no configuration of the other constraint
abbrev pub is_lost : List ℕ → Constraint → List ℕ → Bool
is_lost images to config = are_mapped images config && not (has_config to (map (image_at images) config))

-- some configuration is lost
abbrev pub loses : List ℕ → Constraint → Constraint → Bool
loses images from to = list_any (is_lost images to) from.configs
