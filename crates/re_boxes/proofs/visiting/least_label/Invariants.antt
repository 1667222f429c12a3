use Rattle.std.proofs.Common.{◌<◌, ◌+◌, ℕ, List, take}
use Rattle.std.specs.Prelude.{MatchOption}
use Rattle.re_boxes.specs.Spans.{tree_of, Fits, IsEnding, IsNext}
use Rattle.re_boxes.proofs.visiting.least_label.Given as goal
use Rattle.re_labels.specs.declared.TheConstants.{MAX_LABELS}

abbrev pub invariant-loop-candidate : goal.invariant-loop-candidate
invariant-loop-candidate l = MatchOption l.least
    (((ending : List ℕ) → IsEnding (tree_of l.constraint l.nodes) l.depth l.fn.main ending → ⊥) × ((x : ℕ) (ending : List ℕ) → Fits (tree_of l.constraint l.nodes) (l.depth + 1) (take l.candidate-index l.candidates) x ending → ⊥))
    (λ label. (label < MAX_LABELS) × IsNext (tree_of l.constraint l.nodes) l.depth l.fn.main (take l.candidate-index l.candidates) label)
