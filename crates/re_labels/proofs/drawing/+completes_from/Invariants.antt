use Rattle.std.proofs.Common.{◌≡◌, ◌<◌, ◌+◌, ◌-◌, ◌*◌, ℕ, List, cond, eqb, length, get_or, []}
use Rattle.std.specs.List.{remove}
use Rattle.re_labels.specs.Sets.{IsIn}
use Rattle.re_labels.specs.Fitting.{Completes}
use Rattle.re_labels.specs.PrefixTrees.{IsLink, IsTree, held_configs, node_at}
use Rattle.re_labels.proofs.drawing.+completes_from.Given as goal

abbrev pub decreases-completes_from : goal.decreases-completes_from
decreases-completes_from l = length l.sets.now * 257 + cond (eqb l.at 0) 0 (256 - (node_at l.nodes.now l.at).label)

abbrev pub invariant-loop-place : goal.invariant-loop-place
invariant-loop-place l =
    (degree : ℕ) (key : ℕ → List ℕ) (above : List ℕ) (least : ℕ) → IsTree degree l.nodes (held_configs l.nodes) key → length above + length l.sets ≡ degree → IsLink l.nodes key above least l.at
    → (i : ℕ) → i < l.place → IsIn (node_at l.nodes l.at).label (get_or l.sets i []) → Completes (held_configs l.nodes) (key l.at) (remove l.sets i) → ⊥
