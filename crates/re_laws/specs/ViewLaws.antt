-- The laws of views.
use Rattle.std.specs.Prelude.{◌≡◌, ℕ, suc, pred, ◌≤◌, ◌<◌, ◌↔◌, List, Contains, map, slice_index, slice_index_or}
use Rattle.re_labels.specs.Lists.{IsBefore, IsRising}
use Rattle.re_laws.specs.AllViews.{all_views, preorder}
use Rattle.re_laws.specs.Ends.{AreEnds, End, branchwise, no_end}
use Rattle.re_laws.specs.Trees.{IsView, Tree, backs, cut, pad, shift}

-- what is cut is a view of the smaller radius, a cut of a cut is the smaller cut, and a view cut to its own radius is itself
abbrev pub CutLaw : Type 0 → Type 0
CutLaw E = (d e radius t : ℕ) (v : Tree E) → IsView d e radius v → t ≤ radius →
    IsView d e t (cut t v) × ((u : ℕ) → u ≤ t → cut u (cut t v) ≡ cut u v) × (cut radius v ≡ v)

-- the neighbour's view is a view of the other side, of a radius less by one
abbrev pub NeighbourLaw : Type 0 → Type 0
NeighbourLaw E = (d e t : ℕ) (v : Tree E) (i : ℕ) → IsView d e (suc t) v → 1 ≤ i → i ≤ d → IsView e d t (shift t v i)

-- a neighbour's neighbour over the same edge is the node itself, with two rounds less of it
abbrev pub ShiftLaw : Type 0 → Type 0
ShiftLaw E = (d e t : ℕ) (v : Tree E) (i : ℕ) → IsView d e (suc (suc t)) v → 1 ≤ i → i ≤ d →
    shift t (shift (suc t) v i) (slice_index (backs v) (pred i)) ≡ cut t v

-- a view cut to a radius from 1 to its own, seen from the neighbour, is the neighbour's view, cut
abbrev pub CommuteLaw : Type 0 → Type 0
CommuteLaw E = (d e t u : ℕ) (v : Tree E) (i : ℕ) → IsView d e (suc t) v → 1 ≤ i → i ≤ d → u ≤ t →
    shift u (cut (suc u) v) i ≡ cut u (shift t v i)

-- a view that is grown is a view of the greater radius, and cut back it is what it was
abbrev pub PadLaw : Type 0 → Type 0
PadLaw E = (d e t radius : ℕ) (fill : E) (v : Tree E) → 1 ≤ d → 1 ≤ e → IsView d e t v → t ≤ radius →
    IsView d e radius (pad d e radius fill v) × (cut t (pad d e radius fill v) ≡ v)

-- what is listed is all views and nothing else, each once, since their back ports in preorder rise
abbrev pub AllViewsLaw : Type 0
AllViewsLaw = (d e radius : ℕ) →
    ((v : Tree (Unit {0})) → Contains (all_views d e radius) v ↔ IsView d e radius v) × IsRising IsBefore (map preorder (all_views d e radius))

-- views of all neighbours of a node, all over one view of it, are joined to a larger view of it, from which each is seen again
abbrev pub BranchwiseLaw : Type 0
BranchwiseLaw = (d e t : ℕ) (w : Tree (Unit {0})) (ends : List End) → IsView e d t w → AreEnds d e t w ends →
    IsView e d (suc (suc t)) (branchwise ends) × (cut t (branchwise ends) ≡ w)
    × ((k : ℕ) → k < e → shift (suc t) (branchwise ends) (suc k) ≡ (slice_index_or ends k no_end).view)
