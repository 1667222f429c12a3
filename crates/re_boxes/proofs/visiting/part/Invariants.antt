use Rattle.std.proofs.Common.{◌≡◌, ◌≤◌, ℕ, get_or, take}
use Rattle.re_boxes.proofs.Fitting.{ArePartedBy, no_candidate}
use Rattle.re_boxes.specs.Spans.{tree_of}
use Rattle.re_boxes.proofs.visiting.part.Given as goal

abbrev pub invariant-loop-place : goal.invariant-loop-place
invariant-loop-place l = record {
  parted : ArePartedBy (tree_of l.constraint l.nodes) l.depth l.label l.below.items (take l.place l.candidates) (take l.place l.fn.candidates) l.place;
  others : (k : ℕ) → l.place ≤ k → get_or l.candidates k no_candidate ≡ get_or l.fn.candidates k no_candidate;
}
