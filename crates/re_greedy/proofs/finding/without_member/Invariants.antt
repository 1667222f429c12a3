use Rattle.std.proofs.Common.{◌≡◌, ℕ, List, take}
use Rattle.std.specs.Prelude.{Contains, ◌↔◌}
use Rattle.re_greedy.proofs.finding.without_member.Given as goal

abbrev pub invariant-loop-member : goal.invariant-loop-member
invariant-loop-member l = (labels : List ℕ) → Contains l.left.items labels ↔ (Contains (take l.member-index l.members) labels × (labels ≡ l.gone → ⊥))
