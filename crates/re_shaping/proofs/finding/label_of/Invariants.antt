use Rattle.std.proofs.Common.{◌≡◌, ℕ, ◌<◌}
use Rattle.re_shaping.specs.Colours.{colour_at}
use Rattle.re_shaping.proofs.finding.label_of.Given as goal

abbrev pub invariant-loop-label : goal.invariant-loop-label
invariant-loop-label l = (x : ℕ) → x < l.label → colour_at l.colours x ≡ l.colour → ⊥
