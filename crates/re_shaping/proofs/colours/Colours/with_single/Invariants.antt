use Rattle.std.proofs.Common.{◌≡◌, ◌+◌, ◌%◌, ◌^◌, cond, eqb, length}
use Rattle.re_shaping.specs.Colours.{colour_at, colours_by}
use Rattle.re_shaping.specs.declared.colours.TheConstants.{SINGLED}
use Rattle.re_shaping.proofs.colours.Colours.with_single.Given as goal

abbrev pub invariant-loop-other : goal.invariant-loop-other
invariant-loop-other l = record {
  colours : l.held.items ≡ colours_by (λ other. (colour_at l.self other + cond (eqb other l.label) SINGLED 0) % 2 ^ 64) l.other;
  count : length l.held.items ≡ l.other;
}
