use Rattle.std.proofs.Common.{◌≡◌, ◌*◌, ◌≤◌, eqb, take}
use Rattle.std.specs.List.{count_by, sum_by}
use Rattle.re_shaping.proofs.colours.Colours.pairs_alike.Given as goal

abbrev pub invariant-loop-colour : goal.invariant-loop-colour
invariant-loop-colour l = record {
  pairs : l.pairs ≡ sum_by (λ colour. count_by (λ other. eqb other colour) l.all) (take l.colour-index l.all);
  few : l.pairs ≤ 128 * l.colour-index;
}
