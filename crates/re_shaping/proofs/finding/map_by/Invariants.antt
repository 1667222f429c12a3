use Rattle.std.proofs.Common.{◌≡◌, ℕ, ◌<◌, get_or, length}
use Rattle.re_labels.specs.Configs.{image_at}
use Rattle.re_shaping.specs.Colours.{colour_at}
use Rattle.re_shaping.proofs.finding.map_by.Given as goal

abbrev pub invariant-loop-colour : goal.invariant-loop-colour
invariant-loop-colour l = record {
  count : length l.images.items ≡ l.colour-index;
  same : (x : ℕ) → x < l.colour-index → (image_at l.images.items x < length l.others) × (colour_at l.others (image_at l.images.items x) ≡ get_or l.colour-items x 0);
}
