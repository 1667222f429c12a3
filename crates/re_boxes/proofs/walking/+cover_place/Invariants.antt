use Rattle.std.proofs.Common.{◌-◌}
use Rattle.re_boxes.proofs.walking.+cover_place.Given as goal

abbrev pub decreases-cover_place : goal.decreases-cover_place
decreases-cover_place g l = l.strength.now.labels - l.label
