use Rattle.re_boxes.proofs.walking.+cover_before.Given as goal

abbrev pub decreases-cover_before : goal.decreases-cover_before
decreases-cover_before g l = l.place
