use Rattle.std.proofs.Common.{◌+◌, ◌-◌, ◌*◌, length}
use Rattle.re_labels.proofs.SaidChoices.{weight}
use Rattle.re_boxes.proofs.searching.+search.Given as goal

abbrev pub decreases-cover : goal.decreases-cover
decreases-cover g l = 16 * weight l.may.now + 16

abbrev pub decreases-cover_part : goal.decreases-cover_part
decreases-cover_part g l = 16 * weight l.may.now + 2 * (length l.may.now - l.place) + 1

abbrev pub decreases-cover_parts : goal.decreases-cover_parts
decreases-cover_parts g l = 16 * weight l.may.now + 2 * (length l.may.now - l.place) + 2

abbrev pub decreases-cover_choice : goal.decreases-cover_choice
decreases-cover_choice g l = 16 * weight l.may.now + 2 * length l.may.now + 3
