use Rattle.re_boxes.proofs.GrowingBoxes.{label_more}
use Rattle.std.proofs.lemmas.Result.{on_ok_weaker}
use Rattle.re_boxes.specs.HeldStrength.{ups_in}
use Rattle.re_boxes.proofs.walking.+cover_place.Goals as goal

pub returns-clause-covered : goal.returns-clause-covered
returns-clause-covered g t c =
    on_ok_weaker c.cover_place.result
    (λ rest. label_more c.args.constraint.now (ups_in c.args.strength.now.ups.items) c.args.strength.now.labels (g.K.Keeper.rows c.cover_box.new.keeper) (g.K.Keeper.rows c.cover_place.new.keeper)
    c.args.row.now c.args.place c.args.label c.cover_place.ensures.longer c.in_ok-cover_box.ensures.covered rest) c.cover_place.ensures.covered
