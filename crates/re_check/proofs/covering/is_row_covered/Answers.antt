use Rattle.std.proofs.Common.{◌≡◌, ◌∙◌, subst}
use Rattle.re_boxes.proofs.Growing.{same_rows}
use Rattle.re_check.proofs.Walks.{told_ok}
use Rattle.re_boxes.specs.Boxed.{AreBoxesCovered}
use Rattle.re_boxes.specs.HeldStrength.{ups_in}
use Rattle.re_check.proofs.covering.is_row_covered.Goals as goal

pub cover_row-requires-clause-serves : goal.cover_row-requires-clause-serves
cover_row-requires-clause-serves c = λ row held. (c.requires.rows row held).is_row.count

pub cover_row-requires-clause-up : goal.cover_row-requires-clause-up
cover_row-requires-clause-up c = c.requires.rows c.args.row.now c.requires.row

pub returns : goal.returns
returns c =
    let same : c.cover_row.new.keeper.rows.now ≡ c.args.rows.now = same_rows c.args.rows.now c.cover_row.new.keeper.rows.now c.cover_row.ensures.longer c.cover_row.ensures.most in
    told_ok c.cover_row.result c.is_ok.result c.is_ok.ensures.value
    (subst (λ rows. AreBoxesCovered c.args.constraint.now (ups_in c.args.strength.now.ups.items) c.args.strength.now.labels rows c.args.row.now) same) (λ y differs e. differs (same ∙ e))
    c.cover_row.ensures.covered c.cover_row.ensures.refused
