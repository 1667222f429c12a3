use Rattle.std.proofs.Common.{◌≡◌, ◌∙◌, subst}
use Rattle.re_boxes.proofs.Growing.{same_rows}
use Rattle.re_check.proofs.Walks.{told_ok}
use Rattle.re_boxes.specs.Boxed.{AreConfigsDominated}
use Rattle.re_boxes.specs.HeldStrength.{ups_in}
use Rattle.re_check.proofs.covering.are_configs_dominated.Goals as goal

pub cover_configs-requires-clause-serves : goal.cover_configs-requires-clause-serves
cover_configs-requires-clause-serves c = λ row held. (c.requires.rows row held).is_row.count

pub returns : goal.returns
returns c =
    let ups = ups_in c.args.strength.now.ups.items in
    let same : c.cover_configs.new.keeper.rows.now ≡ c.args.rows.now = same_rows c.args.rows.now c.cover_configs.new.keeper.rows.now c.cover_configs.ensures.longer c.cover_configs.ensures.most in
    told_ok c.cover_configs.result c.is_ok.result c.is_ok.ensures.value (subst (AreConfigsDominated c.args.constraint.now ups) same) (λ y differs e. differs (same ∙ e))
    c.cover_configs.ensures.dominated c.cover_configs.ensures.refused
