use Rattle.std.proofs.Common.{◌≡◌, ◌<◌, ◌≤◌, ◌-◌, ◌∙◌, true, eqb, get_or, [], ap, sym, arith, length}
use Rattle.re_labels.proofs.RowCalls.{read_within}
use Rattle.re_labels.specs.Rows.{set_at}
use Rattle.re_labels.specs.Sets.{number}
use Rattle.re_boxes.proofs.BoxesOfRows.{twin}
use Rattle.re_boxes.proofs.GrowingBoxes.{place_more}
use Rattle.std.proofs.lemmas.Result.{on_ok_weaker}
use Rattle.re_boxes.proofs.UpSets.{labels_up}
use Rattle.re_boxes.specs.HeldStrength.{ups_in}
use Rattle.re_boxes.proofs.walking.+cover_before.Goals as goal

pub returns-then-eq-clause-covered : goal.returns-then-eq-clause-covered
returns-then-eq-clause-covered g t c =
    let s = c.args.strength.now in
    let row = c.args.row.now in
    let two : 2 ≤ c.args.place = c.if-place-ge2.true in
    let first : c.index-sets-place.result ≡ set_at row (c.args.place - 2) = c.index-sets-place.is
    ∙ read_within c.sets-sets.result.now (c.args.place - 2) c.index-sets-place.result [] (omega (arith, two, c.requires.place, ap length c.sets-sets.ensures.sets)) ∙ ap (λ l. get_or l (c.args.place - 2) []) c.sets-sets.ensures.sets in
    let second : c.index-sets-place-then-place-ge2.result ≡ set_at row (c.args.place - 1) = c.index-sets-place-then-place-ge2.is
    ∙ read_within c.sets-sets.result.now (c.args.place - 1) c.index-sets-place-then-place-ge2.result [] (omega (arith, two, c.requires.place, ap length c.sets-sets.ensures.sets)) ∙ ap (λ l. get_or l (c.args.place - 1) []) c.sets-sets.ensures.sets in
    let same : eqb (number (set_at row (c.args.place - 2))) (number (set_at row (c.args.place - 1))) ≡ true = (λ i. eqb (number (sym first i)) (number (sym second i))) ∙ sym c.eq.ensures ∙ c.if-eq.true in
    twin c.args.constraint.now (ups_in s.ups.items) s.labels c.requires.strong (labels_up s.ups.items s.labels s.count s.below) c.args.constraint.now.degree row
    c.requires.up.is_row
    (g.K.Keeper.rows c.cover_before.new.keeper) c.args.place two c.requires.place same c.in_ok-cover_before.ensures.covered

pub returns-clause-covered : goal.returns-clause-covered
returns-clause-covered g t c =
    let some : 0 < c.args.place = (let h = c.if-place-eq0.false in omega arith) in
    on_ok_weaker c.cover_place.result
    (λ here. place_more c.args.constraint.now (ups_in c.args.strength.now.ups.items) c.args.strength.now.labels (g.K.Keeper.rows c.cover_before.new.keeper) (g.K.Keeper.rows c.cover_place.new.keeper)
    c.args.row.now c.args.place some c.cover_place.ensures.longer c.in_ok-cover_before.ensures.covered here) c.cover_place.ensures.covered
