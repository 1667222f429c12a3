use Rattle.std.proofs.Common.{◌<◌, ◌∙◌, get_or, [], ap, subst, arith, length, inl, inr}
use Rattle.std.proofs.lemmas.Bool.{cases_lt}
use Rattle.re_labels.proofs.RowCalls.{read_within}
use Rattle.re_boxes.proofs.GrowingBoxes.{boxes_more}
use Rattle.re_boxes.proofs.Growing.{longer_on}
use Rattle.re_step.proofs.Keeping.{up_to}
use Rattle.re_boxes.specs.Boxed.{AreBoxesCovered}
use Rattle.re_boxes.specs.HeldStrength.{ups_in}
use Rattle.re_step.proofs.closing.cover_rows.Goals as goal

pub loop-index-preserved : goal.loop-index-preserved
loop-index-preserved c =
    let ups = ups_in c.args.strength.now.ups.items in
    let n = c.args.strength.now.labels in
    let old = c.loop-index.found.rows.items in
    let new = c.cover_row_at.new.found.rows.items in
    let longer = c.cover_row_at.ensures.longer in
    record {
      kept = c.in_ok-cover_row_at.ensures.kept;
      right = c.in_ok-cover_row_at.ensures.right;
      longer = longer_on c.args.found.now.rows.items old new c.loop-index.invariant.longer longer;
      done = up_to c.loop-index.index (λ j. j < length new → AreBoxesCovered c.args.constraint.now ups n new (get_or new j []))
          (λ j l inside.
          let there : j < length old = elim (cases_lt c.loop-index.index (length old)) [
            | inl within ↦ omega (arith, l, within)
            | inr past ↦ let same = ap length (c.cover_row_at.ensures.past past) in omega (arith, same, inside)
          ] in
          boxes_more c.args.constraint.now ups n old new longer j there (c.loop-index.invariant.done j l there))
          c.in_ok-cover_row_at.ensures.covered;
    }

pub returns-clause-covered : goal.returns-clause-covered
returns-clause-covered c =
    let ups = ups_in c.args.strength.now.ups.items in
    let past = c.loop-index-test.false in
    λ row (k, within, is).
    subst (AreBoxesCovered c.args.constraint.now ups c.args.strength.now.labels c.loop-index.found.rows.items) (read_within c.loop-index.found.rows.items k [] row within ∙ is)
    (c.loop-index.invariant.done k (omega (arith, within, past, c.loop-index.invariant.kept.few)) within)
