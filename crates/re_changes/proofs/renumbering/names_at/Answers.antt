use Rattle.std.proofs.Common.{◌≡◌, ap, arith, length, refl, ◌∙◌}
use Rattle.re_labels.proofs.LeastLabels.{length-set}
use Rattle.re_labels.proofs.Insertions.{length-with_list_most}
use Rattle.re_changes.proofs.Numbering.{names-all, names-step}
use Rattle.re_changes.proofs.renumbering.names_at.Goals as goal
use Rattle.re_labels.specs.declared.TheConstants.{MAX_LABELS}

pub unreachable-requires : goal.unreachable-requires
unreachable-requires c =
    let full : length c.loop-label.kept ≡ MAX_LABELS = ((rw c.in-Err-TooMany.field-0-is at c.in-Err-TooMany.ensures.many).0 refl).0 in
    omega (arith, full, c.loop-label.invariant.few, length-set (length c.args.names.now) c.args.stay.now c.requires, c.len-count.ensures.names.few, c.loop-label-test.true)

pub loop-label-preserved : goal.loop-label-preserved
loop-label-preserved c = record {
  names = c.in-Ok.ensures.ok.0
      ∙ names-step c.args.names.now c.args.stay.now c.loop-label.label-index c.loop-label.kept _ c.copy.result c.loop-label-test.true refl (c.copy.ensures ∙ c.name.ensures) c.loop-label.invariant.names;
  few = omega (arith, ap length c.in-Ok.ensures.ok.0, length-with_list_most c.loop-label.kept c.copy.result, c.loop-label.invariant.few);
}

pub returns : goal.returns
returns c = names-all c.args.names.now c.args.stay.now c.loop-label.label-index c.loop-label.kept (omega (arith, c.loop-label-test.false)) c.len-count.ensures.names.ascends c.requires c.loop-label.invariant.names
