use Rattle.std.proofs.Common.{◌≡◌, ap, arith, length, refl, ◌∙◌}
use Rattle.re_labels.proofs.Insertions.{length-with_list_most}
use Rattle.re_shaping.proofs.NewNames.{names-more, names-whole}
use Rattle.re_labels.specs.declared.TheConstants.{MAX_LABELS}
use Rattle.re_shaping.proofs.naming.names_with.Goals as goal

pub unreachable-requires : goal.unreachable-requires
unreachable-requires c =
    let full : length c.loop-other.renamed ≡ MAX_LABELS = ((rw c.in-Err-TooMany.field-0-is at c.in-Err-TooMany.ensures.many).0 refl).0 in
    omega (arith, full, c.loop-other.invariant.few, c.len-other-end.ensures.names.few, c.len-other-end.ensures.len, c.loop-other-test.true)

pub loop-other-preserved : goal.loop-other-preserved
loop-other-preserved c = record {
  names = c.in-Ok.ensures.ok.0
      ∙ names-more c.args.names.now c.args.label c.args.name.now c.loop-other.other c.loop-other.renamed c.name_with.result (omega (arith, c.len-other-end.ensures.len, c.loop-other-test.true)) c.name_with.ensures c.loop-other.invariant.names;
  few = omega (arith, ap length c.in-Ok.ensures.ok.0, length-with_list_most c.loop-other.renamed c.name_with.result, c.loop-other.invariant.few);
}

pub returns : goal.returns
returns c = names-whole c.args.names.now c.args.label c.args.name.now c.loop-other.other c.loop-other.renamed (omega (arith, c.len-other-end.ensures.len, c.loop-other-test.false)) c.loop-other.invariant.names
