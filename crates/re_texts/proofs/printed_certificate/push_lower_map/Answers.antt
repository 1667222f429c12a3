use Rattle.std.proofs.Common.{◌∙◌, ◌≡◌, ap, subst, sym, true}
use Rattle.re_cert.specs.Bounds.{map_fits, map_of}
use Rattle.re_cert.specs.declared.certificate.LowerMap.{LowerMap}
use Rattle.re_texts.proofs.FittingParts.{images_ready, labels_ready, sets_ready}
use Rattle.re_texts.proofs.printed_certificate.push_lower_map.Goals as goal

pub push_entries-requires-clause-sets : goal.push_entries-requires-clause-sets
push_entries-requires-clause-sets c =
    sets_ready c.args.before.now c.args.next.now _ c.names.result.now c.as_slice.result.now (subst (λ (m : LowerMap). map_fits c.args.before.now c.args.next.now (map_of m) ≡ true) c.in-BySet.is c.requires) c.names.ensures.names c.as_slice.ensures.value

pub push_entries-requires-clause-labels : goal.push_entries-requires-clause-labels
push_entries-requires-clause-labels c =
    labels_ready c.args.before.now c.args.next.now _ c.names-in-BySet.result.now c.as_slice.result.now (subst (λ (m : LowerMap). map_fits c.args.before.now c.args.next.now (map_of m) ≡ true) c.in-BySet.is c.requires) c.names-in-BySet.ensures.names c.as_slice.ensures.value

pub push_images-requires : goal.push_images-requires
push_images-requires c =
    images_ready c.args.before.now c.args.next.now _ c.names-in-ByRow.result.now c.as_slice-in-ByRow.result.now (subst (λ (m : LowerMap). map_fits c.args.before.now c.args.next.now (map_of m) ≡ true) c.in-ByRow.is c.requires) c.names-in-ByRow.ensures.names c.as_slice-in-ByRow.ensures.value
