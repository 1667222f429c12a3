use Rattle.std.proofs.Common.{◌∙◌, ap, sym}
use Rattle.re_cert.specs.Bounds.{map_of}
use Rattle.re_cert.specs.declared.certificate.LowerMap.{LowerMap}
use Rattle.re_why.specs.Finding.{by_set_witness, set_witness}
use Rattle.re_why.proofs.map_witness.set_witness.Goals as goal

pub returns-in-BySet : goal.returns-in-BySet
returns-in-BySet c = c.by_set_witness.ensures ∙ ap (by_set_witness c.args.rows.now) c.as_slice.ensures.value ∙ sym (ap (λ (m : LowerMap). set_witness c.args.rows.now (map_of m)) c.in-BySet.is)
