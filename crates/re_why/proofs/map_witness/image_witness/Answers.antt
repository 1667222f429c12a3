use Rattle.std.proofs.Common.{◌≡◌, ◌∙◌, ap, subst, sym}
use Rattle.re_cert.specs.Bounds.{map_of}
use Rattle.re_cert.specs.declared.certificate.LowerMap.{LowerMap}
use Rattle.re_problem.specs.Steps.LowerMap.{by_set}
use Rattle.re_problem.specs.Steps.{LowerMap as Map, entry_sets}
use Rattle.re_why.proofs.Holding.{all-held}
use Rattle.re_why.specs.Finding.{AreBelow}
use Rattle.re_why.proofs.map_witness.image_witness.Goals as goal

pub lost_by_set-requires-clause-held : goal.lost_by_set-requires-clause-held
lost_by_set-requires-clause-held c =
    let is : map_of c.args.map.now ≡ by_set c.as_slice.result.now = ap (λ (m : LowerMap). map_of m) c.in-BySet.is ∙ ap by_set (sym c.as_slice.ensures.value) in
    let has = c.requires.sets c.as_slice.result.now is in
    all-held c.args.rows.now (entry_sets c.as_slice.result.now) (λ row held set at. (has.sets set).1 (row, held, at))

pub lost_by_set-requires-clause-labels : goal.lost_by_set-requires-clause-labels
lost_by_set-requires-clause-labels c =
    let is : map_of c.args.map.now ≡ by_set c.as_slice.result.now = ap (λ (m : LowerMap). map_of m) c.in-BySet.is ∙ ap by_set (sym c.as_slice.ensures.value) in
    subst (λ (m : Map). AreBelow m) is c.requires.below
