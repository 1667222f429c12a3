use Rattle.std.proofs.Common.{◌≡◌, ◌∙◌, ◌<◌, Some, ap, arith, slice_get}
use Rattle.re_pool.proofs.Reading.{first_held, held_node}
use Rattle.certificate_rows.proofs.pools.first_behind.Goals as goal

pub returns-in-Some : goal.returns-in-Some
returns-in-Some c =
    let at : Some c.in-Some.first.now ≡ slice_get c.in-Node.links.items 0 = c.in-Some.ensures.value ∙ ap (λ xs. slice_get xs 0) c.as_slice.ensures.value in
    let down : c.in-Some.first.now.below < c.args.id = first_held c.args.id c.in-Node.links.items c.in-Some.first.now at (held_node c.args.pool.now c.args.id c.shape.result.now c.in-Node.links c.shape.ensures.pool c.shape.ensures.shape c.in-Node.is) in
    let inside = c.requires in
    omega arith
