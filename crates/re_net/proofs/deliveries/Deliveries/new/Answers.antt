use Rattle.std.proofs.Common.{◌≡◌, ◌*◌, [], ap, replicate, ◌∙◌}
use Rattle.re_net.specs.Marks.{marked}
use Rattle.re_net.proofs.Marks.{marked_none}
use Rattle.re_net.proofs.deliveries.Deliveries.new.Goals as goal

pub returns : goal.returns
returns c =
    let zeros : c.in_ok-sets.sets.items ≡ replicate (c.args.nodes * c.args.bound) (record { bits = 0 }) = c.in_ok-sets.ensures.items_if_clones_equal (λ y h. h) in
    let none : marked c.args.nodes c.args.bound c.in_ok-sets.sets.items ≡ [] = ap (marked c.args.nodes c.args.bound) zeros ∙ marked_none c.args.nodes c.args.bound (c.args.nodes * c.args.bound) in
    (λ i. record { nodes = c.args.nodes; bound = c.args.bound; messages = none i })
