use Rattle.std.proofs.Common.{◌∙◌, ap, map, sym}
use Rattle.re_extract.proofs.Found.{backs-links}
use Rattle.re_pool.proofs.Reading.{shown_leaf, shown_node}
use Rattle.re_pool.specs.Pools.{trees}
use Rattle.re_pool.specs.declared.shape.Link.{Link}
use Rattle.re_laws.specs.Trees.{backs}
use Rattle.re_extract.proofs.sights.backs_of.Goals as goal

pub returns-in-Leaf-clause-backs : goal.returns-in-Leaf-clause-backs
returns-in-Leaf-clause-backs c = c.new.ensures ∙ sym (ap backs (shown_leaf c.args.pool.now c.args.view c.shape.result.now c.shape.ensures.pool c.shape.ensures.shape c.in-Leaf.is))

pub returns-in-Node-clause-backs : goal.returns-in-Node-clause-backs
returns-in-Node-clause-backs c =
    c.back_ports.ensures.backs
    ∙ (ap (map (λ (link : Link). link.back)) c.as_slice.ensures.value
    ∙ sym (ap backs (shown_node c.args.pool.now c.args.view c.shape.result.now c.in-Node.links c.shape.ensures.pool c.shape.ensures.shape c.in-Node.is) ∙ backs-links (trees c.args.pool.now) c.in-Node.links.items))
