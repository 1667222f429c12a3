use Rattle.std.proofs.Common.{◌≡◌, map, take}
use Rattle.re_pool.specs.declared.shape.Link.{Link}
use Rattle.re_extract.proofs.sights.back_ports.Given as goal

abbrev pub invariant-loop-link : goal.invariant-loop-link
invariant-loop-link l = l.found.items ≡ map (λ (link : Link). link.back) (take l.link-index l.links)
