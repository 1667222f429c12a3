use Rattle.std.proofs.Common.{◌≡◌, take}
use Rattle.std.specs.List.{flat_map}
use Rattle.re_given_words.proofs.meetings.spot_ports.Given as goal

abbrev pub invariant-loop-ports_of_type : goal.invariant-loop-ports_of_type
invariant-loop-ports_of_type l = l.ports.items ≡ flat_map (λ ports. ports) (take l.ports_of_type-index l.types)
