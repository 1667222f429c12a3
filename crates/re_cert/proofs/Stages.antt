-- The steps of an upper bound, counted.
use Rattle.std.proofs.Common.{◌≡◌, List, length}
use Rattle.std.proofs.lemmas.List.{length-map}
use Rattle.re_cert.specs.Bounds.{BoundStep}
use Rattle.re_cert.specs.Stages.{stages_of}

pub count-stages : (steps : List BoundStep) → length (stages_of steps) ≡ length steps
count-stages steps = length-map steps _
