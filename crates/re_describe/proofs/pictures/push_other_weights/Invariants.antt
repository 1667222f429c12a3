use Rattle.std.proofs.Common.{◌≡◌, ◌∷◌, ◌++◌, drop}
use Rattle.std.specs.List.{flat_map}
use Rattle.re_describe.specs.Pictures.{weight}
use Rattle.re_describe.proofs.pictures.push_other_weights.Given as goal

abbrev pub invariant-loop-other : goal.invariant-loop-other
invariant-loop-other l = l.text.items ++ flat_map (λ other. 44 ∷ weight other) (drop l.other-index l.ends) ≡ l.fn.text.items ++ flat_map (λ other. 44 ∷ weight other) l.ends
