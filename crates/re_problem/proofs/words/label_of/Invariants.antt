use Rattle.std.proofs.Common.{◌≡◌, ◌∷◌, take}
use Rattle.re_problem.proofs.words.label_of.Given as goal

abbrev pub invariant-loop-byte : goal.invariant-loop-byte
invariant-loop-byte l = l.written.items ≡ 40 ∷ take l.byte-index l.bytes
