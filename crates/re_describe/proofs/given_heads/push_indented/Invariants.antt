use Rattle.std.proofs.Common.{◌≡◌, ◌++◌, drop}
use Rattle.re_describe.specs.GivenHeads.{indented}
use Rattle.re_describe.proofs.given_heads.push_indented.Given as goal

abbrev pub invariant-loop-byte : goal.invariant-loop-byte
invariant-loop-byte l = l.text.items ++ indented (drop l.byte-index l.lines) ≡ l.fn.text.items ++ indented l.lines
