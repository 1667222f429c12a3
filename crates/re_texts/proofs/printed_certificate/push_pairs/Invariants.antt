use Rattle.std.proofs.Common.{◌≡◌, ◌++◌, take}
use Rattle.re_texts.specs.PrintedCertificates.{pairs_text}
use Rattle.re_texts.proofs.printed_certificate.push_pairs.Given as goal

abbrev pub invariant-loop-pair : goal.invariant-loop-pair
invariant-loop-pair l = l.text.items ≡ l.fn.text.items ++ pairs_text l.last l.target (take l.pair-index l.pairs)
