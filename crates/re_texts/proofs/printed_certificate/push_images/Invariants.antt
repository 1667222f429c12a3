use Rattle.std.proofs.Common.{◌≡◌, ◌++◌, take}
use Rattle.re_texts.specs.PrintedCertificates.{images_text}
use Rattle.re_texts.proofs.printed_certificate.push_images.Given as goal

abbrev pub invariant-loop-image : goal.invariant-loop-image
invariant-loop-image l = l.text.items ≡ l.fn.text.items ++ images_text l.next (take l.image-index l.images)
