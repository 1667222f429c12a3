use Rattle.std.proofs.Common.{◌<◌, ◌∷◌, ◌++◌, ◌∙◌, [], ap, arith, length, sym, lit<, Ok}
use Rattle.re_texts.proofs.JudgedLines.{taken}
use Rattle.re_texts.specs.Entries.{image_on, is_next, source, target}
use Rattle.re_problem.specs.Pairs.{label_held}
use Rattle.re_texts.specs.MapTexts.State.{InMap}
use Rattle.re_texts.proofs.reading.add_entry.Goals as goal

pub push-requires : goal.push-requires
push-requires c =
    let below : c.len.result < length c.source_names.result.now = c.is_next.ensures.below c.if-not-is_next.false in
    let few = c.source_names.ensures.few in
    let value = c.len.ensures.value in
    (lit< tt, omega arith)

pub returns : goal.returns
returns c = λ a b left right.
    let read = c.args.read.now in
    taken read.from read.to read.images.items c.args.number c.in-Some.image (is_next (label_held (source c.args.kind read.from read.to).names a) (length read.images.items))
    (image_on c.args.kind (target c.args.kind read.from read.to).names b)
    ((λ i. is_next (label_held (sym c.source_names.ensures.names i) a) (sym c.len.ensures.value i)) ∙ sym (c.is_next.ensures.next a left) ∙ c.if-not-is_next.false)
    (ap (λ names. image_on c.args.kind names b) (sym c.target_names.ensures.names) ∙ sym (c.in-Some.ensures b right))
    ∙ ap (λ images. Ok (InMap read.from read.to images)) (sym c.push.ensures.items)
