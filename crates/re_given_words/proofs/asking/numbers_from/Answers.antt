use Rattle.std.proofs.Common.{◌≡◌, ◌+◌, suc, ◌++◌, ◌∷◌, [], length, ◌∙◌, ap, sym, arith}
use Rattle.re_labels.proofs.Membership.{count_from-last, length-count_from}
use Rattle.re_labels.specs.Lists.{count_from}
use Rattle.re_given_words.proofs.asking.numbers_from.Goals as goal

pub with_last-numbers-requires : goal.with_last-numbers-requires
with_last-numbers-requires c = omega (arith, ap length c.loop-place.invariant, length-count_from c.args.first c.loop-place.place)

pub loop-place-preserved : goal.loop-place-preserved
loop-place-preserved c =
    let one : c.loop-place.place + 1 ≡ suc c.loop-place.place = omega arith in
    c.with_last-numbers.ensures ∙ ap (λ l. l ++ (c.args.first + c.loop-place.place) ∷ []) c.loop-place.invariant ∙ sym (count_from-last c.args.first c.loop-place.place) ∙ ap (count_from c.args.first) (sym one)
