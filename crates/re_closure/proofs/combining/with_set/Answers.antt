use Rattle.std.proofs.Common.{◌∷◌, ap, ◌∙◌, subst, sym}
use Rattle.std.specs.List.{insert}
use Rattle.re_labels.specs.Rearranging.{Rearranged}
use Rattle.re_closure.proofs.Places.{inserted_front, read_all}
use Rattle.re_closure.proofs.combining.with_set.Goals as goal

pub returns : goal.returns
returns c =
    let all = read_all c.args.sets.now c.loop-held.more.items c.loop-held.held-index c.loop-held.invariant c.loop-held-test.false in
    subst (Rearranged (c.args.set ∷ c.args.sets.now)) (sym (c.insert.ensures.items ∙ ap (λ l. insert l c.place_for.result c.args.set) all)) (inserted_front c.args.sets.now c.place_for.result c.args.set)
