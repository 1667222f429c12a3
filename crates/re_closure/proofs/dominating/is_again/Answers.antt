use Rattle.std.proofs.Common.{◌≡◌, ◌<◌, ◌-◌, ◌∙◌, ap, arith, length, nat_eq, subst, sym, true}
use Rattle.std.proofs.lemmas.Bool.{false≢true}
use Rattle.re_labels.proofs.Numbers.{number_apart}
use Rattle.re_labels.proofs.Tests.{eqb-same, eqb-true}
use Rattle.re_labels.specs.Sets.{number}
use Rattle.re_labels.specs.declared.TheConstants.{MAX_LABELS}
use Rattle.re_closure.proofs.Places.{read_at}
use Rattle.re_closure.proofs.dominating.is_again.Goals as goal

pub returns-clause-again : goal.returns-clause-again
returns-clause-again c = λ told.
    let some : 0 < c.args.place = (let ne = c.if-place-eq0.false in omega arith) in
    let here : c.args.place < length c.args.sets.now = c.requires in
    let before : c.args.place - 1 < length c.args.sets.now = omega (arith, some, here) in
    let equal = sym c.number.ensures.number ∙ eqb-true c.number.result c.number-2.result told ∙ c.number-2.ensures.number in
    let same = number_apart MAX_LABELS c.index-sets-place.result c.index-sets-place-2.result c.number.ensures.set c.number-2.ensures.set equal in
    (some, read_at c.args.sets.now (c.args.place - 1) c.index-sets-place.result before c.index-sets-place.is ∙ same ∙ sym (read_at c.args.sets.now c.args.place c.index-sets-place-2.result here c.index-sets-place-2.is))

pub returns-clause-anew : goal.returns-clause-anew
returns-clause-anew c = λ apart some same.
    let here : c.args.place < length c.args.sets.now = c.requires in
    let before : c.args.place - 1 < length c.args.sets.now = omega (arith, some, here) in
    let equal : c.number.result ≡ c.number-2.result =
    c.number.ensures.number ∙ ap number (sym (read_at c.args.sets.now (c.args.place - 1) c.index-sets-place.result before c.index-sets-place.is)) ∙ same
    ∙ ap number (read_at c.args.sets.now c.args.place c.index-sets-place-2.result here c.index-sets-place-2.is) ∙ sym c.number-2.ensures.number in
    false≢true (sym apart ∙ subst (λ n. nat_eq n c.number-2.result ≡ true) (sym equal) (eqb-same c.number-2.result))
