use Rattle.std.proofs.Common.{◌≡◌, ◌+◌, ◌-◌, ◌*◌, ◌<◌, ◌∷◌, ◌++◌, ◌∙◌, map, get_or, length, ap, arith, refl, subst, sym}
use Rattle.std.specs.List.{AllByRecursion, AllZip}
use Rattle.re_labels.proofs.Membership.{AllByRecursion-weaker, length-count_from}
use Rattle.re_labels.proofs.Rearranging.{length-AllZip}
use Rattle.re_labels.proofs.Tests.{eqb-true}
use Rattle.re_labels.specs.Lists.{count_from}
use Rattle.re_given_words.proofs.Asked.{count_from-first, read, tuples-more}
use Rattle.re_given_words.specs.Asking.{IsSetAt}
use Rattle.re_given_words.proofs.meetings.+choices_from.Goals.{then-meets+in_ok-push_with, else-meets}
use Rattle.re_given_words.proofs.meetings.+choices_from.Goals as goal

pub push_with-requires : goal.push_with-requires
push_with-requires t c =
    subst (AllByRecursion (λ tuple. length tuple < 6)) (sym c.as_slice.ensures.value)
    (AllByRecursion-weaker (λ choice. AllZip (IsSetAt c.args.ports.now c.args.meetings.now c.args.degree) (count_from (c.args.spot + 1) (c.args.count - 1)) choice) (λ tuple. length tuple < 6)
    (λ choice zip. omega (arith, length-AllZip (IsSetAt c.args.ports.now c.args.meetings.now c.args.degree) (count_from (c.args.spot + 1) (c.args.count - 1)) choice zip, length-count_from (c.args.spot + 1) (c.args.count - 1)))
    c.in_ok-others.others.items c.in_ok-others.ensures)

pub loop-at-preserved : goal.loop-at-preserved
loop-at-preserved t c = elim c.if-meets.branch [
  | then-meets+in_ok-push_with w ↦
      let met : get_or c.index-meetings-at.result (get_or c.args.ports.now c.args.spot 0) 0 ≡ c.args.spot = eqb-true _ _ (sym c.meets.ensures ∙ w.if-meets.true) in
      let here : IsSetAt c.args.ports.now c.args.meetings.now c.args.degree c.args.spot (c.loop-at.at * c.args.degree + get_or c.args.ports.now c.args.spot 0) = (
        c.loop-at.at,
        c.loop-at-test.true,
        ap (λ meeting. get_or meeting (get_or c.args.ports.now c.args.spot 0) 0) (read c.args.meetings.now c.loop-at.at c.index-meetings-at.result c.index-meetings-at.result c.loop-at-test.true c.index-meetings-at.is refl) ∙ met,
        refl,
      ) in
      let positive : 0 < c.args.count = omega (arith, c.if-count-eq0.false) in
      subst (AllByRecursion (λ choice. AllZip (IsSetAt c.args.ports.now c.args.meetings.now c.args.degree) (count_from c.args.spot c.args.count) choice)) (sym (ap (λ all. all.items) w.all-is))
      (tuples-more (λ choice. AllZip (IsSetAt c.args.ports.now c.args.meetings.now c.args.degree) (count_from c.args.spot c.args.count) choice)
      (λ choice. AllZip (IsSetAt c.args.ports.now c.args.meetings.now c.args.degree) (count_from (c.args.spot + 1) (c.args.count - 1)) choice)
      c.loop-at.all.items c.in_ok-others.others.items w.push_with.new.all.items (c.loop-at.at * c.args.degree + get_or c.args.ports.now c.args.spot 0) c.loop-at.invariant c.in_ok-others.ensures
      (λ choice zip. subst (λ spots. AllZip (IsSetAt c.args.ports.now c.args.meetings.now c.args.degree) spots ((c.loop-at.at * c.args.degree + get_or c.args.ports.now c.args.spot 0) ∷ choice)) (sym (count_from-first c.args.spot c.args.count positive)) (here, zip))
      (w.in_ok-push_with.ensures ∙ ap (λ l. c.loop-at.all.items ++ map (λ tuple. (c.loop-at.at * c.args.degree + get_or c.args.ports.now c.args.spot 0) ∷ tuple) l) w.as_slice.ensures.value))
  | else-meets w ↦ subst (AllByRecursion (λ choice. AllZip (IsSetAt c.args.ports.now c.args.meetings.now c.args.degree) (count_from c.args.spot c.args.count) choice)) (sym (ap (λ all. all.items) w.all-is)) c.loop-at.invariant
]
