use Rattle.std.proofs.Common.{◌≡◌, ◌+◌, ◌-◌, ◌<◌, ◌∷◌, ◌++◌, ◌∙◌, true, eqb, map, get_or, length, ap, arith, subst, sym}
use Rattle.std.specs.List.{AllByRecursion}
use Rattle.re_labels.proofs.Membership.{AllByRecursion-weaker, Contains-count_from, Contains-filter, length-count_from, length-map'}
use Rattle.re_labels.proofs.Rearranging.{length-AllZip}
use Rattle.re_labels.proofs.Tests.{eqb-same}
use Rattle.re_labels.specs.Lists.{count_from}
use Rattle.re_labels.specs.Rows.{IsChoice}
use Rattle.re_labels.specs.Sets.{IsIn}
use Rattle.re_given_words.proofs.Asked.{count_from-first, tuples-more}
use Rattle.re_given_words.specs.Asking.{port_spots}
use Rattle.re_given_words.proofs.meetings.+meetings_from.Goals.{then-other-port+in_ok-push_with, else-other-port}
use Rattle.re_given_words.proofs.meetings.+meetings_from.Goals as goal

pub push_with-requires : goal.push_with-requires
push_with-requires t c =
    subst (AllByRecursion (λ tuple. length tuple < 6)) (sym c.as_slice.ensures.value)
    (AllByRecursion-weaker (λ meeting. IsChoice meeting (map (port_spots c.args.ports.now) (count_from (c.args.port + 1) (c.args.count - 1)))) (λ tuple. length tuple < 6)
    (λ meeting zip. omega (
      arith,
      length-AllZip IsIn meeting (map (port_spots c.args.ports.now) (count_from (c.args.port + 1) (c.args.count - 1))) zip,
      length-map' (port_spots c.args.ports.now) (count_from (c.args.port + 1) (c.args.count - 1)),
      length-count_from (c.args.port + 1) (c.args.count - 1),
    ))
    c.in_ok-others.others.items c.in_ok-others.ensures)

pub loop-spot-preserved : goal.loop-spot-preserved
loop-spot-preserved t c = elim c.if-other-port.branch [
  | then-other-port+in_ok-push_with w ↦
      let there : eqb (get_or c.args.ports.now c.loop-spot.spot 0) c.args.port ≡ true = ap (λ port. eqb port c.args.port) w.if-other-port.true ∙ eqb-same c.args.port in
      let here : IsIn c.loop-spot.spot (port_spots c.args.ports.now c.args.port) =
      Contains-filter (λ spot. eqb (get_or c.args.ports.now spot 0) c.args.port) (count_from 0 (length c.args.ports.now)) c.loop-spot.spot
      (Contains-count_from 0 (length c.args.ports.now) c.loop-spot.spot (omega arith) (omega (arith, c.loop-spot-test.true))) there in
      let positive : 0 < c.args.count = omega (arith, c.if-count-eq0.false) in
      subst (AllByRecursion (λ meeting. IsChoice meeting (map (port_spots c.args.ports.now) (count_from c.args.port c.args.count)))) (sym (ap (λ all. all.items) w.all-is))
      (tuples-more (λ meeting. IsChoice meeting (map (port_spots c.args.ports.now) (count_from c.args.port c.args.count)))
      (λ meeting. IsChoice meeting (map (port_spots c.args.ports.now) (count_from (c.args.port + 1) (c.args.count - 1))))
      c.loop-spot.all.items c.in_ok-others.others.items w.push_with.new.all.items c.loop-spot.spot c.loop-spot.invariant c.in_ok-others.ensures
      (λ meeting zip. subst (λ ports. IsChoice (c.loop-spot.spot ∷ meeting) (map (port_spots c.args.ports.now) ports)) (sym (count_from-first c.args.port c.args.count positive)) (here, zip))
      (w.in_ok-push_with.ensures ∙ ap (λ l. c.loop-spot.all.items ++ map (λ tuple. c.loop-spot.spot ∷ tuple) l) w.as_slice.ensures.value))
  | else-other-port w ↦ subst (AllByRecursion (λ meeting. IsChoice meeting (map (port_spots c.args.ports.now) (count_from c.args.port c.args.count)))) (sym (ap (λ all. all.items) w.all-is)) c.loop-spot.invariant
]
