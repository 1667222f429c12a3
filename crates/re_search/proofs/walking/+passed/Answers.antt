use Rattle.std.proofs.Common.{◌≡◌, ◌∙◌, ◌-◌, ◌+◌, Ok, Err, flat_map, get_or, refl, sym, ap, subst, arith, true}
use Rattle.re_cert.specs.declared.certificate.Kind.TheVariants.{Fixed}
use Rattle.re_changes.specs.Changes.{all_changes, changed_by, changed_times}
use Rattle.re_changes.specs.declared.change.Change.TheVariants.{Merge}
use Rattle.re_search.proofs.PassedOver.{next-size, passed-one}
use Rattle.re_search.proofs.Walks.{all_of_changes, loop-done, loop-found, loop-passed, loop-refused, of_change, same-at}
use Rattle.re_search.specs.Walking.{Walks, below_made, node_at}
use Rattle.re_search.specs.declared.walking.Walked.TheVariants.{Found, Passed}
use Rattle.re_search.proofs.walking.+passed.Goals as goal

pub returns-then-changes-eq0 : goal.returns-then-changes-eq0
returns-then-changes-eq0 t c first most steps made size cannot =
    subst (λ k. Walks Fixed first c.args.count (flat_map (below_made Fixed most 0 (node_at first steps 1)) (changed_times true k made)) steps steps (Ok (Passed (record { nodes = c.args.count.nodes + 1; cut = c.args.count.cut })))) (sym c.if-changes-eq0.true)
    (passed-one first most steps made c.args.count (record { nodes = c.args.count.nodes + 1; cut = c.args.count.cut }) (λ number l e. let past = cannot number l (omega (arith, e, size, c.if-changes-eq0.true)) in omega (arith, past, size, c.if-changes-eq0.true)) (omega (arith, c.if-count-ge-MAX_NODES.false)) refl refl)

pub returns-in-Ok-Found : goal.returns-in-Ok-Found
returns-in-Ok-Found t c first most steps made size cannot =
    let all = c.as_slice-change-items.result.now in
    let k = c.loop-change.change-index in
    let is : all ≡ all_changes true c.args.labels = c.as_slice-change-items.ensures.value ∙ c.in-Ok.ensures in
    all_of_changes Fixed first most 0 c.args.changes steps steps made all c.args.count (Ok Found) c.if-changes-eq0.false (is ∙ ap (all_changes true) (sym size))
    (loop-found Fixed first (of_change Fixed first most 0 steps (c.args.changes - 1) made) all c.args.count c.loop-change.count steps steps steps k (get_or all k (Merge 0 0)) c.loop-change-test.true (same-at all k (Merge 0 0) c.loop-change-test.true)
    (c.loop-change.invariant first most steps made size cannot)
    (subst (λ r. Walks Fixed first c.loop-change.count (of_change Fixed first most 0 steps (c.args.changes - 1) made (get_or all k (Merge 0 0))) steps steps r) (c.in-Ok-Found.is ∙ ap (λ f. Ok f) c.in-Ok-Found.field-0-is)
    (c.passed.ensures first most steps (changed_by (get_or all k (Merge 0 0)) made) (next-size made c.args.labels all k size is c.loop-change-test.true)
    (λ number l e. let past = cannot number l (omega (arith, e, c.requires.many, c.if-changes-eq0.false)) in omega (arith, past, c.if-changes-eq0.false)))))

pub returns-in-Err : goal.returns-in-Err
returns-in-Err t c first most steps made size cannot =
    let all = c.as_slice-change-items.result.now in
    let k = c.loop-change.change-index in
    let is : all ≡ all_changes true c.args.labels = c.as_slice-change-items.ensures.value ∙ c.in-Ok.ensures in
    all_of_changes Fixed first most 0 c.args.changes steps steps made all c.args.count (Err c.in-Err.fault) c.if-changes-eq0.false (is ∙ ap (all_changes true) (sym size))
    (loop-refused Fixed first (of_change Fixed first most 0 steps (c.args.changes - 1) made) all c.args.count c.loop-change.count steps steps steps k (get_or all k (Merge 0 0)) c.in-Err.fault c.loop-change-test.true (same-at all k (Merge 0 0) c.loop-change-test.true)
    (c.loop-change.invariant first most steps made size cannot)
    (subst (λ r. Walks Fixed first c.loop-change.count (of_change Fixed first most 0 steps (c.args.changes - 1) made (get_or all k (Merge 0 0))) steps steps r) c.in-Err.is
    (c.passed.ensures first most steps (changed_by (get_or all k (Merge 0 0)) made) (next-size made c.args.labels all k size is c.loop-change-test.true)
    (λ number l e. let past = cannot number l (omega (arith, e, c.requires.many, c.if-changes-eq0.false)) in omega (arith, past, c.if-changes-eq0.false)))))

pub loop-change-preserved : goal.loop-change-preserved
loop-change-preserved t c first most steps made size cannot =
    let all = c.as_slice-change-items.result.now in
    let k = c.loop-change.change-index in
    let is : all ≡ all_changes true c.args.labels = c.as_slice-change-items.ensures.value ∙ c.in-Ok.ensures in
    loop-passed Fixed first (of_change Fixed first most 0 steps (c.args.changes - 1) made) all c.args.count c.loop-change.count c.in-Ok-Passed.next steps steps steps k (get_or all k (Merge 0 0)) c.loop-change-test.true (same-at all k (Merge 0 0) c.loop-change-test.true)
    (c.loop-change.invariant first most steps made size cannot)
    (subst (λ r. Walks Fixed first c.loop-change.count (of_change Fixed first most 0 steps (c.args.changes - 1) made (get_or all k (Merge 0 0))) steps steps r) (c.in-Ok-Passed.is ∙ ap (λ f. Ok f) c.in-Ok-Passed.field-0-is)
    (c.passed.ensures first most steps (changed_by (get_or all k (Merge 0 0)) made) (next-size made c.args.labels all k size is c.loop-change-test.true)
    (λ number l e. let past = cannot number l (omega (arith, e, c.requires.many, c.if-changes-eq0.false)) in omega (arith, past, c.if-changes-eq0.false))))

pub returns : goal.returns
returns t c first most steps made size cannot =
    let all = c.as_slice-change-items.result.now in
    let is : all ≡ all_changes true c.args.labels = c.as_slice-change-items.ensures.value ∙ c.in-Ok.ensures in
    all_of_changes Fixed first most 0 c.args.changes steps steps made all c.args.count (Ok (Passed c.loop-change.count)) c.if-changes-eq0.false (is ∙ ap (all_changes true) (sym size))
    (loop-done Fixed first (of_change Fixed first most 0 steps (c.args.changes - 1) made) all c.args.count c.loop-change.count steps steps c.loop-change.change-index c.loop-change-test.false (c.loop-change.invariant first most steps made size cannot))
