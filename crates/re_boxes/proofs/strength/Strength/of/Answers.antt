use Rattle.std.proofs.Common.{◌≡◌, ◌<◌, ℕ, ◌∙◌, ◌++◌, ◌∷◌, [], ap, sym, subst, arith, lit<, length, not, get_or}
use Rattle.re_labels.proofs.RowCalls.{read_within}
use Rattle.re_labels.specs.Sets.{has}
use Rattle.re_boxes.specs.HeldStrength.{ups_in}
use Rattle.re_boxes.proofs.UpSets.{table_more, length-up_sets, stronger, up_sets, up_sets_more, ups_below, ups_strong}
use Rattle.re_boxes.proofs.strength.Strength.of.Goals as goal

pub apart_from-requires-clause-label : goal.apart_from-requires-clause-label
apart_from-requires-clause-label c =
    let count : length c.as_slice.result.now ≡ c.args.labels = ap length (c.as_slice.ensures.value ∙ c.up_sets-ups.ensures) ∙ length-up_sets c.args.constraint.now c.args.labels c.args.labels in
    let below = c.loop-label-test.true in
    omega (arith, count, below)

pub loop-label-preserved : goal.loop-label-preserved
loop-label-preserved c =
    let count : length c.as_slice.result.now ≡ c.args.labels = ap length (c.as_slice.ensures.value ∙ c.up_sets-ups.ensures) ∙ length-up_sets c.args.constraint.now c.args.labels c.args.labels in
    table_more (λ x z. not (has (ups_in c.up_sets-ups.result.items z) x)) c.args.labels c.loop-label.label c.loop-label.apart.items c.push.new.self.items c.apart_from.result c.loop-label.invariant
    c.push.ensures.items
    (subst (λ ups. (z : ℕ) → z < c.args.labels → has c.apart_from.result z ≡ not (has (ups_in ups z) c.loop-label.label)) c.as_slice.ensures.value
    (λ z h. c.apart_from.ensures z (omega (arith, h, count))))

pub bounds-deref-label : goal.bounds-deref-label
bounds-deref-label c =
    let count : length c.deref.result.now ≡ c.args.labels = ap length (c.deref.ensures.0 ∙ c.up_sets-ups.ensures) ∙ length-up_sets c.args.constraint.now c.args.labels c.args.labels in
    let below = c.loop-label-2-test.true in
    omega (arith, count, below)

pub loop-label-2-preserved : goal.loop-label-2-preserved
loop-label-2-preserved c =
    let count : length c.deref.result.now ≡ c.args.labels = ap length (c.deref.ensures.0 ∙ c.up_sets-ups.ensures) ∙ length-up_sets c.args.constraint.now c.args.labels c.args.labels in
    let below = c.loop-label-2-test.true in
    let x = c.loop-label-2.label in
    let set : c.index-deref-label.result ≡ ups_in c.up_sets-ups.result.items x = c.index-deref-label.is ∙ read_within c.deref.result.now x c.index-deref-label.result (x ∷ []) (omega (arith, count, below))
    ∙ ap (λ l. get_or l x (x ∷ [])) c.deref.ensures.0 in
    table_more (λ x z. not (has (ups_in c.up_sets-ups.result.items x) z)) c.args.labels x c.loop-label-2.past.items c.push-in-loop-label-2.new.self.items c.others.result c.loop-label-2.invariant
    c.push-in-loop-label-2.ensures.items (λ z h. c.others.ensures z h ∙ ap (λ s. not (has s z)) set)

pub invariant_of-result : goal.invariant_of-result
invariant_of-result c =
    let all : c.up_sets-ups.result.items ≡ up_sets c.args.constraint.now c.args.labels c.args.labels = c.up_sets-ups.ensures in
    let last : c.loop-label.label ≡ c.args.labels = (let past = c.loop-label-test.false in let most = c.loop-label.auto.label-end in omega arith) in
    let third : c.loop-label-2.label ≡ c.args.labels = (let past = c.loop-label-2-test.false in let most = c.loop-label-2.auto.label-end in omega arith) in
    record {
      few = c.requires;
      count = ap length all ∙ length-up_sets c.args.constraint.now c.args.labels c.args.labels;
      alike = c.loop-label.invariant.count ∙ last;
      beside = c.loop-label-2.invariant.count ∙ third;
      below = ups_below c.args.constraint.now c.args.labels c.up_sets-ups.result.items all;
      lacks = λ x z h k. c.loop-label.invariant.told x z (omega (arith, h, last)) k;
      passes = λ x z h k. c.loop-label-2.invariant.told x z (omega (arith, h, third)) k;
    }

pub returns-clause-strong : goal.returns-clause-strong
returns-clause-strong c =
    ups_strong c.args.constraint.now c.args.labels c.up_sets-ups.result.items (c.up_sets-ups.ensures) c.degree-degree.ensures.constraint

pub returns-clause-stronger : goal.returns-clause-stronger
returns-clause-stronger c =
    stronger c.args.constraint.now c.args.labels c.up_sets-ups.result.items (c.up_sets-ups.ensures) c.degree-degree.ensures.constraint
