use Rattle.std.proofs.Common.{◌≡◌, ◌∙◌, ◌++◌, ◌∷◌, ◌<◌, ◌≤◌, ◌+◌, [], ℕ, List, length, length-append, arith, ap, subst, sym, refl}
use Rattle.std.specs.Prelude.{Contains, ◌↔◌}
use Rattle.re_labels.proofs.SaidChoices.{popped-is}
use Rattle.re_boxes.proofs.Visits.{IsOpenedAt, IsPartedAt, narrowed-all, narrowed-rest, narrowed-start, next-goes, nothing-more, rest-below, round-narrowed, round-visit, round-waiting, waiting-start, narrowed-alone}
use Rattle.re_boxes.specs.Rests.{Completes}
use Rattle.re_boxes.specs.Spans.{tree_of, AreSpans, Fits, IsEnding, IsNarrowed, IsNext, IsVisit, IsWaiting}
use Rattle.re_boxes.proofs.visiting.+visit.Goals as goal
use Rattle.re_labels.specs.declared.TheConstants.{MAX_LABELS}
use Rattle.re_labels.proofs.Lists.{refilled}

is-deep : (l degree d e : ℕ) → d ≡ l → e ≡ degree → (d + 1 ≡ e → ⊥) → l < degree → l + 1 < degree
is-deep l degree d e same given apart below = strictly (l + 1) degree (omega (arith, below)) (λ h. apart (omega (arith, h, same, given)))
  where
    strictly : (x y : ℕ) → x ≤ y → (x ≡ y → ⊥) → x < y
    strictly x y le apart = grind arith

pub returns-then-depth-degree-clause-narrowed : goal.returns-then-depth-degree-clause-narrowed
returns-then-depth-degree-clause-narrowed t c =
    let whole : length c.args.beginning.now.items + 1 ≡ (tree_of c.args.constraint.now c.args.nodes.now).degree = (let d = c.len-depth.ensures.value in let e = c.degree.ensures.degree in let h = c.if-depth-degree.true in omega (arith, d, e, h)) in
    narrowed-rest (tree_of c.args.constraint.now c.args.nodes.now) c.degree.ensures.constraint c.args.beginning.now.items c.completions.result c.args.ups.now c.narrow.new.ups whole c.requires.visit.ascends
    (subst (λ r. (x : ℕ) → Contains c.completions.result x ↔ Completes c.args.constraint.now r x) c.as_slice.ensures.value c.completions.ensures) c.narrow.ensures.each

pub loop-least-init : goal.loop-least-init
loop-least-init t c = record {
  same = refl;
  low = omega arith;
  waiting = subst (IsWaiting (tree_of c.args.constraint.now c.args.nodes.now) c.args.beginning.now.items c.args.bound 0 c.args.main) (sym c.copied-waiting.ensures)
      (waiting-start (tree_of c.args.constraint.now c.args.nodes.now) c.args.beginning.now.items c.args.bound c.args.main c.args.candidates.now c.requires.visit);
  sets = λ n each a. each a;
  narrowed = narrowed-start (tree_of c.args.constraint.now c.args.nodes.now) c.args.beginning.now.items c.args.ups.now;
}

pub least_label-requires-clause-candidates : goal.least_label-requires-clause-candidates
least_label-requires-clause-candidates t c =
    subst (λ d. AreSpans (tree_of c.args.constraint.now c.args.nodes.now) (d + 1) c.as_slice-in-loop-least.result.now) (sym c.len-depth.ensures.value)
    (subst (AreSpans (tree_of c.args.constraint.now c.args.nodes.now) (length c.args.beginning.now.items + 1)) (sym c.as_slice-in-loop-least.ensures.value) c.loop-least.invariant.waiting.spans)

pub returns-in_default-clause-narrowed : goal.returns-in_default-clause-narrowed
returns-in_default-clause-narrowed t c =
    let deep : length c.args.beginning.now.items + 1 < (tree_of c.args.constraint.now c.args.nodes.now).degree =
    (let d = c.len-depth.ensures.value in let e = c.degree.ensures.degree in let h = c.if-depth-degree.false in let r = c.requires.depth in is-deep (length c.args.beginning.now.items) (tree_of c.args.constraint.now c.args.nodes.now).degree c.len-depth.result c.degree.result d e h r) in
    let none_main : (ending : List ℕ) → IsEnding (tree_of c.args.constraint.now c.args.nodes.now) (length c.args.beginning.now.items) c.loop-least.rest ending → ⊥ =
    subst (λ d. (ending : List ℕ) → IsEnding (tree_of c.args.constraint.now c.args.nodes.now) d c.loop-least.rest ending → ⊥) c.len-depth.ensures.value c.in_default.ensures.0 in
    let none_fit : (x : ℕ) (ending : List ℕ) → Fits (tree_of c.args.constraint.now c.args.nodes.now) (length c.args.beginning.now.items + 1) c.loop-least.waiting.items x ending → ⊥ =
    subst (λ d. (x : ℕ) (ending : List ℕ) → Fits (tree_of c.args.constraint.now c.args.nodes.now) (d + 1) c.loop-least.waiting.items x ending → ⊥) c.len-depth.ensures.value
    (subst (λ l. (x : ℕ) (ending : List ℕ) → Fits (tree_of c.args.constraint.now c.args.nodes.now) (c.len-depth.result + 1) l x ending → ⊥) c.as_slice-in-loop-least.ensures.value c.in_default.ensures.1) in
    narrowed-all (tree_of c.args.constraint.now c.args.nodes.now) c.degree.ensures.constraint c.args.beginning.now.items c.loop-least.least c.args.ups.now c.loop-least.ups deep c.loop-least.invariant.narrowed
    (nothing-more (tree_of c.args.constraint.now c.args.nodes.now) c.degree.ensures.constraint c.args.beginning.now.items c.args.bound c.requires.visit.bounded c.loop-least.least c.loop-least.rest c.loop-least.waiting.items c.loop-least.invariant.waiting none_main none_fit)

pub returns-clause-narrowed : goal.returns-clause-narrowed
returns-clause-narrowed t c =
    let deep : length c.args.beginning.now.items + 1 < (tree_of c.args.constraint.now c.args.nodes.now).degree =
    (let d = c.len-depth.ensures.value in let e = c.degree.ensures.degree in let h = c.if-depth-degree.false in let r = c.requires.depth in is-deep (length c.args.beginning.now.items) (tree_of c.args.constraint.now c.args.nodes.now).degree c.len-depth.result c.degree.result d e h r) in
    let end : MAX_LABELS ≤ c.loop-least.least = c.loop-least-test.false in
    narrowed-all (tree_of c.args.constraint.now c.args.nodes.now) c.degree.ensures.constraint c.args.beginning.now.items c.loop-least.least c.args.ups.now c.loop-least.ups deep c.loop-least.invariant.narrowed
    (λ label a ending from h done. (let below = rest-below (tree_of c.args.constraint.now c.args.nodes.now) c.degree.ensures.constraint c.args.beginning.now.items label ending a done in omega (arith, below, from, end)))

pub part-requires-clause-candidates : goal.part-requires-clause-candidates
part-requires-clause-candidates t c =
    let here : c.as_slice-in-loop-least-2.result.now ≡ c.args.beginning.now.items = c.as_slice-in-loop-least-2.ensures.value ∙ c.loop-least.invariant.same in
    let next : IsNext (tree_of c.args.constraint.now c.args.nodes.now) (length c.args.beginning.now.items) c.loop-least.rest c.loop-least.waiting.items c.in-Some.label =
    subst (λ d. IsNext (tree_of c.args.constraint.now c.args.nodes.now) d c.loop-least.rest c.loop-least.waiting.items c.in-Some.label) c.len-depth.ensures.value
    (subst (λ l. IsNext (tree_of c.args.constraint.now c.args.nodes.now) c.len-depth.result c.loop-least.rest l c.in-Some.label) c.as_slice-in-loop-least.ensures.value c.in-Some.ensures.1) in
    let opened : IsOpenedAt (tree_of c.args.constraint.now c.args.nodes.now) c.args.beginning.now.items c.args.bound c.in-Some.label c.open-parts.result.below c.open-parts.result.after c.open-parts.new.waiting.items =
    subst (λ b. IsOpenedAt (tree_of c.args.constraint.now c.args.nodes.now) b c.args.bound c.in-Some.label c.open-parts.result.below c.open-parts.result.after c.open-parts.new.waiting.items) here (record {
      below = c.open-parts.ensures.below;
      after = c.open-parts.ensures.after;
      behind = c.open-parts.ensures.behind;
      later = c.open-parts.ensures.later;
      few = c.open-parts.ensures.few;
      spans = c.open-parts.ensures.spans;
      is_opened = c.open-parts.ensures.opened;
    }) in
    subst (λ d. AreSpans (tree_of c.args.constraint.now c.args.nodes.now) (d + 1) c.as_mut_slice.result.now) (sym c.len-depth.ensures.value)
    (subst (AreSpans (tree_of c.args.constraint.now c.args.nodes.now) (length c.args.beginning.now.items + 1)) (sym c.as_mut_slice.ensures.value) opened.spans)

pub part-requires-clause-least : goal.part-requires-clause-least
part-requires-clause-least t c = λ x other ending f.
    let here : c.as_slice-in-loop-least-2.result.now ≡ c.args.beginning.now.items = c.as_slice-in-loop-least-2.ensures.value ∙ c.loop-least.invariant.same in
    let next : IsNext (tree_of c.args.constraint.now c.args.nodes.now) (length c.args.beginning.now.items) c.loop-least.rest c.loop-least.waiting.items c.in-Some.label =
    subst (λ d. IsNext (tree_of c.args.constraint.now c.args.nodes.now) d c.loop-least.rest c.loop-least.waiting.items c.in-Some.label) c.len-depth.ensures.value
    (subst (λ l. IsNext (tree_of c.args.constraint.now c.args.nodes.now) c.len-depth.result c.loop-least.rest l c.in-Some.label) c.as_slice-in-loop-least.ensures.value c.in-Some.ensures.1) in
    let opened : IsOpenedAt (tree_of c.args.constraint.now c.args.nodes.now) c.args.beginning.now.items c.args.bound c.in-Some.label c.open-parts.result.below c.open-parts.result.after c.open-parts.new.waiting.items =
    subst (λ b. IsOpenedAt (tree_of c.args.constraint.now c.args.nodes.now) b c.args.bound c.in-Some.label c.open-parts.result.below c.open-parts.result.after c.open-parts.new.waiting.items) here (record {
      below = c.open-parts.ensures.below;
      after = c.open-parts.ensures.after;
      behind = c.open-parts.ensures.behind;
      later = c.open-parts.ensures.later;
      few = c.open-parts.ensures.few;
      spans = c.open-parts.ensures.spans;
      is_opened = c.open-parts.ensures.opened;
    }) in
    ((opened.is_opened x other ending).0
    (subst (λ d. Fits (tree_of c.args.constraint.now c.args.nodes.now) (d + 1) c.open-parts.new.waiting.items x (other ∷ ending)) c.len-depth.ensures.value
    (subst (λ l. Fits (tree_of c.args.constraint.now c.args.nodes.now) (c.len-depth.result + 1) l x (other ∷ ending)) c.as_mut_slice.ensures.value f))).0

pub visit-requires : goal.visit-requires
visit-requires t c =
    let here : c.as_slice-in-loop-least-2.result.now ≡ c.args.beginning.now.items = c.as_slice-in-loop-least-2.ensures.value ∙ c.loop-least.invariant.same in
    let next : IsNext (tree_of c.args.constraint.now c.args.nodes.now) (length c.args.beginning.now.items) c.loop-least.rest c.loop-least.waiting.items c.in-Some.label =
    subst (λ d. IsNext (tree_of c.args.constraint.now c.args.nodes.now) d c.loop-least.rest c.loop-least.waiting.items c.in-Some.label) c.len-depth.ensures.value
    (subst (λ l. IsNext (tree_of c.args.constraint.now c.args.nodes.now) c.len-depth.result c.loop-least.rest l c.in-Some.label) c.as_slice-in-loop-least.ensures.value c.in-Some.ensures.1) in
    let opened : IsOpenedAt (tree_of c.args.constraint.now c.args.nodes.now) c.args.beginning.now.items c.args.bound c.in-Some.label c.open-parts.result.below c.open-parts.result.after c.open-parts.new.waiting.items =
    subst (λ b. IsOpenedAt (tree_of c.args.constraint.now c.args.nodes.now) b c.args.bound c.in-Some.label c.open-parts.result.below c.open-parts.result.after c.open-parts.new.waiting.items) here (record {
      below = c.open-parts.ensures.below;
      after = c.open-parts.ensures.after;
      behind = c.open-parts.ensures.behind;
      later = c.open-parts.ensures.later;
      few = c.open-parts.ensures.few;
      spans = c.open-parts.ensures.spans;
      is_opened = c.open-parts.ensures.opened;
    }) in
    let parted : IsPartedAt (tree_of c.args.constraint.now c.args.nodes.now) (length c.args.beginning.now.items + 1) c.in-Some.label c.open-parts.new.waiting.items c.part.new.below.items c.part.new.candidates =
    subst (λ d. IsPartedAt (tree_of c.args.constraint.now c.args.nodes.now) (d + 1) c.in-Some.label c.open-parts.new.waiting.items c.part.new.below.items c.part.new.candidates) c.len-depth.ensures.value
    (subst (λ l. IsPartedAt (tree_of c.args.constraint.now c.args.nodes.now) (c.len-depth.result + 1) c.in-Some.label l c.part.new.below.items c.part.new.candidates) c.as_mut_slice.ensures.value (record {
      few_below = c.part.ensures.few_below;
      few_after = c.part.ensures.few_after;
      spans_below = c.part.ensures.spans_below;
      filled_below = c.part.ensures.filled_below;
      spans_after = c.part.ensures.spans_after;
      fits_below = c.part.ensures.below;
      fits_after = c.part.ensures.after;
    })) in
    let deep : length c.args.beginning.now.items + 1 < (tree_of c.args.constraint.now c.args.nodes.now).degree =
    (let d = c.len-depth.ensures.value in let e = c.degree.ensures.degree in let h = c.if-depth-degree.false in let r = c.requires.depth in is-deep (length c.args.beginning.now.items) (tree_of c.args.constraint.now c.args.nodes.now).degree c.len-depth.result c.degree.result d e h r) in
    let longer : c.push.new.self.items ≡ c.args.beginning.now.items ++ c.in-Some.label ∷ [] = c.push.ensures.items ∙ ap (λ b. b ++ c.in-Some.label ∷ []) c.loop-least.invariant.same in
    let count : length c.push.new.self.items ≡ length c.args.beginning.now.items + 1 = ap length longer ∙ length-append c.args.beginning.now.items (c.in-Some.label ∷ []) in
    let low : c.in-Some.label < MAX_LABELS = c.in-Some.ensures.0 in
    let few : length c.loop-least.ups ≤ MAX_LABELS = (let l = c.loop-least.auto.ups in let f = c.requires.few in omega (arith, l, f)) in (
      omega (arith, c.decreases, count, deep),
      (
        omega (arith, count, deep),
        (
          subst (λ b. IsVisit (tree_of c.args.constraint.now c.args.nodes.now) b (c.in-Some.label + 1) c.open-parts.result.below c.as_slice-in-loop-least-3.result.now) (sym longer)
              (subst (IsVisit (tree_of c.args.constraint.now c.args.nodes.now) (c.args.beginning.now.items ++ c.in-Some.label ∷ []) (c.in-Some.label + 1) c.open-parts.result.below) (sym c.as_slice-in-loop-least-3.ensures.value)
              (round-visit (tree_of c.args.constraint.now c.args.nodes.now) c.degree.ensures.constraint c.args.beginning.now.items c.args.bound c.requires.visit.bounded c.loop-least.least c.loop-least.rest c.loop-least.waiting.items c.loop-least.invariant.waiting c.in-Some.label next c.open-parts.result.below c.open-parts.result.after c.open-parts.new.waiting.items c.part.new.below.items c.part.new.candidates opened parted)),
          (omega (arith, low), few),
        ),
      ),
    )

pub loop-least-smaller : goal.loop-least-smaller
loop-least-smaller t c =
    let here : c.as_slice-in-loop-least-2.result.now ≡ c.args.beginning.now.items = c.as_slice-in-loop-least-2.ensures.value ∙ c.loop-least.invariant.same in
    let next : IsNext (tree_of c.args.constraint.now c.args.nodes.now) (length c.args.beginning.now.items) c.loop-least.rest c.loop-least.waiting.items c.in-Some.label =
    subst (λ d. IsNext (tree_of c.args.constraint.now c.args.nodes.now) d c.loop-least.rest c.loop-least.waiting.items c.in-Some.label) c.len-depth.ensures.value
    (subst (λ l. IsNext (tree_of c.args.constraint.now c.args.nodes.now) c.len-depth.result c.loop-least.rest l c.in-Some.label) c.as_slice-in-loop-least.ensures.value c.in-Some.ensures.1) in
    let opened : IsOpenedAt (tree_of c.args.constraint.now c.args.nodes.now) c.args.beginning.now.items c.args.bound c.in-Some.label c.open-parts.result.below c.open-parts.result.after c.open-parts.new.waiting.items =
    subst (λ b. IsOpenedAt (tree_of c.args.constraint.now c.args.nodes.now) b c.args.bound c.in-Some.label c.open-parts.result.below c.open-parts.result.after c.open-parts.new.waiting.items) here (record {
      below = c.open-parts.ensures.below;
      after = c.open-parts.ensures.after;
      behind = c.open-parts.ensures.behind;
      later = c.open-parts.ensures.later;
      few = c.open-parts.ensures.few;
      spans = c.open-parts.ensures.spans;
      is_opened = c.open-parts.ensures.opened;
    }) in
    let goes : c.loop-least.least ≤ c.in-Some.label = (next-goes (tree_of c.args.constraint.now c.args.nodes.now) c.degree.ensures.constraint c.args.beginning.now.items c.args.bound c.requires.visit.bounded c.loop-least.least c.loop-least.rest c.loop-least.waiting.items c.loop-least.invariant.waiting c.in-Some.label next).0 in
    let below : c.loop-least.least < MAX_LABELS = c.loop-least-test.true in
    let few : c.in-Some.label < MAX_LABELS = c.in-Some.ensures.0 in
    omega (arith, goes, below, few)

pub loop-least-preserved : goal.loop-least-preserved
loop-least-preserved t c =
    let here : c.as_slice-in-loop-least-2.result.now ≡ c.args.beginning.now.items = c.as_slice-in-loop-least-2.ensures.value ∙ c.loop-least.invariant.same in
    let next : IsNext (tree_of c.args.constraint.now c.args.nodes.now) (length c.args.beginning.now.items) c.loop-least.rest c.loop-least.waiting.items c.in-Some.label =
    subst (λ d. IsNext (tree_of c.args.constraint.now c.args.nodes.now) d c.loop-least.rest c.loop-least.waiting.items c.in-Some.label) c.len-depth.ensures.value
    (subst (λ l. IsNext (tree_of c.args.constraint.now c.args.nodes.now) c.len-depth.result c.loop-least.rest l c.in-Some.label) c.as_slice-in-loop-least.ensures.value c.in-Some.ensures.1) in
    let opened : IsOpenedAt (tree_of c.args.constraint.now c.args.nodes.now) c.args.beginning.now.items c.args.bound c.in-Some.label c.open-parts.result.below c.open-parts.result.after c.open-parts.new.waiting.items =
    subst (λ b. IsOpenedAt (tree_of c.args.constraint.now c.args.nodes.now) b c.args.bound c.in-Some.label c.open-parts.result.below c.open-parts.result.after c.open-parts.new.waiting.items) here (record {
      below = c.open-parts.ensures.below;
      after = c.open-parts.ensures.after;
      behind = c.open-parts.ensures.behind;
      later = c.open-parts.ensures.later;
      few = c.open-parts.ensures.few;
      spans = c.open-parts.ensures.spans;
      is_opened = c.open-parts.ensures.opened;
    }) in
    let parted : IsPartedAt (tree_of c.args.constraint.now c.args.nodes.now) (length c.args.beginning.now.items + 1) c.in-Some.label c.open-parts.new.waiting.items c.part.new.below.items c.part.new.candidates =
    subst (λ d. IsPartedAt (tree_of c.args.constraint.now c.args.nodes.now) (d + 1) c.in-Some.label c.open-parts.new.waiting.items c.part.new.below.items c.part.new.candidates) c.len-depth.ensures.value
    (subst (λ l. IsPartedAt (tree_of c.args.constraint.now c.args.nodes.now) (c.len-depth.result + 1) c.in-Some.label l c.part.new.below.items c.part.new.candidates) c.as_mut_slice.ensures.value (record {
      few_below = c.part.ensures.few_below;
      few_after = c.part.ensures.few_after;
      spans_below = c.part.ensures.spans_below;
      filled_below = c.part.ensures.filled_below;
      spans_after = c.part.ensures.spans_after;
      fits_below = c.part.ensures.below;
      fits_after = c.part.ensures.after;
    })) in
    let longer : c.push.new.self.items ≡ c.args.beginning.now.items ++ c.in-Some.label ∷ [] = c.push.ensures.items ∙ ap (λ b. b ++ c.in-Some.label ∷ []) c.loop-least.invariant.same in
    let few : c.in-Some.label < MAX_LABELS = c.in-Some.ensures.0 in
    record {
      same = popped-is c.args.beginning.now.items c.visit.new.beginning.items c.pop.new.self.items c.in-Some.label (c.visit.ensures.beginning ∙ longer) c.pop.ensures.rest;
      low = omega (arith, few);
      waiting = subst (IsWaiting (tree_of c.args.constraint.now c.args.nodes.now) c.args.beginning.now.items c.args.bound (c.in-Some.label + 1) c.open-parts.result.after) (sym (refilled c.open-parts.new.waiting.items c.part.new.candidates (c.part.auto.candidates ∙ ap length c.as_mut_slice.ensures.value)))
          (round-waiting (tree_of c.args.constraint.now c.args.nodes.now) c.degree.ensures.constraint c.args.beginning.now.items c.args.bound c.requires.visit.bounded c.loop-least.least c.loop-least.rest c.loop-least.waiting.items c.loop-least.invariant.waiting c.in-Some.label next c.open-parts.result.below c.open-parts.result.after c.open-parts.new.waiting.items c.part.new.below.items c.part.new.candidates opened parted);
      sets = λ n each a. c.visit.ensures.sets n (c.loop-least.invariant.sets n each) a;
      narrowed = round-narrowed (tree_of c.args.constraint.now c.args.nodes.now) c.degree.ensures.constraint c.args.beginning.now.items c.args.bound c.requires.visit.bounded c.loop-least.least c.loop-least.rest c.loop-least.waiting.items c.loop-least.invariant.waiting c.in-Some.label next c.open-parts.result.below c.open-parts.result.after c.open-parts.new.waiting.items c.part.new.below.items c.part.new.candidates opened parted c.args.ups.now c.loop-least.ups c.visit.new.ups c.loop-least.invariant.narrowed (let l = c.loop-least.auto.ups in l)
          (subst (λ b. IsNarrowed c.args.constraint.now b c.loop-least.ups c.visit.new.ups) longer c.visit.ensures.narrowed);
    }

pub returns-then-are_alone-clause-narrowed : goal.returns-then-are_alone-clause-narrowed
returns-then-are_alone-clause-narrowed t c = narrowed-alone (tree_of c.args.constraint.now c.args.nodes.now) c.args.beginning.now.items c.args.ups.now (c.are_alone.ensures c.if-are_alone.true)
