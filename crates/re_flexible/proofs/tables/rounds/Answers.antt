use Rattle.std.proofs.Common.{◌≡◌, ◌∙◌, ◌<◌, ◌⊎◌, ℕ, Bool, true, false, List, [], arith, get_or, inl, inr, length, refl, subst, sym}
use Rattle.std.specs.Prelude.{◌↔◌, IsTrue}
use Rattle.std.proofs.lemmas.Bool.{false≢true}
use Rattle.re_labels.proofs.Sets.{IsIn-has, has-IsIn}
use Rattle.re_labels.specs.Sets.{IsIn, has}
use Rattle.re_labels.specs.declared.TheConstants.{MAX_LABELS}
use Rattle.re_labels.proofs.Placing.{read_at}
use Rattle.re_flexible.proofs.Ahead.{ahead_all, ahead_more, ahead_none, lacks_less}
use Rattle.re_flexible.proofs.tables.rounds.Goals as goal
use Rattle.re_flexible.specs.Relations.{Composes, IsWithin, Relates, Rounds}

told : (b : Bool) (row : List ℕ) (x : ℕ) (P Q : Type 0) → b ≡ has row x → (IsIn x row → P) → (P → IsIn x row) → P ↔ Q → IsTrue b ↔ Q
told true row x P Q e to from both = (λ t. both.0 (to (has-IsIn row x (sym e))), λ q. refl)
told false row x P Q e to from both = (λ f. absurd (false≢true f), λ q. absurd (false≢true (e ∙ IsIn-has row x (from (both.1 q)))))

pub steps-init : goal.steps-init
steps-init c = record {
  count = c.alone-ahead.ensures.count;
  ahead = ahead_none c.args.table.now c.args.back.now c.args.label c.requires.converse c.alone-ahead.result.items c.alone-ahead.ensures.alone;
}

pub returns-then-is_within : goal.returns-then-is_within
returns-then-is_within c =
    let first : (a b : ℕ) → Relates c.composed-behind.result.items a b ↔ Composes c.args.back.now c.steps.ahead.items a b =
    λ a b. subst (λ t. Relates c.composed-behind.result.items a b ↔ Composes c.args.back.now t a b) c.as_slice.ensures.value (c.composed-behind.ensures.steps a b) in
    let second : (a b : ℕ) → Relates c.composed-moved.result.items a b ↔ Composes c.composed-behind.result.items c.args.table.now a b =
    λ a b. subst (λ t. Relates c.composed-moved.result.items a b ↔ Composes t c.args.table.now a b) c.as_slice-in-steps.ensures.value (c.composed-moved.ensures.steps a b) in
    let inside : IsWithin c.composed-moved.result.items c.steps.ahead.items = subst (λ t. IsWithin t c.steps.ahead.items) c.as_slice-in-steps-2.ensures.value
    (subst (λ t. IsWithin c.as_slice-in-steps-2.result.now t) c.as_slice-in-steps-3.ensures.value c.if-is_within.ensures) in
    let all = ahead_all c.args.table.now c.args.back.now c.args.label c.requires.converse c.steps.ahead.items c.composed-behind.result.items c.composed-moved.result.items c.steps.invariant.ahead first second inside in
    let low : c.args.label < length c.steps.ahead.items = (let below = c.requires.label in let same = c.steps.invariant.count in omega (arith, below, same)) in
    let here : c.index-deref-label.result ≡ get_or c.steps.ahead.items c.args.label [] = read_at c.steps.ahead.items c.args.label c.index-deref-label.result low
    (subst (λ t. c.index-deref-label.result ≡ get_or t c.args.label c.index-deref-label.result) c.deref.ensures.0 c.index-deref-label.is) in
    told c.has.result c.index-deref-label.result c.args.label (Relates c.steps.ahead.items c.args.label c.args.label) (Rounds c.args.table.now c.args.label) c.has.ensures
    (λ held. subst (IsIn c.args.label) here held) (λ held. subst (IsIn c.args.label) (sym here) held) all

pub steps-smaller : goal.steps-smaller
steps-smaller c =
    let (x, y, low, under, new, missing) = c.if-is_within.ensures in
    let fresh : Relates c.composed-moved.result.items x y = subst (λ t. Relates t x y) c.as_slice-in-steps-2.ensures.value new in
    let apart : Relates c.steps.ahead.items x y → ⊥ = subst (λ t. Relates t x y → ⊥) c.as_slice-in-steps-3.ensures.value missing in
    let either : (a b : ℕ) → Relates c.united-ahead.result.items a b ↔ (Relates c.steps.ahead.items a b ⊎ Relates c.composed-moved.result.items a b) =
    λ a b. subst (λ t. Relates c.united-ahead.result.items a b ↔ (Relates t a b ⊎ Relates c.composed-moved.result.items a b)) c.as_slice-in-steps-4.ensures.value
    (subst (λ t. Relates c.united-ahead.result.items a b ↔ (Relates c.as_slice-in-steps-4.result.now a b ⊎ Relates t a b)) c.as_slice-in-steps-5.ensures.value (c.united-ahead.ensures.either a b)) in
    lacks_less MAX_LABELS c.steps.ahead.items c.united-ahead.result.items MAX_LABELS x y (λ a b held. (either a b).1 (inl held)) low under apart ((either x y).1 (inr fresh))

pub steps-preserved : goal.steps-preserved
steps-preserved c =
    let first : (a b : ℕ) → Relates c.composed-behind.result.items a b ↔ Composes c.args.back.now c.steps.ahead.items a b =
    λ a b. subst (λ t. Relates c.composed-behind.result.items a b ↔ Composes c.args.back.now t a b) c.as_slice.ensures.value (c.composed-behind.ensures.steps a b) in
    let second : (a b : ℕ) → Relates c.composed-moved.result.items a b ↔ Composes c.composed-behind.result.items c.args.table.now a b =
    λ a b. subst (λ t. Relates c.composed-moved.result.items a b ↔ Composes t c.args.table.now a b) c.as_slice-in-steps.ensures.value (c.composed-moved.ensures.steps a b) in
    let either : (a b : ℕ) → Relates c.united-ahead.result.items a b ↔ (Relates c.steps.ahead.items a b ⊎ Relates c.composed-moved.result.items a b) =
    λ a b. subst (λ t. Relates c.united-ahead.result.items a b ↔ (Relates t a b ⊎ Relates c.composed-moved.result.items a b)) c.as_slice-in-steps-4.ensures.value
    (subst (λ t. Relates c.united-ahead.result.items a b ↔ (Relates c.as_slice-in-steps-4.result.now a b ⊎ Relates t a b)) c.as_slice-in-steps-5.ensures.value (c.united-ahead.ensures.either a b)) in
    record {
      count = c.united-ahead.ensures.count;
      ahead = ahead_more c.args.table.now c.args.back.now c.args.label c.requires.converse c.steps.ahead.items c.composed-behind.result.items c.composed-moved.result.items c.united-ahead.result.items c.steps.invariant.ahead first second either;
    }
