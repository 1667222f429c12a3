use Rattle.std.proofs.Common.{◌≡◌, ◌∙◌, ◌<◌, ℕ, [], get_or, length, arith, ap, sym, subst, get_or-set_other, get_or-set_same, inl, inr, ◌⊎◌, List, set}
use Rattle.re_labels.proofs.RowCalls.{read_within}
use Rattle.re_labels.proofs.Numbers.{IsLabelSet-filter}
use Rattle.re_labels.specs.Sets.{IsLabelSet, has, meet}
use Rattle.re_boxes.proofs.NextLabels.{narrow-pass, narrow-step}
use Rattle.re_boxes.proofs.visiting.narrow.Goals as goal
use Rattle.re_boxes.proofs.visiting.narrow.Goals.{else-has, then-has}

sets-set : (n k : ℕ) (now : List (List ℕ)) (completions : List ℕ) → k < length now → ((a : ℕ) → IsLabelSet n (get_or now a [])) → (a : ℕ) → IsLabelSet n (get_or (set now k (meet (get_or now k []) completions)) a [])
sets-set n k now completions far each a = elim (same_or a) [
  | inl e ↦ subst (λ i. IsLabelSet n (get_or (set now k (meet (get_or now k []) completions)) i [])) (sym e)
      (subst (IsLabelSet n) (sym (get_or-set_same now k (meet (get_or now k []) completions) [] far)) (IsLabelSet-filter (has completions) n (get_or now k []) (each k)))
  | inr apart ↦ subst (IsLabelSet n) (sym (get_or-set_other now k a (meet (get_or now k []) completions) [] apart)) (each a)
]
  where
    same_or : (a : ℕ) → (a ≡ k) ⊎ (a ≡ k → ⊥)
    same_or a = grind arith

pub loop-label-preserved : goal.loop-label-preserved
loop-label-preserved c = elim c.if-has.branch [
  | then-has w ↦
      let far : c.loop-label.label < length c.loop-label.ups = (let below = c.loop-label-test.true in let same = c.loop-label.auto.ups in omega (arith, below, same)) in
      let read : w.index-ups-label.result ≡ get_or c.loop-label.ups c.loop-label.label [] = w.index-ups-label.is ∙ read_within c.loop-label.ups c.loop-label.label w.index-ups-label.result [] far in
      let new : c.if-has.ups ≡ set c.loop-label.ups c.loop-label.label (meet w.index-ups-label.result c.args.completions) = w.ups-is ∙ ap (set c.loop-label.ups c.loop-label.label) w.meet.ensures in
      let value : c.if-has.ups ≡ set c.loop-label.ups c.loop-label.label (meet (get_or c.loop-label.ups c.loop-label.label []) c.args.completions) = new ∙ ap (λ s. set c.loop-label.ups c.loop-label.label (meet s c.args.completions)) read in
      record {
        sets = λ n each a. subst (λ ups. IsLabelSet n (get_or ups a [])) (sym value) (sets-set n c.loop-label.label c.loop-label.ups c.args.completions far (c.loop-label.invariant.sets n each) a);
        each = narrow-step c.args.ups.now c.loop-label.ups c.if-has.ups c.args.completions c.loop-label.label far c.loop-label.invariant.each (c.loop-label.invariant.others c.loop-label.label (omega arith)) w.index-ups-label.result read new
            (sym c.has.ensures ∙ w.if-has.true);
        others = λ a past.
            ap (λ ups. get_or ups a []) new ∙ get_or-set_other c.loop-label.ups c.loop-label.label a (meet w.index-ups-label.result c.args.completions) [] (λ same. absurd (omega (arith, past, same)))
            ∙ c.loop-label.invariant.others a (omega (arith, past));
      }
  | else-has w ↦
      let far : c.loop-label.label < length c.loop-label.ups = (let below = c.loop-label-test.true in let same = c.loop-label.auto.ups in omega (arith, below, same)) in
      record {
        sets = λ n each a. subst (λ ups. IsLabelSet n (get_or ups a [])) (sym w.ups-is) (c.loop-label.invariant.sets n each a);
        each = narrow-pass c.args.ups.now c.loop-label.ups c.if-has.ups c.args.completions c.loop-label.label far c.loop-label.invariant.each (c.loop-label.invariant.others c.loop-label.label (omega arith)) w.ups-is
            (sym c.has.ensures ∙ w.if-has.false);
        others = λ a past. ap (λ ups. get_or ups a []) w.ups-is ∙ c.loop-label.invariant.others a (omega (arith, past));
      }
]

pub returns-clause-each : goal.returns-clause-each
returns-clause-each c = λ a b below.
    c.loop-label.invariant.each a b (let past = c.loop-label-test.false in let same = c.loop-label.auto.ups in omega (arith, below, past, same))
