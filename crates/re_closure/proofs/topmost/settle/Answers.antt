use Rattle.std.proofs.Common.{◌+◌, ◌*◌, ◌<◌, ◌≤◌, ℕ, Err, List, ap, arith, length, subst, sym, ◌∙◌}
use Rattle.std.specs.Prelude.{Contains, ◌↔◌}
use Rattle.re_labels.specs.Rows.{Dominates}
use Rattle.re_labels.specs.declared.TheConstants.{MAX_ROWS}
use Rattle.re_closure.specs.Kept.{AreSettled, IsAntichain, combinations_of}
use Rattle.re_closure.specs.declared.topmost.LinesFault.TheVariants.{TooManyCombinations}
use Rattle.re_closure.specs.declared.topmost.TheConstants.{MAX_COMBINATIONS}
use Rattle.std.proofs.lemmas.Bool.{false≢true}
use Rattle.re_labels.specs.GoodRows.{IsDominated}
use Rattle.re_closure.proofs.Counting.{counted_dominated, counted_kept, counted_many}
use Rattle.re_closure.proofs.Keeping.{antichain_kept, err_is, kept_dominated, kept_more, many_lines}
use Rattle.re_closure.proofs.topmost.settle.Goals as goal

pub returns-then-is_dominated-clause-kept : goal.returns-then-is_dominated-clause-kept
returns-then-is_dominated-clause-kept c = λ d starts before. kept_dominated d starts c.args.kept.now.items c.args.waiting.now.items c.args.line.now
    (subst (λ l. IsDominated l c.args.line.now) c.as_slice.ensures.value (c.is_dominated.ensures.0 c.if-is_dominated.true)) before

pub returns-clause-kept : goal.returns-clause-kept
returns-clause-kept c = λ d starts before. kept_more d starts c.args.kept.now.items c.in_ok-more.more.items c.push.new.self.items c.args.waiting.now.items c.offer_combinations.new.waiting.items c.args.line.now c.copy.result
    (λ held. false≢true (sym c.if-is_dominated.false ∙ c.is_dominated.ensures.1 (subst (λ l. IsDominated l c.args.line.now) (sym c.as_slice.ensures.value) held)))
    (subst (λ l. (line : List (List ℕ)) → Contains c.in_ok-more.more.items line ↔ (Contains l line × (Dominates c.args.line.now line → ⊥))) c.as_slice-2.ensures.value c.in_ok-more.ensures.left)
    c.copy.ensures c.in_ok-push.ensures.items
    (subst (λ l. AreSettled l c.args.line.now c.args.waiting.now.items c.offer_combinations.new.waiting.items) c.as_slice-3.ensures.value c.in_ok-offer_combinations.ensures.settled) before

pub returns-clause-unrelated : goal.returns-clause-unrelated
returns-clause-unrelated c = λ chain. antichain_kept c.args.kept.now.items c.in_ok-more.more.items c.push.new.self.items c.args.line.now c.copy.result
    (λ held. false≢true (sym c.if-is_dominated.false ∙ c.is_dominated.ensures.1 (subst (λ l. IsDominated l c.args.line.now) (sym c.as_slice.ensures.value) held)))
    (subst (λ l. (line : List (List ℕ)) → Contains c.in_ok-more.more.items line ↔ (Contains l line × (Dominates c.args.line.now line → ⊥))) c.as_slice-2.ensures.value c.in_ok-more.ensures.left)
    c.copy.ensures c.in_ok-push.ensures.items (c.in_ok-more.ensures.unrelated (subst IsAntichain (sym c.as_slice-2.ensures.value) chain))

pub returns-then-len-ge-MAX_ROWS-clause-many : goal.returns-then-len-ge-MAX_ROWS-clause-many
returns-then-len-ge-MAX_ROWS-clause-many c = λ fault d starts chain before.
    let many : MAX_ROWS ≤ length c.in_ok-more.more.items = (let count = c.len.ensures in omega (arith, count, c.if-len-ge-MAX_ROWS.true)) in
    many_lines d starts c.args.kept.now.items c.in_ok-more.more.items c.args.waiting.now.items c.args.line.now
    (λ held. false≢true (sym c.if-is_dominated.false ∙ c.is_dominated.ensures.1 (subst (λ l. IsDominated l c.args.line.now) (sym c.as_slice.ensures.value) held)))
    (subst (λ l. (line : List (List ℕ)) → Contains c.in_ok-more.more.items line ↔ (Contains l line × (Dominates c.args.line.now line → ⊥))) c.as_slice-2.ensures.value c.in_ok-more.ensures.left)
    (c.in_ok-more.ensures.unrelated (subst IsAntichain (sym c.as_slice-2.ensures.value) chain)) many before

pub returns-then-is_dominated-clause-counted : goal.returns-then-is_dominated-clause-counted
returns-then-is_dominated-clause-counted c = λ d looked starts is before. counted_dominated d starts c.args.kept.now.items c.args.waiting.now.items c.args.line.now looked before

pub returns-clause-counted : goal.returns-clause-counted
returns-clause-counted c = λ d looked starts is before. counted_kept d starts c.args.kept.now.items c.in_ok-more.more.items c.push.new.self.items c.args.waiting.now.items c.args.line.now c.copy.result looked
    (λ held. false≢true (sym c.if-is_dominated.false ∙ c.is_dominated.ensures.1 (subst (λ l. IsDominated l c.args.line.now) (sym c.as_slice.ensures.value) held)))
    (subst (λ l. (line : List (List ℕ)) → Contains c.in_ok-more.more.items line ↔ (Contains l line × (Dominates c.args.line.now line → ⊥))) c.as_slice-2.ensures.value c.in_ok-more.ensures.left)
    (subst (λ l. length c.in_ok-more.more.items ≤ length l) c.as_slice-2.ensures.value c.in_ok-more.ensures.few)
    c.copy.ensures c.in_ok-push.ensures.items is before c.offer_combinations.new.waiting.items
    (subst (λ l. length c.offer_combinations.new.waiting.items ≤ length c.args.waiting.now.items + length l * combinations_of (length c.args.line.now)) c.as_slice-3.ensures.value c.in_ok-offer_combinations.ensures.few)

pub returns-in_err-offer_combinations-clause-full : goal.returns-in_err-offer_combinations-clause-full
returns-in_err-offer_combinations-clause-full c = λ e d looked starts is before. counted_many d starts c.args.kept.now.items c.in_ok-more.more.items c.push.new.self.items c.args.waiting.now.items c.args.line.now c.copy.result looked
    (λ held. false≢true (sym c.if-is_dominated.false ∙ c.is_dominated.ensures.1 (subst (λ l. IsDominated l c.args.line.now) (sym c.as_slice.ensures.value) held)))
    (subst (λ l. (line : List (List ℕ)) → Contains c.in_ok-more.more.items line ↔ (Contains l line × (Dominates c.args.line.now line → ⊥))) c.as_slice-2.ensures.value c.in_ok-more.ensures.left)
    (subst (λ l. length c.in_ok-more.more.items ≤ length l) c.as_slice-2.ensures.value c.in_ok-more.ensures.few)
    c.copy.ensures c.in_ok-push.ensures.items is before
    (subst (λ l. MAX_COMBINATIONS < length c.args.waiting.now.items + length l * combinations_of (length c.args.line.now)) c.as_slice-3.ensures.value
    (c.in_err-offer_combinations.ensures.full (ap Err (err_is c.from_residual-in_err-offer_combinations.result c.in_err-offer_combinations.field-0.0 TooManyCombinations c.from_residual-in_err-offer_combinations.ensures.1 e))))
