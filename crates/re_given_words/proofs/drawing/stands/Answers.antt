use Rattle.std.proofs.Common.{◌≡◌, ◌∙◌, ap, sym}
use Rattle.std.proofs.lemmas.List.{get_or_default}
use Rattle.re_labels.proofs.Numbers.{set_of-number}
use Rattle.re_labels.specs.Sets.{set_of}
use Rattle.re_labels.specs.declared.TheConstants.{MAX_LABELS}
use Rattle.re_given_words.proofs.TwoRounds.{stand}
use Rattle.re_given_words.proofs.drawing.stands.Goals as goal

same_set : (c : goal.Then-number) → c.other-item.result.set ≡ c.args.new.now.set
same_set c =
    sym (set_of-number MAX_LABELS c.other-item.result.set c.number.ensures.set).1
    ∙ ap (set_of MAX_LABELS) (sym c.number.ensures.number ∙ c.if-number.true ∙ c.number-then-other-new.ensures.number)
    ∙ (set_of-number MAX_LABELS c.args.new.now.set c.number-then-other-new.ensures.set).1

pub returns-then-number : goal.returns-then-number
returns-then-number c = λ yes. (
  c.loop-other.other-index,
  c.loop-other-test.true,
  get_or_default c.args.standing.now c.loop-other.other-index (stand c.args.new.now.port c.args.new.now.set) c.other-item.result c.loop-other-test.true ∙ sym c.other-item.is ∙ (λ k. stand (c.if-other-new.true k) (same_set c k)),
)
