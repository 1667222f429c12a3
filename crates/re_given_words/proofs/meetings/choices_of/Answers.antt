use Rattle.std.proofs.Common.{ℕ, ◌<◌}
use Rattle.re_labels.proofs.Membership.{AllByRecursion-weaker}
use Rattle.re_given_words.proofs.Asked.{all-both}
use Rattle.re_given_words.specs.Asking.{IsChoiceOf}
use Rattle.re_given_words.proofs.meetings.choices_of.Goals as goal

pub loop-at-preserved : goal.loop-at-preserved
loop-at-preserved c =
    all-both (λ choice. (t : ℕ) × (t < c.args.types) × IsChoiceOf c.args.ports.now c.args.meetings.now c.args.degree c.args.size t choice) c.loop-at.all.items c.in_ok-chosen.chosen.items c.append.new.self.items
    c.loop-at.invariant
    (AllByRecursion-weaker (IsChoiceOf c.args.ports.now c.args.meetings.now c.args.degree c.args.size c.loop-at.at) (λ choice. (t : ℕ) × (t < c.args.types) × IsChoiceOf c.args.ports.now c.args.meetings.now c.args.degree c.args.size t choice)
    (λ choice zip. (c.loop-at.at, c.loop-at-test.true, zip)) c.in_ok-chosen.chosen.items c.in_ok-chosen.ensures)
    c.in_ok-append.ensures.items
