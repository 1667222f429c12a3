use Rattle.std.proofs.Common.{◌≡◌, Contains, Some, None, subst, inl, inr}
use Rattle.std.proofs.lemmas.List.Elements.{Contains-push_cases}
use Rattle.re_step.proofs.completing.Memo.new.Goals as goal

pub loop-slot-preserved : goal.loop-slot-preserved
loop-slot-preserved c = λ held h. elim (Contains-push_cases c.loop-slot.slots.items None (Some held) (subst (λ l. Contains l (Some held)) c.in_ok-push.ensures.items h)) [
  | inl i ↦ c.loop-slot.invariant held i
  | inr e ↦ (let f : None ≡ Some held = e in cc)
]
