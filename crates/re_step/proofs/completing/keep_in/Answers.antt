use Rattle.std.proofs.Common.{◌≡◌, Some, subst, inl, inr}
use Rattle.re_step.specs.Completing.{IsRight}
use Rattle.re_step.proofs.LeftLabels.{set_cases}
use Rattle.re_step.proofs.completing.keep_in.Goals as goal

pub returns-then-slot-len : goal.returns-then-slot-len
returns-then-slot-len c = record {
  right = λ held h. elim (set_cases c.args.memo.now.slots.items c.args.slot (Some c.args.held) (Some held) h) [
    | inl e ↦ (let f : c.args.held ≡ held = cc in subst (IsRight c.args.constraint.now c.args.labels) f c.requires.held)
    | inr k ↦ c.requires.right held k
  ];
}
