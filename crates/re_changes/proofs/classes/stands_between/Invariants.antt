use Rattle.std.proofs.Common.{◌≡◌, ◌<◌, ◌&&◌, ℕ, false}
use Rattle.re_changes.specs.Classes.{is_stronger, strong_by}
use Rattle.re_changes.proofs.classes.stands_between.Given as goal

abbrev pub invariant-loop-middle : goal.invariant-loop-middle
invariant-loop-middle l = (k : ℕ) → k < l.middle → (is_stronger (strong_by l.ups) k l.weak && is_stronger (strong_by l.ups) l.strong k) ≡ false
