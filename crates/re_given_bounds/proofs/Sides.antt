-- What the passive side of an input problem tells behind a number of steps.
use Rattle.std.proofs.Common.{◌≡◌, ℕ, ◌%◌, Bool, ap, sym, subst}
use Rattle.std.specs.Prelude.{IsTrue, ◌↔◌}
use Rattle.re_given.proofs.ChainGiven.{even_itself, odd_exchanged}
use Rattle.re_given.specs.Inputs.{exchanged_by}
use Rattle.re_given_bounds.specs.Telling.{TellsConfig, TellsPassive}
use Rattle.re_problem.specs.Problems.{Problem}
use Rattle.re_labels.specs.Constraints.{Constraint}

told_as : (told : Bool) (one other : Constraint) → one ≡ other → IsTrue told ↔ TellsConfig one → IsTrue told ↔ TellsConfig other
told_as told one other same is = subst (λ (c : Constraint). IsTrue told ↔ TellsConfig c) same is

pub tells_even : (k : ℕ) (problem : Problem) (passive : Constraint) (told : Bool) → k % 2 ≡ 0 → passive ≡ problem.passive → IsTrue told ↔ TellsConfig passive → IsTrue told ↔ TellsPassive k problem
tells_even k problem passive told even same is =
    told_as told problem.passive (exchanged_by k problem).passive (ap (λ (p : Problem). p.passive) (sym (even_itself k problem even))) (told_as told passive problem.passive same is)

pub tells_odd : (k : ℕ) (problem : Problem) (active : Constraint) (told : Bool) → (k % 2 ≡ 0 → ⊥) → active ≡ problem.active → IsTrue told ↔ TellsConfig active → IsTrue told ↔ TellsPassive k problem
tells_odd k problem active told odd same is =
    told_as told problem.active (exchanged_by k problem).passive (ap (λ (p : Problem). p.passive) (sym (odd_exchanged k problem odd))) (told_as told active problem.active same is)
