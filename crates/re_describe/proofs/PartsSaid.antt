-- What the parts of evidence show, one behind the other.
use Rattle.std.proofs.Common.{◌≡◌, ℕ, zero, suc, ◌+◌, ◌-◌, List, ◌++◌, Option, None, Some, refl, sym, subst, arith, one-add}
use Rattle.re_describe.specs.ClassReports.{SaysFirst, SaysPart, SaysParts}
use Rattle.re_judging.specs.Joints.{behind_joint, first_part, joint_at}

-- the last one
pub last_part : (more number : ℕ) (bytes text : List ℕ) → joint_at bytes ≡ None → SaysPart number (first_part bytes) text → SaysParts more number bytes text
last_part zero number bytes text none said = said
last_part (suc more) number bytes text none said = subst (λ (at : Option ℕ). SaysFirst (SaysParts more (suc number)) at number bytes text) (sym none) said

-- one with others behind it
pub more_parts : (more number at : ℕ) (bytes said rest text : List ℕ) → (more ≡ 0 → ⊥) → joint_at bytes ≡ Some at → SaysPart number (first_part bytes) said
    → SaysParts (more - 1) (number + 1) (behind_joint at bytes) rest → text ≡ said ++ rest → SaysParts more number bytes text
more_parts zero number at bytes said rest text some is first others whole = absurd (some refl)
more_parts (suc more) number at bytes said rest text some is first others whole =
    let fewer : suc more - 1 ≡ more = omega arith in
    let next : number + 1 ≡ suc number = omega arith in
    let behind : SaysParts more (suc number) (behind_joint at bytes) rest =
    subst (λ (n : ℕ). SaysParts more n (behind_joint at bytes) rest) next (subst (λ (m : ℕ). SaysParts m (number + 1) (behind_joint at bytes) rest) fewer others) in
    subst (λ (found : Option ℕ). SaysFirst (SaysParts more (suc number)) found number bytes text) (sym is) (said, rest, first, behind, whole)
