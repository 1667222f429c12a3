-- A line of a problem text without fault is no section line.
use Rattle.std.proofs.Common.{◌≡◌, ℕ, suc, ◌+◌, ◌&&◌, arith, leb, Bool, true, false, cond, eqb, List, [], ◌∷◌, length, refl, ap, subst, Option, None, Some}
use Rattle.std.proofs.lemmas.Bool.Decides.{nat_tests}
use Rattle.re_problem.specs.Bytes.{bad_byte}
use Rattle.re_labels.proofs.Tests.{eqb-true}
use Rattle.re_problem.specs.ProblemTexts.{byte_fault, bytes_of, fault_at, form_fault, limit_fault, or_else}
use Rattle.re_problem.specs.declared.fault.InputFault.{InputFault}
use Rattle.re_problem.specs.SectionLines.{is_section}

-- neither of two faults
pub neither : (f g : Option InputFault) → or_else f g ≡ None → (f ≡ None) × (g ≡ None)
neither None g none = (refl, none)
neither (Some fault) g none = absurd (cc)

-- a line that begins with `=` has a byte that isn't allowed
equals_fault : (byte start : ℕ) (before : List (List ℕ)) (line : List ℕ) → fault_at byte start before (61 ∷ line) ≡ None → ⊥
equals_fault byte start before line none =
    let number : ℕ = start + length before in
    let form : Option InputFault = form_fault (byte + bytes_of before) number before (61 ∷ line) in
    let formed : form ≡ None = (neither form (limit_fault number before (61 ∷ line)) none).0 in
    bad_there (bad_byte (61 ∷ line)) (equals_bad line) (neither (byte_fault (byte + bytes_of before) (bad_byte (61 ∷ line))) _ formed).0
  where
    one_within : (n : ℕ) → leb 1 (suc n) ≡ true
    one_within n = grind (arith, nat_tests)

    equals_bad : (line : List ℕ) → bad_byte (61 ∷ line) ≡ Some 0
    equals_bad line = ap (λ t. cond t (Some 0) None) (one_within (length line))

    bad_there : (bad : Option ℕ) → bad ≡ Some 0 → byte_fault (byte + bytes_of before) bad ≡ None → ⊥
    bad_there None is none = cc
    bad_there (Some place) is none = cc

-- a line without fault is no section line
pub inner_line : (byte start : ℕ) (before : List (List ℕ)) (line : List ℕ) → fault_at byte start before line ≡ None → is_section line ≡ false
inner_line byte start before [] none = refl
inner_line byte start before (b ∷ []) none = refl
inner_line byte start before (b ∷ c ∷ line) none = go (eqb b 61) refl
  where
    go : (t : Bool) → eqb b 61 ≡ t → is_section (b ∷ c ∷ line) ≡ false
    go false is = ap (λ t. t && eqb c 61) is
    go true is = absurd (equals_fault byte start before (c ∷ line) (subst (λ x. fault_at byte start before (x ∷ c ∷ line) ≡ None) (eqb-true b 61 is) none))
