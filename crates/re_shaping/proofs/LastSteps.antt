-- Chains with another last step: what fits and what is sound.
use Rattle.std.proofs.Common.{◌≡◌, ℕ, suc, Bool, true, false, not, leb, List, [], ◌∷◌, length, None, refl, sym, ap, ◌∙◌, subst}
use Rattle.std.specs.Prelude.{◌&&◌, ◌||◌, option_map}
use Rattle.std.specs.List.{AllByRecursion, list_all}
use Rattle.re_problem.specs.ItemSteps.{is_nil}
use Rattle.re_labels.proofs.Tests.{and-true, true-and}
use Rattle.re_problem.specs.NamedProblems.{IsNamedProblem, NamedProblem}
use Rattle.re_problem.specs.ProblemTexts.{last_or}
use Rattle.re_cert.specs.Bounds.{Bound, BoundStep, is_bound, is_by_row, next_problems, one_form, renaming_fits, step_fits, steps_fit}
use Rattle.re_cert.specs.declared.certificate.Kind.{Kind}
use Rattle.re_cert.specs.declared.certificate.Kind.TheVariants.{Lower, Upper, Fixed}
use Rattle.re_cert.specs.declared.certificate.TheConstants.{MAX_STEPS}
use Rattle.re_check.specs.Clauses.{step_fault}
use Rattle.re_check.proofs.Meaning.{both_met}
use Rattle.re_check.specs.Verdicts.{fault_at, fault_or, steps_fault}
use Rattle.re_chains.specs.Chains.{chain_kind, chain_with}
use Rattle.re_shaping.specs.Chains.{last_changed, with_last}
use Rattle.re_chains.specs.Chains.{IsSoundChain}

-- ---- chains
fixed-lower : (before : NamedProblem) (steps : List BoundStep) → steps_fit Fixed before steps ≡ steps_fit Lower before steps
fixed-lower before [] = refl
fixed-lower before (s ∷ steps) = ap (λ b. step_fits Lower before s && b) (fixed-lower s.next steps)

pub chain-fits : (kind : Kind) (before : NamedProblem) (steps : List BoundStep) → steps_fit kind before steps ≡ steps_fit (chain_kind kind) before steps
chain-fits Lower before steps = refl
chain-fits Upper before steps = refl
chain-fits Fixed before steps = fixed-lower before steps

pub chain_with-bound : (kind : Kind) (first : NamedProblem) (steps : List BoundStep) → leb (length steps) MAX_STEPS ≡ true → steps_fit (chain_kind kind) first steps ≡ true → one_form steps ≡ true → is_bound (chain_with kind first steps) ≡ true
chain_with-bound kind first steps few fits form =
    true-and (leb (length steps) MAX_STEPS && steps_fit (chain_kind kind) first steps && one_form steps) (renaming_fits (chain_with kind first steps))
    (true-and (leb (length steps) MAX_STEPS && steps_fit (chain_kind kind) first steps) (one_form steps) (true-and (leb (length steps) MAX_STEPS) (steps_fit (chain_kind kind) first steps) few fits) form)
    (plain kind)
  where
    plain : (kind : Kind) → renaming_fits (chain_with kind first steps) ≡ true
    plain Lower = refl
    plain Upper = refl
    plain Fixed = refl

-- the parts of a bound
pub record BoundParts (bound : Bound) : Type 0 where
  pub few : leb (length bound.steps) MAX_STEPS ≡ true
  pub fit : steps_fit bound.kind bound.first bound.steps ≡ true
  pub form : one_form bound.steps ≡ true

pub bound-parts : (bound : Bound) → is_bound bound ≡ true → BoundParts bound
bound-parts bound is =
    let one = and-true (leb (length bound.steps) MAX_STEPS && steps_fit bound.kind bound.first bound.steps && one_form bound.steps) (renaming_fits bound) is in
    let two = and-true (leb (length bound.steps) MAX_STEPS && steps_fit bound.kind bound.first bound.steps) (one_form bound.steps) one.0 in
    let three = and-true (leb (length bound.steps) MAX_STEPS) (steps_fit bound.kind bound.first bound.steps) two.0 in
    record { few = three.0; fit = three.1; form = two.1 }

-- ---- the last step
-- this holds of the last step, if any
abbrev pub LastIs : (BoundStep → Type 0) → List BoundStep → Type 0
LastIs P [] = Unit {0}
LastIs P (s ∷ []) = P s
LastIs P (s ∷ t ∷ steps) = LastIs P (t ∷ steps)

-- what is said of the last problem is said of the problem of the last step
pub last-next : (Q : NamedProblem → Type 0) (first : NamedProblem) (steps : List BoundStep) → is_nil steps ≡ false → Q (last_or first (next_problems steps)) → LastIs (λ (s : BoundStep). Q s.next) steps
last-next Q first [] some q = tt
last-next Q first (s ∷ []) some q = q
last-next Q first (s ∷ t ∷ steps) some q = last-next Q s.next (t ∷ steps) refl (subst Q (last-any first s.next t.next (next_problems steps)) q)
  where
    last-any : (d e x : NamedProblem) (xs : List NamedProblem) → last_or d (x ∷ xs) ≡ last_or e (x ∷ xs)
    last-any d e x [] = refl
    last-any d e x (y ∷ xs) = last-any d e y xs

-- what a change of a step keeps
pub record Keeps (kind : Kind) (before : NamedProblem) (s t : BoundStep) : Type 0 where
  pub fits : step_fits kind before s ≡ true → step_fits kind before t ≡ true
  pub sound : step_fits kind before s ≡ true → step_fault before s ≡ None → step_fault before t ≡ None
  pub problem : IsNamedProblem t.next
  pub form : step_fits kind before s ≡ true → is_by_row t.map ≡ is_by_row s.map

module _ (kind : Kind) (change : BoundStep → BoundStep) (P : BoundStep → Type 0) (keeps : (before : NamedProblem) (s : BoundStep) → P s → IsNamedProblem s.next → Keeps kind before s (change s)) where
  pub length-last : (steps : List BoundStep) → length (last_changed change steps) ≡ length steps
  length-last [] = refl
  length-last (s ∷ []) = refl
  length-last (s ∷ t ∷ steps) = ap suc (length-last (t ∷ steps))

  pub fits-last : (before : NamedProblem) (steps : List BoundStep) → LastIs P steps → AllByRecursion IsNamedProblem (next_problems steps) → steps_fit kind before steps ≡ true → steps_fit kind before (last_changed change steps) ≡ true
  fits-last before [] last over fits = refl
  fits-last before (s ∷ []) last over fits =
      true-and (step_fits kind before (change s)) true ((keeps before s last over.0).fits (and-true (step_fits kind before s) true fits).0) refl
  fits-last before (s ∷ t ∷ steps) last over fits =
      let two = and-true (step_fits kind before s) (steps_fit kind s.next (t ∷ steps)) fits in
      true-and (step_fits kind before s) (steps_fit kind s.next (last_changed change (t ∷ steps))) two.0 (fits-last s.next (t ∷ steps) last over.1 two.1)

  pub sound-last : (number : ℕ) (before : NamedProblem) (steps : List BoundStep) → LastIs P steps → AllByRecursion IsNamedProblem (next_problems steps) → steps_fit kind before steps ≡ true → steps_fault before number steps ≡ None
      → steps_fault before number (last_changed change steps) ≡ None
  sound-last number before [] last over fits none = refl
  sound-last number before (s ∷ []) last over fits none =
      ap (λ o. fault_or (option_map (fault_at number) o) None) ((keeps before s last over.0).sound (and-true (step_fits kind before s) true fits).0 (both_met number before s [] none).0)
  sound-last number before (s ∷ t ∷ steps) last over fits none =
      let two = and-true (step_fits kind before s) (steps_fit kind s.next (t ∷ steps)) fits in
      let both = both_met number before s (t ∷ steps) none in
      ap (λ o. fault_or (option_map (fault_at number) o) (steps_fault s.next (suc number) (last_changed change (t ∷ steps)))) both.0
      ∙ sound-last (suc number) s.next (t ∷ steps) last over.1 two.1 both.1

  pub over-last : (steps : List BoundStep) → LastIs P steps → AllByRecursion IsNamedProblem (next_problems steps) → (before : NamedProblem) → AllByRecursion IsNamedProblem (next_problems (last_changed change steps))
  over-last [] last over before = tt
  over-last (s ∷ []) last over before = ((keeps before s last over.0).problem, tt)
  over-last (s ∷ t ∷ steps) last over before = (over.0, over-last (t ∷ steps) last over.1 before)

  same-last : (p : Bool → Bool) (before : NamedProblem) (steps : List BoundStep) → LastIs P steps → AllByRecursion IsNamedProblem (next_problems steps) → steps_fit kind before steps ≡ true
      → list_all (λ (s : BoundStep). p (is_by_row s.map)) (last_changed change steps) ≡ list_all (λ (s : BoundStep). p (is_by_row s.map)) steps
  same-last p before [] last over fits = refl
  same-last p before (s ∷ []) last over fits = ap (λ b. p b && true) ((keeps before s last over.0).form (and-true (step_fits kind before s) true fits).0)
  same-last p before (s ∷ t ∷ steps) last over fits =
      ap (λ b. p (is_by_row s.map) && b) (same-last p s.next (t ∷ steps) last over.1 (and-true (step_fits kind before s) (steps_fit kind s.next (t ∷ steps)) fits).1)

  pub form-last : (before : NamedProblem) (steps : List BoundStep) → LastIs P steps → AllByRecursion IsNamedProblem (next_problems steps) → steps_fit kind before steps ≡ true → one_form (last_changed change steps) ≡ one_form steps
  form-last before steps last over fits = (λ i. same-last (λ b. b) before steps last over fits i || same-last not before steps last over fits i)

-- the chain with another last step
module _ (bound : Bound) (change : BoundStep → BoundStep) (P : BoundStep → Type 0) (last : LastIs P bound.steps)
    (keeps : (before : NamedProblem) (s : BoundStep) → P s → IsNamedProblem s.next → Keeps (chain_kind bound.kind) before s (change s)) where
  pub with_last-bound : is_bound bound ≡ true → AllByRecursion IsNamedProblem (next_problems bound.steps) → is_bound (with_last change bound) ≡ true
  with_last-bound is over =
      let parts = bound-parts bound is in
      let fit : steps_fit (chain_kind bound.kind) bound.first bound.steps ≡ true = sym (chain-fits bound.kind bound.first bound.steps) ∙ parts.fit in
      chain_with-bound bound.kind bound.first (last_changed change bound.steps)
      (ap (λ n. leb n MAX_STEPS) (length-last (chain_kind bound.kind) change P keeps bound.steps) ∙ parts.few)
      (fits-last (chain_kind bound.kind) change P keeps bound.first bound.steps last over fit)
      (form-last (chain_kind bound.kind) change P keeps bound.first bound.steps last over fit ∙ parts.form)

  pub with_last-sound : IsSoundChain bound → IsSoundChain (with_last change bound)
  with_last-sound is =
      let parts = bound-parts bound is.bound in
      let fit : steps_fit (chain_kind bound.kind) bound.first bound.steps ≡ true = sym (chain-fits bound.kind bound.first bound.steps) ∙ parts.fit in
      record {
        bound = with_last-bound is.bound is.problems.next;
        problems = record { first = is.problems.first; next = over-last (chain_kind bound.kind) change P keeps bound.steps last is.problems.next bound.first };
        sound = sound-last (chain_kind bound.kind) change P keeps 1 bound.first bound.steps last is.problems.next fit is.sound;
      }
