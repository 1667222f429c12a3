-- What a certificate that is built of a chain and steps has of its parts.
use Rattle.std.proofs.Common.{◌≡◌, ◌++◌, ◌≤◌, ℕ, Bool, true, false, List, [], Option, Some, None, length, refl, sym, ap, ◌∙◌, subst, nat_le, arith}
use Rattle.std.specs.Prelude.{◌&&◌, ◌==◌, if◌then◌else◌, is_none, is_some, not}
use Rattle.std.proofs.lemmas.List.{append-nil, append_cancel_left}
use Rattle.re_labels.proofs.Tests.{and-true, eqb-true}
use Rattle.re_problem.proofs.TextLines.{nil_of}
use Rattle.re_problem.specs.ItemSteps.{is_nil}
use Rattle.re_cert.specs.Bounds.{Bound, BoundStep, built, is_bound, is_fixed, is_lower, last_problem, one_form, renaming_fits, steps_fit}
use Rattle.re_cert.specs.declared.certificate.TheConstants.{MAX_STEPS}
use Rattle.re_cert.specs.declared.certificate.Kind.{Kind}
use Rattle.re_cert.specs.declared.certificate.Kind.TheVariants.{Fixed, Lower, Upper}
use Rattle.re_check.specs.Verdicts.{Means, bound_fault, end_fault, fault_at, fault_or, meets_back, verdict_of, verdict_with}
use Rattle.re_check.specs.declared.verdict.ClauseFault.{ClauseFault}
use Rattle.re_check.specs.declared.verdict.Verdict.{Verdict}
use Rattle.re_check.specs.declared.verdict.Verdict.TheVariants.{Accepted}
use Rattle.re_chains.specs.Chains.{IsSoundLower, IsOverProblems}
use Rattle.re_check.specs.declared.clause.Clause.TheVariants.{End, Back}
use Rattle.re_problem.specs.NamedProblems.{NamedProblem, unnamed}
use Rattle.re_problem.specs.Zero.{zero_place}
use Rattle.re_shaping.specs.Extensions.{AreSmall, GoesOn}

-- ---- what is built
some-if : (b : Bool) (x y : Bound) → (if b then Some x else None) ≡ Some y → y ≡ x
some-if true x y e = cc
some-if false x y e = cc

built-is : (x y : Bound) → built x ≡ Some y → y ≡ x
built-is x y e = some-if (is_bound x) x y e

with-accepted : (kind : Kind) (n : ℕ) (fault : Option ClauseFault) (other : Kind) (steps : ℕ) → verdict_with kind n fault ≡ Accepted other steps → verdict_with kind n fault ≡ Accepted kind n
with-accepted kind n None other steps e = refl
with-accepted kind n (Some fault) other steps e = cc

built-fits : (b : Bool) (x y : Bound) → is_bound x ≡ b → (if b then Some x else None) ≡ Some y → is_bound y ≡ true
built-fits true x y is e = ap is_bound (some-if true x y e) ∙ is
built-fits false x y is e = cc

pub built-bound : (x y : Bound) → built x ≡ Some y → is_bound y ≡ true
built-bound x y e = built-fits (is_bound x) x y refl e

-- the bound of a chain and the steps behind it
abbrev pub behind : Kind → ℕ → Bound → List BoundStep → List (ℕ × ℕ) → Bound
behind kind back chain more renaming = record { kind = kind; back = back; first = chain.first; steps = chain.steps ++ more; renaming = renaming }

goes_on : (kind : Kind) (most labels back : ℕ) (chain bound : Bound) (more : List BoundStep) (renaming : List (ℕ × ℕ)) → bound ≡ behind kind back chain more renaming
    → is_bound bound ≡ true → IsOverProblems bound
    → length more ≤ most → AreSmall labels more → verdict_of bound ≡ Accepted kind (length bound.steps) → Means (verdict_of bound) (unnamed bound.first) → GoesOn kind most labels chain bound
goes_on kind most labels back chain bound more renaming same fits problems few small valid means = record {
  fits = fits;
  problems = problems;
  of_kind = ap (λ (b : Bound). b.kind) same;
  first = ap (λ (b : Bound). b.first) same;
  more = more;
  steps = ap (λ (b : Bound). b.steps) same;
  few = few;
  small = small;
  valid = valid;
  means = subst (λ (p : NamedProblem). Means (Accepted kind (length bound.steps)) (unnamed p)) (ap (λ (b : Bound). b.first) same) (subst (λ (v : Verdict). Means v (unnamed bound.first)) valid means);
}

-- what is built and accepted goes on from the chain
pub accepted : (kind : Kind) (most labels back : ℕ) (chain bound : Bound) (more : List BoundStep) (renaming : List (ℕ × ℕ)) (verdict : Verdict) (other : Kind) (steps : ℕ)
    → built (behind kind back chain more renaming) ≡ Some bound → IsOverProblems bound → length more ≤ most → AreSmall labels more
    → verdict ≡ verdict_of bound → verdict ≡ Accepted other steps → Means verdict (unnamed bound.first) → GoesOn kind most labels chain bound
accepted kind most labels back chain bound more renaming verdict other steps made problems few small is told means =
    let same : bound ≡ behind kind back chain more renaming = built-is _ _ made in
    let valid : verdict_of bound ≡ Accepted kind (length bound.steps) =
    with-accepted bound.kind (length bound.steps) (bound_fault bound) other steps (sym is ∙ told) ∙ ap (λ k. Accepted k (length bound.steps)) (ap (λ (b : Bound). b.kind) same) in
    goes_on kind most labels back chain bound more renaming same (built-bound (behind kind back chain more renaming) bound made) problems few small valid (subst (λ (v : Verdict). Means v (unnamed bound.first)) is means)

pub whole : (kind : Kind) (back : ℕ) (chain bound : Bound) (more : List BoundStep) (renaming : List (ℕ × ℕ)) → built (behind kind back chain more renaming) ≡ Some bound → bound ≡ behind kind back chain more renaming
whole kind back chain bound more renaming made = built-is (behind kind back chain more renaming) bound made

-- ---- what doesn't go on from the chain
-- a step to a problem of too many labels
pub not_small : (kind : Kind) (most labels : ℕ) (chain bound : Bound) (more : List BoundStep) → bound.steps ≡ chain.steps ++ more → (AreSmall labels more → ⊥) → GoesOn kind most labels chain bound → ⊥
not_small kind most labels chain bound more steps large on =
    large (subst (AreSmall labels) (sym (append_cancel_left chain.steps more on.more (sym steps ∙ on.steps))) on.small)

-- ---- the chain itself
fixed-none : (kind : Kind) → kind ≡ Lower → is_fixed kind ≡ false
fixed-none kind e = ap is_fixed e

pub plain : (fixed : Bool) (b : Bool) (back : ℕ) (renaming : List (ℕ × ℕ)) → fixed ≡ false → (if fixed then b else back == 0 && is_nil renaming) ≡ true → (back ≡ 0) × (renaming ≡ [])
plain true b back renaming e fits = cc
plain false b back renaming e fits = (eqb-true back 0 (and-true (back == 0) (is_nil renaming) fits).0, nil_of renaming (and-true (back == 0) (is_nil renaming) fits).1)

-- a chain of kind lower is what it makes with no steps behind it
itself : (chain : Bound) → is_bound chain ≡ true → chain.kind ≡ Lower → behind Lower 0 chain [] [] ≡ chain
itself chain is lower =
    let fits = and-true (nat_le (length chain.steps) MAX_STEPS && steps_fit chain.kind chain.first chain.steps && one_form chain.steps) (renaming_fits chain) is in
    let parts = plain (is_fixed chain.kind) _ chain.back chain.renaming (fixed-none chain.kind lower) fits.1 in
    λ i. record { kind = sym lower i; back = sym parts.0 i; first = chain.first; steps = append-nil chain.steps i; renaming = sym parts.1 i }

-- the end of a lower bound is well where its last problem isn't solvable without communication
ended : (kind : Kind) (place : Option ℕ) (n : ℕ) (back : Bool) → kind ≡ Lower → place ≡ None
    → (if not (if is_lower kind then is_none place else is_some place) then Some (fault_at n End) else if is_fixed kind && not back then Some (fault_at n Back) else None) ≡ None
ended Lower None n back e z = refl
ended Lower (Some p) n back e z = cc
ended Upper place n back e z = cc
ended Fixed place n back e z = cc

no-fault : (chain : Bound) → IsSoundLower chain → zero_place (unnamed (last_problem chain)) ≡ None → bound_fault chain ≡ None
no-fault chain sound end =
    ap (λ fault. fault_or fault (end_fault chain)) sound.sound ∙ ended chain.kind (zero_place (unnamed (last_problem chain))) (length chain.steps) (meets_back chain) sound.lower end

chain-accepted : (chain : Bound) → IsSoundLower chain → zero_place (unnamed (last_problem chain)) ≡ None → verdict_of chain ≡ Accepted Lower (length chain.steps)
chain-accepted chain sound end =
    ap (λ fault. verdict_with chain.kind (length chain.steps) fault) (no-fault chain sound end) ∙ ap (λ k. Accepted k (length chain.steps)) sound.lower

-- a sound chain that ends well goes on from itself
repeats-built : (most labels : ℕ) (chain bound : Bound) (verdict : Verdict) → built (behind Lower 0 chain [] []) ≡ Some bound → is_bound chain ≡ true → IsSoundLower chain
    → IsOverProblems bound → zero_place (unnamed (last_problem chain)) ≡ None → verdict ≡ verdict_of bound → Means verdict (unnamed bound.first) → GoesOn Lower most labels chain bound
repeats-built most labels chain bound verdict made is sound problems end told means =
    let same : bound ≡ behind Lower 0 chain [] [] = built-is (behind Lower 0 chain [] []) bound made in
    let whole : bound ≡ chain = same ∙ itself chain is sound.lower in
    let valid : verdict_of bound ≡ Accepted Lower (length bound.steps) =
    ap verdict_of whole ∙ chain-accepted chain sound end ∙ ap (λ (b : Bound). Accepted Lower (length b.steps)) (sym whole) in
    goes_on Lower most labels 0 chain bound [] [] same (built-bound (behind Lower 0 chain [] []) bound made) problems (omega arith) tt valid (subst (λ (v : Verdict). Means v (unnamed bound.first)) told means)

with-nothing : (chain bound : Bound) (more : List BoundStep) (renaming : List (ℕ × ℕ)) (found : Option Bound) → more ≡ [] → renaming ≡ []
    → found ≡ built (behind Lower 0 chain more renaming) → found ≡ Some bound → built (behind Lower 0 chain [] []) ≡ Some bound
with-nothing chain bound more renaming found none no_pairs is_built is_found =
    ap (λ m. built (behind Lower 0 chain m [])) (sym none) ∙ ap (λ r. built (behind Lower 0 chain more r)) (sym no_pairs) ∙ sym is_built ∙ is_found

pub repeats : (most labels : ℕ) (chain bound : Bound) (more : List BoundStep) (renaming : List (ℕ × ℕ)) (found : Option Bound) (verdict : Verdict) → more ≡ [] → renaming ≡ []
    → found ≡ built (behind Lower 0 chain more renaming) → found ≡ Some bound → is_bound chain ≡ true → IsSoundLower chain → IsOverProblems bound
    → zero_place (unnamed (last_problem chain)) ≡ None → verdict ≡ verdict_of bound → Means verdict (unnamed bound.first) → GoesOn Lower most labels chain bound
repeats most labels chain bound more renaming found verdict none no_pairs is_built is_found is sound problems end told means =
    repeats-built most labels chain bound verdict (with-nothing chain bound more renaming found none no_pairs is_built is_found) is sound problems end told means

pub repeats_same : (chain bound : Bound) (more : List BoundStep) (renaming : List (ℕ × ℕ)) (found : Option Bound) → more ≡ [] → renaming ≡ []
    → found ≡ built (behind Lower 0 chain more renaming) → found ≡ Some bound → is_bound chain ≡ true → chain.kind ≡ Lower → bound ≡ chain
repeats_same chain bound more renaming found none no_pairs is_built is_found is lower =
    built-is (behind Lower 0 chain [] []) bound (with-nothing chain bound more renaming found none no_pairs is_built is_found) ∙ itself chain is lower
