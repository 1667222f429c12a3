-- Certificates that are refused: something shows it.
use Rattle.std.proofs.Common.{◌≡◌, ℕ, suc, ◌≤◌, arith, Bool, true, false, not, ◌&&◌, List, [], ◌∷◌, length, refl, sym, ap, ◌∙◌, subst, inl, inr, Some, None, Option, true≢false}
use Rattle.std.specs.Prelude.{Contains, Err, IfOk, IfSome, Ok, Result, ◌==◌, if◌then◌else◌, nat_lt}
use Rattle.std.proofs.lemmas.Bool.Decides.{nat_tests}
use Rattle.re_problem.specs.ItemSteps.{is_nil}
use Rattle.std.specs.List.{AllByRecursion, list_all}
use Rattle.std.specs.Option.{option_and_then, option_map, option_or}
use Rattle.re_labels.proofs.Membership.{AllByRecursion-contains}
use Rattle.re_labels.proofs.Tests.{and-true, eqb-true}
use Rattle.re_labels.specs.declared.TheConstants.{MAX_LABELS}
use Rattle.re_labels.specs.Rows.{IsRow}
use Rattle.re_problem.specs.NamedProblems.{IsNamedProblem, NamedProblem, unnamed}
use Rattle.re_texts.proofs.FittingParts.{bound_fits}
use Rattle.re_cert.specs.Bounds.{Bound, BoundStep, is_bound, is_fixed, last_problem, pair_fits, problem_at, renaming_fits, step_fits, steps_fit}
use Rattle.re_cert.specs.declared.certificate.Kind.{Kind}
use Rattle.re_check.specs.Clauses.{step_clauses, step_fault}
use Rattle.re_check.specs.declared.clause.Clause.{Clause}
use Rattle.re_check.specs.declared.clause.Clause.TheVariants.{Back, End, L1, L2, L3, L4, L5, U1, U2, U3, U4}
use Rattle.re_check.specs.Verdicts.{bound_fault, verdict_of, verdict_with, end_fault, ends_well, fault_at, fault_or, goes_back, meets_back, meets_end, steps_fault}
use Rattle.re_check.specs.declared.verdict.ClauseFault.{ClauseFault}
use Rattle.re_check.specs.declared.verdict.Verdict.{Verdict}
use Rattle.re_check.specs.declared.verdict.Verdict.TheVariants.{Refused}
use Rattle.re_why.proofs.Dispatch.{fault-among, fault-fails, step-shown}
use Rattle.re_why.proofs.Ends.{back_witness_law, end_witness_law}
use Rattle.re_why.proofs.Giving.{gives-also}
use Rattle.re_why.proofs.Holding.{first_below}
use Rattle.re_why.specs.Finding.{back_witness, bound_refutation, end_witness, fault_named, refutation_at, refutation_for, refuted, step_refutation, step_witness, steps_refutation}
use Rattle.re_why.specs.Laws.{Gives}
use Rattle.re_why.specs.Witnesses.{IsShown, IsSoundStep, ShowsBack, ShowsEnd, ShowsInSteps, ShowsStep}
use Rattle.re_why.specs.declared.finding.Refutation.{Refutation}
use Rattle.re_why.specs.declared.witness.Witness.{Witness}

-- what is found has the fault, and shows it
abbrev Finds : (ℕ → Clause → Witness → Type 0) → Option ClauseFault → Option Refutation → Type 0
Finds Shows fault found = (option_map fault_named found ≡ fault) × IfSome found (λ (r : Refutation). Shows r.step r.clause r.witness)

-- ---- the steps
-- a step has a fault of a clause of steps
pub final : (before : NamedProblem) (s : BoundStep) (c : Clause) → step_fault before s ≡ Some c → (c ≡ End → ⊥) × (c ≡ Back → ⊥)
final before s c e = (λ same. true≢false (fault-fails before s End (e ∙ ap Some same)), λ same. true≢false (fault-fails before s Back (e ∙ ap Some same)))

step_finds : (kind : Kind) (before : NamedProblem) (number : ℕ) (s : BoundStep) → IsNamedProblem before → IsSoundStep s → step_fits kind before s ≡ true
    → Finds (λ k c w. (k ≡ number) × Contains (step_clauses s) c × ShowsStep before s c w) (option_map (fault_at number) (step_fault before s)) (step_refutation before number s)
step_finds kind before number s named sound fits = go (step_fault before s) refl
  where
    Shows : ℕ → Clause → Witness → Type 0
    Shows k c w = (k ≡ number) × Contains (step_clauses s) c × ShowsStep before s c w

    with_witness : (c : Clause) (o : Option Witness) → Contains (step_clauses s) c → Gives o (ShowsStep before s c) → Finds Shows (Some (fault_at number c)) (option_map (refuted number c) o)
    with_witness c None among h = absurd h
    with_witness c (Some w) among h = (refl, (refl, among, h))

    go : (o : Option Clause) → step_fault before s ≡ o → Finds Shows (option_map (fault_at number) o) (option_and_then (λ clause. option_map (refuted number clause) (step_witness before s clause)) o)
    go None e = (refl, tt)
    go (Some c) e = with_witness c (step_witness before s c) (fault-among before s c e) (step-shown kind before s c named sound.next (λ row held. AllByRecursion-contains (λ row. IsRow (length row) MAX_LABELS row) s.rows row sound.rows held) fits e)

steps_find : (kind : Kind) (before : NamedProblem) (number : ℕ) (steps : List BoundStep) → IsNamedProblem before → AllByRecursion IsSoundStep steps → steps_fit kind before steps ≡ true
    → Finds (ShowsInSteps before number steps) (steps_fault before number steps) (steps_refutation before number steps)
steps_find kind before number [] named sound fits = (refl, tt)
steps_find kind before number (s ∷ steps) named sound fits =
    let both = and-true (step_fits kind before s) (steps_fit kind s.next steps) fits in
    go (step_refutation before number s) (option_map (fault_at number) (step_fault before s)) (step_finds kind before number s named sound.0 both.0) (steps_find kind s.next (suc number) steps sound.0.next sound.1 both.1)
  where
    later : (o : Option Refutation) → IfSome o (λ (r : Refutation). ShowsInSteps s.next (suc number) steps r.step r.clause r.witness) → IfSome o (λ (r : Refutation). ShowsInSteps before number (s ∷ steps) r.step r.clause r.witness)
    later None h = tt
    later (Some r) h = inr h

    go : (here : Option Refutation) (fault : Option ClauseFault) → Finds (λ k c w. (k ≡ number) × Contains (step_clauses s) c × ShowsStep before s c w) fault here
        → Finds (ShowsInSteps s.next (suc number) steps) (steps_fault s.next (suc number) steps) (steps_refutation s.next (suc number) steps)
        → Finds (ShowsInSteps before number (s ∷ steps)) (fault_or fault (steps_fault s.next (suc number) steps)) (option_or here (steps_refutation s.next (suc number) steps))
    go None fault h k = (k.0 ∙ ap (λ f. fault_or f (steps_fault s.next (suc number) steps)) h.0, later (steps_refutation s.next (suc number) steps) k.1)
    go (Some r) fault h k = (ap (λ f. fault_or f (steps_fault s.next (suc number) steps)) h.0, inl h.1)

-- the clause of a fault of the steps is one of steps
pub steps_clause : (before : NamedProblem) (number : ℕ) (steps : List BoundStep) (fault : ClauseFault) → steps_fault before number steps ≡ Some fault → (fault.clause ≡ End → ⊥) × (fault.clause ≡ Back → ⊥)
steps_clause before number [] fault e = absurd (cc)
steps_clause before number (s ∷ steps) fault e = go (step_fault before s) refl (steps_clause s.next (suc number) steps fault) e
  where
    go : (o : Option Clause) → step_fault before s ≡ o → (steps_fault s.next (suc number) steps ≡ Some fault → (fault.clause ≡ End → ⊥) × (fault.clause ≡ Back → ⊥))
        → fault_or (option_map (fault_at number) o) (steps_fault s.next (suc number) steps) ≡ Some fault → (fault.clause ≡ End → ⊥) × (fault.clause ≡ Back → ⊥)
    go None g later e = later e
    go (Some c) g later e =
        let same : fault_at number c ≡ fault = cc in
        let neither = final before s c g in
        (λ is. neither.0 (ap (λ (f : ClauseFault). f.clause) same ∙ is), λ is. neither.1 (ap (λ (f : ClauseFault). f.clause) same ∙ is))

-- ---- a certificate
pub fits_back : (bound : Bound) → is_bound bound ≡ true → list_all (pair_fits (last_problem bound) (problem_at bound bound.back)) bound.renaming ≡ true
fits_back bound is = go (is_fixed bound.kind) (and-true _ (renaming_fits bound) is).1
  where
    go : (b : Bool) → (if b then nat_lt bound.back (length bound.steps) && list_all (pair_fits (last_problem bound) (problem_at bound bound.back)) bound.renaming else bound.back == 0 && is_nil bound.renaming) ≡ true
        → list_all (pair_fits (last_problem bound) (problem_at bound bound.back)) bound.renaming ≡ true
    go true e = (and-true (nat_lt bound.back (length bound.steps)) _ e).1
    go false e = none bound.renaming (and-true (bound.back == 0) (is_nil bound.renaming) e).1
      where
        none : (pairs : List (ℕ × ℕ)) → is_nil pairs ≡ true → list_all (pair_fits (last_problem bound) (problem_at bound bound.back)) pairs ≡ true
        none [] e = refl
        none (pair ∷ pairs) e = absurd (true≢false (sym e))

pub fits_target : (bound : Bound) → is_bound bound ≡ true → bound.back ≤ length bound.steps
fits_target bound is = go (is_fixed bound.kind) (and-true _ (renaming_fits bound) is).1
  where
    go : (b : Bool) → (if b then nat_lt bound.back (length bound.steps) && list_all (pair_fits (last_problem bound) (problem_at bound bound.back)) bound.renaming else bound.back == 0 && is_nil bound.renaming) ≡ true → bound.back ≤ length bound.steps
    go true e = let l : nat_lt bound.back (length bound.steps) ≡ true = (and-true (nat_lt bound.back (length bound.steps)) _ e).0 in grind (arith, nat_tests)
    go false e = let z : bound.back ≡ 0 = eqb-true bound.back 0 (and-true (bound.back == 0) (is_nil bound.renaming) e).0 in omega (arith, z)

-- a clause of steps is sought at the steps
pub at_steps : (bound : Bound) (n : ℕ) (c : Clause) → (c ≡ End → ⊥) → (c ≡ Back → ⊥) → refutation_at bound n c ≡ steps_refutation bound.first 1 bound.steps
at_steps bound n L1 h k = refl
at_steps bound n L2 h k = refl
at_steps bound n L3 h k = refl
at_steps bound n L4 h k = refl
at_steps bound n L5 h k = refl
at_steps bound n U1 h k = refl
at_steps bound n U2 h k = refl
at_steps bound n U3 h k = refl
at_steps bound n U4 h k = refl
at_steps bound n End h k = absurd (h refl)
at_steps bound n Back h k = absurd (k refl)

shown_steps : (bound : Bound) (n : ℕ) (c : Clause) (w : Witness) → (c ≡ End → ⊥) → (c ≡ Back → ⊥) → ShowsInSteps bound.first 1 bound.steps n c w → IsShown bound n c w
shown_steps bound n L1 w h k s = s
shown_steps bound n L2 w h k s = s
shown_steps bound n L3 w h k s = s
shown_steps bound n L4 w h k s = s
shown_steps bound n L5 w h k s = s
shown_steps bound n U1 w h k s = s
shown_steps bound n U2 w h k s = s
shown_steps bound n U3 w h k s = s
shown_steps bound n U4 w h k s = s
shown_steps bound n End w h k s = absurd (h refl)
shown_steps bound n Back w h k s = absurd (k refl)

found_steps : (bound : Bound) (fault : ClauseFault) (o : Option Refutation) → (fault.clause ≡ End → ⊥) × (fault.clause ≡ Back → ⊥) → Finds (ShowsInSteps bound.first 1 bound.steps) (Some fault) o → Finds (IsShown bound) (Some fault) o
found_steps bound fault None neither h = absurd (let e : ◌≡◌ {A = Option ClauseFault} None (Some fault) = h.0 in cc)
found_steps bound fault (Some r) neither h =
    let same : fault_named r ≡ fault = (let e : Some (fault_named r) ≡ Some fault = h.0 in cc) in
    let clause : r.clause ≡ fault.clause = ap (λ (f : ClauseFault). f.clause) same in
    (h.0, shown_steps bound r.step r.clause r.witness (λ e. neither.0 (sym clause ∙ e)) (λ e. neither.1 (sym clause ∙ e)) h.1)

found_end : (bound : Bound) (n : ℕ) (c : Clause) (o : Option Witness) → Gives o (IsShown bound n c) → Finds (IsShown bound) (Some (fault_at n c)) (option_map (refuted n c) o)
found_end bound n c None h = absurd h
found_end bound n c (Some w) h = (refl, h)

pub bound_shown : (bound : Bound) → is_bound bound ≡ true → IsNamedProblem bound.first → AllByRecursion IsSoundStep bound.steps
    → (option_map fault_named (bound_refutation bound) ≡ bound_fault bound) × IfSome (bound_refutation bound) (λ (r : Refutation). IsShown bound r.step r.clause r.witness)
bound_shown bound is named sound = whole (go (steps_fault bound.first 1 bound.steps) refl (steps_find bound.kind bound.first 1 bound.steps named sound (bound_fits bound is).steps))
  where
    whole : Finds (IsShown bound) (bound_fault bound) (bound_refutation bound) → (option_map fault_named (bound_refutation bound) ≡ bound_fault bound) × IfSome (bound_refutation bound) (λ (r : Refutation). IsShown bound r.step r.clause r.witness)
    whole h = h

    n : ℕ
    n = length bound.steps

    at_back : (b : Bool) → goes_back (last_problem bound) (problem_at bound bound.back) bound.renaming ≡ b → (f : Bool) → is_fixed bound.kind ≡ f → Finds (IsShown bound) (if f && not b then Some (fault_at n Back) else None) (refutation_for bound (if f && not b then Some (fault_at n Back) else None))
    at_back b e false fixed = (refl, tt)
    at_back true e true fixed = (refl, tt)
    at_back false e true fixed =
        found_end bound n Back (back_witness (last_problem bound) (problem_at bound bound.back) bound.renaming)
        (gives-also (back_witness (last_problem bound) (problem_at bound bound.back) bound.renaming) (ShowsBack (last_problem bound) (problem_at bound bound.back) bound.renaming) (IsShown bound n Back) (λ w h. (refl, fixed, h))
        (back_witness_law (last_problem bound) (problem_at bound bound.back) bound.renaming (first_below (last_problem bound) (problem_at bound bound.back) bound.renaming (fits_back bound is)) e))

    at_end : (b : Bool) → ends_well bound.kind (last_problem bound) ≡ b
        → let fault : Option ClauseFault = (if not b then Some (fault_at n End) else if is_fixed bound.kind && not (meets_back bound) then Some (fault_at n Back) else None) in Finds (IsShown bound) fault (refutation_for bound fault)
    at_end false e =
        found_end bound n End (end_witness bound.kind (last_problem bound))
        (gives-also (end_witness bound.kind (last_problem bound)) (ShowsEnd bound.kind (unnamed (last_problem bound))) (IsShown bound n End) (λ w h. (refl, h)) (end_witness_law bound.kind (last_problem bound) e))
    at_end true e = at_back (meets_back bound) refl (is_fixed bound.kind) refl

    go : (o : Option ClauseFault) → steps_fault bound.first 1 bound.steps ≡ o → Finds (ShowsInSteps bound.first 1 bound.steps) (steps_fault bound.first 1 bound.steps) (steps_refutation bound.first 1 bound.steps)
        → Finds (IsShown bound) (fault_or o (end_fault bound)) (refutation_for bound (fault_or o (end_fault bound)))
    go None e h = at_end (meets_end bound) refl
    go (Some fault) e h =
        let neither = steps_clause bound.first 1 bound.steps fault e in
        subst (Finds (IsShown bound) (Some fault)) (sym (at_steps bound fault.step fault.clause neither.0 neither.1)) (found_steps bound fault (steps_refutation bound.first 1 bound.steps) neither (h.0 ∙ e, h.1))

-- what is refused has this fault
refused_fault : (kind : Kind) (n : ℕ) (o : Option ClauseFault) (step : ℕ) (clause : Clause) → Refused step clause ≡ verdict_with kind n o → o ≡ Some (fault_at step clause)
refused_fault kind n None step clause e = absurd (cc)
refused_fault kind n (Some fault) step clause e =
    let one : step ≡ fault.step = cc in
    let two : clause ≡ fault.clause = cc in
    λ i. Some (fault_at (sym one i) (sym two i))

pub refused_at : (bound : Bound) (step : ℕ) (clause : Clause) (v : Verdict) → v ≡ verdict_of bound → v ≡ Refused step clause → refutation_at bound step clause ≡ bound_refutation bound
refused_at bound step clause v is e = sym (ap (refutation_for bound) (refused_fault bound.kind (length bound.steps) (bound_fault bound) step clause (sym e ∙ is)))

-- the same of what a call gives
pub first_of_all : {E : Type 0} (bound : Bound) (step : ℕ) (clause : Clause) (r : Result (Option Refutation) E) → refutation_at bound step clause ≡ bound_refutation bound
    → IfOk r (λ (found : Option Refutation). found ≡ refutation_at bound step clause) → IfOk r (λ (found : Option Refutation). found ≡ bound_refutation bound)
first_of_all bound step clause (Ok found) same h = h ∙ same
first_of_all bound step clause (Err e) same h = tt

pub fault_of_all : {E : Type 0} (bound : Bound) (r : Result (Option Refutation) E) → is_bound bound ≡ true → IsNamedProblem bound.first → AllByRecursion IsSoundStep bound.steps
    → IfOk r (λ (found : Option Refutation). found ≡ bound_refutation bound) → IfOk r (λ (found : Option Refutation). option_map fault_named found ≡ bound_fault bound)
fault_of_all bound (Ok found) is named sound h = ap (option_map fault_named) h ∙ (bound_shown bound is named sound).0
fault_of_all bound (Err e) is named sound h = tt

pub shown_of_all : {E : Type 0} (bound : Bound) (r : Result (Option Refutation) E) → is_bound bound ≡ true → IsNamedProblem bound.first → AllByRecursion IsSoundStep bound.steps
    → IfOk r (λ (found : Option Refutation). found ≡ bound_refutation bound) → IfOk r (λ (found : Option Refutation). IfSome found (λ (r : Refutation). IsShown bound r.step r.clause r.witness))
shown_of_all bound (Ok found) is named sound h = subst (λ (o : Option Refutation). IfSome o (λ (r : Refutation). IsShown bound r.step r.clause r.witness)) (sym h) (bound_shown bound is named sound).1
shown_of_all bound (Err e) is named sound h = tt
