-- One step of a certificate of an upper bound, at a view.
use Rattle.std.proofs.Common.{◌≡◌, ℕ, zero, suc, pred, ◌≤◌, ◌<◌, List, [], ◌∷◌, get_or, map, length, refl, sym, ap, ◌∙◌, subst, arith, Some, None, Option, true, false, Bool, cond, true≢false}
use Rattle.std.specs.Prelude.{Contains, find}
use Rattle.std.specs.List.{AllByRecursion}
use Rattle.re_cert.proofs.Stages.{count-stages}
use Rattle.re_cert.specs.Stages.{stages_of}
use Rattle.re_cert.specs.Bounds.{BoundStep}
use Rattle.re_labels.proofs.ChoicesOfRows.{choices-IsChoice}
use Rattle.re_labels.specs.Rows.{choices}
use Rattle.re_extract.specs.Seen.{AreViews}
use Rattle.re_labels.proofs.Membership.{AllByRecursion-contains, AllByRecursion-weaker}
use Rattle.re_laws.proofs.ExtractedRounds.{extracted_solves}
use Rattle.re_laws.proofs.SlowRounds.{slow_is}
use Rattle.re_laws.specs.Algorithms.{Plain, around}
use Rattle.re_laws.specs.Extracted.{IsUpperBound, Stage, extracted}
use Rattle.re_pool.specs.Pools.{tree_at}
use Rattle.re_pool.specs.declared.shape.Shape.{Shape}
use Rattle.re_problem.specs.NamedProblems.{NamedProblem, unnamed}
use Rattle.re_problem.specs.Problems.{Problem}
use Rattle.re_labels.proofs.Goodness.{Has-has_config}
use Rattle.re_labels.specs.Constraints.{has_config}
use Rattle.re_laws.proofs.ViewLaws.{IsView-shift, child_of}
use Rattle.re_laws.specs.Trees.{IsTree, IsView, backs, leaf, end, more, shift}

pub length-backs : (d e t n : ℕ) (x : Plain) → IsTree d e (suc t) n x → length (backs x) ≡ n
length-backs d e t n leaf h = absurd h
length-backs d e t zero end h = refl
length-backs d e t (suc n) end h = absurd h
length-backs d e t zero (more back payload branch rest) h = absurd h
length-backs d e t (suc n) (more back payload branch rest) h = ap suc (length-backs d e t n rest h.3)

-- some choice passes
find_none : (p : List ℕ → Bool) (xs : List (List ℕ)) (x : List ℕ) → Contains xs x → p x ≡ true → find p xs ≡ None → ⊥
find_none p [] x (k, l, e) h none = omega arith
find_none p (y ∷ xs) x held h none = go (p y) refl none held (λ at rest. find_none p xs x at h rest)
  where
    go : (b : Bool) → p y ≡ b → cond b (Some y) (find p xs) ≡ None → Contains (y ∷ xs) x → (Contains xs x → find p xs ≡ None → ⊥) → ⊥
    go true e rest held others = let none' : ◌≡◌ {A = Option (List ℕ)} (Some y) None = rest in cc
    go false e rest (zero, l, at) others = true≢false (sym h ∙ (ap p (sym at) ∙ e))
    go false e rest (suc k, l, at) others = others (k, omega arith, at) rest

pub some_choice : (problem : Problem) (stage : Stage) (stages : List Stage) (v : Plain) → IsUpperBound problem (stage ∷ stages) → IsView problem.active.degree problem.passive.degree (suc (length stages)) v
    → find (has_config problem.active) (choices (map stage.1 (around problem.active.degree (length stages) (extracted stage.0 stages) v))) ≡ None → ⊥
some_choice problem stage stages v bound is none =
    let slow = slow_is problem stage.0 stage.1 (length stages) (extracted stage.0 stages) bound.1 (extracted_solves stage.0 stages bound.2) v is in
    let labels = extracted problem (stage ∷ stages) v in
    let near = map stage.1 (around problem.active.degree (length stages) (extracted stage.0 stages) v) in
    find_none (has_config problem.active) (choices near) labels (choices-IsChoice near labels slow.0) (Has-has_config problem.active labels slow.1) none

-- ---- a step of a certificate
-- the first step, with what is known of the views
pub record Opened (start : List Shape) (before : NamedProblem) (step : BoundStep) (others : List BoundStep) (ids : List ℕ) : Type 0 where
  pub bound : IsUpperBound (unnamed before) (stages_of (step ∷ others))
  pub views : AreViews start before.active.degree before.passive.degree (suc (length (stages_of others))) ids
  pub shorter : suc (length others) ≡ suc (length (stages_of others))

pub opened : (start : List Shape) (before : NamedProblem) (steps others : List BoundStep) (step : BoundStep) (ids : List ℕ) → step ∷ others ≡ steps → IsUpperBound (unnamed before) (stages_of steps)
    → AreViews start before.active.degree before.passive.degree (length steps) ids → Opened start before step others ids
opened start before steps others step ids whole bound views =
    let count : suc (length others) ≡ suc (length (stages_of others)) = ap suc (sym (count-stages others)) in
    record {
      bound = subst (λ s. IsUpperBound (unnamed before) (stages_of s)) (sym whole) bound;
      views = subst (λ n. AreViews start before.active.degree before.passive.degree n ids) (sym (ap length whole) ∙ count) views;
      shorter = count;
    }

-- each view has a choice
pub some_choices : (start : List Shape) (problem : Problem) (stage : Stage) (stages : List Stage) (ids : List ℕ) → IsUpperBound problem (stage ∷ stages)
    → AreViews start problem.active.degree problem.passive.degree (suc (length stages)) ids
    → AllByRecursion (λ id. find (has_config problem.active) (choices (map stage.1 (around problem.active.degree (length stages) (extracted stage.0 stages) (tree_at start id)))) ≡ None → ⊥) ids
some_choices start problem stage stages ids bound views =
    AllByRecursion-weaker
    (λ id. (id < length start) × IsView problem.active.degree problem.passive.degree (suc (length stages)) (tree_at start id))
    (λ id. find (has_config problem.active) (choices (map stage.1 (around problem.active.degree (length stages) (extracted stage.0 stages) (tree_at start id)))) ≡ None → ⊥)
    (λ id h. some_choice problem stage stages (tree_at start id) bound h.1)
    ids views

-- one of the views
pub view_at : (start : List Shape) (degree other radius : ℕ) (ids : List ℕ) (i id : ℕ) → AreViews start degree other radius ids → i < length ids → id ≡ get_or ids i id → (id < length start) × IsView degree other radius (tree_at start id)
view_at start degree other radius ids i id views low is =
    AllByRecursion-contains (λ id. (id < length start) × IsView degree other radius (tree_at start id)) ids id views (i, low, sym is)
