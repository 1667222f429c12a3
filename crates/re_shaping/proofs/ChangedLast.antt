-- The steps with another last one, as lists.
use Rattle.std.proofs.Common.{◌≡◌, ℕ, suc, ◌-◌, ◌<◌, List, [], ◌∷◌, ◌++◌, length, take, get_or, None, Some, cond, false, refl, sym, ap, ◌∙◌, subst, arith, true}
use Rattle.re_problem.specs.NamedProblems.{NamedProblem}
use Rattle.re_problem.specs.ItemSteps.{is_nil}
use Rattle.re_labels.proofs.Tests.{and-true}
use Rattle.re_shaping.proofs.LastSteps.{LastIs, bound-parts, last-next}
use Rattle.re_shaping.proofs.StepsAlong.{map-below, step-parts}
use Rattle.re_cert.specs.Bounds.{Bound, BoundStep, built, is_bound, last_problem, step_fits, steps_fit}
use Rattle.re_cert.specs.declared.certificate.Kind.{Kind}
use Rattle.re_chains.specs.Chains.{chain_kind, chain_with}
use Rattle.re_shaping.specs.Chains.{HasLabelsBelow, last_changed, with_last}

-- all steps but the last, and the new one
pub last-changed : (t : BoundStep) (steps : List BoundStep) → 0 < length steps → last_changed (λ _. t) steps ≡ take (length steps - 1) steps ++ t ∷ []
last-changed t [] l = absurd (omega arith)
last-changed t (s ∷ []) l = refl
last-changed t (s ∷ u ∷ steps) l =
    let e : suc (suc (length steps)) - 1 ≡ suc (suc (length steps) - 1) = omega arith in
    ap (λ k. s ∷ k) (last-changed t (u ∷ steps) (omega arith)) ∙ ap (λ n. take n (s ∷ u ∷ steps) ++ t ∷ []) (sym e)

-- the last step, whichever one it gets by default
pub last-same : (change : BoundStep → BoundStep) (t : BoundStep) (steps : List BoundStep) → (d : BoundStep) → 0 < length steps → t ≡ change (get_or steps (length steps - 1) d) → last_changed (λ _. t) steps ≡ last_changed change steps
last-same change t [] d l e = absurd (omega arith)
last-same change t (s ∷ []) d l e = ap (λ k. k ∷ []) e
last-same change t (s ∷ u ∷ steps) d l e =
    let n : suc (suc (length steps)) - 1 ≡ suc (suc (length steps) - 1) = omega arith in
    ap (λ k. s ∷ k) (last-same change t (u ∷ steps) d (omega arith) (e ∙ ap (λ k. change (get_or (s ∷ u ∷ steps) k d)) n))

pub with_last-same : (change : BoundStep → BoundStep) (t : BoundStep) (bound : Bound) (d : BoundStep) → 0 < length bound.steps → t ≡ change (get_or bound.steps (length bound.steps - 1) d) → with_last (λ _. t) bound ≡ with_last change bound
with_last-same change t bound d l e = ap (chain_with bound.kind bound.first) (last-same change t bound.steps d l e)

pub built-some : (bound : Bound) → is_bound bound ≡ true → built bound ≡ Some bound
built-some bound is = ap (λ b. cond b (Some bound) None) is

-- what a chain with another last step is made of
pub with_last-is : (bound : Bound) (t : BoundStep) (kind : Kind) (first : NamedProblem) (given before after : List BoundStep) (renaming : List (ℕ × ℕ)) → 0 < length bound.steps
    → kind ≡ chain_kind bound.kind → first ≡ bound.first → given ≡ bound.steps → before ≡ take (length given - 1) given → after ≡ before ++ t ∷ [] → renaming ≡ []
    → record { kind = kind; back = 0; first = first; steps = after; renaming = renaming } ≡ with_last (λ _. t) bound
with_last-is bound t kind first given before after renaming l k f g b a r =
    let steps : after ≡ last_changed (λ _. t) bound.steps =
    a ∙ ap (λ (s : List BoundStep). s ++ t ∷ []) (b ∙ ap (λ (s : List BoundStep). take (length s - 1) s) g) ∙ sym (last-changed t bound.steps l) in
    (λ i. record { kind = k i; back = 0; first = f i; steps = steps i; renaming = r i })

-- ---- the last step
-- the step is the last one
pub record IsLastOf (bound : Bound) (t : BoundStep) : Type 0 where
  pub some : 0 < length bound.steps
  pub there : get_or bound.steps (length bound.steps - 1) t ≡ t

pub last-of : (bound : Bound) (given : List BoundStep) (t : BoundStep) → given ≡ bound.steps → is_nil bound.steps ≡ false → t ≡ get_or given (length given - 1) t → IsLastOf bound t
last-of bound given t g some e = record { some = long bound.steps some; there = sym (e ∙ ap (λ (s : List BoundStep). get_or s (length s - 1) t) g) }
  where
    long : (steps : List BoundStep) → is_nil steps ≡ false → 0 < length steps
    long [] e = cc
    long (s ∷ steps) e = omega arith

last-there : (P : BoundStep → Type 0) (steps : List BoundStep) (t : BoundStep) → LastIs P steps → 0 < length steps → get_or steps (length steps - 1) t ≡ t → P t
last-there P [] t last l e = absurd (omega arith)
last-there P (s ∷ []) t last l e = subst P e last
last-there P (s ∷ u ∷ steps) t last l e =
    let n : suc (suc (length steps)) - 1 ≡ suc (suc (length steps) - 1) = omega arith in
    last-there P (u ∷ steps) t last (omega arith) (sym (ap (λ k. get_or (s ∷ u ∷ steps) k t) n) ∙ e)

-- what is said of the last problem is said of the problem of the last step
pub last-problem : (Q : NamedProblem → Type 0) (bound : Bound) (t : BoundStep) → IsLastOf bound t → is_nil bound.steps ≡ false → Q (last_problem bound) → Q t.next
last-problem Q bound t last some q = last-there (λ (s : BoundStep). Q s.next) bound.steps t (last-next Q bound.first bound.steps some q) last.some last.there

fits-all : (kind : Kind) (before : NamedProblem) (steps : List BoundStep) → steps_fit kind before steps ≡ true → LastIs (λ (s : BoundStep). (b : NamedProblem) × (step_fits kind b s ≡ true)) steps
fits-all kind before [] fits = tt
fits-all kind before (s ∷ []) fits = (before, (and-true (step_fits kind before s) true fits).0)
fits-all kind before (s ∷ u ∷ steps) fits = fits-all kind s.next (u ∷ steps) (and-true (step_fits kind before s) (steps_fit kind s.next (u ∷ steps)) fits).1

-- the last step fits the problem before it
pub last-fits : (bound : Bound) (t : BoundStep) → is_bound bound ≡ true → IsLastOf bound t → (b : NamedProblem) × (step_fits bound.kind b t ≡ true)
last-fits bound t is last =
    last-there (λ (s : BoundStep). (b : NamedProblem) × (step_fits bound.kind b s ≡ true)) bound.steps t (fits-all bound.kind bound.first bound.steps (bound-parts bound is).fit) last.some last.there

-- the labels of its map are labels of its problem
pub last-below : (bound : Bound) (t : BoundStep) → is_bound bound ≡ true → IsLastOf bound t → HasLabelsBelow (length t.next.names) t.map
last-below bound t is last = let (b, fits) = last-fits bound t is last in map-below b t.next t.map (step-parts bound.kind b t fits).map

-- the chain with what a change makes of the last step
pub changed-last : (change : BoundStep → BoundStep) (bound : Bound) (t u : BoundStep) → IsLastOf bound t → u ≡ change t → with_last (λ _. u) bound ≡ with_last change bound
changed-last change bound t u last e = with_last-same change u bound t last.some (e ∙ ap change (sym last.there))
