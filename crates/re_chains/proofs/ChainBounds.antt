-- The chain that a bound stands for is a bound.
use Rattle.std.proofs.Common.{◌≡◌, Bool, true, ◌&&◌, List, [], ◌∷◌, length, refl, ap, ◌∙◌}
use Rattle.std.specs.Prelude.{nat_le}
use Rattle.re_labels.proofs.Tests.{and-true, true-and}
use Rattle.re_problem.specs.NamedProblems.{NamedProblem}
use Rattle.re_cert.specs.Bounds.{Bound, BoundStep, is_bound, is_lower, one_form, renaming_fits, step_fits, steps_fit}
use Rattle.re_cert.specs.declared.certificate.Kind.{Kind}
use Rattle.re_cert.specs.declared.certificate.Kind.TheVariants.{Lower, Upper, Fixed}
use Rattle.re_cert.specs.declared.certificate.TheConstants.{MAX_STEPS}
use Rattle.re_chains.specs.Chains.{ChainLaw, chain_kind, chain_of}

-- steps fit a kind exactly where they fit that of the chain
fixed_fit : (before : NamedProblem) (steps : List BoundStep) → steps_fit Lower before steps ≡ steps_fit Fixed before steps
fixed_fit before [] = refl
fixed_fit before (s ∷ steps) = ap (λ (rest : Bool). step_fits Lower before s && rest) (fixed_fit s.next steps)

kind_fit : (kind : Kind) (before : NamedProblem) (steps : List BoundStep) → steps_fit (chain_kind kind) before steps ≡ steps_fit kind before steps
kind_fit Lower before steps = refl
kind_fit Upper before steps = refl
kind_fit Fixed before steps = fixed_fit before steps

-- the steps of a chain are lower ones exactly where those of the bound are
pub lower-chain : (kind : Kind) → is_lower (chain_kind kind) ≡ is_lower kind
lower-chain Lower = refl
lower-chain Upper = refl
lower-chain Fixed = refl

-- a chain has no renaming that would have to fit
no_renaming : (kind : Kind) (first : NamedProblem) (steps : List BoundStep) → renaming_fits (record { kind = chain_kind kind; back = 0; first = first; steps = steps; renaming = [] }) ≡ true
no_renaming Lower first steps = refl
no_renaming Upper first steps = refl
no_renaming Fixed first steps = refl

pub chain_bound : (bound : Bound) → is_bound bound ≡ true → is_bound (chain_of bound) ≡ true
chain_bound bound is =
    let three = and-true (nat_le (length bound.steps) MAX_STEPS && steps_fit bound.kind bound.first bound.steps && one_form bound.steps) (renaming_fits bound) is in
    let two = and-true (nat_le (length bound.steps) MAX_STEPS && steps_fit bound.kind bound.first bound.steps) (one_form bound.steps) three.0 in
    let one = and-true (nat_le (length bound.steps) MAX_STEPS) (steps_fit bound.kind bound.first bound.steps) two.0 in
    true-and _ _ (true-and _ _ (true-and _ _ one.0 (kind_fit bound.kind bound.first bound.steps ∙ one.1)) two.1) (no_renaming bound.kind bound.first bound.steps)

pub chain_sound : ChainLaw
chain_sound bound is = record { bound = chain_bound bound is.bound; problems = record { first = is.problems.first; next = is.problems.next }; sound = is.sound }
