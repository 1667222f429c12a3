-- Strength by rests.
use Rattle.std.proofs.Common.{◌≡◌, ◌∷◌, ℕ, List, sym, subst}
use Rattle.std.specs.Prelude.{Contains}
use Rattle.re_labels.proofs.Rearranging.{Rearranged-sym}
use Rattle.re_labels.proofs.Sorting.{sorted_again}
use Rattle.re_labels.specs.Configs.{IsConfig, sorted}
use Rattle.re_labels.proofs.Membership.{AllByRecursion-contains}
use Rattle.re_labels.proofs.Goodness.{Has-Rearranged}
use Rattle.re_labels.proofs.Strengths.{IsIn-up_set, IsIn-up_set_cases, Pick-Contains, replaced_order, stronger_first}
use Rattle.re_labels.proofs.Placing.{Rearranged-Pick}
use Rattle.re_labels.specs.Constraints.{Constraint, Has, IsConstraint}
use Rattle.re_labels.specs.Strength.{IsAtLeastAsStrong}
use Rattle.re_boxes.specs.Rests.{Completes, RestLaw}

-- what completes each rest that a completes is at least as strong
pub strong-rests : (constraint : Constraint) (m a b : ℕ) → IsConstraint m constraint
    → ((rest : List ℕ) → Completes constraint rest a → Completes constraint rest b) → IsAtLeastAsStrong constraint b a
strong-rests constraint m a b is each config held has =
    let p = Pick-Contains a config has in
    let ascending : sorted config ≡ config = sorted_again config (AllByRecursion-contains (IsConfig constraint.degree m) constraint.configs config is.configs held).ascends in
    let there : Has constraint config = subst (Contains constraint.configs) (sym ascending) held in
    let with_a : Has constraint (a ∷ p.0) = Has-Rearranged constraint (Rearranged-Pick p.1) there in
    Has-Rearranged constraint (Rearranged-sym (replaced_order a b p.1)) (each p.0 with_a)

pub rest_law : RestLaw
rest_law constraint m n a b is = (
  (λ i. let two = IsIn-up_set_cases constraint a b n i in (two.0, λ rest done. stronger_first constraint a b rest two.1 done)),
  (λ two. IsIn-up_set constraint a b n two.0 (strong-rests constraint m a b is two.1)),
)
