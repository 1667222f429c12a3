-- Rows of the sets that the labels of a configuration stand for.
use Rattle.std.proofs.Common.{◌≡◌, ℕ, ◌<◌, ◌≤◌, List, [], ◌∷◌, length, map, sym, ap, ◌∙◌, subst, arith, Option, None}
use Rattle.std.specs.List.{AllByRecursion}
use Rattle.re_labels.proofs.Rows.{all_at}
use Rattle.re_labels.specs.Configs.{IsConfig}
use Rattle.re_labels.specs.Rows.{set_at}
use Rattle.re_labels.proofs.Membership.{AllByRecursion-weaker}
use Rattle.re_labels.specs.Sets.{IsLabelSet}
use Rattle.re_labels.specs.Constraints.{Constraint, IsConstraint}
use Rattle.re_problem.proofs.VerdictLaws.{empty-none}
use Rattle.re_problem.specs.Verdicts.{first_empty}
use Rattle.re_labels.proofs.SetsInOrder.{AreSets}
use Rattle.re_labels.specs.declared.TheConstants.{MAX_LABELS}

-- the sets that labels stand for
pub sets_are : (sets : List (List ℕ)) (labels : List ℕ) → AreSets sets → AllByRecursion (λ x. x < length sets) labels → AreSets (map (set_at sets) labels)
sets_are sets [] are h = tt
sets_are sets (i ∷ labels) are h = (all_at _ sets i are h.0, sets_are sets labels are h.1)

-- ---- what a call knows of its map
pub known_labels : (n k : ℕ) (constraint given : Constraint) → IsConstraint n constraint → given ≡ constraint → k ≡ n → AllByRecursion (AllByRecursion (λ label. label < k)) given.configs
known_labels n k constraint given is same e =
    subst (λ K. AllByRecursion (AllByRecursion (λ label. label < k)) K.configs) (sym same)
    (AllByRecursion-weaker (IsConfig constraint.degree n) (AllByRecursion (λ label. label < k)) (λ config h. subst (λ m. AllByRecursion (λ label. label < m) config) (sym e) h.below) constraint.configs is.configs)

both_all : {X : Type 0} (P Q : X → Type 0) (xs : List X) → AllByRecursion P xs → AllByRecursion Q xs → AllByRecursion (λ x. P x × Q x) xs
both_all P Q [] p q = tt
both_all P Q (x ∷ xs) p q = ((p.0, q.0), both_all P Q xs p.1 q.1)

pub filled_sets : (n : ℕ) (sets given searched : List (List ℕ)) (found : Option ℕ) → n ≤ MAX_LABELS → AllByRecursion (IsLabelSet n) sets → given ≡ sets → searched ≡ sets → found ≡ first_empty searched → found ≡ None → AreSets given
filled_sets n sets given searched found few are same alike is none =
    subst AreSets (sym same) (both_all (IsLabelSet MAX_LABELS) (λ set. 0 < length set) sets
    (AllByRecursion-weaker (IsLabelSet n) (IsLabelSet MAX_LABELS) (λ set h. (h.0, AllByRecursion-weaker (λ x. x < n) (λ x. x < MAX_LABELS) (λ x l. omega (arith, l)) set h.1)) sets are)
    (empty-none sets (ap first_empty (sym alike) ∙ sym is ∙ none)))
