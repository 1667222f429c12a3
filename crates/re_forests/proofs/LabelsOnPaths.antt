-- What solves a problem of degrees 2 and 2 on a path: the labels on the two edges of each inner node are a configuration.
use Rattle.std.proofs.Common.{◌≡◌, ℕ, suc, ◌≤◌, ◌<◌, Bool, true, false, not, List, [], ◌∷◌, length, map, refl, sym, ap, ◌∙◌, subst, arith, inl, inr, ◌⊎◌}
use Rattle.std.specs.Prelude.{Contains, ◌==◌, if◌then◌else◌, slice_index}
use Rattle.std.specs.List.{position_or_len}
use Rattle.re_labels.proofs.Sorting.{AllByRecursion-Rearranged, Rearranged-sorted, length-sorted, sorted-Rearranged}
use Rattle.re_labels.proofs.Rearranging.{Rearranged-sym}
use Rattle.re_labels.specs.Configs.{IsConfig, sorted}
use Rattle.re_labels.specs.Rearranging.{swapped}
use Rattle.re_forests.proofs.Leads.{after}
use Rattle.re_forests.proofs.PathNetworks.{active_at, near_within, ordered_is, path_network}
use Rattle.re_forests.proofs.Rounds.{after_not}
use Rattle.re_forests.specs.Flexible.{side}
use Rattle.re_forests.specs.OnForests.{SolvesOn, label_towards}
use Rattle.re_labels.proofs.Membership.{AllByRecursion-contains}
use Rattle.re_labels.proofs.Tests.{eqb-apart, eqb-same, not_not}
use Rattle.re_layers.specs.Networks.{Network}
use Rattle.re_problem.specs.Problems.{IsProblem, Problem}
use Rattle.re_labels.specs.Constraints.{Constraint, Has, IsConstraint}

-- ---- configurations
config_of : (n : ℕ) (constraint : Constraint) → IsConstraint n constraint → (labels : List ℕ) → Has constraint labels → IsConfig constraint.degree n (sorted labels)
config_of n constraint is labels has = AllByRecursion-contains (IsConfig constraint.degree n) constraint.configs (sorted labels) is.configs has

pub has_length : (n : ℕ) (constraint : Constraint) → IsConstraint n constraint → (labels : List ℕ) → Has constraint labels → length labels ≡ constraint.degree
has_length n constraint is labels has = sym (length-sorted labels) ∙ (config_of n constraint is labels has).count

pub has_below : (n : ℕ) (constraint : Constraint) → IsConstraint n constraint → (x : ℕ) (rest : List ℕ) → Has constraint (x ∷ rest) → x < n
has_below n constraint is x rest has =
    (AllByRecursion-Rearranged (λ y. y < n) (Rearranged-sym (Rearranged-sorted (x ∷ rest))) (config_of n constraint is (x ∷ rest) has).below).0

pub has_swapped : (constraint : Constraint) (x y : ℕ) → Has constraint (x ∷ y ∷ []) → Has constraint (y ∷ x ∷ [])
has_swapped constraint x y has = subst (λ l. Contains constraint.configs l) (sorted-Rearranged (swapped {x = x} {y = y} {xs = []})) has

pub side_is : (problem : Problem) → IsProblem problem → (active : Bool) → IsConstraint problem.labels (side problem active)
side_is problem is true = is.active
side_is problem is false = is.passive

-- ---- the labels towards two neighbours
abbrev at_port : List ℕ → List ℕ → ℕ → ℕ
at_port labels near w = slice_index labels (position_or_len (λ x. x == w) near)

port_first : (labels : List ℕ) (a b : ℕ) → at_port labels (a ∷ b ∷ []) a ≡ slice_index labels 0
port_first labels a b = rw (eqb-same a) refl

port_second : (labels : List ℕ) (a b : ℕ) → (a ≡ b → ⊥) → at_port labels (a ∷ b ∷ []) b ≡ slice_index labels 1
port_second labels a b apart = rw (eqb-apart a b apart, eqb-same b) refl

towards_both : (constraint : Constraint) (labels near : List ℕ) (a b : ℕ) → (a ≡ b → ⊥) → (near ≡ a ∷ b ∷ []) ⊎ (near ≡ b ∷ a ∷ []) → length labels ≡ 2 → Has constraint labels
    → Has constraint (at_port labels near a ∷ at_port labels near b ∷ [])
towards_both constraint [] near a b apart which two has = absurd (omega arith)
towards_both constraint (x ∷ []) near a b apart which two has = absurd (omega arith)
towards_both constraint (x ∷ y ∷ z ∷ labels) near a b apart which two has = absurd (omega arith)
towards_both constraint (x ∷ y ∷ []) near a b apart (inl e) two has =
    subst (λ l. Has constraint (at_port (x ∷ y ∷ []) l a ∷ at_port (x ∷ y ∷ []) l b ∷ [])) (sym e)
    (subst (λ u. Has constraint (u ∷ at_port (x ∷ y ∷ []) (a ∷ b ∷ []) b ∷ [])) (sym (port_first (x ∷ y ∷ []) a b))
    (subst (λ u. Has constraint (x ∷ u ∷ [])) (sym (port_second (x ∷ y ∷ []) a b apart)) has))
towards_both constraint (x ∷ y ∷ []) near a b apart (inr e) two has =
    subst (λ l. Has constraint (at_port (x ∷ y ∷ []) l a ∷ at_port (x ∷ y ∷ []) l b ∷ [])) (sym e)
    (subst (λ u. Has constraint (u ∷ at_port (x ∷ y ∷ []) (b ∷ a ∷ []) b ∷ [])) (sym (port_second (x ∷ y ∷ []) b a (λ f. apart (sym f))))
    (subst (λ u. Has constraint (y ∷ u ∷ [])) (sym (port_first (x ∷ y ∷ []) b a)) (has_swapped constraint x y has)))

from_both : (constraint : Constraint) (label : ℕ → ℕ) (near : List ℕ) (a b : ℕ) → (near ≡ a ∷ b ∷ []) ⊎ (near ≡ b ∷ a ∷ []) → Has constraint (map label near) → Has constraint (label a ∷ label b ∷ [])
from_both constraint label near a b (inl e) has = subst (λ l. Has constraint (map label l)) e has
from_both constraint label near a b (inr e) has = has_swapped constraint (label b) (label a) (subst (λ l. Has constraint (map label l)) e has)

two_of : (near : List ℕ) (a b : ℕ) → (near ≡ a ∷ b ∷ []) ⊎ (near ≡ b ∷ a ∷ []) → length near ≡ 2
two_of near a b (inl e) = ap length e
two_of near a b (inr e) = ap length e

-- ---- edges
-- the label on the edge between two nodes
abbrev pub edge_label : Network → (ℕ → List ℕ) → ℕ → ℕ → ℕ
edge_label G labels v w = if G.active v then label_towards G labels w v else label_towards G labels v w

pub edge_active : (G : Network) (labels : ℕ → List ℕ) (v w : ℕ) → G.active v ≡ true → edge_label G labels v w ≡ label_towards G labels w v
edge_active G labels v w e = rw e refl

pub edge_passive : (G : Network) (labels : ℕ → List ℕ) (v w : ℕ) → G.active v ≡ false → edge_label G labels v w ≡ label_towards G labels v w
edge_passive G labels v w e = rw e refl

module _ (problem : Problem) (is_problem : IsProblem problem) (degree_active : problem.active.degree ≡ 2) (degree_passive : problem.passive.degree ≡ 2)
    (id : ℕ → ℕ) (n : ℕ) (first : Bool) (two : 2 ≤ n) (different : (p q : ℕ) → p < n → q < n → id p ≡ id q → p ≡ q)
    (labels : ℕ → List ℕ) (solves : SolvesOn problem (path_network id n first) labels) where
  abbrev G : Network
  G = path_network id n first

  abbrev mark : ℕ → ℕ
  mark p = edge_label G labels (id p) (id (suc p))

  pub marks_linked : (p : ℕ) → suc (suc p) < n → Has (side problem (after first (suc p))) (mark p ∷ mark (suc p) ∷ [])
  marks_linked p low = by (after first (suc p)) refl
    where
      v : ℕ
      v = id (suc p)

      a : ℕ
      a = id p

      b : ℕ
      b = id (suc (suc p))

      which : (G.near v ≡ a ∷ b ∷ []) ⊎ (G.near v ≡ b ∷ a ∷ [])
      which = elim (ordered_is a b) [
        | inl e ↦ inl (near_within id n first two different p low ∙ e)
        | inr e ↦ inr (near_within id n first two different p low ∙ e)
      ]

      apart : a ≡ b → ⊥
      apart e = let f : p ≡ suc (suc p) = different p (suc (suc p)) (omega arith) low e in absurd (omega (arith, f))

      kind : (b : Bool) → after first (suc p) ≡ b → G.active v ≡ b
      kind b e = active_at id n first two different (suc p) (omega arith) ∙ e

      kind_before : (b : Bool) → after first (suc p) ≡ b → G.active a ≡ not b
      kind_before b e = active_at id n first two different p (omega arith) ∙ (sym (not_not (after first p)) ∙ ap not (sym (after_not first p) ∙ e))

      by : (b : Bool) → after first (suc p) ≡ b → Has (side problem b) (mark p ∷ mark (suc p) ∷ [])
      by true e =
          let has : Has problem.active (labels v) = solves.active v (kind true e) (two_of (G.near v) a b which ∙ sym degree_active) in
          subst (λ l. Has problem.active (l ∷ mark (suc p) ∷ [])) (sym (edge_passive G labels a v (kind_before true e)))
          (subst (λ l. Has problem.active (label_towards G labels a v ∷ l ∷ [])) (sym (edge_active G labels v b (kind true e)))
          (towards_both problem.active (labels v) (G.near v) a b apart which (has_length problem.labels problem.active is_problem.active (labels v) has ∙ degree_active) has))
      by false e =
          let has : Has problem.passive (map (λ x. label_towards G labels v x) (G.near v)) = solves.passive v (kind false e) (two_of (G.near v) a b which ∙ sym degree_passive) in
          subst (λ l. Has problem.passive (l ∷ mark (suc p) ∷ [])) (sym (edge_active G labels a v (kind_before false e)))
          (subst (λ l. Has problem.passive (label_towards G labels v a ∷ l ∷ [])) (sym (edge_passive G labels v b (kind false e)))
          (from_both problem.passive (λ x. label_towards G labels v x) (G.near v) a b which has))

  pub marks_below : (p : ℕ) → suc (suc p) < n → mark p < problem.labels
  marks_below p low = has_below problem.labels (side problem (after first (suc p))) (side_is problem is_problem (after first (suc p))) (mark p) (mark (suc p) ∷ []) (marks_linked p low)
