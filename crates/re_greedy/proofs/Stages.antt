-- The problems between a proper colouring and a greedy problem: nodes of the first colours have put out their labels, and the others show their colours.
use Rattle.std.proofs.Common.{◌≡◌, ℕ, ◌+◌, ◌-◌, ◌≤◌, ◌<◌, Bool, true, ltb, ◌&&◌, ◌||◌, List, ◌⊎◌, filter, length, refl, sym, subst, arith, inl, inr}
use Rattle.std.specs.Prelude.{Contains, not, replicate}
use Rattle.std.specs.List.{AllByRecursion, list_all, list_any}
use Rattle.std.proofs.lemmas.Bool.Decides.{nat_tests}
use Rattle.std.proofs.lemmas.Bool.{le-ltb}
use Rattle.re_labels.proofs.LawsOfRows.{multisets_law}
use Rattle.re_labels.proofs.Rearranging.{Contains-Rearranged, Rearranged-sym}
use Rattle.re_labels.proofs.Sorting.{IsConfig-sorted, Rearranged-sorted, sorted_again}
use Rattle.re_labels.specs.Configs.{IsConfig, sorted}
use Rattle.re_labels.specs.Orders.{multisets}
use Rattle.re_labels.specs.Rearranging.{Rearranged}
use Rattle.re_labels.proofs.Replicated.{alike_rise}
use Rattle.re_local.proofs.DifferentLabels.{Distinct-Rearranged}
use Rattle.re_given.proofs.Colourings.{filtered_constraint}
use Rattle.re_greedy.proofs.Parts.{Distinct-is_distinct, Rearranged-filter, is_distinct, is_distinct-Distinct, put_out, waiting}
use Rattle.re_labels.proofs.Before.{same_list-refl, same_list-same}
use Rattle.re_labels.proofs.Membership.{Contains-In, Contains-count_from, Contains-filter, Contains-filter_cases, Distinct, In-Contains, all-In, all-In_from, any_found, any_true, count_from_range}
use Rattle.re_labels.proofs.Tests.{and-true, below-true, or-left, or-right, or-true, true-and, true-below}
use Rattle.re_labels.specs.Lists.{count_from, same_list}
use Rattle.re_problem.specs.Problems.{IsProblem, Problem}
use Rattle.re_labels.proofs.Goodness.{Has-Rearranged, Has-has_config, has_config-Has}
use Rattle.re_labels.specs.Constraints.{Constraint, Has, has_config}

-- ---- what stands around a node
-- around an active node: an active configuration, or its colour, from q on
abbrev pub Acts : Problem → ℕ → ℕ → List ℕ → Type 0
Acts problem c q zs =
    Has problem.active zs ⊎ ((x : ℕ) × (problem.labels + q ≤ x) × (x < problem.labels + c) × (zs ≡ replicate problem.active.degree x))

-- around a passive node: labels put out that may stand there, and different colours from q on
pub record Stands (member : Constraint) (n q : ℕ) (zs : List ℕ) : Type 0 where
  pub put : Has member (put_out n zs)
  pub different : Distinct (waiting n zs)
  pub late : (z : ℕ) → Contains zs z → (z < n) ⊎ (n + q ≤ z)

pub Stands-Rearranged : {member : Constraint} {n q : ℕ} {zs ws : List ℕ} → Rearranged zs ws → Stands member n q zs → Stands member n q ws
Stands-Rearranged {member} {n} {q} {zs} {ws} order s = record {
  put = Has-Rearranged member (Rearranged-filter (λ z. ltb z n) order) s.put;
  different = Distinct-Rearranged (Rearranged-filter (λ z. not (ltb z n)) order) s.different;
  late = λ z at. s.late z (Contains-Rearranged z (Rearranged-sym order) at);
}

-- ---- tests
abbrev pub acts : Problem → ℕ → ℕ → List ℕ → Bool
acts problem c q zs =
    has_config problem.active zs || list_any (λ x. same_list zs (replicate problem.active.degree x)) (count_from (problem.labels + q) (c - q))

acts-Acts : (problem : Problem) (c q : ℕ) (zs : List ℕ) → acts problem c q zs ≡ true → Acts problem c q zs
acts-Acts problem c q zs h =
    elim (or-true (has_config problem.active zs) (list_any (λ x. same_list zs (replicate problem.active.degree x)) (count_from (problem.labels + q) (c - q))) h) [
      | inl e ↦ inl (has_config-Has problem.active zs e)
      | inr e ↦ (
          let (x, at, same) = any_found (λ x. same_list zs (replicate problem.active.degree x)) (count_from (problem.labels + q) (c - q)) e in
          let range = count_from_range (problem.labels + q) (c - q) x at in
          inr (x, range.0, omega (arith, range), same_list-same zs (replicate problem.active.degree x) same))
    ]

Acts-acts : (problem : Problem) (c q : ℕ) (zs : List ℕ) → Acts problem c q zs → acts problem c q zs ≡ true
Acts-acts problem c q zs (inl e) =
    or-left (has_config problem.active zs) (list_any (λ x. same_list zs (replicate problem.active.degree x)) (count_from (problem.labels + q) (c - q)))
    (Has-has_config problem.active zs e)
Acts-acts problem c q zs (inr (x, low, high, e)) =
    or-right (has_config problem.active zs) (list_any (λ x. same_list zs (replicate problem.active.degree x)) (count_from (problem.labels + q) (c - q)))
    (any_true (λ x. same_list zs (replicate problem.active.degree x)) (count_from (problem.labels + q) (c - q)) x
    (Contains-count_from (problem.labels + q) (c - q) x low (omega (arith, low, high)))
    (subst (λ ws. same_list zs ws ≡ true) e (same_list-refl zs)))

abbrev pub stands : Constraint → ℕ → ℕ → List ℕ → Bool
stands member n q zs = has_config member (put_out n zs) && (is_distinct (waiting n zs) && list_all (λ z. ltb z n || not (ltb z (n + q))) zs)

stands-Stands : (member : Constraint) (n q : ℕ) (zs : List ℕ) → stands member n q zs ≡ true → Stands member n q zs
stands-Stands member n q zs h =
    let (put, rest) = and-true (has_config member (put_out n zs)) (is_distinct (waiting n zs) && list_all (λ z. ltb z n || not (ltb z (n + q))) zs) h in
    let (different, late) = and-true (is_distinct (waiting n zs)) (list_all (λ z. ltb z n || not (ltb z (n + q))) zs) rest in
    record {
      put = has_config-Has member (put_out n zs) put;
      different = is_distinct-Distinct (waiting n zs) different;
      late = λ z at. sides z (all-In (λ z. ltb z n || not (ltb z (n + q))) zs late z (Contains-In z zs at));
    }
  where
    sides : (z : ℕ) → (ltb z n || not (ltb z (n + q))) ≡ true → (z < n) ⊎ (n + q ≤ z)
    sides z h = elim (or-true (ltb z n) (not (ltb z (n + q))) h) [
      | inl e ↦ inl (below-true z n e)
      | inr e ↦ inr (let high : n + q ≤ z = grind (arith, nat_tests) in high)
    ]

Stands-stands : (member : Constraint) (n q : ℕ) (zs : List ℕ) → Stands member n q zs → stands member n q zs ≡ true
Stands-stands member n q zs s =
    true-and (has_config member (put_out n zs)) (is_distinct (waiting n zs) && list_all (λ z. ltb z n || not (ltb z (n + q))) zs)
    (Has-has_config member (put_out n zs) s.put)
    (true-and (is_distinct (waiting n zs)) (list_all (λ z. ltb z n || not (ltb z (n + q))) zs) (Distinct-is_distinct (waiting n zs) s.different)
    (all-In_from (λ z. ltb z n || not (ltb z (n + q))) zs (λ z i. side z (s.late z (In-Contains z zs i)))))
  where
    side : (z : ℕ) → (z < n) ⊎ (n + q ≤ z) → (ltb z n || not (ltb z (n + q))) ≡ true
    side z (inl l) = or-left (ltb z n) (not (ltb z (n + q))) (true-below z n l)
    side z (inr h) = or-right (ltb z n) (not (ltb z (n + q))) (subst (λ b. not b ≡ true) (sym (le-ltb z (n + q) h)) refl)

-- ---- the problems
-- where nodes of colours below q have put out their labels
abbrev pub stage : Problem → List (List ℕ) → ℕ → ℕ → Problem
stage problem partial c q = record {
  labels = problem.labels + c;
  active = record { degree = problem.active.degree; configs = filter (acts problem c q) (multisets problem.active.degree 0 (problem.labels + c)) };
  passive = record {
    degree = problem.passive.degree;
    configs = filter (stands (record { degree = problem.passive.degree; configs = partial }) problem.labels q) (multisets problem.passive.degree 0 (problem.labels + c));
  };
}

module _ (problem : Problem) (partial : List (List ℕ)) (c q : ℕ) where
  abbrev member : Constraint
  member = record { degree = problem.passive.degree; configs = partial }

  pub IsProblem-stage : IsProblem problem → IsProblem (stage problem partial c q)
  IsProblem-stage is = record {
    active = filtered_constraint problem.active.degree (problem.labels + c) (acts problem c q) is.active.least is.active.most;
    passive = filtered_constraint problem.passive.degree (problem.labels + c) (stands member problem.labels q) is.passive.least is.passive.most;
  }

  pub stage_active : (config : List ℕ) → Contains (stage problem partial c q).active.configs config
      → IsConfig problem.active.degree (problem.labels + c) config × Acts problem c q config
  stage_active config held =
      let (listed, passes) = Contains-filter_cases (acts problem c q) (multisets problem.active.degree 0 (problem.labels + c)) config held in
      (((multisets_law problem.active.degree (problem.labels + c)).1 config).0 listed, acts-Acts problem c q config passes)

  pub stage_passive : (config : List ℕ) → Contains (stage problem partial c q).passive.configs config
      → IsConfig problem.passive.degree (problem.labels + c) config × Stands member problem.labels q config
  stage_passive config held =
      let (listed, passes) = Contains-filter_cases (stands member problem.labels q) (multisets problem.passive.degree 0 (problem.labels + c)) config held in
      (((multisets_law problem.passive.degree (problem.labels + c)).1 config).0 listed, stands-Stands member problem.labels q config passes)

  pub active_there : (zs : List ℕ) → length zs ≡ problem.active.degree → AllByRecursion (λ z. z < problem.labels + c) zs → Acts problem c q zs
      → Has (stage problem partial c q).active zs
  active_there zs count below does =
      Contains-filter (acts problem c q) (multisets problem.active.degree 0 (problem.labels + c)) (sorted zs)
      (((multisets_law problem.active.degree (problem.labels + c)).1 (sorted zs)).1 (IsConfig-sorted problem.active.degree (problem.labels + c) zs count below))
      (Acts-acts problem c q (sorted zs) (in_order does))
    where
      in_order : Acts problem c q zs → Acts problem c q (sorted zs)
      in_order (inl has) = inl (Has-Rearranged problem.active (Rearranged-sorted zs) has)
      in_order (inr (x, low, high, e)) =
          inr (x, low, high, subst (λ ws. sorted ws ≡ replicate problem.active.degree x) (sym e) (sorted_again (replicate problem.active.degree x) (alike_rise problem.active.degree x)))

  pub passive_there : (zs : List ℕ) → length zs ≡ problem.passive.degree → AllByRecursion (λ z. z < problem.labels + c) zs → Stands member problem.labels q zs
      → Has (stage problem partial c q).passive zs
  passive_there zs count below does =
      Contains-filter (stands member problem.labels q) (multisets problem.passive.degree 0 (problem.labels + c)) (sorted zs)
      (((multisets_law problem.passive.degree (problem.labels + c)).1 (sorted zs)).1 (IsConfig-sorted problem.passive.degree (problem.labels + c) zs count below))
      (Stands-stands member problem.labels q (sorted zs) (Stands-Rearranged (Rearranged-sorted zs) does))
