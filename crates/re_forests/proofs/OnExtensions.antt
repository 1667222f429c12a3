-- An algorithm run on the extension of a forest outputs labels of the greatest trimmed set around all nodes of the forest.
use Rattle.std.proofs.Common.{◌≡◌, ℕ, suc, ◌+◌, ◌*◌, ◌≤◌, ◌<◌, Bool, true, false, cond, eqb, leb, List, [], ◌∷◌, ◌++◌, length, map, get_or, refl, sym, ap, ◌∙◌, subst, inl, inr, arith, append-nil}
use Rattle.std.specs.Prelude.{Contains, filter}
use Rattle.std.proofs.lemmas.Bool.{cases_Bool, cond-true, eqb-false, le-leb, leb-true, lt-leb}
use Rattle.std.proofs.lemmas.List.Elements.{Contains-get_or}
use Rattle.re_forests.proofs.Filled.{port}
use Rattle.re_forests.proofs.Trimming.{has_within}
use Rattle.re_forests.proofs.Unsolvable.{around_active, around_passive, besides, ports_of, some}
use Rattle.re_forests.specs.OnForests.{SolvesOn, label_towards}
use Rattle.re_forests.specs.TrimmedSets.{TrimmedOnForestsLaw, trimmed_problem, trimmed_set, within}
use Rattle.re_layers.proofs.Extended.{cut_same, extended_forest, extended_same}
use Rattle.re_layers.proofs.ExtendedFull.{extended_full, far, real_near}
use Rattle.re_layers.proofs.Extending.{active_real, extended, id, inside, left, missing, passes, tree}
use Rattle.re_layers.proofs.Filters.{filter_all}
use Rattle.re_layers.proofs.Full.{cut, spread}
use Rattle.re_labels.proofs.Membership.{Contains-cases, Contains-none, map-alike}
use Rattle.re_layers.proofs.NodeNumbers.{place}
use Rattle.re_layers.specs.Full.{IsFull}
use Rattle.re_layers.specs.Networks.{AreSame, IsForest, IsLocal, Network}
use Rattle.re_problem.specs.Problems.{IsProblem, Problem}
use Rattle.re_labels.specs.Constraints.{Has}

-- the port of a neighbour stays, where more neighbours come behind
port_kept : (xs ys : List ℕ) (w : ℕ) → Contains xs w → port (xs ++ ys) w ≡ port xs w
port_kept [] ys w held = absurd (Contains-none w held)
port_kept (x ∷ xs) ys w held = elim (cases_Bool (eqb x w)) [
  | inl e ↦ rw e refl
  | inr e ↦ rw e (ap (λ n. 1 + n) (port_kept xs ys w (elim (Contains-cases w x xs held) [ inl same ↦ absurd (eqb-false x w e (sym same)) | inr later ↦ later ])))
]

filter_none : (test : ℕ → Bool) (xs : List ℕ) → ((x : ℕ) → test x ≡ false) → filter test xs ≡ []
filter_none test [] none = refl
filter_none test (x ∷ xs) none = rw (none x) (filter_none test xs none)

module _ (problem : Problem) (is : IsProblem problem) where
  abbrev m : Bool → ℕ
  m k = besides problem is k

  abbrev enough : ℕ
  enough = spread (far m (some problem is)) (suc (suc problem.labels)) 1

  module _ (N : ℕ) (algorithm : Network → ℕ → List ℕ) where
    abbrev W : ℕ
    W = suc N

    abbrev grown : Network → Network
    grown G = cut (enough * W) (extended m (some problem is) W G)

    abbrev adapted : Network → ℕ → List ℕ
    adapted G v = cond (leb (suc v) W) (algorithm (grown G) v) []

    adapted_local : (T : ℕ) → IsLocal T algorithm → IsLocal T adapted
    adapted_local T local = λ G H v same. go G H v same (leb (suc v) W) refl
      where
        go : (G H : Network) (v : ℕ) → AreSame T G H v → (b : Bool) → leb (suc v) W ≡ b → cond b (algorithm (grown G) v) [] ≡ cond b (algorithm (grown H) v) []
        go G H v same true e =
            local (grown G) (grown H) v (cut_same (enough * W) (extended m (some problem is) W G) (extended m (some problem is) W H) T v
            (extended_same m (some problem is) W (omega arith) G H T v (leb-true (suc v) W e) same))
        go G H v same false e = refl

    module _ (G : Network) (forest : IsForest problem.active.degree problem.passive.degree N G) where
      is_forest : IsForest (suc (m true)) (suc (m false)) N G
      is_forest =
          subst (λ a. IsForest a (suc (m false)) N G) (sym (ports_of problem is true))
          (subst (λ p. IsForest problem.active.degree p N G) (sym (ports_of problem is false)) forest)

      big : IsForest problem.active.degree problem.passive.degree (enough * W) (grown G)
      big =
          subst (λ a. IsForest a problem.passive.degree (enough * W) (grown G)) (ports_of problem is true)
          (subst (λ p. IsForest (suc (m true)) p (enough * W) (grown G)) (ports_of problem is false)
          (extended_forest m (some problem is) W (omega arith) G is_forest (omega arith) (enough * W)))

      few : (v : ℕ) → length (G.near v) ≤ suc (m (G.active v))
      few v = at (G.active v) (is_forest.degrees v)
        where
          at : (k : Bool) → length (G.near v) ≤ cond k (suc (m true)) (suc (m false)) → length (G.near v) ≤ suc (m k)
          at true l = l
          at false l = l

      full : (v : ℕ) → v < W → IsFull (λ k. suc (m k)) (grown G) (suc (suc problem.labels)) v
      full v low = extended_full m (some problem is) W G few (enough * W) (suc (suc problem.labels)) v low (omega arith)

      -- the neighbours in the extension: those in the forest, and more behind them where ports are free
      more_near : ℕ → List ℕ
      more_near v = map (λ c. id m (some problem is) W G v c) (left m (some problem is) W G v 0)

      all_inside : (v : ℕ) → inside m (some problem is) W G v ≡ G.near v
      all_inside v = filter_all (λ w. leb (suc w) W) (G.near v) (λ w on. le-leb (suc w) W (let low = (forest.below v w on).1 in omega (arith, low)))

      grown_near : (v : ℕ) → v < W → (grown G).near v ≡ G.near v ++ more_near v
      unfolding more_near
      grown_near v low =
          real_near m (some problem is) W G few (enough * W) (suc (suc problem.labels)) v low (omega arith)
          ∙ ap (λ xs. xs ++ map (λ c. id m (some problem is) W G v c) (left m (some problem is) W G v 0)) (all_inside v)

      none_more : (v : ℕ) → length (G.near v) ≡ suc (m (G.active v)) → more_near v ≡ []
      unfolding more_near
      none_more v count =
          let same : length (inside m (some problem is) W G v) ≡ length (G.near v) = ap length (all_inside v) in
          let zero_left : missing m (some problem is) W G v ≡ 0 = omega (arith, same, count) in
          ap (map (λ c. id m (some problem is) W G v c))
          (ap (λ d. filter (passes d 0) ((tree m (some problem is) (G.active v)).near 0)) zero_left
          ∙ filter_none (passes 0 0) ((tree m (some problem is) (G.active v)).near 0) (λ c. lt-leb (suc (place c)) 0 (omega arith)))

      low_of : (v : ℕ) → length (G.near v) ≡ suc (m (G.active v)) → v < W
      low_of v count = let less = (forest.below v (get_or (G.near v) 0 0) (Contains-get_or (G.near v) 0 0 (omega (arith, count)))).0 in omega (arith, less)

      adapted_is : (v : ℕ) → v < W → adapted G v ≡ algorithm (grown G) v
      adapted_is v low = cond-true (leb (suc v) W) (algorithm (grown G) v) [] (le-leb (suc v) W low)

      same_label : (w u : ℕ) → Contains (G.near w) u → label_towards (grown G) (algorithm (grown G)) w u ≡ label_towards G (adapted G) w u
      same_label w u on =
          let low : u < W = let less = (forest.below w u on).1 in omega (arith, less) in
          ap (λ n. get_or (algorithm (grown G) u) n 0)
          (ap (λ (near : List ℕ). port near w) (grown_near u low) ∙ port_kept (G.near u) (more_near u) w (forest.both w u on))
          ∙ ap (λ (labels : List ℕ). get_or labels (port (G.near u) w) 0) (sym (adapted_is u low))

      right : SolvesOn problem (grown G) (algorithm (grown G)) → SolvesOn (trimmed_problem problem) G (adapted G)
      right solves = record {
        active = λ v kind count. active v kind (count ∙ sym (ap (λ k. suc (m k)) kind ∙ ports_of problem is true));
        passive = λ w kind count. passive w kind (count ∙ sym (ap (λ k. suc (m k)) kind ∙ ports_of problem is false));
      }
        where
          active : (v : ℕ) → G.active v ≡ true → length (G.near v) ≡ suc (m (G.active v)) → Has (within (trimmed_set problem) problem.active) (adapted G v)
          active v kind count =
              let low = low_of v count in
              let (has, all) = around_active problem is (λ k. suc (m k)) (ports_of problem is) (grown G) big (algorithm (grown G)) solves (suc problem.labels) v
              (active_real m (some problem is) W G v low ∙ kind) (full v low) in
              subst (Has (within (trimmed_set problem) problem.active)) (sym (adapted_is v low)) (has_within (trimmed_set problem) problem.active (algorithm (grown G) v) has all)

          passive : (w : ℕ) → G.active w ≡ false → length (G.near w) ≡ suc (m (G.active w))
              → Has (within (trimmed_set problem) problem.passive) (map (λ u. label_towards G (adapted G) w u) (G.near w))
          passive w kind count =
              let low = low_of w count in
              let near : (grown G).near w ≡ G.near w = grown_near w low ∙ ap (λ ys. G.near w ++ ys) (none_more w count) ∙ append-nil (G.near w) in
              let (has, all) = around_passive problem is (λ k. suc (m k)) (ports_of problem is) (grown G) big (algorithm (grown G)) solves (suc problem.labels) w
              (active_real m (some problem is) W G w low ∙ kind) (full w low) in
              subst (Has (within (trimmed_set problem) problem.passive))
              (ap (map (λ u. label_towards (grown G) (algorithm (grown G)) w u)) near
              ∙ map-alike (λ u. label_towards (grown G) (algorithm (grown G)) w u) (λ u. label_towards G (adapted G) w u) (G.near w) (λ u on. same_label w u on))
              (has_within (trimmed_set problem) problem.passive (map (λ u. label_towards (grown G) (algorithm (grown G)) w u) ((grown G).near w)) has all)

pub trimmed_on_forests : TrimmedOnForestsLaw
trimmed_on_forests problem is = (
  enough problem is,
  λ N T (algorithm, local, solves). (
    adapted problem is N algorithm,
    adapted_local problem is N algorithm T local,
    λ G forest. right problem is N algorithm G forest (solves (grown problem is N algorithm G) (big problem is N algorithm G forest)),
  ),
)
