-- Around an edge all of whose surroundings are full stand labels that many rounds of trimming leave: where all are taken away, no solution is there.
use Rattle.std.proofs.Common.{◌≡◌, ℕ, zero, suc, pred, ◌+◌, ◌≤◌, ◌<◌, Bool, true, false, List, length, map, refl, sym, ap, ◌∙◌, subst, arith}
use Rattle.std.specs.Prelude.{Contains, not}
use Rattle.std.specs.List.{AllByRecursion}
use Rattle.re_forests.proofs.Ports.{at_ports, near_differ}
use Rattle.re_forests.proofs.Trimming.{around_stands, left_first, left_next, side_is, trimmed_set_trimmed}
use Rattle.re_forests.specs.Flexible.{side}
use Rattle.re_forests.specs.OnForests.{SolvesOn, label_towards}
use Rattle.re_forests.specs.Trimmed.{NoSolutionLaw}
use Rattle.re_forests.specs.TrimmedSets.{left_after, stands, trimmed_set}
use Rattle.re_labels.proofs.Membership.{Contains-map_cases, AllByRecursion-from_contains, Contains-map}
use Rattle.re_layers.proofs.Full.{cut, cut_held, full_cut, full_here, full_less, spread}
use Rattle.re_layers.proofs.RegularTrees.{forest, reach, reach_more, whole, whole_edge, whole_full, whole_low}
use Rattle.re_layers.specs.Full.{IsFull}
use Rattle.re_layers.specs.Networks.{IsForest, Network}
use Rattle.re_problem.specs.Problems.{IsProblem, Problem}
use Rattle.re_labels.specs.Constraints.{Has}
use Rattle.re_laws.proofs.Mapping.{count_of}

module _ (problem : Problem) (is : IsProblem problem) (count : Bool → ℕ) (ports : (k : Bool) → count k ≡ (side problem k).degree)
    {a p N : ℕ} (G : Network) (is_forest : IsForest a p N G) (labels : ℕ → List ℕ) (solves : SolvesOn problem G labels) where
  -- the labels around an active node, and around a passive one
  abbrev mine : ℕ → List ℕ
  mine v = map (λ w. label_towards G labels w v) (G.near v)

  abbrev told : ℕ → List ℕ
  told w = map (λ v. label_towards G labels w v) (G.near w)

  at_active : (r v : ℕ) → G.active v ≡ true → IsFull count G r v → Has problem.active (labels v) × (mine v ≡ labels v)
  at_active r v kind full =
      let size : length (G.near v) ≡ problem.active.degree = full_here count G r v full ∙ ap count kind ∙ ports true in
      let has : Has problem.active (labels v) = solves.active v kind size in
      (has, at_ports (G.near v) (labels v) (near_differ G is_forest v) (count_of problem.labels problem.active (labels v) is.active has ∙ sym size))

  has_mine : (r v : ℕ) → G.active v ≡ true → IsFull count G r v → Has problem.active (mine v)
  has_mine r v kind full = let (has, same) = at_active r v kind full in subst (Has problem.active) (sym same) has

  has_told : (r w : ℕ) → G.active w ≡ false → IsFull count G r w → Has problem.passive (told w)
  has_told r w kind full = solves.passive w kind (full_here count G r w full ∙ ap count kind ∙ ports false)

  all_of : (set : List ℕ) (f : ℕ → ℕ) (near : List ℕ) → ((x : ℕ) → Contains near x → Contains set (f x)) → AllByRecursion (Contains set) (map f near)
  all_of set f near each =
      AllByRecursion-from_contains (Contains set) (map f near) (λ y on. (let (x, at, e) = Contains-map_cases f near y on in subst (Contains set) e (each x at)))

  pub left : (r v w : ℕ) → G.active v ≡ true → Contains (G.near v) w → IsFull count G r v → IsFull count G r w
      → Contains (left_after problem r) (label_towards G labels w v)
  left zero v w kind on full also =
      left_first problem is true (mine v) (label_towards G labels w v) (has_mine zero v kind full) (Contains-map (λ u. label_towards G labels u v) (G.near v) w on)
  left (suc r) v w kind on full also = next (λ x y kind' on' full' also'. left r x y kind' on' full' also')
    where
      other : (x y : ℕ) → G.active x ≡ true → Contains (G.near x) y → G.active y ≡ false
      other x y kind' on' = is_forest.turns x y on' ∙ ap not kind'

      active_of : (x y : ℕ) → G.active y ≡ false → Contains (G.near y) x → G.active x ≡ true
      active_of x y kind' on' = is_forest.turns y x on' ∙ ap not kind'

      next : ((x y : ℕ) → G.active x ≡ true → Contains (G.near x) y → IsFull count G r x → IsFull count G r y → Contains (left_after problem r) (label_towards G labels y x))
          → Contains (left_after problem (suc r)) (label_towards G labels w v)
      next before = left_next problem is r (label_towards G labels w v) (before v w kind on (full_less count G r v full) (full_less count G r w also)) each
        where
          each : (active : Bool) → stands (side problem active) (left_after problem r) (label_towards G labels w v) ≡ true
          each true =
              around_stands problem.active (left_after problem r) (mine v) (label_towards G labels w v) (has_mine (suc r) v kind full)
              (all_of (left_after problem r) (λ u. label_towards G labels u v) (G.near v)
              (λ u at. before v u kind at (full_less count G r v full) (full.1 u at)))
              (Contains-map (λ u. label_towards G labels u v) (G.near v) w on)
          each false =
              around_stands problem.passive (left_after problem r) (told w) (label_towards G labels w v) (has_told (suc r) w (other v w kind on) also)
              (all_of (left_after problem r) (λ u. label_towards G labels w u) (G.near w)
              (λ u at. before u w (active_of u w (other v w kind on) at) (is_forest.both w u at) (also.1 u at) (full_less count G r w also)))
              (Contains-map (λ u. label_towards G labels w u) (G.near w) v (is_forest.both v w on))

  -- around a node with full surroundings stand labels that are left
  pub around_active : (r v : ℕ) → G.active v ≡ true → IsFull count G (suc r) v → Has problem.active (labels v) × AllByRecursion (Contains (left_after problem r)) (labels v)
  around_active r v kind full =
      let (has, same) = at_active (suc r) v kind full in (
        has,
        subst (AllByRecursion (Contains (left_after problem r))) same
            (all_of (left_after problem r) (λ u. label_towards G labels u v) (G.near v) (λ u at. left r v u kind at (full_less count G r v full) (full.1 u at))),
      )

  pub around_passive : (r w : ℕ) → G.active w ≡ false → IsFull count G (suc r) w → Has problem.passive (told w) × AllByRecursion (Contains (left_after problem r)) (told w)
  around_passive r w kind full = (
    has_told (suc r) w kind full,
    all_of (left_after problem r) (λ u. label_towards G labels w u) (G.near w)
        (λ u at. left r u w (is_forest.turns w u at ∙ ap not kind) (is_forest.both w u at) (full.1 u at) (full_less count G r w full)),
  )

suc_pred : (d : ℕ) → 2 ≤ d → suc (pred d) ≡ d
suc_pred zero l = absurd (omega arith)
suc_pred (suc d) l = refl

module _ (problem : Problem) (is : IsProblem problem) where
  pub besides : Bool → ℕ
  besides k = pred (side problem k).degree

  pub ports_of : (k : Bool) → suc (besides k) ≡ (side problem k).degree
  unfolding besides
  ports_of k = suc_pred (side problem k).degree (side_is problem is k).least

  pub some : (k : Bool) → 1 ≤ besides k
  some k = let same = ports_of k in let least = (side_is problem is k).least in omega (arith, same, least)

  abbrev tree : ℕ → Network
  tree N = cut N (whole besides some)

  -- so many nodes suffice
  abbrev enough : ℕ
  enough = spread (reach besides some) (suc problem.labels) 2 + 2

  is_forest : (N : ℕ) → IsForest problem.active.degree problem.passive.degree N (tree N)
  is_forest N =
      subst (λ a. IsForest a problem.passive.degree N (tree N)) (ports_of true)
      (subst (λ p. IsForest (suc (besides true)) p N (tree N)) (ports_of false) (forest besides some N))

  full : (N v : ℕ) → enough ≤ N → v < 2 → IsFull (λ k. suc (besides k)) (tree N) (suc problem.labels) v
  full N v most low =
      full_cut (λ k. suc (besides k)) (whole besides some) (reach besides some) (reach_more besides some) (whole_low besides some) (whole_full besides some)
      N (suc problem.labels) v 2 low (omega (arith, most))

  -- a solution on the tree has a label of the greatest trimmed set
  found : (N : ℕ) (labels : ℕ → List ℕ) → enough ≤ N → SolvesOn problem (tree N) labels → (x : ℕ) × Contains (trimmed_set problem) x
  found N labels most solves = (
    label_towards (tree N) labels 1 0,
    left problem is (λ k. suc (besides k)) ports_of (tree N) (is_forest N) labels solves (suc problem.labels) 0 1 refl
        (cut_held N (whole besides some) 0 1 (omega (arith, most)) (omega (arith, most)) (whole_edge besides some)) (full N 0 most (omega arith)) (full N 1 most (omega arith)),
  )

pub no_solution : NoSolutionLaw
no_solution problem is none = (
  enough problem is,
  λ N T most (algorithm, local, solves).
      let (x, held) = found problem is N (algorithm (tree problem is N)) most (solves (tree problem is N) (is_forest problem is N)) in
      none (trimmed_set problem) x (trimmed_set_trimmed problem is) held,
)
