-- What a local algorithm with unique identifiers solves on infinite trees is solved on forests: the places behind the forest get further identifiers.
use Rattle.std.proofs.Common.{◌≡◌, ℕ, suc, ◌+◌, ◌*◌, ◌^◌, ◌≤◌, ◌<◌, Bool, true, false, not, cond, ltb, List, [], ◌∷◌, length, map, get_or, refl, sym, ◌∙◌, ap, subst, arith, ◌⊎◌, inl, inr}
use Rattle.std.specs.Prelude.{Contains, filter, if◌then◌else◌, replicate}
use Rattle.std.proofs.lemmas.List.{map-id}
use Rattle.std.proofs.lemmas.List.Elements.{Contains-get_or}
use Rattle.re_labels.proofs.LawsOfRows.{multisets_law}
use Rattle.re_labels.proofs.Sorting.{IsConfig-sorted, sorted_again}
use Rattle.re_labels.specs.Configs.{sorted}
use Rattle.re_labels.proofs.Replicated.{alike_rise}
use Rattle.re_forests.specs.OnForests.{SolvableOnForests, SolvesOn}
use Rattle.re_forests.proofs.ColourLists.{map-one}
use Rattle.re_forests.proofs.FittingViews.{view_fits}
use Rattle.re_forests.proofs.LocalViews.{real_same}
use Rattle.re_forests.proofs.OnceLists.{IsOnce, different_map, once_filter}
use Rattle.re_forests.proofs.PlaceCodes.{code, code_low, code_one, room_is, room_more, seen_fine}
use Rattle.re_forests.proofs.PlaceWalks.{ports, root, seen, seen_once, size}
use Rattle.re_forests.proofs.Places.{IsGood, IsPorted-places, Place, kind_of, next_of, places, real}
use Rattle.re_forests.proofs.PlacesAround.{active_view, labels_around, passive_view}
use Rattle.re_forests.proofs.ShownPlaces.{active_shown, passive_shown}
use Rattle.re_forests.proofs.Views.{payload, view}
use Rattle.re_forests.specs.FromViews.{LocalOnForestsLaw}
use Rattle.re_given.specs.InputViews.{FitsAround, InputView, known}
use Rattle.re_labels.proofs.Membership.{Contains-count_from, count_from_range, Contains-cases, Contains-filter_cases, Contains-map}
use Rattle.re_labels.proofs.Tests.{below-true, true-below}
use Rattle.re_labels.specs.Lists.{count_from}
use Rattle.re_laws.proofs.Ports.{AllByRecursion-count, length-ports}
use Rattle.re_layers.specs.Networks.{AreDifferent, IsForest, IsLocal, Network}
use Rattle.re_local.specs.LocalAlgorithms.{SolvesApart, behind_passive, identified, shown}
use Rattle.re_problem.specs.Problems.{IsProblem, Problem}
use Rattle.re_labels.specs.Constraints.{Constraint, Has}

-- the identifier of a place
abbrev pub name : ℕ → ℕ → Place → ℕ
name N M x = cond (ltb (code N x) M) (code N x) 0

name_low : (N M : ℕ) (x : Place) → 0 < M → name N M x < M
name_low N M x some = by (ltb (code N x) M) refl
  where
    by : (b : Bool) → ltb (code N x) M ≡ b → cond b (code N x) 0 < M
    by true e = below-true (code N x) M e
    by false e = some

name_code : (N M : ℕ) (x : Place) → code N x < M → name N M x ≡ code N x
name_code N M x low = ap (λ b. cond b (code N x) 0) (true-below (code N x) M low)

-- the side of the input problem that nodes of a kind have
abbrev name_side : ℕ → ℕ → ℕ → Bool → Constraint
name_side a p M active = if active then (identified a p M).active else (identified a p M).passive

names_around : (a p N M : ℕ) (G : Network) → 0 < M → (x : Place) → Has (name_side a p M (kind_of G x)) (map (payload (places a p (name N M) G) x) (count_from 0 (if kind_of G x then a else p)))
names_around a p N M G some x = by (kind_of G x) refl
  where
    shows : (b : Bool) → kind_of G x ≡ b → (k : ℕ) → payload (places a p (name N M) G) x k ≡ (if b then name N M x else name N M (next_of G x k))
    shows b e k = ap (λ (b : Bool). if b then name N M x else name N M (next_of G x k)) e

    by : (b : Bool) → kind_of G x ≡ b → Has (name_side a p M b) (map (payload (places a p (name N M) G) x) (count_from 0 (if b then a else p)))
    by true e =
        subst (Has (identified a p M).active) (sym (map-one (payload (places a p (name N M) G) x) (name N M x) 0 a (shows true e)))
        (subst (Contains (identified a p M).active.configs) (sym (sorted_again (replicate a (name N M x)) (alike_rise a (name N M x))))
        (Contains-map (replicate a) (count_from 0 M) (name N M x) (let low = name_low N M x some in Contains-count_from 0 M (name N M x) (omega arith) (omega arith))))
    by false e =
        let xs = map (payload (places a p (name N M) G) x) (count_from 0 p) in
        ((multisets_law p M).1 (sorted xs)).1
        (IsConfig-sorted p M xs (length-ports (payload (places a p (name N M) G) x) 0 p)
        (AllByRecursion-count (λ n. n < M) (payload (places a p (name N M) G) x) 0 p (λ k l. subst (λ n. n < M) (sym (shows false e (0 + k))) (name_low N M (next_of G x (0 + k)) some))))

module _ (problem : Problem) (is : IsProblem problem) (N M k : ℕ) (enough : N * 7 ^ (k + 2) ≤ M) (algorithm : InputView → List ℕ)
    (solves : SolvesApart problem (identified problem.active.degree problem.passive.degree M) (λ x. x) k algorithm) where
  abbrev a : ℕ
  a = problem.active.degree

  abbrev p : ℕ
  p = problem.passive.degree

  some_active : 0 < a
  some_active = let two = is.active.least in omega arith

  some_passive : 0 < p
  some_passive = let two = is.passive.least in omega arith

  -- what a node sees
  abbrev sight : ℕ → Network → ℕ → InputView
  sight t G v = view (places problem.active.degree problem.passive.degree (name N M) G) t (real v)

  abbrev output : Network → ℕ → List ℕ
  output G v = algorithm (known k (sight (suc k) G v))

  decided : IsLocal (k + 2) output
  decided G H v same =
      ap (λ x. algorithm (known k x)) (real_same a p 0 (λ F x. name N M x) G H (λ T v l e. refl) (λ T v i l e past. refl) (λ u i j e f. refl) (suc k) (k + 2) v (omega arith) same)

  module _ (G : Network) (forest : IsForest problem.active.degree problem.passive.degree N G) where
    fits : (t v : ℕ) → v < N → FitsAround (name_side a p M (G.active v)) (name_side a p M (not (G.active v))) [] (sight t G v)
    fits t v low =
        view_fits (places a p (name N M) G) (IsGood a p G) (IsPorted-places a p N (name N M) G forest some_active some_passive) (name_side a p M)
        (λ x ok. names_around a p N M G (let more = room_more N 0 (k + 2) (omega arith) in let total = room_is N (k + 2) in omega arith) x) t (real v) tt

    -- the names of the places that are seen in at most k + 2 steps differ
    names_differ : (t v : ℕ) → v < N → t ≤ k + 2 → (xs : List Place) → IsOnce xs → ((z : Place) → Contains xs z → (z ≡ real v) ⊎ Contains (seen a p G t (real v) (ports a p G (real v))) z)
        → AreDifferent (map (name N M) (filter (kind_of G) xs))
    names_differ t v low short xs once each =
        different_map (name N M) (filter (kind_of G) xs) (once_filter (kind_of G) xs once)
        (λ x y held held' e.
        (let (good, below, small) = fine x (each x (Contains-filter_cases (kind_of G) xs x held).0) in
        let (good', below', small') = fine y (each y (Contains-filter_cases (kind_of G) xs y held').0) in
        code_one a p N G is.active.most is.passive.most x y good below good' below' (sym (name_code N M x small) ∙ e ∙ name_code N M y small')))
      where
        coded : (z : Place) → IsGood a p G z → root z < N → size z ≤ t → code N z < M
        coded z good below near =
            let low = code_low a p N G is.active.most is.passive.most z good below in
            let more = room_more N (size z) (k + 2) (omega arith) in
            let total = room_is N (k + 2) in
            omega arith

        fine : (z : Place) → (z ≡ real v) ⊎ Contains (seen a p G t (real v) (ports a p G (real v))) z → IsGood a p G z × (root z < N) × (code N z < M)
        fine z (inl e) = subst (λ z. IsGood a p G z × (root z < N) × (code N z < M)) (sym e) (tt, low, coded (real v) tt low (omega arith))
        fine z (inr held) =
            let (good, below, near) = seen_fine a p N G forest some_active some_passive t (real v) (ports a p G (real v)) z tt low
            (λ j there. (let all = count_from_range 0 (if G.active v then a else p) j there in omega (arith, all))) held in
            (good, below, coded z good below (omega (arith, near)))

    solved : SolvesOn problem G (output G)
    solved = record {
      active = λ v kind full.
          (let low : v < N = inside v (omega arith) in
          solves.active (sight (suc k) G v) (active_view a p N (name N M) G forest some_active some_passive (suc k) v kind)
          (subst (λ b. FitsAround (name_side a p M b) (name_side a p M (not b)) [] (sight (suc k) G v)) kind (fits (suc k) v low))
          (subst (λ l. AreDifferent l) (sym (map-id (shown (sight (suc k) G v)) ∙ active_shown a p N (name N M) G forest some_active some_passive k v kind))
          (names_differ (suc k) v low (omega arith) (real v ∷ seen a p G (suc k) (real v) (ports a p G (real v))) (seen_once a p G forest (suc k) v)
          (λ z held. Contains-cases z (real v) (seen a p G (suc k) (real v) (ports a p G (real v))) held))));
      passive = λ w kind full.
          (let low : w < N = inside w (omega arith) in
          subst (Has problem.passive) (labels_around a p N (name N M) G forest some_active some_passive (suc k) (λ x. algorithm (known k x)) w kind full)
          (solves.passive (sight (suc (suc k)) G w) (passive_view a p N (name N M) G forest some_active some_passive (suc (suc k)) w kind)
          (subst (λ b. FitsAround (name_side a p M b) (name_side a p M (not b)) [] (sight (suc (suc k)) G w)) kind (fits (suc (suc k)) w low))
          (subst (λ l. AreDifferent l) (sym (map-id (behind_passive (sight (suc (suc k)) G w)) ∙ passive_shown a p N (name N M) G forest some_active some_passive (suc k) w kind))
          (names_differ (suc (suc k)) w low (omega arith) (seen a p G (suc (suc k)) (real w) (ports a p G (real w))) (seen_once a p G forest (suc (suc k)) w).1 (λ z held. inr held)))));
    }
      where
        inside : (v : ℕ) → 0 < length (G.near v) → v < N
        inside v some = (forest.below v (get_or (G.near v) 0 0) (Contains-get_or (G.near v) 0 0 some)).0

  on_forests : SolvableOnForests problem N (k + 2)
  on_forests = (output, decided, solved)

pub local_on_forests : LocalOnForestsLaw
local_on_forests problem N M k is enough (algorithm, solves) = on_forests problem is N M k enough algorithm solves
