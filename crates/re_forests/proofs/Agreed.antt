-- In a forest with layers both ends of each edge are given the same label.
use Rattle.std.proofs.Common.{◌≡◌, ℕ, zero, suc, ◌+◌, ◌*◌, ◌≤◌, ◌<◌, Bool, leb, List, [], ◌∷◌, ◌++◌, length, get_or, refl, sym, ap, ◌∙◌, subst, ◌⊎◌, inl, inr, arith}
use Rattle.std.specs.Prelude.{Contains}
use Rattle.std.proofs.lemmas.Bool.{cases_lt, le-leb}
use Rattle.re_forests.proofs.Filled.{one_given_at, port, two_given_first, two_given_second}
use Rattle.re_forests.proofs.Given.{before, fresh, given, given_in, given_new, given_old, highest, labels_of, labels_of-path, labels_of-raked, length-given, path_labels, raked_labels, seen, seen_is}
use Rattle.re_forests.proofs.Paths.{first_within, kind_first, last_within, port_own}
use Rattle.re_forests.proofs.Ports.{label_of_set, near_differ}
use Rattle.re_forests.proofs.Walks.{around, beside, between, between_first, between_last, fixed, fixed_same, turned}
use Rattle.re_forests.proofs.Fills.{Fills}
use Rattle.re_layers.proofs.Balls.{ball_near}
use Rattle.re_labels.proofs.Membership.{AllByRecursion-contains, Contains-filter}
use Rattle.re_layers.specs.Layers.{IsLayered, IsPath, upper}
use Rattle.re_layers.specs.Networks.{IsForest, Network}
use Rattle.re_problem.specs.Problems.{Problem}

pub nil_cases : (nodes : List ℕ) → (nodes ≡ []) ⊎ (nodes ≡ [] → ⊥)
nil_cases [] = inl refl
nil_cases (u ∷ nodes) = inr (λ e. cc)

only_one : (highers near : List ℕ) (w : ℕ) → length highers ≤ 1 → Contains highers w → get_or (highers ++ near) 0 0 ≡ w
only_one [] near w few (k, low, e) = absurd (omega arith)
only_one (u ∷ highers) near w few (zero, low, e) = e
only_one (u ∷ highers) near w few (suc k, low, e) = absurd (omega arith)

module _ (problem : Problem) (set : List ℕ) (l : ℕ) {Paths : Type 0} (fills : Fills problem set l Paths) (layer : Network → ℕ → ℕ) (path : Network → ℕ → List ℕ)
    {a p N M : ℕ} (G : Network) (forest : IsForest a p N G) (is : IsLayered G l M (layer G) (path G)) where
  -- the label that v is given for its edge to w, when n layers have theirs
  abbrev pub gives : ℕ → ℕ → ℕ → ℕ
  gives n v w = get_or (given problem set l fills layer path M n G v) (port (G.near v) w) 0

  -- the labels at both ends of a path, when n layers have theirs
  abbrev pub at_first : ℕ → List ℕ → ℕ
  at_first n own = gives n (get_or own 0 0) (get_or own 1 0)

  abbrev pub at_last : ℕ → List ℕ → ℕ
  at_last n own = gives n (get_or own (suc (suc (2 * l))) 0) (get_or own (suc (2 * l)) 0)

  abbrev pub renewed : ℕ → ℕ → List ℕ
  renewed n v = fresh problem set l fills layer path G (given problem set l fills layer path M n G) v

  gives_in : (n v w : ℕ) → Contains (G.near v) w → Contains set (gives n v w)
  gives_in n v w held =
      label_of_set set (G.near v) (given problem set l fills layer path M n G v) w (near_differ G forest v)
      (length-given problem set l fills layer path M n G v) (given_in problem set l fills layer path M n G v) held

  gives_fixed : (n v w : ℕ) → Contains (G.near v) w → fixed problem set l fills (gives n v w) ≡ gives n v w
  gives_fixed n v w held = fixed_same problem set l fills (gives n v w) (gives_in n v w held)

  pub raked_is : (n v : ℕ) → path G v ≡ []
      → renewed n v ≡ raked_labels problem set l fills (G.active v) (G.near v) (highest layer G v)
      (seen (suc (2 * l)) G (given problem set l fills layer path M n G) v (highest layer G v) v)
  raked_is n v none = labels_of-raked problem set l fills (path G v) (G.active v) (G.near v) _ _ _ _ _ none

  -- all nodes of a path find the same labels for it
  pub path_is : (n : ℕ) (own : List ℕ) (height : ℕ) → IsPath G l (layer G) (path G) own height → (i : ℕ) → i < 2 * l + 1
      → renewed n (get_or own (suc i) 0)
      ≡ path_labels problem set l fills (G.active (get_or own 1 0)) (G.near (get_or own (suc i) 0)) own i (at_first n own) (at_last n own)
  path_is n own height on i low =
      let labels = given problem set l fills layer path M n G in
      let v : ℕ = get_or own (suc i) 0 in
      let view : List ℕ → ℕ → ℕ → ℕ = λ nodes k j. seen (suc (2 * l)) G labels v (get_or nodes k 0) (get_or nodes j 0) in
      let high : ℕ = seen (suc (2 * l)) G labels v (highest layer G v) v in
      let kind : Bool = G.active v in
      let some : own ≡ [] → ⊥ = λ none. let count = on.count in let size : length own ≡ 0 = ap length none in omega (arith, count, size) in
      let place : before (port own v) ≡ i = ap before (port_own G forest l (layer G) (path G) own height on i low) in
      let x : view own 0 1 ≡ at_first n own =
      seen_is (suc (2 * l)) G labels v (get_or own 0 0) (get_or own 1 0) (first_within G forest l (layer G) (path G) own height on i low) in
      let y : view own (suc (suc (2 * l))) (suc (2 * l)) ≡ at_last n own =
      seen_is (suc (2 * l)) G labels v (get_or own (suc (suc (2 * l))) 0) (get_or own (suc (2 * l)) 0)
      (last_within G forest l (layer G) (path G) own height on i low) in
      ap (λ (nodes : List ℕ). labels_of problem set l fills nodes kind (G.near v) (highest layer G v) high (before (port nodes v))
      (view nodes 0 1) (view nodes (suc (suc (2 * l))) (suc (2 * l)))) (on.same i low)
      ∙ labels_of-path problem set l fills own kind (G.near v) (highest layer G v) high (before (port own v)) (view own 0 1)
      (view own (suc (suc (2 * l))) (suc (2 * l))) some
      ∙ ap (λ (k : ℕ). path_labels problem set l fills (turned k kind) (G.near v) own k (view own 0 1) (view own (suc (suc (2 * l))) (suc (2 * l)))) place
      ∙ ap (λ (b : Bool). path_labels problem set l fills b (G.near v) own i (view own 0 1) (view own (suc (suc (2 * l))) (suc (2 * l))))
      (kind_first G forest l (layer G) (path G) own height on i low)
      ∙ ap (λ (z : ℕ). path_labels problem set l fills (G.active (get_or own 1 0)) (G.near v) own i z (view own (suc (suc (2 * l))) (suc (2 * l)))) x
      ∙ ap (λ (z : ℕ). path_labels problem set l fills (G.active (get_or own 1 0)) (G.near v) own i (at_first n own) z) y

  -- the labels along a path
  abbrev pub along : ℕ → List ℕ → ℕ → ℕ
  along n own i = between problem set l fills (G.active (get_or own 1 0)) (at_first n own) (at_last n own) i

  to_before : (n : ℕ) (own : List ℕ) (height : ℕ) → IsPath G l (layer G) (path G) own height → (i : ℕ) → i < 2 * l + 1
      → get_or (renewed n (get_or own (suc i) 0)) (port (G.near (get_or own (suc i) 0)) (get_or own i 0)) 0 ≡ along n own i
  to_before n own height on i low =
      ap (λ (labels : List ℕ). get_or labels (port (G.near (get_or own (suc i) 0)) (get_or own i 0)) 0) (path_is n own height on i low)
      ∙ two_given_first fills.some.0 (get_or own i 0) (get_or own (suc (suc i)) 0) (along n own i) (along n own (suc i))
      (beside problem set l fills (G.active (get_or own 1 0)) (at_first n own) (at_last n own) i) (G.near (get_or own (suc i) 0)) (on.before i low)

  to_behind : (n : ℕ) (own : List ℕ) (height : ℕ) → IsPath G l (layer G) (path G) own height → (i : ℕ) → i < 2 * l + 1
      → get_or (renewed n (get_or own (suc i) 0)) (port (G.near (get_or own (suc i) 0)) (get_or own (suc (suc i)) 0)) 0 ≡ along n own (suc i)
  to_behind n own height on i low =
      ap (λ (labels : List ℕ). get_or labels (port (G.near (get_or own (suc i) 0)) (get_or own (suc (suc i)) 0)) 0) (path_is n own height on i low)
      ∙ two_given_second fills.some.0 (get_or own i 0) (get_or own (suc (suc i)) 0) (along n own i) (along n own (suc i))
      (beside problem set l fills (G.active (get_or own 1 0)) (at_first n own) (at_last n own) i) (G.near (get_or own (suc i) 0)) (on.behind i low) (on.apart i low)

  in_upper : (v w : ℕ) → Contains (G.near v) w → layer G v ≤ layer G w → Contains (upper G (layer G) v) w
  in_upper v w held less = Contains-filter (λ u. leb (layer G v) (layer G u)) (G.near v) w held (le-leb (layer G v) (layer G w) less)

  -- ---- towards a higher layer
  raked_towards : (n v w : ℕ) → path G v ≡ [] → Contains (G.near v) w → layer G v < layer G w → get_or (renewed n v) (port (G.near v) w) 0 ≡ gives n w v
  raked_towards n v w none held less =
      let labels = given problem set l fills layer path M n G in
      let e : highest layer G v ≡ w = only_one (upper G (layer G) v) (G.near v) w (is.raked v none).0 (in_upper v w held (omega arith)) in
      let z : seen (suc (2 * l)) G labels v (highest layer G v) v ≡ gives n w v =
      ap (λ u. seen (suc (2 * l)) G labels v u v) e ∙ seen_is (suc (2 * l)) G labels v w v (ball_near G (2 * l) v w held) in
      ap (λ (own : List ℕ). get_or own (port (G.near v) w) 0)
      (raked_is n v none ∙ ap (λ u. raked_labels problem set l fills (G.active v) (G.near v) u (seen (suc (2 * l)) G labels v (highest layer G v) v)) e
      ∙ ap (λ u. raked_labels problem set l fills (G.active v) (G.near v) w u) z)
      ∙ one_given_at fills.some.0 w (fixed problem set l fills (gives n w v)) (around problem set l fills (G.active v) (gives n w v)) (G.near v) held
      ∙ gives_fixed n w v (forest.both v w held)

  path_towards : Paths → (n : ℕ) (own : List ℕ) (height : ℕ) → IsPath G l (layer G) (path G) own height → (i w : ℕ) → i < 2 * l + 1
      → Contains (G.near (get_or own (suc i) 0)) w → height < layer G w
      → get_or (renewed n (get_or own (suc i) 0)) (port (G.near (get_or own (suc i) 0)) w) 0 ≡ gives n w (get_or own (suc i) 0)
  path_towards ways n own height on i w low held high = elim (on.alone i w low (in_upper v w held (let e = on.one i low in omega (arith, e)))) [
    | inl e ↦ subst (λ u. get_or (renewed n v) (port (G.near v) u) 0 ≡ gives n u v) (sym e) (first i low (subst (λ u. height < layer G u) e high))
    | inr e ↦ subst (λ u. get_or (renewed n v) (port (G.near v) u) 0 ≡ gives n u v) (sym e) (last i low (subst (λ u. height < layer G u) e high))
  ]
    where
      v : ℕ
      v = get_or own (suc i) 0

      first : (k : ℕ) → k < 2 * l + 1 → height < layer G (get_or own k 0)
          → get_or (renewed n (get_or own (suc k) 0)) (port (G.near (get_or own (suc k) 0)) (get_or own k 0)) 0 ≡ gives n (get_or own k 0) (get_or own (suc k) 0)
      first zero low higher =
          to_before n own height on 0 low ∙ between_first problem set l fills (G.active (get_or own 1 0)) (at_first n own) (at_last n own)
          ∙ gives_fixed n (get_or own 0 0) (get_or own 1 0) (forest.both (get_or own 1 0) (get_or own 0 0) (on.before 0 low))
      first (suc k) low higher = let e = on.one k (omega arith) in absurd (omega (arith, e, higher))

      last : (k : ℕ) → k < 2 * l + 1 → height < layer G (get_or own (suc (suc k)) 0)
          → get_or (renewed n (get_or own (suc k) 0)) (port (G.near (get_or own (suc k) 0)) (get_or own (suc (suc k)) 0)) 0
          ≡ gives n (get_or own (suc (suc k)) 0) (get_or own (suc k) 0)
      last k low higher = elim (cases_lt k (2 * l)) [
        | inl less ↦ let e = on.one (suc k) (omega arith) in absurd (omega (arith, e, higher))
        | inr more ↦ let e : 2 * l ≡ k = omega arith in
            subst (λ j. get_or (renewed n (get_or own (suc j) 0)) (port (G.near (get_or own (suc j) 0)) (get_or own (suc (suc j)) 0)) 0
            ≡ gives n (get_or own (suc (suc j)) 0) (get_or own (suc j) 0)) e (
            to_behind n own height on (2 * l) (omega arith)
            ∙ between_last problem set l fills ways (G.active (get_or own 1 0)) (at_first n own) (at_last n own)
            ∙ gives_fixed n (get_or own (suc (suc (2 * l))) 0) (get_or own (suc (2 * l)) 0)
            (forest.both (get_or own (suc (2 * l)) 0) (get_or own (suc (suc (2 * l))) 0) (on.behind (2 * l) (omega arith))))
      ]

  towards : ((v : ℕ) → (path G v ≡ [] → ⊥) → Paths) → (n v w : ℕ) → Contains (G.near v) w → layer G v < layer G w → get_or (renewed n v) (port (G.near v) w) 0 ≡ gives n w v
  towards ways n v w held less = elim (nil_cases (path G v)) [
    | inl none ↦ raked_towards n v w none held less
    | inr some ↦ (let (on, (i, low, e)) = is.paths v some in
        let moved : Contains (G.near (get_or (path G v) (suc i) 0)) w = subst (λ u. Contains (G.near u) w) (sym e) held in
        subst (λ u. get_or (renewed n u) (port (G.near u) w) 0 ≡ gives n w u) e (path_towards (ways v some) n (path G v) (layer G v) on i w low moved less))
  ]

  -- ---- along a path
  beside_path : (n : ℕ) (own : List ℕ) (height : ℕ) → IsPath G l (layer G) (path G) own height → (i w : ℕ) → i < 2 * l + 1
      → Contains (G.near (get_or own (suc i) 0)) w → height ≡ layer G w
      → get_or (renewed n (get_or own (suc i) 0)) (port (G.near (get_or own (suc i) 0)) w) 0
      ≡ get_or (renewed n w) (port (G.near w) (get_or own (suc i) 0)) 0
  beside_path n own height on i w low held same = elim (on.alone i w low (in_upper v w held (let e = on.one i low in omega (arith, e)))) [
    | inl e ↦ subst (λ u. get_or (renewed n v) (port (G.near v) u) 0 ≡ get_or (renewed n u) (port (G.near u) v) 0) (sym e) (first i low (subst (λ u. height ≡ layer G u) e same))
    | inr e ↦ subst (λ u. get_or (renewed n v) (port (G.near v) u) 0 ≡ get_or (renewed n u) (port (G.near u) v) 0) (sym e) (last i low (subst (λ u. height ≡ layer G u) e same))
  ]
    where
      v : ℕ
      v = get_or own (suc i) 0

      first : (k : ℕ) → k < 2 * l + 1 → height ≡ layer G (get_or own k 0)
          → get_or (renewed n (get_or own (suc k) 0)) (port (G.near (get_or own (suc k) 0)) (get_or own k 0)) 0
          ≡ get_or (renewed n (get_or own k 0)) (port (G.near (get_or own k 0)) (get_or own (suc k) 0)) 0
      first zero low level = let e = on.first in absurd (omega (arith, e, level))
      first (suc k) low level = to_before n own height on (suc k) low ∙ sym (to_behind n own height on k (omega arith))

      last : (k : ℕ) → k < 2 * l + 1 → height ≡ layer G (get_or own (suc (suc k)) 0)
          → get_or (renewed n (get_or own (suc k) 0)) (port (G.near (get_or own (suc k) 0)) (get_or own (suc (suc k)) 0)) 0
          ≡ get_or (renewed n (get_or own (suc (suc k)) 0)) (port (G.near (get_or own (suc (suc k)) 0)) (get_or own (suc k) 0)) 0
      last k low level = elim (cases_lt k (2 * l)) [
        | inl less ↦ to_behind n own height on k low ∙ sym (to_before n own height on (suc k) (omega arith))
        | inr more ↦ let e : 2 * l + 2 ≡ suc (suc k) = omega arith in
            let end : height < layer G (get_or own (suc (suc k)) 0) = subst (λ j. height < layer G (get_or own j 0)) e on.last in
            absurd (omega (arith, end, level))
      ]

  level : (n v w : ℕ) → Contains (G.near v) w → layer G w ≡ layer G v
      → get_or (renewed n v) (port (G.near v) w) 0 ≡ get_or (renewed n w) (port (G.near w) v) 0
  level n v w held same = elim (nil_cases (path G v)) [
    | inl none ↦ absurd (AllByRecursion-contains (λ u. layer G u ≡ layer G v → ⊥) (G.near v) w (is.raked v none).1 held same)
    | inr some ↦ (let (on, (i, low, e)) = is.paths v some in
        let moved : Contains (G.near (get_or (path G v) (suc i) 0)) w = subst (λ u. Contains (G.near u) w) (sym e) held in
        subst (λ u. get_or (renewed n u) (port (G.near u) w) 0 ≡ get_or (renewed n w) (port (G.near w) u) 0) e
        (beside_path n (path G v) (layer G v) on i w low moved (sym same)))
  ]

  -- ---- both ends of an edge
  old_gives : (n v w : ℕ) → M ≤ layer G v + n → gives (suc n) v w ≡ gives n v w
  old_gives n v w old = ap (λ (labels : List ℕ). get_or labels (port (G.near v) w) 0) (given_old problem set l fills layer path M n G v old)

  new_gives : (n v w : ℕ) → layer G v + n < M → gives (suc n) v w ≡ get_or (renewed n v) (port (G.near v) w) 0
  new_gives n v w new = ap (λ (labels : List ℕ). get_or labels (port (G.near v) w) 0) (given_new problem set l fills layer path M n G v new)

  pub agreed : ((v : ℕ) → (path G v ≡ [] → ⊥) → Paths) → (n v w : ℕ) → Contains (G.near v) w → M ≤ layer G v + n → M ≤ layer G w + n → gives n v w ≡ gives n w v
  agreed ways zero v w held at also = let low = is.below v in absurd (omega (arith, low))
  agreed ways (suc n) v w held at also = elim (cases_lt (layer G v + n) M) [
    | inl new ↦ elim (cases_lt (layer G w + n) M) [
      | inl young ↦ new_gives n v w new ∙ level n v w held (omega arith) ∙ sym (new_gives n w v young)
      | inr old ↦ new_gives n v w new ∙ towards ways n v w held (omega arith) ∙ sym (old_gives n w v old)
    ]
    | inr old ↦ elim (cases_lt (layer G w + n) M) [
      | inl young ↦ old_gives n v w old ∙ sym (new_gives n w v young ∙ towards ways n w v (forest.both v w held) (omega arith))
      | inr elder ↦ old_gives n v w old ∙ agreed ways n v w held old elder ∙ sym (old_gives n w v elder)
    ]
  ]
