-- On paths of which all is seen, labels are put from the end with the lesser identifier on, each behind the one before it.
use Rattle.std.proofs.Common.{◌≡◌, ℕ, zero, suc, ◌+◌, ◌≤◌, ◌<◌, Bool, true, false, cond, not, List, [], ◌∷◌, length, map, refl, sym, ap, ap₂, ◌∙◌, subst, arith, inl, inr, ◌⊎◌}
use Rattle.std.specs.Prelude.{Contains, ◌==◌, if◌then◌else◌, nat_le, slice_index}
use Rattle.std.specs.List.{position_or_len}
use Rattle.std.proofs.lemmas.Bool.Decides.{eqb_tells, leb_tells}
use Rattle.re_forests.proofs.LabelsOnPaths.{has_length, has_swapped, side_is}
use Rattle.re_forests.proofs.TwoColours.{not_fast, two_colours_is, two_colours_trimmed}
use Rattle.re_forests.proofs.WholeBranches.{branch_back, branch_first, branch_on, pieces_apart, three}
use Rattle.re_forests.specs.TwoColours.{two_colours}
use Rattle.re_forests.specs.Flexible.{Joins, side}
use Rattle.re_forests.specs.LabelLaws.{TwoColouredPathsLaw, WholePathsLaw}
use Rattle.re_forests.specs.OnForests.{SolvableOnForests, SolvesOn, label_towards}
use Rattle.re_forests.specs.Trimmed.{IsTrimmed}
use Rattle.re_labels.proofs.Membership.{Contains-cases, Contains-here, Contains-later, Contains-none, map-alike}
use Rattle.re_labels.proofs.Tests.{not_not}
use Rattle.re_layers.proofs.Locality.{same_active, same_branch, same_fewer, same_near}
use Rattle.re_layers.specs.Networks.{AreSame, IsForest, IsLocal, Network, branch}
use Rattle.re_problem.specs.Problems.{IsProblem, Problem}
use Rattle.re_labels.specs.Constraints.{Has}

-- the last element
abbrev pub end_of : List ℕ → ℕ
end_of [] = 0
end_of (x ∷ []) = x
end_of (x ∷ y ∷ xs) = end_of (y ∷ xs)

end_in : (x : ℕ) (xs : List ℕ) → Contains (x ∷ xs) (end_of (x ∷ xs))
end_in x [] = Contains-here x []
end_in x (y ∷ xs) = Contains-later (end_of (y ∷ xs)) x (y ∷ xs) (end_in y xs)

-- what a map has at the place of an element
port_map : (f : ℕ → ℕ) (near : List ℕ) (x : ℕ) → Contains near x → slice_index (map f near) (position_or_len (λ z. z == x) near) ≡ f x
port_map f [] x held = absurd (Contains-none x held)
port_map f (y ∷ near) x held = by (y == x) (eqb_tells y x) (Contains-cases x y near held) (port_map f near x)
  where
    by : (b : Bool) → ((b ≡ true) × (y ≡ x)) ⊎ ((b ≡ false) × (y ≡ x → ⊥)) → (x ≡ y) ⊎ Contains near x
        → (Contains near x → slice_index (map f near) (position_or_len (λ z. z == x) near) ≡ f x)
        → slice_index (f y ∷ map f near) (cond (not b) (1 + position_or_len (λ z. z == x) near) 0) ≡ f x
    by true (inl t) which rest = ap f t.1
    by true (inr t) which rest = absurd (let e = t.0 in cc)
    by false t (inl e) rest = absurd (elim t [ inl s ↦ (let g = s.0 in cc) | inr s ↦ s.1 (sym e) ])
    by false t (inr there) rest =
        ap (λ k. slice_index (f y ∷ map f near) k) (let e : 1 + position_or_len (λ z. z == x) near ≡ suc (position_or_len (λ z. z == x) near) = omega arith in e) ∙ rest there

pair_of : (near : List ℕ) → length near ≡ 2 → (a : ℕ) × (b : ℕ) × (near ≡ a ∷ b ∷ [])
pair_of [] e = absurd (omega (arith, e))
pair_of (a ∷ []) e = absurd (omega (arith, e))
pair_of (a ∷ b ∷ []) e = (a, b, refl)
pair_of (a ∷ b ∷ c ∷ near) e = absurd (omega (arith, e))

module _ (problem : Problem) (set : List ℕ) (start : ℕ) (is_problem : IsProblem problem) (degree_active : problem.active.degree ≡ 2) (degree_passive : problem.passive.degree ≡ 2)
    (trimmed : IsTrimmed problem set) (held : Contains set start) where
  -- ---- labels one behind the other
  -- the label behind so many nodes from the end, in front of a node of this kind
  abbrev run : ℕ → Bool → (x : ℕ) × Contains set x
  run zero kind = (start, held)
  run (suc j) kind = ((trimmed (not kind) (run j (not kind)).0 (run j (not kind)).1).0, (trimmed (not kind) (run j (not kind)).0 (run j (not kind)).1).1)

  degree_of : (kind : Bool) → (side problem kind).degree ≡ 2
  degree_of true = degree_active
  degree_of false = degree_passive

  alone : (kind : Bool) (x y : ℕ) → Joins (side problem kind) set x y → Has (side problem kind) (x ∷ y ∷ [])
  alone kind x y ([], held, has) = has
  alone kind x y (z ∷ rest, held, has) =
      absurd (let e : length (x ∷ y ∷ z ∷ rest) ≡ 2 = has_length problem.labels (side problem kind) (side_is problem is_problem kind) (x ∷ y ∷ z ∷ rest) has ∙ degree_of kind in omega (arith, e))

  goes : (j : ℕ) (kind : Bool) → Has (side problem kind) ((run j kind).0 ∷ (run (suc j) (not kind)).0 ∷ [])
  goes j kind =
      subst (λ k. Has (side problem k) ((run j k).0 ∷ (run (suc j) (not kind)).0 ∷ [])) (not_not kind)
      (alone (not (not kind)) (run j (not (not kind))).0 (run (suc j) (not kind)).0 (trimmed (not (not kind)) (run j (not (not kind))).0 (run j (not (not kind))).1).2)

  -- the label on an edge, from the nodes on its two sides and the kinds of its nodes
  abbrev from_sides : List ℕ → List ℕ → Bool → Bool → ℕ
  from_sides own across own_kind across_kind = if nat_le (end_of own) (end_of across) then (run (length own) across_kind).0 else (run (length across) own_kind).0

  abbrev edge : ℕ → Network → ℕ → ℕ → ℕ
  edge K G v w = from_sides (branch G K w v) (branch G K v w) (G.active v) (G.active w)

  abbrev algorithm : ℕ → Network → ℕ → List ℕ
  algorithm K G v = map (λ w. edge K G v w) (G.near v)

  local : (K : ℕ) → IsLocal (suc K) (algorithm K)
  local K G H v same = map-alike (λ w. edge K G v w) (λ w. edge K H v w) (G.near v) each ∙ ap (λ near. map (λ w. edge K H v w) near) same.1
    where
      each : (w : ℕ) → Contains (G.near v) w → edge K G v w ≡ edge K H v w
      each w held =
          let there : AreSame K G H w = same_near G H K v w same held in
          let own : branch G K w v ≡ branch H K w v = (same_branch G H K 0 w v (same_fewer G H (K + 0) (suc K) v (omega arith) same)).0 in
          let across : branch G K v w ≡ branch H K v w = (same_branch G H K 0 v w (same_fewer G H (K + 0) K w (omega arith) there)).0 in
          ap₂ (λ l m. from_sides l m (G.active v) (G.active w)) own across ∙ ap₂ (λ k k'. from_sides (branch H K w v) (branch H K v w) k k') (same_active G H (suc K) v same) (same_active G H K w there)

  -- ---- around a node, of whose edges one is put behind the other
  module _ (x : ℕ) (A B : List ℕ) (kind : Bool) (apart : end_of A ≡ end_of B → ⊥) (on : end_of (x ∷ B) ≡ end_of B) (back : end_of (x ∷ A) ≡ end_of A) where
    from_first : Has (side problem kind) ((run (length A) kind).0 ∷ (run (suc (length A)) (not kind)).0 ∷ [])
    from_first = goes (length A) kind

    from_second : Has (side problem kind) ((run (suc (length B)) (not kind)).0 ∷ (run (length B) kind).0 ∷ [])
    from_second = has_swapped (side problem kind) (run (length B) kind).0 (run (suc (length B)) (not kind)).0 (goes (length B) kind)

    own_edges : Has (side problem kind) (from_sides (x ∷ B) A kind (not kind) ∷ from_sides (x ∷ A) B kind (not kind) ∷ [])
    own_edges = elim (leb_tells (end_of (x ∷ B)) (end_of A)) [
      | inl s ↦ elim (leb_tells (end_of (x ∷ A)) (end_of B)) [
        | inl t ↦ absurd (apart (omega (arith, s.1, t.1, on, back)))
        | inr t ↦ rw (s.0, t.0) from_second
      ]
      | inr s ↦ elim (leb_tells (end_of (x ∷ A)) (end_of B)) [
        | inl t ↦ rw (s.0, t.0) from_first
        | inr t ↦ absurd (omega (arith, s.1, t.1, on, back))
      ]
    ]

    across_edges : Has (side problem kind) (from_sides A (x ∷ B) (not kind) kind ∷ from_sides B (x ∷ A) (not kind) kind ∷ [])
    across_edges = elim (leb_tells (end_of A) (end_of (x ∷ B))) [
      | inl s ↦ elim (leb_tells (end_of B) (end_of (x ∷ A))) [
        | inl t ↦ absurd (apart (omega (arith, s.1, t.1, on, back)))
        | inr t ↦ rw (s.0, t.0) from_first
      ]
      | inr s ↦ elim (leb_tells (end_of B) (end_of (x ∷ A))) [
        | inl t ↦ rw (s.0, t.0) from_second
        | inr t ↦ absurd (omega (arith, s.1, t.1, on, back))
      ]
    ]

  -- ---- the labels on a forest of paths
  module _ (k : ℕ) (G : Network) (forest : IsForest 2 2 (suc (suc k)) G) where
    module _ (x a b : ℕ) (near : G.near x ≡ a ∷ b ∷ []) where
      near_a : Contains (G.near x) a
      near_a = subst (λ l. Contains l a) (sym near) (Contains-here a (b ∷ []))

      near_b : Contains (G.near x) b
      near_b = subst (λ l. Contains l b) (sym near) (Contains-later b a (b ∷ []) (Contains-here b []))

      end_within : (u v : ℕ) → Contains (branch G (suc k) u v) (end_of (branch G (suc k) u v))
      end_within u v = let (rest, is) = branch_first G (suc k) u v in subst (λ l. Contains l (end_of l)) (sym is) (end_in v rest)

      end_on : (u v : ℕ) → end_of (x ∷ branch G (suc k) u v) ≡ end_of (branch G (suc k) u v)
      end_on u v = let (rest, is) = branch_first G (suc k) u v in subst (λ l. end_of (x ∷ l) ≡ end_of l) (sym is) refl

      ends_apart : end_of (branch G (suc k) x a) ≡ end_of (branch G (suc k) x b) → ⊥
      ends_apart e = pieces_apart (suc (suc k)) G forest x a b near (suc k) (end_of (branch G (suc k) x a)) (end_within x a) (subst (λ z. Contains (branch G (suc k) x b) z) (sym e) (end_within x b))

      own_has : Has (side problem (G.active x)) (edge (suc k) G x a ∷ edge (suc k) G x b ∷ [])
      own_has =
          subst (λ l. Has (side problem (G.active x)) (from_sides l (branch G (suc k) x a) (G.active x) (G.active a) ∷ edge (suc k) G x b ∷ [])) (sym (branch_on (suc (suc k)) G forest x a b near k refl))
          (subst (λ l. Has (side problem (G.active x)) (from_sides (x ∷ branch G (suc k) x b) (branch G (suc k) x a) (G.active x) (G.active a) ∷ from_sides l (branch G (suc k) x b) (G.active x) (G.active b) ∷ [])) (sym (branch_back (suc (suc k)) G forest x a b near k refl))
          (subst (λ kind. Has (side problem (G.active x)) (from_sides (x ∷ branch G (suc k) x b) (branch G (suc k) x a) (G.active x) kind ∷ from_sides (x ∷ branch G (suc k) x a) (branch G (suc k) x b) (G.active x) (G.active b) ∷ [])) (sym (forest.turns x a near_a))
          (subst (λ kind. Has (side problem (G.active x)) (from_sides (x ∷ branch G (suc k) x b) (branch G (suc k) x a) (G.active x) (not (G.active x)) ∷ from_sides (x ∷ branch G (suc k) x a) (branch G (suc k) x b) (G.active x) kind ∷ [])) (sym (forest.turns x b near_b))
          (own_edges x (branch G (suc k) x a) (branch G (suc k) x b) (G.active x) ends_apart (end_on x b) (end_on x a)))))

      across_has : Has (side problem (G.active x)) (edge (suc k) G a x ∷ edge (suc k) G b x ∷ [])
      across_has =
          subst (λ l. Has (side problem (G.active x)) (from_sides (branch G (suc k) x a) l (G.active a) (G.active x) ∷ edge (suc k) G b x ∷ [])) (sym (branch_on (suc (suc k)) G forest x a b near k refl))
          (subst (λ l. Has (side problem (G.active x)) (from_sides (branch G (suc k) x a) (x ∷ branch G (suc k) x b) (G.active a) (G.active x) ∷ from_sides (branch G (suc k) x b) l (G.active b) (G.active x) ∷ [])) (sym (branch_back (suc (suc k)) G forest x a b near k refl))
          (subst (λ kind. Has (side problem (G.active x)) (from_sides (branch G (suc k) x a) (x ∷ branch G (suc k) x b) kind (G.active x) ∷ from_sides (branch G (suc k) x b) (x ∷ branch G (suc k) x a) (G.active b) (G.active x) ∷ [])) (sym (forest.turns x a near_a))
          (subst (λ kind. Has (side problem (G.active x)) (from_sides (branch G (suc k) x a) (x ∷ branch G (suc k) x b) (not (G.active x)) (G.active x) ∷ from_sides (branch G (suc k) x b) (x ∷ branch G (suc k) x a) kind (G.active x) ∷ [])) (sym (forest.turns x b near_b))
          (across_edges x (branch G (suc k) x a) (branch G (suc k) x b) (G.active x) ends_apart (end_on x b) (end_on x a)))))

      towards : (v : ℕ) → Contains (G.near v) x → label_towards G (algorithm (suc k) G) x v ≡ edge (suc k) G v x
      towards v held = port_map (λ w. edge (suc k) G v w) (G.near v) x held

      around_own : Has (side problem (G.active x)) (algorithm (suc k) G x)
      around_own = subst (λ l. Has (side problem (G.active x)) (map (λ w. edge (suc k) G x w) l)) (sym near) own_has

      around_across : Has (side problem (G.active x)) (map (λ v. label_towards G (algorithm (suc k) G) x v) (G.near x))
      around_across =
          subst (λ l. Has (side problem (G.active x)) (map (λ v. label_towards G (algorithm (suc k) G) x v) l)) (sym near)
          (subst (λ l. Has (side problem (G.active x)) (l ∷ label_towards G (algorithm (suc k) G) x b ∷ [])) (sym (towards a (forest.both x a near_a)))
          (subst (λ l. Has (side problem (G.active x)) (edge (suc k) G a x ∷ l ∷ [])) (sym (towards b (forest.both x b near_b))) across_has))

    solves : SolvesOn problem G (algorithm (suc k) G)
    solves = record {
      active = λ v is whole.
          (let (a, b, near) = pair_of (G.near v) (whole ∙ degree_active) in
          subst (λ kind. Has (side problem kind) (algorithm (suc k) G v)) is (around_own v a b near));
      passive = λ w is whole.
          (let (a, b, near) = pair_of (G.near w) (whole ∙ degree_passive) in
          subst (λ kind. Has (side problem kind) (map (λ v. label_towards G (algorithm (suc k) G) w v) (G.near w))) is (around_across w a b near));
    }

  two_degrees : (N : ℕ) (G : Network) → IsForest problem.active.degree problem.passive.degree N G → IsForest 2 2 N G
  two_degrees N G forest = subst (λ a. IsForest a 2 N G) degree_active (subst (λ p. IsForest problem.active.degree p N G) degree_passive forest)

  -- where there are fewer than three nodes, none has two neighbours
  solves_few : (N : ℕ) → N < 3 → (G : Network) → IsForest 2 2 N G → (labels : ℕ → List ℕ) → SolvesOn problem G labels
  solves_few N small G forest labels = record {
    active = λ v is whole. absurd (none v (whole ∙ degree_active));
    passive = λ w is whole. absurd (none w (whole ∙ degree_passive));
  }
    where
      none : (v : ℕ) → length (G.near v) ≡ 2 → ⊥
      none v whole =
          let (a, b, near) = pair_of (G.near v) whole in
          let most : 3 ≤ N = three N G forest v a b near in
          absurd (omega (arith, most, small))

  solvable : (N : ℕ) → SolvableOnForests problem N N
  solvable zero = (λ G v. [], λ G H v same. refl, λ G forest. solves_few 0 (omega arith) G (two_degrees 0 G forest) (λ v. []))
  solvable (suc zero) = (algorithm 0, local 0, λ G forest. solves_few 1 (omega arith) G (two_degrees 1 G forest) (algorithm 0 G))
  solvable (suc (suc k)) = (algorithm (suc k), local (suc k), λ G forest. solves k G (two_degrees (suc (suc k)) G forest))

pub whole_paths : WholePathsLaw
whole_paths problem set x N is_problem degree_active degree_passive trimmed held = solvable problem set x is_problem degree_active degree_passive trimmed held N

pub two_colours_order : TwoColouredPathsLaw
two_colours_order = (λ N. whole_paths two_colours (0 ∷ 1 ∷ []) 0 N two_colours_is refl refl two_colours_trimmed (Contains-here 0 (1 ∷ [])), not_fast)
