-- Paths from one block through 2 j + 1 other nodes to a second block, which stands the other way round: from the middle edge of the one to that of the
-- other the labels are a round, where a local algorithm says the same in the middle of both.
use Rattle.std.proofs.Common.{◌≡◌, ℕ, suc, ◌+◌, ◌-◌, ◌*◌, ◌≤◌, ◌<◌, Bool, true, false, List, [], ◌∷◌, refl, sym, ap, ap₂, ◌∙◌, subst, arith, inl, inr, ◌⊎◌}
use Rattle.std.specs.Prelude.{if◌then◌else◌, nat_le}
use Rattle.std.proofs.lemmas.Bool.Decides.{leb_tells}
use Rattle.re_forests.proofs.Blocks.{Stands, after_same, backward, forward, value, value_back, value_on}
use Rattle.re_forests.proofs.LabelsOnPaths.{edge_label, marks_below, marks_linked}
use Rattle.re_forests.proofs.Leads.{after}
use Rattle.re_forests.proofs.PathForests.{path_forest}
use Rattle.re_forests.proofs.PathNetworks.{path_network}
use Rattle.re_forests.proofs.Rounds.{IsRound}
use Rattle.re_forests.specs.Flexible.{side}
use Rattle.re_forests.specs.OnForests.{SolvesOn}
use Rattle.re_layers.specs.Networks.{IsForest, Network}
use Rattle.re_problem.specs.Problems.{IsProblem, Problem}
use Rattle.re_labels.specs.Constraints.{Has}

-- the identifiers of a block in order, or in the reverse order
abbrev line : Bool → ℕ → ℕ → ℕ → ℕ
line true width base p = base + (width - suc p)
line false width base p = base + p

line_range : (reverse : Bool) (width base p : ℕ) → p < width → (base ≤ line reverse width base p) × (line reverse width base p < base + width)
line_range true width base p low = (omega arith, omega arith)
line_range false width base p low = (omega arith, omega arith)

line_same : (reverse : Bool) (width base p q : ℕ) → p < width → q < width → line reverse width base p ≡ line reverse width base q → p ≡ q
line_same true width base p q low less e = omega arith
line_same false width base p q low less e = omega arith

-- the path that begins with a node of this kind
abbrev pub identifier : ℕ → ℕ → ℕ → ℕ → ℕ → Bool → ℕ → ℕ
identifier h one other fresh j kind p =
    if nat_le (suc p) (4 * h) then line kind (4 * h) one p
    else if nat_le (suc p) (4 * h + suc (2 * j)) then fresh + (p - 4 * h) else line kind (4 * h) other (4 * h + 4 * h + suc (2 * j) - suc p)

abbrev pub nodes : ℕ → ℕ → ℕ
nodes h j = 4 * h + 4 * h + suc (2 * j)

abbrev pub both_blocks : ℕ → ℕ → ℕ → ℕ → ℕ → Bool → Network
both_blocks h one other fresh j kind = path_network (identifier h one other fresh j kind) (nodes h j) kind

-- the labels on the edges from the middle of the first block on
abbrev pub labels_between : ℕ → (Network → ℕ → List ℕ) → ℕ → ℕ → ℕ → ℕ → Bool → ℕ → ℕ
labels_between T algorithm one other fresh j kind i =
    edge_label (both_blocks (suc T) one other fresh j kind) (algorithm (both_blocks (suc T) one other fresh j kind))
    (identifier (suc T) one other fresh j kind (suc (2 * T) + i)) (identifier (suc T) one other fresh j kind (suc (suc (2 * T) + i)))

module _ (h one other fresh j : ℕ) (some : 0 < h) (before : one + 4 * h ≤ fresh) (behind : other + 4 * h ≤ fresh) (apart : (one + 4 * h ≤ other) ⊎ (other + 4 * h ≤ one)) where
  at_first : (kind : Bool) (p : ℕ) → p < 4 * h → identifier h one other fresh j kind p ≡ line kind (4 * h) one p
  at_first kind p low = elim (leb_tells (suc p) (4 * h)) [ inl t ↦ rw t.0 refl | inr t ↦ absurd (omega (arith, t.1)) ]

  at_fresh : (kind : Bool) (p : ℕ) → 4 * h ≤ p → p < 4 * h + suc (2 * j) → identifier h one other fresh j kind p ≡ fresh + (p - 4 * h)
  at_fresh kind p high low = elim (leb_tells (suc p) (4 * h)) [
    | inl t ↦ absurd (omega (arith, t.1))
    | inr t ↦ elim (leb_tells (suc p) (4 * h + suc (2 * j))) [ inl u ↦ rw (t.0, u.0) refl | inr u ↦ absurd (omega (arith, u.1)) ]
  ]

  at_last : (kind : Bool) (p : ℕ) → 4 * h + suc (2 * j) ≤ p → identifier h one other fresh j kind p ≡ line kind (4 * h) other (4 * h + 4 * h + suc (2 * j) - suc p)
  at_last kind p high = elim (leb_tells (suc p) (4 * h)) [
    | inl t ↦ absurd (omega (arith, t.1))
    | inr t ↦ elim (leb_tells (suc p) (4 * h + suc (2 * j))) [ inl u ↦ absurd (omega (arith, u.1)) | inr u ↦ rw (t.0, u.0) refl ]
  ]

  -- ---- different identifiers
  abbrev Region : Bool → ℕ → Type 0
  Region kind p = ((p < 4 * h) × (identifier h one other fresh j kind p ≡ line kind (4 * h) one p))
      ⊎ (((4 * h ≤ p) × (p < 4 * h + suc (2 * j)) × (identifier h one other fresh j kind p ≡ fresh + (p - 4 * h)))
      ⊎ ((4 * h + suc (2 * j) ≤ p) × (identifier h one other fresh j kind p ≡ line kind (4 * h) other (4 * h + 4 * h + suc (2 * j) - suc p))))

  region : (kind : Bool) (p : ℕ) → Region kind p
  region kind p = elim (leb_tells (suc p) (4 * h)) [
    | inl t ↦ inl (t.1, at_first kind p t.1)
    | inr t ↦ elim (leb_tells (suc p) (4 * h + suc (2 * j))) [
      | inl u ↦ (let high : 4 * h ≤ p = omega (arith, t.1) in inr (inl (high, u.1, at_fresh kind p high u.1)))
      | inr u ↦ (let high : 4 * h + suc (2 * j) ≤ p = omega (arith, u.1) in inr (inr (high, at_last kind p high)))
    ]
  ]

  distinct : (kind : Bool) (p q : ℕ) → p < nodes h j → q < nodes h j → identifier h one other fresh j kind p ≡ identifier h one other fresh j kind q → p ≡ q
  distinct kind p q low less same = by (region kind p) (region kind q)
    where
      by : Region kind p → Region kind q → p ≡ q
      by (inl (l, e)) (inl (m, f)) = line_same kind (4 * h) one p q l m (sym e ∙ (same ∙ f))
      by (inl (l, e)) (inr (inl (m, n, f))) = let r = line_range kind (4 * h) one p l in absurd (omega (arith, r.0, r.1, e, f, same, before))
      by (inl (l, e)) (inr (inr (m, f))) =
          let r = line_range kind (4 * h) one p l in
          let s = line_range kind (4 * h) other (4 * h + 4 * h + suc (2 * j) - suc q) (omega (arith, m, less)) in
          absurd (elim apart [ inl a ↦ omega (arith, r.0, r.1, s.0, s.1, e, f, same, a) | inr a ↦ omega (arith, r.0, r.1, s.0, s.1, e, f, same, a) ])
      by (inr (inl (l, n, e))) (inl (m, f)) = let r = line_range kind (4 * h) one q m in absurd (omega (arith, r.0, r.1, e, f, same, before))
      by (inr (inl (l, n, e))) (inr (inl (m, o, f))) = omega (arith, l, m, e, f, same)
      by (inr (inl (l, n, e))) (inr (inr (m, f))) =
          let s = line_range kind (4 * h) other (4 * h + 4 * h + suc (2 * j) - suc q) (omega (arith, m, less)) in
          absurd (omega (arith, s.0, s.1, e, f, same, behind))
      by (inr (inr (l, e))) (inl (m, f)) =
          let r = line_range kind (4 * h) one q m in
          let s = line_range kind (4 * h) other (4 * h + 4 * h + suc (2 * j) - suc p) (omega (arith, l, low)) in
          absurd (elim apart [ inl a ↦ omega (arith, r.0, r.1, s.0, s.1, e, f, same, a) | inr a ↦ omega (arith, r.0, r.1, s.0, s.1, e, f, same, a) ])
      by (inr (inr (l, e))) (inr (inl (m, o, f))) =
          let s = line_range kind (4 * h) other (4 * h + 4 * h + suc (2 * j) - suc p) (omega (arith, l, low)) in
          absurd (omega (arith, s.0, s.1, e, f, same, behind))
      by (inr (inr (l, e))) (inr (inr (m, f))) =
          let s = line_same kind (4 * h) other (4 * h + 4 * h + suc (2 * j) - suc p) (4 * h + 4 * h + suc (2 * j) - suc q) (omega (arith, l, low)) (omega (arith, m, less)) (sym e ∙ (same ∙ f)) in
          omega (arith, s, l, m, low, less)

  below_all : (N : ℕ) → fresh + suc (2 * j) ≤ N → (kind : Bool) (p : ℕ) → p < nodes h j → identifier h one other fresh j kind p < N
  below_all N enough kind p low = elim (region kind p) [
    | inl r ↦ (let s = line_range kind (4 * h) one p r.0 in omega (arith, s.1, r.1, before, enough))
    | inr t ↦ elim t [
      | inl r ↦ omega (arith, r.0, r.1, r.2, enough)
      | inr r ↦ (let s = line_range kind (4 * h) other (4 * h + 4 * h + suc (2 * j) - suc p) (omega (arith, r.0, low)) in omega (arith, s.1, r.1, behind, enough))
    ]
  ]

  two_nodes : 2 ≤ nodes h j
  two_nodes = omega arith

  pub both_forest : (N : ℕ) → fresh + suc (2 * j) ≤ N → (kind : Bool) → IsForest 2 2 N (both_blocks h one other fresh j kind)
  both_forest N enough kind = path_forest (identifier h one other fresh j kind) (nodes h j) kind two_nodes (distinct kind) N (below_all N enough kind)

  -- ---- both blocks stand on the path
  pub one_stands : (kind : Bool) → Stands h one (both_blocks h one other fresh j kind)
  one_stands true =
      backward (identifier h one other fresh j true) (nodes h j) true two_nodes (distinct true) h one 0 (omega arith)
      (λ q low. at_first true (0 + q) (omega (arith, low)) ∙ ap (λ z. one + z) (let e : 4 * h - suc (0 + q) ≡ 4 * h - suc q = omega arith in e))
      (λ q low. after_same false (suc (0 + q)) (4 * h - suc q) (2 * h) (omega (arith, low)))
  one_stands false =
      forward (identifier h one other fresh j false) (nodes h j) false two_nodes (distinct false) h one 0 (omega arith)
      (λ q low. at_first false (0 + q) (omega (arith, low)) ∙ ap (λ z. one + z) (let e : 0 + q ≡ q = omega arith in e))
      (λ q low. ap (after false) (let e : 0 + q ≡ q = omega arith in e))

  pub other_stands : (kind : Bool) → Stands h other (both_blocks h one other fresh j kind)
  other_stands true =
      forward (identifier h one other fresh j true) (nodes h j) true two_nodes (distinct true) h other (4 * h + suc (2 * j)) (omega arith)
      (λ q low. at_last true (4 * h + suc (2 * j) + q) (omega arith) ∙ ap (λ z. other + z) (let e : 4 * h - suc (4 * h + 4 * h + suc (2 * j) - suc (4 * h + suc (2 * j) + q)) ≡ q = omega (arith, low) in e))
      (λ q low. after_same false (suc (4 * h + suc (2 * j) + q)) q (2 * h + j + suc q) (omega arith))
  other_stands false =
      backward (identifier h one other fresh j false) (nodes h j) false two_nodes (distinct false) h other (4 * h + suc (2 * j)) (omega arith)
      (λ q low. at_last false (4 * h + suc (2 * j) + q) (omega arith) ∙ ap (λ z. other + z) (let e : 4 * h + 4 * h + suc (2 * j) - suc (4 * h + suc (2 * j) + q) ≡ 4 * h - suc q = omega (arith, low) in e))
      (λ q low. after_same false (4 * h + suc (2 * j) + q) (4 * h - suc q) (4 * h + j) (omega (arith, low)))

-- ---- from middle to middle
module _ (problem : Problem) (is_problem : IsProblem problem) (degree_active : problem.active.degree ≡ 2) (degree_passive : problem.passive.degree ≡ 2)
    (T : ℕ) (algorithm : Network → ℕ → List ℕ) (one other fresh j : ℕ) (before : one + 4 * suc T ≤ fresh) (behind : other + 4 * suc T ≤ fresh)
    (apart : (one + 4 * suc T ≤ other) ⊎ (other + 4 * suc T ≤ one)) (kind : Bool) where
  some : 0 < suc T
  some = omega arith

  abbrev G : Network
  G = both_blocks (suc T) one other fresh j kind

  abbrev name : ℕ → ℕ
  name p = identifier (suc T) one other fresh j kind p

  abbrev between : ℕ → ℕ
  between i = labels_between T algorithm one other fresh j kind i

  abbrev count : ℕ
  count = nodes (suc T) j

  first_edge : between 0 ≡ value T algorithm one G
  first_edge = by kind (one_stands (suc T) one other fresh j some before behind apart kind) (at_first (suc T) one other fresh j some before behind apart kind (suc (2 * T) + 0) (omega arith))
      (at_first (suc T) one other fresh j some before behind apart kind (suc (suc (2 * T) + 0)) (omega arith))
    where
      by : (kind : Bool) → Stands (suc T) one G → name (suc (2 * T) + 0) ≡ line kind (4 * suc T) one (suc (2 * T) + 0) → name (suc (suc (2 * T) + 0)) ≡ line kind (4 * suc T) one (suc (suc (2 * T) + 0))
          → between 0 ≡ value T algorithm one G
      by true stands a b =
          ap₂ (λ v w. edge_label G (algorithm G) v w) (a ∙ ap (λ z. one + z) (let e : 4 * suc T - suc (suc (2 * T) + 0) ≡ suc (suc (2 * T)) = omega arith in e))
          (b ∙ ap (λ z. one + z) (let e : 4 * suc T - suc (suc (suc (2 * T) + 0)) ≡ suc (2 * T) = omega arith in e)) ∙ value_back T algorithm one G stands
      by false stands a b =
          ap₂ (λ v w. edge_label G (algorithm G) v w) (a ∙ ap (λ z. one + z) (let e : suc (2 * T) + 0 ≡ suc (2 * T) = omega arith in e))
          (b ∙ ap (λ z. one + z) (let e : suc (suc (2 * T) + 0) ≡ suc (suc (2 * T)) = omega arith in e)) ∙ value_on T algorithm one G stands

  abbrev len : ℕ
  len = suc (2 * (2 * suc T + j))

  last_edge : between len ≡ value T algorithm other G
  last_edge = by kind (other_stands (suc T) one other fresh j some before behind apart kind) (at_last (suc T) one other fresh j some before behind apart kind (suc (2 * T) + len) (omega arith))
      (at_last (suc T) one other fresh j some before behind apart kind (suc (suc (2 * T) + len)) (omega arith))
    where
      from : ℕ
      from = 4 * suc T + 4 * suc T + suc (2 * j) - suc (suc (2 * T) + len)

      to : ℕ
      to = 4 * suc T + 4 * suc T + suc (2 * j) - suc (suc (suc (2 * T) + len))

      here : from ≡ suc (suc (2 * T))
      here = omega arith

      there : to ≡ suc (2 * T)
      there = omega arith

      by : (kind : Bool) → Stands (suc T) other G → name (suc (2 * T) + len) ≡ line kind (4 * suc T) other from → name (suc (suc (2 * T) + len)) ≡ line kind (4 * suc T) other to
          → between len ≡ value T algorithm other G
      by true stands a b =
          ap₂ (λ v w. edge_label G (algorithm G) v w) (a ∙ ap (λ z. other + z) (let e : 4 * suc T - suc from ≡ suc (2 * T) = omega (arith, here) in e))
          (b ∙ ap (λ z. other + z) (let e : 4 * suc T - suc to ≡ suc (suc (2 * T)) = omega (arith, there) in e)) ∙ value_on T algorithm other G stands
      by false stands a b =
          ap₂ (λ v w. edge_label G (algorithm G) v w) (a ∙ ap (λ z. other + z) here) (b ∙ ap (λ z. other + z) there) ∙ value_back T algorithm other G stands

  module _ (solves : SolvesOn problem G (algorithm G)) where
    linked : (p : ℕ) → suc (suc p) < count → Has (side problem (after kind (suc p))) (edge_label G (algorithm G) (name p) (name (suc p)) ∷ edge_label G (algorithm G) (name (suc p)) (name (suc (suc p))) ∷ [])
    linked p low =
        marks_linked problem is_problem degree_active degree_passive name count kind (two_nodes (suc T) one other fresh j some before behind apart)
        (distinct (suc T) one other fresh j some before behind apart kind) (algorithm G) solves p low

    pub round_between : (x : ℕ) → value T algorithm one G ≡ x → value T algorithm other G ≡ x → IsRound problem kind (suc (2 * (2 * suc T + j))) x (labels_between T algorithm one other fresh j kind)
    round_between x own same = record {
      first = first_edge ∙ own;
      last = last_edge ∙ same;
      linked = λ i low.
          (subst (λ k. Has (side problem k) (between i ∷ between (suc i) ∷ [])) (after_same kind (suc (suc (2 * T) + i)) i (suc T + i) (omega arith))
          (subst (λ r. Has (side problem (after kind (suc (suc (2 * T) + i)))) (between i ∷ edge_label G (algorithm G) (name r) (name (suc r)) ∷ []))
          (let e : suc (suc (2 * T) + i) ≡ suc (2 * T) + suc i = omega arith in e) (linked (suc (2 * T) + i) (omega (arith, low)))));
    }

    pub value_below : value T algorithm one G < problem.labels
    value_below =
        subst (λ z. z < problem.labels) first_edge
        (marks_below problem is_problem degree_active degree_passive name count kind (two_nodes (suc T) one other fresh j some before behind apart)
        (distinct (suc T) one other fresh j some before behind apart kind) (algorithm G) solves (suc (2 * T) + 0) (omega arith))
