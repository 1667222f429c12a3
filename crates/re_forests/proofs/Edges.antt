-- Ports of nodes, and edges as numbers: that at port j of the node with identifier x is x * a + j.
use Rattle.std.proofs.Common.{◌≡◌, ℕ, zero, suc, ◌+◌, ◌*◌, ◌≤◌, ◌<◌, refl, sym, ◌∙◌, ap, arith, ◌⊎◌, inl, inr}
use Rattle.std.proofs.Math.Nat.{mul-le-mul_right}
use Rattle.re_forests.proofs.Counting.{is_at, is_at-cases, is_at-most, is_at-other, is_at-same}
use Rattle.re_laws.specs.Trees.{Tree, end, leaf, more}

-- the ports of a node, in order, but b
abbrev pub skip : ℕ → ℕ → ℕ
skip zero k = suc k
skip (suc b) zero = zero
skip (suc b) (suc k) = suc (skip b k)

pub skip-other : (b k : ℕ) → b ≡ skip b k → ⊥
skip-other zero k e = absurd (cc)
skip-other (suc b) zero e = absurd (cc)
skip-other (suc b) (suc k) e = skip-other b k (cc)

pub skip-one : (b i j : ℕ) → skip b i ≡ skip b j → i ≡ j
skip-one zero i j e = cc
skip-one (suc b) zero zero e = refl
skip-one (suc b) zero (suc j) e = absurd (cc)
skip-one (suc b) (suc i) zero e = absurd (cc)
skip-one (suc b) (suc i) (suc j) e = ap suc (skip-one b i j (cc))

pub skip-most : (b k : ℕ) → skip b k ≤ suc k
skip-most zero k = omega arith
skip-most (suc b) zero = omega arith
skip-most (suc b) (suc k) = let less = skip-most b k in omega arith

-- how often q is among the ports of the children
abbrev pub stands : ℕ → (ℕ → ℕ) → Tree ℕ → ℕ
stands q port leaf = 0
stands q port end = 0
stands q port (more back label branch rest) = is_at q (port zero) + stands q (λ k. port (suc k)) rest

pub stands-nowhere : (q : ℕ) (port : ℕ → ℕ) (t : Tree ℕ) → ((k : ℕ) → q ≡ port k → ⊥) → stands q port t ≡ 0
stands-nowhere q port leaf other = refl
stands-nowhere q port end other = refl
stands-nowhere q port (more back label branch rest) other =
    let here = is_at-other q (port zero) (other zero) in
    let there = stands-nowhere q (λ k. port (suc k)) rest (λ k. other (suc k)) in
    omega arith

pub stands-most : (q : ℕ) (port : ℕ → ℕ) (t : Tree ℕ) → ((i j : ℕ) → port i ≡ port j → i ≡ j) → stands q port t ≤ 1
stands-most q port leaf one = omega arith
stands-most q port end one = omega arith
stands-most q port (more back label branch rest) one =
    let later : stands q (λ k. port (suc k)) rest ≤ 1 = stands-most q (λ k. port (suc k)) rest (λ i j e. let f = one (suc i) (suc j) e in cc) in
    elim (is_at-cases q (port zero)) [
      | inl (e, is) ↦
          let none : stands q (λ k. port (suc k)) rest ≡ 0 = stands-nowhere q (λ k. port (suc k)) rest (λ k e'. let f = one zero (suc k) (sym e ∙ e') in absurd (cc)) in
          omega arith
      | inr (e, is) ↦ omega arith
    ]

-- the port of the parent stands once with those of the children
pub stands-skip : (q b : ℕ) (t : Tree ℕ) → is_at q b + stands q (skip b) t ≤ 1
stands-skip q b t = elim (is_at-cases q b) [
  | inl (e, is) ↦ (let none : stands q (skip b) t ≡ 0 = stands-nowhere q (skip b) t (λ k e'. skip-other b k (sym e ∙ e')) in omega arith)
  | inr (e, is) ↦ (let most : stands q (skip b) t ≤ 1 = stands-most q (skip b) t (skip-one b) in omega arith)
]

apart_edges : (a x y j q : ℕ) → j < a → y < x → y * a + q ≡ x * a + j → q < a → ⊥
apart_edges a x y j q l below e l' =
    let over : suc y * a ≤ x * a = mul-le-mul_right a below in
    let one : suc y * a ≡ y * a + a = omega arith in
    omega (arith, over, one)

pub is_at-edge : (a x y j q : ℕ) → j < a → q < a → is_at (y * a + q) (x * a + j) ≤ is_at y x * is_at q j
is_at-edge a x y j q l l' = elim (is_at-cases (y * a + q) (x * a + j)) [ inr (e, none) ↦ omega arith | inl (e, is) ↦ same e (is_at-cases y x) (is_at-cases q j) ]
  where
    order : (m n : ℕ) → (m ≡ n → ⊥) → (m < n) ⊎ (n < m)
    order zero zero h = absurd (h refl)
    order zero (suc n) h = inl (omega arith)
    order (suc m) zero h = inr (omega arith)
    order (suc m) (suc n) h = elim (order m n (λ e. h (ap suc e))) [ inl less ↦ inl (omega arith) | inr above ↦ inr (omega arith) ]

    same : y * a + q ≡ x * a + j → ((y ≡ x) × (is_at y x ≡ 1)) ⊎ ((y ≡ x → ⊥) × (is_at y x ≡ 0)) → ((q ≡ j) × (is_at q j ≡ 1)) ⊎ ((q ≡ j → ⊥) × (is_at q j ≡ 0))
        → is_at (y * a + q) (x * a + j) ≤ is_at y x * is_at q j
    same e (inl (f, one)) (inl (g, one')) = let most = is_at-most (y * a + q) (x * a + j) in rw (one, one') (omega arith)
    same e (inl (f, one)) (inr (g, zero')) = absurd (g (let h : y * a ≡ x * a = ap (λ z. z * a) f in omega arith))
    same e (inr (f, zero')) other = elim (order y x f) [ inl less ↦ absurd (apart_edges a x y j q l less e l') | inr less ↦ absurd (apart_edges a y x q j l' less (sym e) l) ]

pub is_at-plus : (N c d : ℕ) → is_at (N + c) (N + d) ≡ is_at c d
is_at-plus N c d = elim (is_at-cases c d) [
  | inl (e, is) ↦ is_at-same (N + c) (N + d) (ap (λ z. N + z) e) ∙ sym is
  | inr (e, is) ↦ is_at-other (N + c) (N + d) (λ f. e (omega arith)) ∙ sym is
]
