-- Edges are chosen one after another. Each lies in many of the large sets of points that hold no edge yet, so few of them are left.
use Rattle.std.proofs.Common.{◌≡◌, ℕ, suc, ◌+◌, ◌*◌, ◌^◌, ◌≤◌, ◌<◌, Bool, true, false, cond, eqb, leb, ◌&&◌, not, inl, inr, refl, sym, ◌∙◌, ap, subst, arith}
use Rattle.std.proofs.Math.Nat.{mul-le-mul_right, mul_comm, pow-succ', pow-zero}
use Rattle.std.proofs.lemmas.Bool.{and_cases, and_parts, cases_order, eqb-true, false≢true, leb-false, not-false}
use Rattle.std.proofs.lemmas.Bool.Decides.{leb_tells}
use Rattle.re_layers.proofs.Claims.{any_found}
use Rattle.re_local.proofs.Balls.{Near, ball, ball_holds, ball_small, edges_at, near_turned, stands, stay}
use Rattle.re_local.proofs.Choosing.{Chosen, choose, holding_all, holds, spread_below, spread_far, spread_free}
use Rattle.re_local.proofs.Counting.{count, count-split, count_below}
use Rattle.re_local.proofs.Extended.{IsHyper-extended, extended, extended_sparse}
use Rattle.re_local.proofs.Sets.{set}
use Rattle.re_local.specs.Hypergraphs.{Hyper, IsHyper, IsSparse, Walk, one, step}

-- D edges or more meet in the point
abbrev pub full : ℕ → ℕ → Hyper ℕ → ℕ → Bool
full r D hyper x = leb D (edges_at r hyper x)

-- what is left of the sets when an edge takes the (c + 1)-th part
less_left : (sets c before after within t : ℕ) → before ≡ after + within → before ≤ c * within → before * suc c ^ t ≤ sets * c ^ t
    → after * suc c ^ suc t ≤ sets * c ^ suc t
less_left sets c before after within t split many left =
    let product : before * c ≡ after * c + within * c = ap (λ z. z * c) split ∙ omega arith in
    let turned : c * within ≡ within * c = mul_comm c within in
    let part : after * suc c ≤ before * c = omega (arith, split, many, product, turned) in
    rw (pow-succ' (suc c) t, pow-succ' c t) (of_powers (suc c ^ t) (c ^ t) (mul-le-mul_right (suc c ^ t) part) (mul-le-mul_right c left))
  where
    of_powers : (x y : ℕ) → after * suc c * x ≤ before * c * x → before * x * c ≤ sets * y * c → after * (suc c * x) ≤ sets * (c * y)
    of_powers x y low high = omega (arith, low, high)

-- n points; large sets have q of them; a new edge takes the (c + 1)-th part of the sets at hand, and at most D edges meet in a point
module _ (r g n q c D : ℕ) where
  -- at most t edges, and the sets that hold none
  pub record Stage (t : ℕ) : Type 0 where
    pub hyper : Hyper ℕ
    pub up_to : hyper.edges ≤ t
    pub is_hyper : IsHyper r n hyper
    pub sparse : IsSparse r g hyper
    pub few : (x : ℕ) → edges_at r hyper x ≤ D
    pub alive : ℕ → Bool
    pub large : (i : ℕ) → alive i ≡ true → q ≤ count (set i) n
    pub hit : (i : ℕ) → q ≤ count (set i) n → alive i ≡ false → (e : ℕ) × (e < hyper.edges) × (holds r (hyper.at e) (set i) ≡ true)
    pub left : count alive (2 ^ n) * suc c ^ t ≤ 2 ^ n * c ^ t

  -- all large sets
  abbrev is_large : ℕ → Bool
  is_large i = leb q (count (set i) n)

  pub begin : Stage 0
  begin = record {
    hyper = record { edges = 0; at = λ e p. 0 };
    up_to = omega arith;
    is_hyper = record { below = λ e p el pl. absurd (omega arith); apart = λ e p q el pl ql same. absurd (omega arith) };
    sparse = λ k e f x walk. absurd (none walk);
    few = λ x. omega arith;
    alive = is_large;
    large = λ i e. elim (leb_tells q (count (set i) n)) [ inl t ↦ t.1 | inr t ↦ absurd (false≢true (sym t.0 ∙ e)) ];
    hit = λ i l e. elim (leb_tells q (count (set i) n)) [
      | inl t ↦ absurd (false≢true (sym e ∙ t.0))
      | inr t ↦ absurd (let low = t.1 in omega (arith, l, low))
    ];
    left = rw (pow-zero (suc c), pow-zero c) (let less = count_below is_large (2 ^ n) in omega (arith, less));
  }
    where
      none : {k e f x y : ℕ} → Walk r (record { edges = 0; at = λ e p. 0 }) k e f x y → ⊥
      none (one on off apart) = let l = on.0 in omega (arith, l)
      none (step on off apart other walk) = let l = on.0 in omega (arith, l)

  -- where no set is left nothing has to be done
  pub over : (t : ℕ) (now : Stage t) → count now.alive (2 ^ n) ≡ 0 → Stage (suc t)
  over t now none = record {
    hyper = now.hyper;
    up_to = (let l = now.up_to in omega (arith, l));
    is_hyper = now.is_hyper;
    sparse = now.sparse;
    few = now.few;
    alive = now.alive;
    large = now.large;
    hit = now.hit;
    left = rw none (omega arith);
  }

  -- one edge more: there is room for it where few points are full
  pub more : (p K : ℕ) → 1 ≤ p → 1 ≤ n → n ≤ K * p → c ≡ K ^ r → (t : ℕ) (now : Stage t) → 1 ≤ count now.alive (2 ^ n)
      → count (full r D now.hyper) n + r * suc (D * r) ^ g + p ≤ q → Stage (suc t)
  more p K some some_points small is_share t now alive room =
      with_edge (choose n (2 ^ n) set (ball r now.hyper g) (suc (D * r) ^ g) p q K (ball_small r n D now.hyper now.few g) some some_points small r
      now.alive (full r D now.hyper) now.large alive room)
    where
      with_edge : Chosen n (2 ^ n) set (ball r now.hyper g) K r now.alive (full r D now.hyper) → Stage (suc t)
      with_edge chosen = record {
        hyper = extended points now.hyper;
        up_to = (let l = now.up_to in omega (arith, l));
        is_hyper = IsHyper-extended r n points now.hyper now.is_hyper
            (spread_below n (ball r now.hyper g) r (full r D now.hyper) points chosen.spread)
            (λ p q pl ql same. same_place p q pl ql (subst (Near r now.hyper g (points p)) same stay));
        sparse = extended_sparse r g points now.hyper now.sparse (λ p q pl ql near. ap points (same_place p q pl ql near));
        few = λ x. few_still x (stands r points x) refl;
        alive = λ i. now.alive i && not (holds r points (set i));
        large = λ i e. now.large i (and_parts (now.alive i) (not (holds r points (set i))) e).0;
        hit = λ i l e. elim (and_cases (now.alive i) (not (holds r points (set i))) e) [
          | inl dead ↦ (let (f, fl, inside) = now.hit i l dead in (suc f, omega (arith, fl), inside))
          | inr inside ↦ (0, omega arith, not-false (holds r points (set i)) inside)
        ];
        left = less_left (2 ^ n) c (count now.alive (2 ^ n)) (count (λ i. now.alive i && not (holds r points (set i))) (2 ^ n))
            (count (holding_all n (2 ^ n) set now.alive r points) (2 ^ n)) t
            (count-split now.alive (λ i. holds r points (set i)) (2 ^ n)) many now.left;
      }
        where
          points : ℕ → ℕ
          points = chosen.points

          far : (p q : ℕ) → p < q → q < r → Near r now.hyper g (points p) (points q) → ⊥
          far p q l ql near =
              false≢true (sym (spread_far n (ball r now.hyper g) r (full r D now.hyper) points chosen.spread p q l ql) ∙ ball_holds near)

          same_place : (p q : ℕ) → p < r → q < r → Near r now.hyper g (points p) (points q) → p ≡ q
          same_place p q pl ql near = elim (cases_order p q) [
            | inl same ↦ same
            | inr unequal ↦ elim unequal [ inl l ↦ absurd (far p q l ql near) | inr l ↦ absurd (far q p l pl (near_turned near)) ]
          ]

          many : count now.alive (2 ^ n) ≤ c * count (holding_all n (2 ^ n) set now.alive r points) (2 ^ n)
          many = subst (λ z. count now.alive (2 ^ n) ≤ z * count (holding_all n (2 ^ n) set now.alive r points) (2 ^ n)) (sym is_share) chosen.many

          below : (x : ℕ) → full r D now.hyper x ≡ false → 1 + edges_at r now.hyper x ≤ D
          below x e = let l = leb-false D (edges_at r now.hyper x) e in omega (arith, l)

          few_still : (x : ℕ) (b : Bool) → stands r points x ≡ b → cond b 1 0 + edges_at r now.hyper x ≤ D
          few_still x false e = let l = now.few x in omega (arith, l)
          few_still x true e =
              let (p, pl, is) = any_found (λ p. eqb (points p) x) r e in
              let free = spread_free n (ball r now.hyper g) r (full r D now.hyper) points chosen.spread p pl in
              below x (subst (λ y. full r D now.hyper y ≡ false) (eqb-true (points p) x is) free)
