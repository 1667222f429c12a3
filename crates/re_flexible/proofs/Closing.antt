-- A relation that is closed label by label (Warshall).
use Rattle.std.proofs.Common.{◌≡◌, ◌+◌, ℕ, zero, suc, ◌<◌, List, length, refl, sym, subst, arith, inl, inr, ◌⊎◌}
use Rattle.std.specs.Prelude.{◌↔◌}
use Rattle.re_labels.proofs.Tests.{below-cases}
use Rattle.re_flexible.proofs.Building.{related_low}
use Rattle.re_flexible.specs.Relations.{Reaches, Relates, Steps}

module _ (table : List (List ℕ)) where
  -- steps behind steps
  pub steps_then : (m k x y z : ℕ) → Steps table m x y → Steps table k y z → Steps table (m + k) x z
  steps_then zero k x y z first second = subst (λ j. Steps table j x z) (let e : k ≡ 0 + k = omega arith in e) (subst (λ w. Steps table k w z) (sym first) second)
  steps_then (suc m) k x y z first second =
      subst (λ j. Steps table j x z) (let e : suc (m + k) ≡ suc m + k = omega arith in e) (first.0, first.1, steps_then m k first.0 y z first.2 second)

  -- one step more
  pub steps_last : (m x y z : ℕ) → Steps table m x y → Relates table y z → Steps table (suc m) x z
  steps_last zero x y z first last = (z, subst (λ w. Relates table w z) (sym first) last, refl)
  steps_last (suc m) x y z first last = (first.0, first.1, steps_last m first.0 y z first.2 last)

  pub reaches_then : (x y z : ℕ) → Reaches table x y → Reaches table y z → Reaches table x z
  reaches_then x y z first second = (first.0 + second.0, steps_then first.0 second.0 x y z first.1 second.1)

  -- it leads to each label itself, where a step leads, and through the labels below n
  pub record IsClosing (all : List (List ℕ)) (n : ℕ) : Type 0 where
    pub own : (x : ℕ) → x < length table → Relates all x x
    pub steps : (x y : ℕ) → Relates table x y → Relates all x y
    pub sound : (x y : ℕ) → Relates all x y → Reaches table x y
    pub through : (x y z : ℕ) → y < n → Relates all x y → Relates all y z → Relates all x z

  pub closing_none : (all : List (List ℕ)) (N : ℕ) → length table ≡ N → ((x y : ℕ) → Relates all x y ↔ ((x < N) × ((x ≡ y) ⊎ Relates table x y))) → IsClosing all 0
  closing_none all N count own = record {
    own = λ x low. (own x x).1 (omega (arith, low, count), inl refl);
    steps = λ x y held. (own x y).1 ((let low : x < length table = related_low table x y held in omega (arith, low, count)), inr held);
    sound = λ x y held. elim ((own x y).0 held).1 [ inl e ↦ (0, e) | inr step ↦ (1, (y, step, refl)) ];
    through = λ x y z low first second. absurd (omega (arith, low));
  }

  pub closing_more : (all new : List (List ℕ)) (n : ℕ) → IsClosing all n → ((x y : ℕ) → Relates new x y ↔ (Relates all x y ⊎ (Relates all x n × Relates all n y))) → IsClosing new (n + 1)
  closing_more all new n so_far led = record {
    own = λ x low. (led x x).1 (inl (so_far.own x low));
    steps = λ x y held. (led x y).1 (inl (so_far.steps x y held));
    sound = λ x y held. elim ((led x y).0 held) [
      | inl old ↦ so_far.sound x y old
      | inr by ↦ reaches_then x n y (so_far.sound x n by.0) (so_far.sound n y by.1)
    ];
    through = λ x y z low first second. (led x z).1 (elim (below-cases y n low) [
      | inl less ↦ elim ((led x y).0 first) [
        | inl one ↦ elim ((led y z).0 second) [
          | inl two ↦ inl (so_far.through x y z less one two)
          | inr two ↦ inr (so_far.through x y n less one two.0, two.1)
        ]
        | inr one ↦ elim ((led y z).0 second) [
          | inl two ↦ inr (one.0, so_far.through n y z less one.1 two)
          | inr two ↦ inr (one.0, two.1)
        ]
      ]
      | inr at ↦ inr (
        subst (λ i. Relates all x i) at (elim ((led x y).0 first) [ inl one ↦ one | inr one ↦ subst (λ i. Relates all x i) (sym at) one.0 ]),
        subst (λ i. Relates all i z) at (elim ((led y z).0 second) [ inl two ↦ two | inr two ↦ subst (λ i. Relates all i z) (sym at) two.1 ]),
      )
    ]);
  }

  closed_steps : (all : List (List ℕ)) (n : ℕ) → n ≡ length table → IsClosing all n → (m x y : ℕ) → x < length table → Steps table m x y → Relates all x y
  closed_steps all n e closing zero x y low steps = subst (λ w. Relates all x w) steps (closing.own x low)
  closed_steps all n e closing (suc zero) x y low steps = subst (λ w. Relates all x w) steps.2 (closing.steps x steps.0 steps.1)
  closed_steps all n e closing (suc (suc m)) x y low steps =
      let (z, first, more) = steps in
      let inner : z < length table = related_low table z more.0 more.1 in
      closing.through x z y (omega (arith, inner, e)) (closing.steps x z first) (closed_steps all n e closing (suc m) z y inner more)

  pub closed_all : (all : List (List ℕ)) (n : ℕ) → n ≡ length table → IsClosing all n → (x y : ℕ) → x < n → Relates all x y ↔ Reaches table x y
  closed_all all n e closing x y low = (closing.sound x y, λ reaches. closed_steps all n e closing reaches.0 x y (omega (arith, low, e)) reaches.1)
