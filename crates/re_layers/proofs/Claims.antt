-- What paths a step compresses.
use Rattle.std.proofs.Common.{◌≡◌, ℕ, zero, suc, ◌≤◌, ◌<◌, Bool, true, false, eqb, List, [], ◌∷◌, length, get_or, refl, sym, ap, ◌∙◌, subst, arith, ◌⊎◌, inl, inr}
use Rattle.std.specs.Prelude.{Contains, filter, flat_map, ◌&&◌, ◌||◌}
use Rattle.std.proofs.lemmas.Bool.{false≢true}
use Rattle.re_layers.specs.Networks.{Network, ball}
use Rattle.re_layers.proofs.Peeling.{any_below, claim, claim_on, clear, nonempty, leading, living, owned, trail, walk_from}
use Rattle.re_layers.proofs.Trails.{length-trail}
use Rattle.re_labels.proofs.Membership.{Contains-cases, Contains-filter, Contains-filter_cases, Contains-flat_map, Contains-flat_map_cases, Contains-here, Contains-none}
use Rattle.re_labels.proofs.Tests.{and-true, eqb-same, eqb-true, true-and}

pub any_true : (b : ℕ → Bool) (n x : ℕ) → x < n → b x ≡ true → any_below b n ≡ true
any_true b zero x l passes = absurd (omega arith)
any_true b (suc n) zero l passes = ap (λ t. t || any_below (λ x. b (suc x)) n) passes
any_true b (suc n) (suc x) l passes = after (b 0) (any_true (λ x. b (suc x)) n x (omega arith) passes)
  where
    after : (t : Bool) → any_below (λ x. b (suc x)) n ≡ true → (t || any_below (λ x. b (suc x)) n) ≡ true
    after true e = refl
    after false e = e

pub any_found : (b : ℕ → Bool) (n : ℕ) → any_below b n ≡ true → (x : ℕ) × (x < n) × (b x ≡ true)
any_found b zero e = absurd (false≢true e)
any_found b (suc n) e = go (b 0) refl e (any_found (λ x. b (suc x)) n)
  where
    go : (t : Bool) → b 0 ≡ t → (t || any_below (λ x. b (suc x)) n) ≡ true
        → (any_below (λ x. b (suc x)) n ≡ true → (x : ℕ) × (x < n) × (b (suc x) ≡ true)) → (x : ℕ) × (x < suc n) × (b x ≡ true)
    go true here e further = (0, omega arith, here)
    go false here e further = let (x, l, passes) = further e in (suc x, omega arith, passes)

leading_held : (xs : List (List ℕ)) (own : List ℕ) → Contains xs own → Contains xs (leading xs)
leading_held [] own held = absurd (Contains-none own held)
leading_held (x ∷ xs) own held = Contains-here x xs

leading_cases : (xs : List (List ℕ)) → (leading xs ≡ []) ⊎ Contains xs (leading xs)
leading_cases [] = inl refl
leading_cases (x ∷ xs) = inr (Contains-here x xs)

some_long : (xs : List ℕ) → 1 ≤ length xs → nonempty xs ≡ true
some_long [] l = absurd (omega arith)
some_long (x ∷ xs) l = refl

module _ (G : Network) (alive chosen : ℕ → Bool) (k : ℕ) where
  -- the path of a chosen node: it leads from a neighbour that is alive through k inner nodes
  pub record IsClaim (u : ℕ) (own : List ℕ) : Type 0 where
    pub from : ℕ
    pub held : Contains (living G alive u) from
    pub chosen_is : chosen u ≡ true
    pub is_clear : clear G alive k from u ≡ true
    pub is : own ≡ trail G alive k from u

  abbrev fits : ℕ → ℕ → Bool
  fits u x = chosen u && clear G alive k x u

  pub claim_cases : (u : ℕ) (own : List ℕ) → Contains (claim G alive chosen k u) own → IsClaim u own
  unfolding claim
  claim_cases u own held = at (filter (fits u) (living G alive u)) (λ x there. Contains-filter_cases (fits u) (living G alive u) x there) held
    where
      at : (xs : List ℕ) → ((x : ℕ) → Contains xs x → Contains (living G alive u) x × (fits u x ≡ true)) → Contains (walk_from G alive k u xs) own → IsClaim u own
      at [] from held = absurd (Contains-none own held)
      at (x ∷ xs) from held =
          let (there, passes) = from x (Contains-here x xs) in
          let (one, other) = and-true (chosen u) (clear G alive k x u) passes in
          elim (Contains-cases own (trail G alive k x u) [] held) [
            | inl e ↦ record { from = x; held = there; chosen_is = one; is_clear = other; is = e }
            | inr none ↦ absurd (Contains-none own none)
          ]

  pub claim_one : (u : ℕ) (own other : List ℕ) → Contains (claim G alive chosen k u) own → Contains (claim G alive chosen k u) other → own ≡ other
  unfolding claim
  claim_one u own other held there = at (filter (fits u) (living G alive u)) held there
    where
      at : (xs : List ℕ) → Contains (walk_from G alive k u xs) own → Contains (walk_from G alive k u xs) other → own ≡ other
      at [] held there = absurd (Contains-none own held)
      at (x ∷ xs) held there = elim (Contains-cases own (trail G alive k x u) [] held) [
        | inl e ↦ elim (Contains-cases other (trail G alive k x u) [] there) [
          | inl e' ↦ e ∙ sym e'
          | inr none ↦ absurd (Contains-none other none)
        ]
        | inr none ↦ absurd (Contains-none own none)
      ]

  pub claim_some : (u x : ℕ) → Contains (living G alive u) x → chosen u ≡ true → clear G alive k x u ≡ true → (own : List ℕ) × Contains (claim G alive chosen k u) own
  unfolding claim
  claim_some u x held one is_clear = at (filter (fits u) (living G alive u)) (Contains-filter (fits u) (living G alive u) x held (true-and (chosen u) (clear G alive k x u) one is_clear))
    where
      at : (xs : List ℕ) → Contains xs x → (own : List ℕ) × Contains (walk_from G alive k u xs) own
      at [] there = absurd (Contains-none x there)
      at (y ∷ xs) there = (trail G alive k y u, Contains-here (trail G alive k y u) [])

  claim_long : (u : ℕ) (own : List ℕ) → Contains (claim G alive chosen k u) own → 1 ≤ length own
  claim_long u own held =
      let c : IsClaim u own = claim_cases u own held in
      let same : length own ≡ length (trail G alive k c.from u) = ap length c.is in
      let count : length (trail G alive k c.from u) ≡ suc (suc k) = length-trail G alive k c.from u in
      omega (arith, same, count)

  -- v is an inner node of the path
  pub record IsOwned (v : ℕ) (own : List ℕ) : Type 0 where
    pub claimer : ℕ
    pub near : Contains (ball G k v) claimer
    pub claimed : Contains (claim G alive chosen k claimer) own
    pub place : ℕ
    pub within : place < k
    pub here : get_or own (suc place) 0 ≡ v

  abbrev on_it : ℕ → List ℕ → Bool
  on_it v own = any_below (λ i. eqb (get_or own (suc i) 0) v) k

  gathered_cases : (v : ℕ) (own : List ℕ) → Contains (flat_map (claim_on G alive chosen k v) (ball G k v)) own → IsOwned v own
  unfolding claim_on
  gathered_cases v own held =
      let (u, near, there) = Contains-flat_map_cases (claim_on G alive chosen k v) (ball G k v) own held in
      let (claimed, passes) = Contains-filter_cases (on_it v) (claim G alive chosen k u) own there in
      let (i, l, e) = any_found (λ i. eqb (get_or own (suc i) 0) v) k passes in
      record { claimer = u; near = near; claimed = claimed; place = i; within = l; here = eqb-true (get_or own (suc i) 0) v e }

  pub owned_cases : (v : ℕ) → (owned G alive chosen k v ≡ []) ⊎ IsOwned v (owned G alive chosen k v)
  unfolding owned
  owned_cases v = elim (leading_cases (flat_map (claim_on G alive chosen k v) (ball G k v))) [
    | inl e ↦ inl e
    | inr held ↦ inr (gathered_cases v (leading (flat_map (claim_on G alive chosen k v) (ball G k v))) held)
  ]

  pub owned_some : (v : ℕ) (own : List ℕ) → IsOwned v own → IsOwned v (owned G alive chosen k v) × (nonempty (owned G alive chosen k v) ≡ true)
  unfolding owned claim_on
  owned_some v own o =
      let there : Contains (claim_on G alive chosen k v o.claimer) own =
      Contains-filter (on_it v) (claim G alive chosen k o.claimer) own o.claimed
      (any_true (λ i. eqb (get_or own (suc i) 0) v) k o.place o.within (subst (λ w. eqb (get_or own (suc o.place) 0) w ≡ true) o.here (eqb-same (get_or own (suc o.place) 0)))) in
      let held = leading_held (flat_map (claim_on G alive chosen k v) (ball G k v)) own (Contains-flat_map (claim_on G alive chosen k v) (ball G k v) o.claimer own o.near there) in
      let found : IsOwned v (leading (flat_map (claim_on G alive chosen k v) (ball G k v))) = gathered_cases v (leading (flat_map (claim_on G alive chosen k v) (ball G k v))) held in
      (found, some_long (leading (flat_map (claim_on G alive chosen k v) (ball G k v))) (claim_long found.claimer (leading (flat_map (claim_on G alive chosen k v) (ball G k v))) found.claimed))

  pub owned_is : (v : ℕ) → nonempty (owned G alive chosen k v) ≡ true → IsOwned v (owned G alive chosen k v)
  owned_is v h = elim (owned_cases v) [
    | inl e ↦ absurd (let no : nonempty (owned G alive chosen k v) ≡ false = ap nonempty e in false≢true (sym no ∙ h))
    | inr o ↦ o
  ]
