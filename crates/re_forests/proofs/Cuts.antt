-- A network is a forest where each of its edges cuts it: nothing else leads from one side of the edge to the other.
use Rattle.std.proofs.Common.{◌≡◌, ℕ, zero, suc, ◌≤◌, ◌<◌, Bool, true, false, List, [], ◌∷◌, length, refl, sym, ◌∙◌, ap, subst, ◌⊎◌, inl, inr}
use Rattle.std.specs.Prelude.{Contains, not, ◌==◌, flat_map, if◌then◌else◌}
use Rattle.std.proofs.lemmas.Bool.{false≢true}
use Rattle.re_labels.proofs.Membership.{Contains-cases, Contains-flat_map, Contains-flat_map_cases, Contains-here, Contains-later, Contains-none}
use Rattle.re_layers.specs.Networks.{AreDifferent, IsForest, Network, ball, branch, others}
use Rattle.re_layers.proofs.Rooted.{Different-append, others_other}
use Rattle.re_layers.proofs.Balls.{others_near}
use Rattle.re_layers.proofs.Different.{Different-filter}

-- the two sides of an edge
pub record IsCut (G : Network) (v w : ℕ) : Type 0 where
  pub side : ℕ → Bool
  pub here : side v ≡ true
  pub there : side w ≡ false
  pub same : (x y : ℕ) → Contains (G.near x) y → (x ≡ v → y ≡ w → ⊥) → (x ≡ w → y ≡ v → ⊥) → side x ≡ side y

-- a network each of whose edges cuts it
pub record IsCutting (a p N : ℕ) (G : Network) : Type 0 where
  pub degrees : (v : ℕ) → length (G.near v) ≤ (if G.active v then a else p)
  pub below : (v w : ℕ) → Contains (G.near v) w → (v < N) × (w < N)
  pub turns : (v w : ℕ) → Contains (G.near v) w → G.active w ≡ not (G.active v)
  pub both : (v w : ℕ) → Contains (G.near v) w → Contains (G.near w) v
  pub once : (v : ℕ) → AreDifferent (G.near v)
  pub cuts : (v w : ℕ) → Contains (G.near v) w → IsCut G v w

first_in : (G : Network) (k u v : ℕ) → Contains (branch G k u v) v
first_in G zero u v = Contains-here v []
first_in G (suc k) u v = Contains-here v (flat_map (λ w. branch G k v w) (others G u v))

piece_in : (G : Network) (k u v w x : ℕ) → Contains (others G u v) w → Contains (branch G k v w) x → Contains (branch G (suc k) u v) x
piece_in G k u v w x held there =
    Contains-later x v (flat_map (λ w. branch G k v w) (others G u v)) (Contains-flat_map (λ w. branch G k v w) (others G u v) w x held there)

module _ (G : Network) where
  -- walks that avoid an end of an edge stay on one side of it
  stays : (v w q : ℕ) (cut : IsCut G v w) → (q ≡ v) ⊎ (q ≡ w) → (k u y x : ℕ) → (Contains (branch G k u y) q → ⊥) → Contains (branch G k u y) x → cut.side x ≡ cut.side y
  stays v w q cut end zero u y x avoid held = elim (Contains-cases x y [] held) [ inl e ↦ ap cut.side e | inr none ↦ absurd (Contains-none x none) ]
  stays v w q cut end (suc k) u y x avoid held = elim (Contains-cases x y (flat_map (λ w. branch G k y w) (others G u y)) held) [
    | inl e ↦ ap cut.side e
    | inr later ↦
        let (z, other, there) = Contains-flat_map_cases (λ w. branch G k y w) (others G u y) x later in
        let not_here : y ≡ q → ⊥ = λ e. avoid (subst (λ c. Contains (branch G (suc k) u y) c) e (first_in G (suc k) u y)) in
        let not_there : Contains (branch G k y z) q → ⊥ = λ h. avoid (piece_in G k u y z q other h) in
        let z_not : z ≡ q → ⊥ = λ e. not_there (subst (λ c. Contains (branch G k y z) c) e (first_in G k y z)) in
        stays v w q cut end k y z x not_there there
        ∙ sym (cut.same y z (others_near G u y z other) (λ e f. which end (λ g. not_here (e ∙ sym g)) (λ g. z_not (f ∙ sym g)))
        (λ e f. which end (λ g. z_not (f ∙ sym g)) (λ g. not_here (e ∙ sym g))))
  ]
    where
      which : {X Y : Type 0} → X ⊎ Y → (X → ⊥) → (Y → ⊥) → ⊥
      which (inl x) f g = f x
      which (inr y) f g = g y

  module _ (cuts : (v w : ℕ) → Contains (G.near v) w → IsCut G v w) where
    -- no walk that goes on leads back
    onwards : (k v w : ℕ) → Contains (G.near v) w → Contains (branch G k v w) v → ⊥
    onwards zero v w edge held = elim (Contains-cases v w [] held) [
      | inl e ↦ (let cut = cuts v w edge in false≢true (sym cut.there ∙ ap cut.side (sym e) ∙ cut.here))
      | inr none ↦ absurd (Contains-none v none)
    ]
    onwards (suc k) v w edge held = elim (Contains-cases v w (flat_map (λ z. branch G k w z) (others G v w)) held) [
      | inl e ↦ (let cut = cuts v w edge in false≢true (sym cut.there ∙ ap cut.side (sym e) ∙ cut.here))
      | inr later ↦
          let (z, other, there) = Contains-flat_map_cases (λ z. branch G k w z) (others G v w) v later in
          let cut = cuts v w edge in
          let near = others_near G v w z other in
          let along : cut.side v ≡ cut.side z = stays v w w cut (inr refl) k w z v (onwards k w z near) there in
          let step : cut.side w ≡ cut.side z = cut.same w z near
          (λ e f. false≢true (sym cut.there ∙ ap cut.side e ∙ cut.here)) (λ e f. others_other G v w z other f) in
          false≢true (sym cut.there ∙ step ∙ sym along ∙ cut.here)
    ]

    pieces : (k v : ℕ) (ws : List ℕ) → ((w : ℕ) → Contains ws w → Contains (G.near v) w) → AreDifferent ws
        → ((w : ℕ) → Contains ws w → AreDifferent (branch G k v w)) → AreDifferent (flat_map (λ w. branch G k v w) ws)
    pieces k v [] edges apart each = tt
    pieces k v (w ∷ ws) edges apart each =
        Different-append (branch G k v w) (flat_map (λ w. branch G k v w) ws) (each w (Contains-here w ws))
        (pieces k v ws (λ z held. edges z (Contains-later z w ws held)) apart.1 (λ z held. each z (Contains-later z w ws held)))
        (λ x l r.
        let (z, held, there) = Contains-flat_map_cases (λ w. branch G k v w) ws x r in
        let edge = edges w (Contains-here w ws) in
        let edge' = edges z (Contains-later z w ws held) in
        let cut = cuts v w edge in
        let first : cut.side x ≡ cut.side w = stays v w v cut (inl refl) k v w x (onwards k v w edge) l in
        let second : cut.side x ≡ cut.side z = stays v w v cut (inl refl) k v z x (onwards k v z edge') there in
        let step : cut.side v ≡ cut.side z = cut.same v z edge' (λ e f. apart.0 (subst (λ c. Contains ws c) f held))
        (λ e f. false≢true (sym cut.there ∙ ap cut.side (sym e) ∙ cut.here)) in
        false≢true (sym cut.there ∙ sym first ∙ second ∙ sym step ∙ cut.here))

    module _ (once : (v : ℕ) → AreDifferent (G.near v)) where
      around : (k v : ℕ) (ws : List ℕ) → ((w : ℕ) → Contains ws w → Contains (G.near v) w) → AreDifferent ws
          → ((w : ℕ) → Contains ws w → AreDifferent (branch G k v w)) → AreDifferent (v ∷ flat_map (λ w. branch G k v w) ws)
      around k v ws edges apart each = (
        λ held. (let (z, at, there) = Contains-flat_map_cases (λ w. branch G k v w) ws v held in onwards k v z (edges z at) there),
        pieces k v ws edges apart each,
      )

      branches : (k u v : ℕ) → AreDifferent (branch G k u v)
      branches zero u v = (λ held. Contains-none v held, tt)
      branches (suc k) u v =
          around k v (others G u v) (λ w held. others_near G u v w held) (Different-filter (λ w. not (w == u)) (G.near v) (once v)) (λ w held. branches k v w)

      balls : (v k : ℕ) → AreDifferent (ball G k v)
      balls v zero = (λ held. Contains-none v held, tt)
      balls v (suc k) = around k v (G.near v) (λ w held. held) (once v) (λ w held. branches k v w)

pub IsForest-cutting : (a p N : ℕ) (G : Network) → IsCutting a p N G → IsForest a p N G
IsForest-cutting a p N G is = record { degrees = is.degrees; below = is.below; turns = is.turns; both = is.both; acyclic = balls G is.cuts is.once }
