-- Rounds of rake and compress: which nodes are alive at each step.
use Rattle.std.proofs.Common.{◌≡◌, ℕ, zero, suc, ◌+◌, ◌*◌, ◌%◌, ◌≤◌, ◌<◌, Bool, true, false, cond, eqb, leb, List, length, get_or, refl, sym, ap, ◌∙◌, subst, arith, ◌⊎◌, inl, inr}
use Rattle.std.specs.Prelude.{Contains, ◌&&◌, ◌||◌, not}
use Rattle.std.proofs.lemmas.Bool.{false≢true, le-leb, leb-true}
use Rattle.std.proofs.lemmas.Nat.{mod-mul-add}
use Rattle.re_layers.specs.Networks.{Network}
use Rattle.re_layers.proofs.Claims.{IsClaim, claim_cases, claim_some, owned_some}
use Rattle.re_layers.proofs.Growth.{Shrinking}
use Rattle.re_layers.proofs.Peeling.{clear, nonempty, living, owned, removed}
use Rattle.re_layers.proofs.Trails.{node, node_second}
use Rattle.re_labels.proofs.Membership.{Contains-filter}
use Rattle.re_labels.proofs.Tests.{and-true, eqb-same, not-true, true-and}
use Rattle.re_layers.proofs.Filters.{either, le_cases, length-filter_le}
use Rattle.re_layers.proofs.Balls.{ball_own}

-- a colouring, the number of its colours, and how many inner nodes a path has
pub record Plan : Type 0 where
  pub colour : Network → ℕ → ℕ
  pub colours : ℕ
  pub inner : ℕ

-- a round has one step for each colour, one that rakes active nodes, and one that rakes passive ones
abbrev pub period : Plan → ℕ
period p = p.colours + 2

-- whose paths are compressed in a step
abbrev pub chosen : Plan → Network → ℕ → ℕ → Bool
chosen p G s u = eqb (p.colour G u) (s % period p)

-- the step of a round in which a node may be raked
abbrev pub turn : Plan → Network → ℕ → ℕ
turn p G v = cond (G.active v) p.colours (p.colours + 1)

abbrev pub raked : Plan → Network → ℕ → ℕ → Bool
raked p G s v = eqb (turn p G v) (s % period p)

unfoldable pub alive : Plan → Network → ℕ → ℕ → Bool
alive p G zero v = true
alive p G (suc s) v = alive p G s v && not (removed G (alive p G s) (chosen p G s) (raked p G s) p.inner v)

-- the path that is removed with v in step s, if any
abbrev pub path_at : Plan → Network → ℕ → ℕ → List ℕ
path_at p G s v = owned G (alive p G s) (chosen p G s) p.inner v

abbrev pub removed_at : Plan → Network → ℕ → ℕ → Bool
removed_at p G s v = removed G (alive p G s) (chosen p G s) (raked p G s) p.inner v

module _ (p : Plan) (G : Network) where
  pub alive_first : (v : ℕ) → alive p G 0 v ≡ true
  unfolding alive
  alive_first v = refl

  alive_before : (s v : ℕ) → alive p G (suc s) v ≡ true → (alive p G s v ≡ true) × (removed_at p G s v ≡ false)
  unfolding alive
  alive_before s v h =
      let (lives, stays) = and-true (alive p G s v) (not (removed_at p G s v)) h in
      (lives, not-true (removed_at p G s v) stays)

  pub survives : (s v : ℕ) → alive p G s v ≡ true → removed_at p G s v ≡ false → alive p G (suc s) v ≡ true
  unfolding alive
  survives s v lives stays = true-and (alive p G s v) (not (removed_at p G s v)) lives (rw stays refl)

  pub alive_later : (v s t : ℕ) → s ≤ t → alive p G t v ≡ true → alive p G s v ≡ true
  alive_later v s zero l h = let none : zero ≡ s = omega arith in subst (λ i. alive p G i v ≡ true) none h
  alive_later v s (suc t) l h = at (le_cases s t l) (λ l'. alive_later v s t l' (alive_before t v h).0)
    where
      at : (s ≤ t) ⊎ (s ≡ suc t) → (s ≤ t → alive p G s v ≡ true) → alive p G s v ≡ true
      at (inl l') rest = rest l'
      at (inr e) rest = subst (λ i. alive p G i v ≡ true) (sym e) h

  pub dead_later : (v s t : ℕ) → s ≤ t → alive p G s v ≡ false → alive p G t v ≡ false
  dead_later v s t l dead = elim (either (alive p G t v)) [
    | inl lives ↦ absurd (let before : alive p G s v ≡ true = alive_later v s t l lives in false≢true (sym dead ∙ before))
    | inr is_dead ↦ is_dead
  ]

  pub dies : (s v : ℕ) → removed_at p G s v ≡ true → alive p G (suc s) v ≡ false
  dies s v h = elim (either (alive p G (suc s) v)) [
    | inl lives ↦ absurd (false≢true (sym (alive_before s v lives).1 ∙ h))
    | inr dead ↦ dead
  ]

  -- what dies in a step is on a path, or raked
  pub removed_cases : (s v : ℕ) → alive p G s v ≡ true → alive p G (suc s) v ≡ false
      → (nonempty (path_at p G s v) ≡ true) ⊎ ((raked p G s v ≡ true) × (length (living G (alive p G s) v) ≤ 1))
  unfolding removed
  removed_cases s v lives dead = elim (either (removed_at p G s v)) [
    | inl gone ↦ at (nonempty (path_at p G s v)) refl gone
    | inr stays ↦ absurd (false≢true (sym dead ∙ survives s v lives stays))
  ]
    where
      at : (b : Bool) → nonempty (path_at p G s v) ≡ b → (b || (raked p G s v && leb (length (living G (alive p G s) v)) 1)) ≡ true
          → (nonempty (path_at p G s v) ≡ true) ⊎ ((raked p G s v ≡ true) × (length (living G (alive p G s) v) ≤ 1))
      at true e h = inl e
      at false e h =
          let (kind, few) = and-true (raked p G s v) (leb (length (living G (alive p G s) v)) 1) h in
          inr (kind, leb-true (length (living G (alive p G s) v)) 1 few)

  removed_leaf : (s v : ℕ) → raked p G s v ≡ true → length (living G (alive p G s) v) ≤ 1 → removed_at p G s v ≡ true
  unfolding removed
  removed_leaf s v kind few = at (nonempty (path_at p G s v)) (true-and (raked p G s v) (leb (length (living G (alive p G s) v)) 1) kind (le-leb (length (living G (alive p G s) v)) 1 few))
    where
      at : (b : Bool) → (raked p G s v && leb (length (living G (alive p G s) v)) 1) ≡ true → (b || (raked p G s v && leb (length (living G (alive p G s) v)) 1)) ≡ true
      at true h = refl
      at false h = h

  pub removed_path : (s v : ℕ) → nonempty (path_at p G s v) ≡ true → removed_at p G s v ≡ true
  unfolding removed
  removed_path s v h = at (nonempty (path_at p G s v)) h
    where
      at : (b : Bool) → b ≡ true → (b || (raked p G s v && leb (length (living G (alive p G s) v)) 1)) ≡ true
      at true h = refl
      at false h = absurd (false≢true h)

  -- ---- rounds
  pub turn_low : (v : ℕ) → (p.colours ≤ turn p G v) × (turn p G v < period p)
  turn_low v = at (G.active v)
    where
      at : (b : Bool) → (p.colours ≤ cond b p.colours (p.colours + 1)) × (cond b p.colours (p.colours + 1) < period p)
      at true = (omega arith, omega arith)
      at false = (omega arith, omega arith)

  -- the step of a round
  step_of : (m q : ℕ) → q < period p → ((m * period p + q) % period p ≡ q) × (suc (m * period p + q) ≤ suc m * period p)
  step_of m q low = (mod-mul-add m (period p) q low, (let whole : suc m * period p ≡ m * period p + period p = grind arith in omega (arith, whole, low)))

  pub round_rakes : (m v : ℕ) → length (living G (alive p G (m * period p)) v) ≤ 1 → alive p G (suc m * period p) v ≡ false
  round_rakes m v few =
      let (same, high) = step_of m (turn p G v) (turn_low v).1 in
      let fewer : length (living G (alive p G (m * period p + turn p G v)) v) ≤ length (living G (alive p G (m * period p)) v) =
      length-filter_le (alive p G (m * period p + turn p G v)) (alive p G (m * period p)) (G.near v)
      (λ w on lives. alive_later w (m * period p) (m * period p + turn p G v) (omega arith) lives) in
      let kind : raked p G (m * period p + turn p G v) v ≡ true = rw same (eqb-same (turn p G v)) in
      dead_later v (suc (m * period p + turn p G v)) (suc m * period p) high
      (dies (m * period p + turn p G v) v (removed_leaf (m * period p + turn p G v) v kind (omega (arith, few, fewer))))

  -- a chosen node on a clear walk is on a path
  pub on_path : (s x v : ℕ) → 1 ≤ p.inner → Contains (G.near v) x → alive p G s x ≡ true → chosen p G s v ≡ true → clear G (alive p G s) p.inner x v ≡ true
      → nonempty (path_at p G s v) ≡ true
  unfolding node
  on_path s x v some on lives one is_clear =
      let (own, held) = claim_some G (alive p G s) (chosen p G s) p.inner v x (Contains-filter (alive p G s) (G.near v) x on lives) one is_clear in
      let c : IsClaim G (alive p G s) (chosen p G s) p.inner v own = claim_cases G (alive p G s) (chosen p G s) p.inner v own held in
      let here : get_or own 1 0 ≡ v = ap (λ own. get_or own 1 0) c.is ∙ node_second G (alive p G s) p.inner c.from v in
      (owned_some G (alive p G s) (chosen p G s) p.inner v own (record { claimer = v; near = ball_own G p.inner v; claimed = held; place = 0; within = some; here = here })).1

  pub shrinks : 1 ≤ p.inner → ((v : ℕ) → p.colour G v < p.colours) → Shrinking G (alive p G) (λ m. m * period p) p.inner
  shrinks some below = record {
    later = alive_later;
    rising = λ m. (let whole : suc m * period p ≡ m * period p + period p = grind arith in omega (arith, whole));
    rakes = round_rakes;
    compresses = λ m x v on.
        let low = below v in
        let (same, high) = step_of m (p.colour G v) (omega (arith, low)) in (
          m * period p + p.colour G v,
          omega arith,
          omega (arith, high),
          λ lives is_clear.
              let one : chosen p G (m * period p + p.colour G v) v ≡ true = rw same (eqb-same (p.colour G v)) in
              dead_later v (suc (m * period p + p.colour G v)) (suc m * period p) high
              (dies (m * period p + p.colour G v) v (removed_path (m * period p + p.colour G v) v (on_path (m * period p + p.colour G v) x v some on lives one is_clear))),
        );
  }
