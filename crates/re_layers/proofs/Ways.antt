-- The ways on from a node among those that are alive, where fewer and fewer are.
use Rattle.std.proofs.Common.{◌≡◌, ℕ, zero, suc, Bool, true, false, eqb, [], ◌∷◌, length, get_or, refl, sym, ap, ◌∙◌, subst}
use Rattle.std.specs.Prelude.{Contains, filter, ◌&&◌, not}
use Rattle.re_layers.specs.Networks.{Network, others}
use Rattle.re_layers.proofs.Peeling.{clear, living, next, onward}
use Rattle.re_labels.proofs.Membership.{Contains-filter, Contains-filter_cases}
use Rattle.re_labels.proofs.Tests.{and-true, eqb-apart, eqb-true, true-and}
use Rattle.re_layers.proofs.Filters.{filter_all, filter_through, single}

-- ---- ways on
module _ (G : Network) where
  pub onward_cases : (alive : ℕ → Bool) (x v w : ℕ) → Contains (onward G alive x v) w → Contains (others G x v) w × Contains (G.near v) w × (alive w ≡ true)
  onward_cases alive x v w held =
      let (there, passes) = Contains-filter_cases (λ w. not (eqb w x)) (living G alive v) w held in
      let (on, lives) = Contains-filter_cases alive (G.near v) w there in
      (Contains-filter (λ w. not (eqb w x)) (G.near v) w on passes, on, lives)

  pub onward_later : (before after : ℕ → Bool) (x v : ℕ) → ((w : ℕ) → after w ≡ true → before w ≡ true)
      → onward G after x v ≡ filter after (onward G before x v)
  onward_later before after x v fewer = filter_through (λ w. not (eqb w x)) before after (G.near v) fewer

  pub onward_kept : (before after : ℕ → Bool) (x v y : ℕ) → ((w : ℕ) → after w ≡ true → before w ≡ true)
      → onward G before x v ≡ y ∷ [] → after y ≡ true → onward G after x v ≡ y ∷ []
  onward_kept before after x v y fewer one lives = onward_later before after x v fewer ∙ (ap (filter after) one ∙ rw lives refl)

  pub onward_lost : (before after : ℕ → Bool) (x v y : ℕ) → ((w : ℕ) → after w ≡ true → before w ≡ true)
      → onward G before x v ≡ y ∷ [] → after y ≡ false → onward G after x v ≡ []
  onward_lost before after x v y fewer one lost = onward_later before after x v fewer ∙ (ap (filter after) one ∙ rw lost refl)

  -- where x isn't alive, all ways lead elsewhere
  pub onward_whole : (alive : ℕ → Bool) (x v : ℕ) → alive x ≡ false → onward G alive x v ≡ living G alive v
  onward_whole alive x v dead = filter_all (λ w. not (eqb w x)) (living G alive v) (λ w held. ap not (eqb-apart w x (other w held)))
    where
      other : (w : ℕ) → Contains (living G alive v) w → w ≡ x → ⊥
      other w held e =
          let lives : alive w ≡ true = (Contains-filter_cases alive (G.near v) w held).1 in
          let same : alive w ≡ alive x = ap alive e in
          absurd (cc)

  -- ---- clear walks
  pub clear_alive : (alive : ℕ → Bool) (k x v : ℕ) → clear G alive k x v ≡ true → alive v ≡ true
  unfolding clear
  clear_alive alive zero x v h = h
  clear_alive alive (suc k) x v h = (and-true (alive v) (eqb (length (onward G alive x v)) 1 && clear G alive k v (next G alive x v)) h).0

  -- the one way on, and the rest of the walk
  pub clear_next : (alive : ℕ → Bool) (k x v : ℕ) → clear G alive (suc k) x v ≡ true
      → (onward G alive x v ≡ next G alive x v ∷ []) × (clear G alive k v (next G alive x v) ≡ true)
  unfolding clear
  clear_next alive k x v h =
      let rest = (and-true (alive v) (eqb (length (onward G alive x v)) 1 && clear G alive k v (next G alive x v)) h).1 in
      let (count, more) = and-true (eqb (length (onward G alive x v)) 1) (clear G alive k v (next G alive x v)) rest in
      (single (onward G alive x v) v (eqb-true (length (onward G alive x v)) 1 count), more)

  pub clear_on : (alive : ℕ → Bool) (k x v y : ℕ) → alive v ≡ true → onward G alive x v ≡ y ∷ [] → clear G alive k v y ≡ true → clear G alive (suc k) x v ≡ true
  unfolding clear
  clear_on alive k x v y lives one more =
      true-and (alive v) (eqb (length (onward G alive x v)) 1 && clear G alive k v (next G alive x v)) lives
      (true-and (eqb (length (onward G alive x v)) 1) (clear G alive k v (next G alive x v)) (rw one refl)
      (subst (λ ys. clear G alive k v (get_or ys 0 v) ≡ true) (sym one) more))

  pub clear_here : (alive : ℕ → Bool) (x v : ℕ) → alive v ≡ true → clear G alive zero x v ≡ true
  unfolding clear
  clear_here alive x v lives = lives
