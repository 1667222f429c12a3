-- Colours of some nodes, different within d hops, are extended to all nodes: each one takes a colour that is free around it.
use Rattle.std.proofs.Common.{◌≡◌, ℕ, zero, suc, ◌≤◌, ◌<◌, Bool, true, false, cond, leb, List, map, length, refl, sym, ap, ◌∙◌, subst, inl, inr, arith}
use Rattle.std.specs.Prelude.{Contains, ◌||◌, filter}
use Rattle.std.proofs.lemmas.Bool.{cases_lt, le-leb, leb-true}
use Rattle.std.proofs.lemmas.List.{length-map}
use Rattle.re_labels.proofs.Tests.{or-left, or-right, or-true}
use Rattle.re_layers.proofs.Balls.{ball_back, ball_size, length-ball}
use Rattle.re_layers.proofs.Filters.{either}
use Rattle.re_layers.proofs.FreeNumbers.{free, free_most, free_other}
use Rattle.re_labels.proofs.Membership.{Contains-filter, Contains-filter_cases, Contains-map, length-filter_most, map-alike}
use Rattle.re_layers.specs.Layers.{IsColoured}
use Rattle.re_layers.specs.Networks.{Network, ball}

module _ (d N m : ℕ) (G : Network) (few : (v : ℕ) → length (G.near v) ≤ m)
    (both : (v w : ℕ) → Contains (G.near v) w → Contains (G.near w) v)
    (room : suc (ball_size m d) ≤ N) (fixed : ℕ → Bool) (given : ℕ → ℕ) where
  -- the nodes around v that have their colours before it
  earlier : ℕ → List ℕ
  earlier v = filter (λ w. fixed w || leb (suc w) v) (ball G d v)

  -- the colour of v, where fuel is more than v
  colour_by : ℕ → ℕ → ℕ
  colour_by zero v = given v
  colour_by (suc fuel) v = cond (fixed v) (given v) (free (ball_size m d) (map (colour_by fuel) (earlier v)))

  by_fixed : (fuel v : ℕ) → fixed v ≡ true → colour_by fuel v ≡ given v
  unfolding colour_by
  by_fixed zero v e = refl
  by_fixed (suc fuel) v e = ap (λ b. cond b (given v) (free (ball_size m d) (map (colour_by fuel) (earlier v)))) e

  by_enough : (fuel more v : ℕ) → v < fuel → v < more → colour_by fuel v ≡ colour_by more v
  unfolding colour_by earlier
  by_enough zero more v l l' = absurd (omega arith)
  by_enough (suc fuel) zero v l l' = absurd (omega arith)
  by_enough (suc fuel) (suc more) v l l' =
      ap (λ xs. cond (fixed v) (given v) (free (ball_size m d) xs))
      (map-alike (colour_by fuel) (colour_by more) (earlier v)
      (λ w held. elim (or-true (fixed w) (leb (suc w) v) (Contains-filter_cases (λ w. fixed w || leb (suc w) v) (ball G d v) w held).1) [
        | inl e ↦ by_fixed fuel w e ∙ sym (by_fixed more w e)
        | inr e ↦ (let less : w < v = leb-true (suc w) v e in by_enough fuel more w (omega (arith, less)) (omega (arith, less)))
      ]))

  pub extended : ℕ → ℕ
  extended v = colour_by (suc v) v

  pub extended_given : (v : ℕ) → fixed v ≡ true → extended v ≡ given v
  unfolding extended
  extended_given v e = by_fixed (suc v) v e

  extended_free : (v : ℕ) → fixed v ≡ false → extended v ≡ free (ball_size m d) (map (colour_by v) (earlier v))
  unfolding extended colour_by
  extended_free v e = ap (λ b. cond b (given v) (free (ball_size m d) (map (colour_by v) (earlier v)))) e

  earlier_colour : (v w : ℕ) → Contains (earlier v) w → colour_by v w ≡ extended w
  unfolding extended earlier
  earlier_colour v w held = elim
      (or-true (fixed w) (leb (suc w) v) (Contains-filter_cases (λ w. fixed w || leb (suc w) v) (ball G d v) w held).1) [
        | inl e ↦ by_fixed v w e ∙ sym (by_fixed (suc w) w e)
        | inr e ↦ (let less : w < v = leb-true (suc w) v e in by_enough v (suc w) w less (omega arith))
      ]

  -- a free node has no colour of an earlier one
  fresh : (v w : ℕ) → fixed v ≡ false → Contains (earlier v) w → extended v ≡ extended w → ⊥
  unfolding earlier
  fresh v w e held same =
      free_other (ball_size m d) (map (colour_by v) (earlier v)) (omega (arith, mapped, most, all))
      (subst (Contains (map (colour_by v) (earlier v))) (earlier_colour v w held ∙ (sym same ∙ extended_free v e))
      (Contains-map (colour_by v) (earlier v) w held))
    where
      mapped : length (map (colour_by v) (earlier v)) ≡ length (earlier v)
      mapped = length-map (earlier v) (colour_by v)

      most : length (earlier v) ≤ length (ball G d v)
      most = length-filter_most (λ w. fixed w || leb (suc w) v) (ball G d v)

      all : length (ball G d v) ≤ ball_size m d
      all = length-ball G m few d v

  module _ (low : (v : ℕ) → given v < N)
      (apart : (v w : ℕ) → fixed v ≡ true → fixed w ≡ true → Contains (ball G d v) w → (v ≡ w → ⊥) → given v ≡ given w → ⊥) where
    held_earlier : (v w : ℕ) → Contains (ball G d v) w → (fixed w || leb (suc w) v) ≡ true → Contains (earlier v) w
    unfolding earlier
    held_earlier v w at passes = Contains-filter (λ w. fixed w || leb (suc w) v) (ball G d v) w at passes

    extended_apart : (v w : ℕ) → Contains (ball G d v) w → (v ≡ w → ⊥) → extended v ≡ extended w → ⊥
    extended_apart v w at other same = by (fixed v) (fixed w) refl refl
      where
        back : Contains (ball G d w) v
        back = ball_back G both d v w at

        by : (i j : Bool) → fixed v ≡ i → fixed w ≡ j → ⊥
        by true true e f = apart v w e f at other (sym (extended_given v e) ∙ (same ∙ extended_given w f))
        by false true e f = fresh v w e (held_earlier v w at (or-left (fixed w) (leb (suc w) v) f)) same
        by true false e f = fresh w v f (held_earlier w v back (or-left (fixed v) (leb (suc v) w) e)) (sym same)
        by false false e f = elim (cases_lt v w) [
          | inl less ↦ fresh w v f (held_earlier w v back (or-right (fixed v) (leb (suc v) w) (le-leb (suc v) w less))) (sym same)
          | inr more ↦ fresh v w e (held_earlier v w at
              (or-right (fixed w) (leb (suc w) v) (le-leb (suc w) v (omega (arith, more, other))))) same
        ]

    pub extended_coloured : IsColoured d N G extended
    extended_coloured = record { below = below; apart = extended_apart }
      where
        below : (v : ℕ) → extended v < N
        below v = elim (either (fixed v)) [
          | inl e ↦ subst (λ c. c < N) (sym (extended_given v e)) (low v)
          | inr e ↦
              (let most : free (ball_size m d) (map (colour_by v) (earlier v)) ≤ ball_size m d = free_most (ball_size m d)
              (map (colour_by v) (earlier v)) in
              let same = extended_free v e in
              omega (arith, most, same, room))
        ]
