-- The combinations of two lines, one after another.
use Rattle.std.proofs.Common.{◌≡◌, ℕ, zero, suc, ◌+◌, ◌-◌, ◌<◌, ◌≤◌, List, [], ◌∷◌, ◌++◌, length, get_or, sym, ap, ◌∙◌, subst, ◌⊎◌, inl, inr, arith}
use Rattle.std.specs.Prelude.{Contains}
use Rattle.std.specs.List.{remove}
use Rattle.std.proofs.lemmas.Bool.{cases_lt}
use Rattle.std.proofs.lemmas.List.{append-nil}
use Rattle.std.proofs.lemmas.List.Edits.{length-remove}
use Rattle.re_labels.proofs.ChoicesOfRows.{IsUnder-refl}
use Rattle.re_labels.proofs.Placing.{Dominates-trans}
use Rattle.re_labels.proofs.Rearranging.{Rearranged-refl, Rearranged-sym, length-Rearranged}
use Rattle.re_labels.specs.Rearranging.{Rearranged, chained, kept, swapped}
use Rattle.re_labels.specs.Rows.{IsUnder, combined, meets, set_at}
use Rattle.re_labels.proofs.Membership.{Contains-cases, Contains-here, Contains-later}
use Rattle.re_labels.proofs.Sets.{IsIn-meet_cases, IsIn-union_cases}
use Rattle.re_labels.specs.Sets.{IsWithin, meet, union}
use Rattle.re_labels.proofs.Lists.{Contains-last, Contains-more, Contains-more_cases}
use Rattle.re_labels.specs.GoodRows.{IsDominated}
use Rattle.re_closure.proofs.Places.{append_right, front, placed_first, read_at, removed_same, to_middle}
use Rattle.re_closure.specs.Combining.{AreAllAt, AreAllBefore, AreAllOf, AreDominatedAt, AreMeetings, HasAlike, IsCombination, IsMeeting, joined}

-- ---- lines of meets
pub record AreMeetingsBefore (chosen : List (List ℕ)) (first : List ℕ) (rest left : List (List ℕ)) (before : ℕ) (old new : List (List (List ℕ))) : Type 0 where
  pub stays : (line : List (List ℕ)) → Contains old line → Contains new line
  pub made : (line : List (List ℕ)) → Contains new line → Contains old line ⊎ IsMeeting chosen (first ∷ rest) left line
  pub all : (place : ℕ) → place < before → (moved : List (List ℕ)) → Rearranged (remove left place) moved → HasAlike new (chosen ++ meet first (set_at left place) ∷ meets rest moved)

pub meetings_none : (chosen left : List (List ℕ)) (old new : List (List (List ℕ))) (line : List (List ℕ)) → length left ≡ 0 → line ≡ chosen → new ≡ old ++ line ∷ [] → AreMeetings chosen [] left old new
meetings_none chosen left old new line none is pushed = subst (AreMeetings chosen [] left old) (sym pushed) (record {
  stays = λ other held. Contains-more old line other held;
  made = λ other held. elim (Contains-more_cases old line other held) [
    | inl h ↦ inl h
    | inr e ↦ inr (left, Rearranged-refl left, subst (λ w. Rearranged (chosen ++ []) w) (append-nil chosen ∙ sym is ∙ sym e) (Rearranged-refl (chosen ++ [])))
  ];
  all = λ moved p. (line, Contains-last old line, subst (λ w. Rearranged (chosen ++ []) w) (append-nil chosen ∙ sym is) (Rearranged-refl (chosen ++ [])));
})

module _ (chosen : List (List ℕ)) (first : List ℕ) (rest left : List (List ℕ)) (place : ℕ) (old : List (List (List ℕ))) (low : place < length left) where
  pub meetings_again : (new : List (List (List ℕ))) → (0 < place) × (set_at left (place - 1) ≡ set_at left place) → AreMeetingsBefore chosen first rest left place old new
      → AreMeetingsBefore chosen first rest left (place + 1) old new
  meetings_again new (some, same) before = record {
    stays = before.stays;
    made = before.made;
    all = λ q q_low. elim (cases_lt q place) [
      | inl less ↦ before.all q less
      | inr ge ↦
          let at : q ≡ place = omega (arith, q_low, ge) in
          let earlier : place - 1 < place = omega (arith, some) in
          subst (λ k. (moved : List (List ℕ)) → Rearranged (remove left k) moved → HasAlike new (chosen ++ meet first (set_at left k) ∷ meets rest moved)) (sym at)
          (λ moved p. subst (λ s. HasAlike new (chosen ++ meet first s ∷ meets rest moved)) same
          (before.all (place - 1) earlier moved (subst (λ l. Rearranged l moved) (sym (removed_same left place some low same)) p)))
    ];
  }

  with_meet : (more zs : List (List ℕ)) → Rearranged (meet first (set_at left place) ∷ chosen) more → Rearranged (more ++ zs) (chosen ++ meet first (set_at left place) ∷ zs)
  with_meet more zs p = chained (Rearranged-sym (append_right zs p)) (to_middle (meet first (set_at left place)) chosen zs)

  pub meetings_step : (mid new : List (List (List ℕ))) (more fewer : List (List ℕ)) → Rearranged (meet first (set_at left place) ∷ chosen) more → fewer ≡ remove left place
      → AreMeetingsBefore chosen first rest left place old mid → AreMeetings more rest fewer mid new → AreMeetingsBefore chosen first rest left (place + 1) old new
  meetings_step mid new more fewer p is before here = record {
    stays = λ line h. here.stays line (before.stays line h);
    made = λ line h. elim (here.made line h) [
      | inl k ↦ before.made line k
      | inr m ↦ inr (of_meeting line m)
    ];
    all = λ q q_low. elim (cases_lt q place) [
      | inl less ↦ λ moved r. let m = before.all q less moved r in (m.0, here.stays m.0 m.1, m.2)
      | inr ge ↦
          let at : q ≡ place = omega (arith, q_low, ge) in
          subst (λ k. (moved : List (List ℕ)) → Rearranged (remove left k) moved → HasAlike new (chosen ++ meet first (set_at left k) ∷ meets rest moved)) (sym at)
          (λ moved r. let m = here.all moved (subst (λ l. Rearranged l moved) (sym is) r) in (m.0, m.1, chained (Rearranged-sym (with_meet more (meets rest moved) p)) m.2))
    ];
  }
    where
      of_meeting : (line : List (List ℕ)) → IsMeeting more rest fewer line → IsMeeting chosen (first ∷ rest) left line
      of_meeting line (moved, r, q) = (
        set_at left place ∷ moved,
        chained (front left place [] low) (kept (subst (λ l. Rearranged l moved) is r)),
        chained (Rearranged-sym (with_meet more (meets rest moved) p)) q,
      )

pub meetings_all : (chosen : List (List ℕ)) (first : List ℕ) (rest left : List (List ℕ)) (place : ℕ) (old new : List (List (List ℕ))) → length left ≤ place → length left ≡ suc (length rest)
    → AreMeetingsBefore chosen first rest left place old new → AreMeetings chosen (first ∷ rest) left old new
meetings_all chosen first rest left place old new past count before = record {
  stays = before.stays;
  made = before.made;
  all = all;
}
  where
    all : (moved : List (List ℕ)) → Rearranged left moved → HasAlike new (chosen ++ meets (first ∷ rest) moved)
    all [] p = absurd (let e = length-Rearranged p in omega (arith, e, count))
    all (s ∷ moved) p =
        let m = placed_first [] p in
        subst (λ w. HasAlike new (chosen ++ meet first w ∷ meets rest moved)) m.2 (before.all m.0 (let l = m.1 in omega (arith, l, past)) moved m.3)

-- ---- one place of each line
-- a set among others, at a place
abbrev put : List ℕ → ℕ → List (List ℕ) → List (List ℕ)
put x zero xs = x ∷ xs
put x (suc i) [] = x ∷ []
put x (suc i) (y ∷ ys) = y ∷ put x i ys

put-Rearranged : (x : List ℕ) (i : ℕ) (xs : List (List ℕ)) → Rearranged (x ∷ xs) (put x i xs)
put-Rearranged x zero xs = Rearranged-refl (x ∷ xs)
put-Rearranged x (suc i) [] = Rearranged-refl (x ∷ [])
put-Rearranged x (suc i) (y ∷ ys) = chained swapped (kept (put-Rearranged x i ys))

combined_put : (i : ℕ) (r m : List (List ℕ)) (x : List ℕ) → i < length r → suc (length m) ≡ length r → Rearranged (union (set_at r i) x ∷ meets (remove r i) m) (combined i r (put x i m))
combined_put i [] m x h e = absurd (omega arith)
combined_put zero (s ∷ r) m x h e = Rearranged-refl (union s x ∷ meets r m)
combined_put (suc i) (s ∷ r) [] x h e = absurd (omega arith)
combined_put (suc i) (s ∷ r) (t ∷ m) x h e = chained swapped (kept (combined_put i r m x (omega arith) (omega arith)))

combined_front : (i : ℕ) (r u : List (List ℕ)) → i < length r → length u ≡ length r → Rearranged (union (set_at r i) (set_at u i) ∷ meets (remove r i) (remove u i)) (combined i r u)
combined_front i [] u h e = absurd (omega arith)
combined_front i (s ∷ r) [] h e = absurd (omega arith)
combined_front zero (s ∷ r) (t ∷ u) h e = Rearranged-refl (union s t ∷ meets r u)
combined_front (suc i) (s ∷ r) (t ∷ u) h e = chained swapped (kept (combined_front i r u (omega arith) (omega arith)))

-- a line of the union at two places is a combination
pub of_joined : (sets others moved line : List (List ℕ)) (place against : ℕ) → place < length sets → against < length others → length others ≡ length sets → Rearranged (remove others against) moved
    → Rearranged (joined sets others place against moved) line → IsCombination sets others line
of_joined sets others moved line place against low under alike p q =
    let x = set_at others against in
    let count : suc (length moved) ≡ length sets = (let a = length-Rearranged p in let b = length-remove others against under in omega (arith, a, b, alike)) in (
      place,
      put x place moved,
      low,
      chained (front others against [] under) (chained (kept p) (put-Rearranged x place moved)),
      chained (Rearranged-sym (combined_put place sets moved x low count)) q,
    )

dominated_stays : (lines more : List (List (List ℕ))) (line : List (List ℕ)) → ((other : List (List ℕ)) → Contains lines other → Contains more other) → IsDominated lines line → IsDominated more line
dominated_stays lines more line stays (top, held, dom) = (top, stays top held, dom)

both_stay : (s o : List (List ℕ)) (lines more : List (List (List ℕ))) → ((other : List (List ℕ)) → Contains lines other → Contains more other)
    → (other : List (List ℕ)) → Contains (s ∷ o ∷ lines) other → Contains (s ∷ o ∷ more) other
both_stay s o lines more stays other held = elim (Contains-cases other s (o ∷ lines) held) [
  | inl e ↦ subst (Contains (s ∷ o ∷ more)) (sym e) (Contains-here s (o ∷ more))
  | inr h ↦ Contains-later other s (o ∷ more) (elim (Contains-cases other o lines h) [
    | inl e ↦ subst (Contains (o ∷ more)) (sym e) (Contains-here o more)
    | inr k ↦ Contains-later other o more (stays other k)
  ])
]

meets_left : (r u : List (List ℕ)) → length u ≡ length r → IsUnder (meets r u) r
meets_left [] u e = tt
meets_left (s ∷ r) [] e = absurd (omega arith)
meets_left (s ∷ r) (t ∷ u) e = ((λ x i. (IsIn-meet_cases s t x i).0), meets_left r u (omega arith))

meets_right : (r u : List (List ℕ)) → length u ≡ length r → IsUnder (meets r u) u
meets_right [] [] e = tt
meets_right [] (t ∷ u) e = absurd (omega arith)
meets_right (s ∷ r) [] e = absurd (omega arith)
meets_right (s ∷ r) (t ∷ u) e = ((λ x i. (IsIn-meet_cases s t x i).1), meets_right r u (omega arith))

module _ (sets others : List (List ℕ)) (place against : ℕ) (low : place < length sets) (under : against < length others) (alike : length others ≡ length sets) where
  abbrev s : List ℕ
  s = set_at sets place

  abbrev t : List ℕ
  t = set_at others against

  counted : (moved : List (List ℕ)) → Rearranged (remove others against) moved → length moved ≡ length (remove sets place)
  counted moved p = let a = length-Rearranged p in let b = length-remove others against under in let c = length-remove sets place low in omega (arith, a, b, c, alike)

  -- where one of the two sets holds the other, nothing is missed
  pub at_held : (old : List (List (List ℕ))) → IsWithin s t ⊎ IsWithin t s → AreAllAt sets others place against old old
  at_held old held = record {
    stays = λ line h. h;
    made = λ line h. inl h;
    all = λ moved p. elim held [
      | inl in_other ↦ (
        others,
        Contains-later others sets (others ∷ old) (Contains-here others old),
        (t ∷ moved, chained (front others against [] under) (kept p), ((λ x i. elim (IsIn-union_cases s t x i) [ inl a ↦ in_other x a | inr b ↦ b ]), meets_right (remove sets place) moved (counted moved p))),
      )
      | inr in_one ↦ (
        sets,
        Contains-here sets (others ∷ old),
        (s ∷ remove sets place, front sets place [] low, ((λ x i. elim (IsIn-union_cases s t x i) [ inl a ↦ a | inr b ↦ in_one x b ]), meets_left (remove sets place) moved (counted moved p))),
      )
    ];
  }

  pub at_meetings : (old new : List (List (List ℕ))) (rest left : List (List ℕ)) → rest ≡ remove sets place → left ≡ remove others against → AreMeetings (union s t ∷ []) rest left old new
      → AreAllAt sets others place against old new
  at_meetings old new rest left is is_left here = record {
    stays = here.stays;
    made = λ line h. elim (here.made line h) [
      | inl k ↦ inl k
      | inr m ↦ inr (of_joined sets others m.0 line place against low under alike (subst (λ l. Rearranged l m.0) is_left m.1) (subst (λ r. Rearranged (union s t ∷ meets r m.0) line) is m.2))
    ];
    all = λ moved p.
        let m = here.all moved (subst (λ l. Rearranged l moved) (sym is_left) p) in (
          m.0,
          Contains-later m.0 sets (others ∷ new) (Contains-later m.0 others new m.1),
          (union s t ∷ meets rest moved, Rearranged-sym m.2, subst (λ r. IsUnder (joined sets others place against moved) (union s t ∷ meets r moved)) (sym is) (IsUnder-refl (joined sets others place against moved))),
        );
  }

-- ---- all places of the second line
module _ (sets others : List (List ℕ)) (place against : ℕ) (old : List (List (List ℕ))) (under : against < length others) where
  pub before_again : (new : List (List (List ℕ))) → (0 < against) × (set_at others (against - 1) ≡ set_at others against) → AreAllBefore sets others place against old new
      → AreAllBefore sets others place (against + 1) old new
  before_again new (some, same) before = record {
    stays = before.stays;
    made = before.made;
    all = λ q q_low. elim (cases_lt q against) [
      | inl less ↦ before.all q less
      | inr ge ↦
          let at : q ≡ against = omega (arith, q_low, ge) in
          let earlier : against - 1 < against = omega (arith, some) in
          subst (λ k. AreDominatedAt sets others place k new) (sym at)
          (λ moved p. subst (λ t. IsDominated (sets ∷ others ∷ new) (union (set_at sets place) t ∷ meets (remove sets place) moved)) same
          (before.all (against - 1) earlier moved (subst (λ l. Rearranged l moved) (sym (removed_same others against some under same)) p)))
    ];
  }

  pub before_step : (mid new : List (List (List ℕ))) → AreAllBefore sets others place against old mid → AreAllAt sets others place against mid new → AreAllBefore sets others place (against + 1) old new
  before_step mid new before here = record {
    stays = λ line h. here.stays line (before.stays line h);
    made = λ line h. elim (here.made line h) [ inl k ↦ before.made line k | inr m ↦ inr m ];
    all = λ q q_low. elim (cases_lt q against) [
      | inl less ↦ λ moved p. dominated_stays (sets ∷ others ∷ mid) (sets ∷ others ∷ new) (joined sets others place q moved) (both_stay sets others mid new here.stays) (before.all q less moved p)
      | inr ge ↦
          let at : q ≡ against = omega (arith, q_low, ge) in
          subst (λ k. AreDominatedAt sets others place k new) (sym at) here.all
    ];
  }

-- ---- all places of the first line
pub record AreAllPlaces (sets others : List (List ℕ)) (before : ℕ) (lines : List (List (List ℕ))) : Type 0 where
  pub made : (line : List (List ℕ)) → Contains lines line → IsCombination sets others line
  pub all : (place against : ℕ) → place < before → against < length others → AreDominatedAt sets others place against lines

module _ (sets others : List (List ℕ)) (place : ℕ) (low : place < length sets) where
  pub places_again : (lines : List (List (List ℕ))) → (0 < place) × (set_at sets (place - 1) ≡ set_at sets place) → AreAllPlaces sets others place lines → AreAllPlaces sets others (place + 1) lines
  places_again lines (some, same) before = record {
    made = before.made;
    all = λ q against q_low under. elim (cases_lt q place) [
      | inl less ↦ before.all q against less under
      | inr ge ↦
          let at : q ≡ place = omega (arith, q_low, ge) in
          let earlier : place - 1 < place = omega (arith, some) in
          subst (λ k. AreDominatedAt sets others k against lines) (sym at)
          (λ moved p. subst (λ s. IsDominated (sets ∷ others ∷ lines) (union s (set_at others against) ∷ meets (remove sets place) moved)) same
          (subst (λ r. IsDominated (sets ∷ others ∷ lines) (union (set_at sets (place - 1)) (set_at others against) ∷ meets r moved)) (removed_same sets place some low same)
          (before.all (place - 1) against earlier under moved p)))
    ];
  }

  pub places_step : (mid new : List (List (List ℕ))) → AreAllPlaces sets others place mid → AreAllBefore sets others place (length others) mid new → AreAllPlaces sets others (place + 1) new
  places_step mid new before here = record {
    made = λ line h. elim (here.made line h) [ inl k ↦ before.made line k | inr m ↦ m ];
    all = λ q against q_low under. elim (cases_lt q place) [
      | inl less ↦ λ moved p. dominated_stays (sets ∷ others ∷ mid) (sets ∷ others ∷ new) (joined sets others q against moved) (both_stay sets others mid new here.stays) (before.all q against less under moved p)
      | inr ge ↦
          let at : q ≡ place = omega (arith, q_low, ge) in
          subst (λ k. AreDominatedAt sets others k against new) (sym at) (here.all against under)
    ];
  }

pub places_all : (sets others : List (List ℕ)) (place : ℕ) (lines : List (List (List ℕ))) → length others ≡ length sets → length sets ≤ place → AreAllPlaces sets others place lines → AreAllOf sets others lines
places_all sets others place lines alike past before = record { made = before.made; all = all }
  where
    all : (i : ℕ) (moved : List (List ℕ)) → i < length sets → Rearranged others moved → IsDominated (sets ∷ others ∷ lines) (combined i sets moved)
    all i moved low p =
        let e : length moved ≡ length sets = (let a = length-Rearranged p in omega (arith, a, alike)) in
        let there : i < length moved = omega (arith, e, low) in
        let m = placed_first [] (chained p (front moved i [] there)) in
        let d = before.all i m.0 (omega (arith, low, past)) m.1 (remove moved i) m.3 in
        let here : IsDominated (sets ∷ others ∷ lines) (union (set_at sets i) (set_at moved i) ∷ meets (remove sets i) (remove moved i)) =
        subst (λ t. IsDominated (sets ∷ others ∷ lines) (union (set_at sets i) t ∷ meets (remove sets i) (remove moved i))) m.2 d in (
          here.0,
          here.1,
          Dominates-trans here.0 (union (set_at sets i) (set_at moved i) ∷ meets (remove sets i) (remove moved i)) (combined i sets moved) here.2
              (combined i sets moved, combined_front i sets moved low e, IsUnder-refl (combined i sets moved)),
        )

-- ---- what the calls give
pub meetings_next : (chosen : List (List ℕ)) (first : List ℕ) (rest left : List (List ℕ)) (place : ℕ) (old mid new : List (List (List ℕ))) (set both : List ℕ) (more more' fewer fewer' : List (List ℕ))
    → place < length left → set ≡ get_or left place set → both ≡ meet first set → Rearranged (both ∷ chosen) more → more' ≡ more → fewer ≡ remove left place → fewer' ≡ fewer
    → AreMeetingsBefore chosen first rest left place old mid → AreMeetings more' rest fewer' mid new → AreMeetingsBefore chosen first rest left (place + 1) old new
meetings_next chosen first rest left place old mid new set both more more' fewer fewer' low read is p e is_fewer f before here =
    meetings_step chosen first rest left place old low mid new more' fewer'
    (subst (λ b. Rearranged (b ∷ chosen) more') (is ∙ ap (meet first) (sym (read_at left place set low read))) (subst (Rearranged (both ∷ chosen)) (sym e) p))
    (f ∙ is_fewer) before here

pub at_found : (sets others : List (List ℕ)) (place against : ℕ) (old new : List (List (List ℕ))) (set other both : List ℕ) (rest rest' left left' : List (List ℕ))
    → place < length sets → against < length others → length others ≡ length sets → set ≡ get_or sets place set → other ≡ get_or others against other → both ≡ union set other
    → rest ≡ remove sets place → rest' ≡ rest → left ≡ remove others against → left' ≡ left → AreMeetings (both ∷ []) rest' left' old new → AreAllAt sets others place against old new
at_found sets others place against old new set other both rest rest' left left' low under alike read read_other is is_rest e is_left f here =
    at_meetings sets others place against low under alike old new rest' left' (e ∙ is_rest) (f ∙ is_left)
    (subst (λ b. AreMeetings (b ∷ []) rest' left' old new) (is ∙ (λ i. union (sym (read_at sets place set low read) i) (sym (read_at others against other under read_other) i))) here)

pub at_nested : (sets others : List (List ℕ)) (place against : ℕ) (old : List (List (List ℕ))) (set other : List ℕ) → place < length sets → against < length others → length others ≡ length sets
    → set ≡ get_or sets place set → other ≡ get_or others against other → IsWithin set other ⊎ IsWithin other set → AreAllAt sets others place against old old
at_nested sets others place against old set other low under alike read read_other held =
    at_held sets others place against low under alike old
    (subst (λ s. IsWithin s (set_at others against) ⊎ IsWithin (set_at others against) s) (sym (read_at sets place set low read))
    (subst (λ t. IsWithin set t ⊎ IsWithin t set) (sym (read_at others against other under read_other)) held))

pub left_counts : (sets others rest rest' left left' : List (List ℕ)) (place against : ℕ) → place < length sets → against < length others → length others ≡ length sets
    → rest ≡ remove sets place → rest' ≡ rest → left ≡ remove others against → left' ≡ left → length left' ≡ length rest'
left_counts sets others rest rest' left left' place against low under alike is e is_left f =
    let a = ap length (e ∙ is) in
    let b = ap length (f ∙ is_left) in
    let c = length-remove sets place low in
    let d = length-remove others against under in
    omega (arith, a, b, c, d, alike)
