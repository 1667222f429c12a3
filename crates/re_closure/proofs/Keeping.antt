-- The lines that are kept and those that wait, line after line.
use Rattle.std.proofs.Common.{◌≡◌, ℕ, zero, suc, ◌+◌, ◌<◌, ◌≤◌, List, [], ◌∷◌, ◌++◌, length, take, get_or, refl, sym, ap, ◌∙◌, subst, ◌⊎◌, inl, inr, arith}
use Rattle.std.specs.Prelude.{Contains, ◌↔◌}
use Rattle.std.specs.List.{swap_remove}
use Rattle.std.specs.Result.{IsErrAnd}
use Rattle.std.proofs.lemmas.List.{take_all, take_more}
use Rattle.std.proofs.lemmas.List.Sorted.{Contains-permutation, IsPermutation-swap_remove, IsPermutation-sym}
use Rattle.std.proofs.Common.{true, false, Result, Ok, Err}
use Rattle.std.proofs.lemmas.Bool.{false≢true}
use Rattle.re_labels.proofs.Placing.{Dominates-dominates, Dominates-refl, Dominates-trans, Rearranged-placed, dominates-Dominates, length-combined, placed-Rearranged}
use Rattle.re_labels.proofs.Rearranging.{Rearranged-sym, length-Rearranged}
use Rattle.re_labels.specs.Orders.{placements}
use Rattle.re_labels.specs.Rearranging.{Rearranged}
use Rattle.re_labels.specs.Rows.{Dominates, IsUnder, combined, dominates, meets, placed}
use Rattle.re_labels.specs.declared.TheConstants.{MAX_ROWS}
use Rattle.re_labels.proofs.Membership.{Contains-In, Contains-cases, Contains-here, Contains-later, Contains-none, In-Contains}
use Rattle.re_labels.proofs.Sets.{IsIn-meet, IsIn-meet_cases, IsIn-union, IsIn-union_cases}
use Rattle.re_labels.specs.Sets.{IsWithin, meet, union}
use Rattle.re_labels.proofs.Lists.{Contains-last, Contains-more, Contains-more_cases}
use Rattle.re_labels.proofs.Closure.{combined_along}
use Rattle.re_labels.specs.GoodRows.{IsDominated}
use Rattle.re_closure_laws.proofs.Monotone.{generated_law}
use Rattle.re_closure_laws.specs.Closures.{AreTopmost, IsGenerated}
use Rattle.re_closure_laws.specs.Closures.IsGenerated.{combine, move, start}
use Rattle.re_closure_laws.specs.Lines.{AreClosed}
use Rattle.re_boxes.proofs.BoxLaw.{same_shape}
use Rattle.re_closure.specs.Combining.{AreAllOf, IsCombination}
use Rattle.re_closure.specs.declared.topmost.LinesFault.{LinesFault}
use Rattle.re_closure.specs.Kept.{AreOfLength, AreOffered, AreSettled, AreSettledBefore, AreUnrelated, HasManyLines, IsAntichain, IsCovered, IsKept, IsTaken}

-- ---- a list by its first elements
pub in_take_more : {X : Type 0} (xs : List X) (i : ℕ) (x z : X) → i < length xs → x ≡ get_or xs i x → Contains (take (i + 1) xs) z → Contains (take i xs) z ⊎ (z ≡ x)
in_take_more xs i x z low is held = Contains-more_cases (take i xs) x z (subst (λ l. Contains l z) (take_more xs i x low ∙ ap (λ y. take i xs ++ y ∷ []) (sym is)) held)

pub in_take_before : {X : Type 0} (xs : List X) (i : ℕ) (x z : X) → i < length xs → x ≡ get_or xs i x → Contains (take i xs) z → Contains (take (i + 1) xs) z
in_take_before xs i x z low is held = subst (λ l. Contains l z) (sym (take_more xs i x low ∙ ap (λ y. take i xs ++ y ∷ []) (sym is))) (Contains-more (take i xs) x z held)

pub in_take_last : {X : Type 0} (xs : List X) (i : ℕ) (x : X) → i < length xs → x ≡ get_or xs i x → Contains (take (i + 1) xs) x
in_take_last xs i x low is = subst (λ l. Contains l x) (sym (take_more xs i x low ∙ ap (λ y. take i xs ++ y ∷ []) (sym is))) (Contains-last (take i xs) x)

-- ---- antichains
-- a line that no line of an antichain is related to may stand behind it
pub antichain_more : (lines : List (List (List ℕ))) (x : List (List ℕ)) → IsAntichain lines → ((other : List (List ℕ)) → Contains lines other → AreUnrelated other x) → IsAntichain (lines ++ x ∷ [])
antichain_more [] x chain apart = ((λ other h. absurd (Contains-none other h)), tt)
antichain_more (line ∷ lines) x chain apart = (
  (λ other h. elim (Contains-more_cases lines x other h) [ inl k ↦ chain.0 other k | inr e ↦ subst (AreUnrelated line) (sym e) (apart line (Contains-here line lines)) ]),
  antichain_more lines x chain.1 (λ other h. apart other (Contains-later other line lines h)),
)

-- a line of an antichain isn't related to those before it
pub antichain_at : (lines : List (List (List ℕ))) (i : ℕ) (x other : List (List ℕ)) → IsAntichain lines → i < length lines → x ≡ get_or lines i x → Contains (take i lines) other → AreUnrelated other x
antichain_at [] i x other chain low is held = absurd (omega arith)
antichain_at (line ∷ lines) zero x other chain low is held = absurd (Contains-none other held)
antichain_at (line ∷ lines) (suc i) x other chain low is held = elim (Contains-cases other line (take i lines) held) [
  | inl e ↦ subst (λ l. AreUnrelated l x) (sym e) (chain.0 x (i, omega arith, sym is))
  | inr k ↦ antichain_at lines i x other chain.1 (omega arith) is k
]

-- ---- covered lines
pub covered_under : (kept waiting : List (List (List ℕ))) (r t moved : List (List ℕ)) → Rearranged r moved → IsUnder t moved → IsCovered kept waiting r → IsCovered kept waiting t
covered_under kept waiting r t moved p u (inl (top, held, dom)) = inl (top, held, Dominates-trans top r t dom (moved, p, u))
covered_under kept waiting r t moved p u (inr (top, held, dom)) = inr (top, held, Dominates-trans top r t dom (moved, p, u))

pub covered_stays : (kept old new : List (List (List ℕ))) (line : List (List ℕ)) → ((other : List (List ℕ)) → Contains old other → Contains new other) → IsCovered kept old line → IsCovered kept new line
covered_stays kept old new line stays (inl c) = inl c
covered_stays kept old new line stays (inr (top, held, dom)) = inr (top, stays top held, dom)

-- ---- lines without those that a line dominates
module _ (top : List (List ℕ)) (lines left : List (List (List ℕ))) (i : ℕ) (x : List (List ℕ)) (low : i < length lines) (is : x ≡ get_or lines i x)
    (before : (line : List (List ℕ)) → Contains left line ↔ (Contains (take i lines) line × (Dominates top line → ⊥))) where
  pub left_out : Dominates top x → (line : List (List ℕ)) → Contains left line ↔ (Contains (take (i + 1) lines) line × (Dominates top line → ⊥))
  left_out dom line = (
    (λ h. let two = (before line).0 h in (in_take_before lines i x line low is two.0, two.1)),
    (λ h. elim (in_take_more lines i x line low is h.0) [ inl k ↦ (before line).1 (k, h.1) | inr e ↦ absurd (h.1 (subst (Dominates top) (sym e) dom)) ]),
  )

  pub left_in : (more : List (List (List ℕ))) (copy : List (List ℕ)) → (Dominates top x → ⊥) → copy ≡ x → more ≡ left ++ copy ∷ [] → (line : List (List ℕ))
      → Contains more line ↔ (Contains (take (i + 1) lines) line × (Dominates top line → ⊥))
  left_in more copy free same pushed line = subst (λ m. Contains m line ↔ (Contains (take (i + 1) lines) line × (Dominates top line → ⊥))) (sym (pushed ∙ ap (λ c. left ++ c ∷ []) same)) (
    (λ h. elim (Contains-more_cases left x line h) [
      | inl k ↦ let two = (before line).0 k in (in_take_before lines i x line low is two.0, two.1)
      | inr e ↦ (subst (Contains (take (i + 1) lines)) (sym e) (in_take_last lines i x low is), λ dom. free (subst (Dominates top) e dom))
    ]),
    (λ h. elim (in_take_more lines i x line low is h.0) [ inl k ↦ Contains-more left x line ((before line).1 (k, h.1)) | inr e ↦ subst (Contains (left ++ x ∷ [])) (sym e) (Contains-last left x) ]),
  )

pub left_antichain : (top : List (List ℕ)) (lines left : List (List (List ℕ))) (i : ℕ) (x : List (List ℕ)) → i < length lines → x ≡ get_or lines i x
    → ((line : List (List ℕ)) → Contains left line ↔ (Contains (take i lines) line × (Dominates top line → ⊥))) → (more : List (List (List ℕ))) (copy : List (List ℕ)) → copy ≡ x → more ≡ left ++ copy ∷ []
    → IsAntichain lines → IsAntichain left → IsAntichain more
left_antichain top lines left i x low is before more copy same pushed chain so_far =
    subst IsAntichain (sym (pushed ∙ ap (λ c. left ++ c ∷ []) same)) (antichain_more left x so_far (λ other h. antichain_at lines i x other chain low is ((before other).0 h).0))

pub left_all : (top : List (List ℕ)) (lines left : List (List (List ℕ))) (i : ℕ) → length lines ≤ i → ((line : List (List ℕ)) → Contains left line ↔ (Contains (take i lines) line × (Dominates top line → ⊥)))
    → (line : List (List ℕ)) → Contains left line ↔ (Contains lines line × (Dominates top line → ⊥))
left_all top lines left i past before line = subst (λ l. Contains left line ↔ (Contains l line × (Dominates top line → ⊥))) (take_all i lines past) (before line)

-- ---- offered lines
module _ (kept found old mid : List (List (List ℕ))) (i : ℕ) (x : List (List ℕ)) (low : i < length found) (is : x ≡ get_or found i x) (before : AreOffered kept (take i found) old mid) where
  pub offered_held : IsDominated kept x → AreOffered kept (take (i + 1) found) old mid
  offered_held dom = record {
    stays = before.stays;
    made = λ line h. elim (before.made line h) [ inl k ↦ inl k | inr k ↦ inr (in_take_before found i x line low is k) ];
    all = λ line h. elim (in_take_more found i x line low is h) [ inl k ↦ before.all line k | inr e ↦ inl (subst (IsDominated kept) (sym e) dom) ];
  }

  pub offered_more : (new : List (List (List ℕ))) (copy : List (List ℕ)) → copy ≡ x → new ≡ mid ++ copy ∷ [] → AreOffered kept (take (i + 1) found) old new
  offered_more new copy same pushed = subst (AreOffered kept (take (i + 1) found) old) (sym (pushed ∙ ap (λ c. mid ++ c ∷ []) same)) (record {
    stays = λ line h. Contains-more mid x line (before.stays line h);
    made = λ line h. elim (Contains-more_cases mid x line h) [
      | inl k ↦ elim (before.made line k) [ inl m ↦ inl m | inr m ↦ inr (in_take_before found i x line low is m) ]
      | inr e ↦ inr (subst (Contains (take (i + 1) found)) (sym e) (in_take_last found i x low is))
    ];
    all = λ line h. elim (in_take_more found i x line low is h) [
      | inl k ↦ covered_stays kept mid (mid ++ x ∷ []) line (λ other held. Contains-more mid x other held) (before.all line k)
      | inr e ↦ inr (x, Contains-last mid x, subst (Dominates x) (sym e) (Dominates-refl x))
    ];
  })

-- ---- the combinations of a line with kept lines
module _ (kept old mid : List (List (List ℕ))) (line : List (List ℕ)) (k : ℕ) (x : List (List ℕ)) (low : k < length kept) (is : x ≡ get_or kept k x)
    (before : AreSettledBefore kept line (take k kept) old mid) where
  pub settled_other : (length x ≡ length line → ⊥) → AreSettledBefore kept line (take (k + 1) kept) old mid
  settled_other odd = record {
    stays = before.stays;
    made = before.made;
    all = λ other moved i here h e. elim (in_take_more kept k x other low is h) [
      | inl m ↦ before.all other moved i here m e
      | inr same ↦ absurd (odd (ap length (sym same) ∙ e))
    ];
  }

  pub settled_more : (found new : List (List (List ℕ))) → length x ≡ length line → AreAllOf line x found → AreOffered kept found mid new → AreSettledBefore kept line (take (k + 1) kept) old new
  settled_more found new alike combinations offered = record {
    stays = λ other h. offered.stays other (before.stays other h);
    made = λ both h. elim (offered.made both h) [
      | inl m ↦ before.made both m
      | inr m ↦ inr (x, (k, low, sym is), alike, combinations.made both m)
    ];
    all = λ other moved i here h e p i_low. elim (in_take_more kept k x other low is h) [
      | inl m ↦ covered_stays kept mid new (combined i line moved) offered.stays (before.all other moved i here m e p i_low)
      | inr same ↦ of_three here (combined i line moved) (combinations.all i moved i_low (subst (λ o. Rearranged o moved) same p))
    ];
  }
    where
      of_three : Contains kept line → (both : List (List ℕ)) → IsDominated (line ∷ x ∷ found) both → IsCovered kept new both
      of_three here both (top, held, dom) = elim (Contains-cases top line (x ∷ found) held) [
        | inl e ↦ inl (line, here, subst (λ t. Dominates t both) e dom)
        | inr h ↦ elim (Contains-cases top x found h) [
          | inl e ↦ inl (x, (k, low, sym is), subst (λ t. Dominates t both) e dom)
          | inr m ↦ through (offered.all top m)
        ]
      ]
        where
          through : IsCovered kept new top → IsCovered kept new both
          through (inl (t, at, d)) = inl (t, at, Dominates-trans t top both d dom)
          through (inr (t, at, d)) = inr (t, at, Dominates-trans t top both d dom)

-- ---- a combination the other way round
meet_other : (s t : List ℕ) → IsWithin (meet s t) (meet t s)
meet_other s t x i = let two = IsIn-meet_cases s t x i in IsIn-meet t s x two.1 two.0

union_other : (s t : List ℕ) → IsWithin (union s t) (union t s)
union_other s t x i = elim (IsIn-union_cases s t x i) [ inl a ↦ IsIn-union t s x (inr a) | inr b ↦ IsIn-union t s x (inl b) ]

meets_other : (r u : List (List ℕ)) → length r ≡ length u → IsUnder (meets r u) (meets u r)
meets_other [] [] e = tt
meets_other [] (t ∷ u) e = absurd (omega arith)
meets_other (s ∷ r) [] e = absurd (omega arith)
meets_other (s ∷ r) (t ∷ u) e = (meet_other s t, meets_other r u (omega arith))

combined_other : (i : ℕ) (r u : List (List ℕ)) → length r ≡ length u → IsUnder (combined i r u) (combined i u r)
combined_other i [] [] e = tt
combined_other i [] (t ∷ u) e = absurd (omega arith)
combined_other i (s ∷ r) [] e = absurd (omega arith)
combined_other zero (s ∷ r) (t ∷ u) e = (union_other s t, meets_other r u (omega arith))
combined_other (suc i) (s ∷ r) (t ∷ u) e = (meet_other s t, combined_other i r u (omega arith))

-- ---- the kept lines and those that wait
pub kept_begin : (d : ℕ) (starts kept : List (List (List ℕ))) → kept ≡ [] → AreOfLength d starts → IsKept d starts kept starts
kept_begin d starts kept e count = subst (λ k. IsKept d starts k starts) (sym e) (record {
  generated = λ line h. elim h [ inl k ↦ absurd (Contains-none line k) | inr k ↦ start k ];
  count = λ line h. elim h [ inl k ↦ absurd (Contains-none line k) | inr k ↦ count line k ];
  apart = λ line other h k dom. absurd (Contains-none line h);
  begun = λ line h. inr (line, h, Dominates-refl line);
  combinations = λ line other moved i h. absurd (Contains-none line h);
})

pub kept_taken : (d : ℕ) (starts kept waiting left : List (List (List ℕ))) (line : List (List ℕ)) → IsTaken waiting line left → IsKept d starts kept waiting → IsKept d starts kept (line ∷ left)
kept_taken d starts kept waiting left line taken before = record {
  generated = λ other h. elim h [ inl k ↦ before.generated other (inl k) | inr k ↦ before.generated other (inr (taken.has other k)) ];
  count = λ other h. elim h [ inl k ↦ before.count other (inl k) | inr k ↦ before.count other (inr (taken.has other k)) ];
  apart = before.apart;
  begun = λ other h. covered_stays kept waiting (line ∷ left) other taken.had (before.begun other h);
  combinations = λ one other moved i h k p low. covered_stays kept waiting (line ∷ left) (combined i one moved) taken.had (before.combinations one other moved i h k p low);
}

-- a line that a kept one dominates isn't wanted
pub kept_dominated : (d : ℕ) (starts kept waiting : List (List (List ℕ))) (line : List (List ℕ)) → IsDominated kept line → IsKept d starts kept (line ∷ waiting) → IsKept d starts kept waiting
kept_dominated d starts kept waiting line (top, at, dom) before = record {
  generated = λ other h. before.generated other (later other h);
  count = λ other h. before.count other (later other h);
  apart = before.apart;
  begun = λ other h. less other (before.begun other h);
  combinations = λ one other moved i h k p low. less (combined i one moved) (before.combinations one other moved i h k p low);
}
  where
    later : (other : List (List ℕ)) → Contains kept other ⊎ Contains waiting other → Contains kept other ⊎ Contains (line ∷ waiting) other
    later other (inl h) = inl h
    later other (inr h) = inr (Contains-later other line waiting h)

    less : (other : List (List ℕ)) → IsCovered kept (line ∷ waiting) other → IsCovered kept waiting other
    less other (inl c) = inl c
    less other (inr (t, held, d')) = elim (Contains-cases t line waiting held) [
      | inl e ↦ inl (top, at, Dominates-trans top line other dom (subst (λ w. Dominates w other) e d'))
      | inr k ↦ inr (t, k, d')
    ]

-- a line that none dominates is kept in place of those that it dominates, and its combinations wait
module _ (d : ℕ) (starts old left new waiting more : List (List (List ℕ))) (line copy : List (List ℕ)) (free : IsDominated old line → ⊥)
    (of_old : (other : List (List ℕ)) → Contains left other ↔ (Contains old other × (Dominates line other → ⊥))) (same : copy ≡ line) (pushed : new ≡ left ++ copy ∷ [])
    (settled : AreSettled new line waiting more) (before : IsKept d starts old (line ∷ waiting)) where
  in_new : (other : List (List ℕ)) → Contains new other → (Contains left other) ⊎ (other ≡ line)
  in_new other h = Contains-more_cases left line other (subst (λ l. Contains l other) (pushed ∙ ap (λ c. left ++ c ∷ []) same) h)

  is_new : Contains new line
  is_new = subst (λ l. Contains l line) (sym (pushed ∙ ap (λ c. left ++ c ∷ []) same)) (Contains-last left line)

  still : (other : List (List ℕ)) → Contains left other → Contains new other
  still other h = subst (λ l. Contains l other) (sym (pushed ∙ ap (λ c. left ++ c ∷ []) same)) (Contains-more left line other h)

  first_waits : (other : List (List ℕ)) → (other ≡ line) → Contains old other ⊎ Contains (line ∷ waiting) other
  first_waits other e = inr (subst (Contains (line ∷ waiting)) (sym e) (Contains-here line waiting))

  from_old : (other : List (List ℕ)) → Contains new other → Contains old other ⊎ Contains (line ∷ waiting) other
  from_old other h = elim (in_new other h) [ inl k ↦ inl ((of_old other).0 k).0 | inr e ↦ first_waits other e ]

  line_count : length line ≡ d
  line_count = before.count line (inr (Contains-here line waiting))

  line_generated : IsGenerated d starts line
  line_generated = before.generated line (inr (Contains-here line waiting))

  -- a dominated line is so still
  by_new : (other top : List (List ℕ)) → Contains old top → Dominates top other → IsDominated new other
  by_new other top held dom = elim (dominates line top) as (λ b. dominates line top ≡ b → IsDominated new other) [
    | true ↦ λ e. (line, is_new, Dominates-trans line top other (dominates-Dominates line top e) dom)
    | false ↦ λ e. (top, still top ((of_old top).1 (held, λ over. false≢true (sym e ∙ Dominates-dominates line top over))), dom)
  ] refl

  covered : (other : List (List ℕ)) → IsCovered old (line ∷ waiting) other → IsCovered new more other
  covered other (inl (top, held, dom)) = inl (by_new other top held dom)
  covered other (inr (top, held, dom)) = elim (Contains-cases top line waiting held) [
    | inl e ↦ inl (line, is_new, subst (λ w. Dominates w other) e dom)
    | inr k ↦ inr (top, settled.stays top k, dom)
  ]

  combination_from : (other both : List (List ℕ)) → Contains new other → IsCombination line other both → IsGenerated d starts both
  combination_from other both held (i, moved, low, p, q) =
      let g = before.generated other (from_old other held) in
      let e : length other ≡ d = before.count other (from_old other held) in
      let o = placed-Rearranged other moved p in
      let listed : Contains (placements d) o.0 = subst (λ m. Contains (placements m) o.0) e (In-Contains o.0 (placements (length other)) o.1) in
      move (combine line_generated g listed (subst (λ m. i < m) line_count low)) (subst (λ w. Rearranged (combined i line w) both) o.2 q)

  length_both : (other both : List (List ℕ)) → length other ≡ length line → IsCombination line other both → length both ≡ d
  length_both other both alike (i, moved, low, p, q) =
      let a = length-Rearranged p in
      let b = length-Rearranged q in
      let c = length-combined i line moved (omega (arith, a, alike)) in
      omega (arith, b, c, line_count)

  waits : (other : List (List ℕ)) → Contains more other → IsGenerated d starts other × (length other ≡ d)
  waits other h = elim (settled.made other h) [
    | inl k ↦ (before.generated other (inr (Contains-later other line waiting k)), before.count other (inr (Contains-later other line waiting k)))
    | inr (with, at, alike, m) ↦ (combination_from with other at m, length_both with other alike m)
  ]

  -- the combination of a kept line with the new one
  other_way : (one moved : List (List ℕ)) (i : ℕ) → Contains new one → Rearranged line moved → i < d → IsCovered new more (combined i one moved)
  other_way one moved i held p low =
      let one_count : length one ≡ d = before.count one (from_old one held) in
      let e = length-Rearranged p in
      let same_count : length moved ≡ length one = omega (arith, e, one_count, line_count) in
      let m = combined_along (Rearranged-sym p) i (omega (arith, e, low, line_count)) one (same_shape moved one same_count) in
      let j_low : m.1 < length line = m.5 in
      covered_under new more (combined m.1 line m.0) (combined i one moved) (combined i moved one) (Rearranged-sym m.3) (combined_other i one moved (sym same_count))
      (settled.all one m.0 m.1 is_new held (one_count ∙ sym line_count) m.2 j_low)

  pub kept_more : IsKept d starts new more
  kept_more = record {
    generated = λ other h. elim h [ inl k ↦ before.generated other (from_old other k) | inr k ↦ (waits other k).0 ];
    count = λ other h. elim h [ inl k ↦ before.count other (from_old other k) | inr k ↦ (waits other k).1 ];
    apart = λ one other h k dom. elim (in_new one h) [
      | inl a ↦ elim (in_new other k) [
        | inl b ↦ before.apart one other ((of_old one).0 a).0 ((of_old other).0 b).0 dom
        | inr f ↦ absurd (free (one, ((of_old one).0 a).0, subst (Dominates one) f dom))
      ]
      | inr e ↦ elim (in_new other k) [
        | inl b ↦ absurd (((of_old other).0 b).1 (subst (λ w. Dominates w other) e dom))
        | inr f ↦ e ∙ sym f
      ]
    ];
    begun = λ other h. covered other (before.begun other h);
    combinations = λ one other moved i h k p low. elim (in_new one h) [
      | inl a ↦ elim (in_new other k) [
        | inl b ↦ covered (combined i one moved) (before.combinations one other moved i ((of_old one).0 a).0 ((of_old other).0 b).0 p low)
        | inr f ↦ other_way one moved i h (subst (λ w. Rearranged w moved) f p) low
      ]
      | inr e ↦ subst (λ w. IsCovered new more (combined i w moved)) (sym e)
          (settled.all other moved i is_new k (before.count other (from_old other k) ∙ sym line_count) p (subst (λ m. i < m) (sym line_count) low))
    ];
  }

-- where the line can't be kept, it and those that are left are too many
pub many_lines : (d : ℕ) (starts old left waiting : List (List (List ℕ))) (line : List (List ℕ)) → (IsDominated old line → ⊥)
    → ((other : List (List ℕ)) → Contains left other ↔ (Contains old other × (Dominates line other → ⊥))) → IsAntichain left → MAX_ROWS ≤ length left
    → IsKept d starts old (line ∷ waiting) → HasManyLines d starts
many_lines d starts old left waiting line free of_old chain many before = record {
  lines = line ∷ left;
  generated = λ other h. elim (Contains-cases other line left h) [
    | inl e ↦ before.generated other (inr (subst (Contains (line ∷ waiting)) (sym e) (Contains-here line waiting)))
    | inr k ↦ before.generated other (inl ((of_old other).0 k).0)
  ];
  unrelated = ((λ other h. (((of_old other).0 h).1, λ dom. free (other, ((of_old other).0 h).0, dom))), chain);
  many = omega (arith, many);
}

-- the line is kept behind those that are left
pub antichain_kept : (old left new : List (List (List ℕ))) (line copy : List (List ℕ)) → (IsDominated old line → ⊥)
    → ((other : List (List ℕ)) → Contains left other ↔ (Contains old other × (Dominates line other → ⊥))) → copy ≡ line → new ≡ left ++ copy ∷ [] → IsAntichain left → IsAntichain new
antichain_kept old left new line copy free of_old same pushed chain =
    subst IsAntichain (sym (pushed ∙ ap (λ c. left ++ c ∷ []) same))
    (antichain_more left line chain (λ other h. ((λ dom. free (other, ((of_old other).0 h).0, dom)), ((of_old other).0 h).1)))

-- where nothing waits, the kept lines are the topmost ones
pub kept_topmost : (d : ℕ) (starts kept waiting : List (List (List ℕ))) → length waiting ≡ 0 → IsKept d starts kept waiting → AreTopmost d starts kept
kept_topmost d starts lines waiting none is = record {
  generated = λ line h. is.generated line (inl h);
  dominate = generated_law d starts lines (λ line h. is.count line (inl h)) closed (λ line h. by_kept line (is.begun line h));
  apart = is.apart;
}
  where
    by_kept : (line : List (List ℕ)) → IsCovered lines waiting line → IsDominated lines line
    by_kept line (inl c) = c
    by_kept line (inr (top, (k, low, e), dom)) = absurd (omega (arith, low, none))

    closed : AreClosed d lines
    closed line other order i h k listed low =
        let e = is.count other (inl k) in
        by_kept (combined i line (placed other order))
        (is.combinations line other (placed other order) i h k (Rearranged-placed other order (Contains-In order (placements (length other)) (subst (λ m. Contains (placements m) order) (sym e) listed))) low)

-- ---- a line taken from a list
pub taken : (xs left : List (List (List ℕ))) (i : ℕ) (x : List (List ℕ)) → i < length xs → x ≡ get_or xs i x → left ≡ swap_remove xs i x → IsTaken xs x left
taken xs left i x low is e = subst (IsTaken xs x) (sym e) (record {
  had = λ other h. Contains-permutation xs (x ∷ swap_remove xs i x) other (IsPermutation-swap_remove xs i x low is) h;
  has = λ other h. Contains-permutation (x ∷ swap_remove xs i x) xs other (IsPermutation-sym xs (x ∷ swap_remove xs i x) (IsPermutation-swap_remove xs i x low is)) h;
})

-- ---- faults
pub err_is : {X : Type 0} (r : Result X LinesFault) (fault wanted : LinesFault) → IsErrAnd r (λ e. e ≡ fault) → r ≡ Err wanted → fault ≡ wanted
err_is (Ok x) fault wanted gives e = cc
err_is {X} (Err f) fault wanted gives e = let same : f ≡ wanted = cc in sym gives ∙ same
