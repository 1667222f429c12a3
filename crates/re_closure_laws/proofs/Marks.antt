-- A mark that each set holds, left out.
use Rattle.std.proofs.Common.{◌≡◌, ℕ, zero, suc, true, false, not, eqb, List, [], ◌∷◌, length, map, refl, sym, ap, ◌∙◌, subst, inl, inr}
use Rattle.std.specs.Prelude.{Contains}
use Rattle.std.specs.List.{AllByRecursion}
use Rattle.std.proofs.lemmas.Bool.{false≢true}
use Rattle.re_labels.proofs.Rearranging.{Rearranged-map}
use Rattle.re_labels.proofs.Sorting.{AllByRecursion-Rearranged}
use Rattle.re_labels.specs.Rearranging.{Rearranged}
use Rattle.re_labels.specs.Rows.{Dominates, IsUnder, combined, meets, placed, set_at}
use Rattle.re_labels.proofs.Membership.{AllByRecursion-weaker, Contains-filter, Contains-filter_cases, Contains-map, Contains-map_cases}
use Rattle.re_labels.proofs.Numbers.{IsLabelSet-filter, IsLabelSet-union}
use Rattle.re_labels.proofs.Sets.{IsIn-meet, IsIn-meet_cases, IsIn-union, IsIn-union_cases}
use Rattle.re_labels.proofs.Tests.{eqb-same, eqb-true}
use Rattle.re_labels.specs.Sets.{IsIn, IsLabelSet, IsWithin, has, meet, union, without_label}
use Rattle.re_labels.specs.GoodRows.{IsDominated}
use Rattle.re_closure_laws.proofs.Generated.{fit, same_set}
use Rattle.re_closure_laws.proofs.Unders.{map_moved}
use Rattle.re_closure_laws.specs.Closures.{AreTopmost, IsGenerated, IsMarked, unmarked}
use Rattle.re_closure_laws.specs.Closures.IsGenerated.{combine, move, start}
use Rattle.re_closure_laws.specs.Laws.{MarkedLaw}
use Rattle.re_closure_laws.specs.Lines.{AreApart}

module _ (n mark : ℕ) where
  abbrev off : List ℕ → List ℕ
  off s = without_label s mark

  in_off : (s : List ℕ) (x : ℕ) → IsIn x s → (x ≡ mark → ⊥) → IsIn x (without_label s mark)
  in_off s x i other = Contains-filter (λ y. not (eqb y mark)) s x i
      (elim (eqb x mark) as (λ b. eqb x mark ≡ b → not b ≡ true) [ true ↦ λ e. absurd (other (eqb-true x mark e)) | false ↦ λ e. refl ] refl)

  of_off : (s : List ℕ) (x : ℕ) → IsIn x (without_label s mark) → IsIn x s × (x ≡ mark → ⊥)
  of_off s x i =
      let two = Contains-filter_cases (λ y. not (eqb y mark)) s x i in
      (two.0, λ e. false≢true (ap not (sym (subst (λ w. eqb w mark ≡ true) (sym e) (eqb-same mark))) ∙ two.1))

  off_set : (s : List ℕ) → IsLabelSet n s → IsLabelSet n (without_label s mark)
  off_set s h = IsLabelSet-filter (λ y. not (eqb y mark)) n s h

  off-more : (s t : List ℕ) → IsWithin s t → IsWithin (without_label s mark) (without_label t mark)
  off-more s t h x i = let two = of_off s x i in in_off t x (h x two.0) two.1

  off-back : (s t : List ℕ) → IsIn mark t → IsWithin (without_label s mark) (without_label t mark) → IsWithin s t
  off-back s t held h x i = elim (eqb x mark) as (λ b. eqb x mark ≡ b → IsIn x t) [
    | true ↦ λ e. subst (λ w. IsIn w t) (sym (eqb-true x mark e)) held
    | false ↦ λ e. (of_off t x (h x (in_off s x i (λ same. false≢true (sym e ∙ subst (λ w. eqb w mark ≡ true) (sym same) (eqb-same mark)))))).0
  ] refl

  off-union : (s t : List ℕ) → IsLabelSet n s → IsLabelSet n t → without_label (union s t) mark ≡ union (without_label s mark) (without_label t mark)
  off-union s t h k = same_set n (off (union s t)) (union (off s) (off t)) (off_set (union s t) (IsLabelSet-union n s t h k.1)) (IsLabelSet-union n (off s) (off t) (off_set s h) (off_set t k).1)
      (λ x i. let two = of_off (union s t) x i in IsIn-union (off s) (off t) x (elim (IsIn-union_cases s t x two.0) [ inl a ↦ inl (in_off s x a two.1) | inr b ↦ inr (in_off t x b two.1) ]))
      (λ x i. elim (IsIn-union_cases (off s) (off t) x i) [
        | inl a ↦ let two = of_off s x a in in_off (union s t) x (IsIn-union s t x (inl two.0)) two.1
        | inr b ↦ let two = of_off t x b in in_off (union s t) x (IsIn-union s t x (inr two.0)) two.1
      ])

  off-meet : (s t : List ℕ) → IsLabelSet n s → IsLabelSet n t → without_label (meet s t) mark ≡ meet (without_label s mark) (without_label t mark)
  off-meet s t h k = same_set n (off (meet s t)) (meet (off s) (off t)) (off_set (meet s t) (IsLabelSet-filter (has t) n s h)) (IsLabelSet-filter (has (off t)) n (off s) (off_set s h))
      (λ x i. let two = of_off (meet s t) x i in let both = IsIn-meet_cases s t x two.0 in IsIn-meet (off s) (off t) x (in_off s x both.0 two.1) (in_off t x both.1 two.1))
      (λ x i. let both = IsIn-meet_cases (off s) (off t) x i in let a = of_off s x both.0 in in_off (meet s t) x (IsIn-meet s t x a.0 (of_off t x both.1).0) a.1)

  off-meets : (r u : List (List ℕ)) → AllByRecursion (IsLabelSet n) r → AllByRecursion (IsLabelSet n) u → unmarked mark (meets r u) ≡ meets (unmarked mark r) (unmarked mark u)
  off-meets [] u h k = refl
  off-meets (s ∷ r) [] h k = refl
  off-meets (s ∷ r) (t ∷ u) h k = (λ i. off-meet s t h.0 k.0 i ∷ off-meets r u h.1 k.1 i)

  off-combined : (i : ℕ) (r u : List (List ℕ)) → AllByRecursion (IsLabelSet n) r → AllByRecursion (IsLabelSet n) u → unmarked mark (combined i r u) ≡ combined i (unmarked mark r) (unmarked mark u)
  off-combined i [] u h k = refl
  off-combined i (s ∷ r) [] h k = refl
  off-combined zero (s ∷ r) (t ∷ u) h k = (λ i. off-union s t h.0 k.0 i ∷ off-meets r u h.1 k.1 i)
  off-combined (suc j) (s ∷ r) (t ∷ u) h k = (λ i. off-meet s t h.0 k.0 i ∷ off-combined j r u h.1 k.1 i)

  off-at : (u : List (List ℕ)) (k : ℕ) → set_at (unmarked mark u) k ≡ without_label (set_at u k) mark
  off-at [] k = refl
  off-at (s ∷ u) zero = refl
  off-at (s ∷ u) (suc k) = off-at u k

  off-placed : (u : List (List ℕ)) (order : List ℕ) → placed (unmarked mark u) order ≡ unmarked mark (placed u order)
  off-placed u [] = refl
  off-placed u (k ∷ order) = (λ i. off-at u k i ∷ off-placed u order i)

  set_at_set : (u : List (List ℕ)) (k : ℕ) → AllByRecursion (IsLabelSet n) u → IsLabelSet n (set_at u k)
  set_at_set [] k h = (tt, tt)
  set_at_set (s ∷ u) zero h = h.0
  set_at_set (s ∷ u) (suc k) h = set_at_set u k h.1

  placed_sets : (u : List (List ℕ)) (order : List ℕ) → AllByRecursion (IsLabelSet n) u → AllByRecursion (IsLabelSet n) (placed u order)
  placed_sets u [] h = tt
  placed_sets u (k ∷ order) h = (set_at_set u k h, placed_sets u order h)

  off_combine : (i : ℕ) (r u : List (List ℕ)) (order : List ℕ) → AllByRecursion (IsLabelSet n) r → AllByRecursion (IsLabelSet n) u
      → unmarked mark (combined i r (placed u order)) ≡ combined i (unmarked mark r) (placed (unmarked mark u) order)
  off_combine i r u order h k = off-combined i r (placed u order) h (placed_sets u order k) ∙ ap (combined i (unmarked mark r)) (sym (off-placed u order))

  off_under : (r t : List (List ℕ)) → IsUnder r t → IsUnder (unmarked mark r) (unmarked mark t)
  off_under [] [] h = tt
  off_under [] (w ∷ t) h = absurd h
  off_under (s ∷ r) [] h = absurd h
  off_under (s ∷ r) (w ∷ t) h = (off-more s w h.0, off_under r t h.1)

  under_back : (r t : List (List ℕ)) → IsMarked n mark t → IsUnder (unmarked mark r) (unmarked mark t) → IsUnder r t
  under_back [] [] m h = tt
  under_back [] (w ∷ t) m h = absurd h
  under_back (s ∷ r) [] m h = absurd h
  under_back (s ∷ r) (w ∷ t) m h = (off-back s w m.0.1 h.0, under_back r t m.1 h.1)

  sets_of : (line : List (List ℕ)) → IsMarked n mark line → AllByRecursion (IsLabelSet n) line
  sets_of line h = AllByRecursion-weaker (λ set. IsLabelSet n set × IsIn mark set) (IsLabelSet n) (λ set two. two.0) line h

  module _ (d : ℕ) (starts lines : List (List (List ℕ))) (first : (line : List (List ℕ)) → Contains starts line → (length line ≡ d) × IsMarked n mark line)
      (marked : (line : List (List ℕ)) → Contains lines line → IsMarked n mark line) (top : AreTopmost d starts lines) where
    fits : {line : List (List ℕ)} → IsGenerated d starts line → AllByRecursion (IsLabelSet n) line
    fits g = (fit n d starts (λ line h. let two = first line h in (two.0, sets_of line two.1)) g).1

    gone : {line : List (List ℕ)} → IsGenerated d starts line → IsGenerated d (map (unmarked mark) starts) (unmarked mark line)
    gone (start held) = start (Contains-map (unmarked mark) starts _ held)
    gone (combine {line = line} {other = other} {order = order} {i = i} g k listed low) =
        subst (IsGenerated d (map (unmarked mark) starts)) (sym (off_combine i line other order (fits g) (fits k))) (combine (gone g) (gone k) listed low)
    gone (move g p) = move (gone g) (Rearranged-map (λ set. without_label set mark) p)

    back : {line : List (List ℕ)} → IsGenerated d (map (unmarked mark) starts) line → (whole : List (List ℕ)) × IsGenerated d starts whole × (line ≡ unmarked mark whole)
    back (start held) = let (whole, at, e) = Contains-map_cases (unmarked mark) starts _ held in (whole, start at, sym e)
    back (combine {line = line} {other = other} {order = order} {i = i} g k listed low) =
        let one = back g in
        let two = back k in (
          combined i one.0 (placed two.0 order),
          combine one.1 two.1 listed low,
          ap (λ w. combined i w (placed other order)) one.2 ∙ ap (λ w. combined i (unmarked mark one.0) (placed w order)) two.2 ∙ sym (off_combine i one.0 two.0 order (fits one.1) (fits two.1)),
        )
    back (move {other = other} g p) =
        let one = back g in
        let m = map_moved (λ set. without_label set mark) one.0 other (subst (λ w. Rearranged w other) one.2 p) in
        (m.0, move one.1 m.1, m.2)

    dominated_off : (line : List (List ℕ)) → IsDominated lines line → IsDominated (map (unmarked mark) lines) (unmarked mark line)
    dominated_off line (t, held, (moved, p, u)) = (unmarked mark t, Contains-map (unmarked mark) lines t held, (unmarked mark moved, Rearranged-map (λ set. without_label set mark) p, off_under line moved u))

    apart_off : AreApart (map (unmarked mark) lines)
    apart_off line other h k dom =
        let (t, at, e) = Contains-map_cases (unmarked mark) lines line h in
        let (w, there, f) = Contains-map_cases (unmarked mark) lines other k in
        let same : t ≡ w = go t w at there (subst (λ l. Dominates l (unmarked mark w)) (sym e) (subst (Dominates line) (sym f) dom)) in
        sym e ∙ ap (unmarked mark) same ∙ f
      where
        go : (t w : List (List ℕ)) → Contains lines t → Contains lines w → Dominates (unmarked mark t) (unmarked mark w) → t ≡ w
        go t w at there (moved, p, u) =
            let m = map_moved (λ set. without_label set mark) t moved p in
            top.apart t w at there (m.0, m.1, under_back w m.0 (AllByRecursion-Rearranged (λ set. IsLabelSet n set × IsIn mark set) m.1 (marked t at)) (subst (IsUnder (unmarked mark w)) m.2 u))

    pub unmarked_topmost : AreTopmost d (map (unmarked mark) starts) (map (unmarked mark) lines)
    unmarked_topmost = record {
      generated = λ line h. let (t, at, e) = Contains-map_cases (unmarked mark) lines line h in subst (IsGenerated d (map (unmarked mark) starts)) e (gone (top.generated t at));
      dominate = λ line g. let whole = back g in subst (IsDominated (map (unmarked mark) lines)) (sym whole.2) (dominated_off whole.0 (top.dominate whole.0 whole.1));
      apart = apart_off;
    }

pub marked_law : MarkedLaw
marked_law n mark d starts lines first marked top = unmarked_topmost n mark d starts lines first marked top
