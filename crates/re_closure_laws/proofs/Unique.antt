-- The closures of a problem, whatever lines they keep of those that dominate one another, have one problem.
use Rattle.std.proofs.Common.{◌≡◌, ℕ, ◌<◌, ◌≤◌, Bool, cond, List, [], ◌∷◌, length, map, refl, sym, ap, ◌∙◌, subst, inl, inr, arith}
use Rattle.std.specs.Prelude.{Contains, filter}
use Rattle.std.specs.List.{AllByRecursion}
use Rattle.re_labels.proofs.Placing.{Dominates-trans}
use Rattle.re_labels.proofs.Rearranging.{Contains-Rearranged, Rearranged-map, Rearranged-sym}
use Rattle.re_labels.proofs.Rows.{total, total-Rearranged}
use Rattle.re_labels.proofs.Sorting.{AllByRecursion-Rearranged, sorted-Rearranged}
use Rattle.re_labels.specs.Configs.{sorted}
use Rattle.re_labels.specs.Orders.{multisets}
use Rattle.re_labels.specs.Rearranging.{Rearranged}
use Rattle.re_labels.specs.Rows.{Dominates, IsUnder, placed}
use Rattle.re_labels.proofs.ListSets.{In-list_set, list_set-In, one_set, rising-list_set}
use Rattle.re_labels.proofs.Membership.{Contains-In, In, In-Contains, In-map, In-map_from}
use Rattle.re_labels.proofs.Numbers.{number-Sub}
use Rattle.re_labels.proofs.Rising.{same_members}
use Rattle.re_labels.proofs.Sets.{IsWithin-Sub}
use Rattle.re_labels.proofs.Tests.{same_tests}
use Rattle.re_labels.specs.Lists.{place_of}
use Rattle.re_labels.specs.ListSets.{list_set}
use Rattle.re_labels.specs.Sets.{IsLabelSet, number}
use Rattle.re_labels.proofs.Goodness.{IsDominated-is_dominated, is_dominated-IsDominated}
use Rattle.re_labels.specs.GoodRows.{IsDominated, is_dominated}
use Rattle.re_problem.specs.Problems.{IsProblem, Problem}
use Rattle.re_closure_laws.proofs.Generated.{active_first, fit, passive_first}
use Rattle.re_closure_laws.specs.Closures.{AreClosure, AreTopmost, Occurs, down_lines, up_lines}
use Rattle.re_closure_laws.specs.Laws.{ClosureUniqueLaw}
use Rattle.re_closure_laws.specs.Lines.{Family, below, others, problem_of, topmost}

-- ---- lines that dominate one another
under_total : (n : ℕ) (r t : List (List ℕ)) → AllByRecursion (IsLabelSet n) r → AllByRecursion (IsLabelSet n) t → IsUnder r t → (total r ≤ total t) × (total t ≤ total r → r ≡ t)
under_total n [] [] h k u = (omega arith, λ _. refl)
under_total n [] (w ∷ t) h k u = absurd u
under_total n (s ∷ r) [] h k u = absurd u
under_total n (s ∷ r) (w ∷ t) h k u =
    let one = number-Sub s w h.0.0 k.0.0 (IsWithin-Sub s w u.0) in
    let more = under_total n r t h.1 k.1 u.1 in
    (omega (arith, one.0, more.0), λ le. (λ i. one.1 (omega (arith, one.0, more.0)) i ∷ more.1 (omega (arith, one.0, more.0)) i))

both_dominate : (n : ℕ) (r t : List (List ℕ)) → AllByRecursion (IsLabelSet n) r → AllByRecursion (IsLabelSet n) t → Dominates t r → Dominates r t → Rearranged r t
both_dominate n r t h k (u, p, v) (w, q, x) =
    let one = under_total n r u h (AllByRecursion-Rearranged (IsLabelSet n) p k) v in
    let two = under_total n t w k (AllByRecursion-Rearranged (IsLabelSet n) q h) x in
    let a : total t ≡ total u = total-Rearranged p in
    let b : total r ≡ total w = total-Rearranged q in
    let e : r ≡ u = one.1 (omega (arith, a, b, two.0)) in
    Rearranged-sym (subst (Rearranged t) (sym e) p)

filter-alike : {X : Type 0} (f g : X → Bool) (xs : List X) → ((x : X) → f x ≡ g x) → filter f xs ≡ filter g xs
filter-alike f g [] same = refl
filter-alike f g (x ∷ xs) same = (λ i. cond (same x i) (x ∷ filter-alike f g xs same i) (filter-alike f g xs same i))

-- ---- two lists of the topmost of one list
module _ (n d : ℕ) (starts lines more : List (List (List ℕ))) (first : (line : List (List ℕ)) → Contains starts line → (length line ≡ d) × AllByRecursion (IsLabelSet n) line)
    (top : AreTopmost d starts lines) (over : AreTopmost d starts more) where
  pub twin : (line : List (List ℕ)) → Contains lines line → (other : List (List ℕ)) × Contains more other × Rearranged line other
  twin line held = go (over.dominate line (top.generated line held))
    where
      go : IsDominated more line → (other : List (List ℕ)) × Contains more other × Rearranged line other
      go (other, there, dom) = back (top.dominate other (over.generated other there))
        where
          back : IsDominated lines other → (other : List (List ℕ)) × Contains more other × Rearranged line other
          back (third, at, dom') =
              let same : third ≡ line = top.apart third line at held (Dominates-trans third other line dom' dom) in
              (other, there, both_dominate n line other (fit n d starts first (top.generated line held)).1 (fit n d starts first (over.generated other there)).1 dom (subst (λ w. Dominates w other) same dom'))

  pub dominated_too : (row : List (List ℕ)) → IsDominated lines row → IsDominated more row
  dominated_too row (t, held, dom) = go (over.dominate t (top.generated t held))
    where
      go : IsDominated more t → IsDominated more row
      go (u, there, d2) = (u, there, Dominates-trans u t row d2 dom)

  pub occurs_too : (set : List ℕ) → Occurs lines set → Occurs more set
  occurs_too set (line, held, i) = let (other, there, p) = twin line held in (other, there, Contains-Rearranged set p i)

  pub places_too : (sets : List (List ℕ)) (z : List ℕ) → In z (list_set (map (λ line. sorted (map (place_of sets) line)) lines)) → In z (list_set (map (λ line. sorted (map (place_of sets) line)) more))
  places_too sets z i =
      let f : List (List ℕ) → List ℕ = λ line. sorted (map (place_of sets) line) in
      let (line, at, e) = In-map_from f z lines (In-list_set (map f lines) z i) in
      let (other, there, p) = twin line (In-Contains line lines at) in
      let same : z ≡ f other = e ∙ sorted-Rearranged (Rearranged-map (place_of sets) p) in
      list_set-In (map f more) z (subst (λ w. In w (map f more)) (sym same) (In-map f other more (Contains-In other more there)))

module _ (n d : ℕ) (starts lines more : List (List (List ℕ))) (first : (line : List (List ℕ)) → Contains starts line → (length line ≡ d) × AllByRecursion (IsLabelSet n) line)
    (top : AreTopmost d starts lines) (over : AreTopmost d starts more) where
  pub one_below : (sets : List (List ℕ)) → below (record { degree = d; lines = lines; sets = sets }) ≡ below (record { degree = d; lines = more; sets = sets })
  one_below sets = ap (λ configs. record { degree = d; configs = configs })
      (filter-alike (λ labels. is_dominated lines (placed sets labels)) (λ labels. is_dominated more (placed sets labels)) (multisets d 0 (length sets)) (λ labels. same_tests (is_dominated lines (placed sets labels)) (is_dominated more (placed sets labels))
      (λ h. IsDominated-is_dominated more (placed sets labels) (dominated_too n d starts lines more first top over (placed sets labels) (is_dominated-IsDominated lines (placed sets labels) h)))
      (λ h. IsDominated-is_dominated lines (placed sets labels) (dominated_too n d starts more lines first over top (placed sets labels) (is_dominated-IsDominated more (placed sets labels) h)))))

  pub one_topmost : (sets : List (List ℕ)) → topmost (record { degree = d; lines = lines; sets = sets }) ≡ topmost (record { degree = d; lines = more; sets = sets })
  one_topmost sets = ap (λ configs. record { degree = d; configs = configs })
      (one_set (list_set (map (λ line. sorted (map (place_of sets) line)) lines)) (list_set (map (λ line. sorted (map (place_of sets) line)) more)) (rising-list_set (map (λ line. sorted (map (place_of sets) line)) lines)) (rising-list_set (map (λ line. sorted (map (place_of sets) line)) more))
      (places_too n d starts lines more first top over sets) (places_too n d starts more lines first over top sets))

module _ (problem : Problem) (a p b q : Family) (is : IsProblem problem) (one : AreClosure problem a p) (two : AreClosure problem b q) where
  a_top : AreTopmost problem.active.degree (down_lines problem) a.lines
  a_top = subst (λ d. AreTopmost d (down_lines problem) a.lines) one.active_degree one.active_lines

  b_top : AreTopmost problem.active.degree (down_lines problem) b.lines
  b_top = subst (λ d. AreTopmost d (down_lines problem) b.lines) two.active_degree two.active_lines

  p_top : AreTopmost problem.passive.degree (up_lines problem) p.lines
  p_top = subst (λ d. AreTopmost d (up_lines problem) p.lines) one.passive_degree one.passive_lines

  q_top : AreTopmost problem.passive.degree (up_lines problem) q.lines
  q_top = subst (λ d. AreTopmost d (up_lines problem) q.lines) two.passive_degree two.passive_lines

  to_q : (set : List ℕ) → In set p.sets → In set q.sets
  to_q set i = Contains-In set q.sets ((two.sets set).1 (elim ((one.sets set).0 (In-Contains set p.sets i)) [
    | inl h ↦ inl (occurs_too problem.labels problem.passive.degree (up_lines problem) p.lines q.lines (passive_first problem is) p_top q_top set h)
    | inr h ↦ inr (h.0, occurs_too problem.labels problem.active.degree (down_lines problem) a.lines b.lines (active_first problem is) a_top b_top h.0 h.1, h.2)
  ]))

  to_p : (set : List ℕ) → In set q.sets → In set p.sets
  to_p set i = Contains-In set p.sets ((one.sets set).1 (elim ((two.sets set).0 (In-Contains set q.sets i)) [
    | inl h ↦ inl (occurs_too problem.labels problem.passive.degree (up_lines problem) q.lines p.lines (passive_first problem is) q_top p_top set h)
    | inr h ↦ inr (h.0, occurs_too problem.labels problem.active.degree (down_lines problem) b.lines a.lines (active_first problem is) b_top a_top h.0 h.1, h.2)
  ]))

  one_sets : p.sets ≡ q.sets
  one_sets = same_members (λ s t. number s < number t) (λ s t u h k. omega (arith, h, k)) (λ s h. absurd (omega (arith, h))) p.sets q.sets one.ascends two.ascends to_q to_p

  other_sets : a.sets ≡ b.sets
  other_sets = one.opposite ∙ ap (map (others problem.labels)) one_sets ∙ sym two.opposite

  -- both families with the degrees of the problem and the sets of one
  abbrev family : ℕ → List (List (List ℕ)) → List (List ℕ) → Family
  family d lines sets = record { degree = d; lines = lines; sets = sets }

  passive_below : below p ≡ below q
  passive_below =
      ap (λ d. below (family d p.lines p.sets)) one.passive_degree
      ∙ one_below problem.labels problem.passive.degree (up_lines problem) p.lines q.lines (passive_first problem is) p_top q_top p.sets
      ∙ ap (λ sets. below (family problem.passive.degree q.lines sets)) one_sets
      ∙ ap (λ d. below (family d q.lines q.sets)) (sym two.passive_degree)

  active_below : below a ≡ below b
  active_below =
      ap (λ d. below (family d a.lines a.sets)) one.active_degree
      ∙ one_below problem.labels problem.active.degree (down_lines problem) a.lines b.lines (active_first problem is) a_top b_top a.sets
      ∙ ap (λ sets. below (family problem.active.degree b.lines sets)) other_sets
      ∙ ap (λ d. below (family d b.lines b.sets)) (sym two.active_degree)

  passive_topmost : topmost p ≡ topmost q
  passive_topmost =
      ap (λ d. topmost (family d p.lines p.sets)) one.passive_degree
      ∙ one_topmost problem.labels problem.passive.degree (up_lines problem) p.lines q.lines (passive_first problem is) p_top q_top p.sets
      ∙ ap (λ sets. topmost (family problem.passive.degree q.lines sets)) one_sets
      ∙ ap (λ d. topmost (family d q.lines q.sets)) (sym two.passive_degree)

  active_topmost : topmost a ≡ topmost b
  active_topmost =
      ap (λ d. topmost (family d a.lines a.sets)) one.active_degree
      ∙ one_topmost problem.labels problem.active.degree (down_lines problem) a.lines b.lines (active_first problem is) a_top b_top a.sets
      ∙ ap (λ sets. topmost (family problem.active.degree b.lines sets)) other_sets
      ∙ ap (λ d. topmost (family d b.lines b.sets)) (sym two.active_degree)

  pub one_problem : (problem_of a p ≡ problem_of b q) × (problem_of p a ≡ problem_of q b)
  one_problem = (
    (λ i. record { labels = length (one_sets i); active = active_topmost i; passive = passive_below i }),
    (λ i. record { labels = length (other_sets i); active = passive_topmost i; passive = active_below i }),
  )

pub closure_unique_law : ClosureUniqueLaw
closure_unique_law = one_problem
