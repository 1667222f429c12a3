-- The loops that add what all active nodes put on their edges.
use Rattle.std.proofs.Common.{◌≡◌, ℕ, suc, ◌+◌, ◌-◌, ◌≤◌, ◌<◌, Bool, true, false, List, [], ◌∷◌, length, get_or, take, refl, sym, ◌∙◌, ap, arith, ◌||◌}
use Rattle.std.specs.Prelude.{filter}
use Rattle.std.specs.List.{list_any}
use Rattle.std.proofs.Math.ListN.{set}
use Rattle.std.proofs.lemmas.List.Folds.{list_any-append, list_any_more}
use Rattle.re_labels.proofs.Membership.{Contains-count_from, count_from-last, filter-alike}
use Rattle.re_labels.proofs.Numbers.{IsLabelSet-count_from, IsLabelSet-filter, same_labels}
use Rattle.re_labels.proofs.Sets.{Chosen, IsIn-has, has-filter}
use Rattle.re_labels.proofs.Tests.{and-true, or-false, true-and}
use Rattle.re_labels.specs.Lists.{count_from}
use Rattle.re_labels.specs.Sets.{has, with_label}
use Rattle.re_labels.specs.declared.TheConstants.{MAX_LABELS}
use Rattle.re_algo.specs.Counting.{view_place}
use Rattle.re_algo.proofs.Adding.{map-at_each, row_more}
use Rattle.re_laws.specs.Algorithms.{Plain, at_port, back_at}
use Rattle.re_algo.specs.SeenRows.{put_also, put_over, puts, some_puts, tested_row, tested_rows}
use Rattle.re_laws.specs.AllViews.{all_views}
use Rattle.re_laws.specs.Trees.{IsView, leaf, shift}

or-assoc : (a b c : Bool) → (a || (b || c)) ≡ (a || b || c)
or-assoc true b c = refl
or-assoc false b c = refl

-- with the labels over one port more
pub put_also-more : (t n : ℕ) (u : Plain) (labels : List ℕ) (passes : Plain → ℕ → ℕ → Bool) (w : Plain) (i x : ℕ) → put_also t u labels (suc n) passes w i x ≡ (put_also t u labels n passes w i x || puts t u labels w i x (suc n))
put_also-more t n u labels passes w i x =
    let last : list_any (puts t u labels w i x) (count_from 1 (suc n)) ≡ (list_any (puts t u labels w i x) (count_from 1 n) || puts t u labels w i x (1 + n)) =
    ap (list_any (puts t u labels w i x)) (count_from-last 1 n) ∙ (list_any-append (puts t u labels w i x) (count_from 1 n) ((1 + n) ∷ []) ∙ ap (λ b. list_any (puts t u labels w i x) (count_from 1 n) || b) (or-false (puts t u labels w i x (1 + n)))) in
    let one : 1 + n ≡ suc n = omega arith in
    ap (λ b. passes w i x || b) last ∙ (or-assoc (passes w i x) (list_any (puts t u labels w i x) (count_from 1 n)) (puts t u labels w i x (1 + n)) ∙ ap (λ q. put_also t u labels n passes w i x || puts t u labels w i x q) one)

-- the row of the view over a port gets the label
pub tested_rows-over : (d e t q label : ℕ) (u : Plain) (passes : Plain → ℕ → ℕ → Bool) → IsView e d t (shift t u q) → 1 ≤ back_at u q → back_at u q ≤ e → label < MAX_LABELS
    → let w = shift t u q in let i = back_at u q in let row = tested_row e (passes w) in
    set (tested_rows d e t passes) (view_place e d w) (set row (i - 1) (with_label (get_or row (i - 1) []) label)) ≡ tested_rows d e t (put_over t u q label passes)
tested_rows-over d e t q label u passes is low high below =
    row_more d e t (back_at u q) label (shift t u q) passes (put_over t u q label passes) is low high below (λ v j x. refl)

-- rows by tests that agree
pub tested_rows-same : (d e t : ℕ) (p q : Plain → ℕ → ℕ → Bool) → ((w : Plain) (i x : ℕ) → p w i x ≡ q w i x) → tested_rows d e t p ≡ tested_rows d e t q
tested_rows-same d e t p q each =
    map-at_each (λ w. tested_row e (p w)) (λ w. tested_row e (q w)) (all_views e d t) leaf (λ j l.
    let w : Plain = get_or (all_views e d t) j leaf in
    map-at_each (λ i. filter (p w i) (count_from 0 MAX_LABELS)) (λ i. filter (q w i) (count_from 0 MAX_LABELS)) (count_from 1 e) 0 (λ k m.
    let i : ℕ = get_or (count_from 1 e) k 0 in
    filter-alike (p w i) (q w i) (count_from 0 MAX_LABELS) (λ x held. each w i x)))

-- the label over the next port
pub put_over-next : (d e t n : ℕ) (u : Plain) (labels : List ℕ) (passes : Plain → ℕ → ℕ → Bool) → tested_rows d e t (put_over t u (suc n) (at_port labels (suc n)) (put_also t u labels n passes)) ≡ tested_rows d e t (put_also t u labels (suc n) passes)
put_over-next d e t n u labels passes =
    tested_rows-same d e t (put_over t u (suc n) (at_port labels (suc n)) (put_also t u labels n passes)) (put_also t u labels (suc n) passes) (λ w i x. sym (put_also-more t n u labels passes w i x))

-- with one active node more
pub some_puts-more : (d e t m : ℕ) (algorithm : Plain → List ℕ) (views : List Plain) (labels : List ℕ) → m < length views → algorithm (get_or views m leaf) ≡ labels
    → tested_rows d e t (put_also t (get_or views m leaf) labels d (some_puts d t algorithm (take m views))) ≡ tested_rows d e t (some_puts d t algorithm (take (m + 1) views))
some_puts-more d e t m algorithm views labels below given =
    tested_rows-same d e t (put_also t (get_or views m leaf) labels d (some_puts d t algorithm (take m views))) (some_puts d t algorithm (take (m + 1) views)) (λ w i x.
    sym (list_any_more (λ u. list_any (puts t u (algorithm u) w i x) (count_from 1 d)) views m leaf below ∙ ap (λ labels. some_puts d t algorithm (take m views) w i x || list_any (puts t (get_or views m leaf) labels w i x) (count_from 1 d)) given))

-- a set of labels below n is found among more labels
pub filter-within : (p : ℕ → Bool) (n m : ℕ) → n ≤ m → ((x : ℕ) → p x ≡ true → x < n) → filter p (count_from 0 m) ≡ filter p (count_from 0 n)
filter-within p n m few small =
    same_labels (filter p (count_from 0 m)) (filter p (count_from 0 n)) (IsLabelSet-filter p m (count_from 0 m) (IsLabelSet-count_from 0 m m (omega arith))).0 (IsLabelSet-filter p n (count_from 0 n) (IsLabelSet-count_from 0 n n (omega arith))).0
    (λ x c. let both = and-true (has (count_from 0 m) x) (p x) (sym (has-filter p (count_from 0 m) x) ∙ c) in in_both n x both.1 (small x both.1))
    (λ x c. let both = and-true (has (count_from 0 n) x) (p x) (sym (has-filter p (count_from 0 n) x) ∙ c) in in_both m x both.1 (let l = small x both.1 in omega arith))
  where
    in_both : (n x : ℕ) → p x ≡ true → x < n → Chosen x (filter p (count_from 0 n))
    in_both n x passes below = has-filter p (count_from 0 n) x ∙ true-and (has (count_from 0 n) x) (p x) (IsIn-has (count_from 0 n) x (Contains-count_from 0 n x (omega arith) (omega arith))) passes
