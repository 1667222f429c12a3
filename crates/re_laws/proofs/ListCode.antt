-- What the loops of `all_views` do to lists.
use Rattle.re_labels.proofs.Membership.{count_from-last}
use Rattle.std.proofs.Common.{◌≡◌, ℕ, zero, suc, pred, ◌+◌, ◌-◌, ◌≤◌, ◌<◌, List, [], ◌∷◌, ◌++◌, length, take, get_or, map, sym, ap, ◌∙◌, arith, add-one, append_assoc}
use Rattle.std.specs.Prelude.{flat_map}
use Rattle.std.proofs.lemmas.Grind.{flat_map-append}
use Rattle.std.proofs.lemmas.List.{append-nil, map-append, take_all, take_more}
use Rattle.re_labels.specs.Lists.{count_from}
use Rattle.re_laws.specs.AllViews.{all_children, all_trees}
use Rattle.re_laws.specs.Trees.{Tree}

-- one more element is sent on and added
pub sent_more : {A B : Type 0} (shown : A → B) (f : B → B) (lists old items read : List A) (i : ℕ) (item one : A) → read ≡ items → i < length read → item ≡ get_or read i item
    → map shown lists ≡ map shown old ++ map f (map shown (take i items)) → shown one ≡ f (shown item) → map shown (lists ++ one ∷ []) ≡ map shown old ++ map f (map shown (take (i + 1) items))
sent_more {A} shown f lists old items read i item one same below is so_far here =
    let at : item ≡ get_or items i item = is ∙ ap (λ l. get_or l i item) same in
    let taken : take (i + 1) items ≡ take i items ++ item ∷ [] = take_more items i item (rw same at below) ∙ ap (λ c. take i items ++ c ∷ []) (sym at) in
    map-append shown lists (one ∷ [])
    ∙ (ap (λ l. l ++ shown one ∷ []) so_far
    ∙ (append_assoc (map shown old) (map f (map shown (take i items))) (shown one ∷ [])
    ∙ (ap (λ x. map shown old ++ (map f (map shown (take i items)) ++ x ∷ [])) here
    ∙ ap (λ l. map shown old ++ l) (sym (map-append f (map shown (take i items)) (shown item ∷ []))
    ∙ ap (map f) (sym (map-append shown (take i items) (item ∷ [])) ∙ ap (map shown) (sym taken))))))

-- after the loop all of them are
pub sent_all : {A B C : Type 0} (shown : A → B) (f : List B → List C) (lists old : List C) (items read : List A) (i : ℕ) → read ≡ items → length read ≤ i
    → lists ≡ old ++ f (map shown (take i items)) → lists ≡ old ++ f (map shown items)
sent_all shown f lists old items read i same past so_far = so_far ∙ ap (λ l. old ++ f (map shown l)) (take_all i items (rw same at past))

-- the lists for one more element are added
pub spread_more : {A B C : Type 0} (shown : A → B) (f : B → List C) (lists next old : List C) (items read : List A) (i : ℕ) (item : A) → read ≡ items → i < length read → item ≡ get_or read i item
    → lists ≡ old ++ flat_map f (map shown (take i items)) → next ≡ lists ++ f (shown item) → next ≡ old ++ flat_map f (map shown (take (i + 1) items))
spread_more shown f lists next old items read i item same below is so_far here =
    let at : item ≡ get_or items i item = is ∙ ap (λ l. get_or l i item) same in
    let taken : take (i + 1) items ≡ take i items ++ item ∷ [] = take_more items i item (rw same at below) ∙ ap (λ c. take i items ++ c ∷ []) (sym at) in
    here
    ∙ (ap (λ l. l ++ f (shown item)) so_far
    ∙ (append_assoc old (flat_map f (map shown (take i items))) (f (shown item))
    ∙ ap (λ l. old ++ l) (ap (λ l. flat_map f (map shown (take i items)) ++ l) (sym (append-nil (f (shown item))))
    ∙ (sym (flat_map-append f (map shown (take i items)) (shown item ∷ []))
    ∙ ap (flat_map f) (sym (map-append shown (take i items) (item ∷ [])) ∙ ap (map shown) (sym taken))))))

-- the lists for one more number are added
pub counted_more : {C : Type 0} (f : ℕ → List C) (lists next : List C) (n : ℕ) → lists ≡ flat_map f (count_from 1 n) → next ≡ lists ++ f (n + 1) → next ≡ flat_map f (count_from 1 (n + 1))
counted_more f lists next n so_far here =
    let e : n + 1 ≡ 1 + n = omega arith in
    here
    ∙ (ap (λ l. l ++ f (n + 1)) so_far
    ∙ (ap (λ l. flat_map f (count_from 1 n) ++ l) (ap f e ∙ sym (append-nil (f (1 + n))))
    ∙ (sym (flat_map-append f (count_from 1 n) ((1 + n) ∷ []))
    ∙ ap (flat_map f) (sym (count_from-last 1 n) ∙ ap (count_from 1) (sym (add-one n))))))

-- two lists that show the same, each with one more element
pub shown_more : {A B C : Type 0} (shown : A → C) (shown' : B → C) (xs : List A) (ys : List B) (x : A) (y : B) → map shown xs ≡ map shown' ys → shown x ≡ shown' y → map shown (xs ++ x ∷ []) ≡ map shown' (ys ++ y ∷ [])
shown_more shown shown' xs ys x y so_far here =
    map-append shown xs (x ∷ [])
    ∙ (ap (λ l. l ++ shown x ∷ []) so_far
    ∙ (ap (λ z. map shown' ys ++ z ∷ []) here
    ∙ sym (map-append shown' ys (y ∷ []))))

-- lists of as many children as ports are all trees
pub listed : (d e depth n i below : ℕ) (branches : List (Tree (Unit {0}))) → 1 ≤ depth → i ≡ n → below ≡ e - 1 → branches ≡ all_trees e d (depth - 1) below → all_children e branches i ≡ all_trees d e depth n
listed d e zero n i below branches some all less are = absurd (omega arith)
listed d e (suc t) n i below branches some all less are =
    let depth : suc t - 1 ≡ t = omega arith in
    let ports : below ≡ pred e = omega arith in
    let is : branches ≡ all_trees e d t (pred e) = are ∙ (ap (λ m. all_trees e d m below) depth ∙ ap (all_trees e d t) ports) in
    ap (λ l. all_children e l i) is ∙ ap (all_children e (all_trees e d t (pred e))) all
