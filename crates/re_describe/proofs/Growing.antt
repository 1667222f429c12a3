-- Lists that grow piece by piece, and what they say.
use Rattle.std.proofs.Common.{◌≡◌, ℕ, ◌<◌, ◌+◌, take, drop, length, get_or, Bool, true, false, List, [], ◌∷◌, ◌++◌, Some, flat_map, refl, sym, ap, ◌∙◌, subst, append_assoc, add-one, arith}
use Rattle.std.specs.Prelude.{nat_lt}
use Rattle.std.specs.List.{AllByRecursion, list_all}
use Rattle.std.proofs.lemmas.Bool.Decides.{nat_tests}
use Rattle.re_labels.proofs.LeastLabels.{first-is}
use Rattle.std.proofs.Math.Seq.{drop-cons}
use Rattle.std.proofs.lemmas.List.{append-nil, take_more}
use Rattle.re_changes.proofs.Counted.{flat_map-next}
use Rattle.re_labels.specs.Lists.{IsRising, count_from}
use Rattle.re_labels.specs.Sets.{IsLabelSet, first_of, without_label}
use Rattle.re_problem.specs.Steps.{SetEntry}
use Rattle.re_describe.specs.Meanings.{Means}
use Rattle.re_describe.specs.Pieces.{listed, shown}
use Rattle.re_describe.specs.Steps.{AreMeant}
use Rattle.re_describe.specs.Writing.{WritesBy}
use Rattle.re_describe.specs.declared.steps.Meant.{Meant}

-- one piece more
pub more : {A : Type 0} (t0 t1 t2 a b : List A) → t1 ≡ t0 ++ a → t2 ≡ t1 ++ b → t2 ≡ t0 ++ (a ++ b)
more t0 t1 t2 a b e f = f ∙ ap (λ t. t ++ b) e ∙ append_assoc t0 a b

-- three pieces more, and five
pub more3 : {A : Type 0} (t0 t1 t2 t3 a b c : List A) → t1 ≡ t0 ++ a → t2 ≡ t1 ++ b → t3 ≡ t2 ++ c → t3 ≡ t0 ++ (a ++ (b ++ c))
more3 t0 t1 t2 t3 a b c e f g = more t0 t1 t3 a (b ++ c) e (more t1 t2 t3 b c f g)

pub more5 : {A : Type 0} (t0 t1 t2 t3 t4 t5 a b c d e : List A) → t1 ≡ t0 ++ a → t2 ≡ t1 ++ b → t3 ≡ t2 ++ c → t4 ≡ t3 ++ d → t5 ≡ t4 ++ e → t5 ≡ t0 ++ (a ++ (b ++ (c ++ (d ++ e))))
more5 t0 t1 t2 t3 t4 t5 a b c d e e1 e2 e3 e4 e5 = more3 t0 t1 t2 t5 a b (c ++ (d ++ e)) e1 e2 (more3 t2 t3 t4 t5 c d e e3 e4 e5)

-- the same of a new list
pub new3 : {A : Type 0} (t0 t1 t2 t3 a b c : List A) → t0 ≡ [] → t1 ≡ t0 ++ a → t2 ≡ t1 ++ b → t3 ≡ t2 ++ c → t3 ≡ a ++ (b ++ c)
new3 t0 t1 t2 t3 a b c n e f g = more3 t0 t1 t2 t3 a b c e f g ∙ ap (λ t. t ++ (a ++ (b ++ c))) n

-- words, a number, words and a number
pub side_made : (t0 t1 t2 w d l n : List ℕ) → t1 ≡ t0 ++ (w ++ (d ++ l)) → t2 ≡ t1 ++ n → t2 ≡ t0 ++ (w ++ (d ++ (l ++ n)))
side_made t0 t1 t2 w d l n e f = more t0 t1 t2 (w ++ (d ++ l)) n e f ∙ ap (λ t. t0 ++ t) (append_assoc w (d ++ l) n ∙ ap (λ t. w ++ t) (append_assoc d l n))

-- pieces of the numbers below n, and the piece of n
pub counted_next : {A : Type 0} (front : List A) (f : ℕ → List A) (n : ℕ) (old new : List A) → old ≡ front ++ flat_map f (count_from 0 n) → new ≡ old ++ f n → new ≡ front ++ flat_map f (count_from 0 (n + 1))
counted_next front f n old new e g = more front old new (flat_map f (count_from 0 n)) (f n) e g ∙ ap (λ t. front ++ t) (sym (flat_map-next f n))

-- a set of labels below n fits
pub fits_all : (n : ℕ) (set : List ℕ) → AllByRecursion (λ x. x < n) set → list_all (λ label. nat_lt label n) set ≡ true
fits_all n [] all = refl
fits_all n (x ∷ set) all = let first : nat_lt x n ≡ true = (let below : x < n = all.0 in grind (arith, nat_tests)) in let rest = fits_all n set all.1 in cc

pub not_fitting : (n : ℕ) (set : List ℕ) (fits : Bool) {G : Type 0} → fits ≡ list_all (λ label. nat_lt label n) set → fits ≡ false → IsLabelSet n set → G
not_fitting n set fits is lacks fit = absurd (let bad : false ≡ true = sym lacks ∙ is ∙ fits_all n set fit.1 in cc)

-- no block is left
pub written_all : {B : Type 0} (Says : B → List ℕ → Type 0) (blocks left : List B) (text : List ℕ) → ((rest : List ℕ) → WritesBy Says left rest → WritesBy Says blocks (text ++ rest)) → left ≡ []
    → WritesBy Says blocks text
written_all Says blocks left text all none = subst (WritesBy Says blocks) (append-nil text) (all [] (subst (λ bs. WritesBy Says bs []) (sym none) refl))

-- a set with its first label in front
pub listed_made : (names : List (List ℕ)) (index between set rest : List ℕ) (label : ℕ) (old mid new : List ℕ) → IsRising (λ x y. x < y) set → first_of set ≡ Some label → rest ≡ without_label set label
    → mid ≡ old ++ shown names index label → new ≡ mid ++ flat_map (λ next. between ++ shown names index next) rest → new ≡ old ++ listed names index between set
listed_made names index between set rest label old mid new rises first is begun ended =
    ended ∙ ap (λ l. l ++ flat_map (λ next. between ++ shown names index next) rest) begun ∙ append_assoc old (shown names index label) (flat_map (λ next. between ++ shown names index next) rest)
    ∙ ap (λ l. old ++ (shown names index label ++ flat_map (λ next. between ++ shown names index next) l)) is ∙ ap (λ l. old ++ listed names index between l) (sym (first-is set label rises first))

-- one meaning more
pub meant_next : (ups : ℕ → List ℕ) (n : ℕ) (entries : List SetEntry) (meant : List Meant) (entry : SetEntry) (one : Meant) → AreMeant ups n entries meant → one.label ≡ entry.label
    → (IsLabelSet n entry.set → Means ups entry.set one.meaning) → AreMeant ups n (entries ++ entry ∷ []) (meant ++ one ∷ [])
meant_next ups n [] [] entry one are label means = (label, means, tt)
meant_next ups n [] (m ∷ meant) entry one are label means = absurd are
meant_next ups n (e ∷ entries) [] entry one are label means = absurd are
meant_next ups n (e ∷ entries) (m ∷ meant) entry one are label means = (are.0, are.1, meant_next ups n entries meant entry one are.2 label means)

-- the same of the first entries of a list
pub meant_step : (ups : ℕ → List ℕ) (n : ℕ) (entries : List SetEntry) (i : ℕ) (meant new : List Meant) (entry : SetEntry) (one : Meant) → i < length entries → entry ≡ get_or entries i entry
    → AreMeant ups n (take i entries) meant → one.label ≡ entry.label → (IsLabelSet n entry.set → Means ups entry.set one.meaning) → new ≡ meant ++ one ∷ [] → AreMeant ups n (take (i + 1) entries) new
meant_step ups n entries i meant new entry one below is are label means grown =
    let longer : take (i + 1) entries ≡ take i entries ++ entry ∷ [] = take_more entries i entry below ∙ ap (λ e. take i entries ++ e ∷ []) (sym is) in
    let next : AreMeant ups n (take i entries ++ entry ∷ []) (meant ++ one ∷ []) = meant_next ups n (take i entries) meant entry one are label means in
    subst (λ ms. AreMeant ups n (take (i + 1) entries) ms) (sym grown) (subst (λ es. AreMeant ups n es (meant ++ one ∷ [])) (sym longer) next)

-- what is left of a list, its first element in front
pub drop_next : {A : Type 0} (xs : List A) (i : ℕ) (d : A) → i < length xs → drop i xs ≡ get_or xs i d ∷ drop (i + 1) xs
drop_next xs i d l = drop-cons xs i d l ∙ ap (λ j. get_or xs i d ∷ drop j xs) (sym (add-one i))

-- one block more
pub written_next : {B : Type 0} (Says : B → List ℕ → Type 0) (blocks left later : List B) (block : B) (old said new : List ℕ) → ((rest : List ℕ) → WritesBy Says left rest → WritesBy Says blocks (old ++ rest))
    → left ≡ block ∷ later → Says block said → new ≡ old ++ said → (rest : List ℕ) → WritesBy Says later rest → WritesBy Says blocks (new ++ rest)
written_next Says blocks left later block old said new all is says grown rest writes =
    let whole : WritesBy Says blocks (old ++ (said ++ rest)) = all (said ++ rest) (subst (λ bs. WritesBy Says bs (said ++ rest)) (sym is) (said, rest, says, writes, refl)) in
    subst (WritesBy Says blocks) (sym (append_assoc old said rest) ∙ ap (λ t. t ++ rest) (sym grown)) whole
