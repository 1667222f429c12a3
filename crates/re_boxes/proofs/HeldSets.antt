-- Tops that hold sets, one by one.
use Rattle.std.proofs.Common.{◌≡◌, ℕ, zero, suc, ◌+◌, ◌<◌, Bool, true, eqb, List, [], ◌∷◌, ◌++◌, length, take, get_or, sym, ap, ◌∙◌, subst, arith}
use Rattle.std.specs.Prelude.{Contains, insert}
use Rattle.std.specs.List.{remove}
use Rattle.std.proofs.lemmas.List.{take_more}
use Rattle.re_boxes.proofs.Spread.{dominated_under}
use Rattle.re_labels.proofs.ChoicesOfRows.{IsUnder-refl}
use Rattle.re_labels.proofs.Rearranging.{Rearranged-refl}
use Rattle.re_labels.specs.Rearranging.{Rearranged, chained, kept, swapped, unmoved}
use Rattle.re_labels.specs.Rows.{Dominates}
use Rattle.re_labels.proofs.Sets.{within-IsWithin}
use Rattle.re_labels.proofs.Tests.{eqb-true}
use Rattle.re_labels.specs.Sets.{within}
use Rattle.re_labels.specs.GoodRows.{IsDominated}

abbrev Sets : Type 0
Sets = List (List ℕ)

-- the element at a place in front
to_front : (xs : Sets) (i : ℕ) → i < length xs → Rearranged xs (get_or xs i [] ∷ remove xs i)
to_front [] i h = absurd (omega arith)
to_front (x ∷ xs) zero h = Rearranged-refl (x ∷ xs)
to_front (x ∷ xs) (suc i) h = chained (kept (to_front xs i (omega arith))) swapped

inserted_there : (xs : Sets) (i : ℕ) (x : List ℕ) → Rearranged (x ∷ xs) (insert xs i x)
inserted_there xs zero x = Rearranged-refl (x ∷ xs)
inserted_there [] (suc i) x = Rearranged-refl (x ∷ [])
inserted_there (y ∷ xs) (suc i) x = chained swapped (kept (inserted_there xs i x))

last_first : (xs : Sets) (x : List ℕ) → Rearranged (xs ++ x ∷ []) (x ∷ xs)
last_first [] x = Rearranged-refl (x ∷ [])
last_first (y ∷ xs) x = chained (kept (last_first xs x)) swapped

-- one more set is put in
pub put_in : (sets done more : Sets) (i place : ℕ) (x : List ℕ) → i < length sets → x ≡ get_or sets i x → Rearranged (take i sets) done → more ≡ insert done place x → Rearranged (take (i + 1) sets) more
put_in sets done more i place x inside is so_far e =
    subst (Rearranged (take (i + 1) sets)) (sym e)
    (subst (λ l. Rearranged l (insert done place x)) (sym (take_more sets i x inside ∙ ap (λ s. take i sets ++ s ∷ []) (sym is)))
    (chained (last_first (take i sets) x) (chained (kept so_far) (inserted_there done place x))))

pub none_held : (tops sets : Sets) (r : Bool) → r ≡ eqb (length tops) 0 → length sets < 1 → r ≡ true → Dominates tops sets
none_held [] [] r e none t = ([], unmoved, tt)
none_held [] (s ∷ sets) r e none t = absurd (omega arith)
none_held (x ∷ tops) sets r e none t = let z : suc (length tops) ≡ 0 = eqb-true (suc (length tops)) 0 (sym e ∙ t) in absurd (omega arith)

-- a top that holds the first set is done with
pub one_held : (tops left rest sets : Sets) (first top : List ℕ) (place : ℕ) → place < length tops → top ≡ get_or tops place [] → within first top ≡ true → left ≡ remove tops place → Dominates left rest
    → first ∷ rest ≡ sets → Dominates tops sets
one_held tops left rest sets first top place inside is holds out (moved, order, under) whole =
    subst (Dominates tops) whole (
      get_or tops place [] ∷ moved,
      chained (to_front tops place inside) (kept (subst (λ l. Rearranged l moved) out order)),
      (within-IsWithin first (get_or tops place []) (subst (λ t. within first t ≡ true) is holds), under),
    )

-- one top holds one set
pub last_held : (tops rest sets : Sets) (first top : List ℕ) → length tops ≡ 1 → top ≡ get_or tops 0 [] → length rest ≡ 0 → first ∷ rest ≡ sets → within first top ≡ true → Dominates tops sets
last_held [] rest sets first top one is none whole holds = absurd (omega (arith, one))
last_held (t ∷ []) [] sets first top one is none whole holds = subst (Dominates (t ∷ [])) whole (t ∷ [], Rearranged-refl (t ∷ []), (within-IsWithin first t (subst (λ u. within first u ≡ true) is holds), tt))
last_held (t ∷ []) (s ∷ rest) sets first top one is none whole holds = absurd (omega (arith, none))
last_held (t ∷ u ∷ tops) rest sets first top one is none whole holds = absurd (omega (arith, one))

pub seen : (rows : List Sets) (sets hard : Sets) (top : Sets) → Contains rows top → Rearranged sets hard → Dominates top hard → IsDominated rows sets
seen rows sets hard top held order dom = dominated_under rows sets sets hard (IsUnder-refl sets) order (top, held, dom)

pub none_put : (done : Sets) → done ≡ [] → Rearranged [] done
none_put done e = subst (Rearranged []) (sym e) unmoved
