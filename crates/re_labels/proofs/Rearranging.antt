-- What goes along into another order.
use Rattle.std.proofs.Common.{◌≡◌, ℕ, zero, suc, ◌<◌, List, [], ◌∷◌, length, map, get_or, refl, ap, ◌∙◌, arith}
use Rattle.std.specs.Prelude.{Contains}
use Rattle.std.specs.List.{AllZip}
use Rattle.re_labels.specs.Rearranging.{Rearranged, chained, kept, swapped, unmoved}

pub Rearranged-refl : {X : Type 0} (xs : List X) → Rearranged xs xs
Rearranged-refl [] = unmoved
Rearranged-refl (x ∷ xs) = kept (Rearranged-refl xs)

pub Rearranged-sym : {X : Type 0} {xs ys : List X} → Rearranged xs ys → Rearranged ys xs
Rearranged-sym unmoved = unmoved
Rearranged-sym (kept p) = kept (Rearranged-sym p)
Rearranged-sym swapped = swapped
Rearranged-sym (chained p q) = chained (Rearranged-sym q) (Rearranged-sym p)

pub length-Rearranged : {X : Type 0} {xs ys : List X} → Rearranged xs ys → length xs ≡ length ys
length-Rearranged unmoved = refl
length-Rearranged (kept p) = ap suc (length-Rearranged p)
length-Rearranged swapped = refl
length-Rearranged (chained p q) = length-Rearranged p ∙ length-Rearranged q

pub Rearranged-map : {X Y : Type 0} (f : X → Y) {xs ys : List X} → Rearranged xs ys → Rearranged (map f xs) (map f ys)
Rearranged-map f unmoved = unmoved
Rearranged-map f (kept p) = kept (Rearranged-map f p)
Rearranged-map f swapped = swapped
Rearranged-map f (chained p q) = chained (Rearranged-map f p) (Rearranged-map f q)

-- a list beside the first goes along into the second's order
pub along : {A B : Type 0} (R : A → B → Type 0) {ys zs : List B} → Rearranged ys zs → (xs : List A) → AllZip R xs ys → (us : List A) × Rearranged xs us × AllZip R us zs
along R unmoved [] h = ([], unmoved, h)
along R unmoved (x ∷ xs) h = absurd h
along R (kept p) [] h = absurd h
along R (kept p) (x ∷ xs) h = let r = along R p xs h.1 in (x ∷ r.0, kept r.1, (h.0, r.2))
along R swapped [] h = absurd h
along R swapped (x ∷ []) h = absurd h.1
along R swapped (x ∷ y ∷ xs) h = (y ∷ x ∷ xs, swapped, (h.1.0, (h.0, h.1.1)))
along R (chained p q) xs h =
    let r = along R p xs h in
    let s = along R q r.0 r.2 in
    (s.0, chained r.1 s.1, s.2)

pub AllZip-flip : {A B : Type 0} (R : A → B → Type 0) (xs : List A) (ys : List B) → AllZip R xs ys → AllZip (λ y x. R x y) ys xs
AllZip-flip R [] [] h = h
AllZip-flip R [] (y ∷ ys) h = h
AllZip-flip R (x ∷ xs) [] h = h
AllZip-flip R (x ∷ xs) (y ∷ ys) h = (h.0, AllZip-flip R xs ys h.1)

-- the unmoved where the first is in another order
pub AllZip-Rearranged : {A B : Type 0} (R : A → B → Type 0) {xs us : List A} → Rearranged xs us → (ys : List B) → AllZip R xs ys → (zs : List B) × Rearranged ys zs × AllZip R us zs
AllZip-Rearranged R p ys h =
    let r = along (λ y x. R x y) p ys (AllZip-flip R _ ys h) in
    (r.0, r.1, AllZip-flip (λ y x. R x y) r.0 _ r.2)

-- what stands in a list stands in it in another order
pub Contains-Rearranged : {A : Type 0} {xs ys : List A} (x : A) → Rearranged xs ys → Contains xs x → Contains ys x
Contains-Rearranged x unmoved h = h
Contains-Rearranged x (kept r) (zero, l, e) = (zero, omega arith, e)
Contains-Rearranged x (kept r) (suc k, l, e) =
    let (j, m, f) = Contains-Rearranged x r (k, omega arith, e) in
    (suc j, omega arith, f)
Contains-Rearranged x swapped (zero, l, e) = (suc zero, omega arith, e)
Contains-Rearranged x swapped (suc zero, l, e) = (zero, omega arith, e)
Contains-Rearranged x swapped (suc (suc k), l, e) = (suc (suc k), l, e)
Contains-Rearranged x (chained r s) h = Contains-Rearranged x s (Contains-Rearranged x r h)

-- std has these two for lists of one type
pub length-AllZip : {A B : Type 0} (R : A → B → Type 0) (xs : List A) (ys : List B) → AllZip R xs ys → length xs ≡ length ys
length-AllZip R [] [] h = refl
length-AllZip R [] (y ∷ ys) h = absurd h
length-AllZip R (x ∷ xs) [] h = absurd h
length-AllZip R (x ∷ xs) (y ∷ ys) h = ap suc (length-AllZip R xs ys h.1)

pub AllZip-at : {A B : Type 0} (R : A → B → Type 0) (xs : List A) (ys : List B) (k : ℕ) (d : A) (e : B) → AllZip R xs ys → k < length xs → R (get_or xs k d) (get_or ys k e)
AllZip-at R [] ys k d e h l = absurd (omega arith)
AllZip-at R (x ∷ xs) [] k d e h l = absurd h
AllZip-at R (x ∷ xs) (y ∷ ys) zero d e h l = h.0
AllZip-at R (x ∷ xs) (y ∷ ys) (suc k) d e h l = AllZip-at R xs ys k d e h.1 (omega arith)
