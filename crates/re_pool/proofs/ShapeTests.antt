-- What the test of two shapes tells.
use Rattle.std.proofs.Common.{◌≡◌, ℕ, true, List, [], ◌∷◌, refl, arith, eqb}
use Rattle.std.proofs.lemmas.Bool.Decides.{nat_tests}
use Rattle.std.proofs.lemmas.Bool.{eqb-true, false≢true}
use Rattle.std.specs.Cmp.Lexicographic.{pointwise}
use Rattle.re_labels.proofs.Tests.{and-true, eqb-same}
use Rattle.re_pool.specs.contracts.shape.LinkPartialEq.TheImpl as link_test
use Rattle.re_pool.specs.contracts.shape.ShapePartialEq.TheImpl as shape_test
use Rattle.re_pool.specs.declared.shape.Link.{Link}
use Rattle.re_pool.specs.declared.shape.Shape.{Shape}
use Rattle.re_pool.specs.declared.shape.Shape.TheVariants.{Leaf, Node}

pub link_same : (x y : Link) → link_test.eq-value.it x y ≡ true → x ≡ y
link_same x y h =
    let both = and-true (eqb x.back y.back) (eqb x.below y.below) h in
    let back = eqb-true x.back y.back both.0 in
    let below = eqb-true x.below y.below both.1 in
    (λ i. record { back = back i; below = below i })

pub links_same : (xs ys : List Link) → pointwise link_test.eq-value.it xs ys ≡ true → xs ≡ ys
links_same [] [] h = refl
links_same [] (y ∷ ys) h = absurd (false≢true h)
links_same (x ∷ xs) [] h = absurd (false≢true h)
links_same (x ∷ xs) (y ∷ ys) h =
    let both = and-true (link_test.eq-value.it x y) (pointwise link_test.eq-value.it xs ys) h in
    let here = link_same x y both.0 in
    let there = links_same xs ys both.1 in
    (λ i. here i ∷ there i)

-- equal shapes alone pass
pub shape_same : (x y : Shape) → shape_test.eq-value.it x y ≡ true → x ≡ y
shape_same Leaf Leaf h = refl
shape_same Leaf (Node b) h = absurd (false≢true h)
shape_same (Node a) Leaf h = absurd (false≢true h)
shape_same (Node a) (Node b) h = let same = links_same a.items b.items h in (λ i. Node (record { items = same i }))

pub links_self : (xs : List Link) → pointwise link_test.eq-value.it xs xs ≡ true
links_self [] = refl
links_self (x ∷ xs) = rw (eqb-same x.back, eqb-same x.below) (links_self xs)

pub shape_self : (x : Shape) → shape_test.eq-value.it x x ≡ true
shape_self Leaf = refl
shape_self (Node a) = links_self a.items
