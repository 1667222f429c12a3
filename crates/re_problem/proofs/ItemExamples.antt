-- Worked lines.
use Rattle.std.proofs.Common.{◌≡◌, true, false, [], ◌∷◌, codes, None, Some, refl}
use Rattle.re_problem.specs.Bytes.{bad_byte}
use Rattle.re_problem.specs.Items.{item_of, items_of, words}
use Rattle.re_problem.specs.Numerals.{number_of}

two_words : words (codes " [A (b c)]^2 B ") ≡ codes "[A (b c)]^2" ∷ codes "B" ∷ []
two_words = refl

group_with_power : item_of (codes "[A(bc) D]^12") ≡ Some (record { names = codes "A" ∷ codes "bc" ∷ codes "D" ∷ []; group = true; power = Some 12 })
group_with_power = refl

label_with_power : item_of (codes "(_)^1") ≡ Some (record { names = codes "_" ∷ []; group = false; power = Some 1 })
label_with_power = refl

empty_group : item_of (codes "[ ]") ≡ Some (record { names = []; group = true; power = None })
empty_group = refl

no_item : item_of (codes "AB") ≡ None
no_item = refl

no_items : items_of (codes "A [B") ≡ None
no_items = refl

power_zero : item_of (codes "A^0") ≡ None
power_zero = refl

power_with_zero : item_of (codes "A^01") ≡ None
power_with_zero = refl

power_hundred : item_of (codes "A^100") ≡ None
power_hundred = refl

two_powers : item_of (codes "A^2^2") ≡ None
two_powers = refl

name_of_group : item_of (codes "(AB)^2") ≡ Some (record { names = codes "AB" ∷ []; group = false; power = Some 2 })
name_of_group = refl

star : bad_byte (codes "A*B") ≡ Some 1
star = refl

a_number : number_of (codes "16") ≡ Some 16
a_number = refl
