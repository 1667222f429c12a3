use Rattle.std.proofs.Common.{arith, ◌≤◌, ◌∷◌, [], length}
use Rattle.re_families.proofs.ColourNames.{letter_put, letters_short}
use Rattle.re_families.proofs.naming.letter_names.Goals as goal

pub put_name-requires-clause-room : goal.put_name-requires-clause-room
put_name-requires-clause-room c =
    let within : c.loop-letter.letter-index ≤ length c.args.letters.now = omega arith in
    omega (arith, letters_short (λ letter. letter ∷ []) c.args.letters.now c.loop-letter.letter-index c.loop-letter.names within c.loop-letter.invariant)

pub loop-letter-preserved : goal.loop-letter-preserved
loop-letter-preserved c = letter_put (λ letter. letter ∷ []) c.args.letters.now c.loop-letter.letter-index c.loop-letter.names c.put_name.new.names c.loop-letter-test.true c.loop-letter.invariant c.in_ok-put_name.ensures
