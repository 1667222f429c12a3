use Rattle.std.proofs.Common.{◌≡◌, [], length, arith}
use Rattle.std.proofs.lemmas.List.{ext_get_or}
use Rattle.re_search.proofs.derivations.is_same.Goals as goal

pub returns : goal.returns
returns c _ =
    let size : length c.args.constraint.now.configs ≡ length c.args.other.now.configs = omega (arith, c.len.ensures.len, c.len-2.ensures.len, c.if-len.false) in
    let configs = ext_get_or [] c.args.constraint.now.configs c.args.other.now.configs size (λ k l. c.loop-place.invariant k (omega (arith, c.loop-place-test.false))) in
    let degree : c.args.constraint.now.degree ≡ c.args.other.now.degree = omega arith in
    (λ i. record { degree = degree i; configs = configs i })
