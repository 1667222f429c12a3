use Rattle.std.proofs.Common.{◌≡◌, ◌-◌, ◌++◌, suc, true, false, ap, ◌∙◌, subst, arith}
use Rattle.std.specs.Prelude.{codes}
use Rattle.re_asking.specs.NearWords.{near_words}
use Rattle.re_asking.proofs.NearLines.{least_is, near_left, near_past, near_there}
use Rattle.re_asking.proofs.near_words.push_near_words.Goals as goal

pub lines-preserved-in_ok-extend_from_slice-2 : goal.lines-preserved-in_ok-extend_from_slice-2
lines-preserved-in_ok-extend_from_slice-2 c =
    let word = c.args.word.now in
    let text = c.args.text.now in
    let rest = c.lines.rest.now in
    let line = c.cut_line.result.0.now in
    let behind = c.cut_line.result.1.now in
    let left = c.lines.left in
    let some = c.if-left-gt0.true in
    let one_less : left ≡ suc (left - 1) = omega (arith, some) in
    let nearest = least_is word text rest line behind c.cut_line.ensures.line c.line_word-own.result.now c.in_ok-number.number c.in_ok-is_least.field-0 true c.line_word-own.ensures.word c.in_ok-number.ensures
    c.in_ok-is_least.ensures c.if-branch.true in
    let whole = c.args.out.now.items ++ near_words word text in
    let so_far = subst (λ n. c.lines.out.items ++ near_left n word text rest ≡ whole) one_less c.lines.invariant.0 in
    let put = c.in_ok-extend_from_slice-2.ensures.items ∙ ap (λ l. l ++ codes "? ") (c.in_ok-extend_from_slice.ensures.items ∙ ap (λ l. c.lines.out.items ++ l) c.line_word-own.ensures.word) in
    let less = c.cut_line.ensures.less in
    let within = c.lines.invariant.1 in
    (near_there word text rest line behind c.cut_line.ensures.line (left - 1) c.lines.out.items c.extend_from_slice-then-branch.new.self.items whole so_far nearest put, omega (arith, less, within))

pub lines-preserved : goal.lines-preserved
lines-preserved c =
    let word = c.args.word.now in
    let text = c.args.text.now in
    let rest = c.lines.rest.now in
    let line = c.cut_line.result.0.now in
    let behind = c.cut_line.result.1.now in
    let farther = least_is word text rest line behind c.cut_line.ensures.line c.line_word-own.result.now c.in_ok-number.number c.in_ok-is_least.field-0 false c.line_word-own.ensures.word c.in_ok-number.ensures
    c.in_ok-is_least.ensures c.if-branch.false in
    let less = c.cut_line.ensures.less in
    let within = c.lines.invariant.1 in
    (near_past word text rest line behind c.cut_line.ensures.line c.lines.left c.lines.out.items (c.args.out.now.items ++ near_words word text) c.lines.invariant.0 farther, omega (arith, less, within))
