use Rattle.std.proofs.Common.{◌∷◌, [], get_or, subst}
use Rattle.std.proofs.lemmas.List.{get_or_default}
use Rattle.std.proofs.lemmas.Result.{IfOk-weaker}
use Rattle.re_labels.proofs.Patterns.{others-are, parted}
use Rattle.re_given_words.proofs.SetsAdded.{added-on, added-whole}
use Rattle.re_given_words.specs.Searching.{IsAdded}
use Rattle.re_given_words.proofs.drawing.+add.Goals as goal

pub returns : goal.returns
returns t c =
    let ports = parted c.args.ports.now _ (get_or c.args.ports.now 0 0) c.in-len1-up.len_at_least (get_or_default c.args.ports.now 0 0 (get_or c.args.ports.now 0 0) c.in-len1-up.len_at_least) (others-are c.args.ports.now) in
    let sets = parted c.args.sets.now _ c.set-item.result c.in-len1-up-sets.len_at_least c.set-item.is (others-are c.args.sets.now) in
    let first = subst (λ b. IsAdded c.args.active.now (get_or c.args.ports.now 0 0 ∷ []) (c.set-item.result ∷ []) c.args.standing.now.items b c.let_stand.new.standing.items) c.if-not-branch.false c.in_ok-let_stand.ensures in
    IfOk-weaker c.add.result _ _ (λ fits added.
    added-whole c.args.active.now c.args.ports.now _ c.args.sets.now _ c.args.standing.now.items c.add.new.standing.items fits ports sets
    (added-on c.args.active.now _ _ _ _ c.args.standing.now.items c.let_stand.new.standing.items c.add.new.standing.items fits first added)) c.add.ensures
