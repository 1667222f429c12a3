use Rattle.std.proofs.Common.{◌≡◌, ◌<◌, ◌∙◌, ap, arith, not, length, get_or, []}
use Rattle.re_labels.proofs.RowCalls.{read_within}
use Rattle.re_labels.specs.Sets.{has}
use Rattle.re_boxes.specs.HeldStrength.{ups_in}
use Rattle.re_boxes.proofs.LabelsAbove.{meet-filter}
use Rattle.re_boxes.proofs.strength.Strength.without.Goals as goal

pub bounds-deref-label : goal.bounds-deref-label
bounds-deref-label c = let s = c.args.self.now in omega (arith, ap length c.deref.ensures.0, s.alike, c.requires.label)

pub returns : goal.returns
returns c =
    let s = c.args.self.now in
    let inside : c.args.label < length c.deref.result.now = omega (arith, ap length c.deref.ensures.0, s.alike, c.requires.label) in
    let set : c.index-deref-label.result ≡ get_or s.apart.items c.args.label [] =
    c.index-deref-label.is ∙ read_within c.deref.result.now c.args.label c.index-deref-label.result [] inside ∙ ap (λ l. get_or l c.args.label []) c.deref.ensures.0 in
    c.meet.ensures ∙ meet-filter s.labels (λ z. not (has (ups_in s.ups.items z) c.args.label)) c.args.set c.index-deref-label.result c.requires.set.1
    (λ z l. ap (λ t. has t z) set ∙ s.lacks c.args.label z c.requires.label l)
