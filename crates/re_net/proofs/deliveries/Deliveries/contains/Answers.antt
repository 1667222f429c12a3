use Rattle.std.proofs.Common.{ap, sym, ◌∙◌, arith}
use Rattle.re_net.specs.Marks.{DeliveryState, IsInRoom, has_port}
use Rattle.re_net.specs.Rounds.{is_delivered}
use Rattle.re_net.proofs.Marks.{delivered_mark, delivered_outside, set_read}
use Rattle.re_net.proofs.deliveries.Deliveries.contains.Goals as goal
use Rattle.re_net.proofs.deliveries.Deliveries.contains.Goals.{then-message-self-via-then-message-self, then-message-self-via-else-message-self+then-message-self-2, then-message-eq0-via-then-message-eq0, then-message-eq0-via-else-message-eq0+then-message-gt6}

pub returns-then-message-self : goal.returns-then-message-self
returns-then-message-self c =
    delivered_outside c.self.inside.nodes c.self.inside.bound c.self.inside.sets.items c.args.message (λ room. elim c.then-message-self.branch [
      | then-message-self-via-then-message-self w ↦ (let past = w.if-message-self.true in let node = room.node in absurd (omega arith))
      | then-message-self-via-else-message-self+then-message-self-2 w ↦ (let past = w.if-message-self-2.true in let number = room.number in absurd (omega arith))
    ])
    ∙ ap (λ (s : DeliveryState). is_delivered s.messages c.args.message.from c.args.message.port c.args.message.number) c.self.view_is

pub returns-then-message-eq0 : goal.returns-then-message-eq0
returns-then-message-eq0 c =
    delivered_outside c.self.inside.nodes c.self.inside.bound c.self.inside.sets.items c.args.message (λ room. elim c.then-message-eq0.branch [
      | then-message-eq0-via-then-message-eq0 w ↦ (let past = w.if-message-eq0.true in let least = room.least in absurd (omega arith))
      | then-message-eq0-via-else-message-eq0+then-message-gt6 w ↦ (let past = w.if-message-gt6.true in let most = room.most in absurd (omega arith))
    ])
    ∙ ap (λ (s : DeliveryState). is_delivered s.messages c.args.message.from c.args.message.port c.args.message.number) c.self.view_is

pub returns : goal.returns
returns c =
    let below = c.if-message-self.false in
    let few = c.if-message-self-2.false in
    let zero = c.if-message-eq0.false in
    let high = c.if-message-gt6.false in
    let room : IsInRoom c.self.inside.nodes c.self.inside.bound c.args.message = record { node = omega arith; least = omega arith; most = omega arith; number = omega arith } in
    c.has.ensures
    ∙ (ap (λ set. has_port set c.args.message.port) (set_read c.self.inside.nodes c.self.inside.bound c.self.inside.sets.items c.args.message c.place.result c.index.result.now c.self.invariant room c.place.ensures c.index.ensures)
    ∙ (sym (delivered_mark c.self.inside.nodes c.self.inside.bound c.self.inside.sets.items c.args.message room)
    ∙ ap (λ (s : DeliveryState). is_delivered s.messages c.args.message.from c.args.message.port c.args.message.number) c.self.view_is))
