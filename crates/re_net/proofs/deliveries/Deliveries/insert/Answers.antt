use Rattle.std.proofs.Common.{◌≡◌, ◌≢◌, ◌<◌, ℕ, not, set, ap, subst, sym, ◌∙◌}
use Rattle.re_net.specs.declared.port_sets.PortSet.{PortSet}
use Rattle.re_net.specs.Marks.{DeliveryState, IsInRoom, has_port, marked, ports_at}
use Rattle.re_net.specs.Nets.{with_message}
use Rattle.re_net.specs.Rounds.{is_delivered}
use Rattle.re_net.proofs.Marks.{delivered_mark, marked_more, set_read}
use Rattle.re_net.proofs.deliveries.Deliveries.insert.Goals as goal

pub returns-clause-new : goal.returns-clause-new
returns-clause-new c =
    let room : IsInRoom c.self.inside.nodes c.self.inside.bound c.args.message = subst (λ (s : DeliveryState). IsInRoom s.nodes s.bound c.args.message) (sym c.self.view_is) c.requires in
    ap not (c.has.ensures
    ∙ (ap (λ set. has_port set c.args.message.port) (set_read c.self.inside.nodes c.self.inside.bound c.self.inside.sets.items c.args.message c.place-at.result c.index-ports.result.now c.self.invariant room c.place-at.ensures c.index-ports.ensures)
    ∙ (sym (delivered_mark c.self.inside.nodes c.self.inside.bound c.self.inside.sets.items c.args.message room)
    ∙ ap (λ (s : DeliveryState). is_delivered s.messages c.args.message.from c.args.message.port c.args.message.number) c.self.view_is)))

pub returns-clause-messages : goal.returns-clause-messages
returns-clause-messages c =
    let room : IsInRoom c.self.inside.nodes c.self.inside.bound c.args.message = subst (λ (s : DeliveryState). IsInRoom s.nodes s.bound c.args.message) (sym c.self.view_is) c.requires in
    let read : c.index-ports.result.now ≡ ports_at c.self.inside.bound c.self.inside.sets.items c.args.message.from c.args.message.number =
    set_read c.self.inside.nodes c.self.inside.bound c.self.inside.sets.items c.args.message c.place-at.result c.index-ports.result.now c.self.invariant room c.place-at.ensures c.index-ports.ensures in
    let others : (i : ℕ) → i < 8 → i ≢ c.args.message.port → has_port c.with.result i ≡ has_port (ports_at c.self.inside.bound c.self.inside.sets.items c.args.message.from c.args.message.number) i =
    λ i l other. c.with.ensures.others i l other ∙ ap (λ (s : PortSet). has_port s i) read in
    ap (λ k. marked c.self.inside.nodes c.self.inside.bound (set c.self.inside.sets.items k c.with.result)) c.place-at.ensures
    ∙ (marked_more c.self.inside.nodes c.self.inside.bound c.self.inside.sets.items c.args.message c.with.result c.self.invariant room others c.with.ensures.held
    ∙ ap (λ (s : DeliveryState). with_message s.messages c.args.message) c.self.view_is)
