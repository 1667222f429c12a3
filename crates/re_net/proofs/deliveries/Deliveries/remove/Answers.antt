use Rattle.std.proofs.Common.{◌≡◌, ◌≢◌, ◌<◌, ℕ, true, set, ap, subst, sym, ◌∙◌}
use Rattle.re_net.specs.declared.port_sets.PortSet.{PortSet}
use Rattle.re_net.specs.Marks.{DeliveryState, IsInRoom, has_port, is_marked, marked, ports_at, without_message}
use Rattle.re_net.specs.Rounds.{is_delivered}
use Rattle.re_net.proofs.Marks.{delivered_mark, marked_less, set_read}
use Rattle.re_net.proofs.deliveries.Deliveries.remove.Goals as goal

pub returns-clause-messages : goal.returns-clause-messages
returns-clause-messages c =
    let room : IsInRoom c.self.inside.nodes c.self.inside.bound c.args.message = subst (λ (s : DeliveryState). IsInRoom s.nodes s.bound c.args.message) (sym c.self.view_is) c.requires.room in
    let read : c.index.result.now ≡ ports_at c.self.inside.bound c.self.inside.sets.items c.args.message.from c.args.message.number =
    set_read c.self.inside.nodes c.self.inside.bound c.self.inside.sets.items c.args.message c.place-index.result c.index.result.now c.self.invariant room c.place-index.ensures c.index.ensures in
    let others : (i : ℕ) → i < 8 → i ≢ c.args.message.port → has_port c.without.result i ≡ has_port (ports_at c.self.inside.bound c.self.inside.sets.items c.args.message.from c.args.message.number) i =
    λ i l other. c.without.ensures.others i l other ∙ ap (λ (s : PortSet). has_port s i) read in
    let mark : is_marked c.self.inside.bound c.self.inside.sets.items c.args.message ≡ true =
    sym (delivered_mark c.self.inside.nodes c.self.inside.bound c.self.inside.sets.items c.args.message room)
    ∙ (ap (λ (s : DeliveryState). is_delivered s.messages c.args.message.from c.args.message.port c.args.message.number) c.self.view_is ∙ c.requires.held) in
    ap (λ k. marked c.self.inside.nodes c.self.inside.bound (set c.self.inside.sets.items k c.without.result)) c.place-index.ensures
    ∙ (marked_less c.self.inside.nodes c.self.inside.bound c.self.inside.sets.items c.args.message c.without.result c.self.invariant room others c.without.ensures.gone mark
    ∙ ap (λ (s : DeliveryState). without_message s.messages c.args.message) c.self.view_is)
