use Rattle.std.proofs.Common.{◌≡◌, ◌<◌, ℕ, true, cond, sym, ap, ap₂, subst, ◌∙◌, arith, rules}
use Rattle.std.specs.List.{All}
use Rattle.sg_base.specs.declared.ids.LinkId.{LinkId}
use Rattle.sg_activity.specs.Task.{is_cut}
use Rattle.sg_mailbox.specs.declared.sides.Side.{Side}
use Rattle.sg_route.specs.Route.{Route}
use Rattle.sg_kernel_calls.specs.Known.{after_call}
use Rattle.sg_kernel_calls.specs.Meetings.{fails_with, joins_with, way_with}
use Rattle.sg_kernel_calls.specs.World.{extent, host_of}
use Rattle.sg_kernel_calls.specs.kept.Sound.{core_of, known_of, IsSide}
use Rattle.sg_kernel_calls.proofs.Mets.{is_met, sides_limited}
use Rattle.sg_kernel_calls.proofs.meetings.meet.Goals as goal

pub host-sender-requires : goal.host-sender-requires
host-sender-requires c =
    let old = c.args.fields.now in
    let e = extent old.setup in
    let m = is_met old c.args.comer.now c.args.met.0 c.args.met.1 (sym c.requires.meets.found.met ∙ c.requires.meets.met) c.requires.meets.able.whole.limited c.requires.meets.able.whole.meeting in
    (subst (IsSide e) (sym c.sender_of.ensures) (sides_limited e c.args.comer.now c.args.met.1 c.requires.meets.comer.side m.limited).0).actor

pub host-receiver-requires : goal.host-receiver-requires
host-receiver-requires c =
    let old = c.args.fields.now in
    let e = extent old.setup in
    let m = is_met old c.args.comer.now c.args.met.0 c.args.met.1 (sym c.requires.meets.found.met ∙ c.requires.meets.met) c.requires.meets.able.whole.limited c.requires.meets.able.whole.meeting in
    (subst (IsSide e) (sym c.receiver_of.ensures) (sides_limited e c.args.comer.now c.args.met.1 c.requires.meets.comer.side m.limited).1).actor

pub is_cut-requires-clause-links : goal.is_cut-requires-clause-links
is_cut-requires-clause-links c = subst (λ n. All (λ (link : LinkId). link.0 < n) c.args.links.now) (sym c.requires.meets.able.whole.sound.links_counted) c.requires.route.exist

pub is_cut-requires-clause-sender : goal.is_cut-requires-clause-sender
is_cut-requires-clause-sender c =
    omega (arith, c.host-sender.ensures.exists, c.requires.meets.able.whole.sound.hosts_counted)

pub is_cut-requires-clause-receiver : goal.is_cut-requires-clause-receiver
is_cut-requires-clause-receiver c =
    omega (arith, c.host-receiver.ensures.exists, c.requires.meets.able.whole.sound.hosts_counted)

pub returns-then-is_cut : goal.returns-then-is_cut
returns-then-is_cut c = record {
  known =
      let old = c.args.fields.now in
      let setup = old.setup in
      let route : Route = record { links = c.args.links.now; latency = c.args.latency } in
      let from = c.host-sender.ensures.is ∙ ap (λ (s : Side). host_of setup s.actor.0) c.sender_of.ensures in
      let to = c.host-receiver.ensures.is ∙ ap (λ (s : Side). host_of setup s.actor.0) c.receiver_of.ensures in
      let way : c.is_cut.result ≡ is_cut old.doing.under.on (way_with route setup c.args.comer.now c.args.met.1) = c.is_cut.ensures ∙ ap₂ (λ (a b : ℕ). is_cut old.doing.under.on (record { links = c.args.links.now; sender = a; receiver = b })) from to in
      let core = core_of old in
      let serial = c.args.met.0 in
      let other = c.args.met.1 in
      c.fail_at_once.ensures.known
      ∙ sym (ap (λ b. after_call true (cond b (fails_with c.args.comer.now serial other core) (joins_with route setup c.args.comer.now serial other core)) (known_of old)) (sym way ∙ c.if-is_cut.true));
  whole = search rules;
}

pub returns-else-is_cut : goal.returns-else-is_cut
returns-else-is_cut c = record {
  known =
      let old = c.args.fields.now in
      let setup = old.setup in
      let route : Route = record { links = c.args.links.now; latency = c.args.latency } in
      let from = c.host-sender.ensures.is ∙ ap (λ (s : Side). host_of setup s.actor.0) c.sender_of.ensures in
      let to = c.host-receiver.ensures.is ∙ ap (λ (s : Side). host_of setup s.actor.0) c.receiver_of.ensures in
      let way : c.is_cut.result ≡ is_cut old.doing.under.on (way_with route setup c.args.comer.now c.args.met.1) = c.is_cut.ensures ∙ ap₂ (λ (a b : ℕ). is_cut old.doing.under.on (record { links = c.args.links.now; sender = a; receiver = b })) from to in
      let core = core_of old in
      let serial = c.args.met.0 in
      let other = c.args.met.1 in
      c.begin.ensures.known
      ∙ sym (ap (λ b. after_call true (cond b (fails_with c.args.comer.now serial other core) (joins_with route setup c.args.comer.now serial other core)) (known_of old)) (sym way ∙ c.if-is_cut.false));
  whole = search rules;
}
