use Rattle.std.proofs.Common.{◌≡◌, ◌-◌, ◌<◌, ◌≤◌, List, Some, Option, length, set, refl, sym, ap, subst, arith, ◌∙◌, rules}
use Rattle.std.specs.List.{All}
use Rattle.std.proofs.lemmas.List.{length-set}
use Rattle.std.proofs.lemmas.List.Elements.{All-set}
use Rattle.sg_activity.specs.Doing.{Doing}
use Rattle.sg_activity.specs.Task.{Task, comm_of}
use Rattle.sg_base.specs.declared.ids.LinkId.{LinkId}
use Rattle.sg_base.specs.declared.ids.Serial.{Serial}
use Rattle.sg_mailbox.specs.declared.owners.Whose.{Whose}
use Rattle.sg_mailbox.specs.declared.owners.Whose.TheVariants.{Pair}
use Rattle.sg_mailbox.specs.Owners.{Owned}
use Rattle.sg_kernel_calls.specs.World.{extent}
use Rattle.sg_kernel_calls.specs.kept.Sound.{IsSide, IsOwner}
use Rattle.sg_kernel_calls.proofs.Begins.{held_with, sound_with}
use Rattle.sg_kernel_calls.proofs.Timely.{IsTimelyAt}
use Rattle.sg_kernel_calls.proofs.Meets.{AreBusy, AreIdle, AreTold, busy_put, idle_put, made_more, told_met}
use Rattle.sg_kernel_calls.proofs.Stated.{awaiting_more}
use Rattle.sg_kernel_calls.proofs.Mets.{is_met, sides_limited, waiting_below}
use Rattle.sg_kernel_calls.proofs.meetings.begin.Goals as goal

pub enter-requires-clause-above : goal.enter-requires-clause-above
enter-requires-clause-above c = λ other. waiting_below c.args.fields.now other c.next_serial-next.result.0 c.next_serial-next.ensures c.requires.meets.able.whole.sound c.requires.meets.able.whole.meeting

pub start_comm-requires-clause-serial : goal.start_comm-requires-clause-serial
start_comm-requires-clause-serial c =
    let able = c.requires.meets.able in
    let m = is_met c.args.fields.now c.args.comer.now c.args.met.0 c.args.met.1 (sym c.requires.meets.found.met ∙ c.requires.meets.met) able.whole.limited able.whole.meeting in
    record {
      from = m.from;
      to = omega (arith, m.to, able.whole.sound.numbered);
      idle = m.idle;
      room = omega (arith, able.call.room, able.whole.roomy.starts);
    }

pub host-from-requires : goal.host-from-requires
host-from-requires c =
    let old = c.args.fields.now in
    let e = extent old.setup in
    let m = is_met old c.args.comer.now c.args.met.0 c.args.met.1 (sym c.requires.meets.found.met ∙ c.requires.meets.met) c.requires.meets.able.whole.limited c.requires.meets.able.whole.meeting in
    (subst (IsSide e) (sym c.sender_of-sender.ensures) (sides_limited e c.args.comer.now c.args.met.1 c.requires.meets.comer.side m.limited).0).actor

pub host-to-requires : goal.host-to-requires
host-to-requires c =
    let old = c.args.fields.now in
    let e = extent old.setup in
    let m = is_met old c.args.comer.now c.args.met.0 c.args.met.1 (sym c.requires.meets.found.met ∙ c.requires.meets.met) c.requires.meets.able.whole.limited c.requires.meets.able.whole.meeting in
    (subst (IsSide e) (sym c.receiver_of-receiver.ensures) (sides_limited e c.args.comer.now c.args.met.1 c.requires.meets.comer.side m.limited).1).actor

pub start_comm-requires-clause-transfer : goal.start_comm-requires-clause-transfer
start_comm-requires-clause-transfer c =
    let old = c.args.fields.now in
    let sound = c.requires.meets.able.whole.sound in
    let e = extent old.setup in
    let m = is_met old c.args.comer.now c.args.met.0 c.args.met.1 (sym c.requires.meets.found.met ∙ c.requires.meets.met) c.requires.meets.able.whole.limited c.requires.meets.able.whole.meeting in
    let sides = sides_limited e c.args.comer.now c.args.met.1 c.requires.meets.comer.side m.limited in
    let sender = subst (IsSide e) (sym c.sender_of-sender.ensures) sides.0 in
    record {
      some = c.requires.route.some;
      apart = c.requires.apart;
      exist = subst (λ n. All (λ (link : LinkId). link.0 < n) c.args.links.now) (sym sound.links_counted) c.requires.route.exist;
      few = c.requires.route.few;
      sender = omega (arith, c.host-from.ensures.exists, sound.hosts_counted);
      receiver = omega (arith, c.host-to.ensures.exists, sound.hosts_counted);
      latency = c.latency_over-lasts.ensures.limit;
      bytes = sender.bytes;
    }

pub put-requires-clause-drawn : goal.put-requires-clause-drawn
put-requires-clause-drawn c =
    let m = is_met c.args.fields.now c.args.comer.now c.args.met.0 c.args.met.1 (sym c.requires.meets.found.met ∙ c.requires.meets.met) c.requires.meets.able.whole.limited c.requires.meets.able.whole.meeting in
    record { from = m.from; to = m.to }

pub take_part-requires : goal.take_part-requires
take_part-requires c = record {
  able = search rules;
  comer = search rules;
  made =
      let old = c.args.fields.now in
      let m = is_met old c.args.comer.now c.args.met.0 c.args.met.1 (sym c.requires.meets.found.met ∙ c.requires.meets.met) c.requires.meets.able.whole.limited c.requires.meets.able.whole.meeting in
      let w = Pair c.sender_of-sender.result c.receiver_of-receiver.result in
      (m.from, omega (arith, m.to, ap (λ (o : Owned). length o.whose) c.put.ensures, length-set old.whose.whose (c.args.met.0.0 - 1) w));
  room = search rules;
  few = search rules;
  whole =
      let old = c.args.fields.now in
      let comer = c.args.comer.now in
      let serial = c.args.met.0 in
      let e = extent old.setup in
      let was = c.requires.meets.able.whole in
      let m = is_met old comer serial c.args.met.1 (sym c.requires.meets.found.met ∙ c.requires.meets.met) c.requires.meets.able.whole.limited c.requires.meets.able.whole.meeting in
      let w = Pair c.sender_of-sender.result c.receiver_of-receiver.result in
      let doing = c.start_comm.new.self in
      let begun = c.start_comm.ensures in
      let entered = c.enter.ensures in
      let sides = sides_limited e comer c.args.met.1 c.requires.meets.comer.side m.limited in
      let whose : c.put.new.self.whose ≡ set old.whose.whose (serial.0 - 1) w = ap (λ (o : Owned). o.whose) c.put.ensures in
      let both : IsOwner e w = (subst (IsSide e) (sym c.sender_of-sender.ensures) sides.0, subst (IsSide e) (sym c.receiver_of-receiver.ensures) sides.1) in
      let task = comm_of (record { links = c.args.links.now; sender = c.host-from.result.0; receiver = c.host-to.result.0 }) c.latency_over-lasts.result c.sender_of-sender.result.bytes c.own_bound-bound.result in
      let place : serial.0 - 1 < length old.whose.whose = omega (arith, m.from, m.to) in
      let tasks : doing.under.tasks ≡ set old.doing.under.tasks (serial.0 - 1) (Some task) = ap (λ (d : Doing). d.under.tasks) begun in
      let long = ap length tasks ∙ length-set old.doing.under.tasks (serial.0 - 1) (Some task) in
      let many = ap (λ (l : List Whose). length l) whose ∙ length-set old.whose.whose (serial.0 - 1) w in
      let more : length old.whose.whose ≤ length c.put.new.self.whose = omega (arith, many) in
      let told : AreTold c.enter.new.self (set old.whose.whose (m.post.serial.0 - 1) w) =
      told_met old.boxes c.enter.new.self comer.mailbox comer.sends comer.side c.next_serial-next.result old.whose.whose m.post w m.found refl entered.there entered.elsewhere was.meeting.posts in
      record {
        sound = sound_with old doing c.put.new.self c.enter.new.self (omega (arith, long, many, was.sound.numbered)) (omega (arith, long, was.sound.few)) (ap (λ (d : Doing). d.under.capacities) begun) was.sound;
        roomy = record {
          starts = omega (arith, was.roomy.starts, ap (λ (d : Doing). d.room) begun);
          owners = omega (arith, was.roomy.owners, ap (λ (o : Owned). o.room) c.put.ensures);
          mailboxes = omega (arith, was.roomy.mailboxes, entered.room);
          requests = omega (arith, was.roomy.requests);
        };
        dated = omega (arith, was.dated, ap (λ (d : Doing). d.under.date) begun);
        timely = subst (IsTimelyAt old) (sym (ap (λ (d : Doing). d.under.date) begun)) was.timely;
        limited = subst (All (IsOwner e)) (sym whose) (All-set (IsOwner e) old.whose.whose (serial.0 - 1) w both was.limited);
        meeting = record {
          posts = subst (AreTold c.enter.new.self) (ap (λ (s : Serial). set old.whose.whose (s.0 - 1) w) m.serial_is ∙ sym whose) told;
          idle =
              subst (λ (l : List Whose). AreIdle l doing.under.tasks) (sym whose)
              (subst (λ (l : List (Option Task)). AreIdle (set old.whose.whose (serial.0 - 1) w) l) (sym tasks)
              (idle_put old.whose.whose old.doing.under.tasks (serial.0 - 1) w (Some task) place refl was.meeting.idle));
          busy =
              subst (λ (l : List Whose). AreBusy l doing.under.tasks) (sym whose)
              (subst (λ (l : List (Option Task)). AreBusy (set old.whose.whose (serial.0 - 1) w) l) (sym tasks)
              (busy_put old.whose.whose old.doing.under.tasks (serial.0 - 1) w task (omega (arith, place, was.sound.numbered)) was.meeting.busy));
          awaited = awaiting_more (length old.whose.whose) (length c.put.new.self.whose) old.states.actors more was.meeting.awaited;
          asked = made_more (length old.whose.whose) (length c.put.new.self.whose) old.requests.queues more was.meeting.asked;
        };
        held = held_with old doing c.put.new.self c.enter.new.self was.held;
        round = was.round;
      };
}
