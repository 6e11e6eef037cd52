use Rattle.std.proofs.Common.{◌≡◌, ◌+◌, ◌≤◌, ◌++◌, ◌∷◌, [], List, None, Option, length, true≢false, refl, sym, ap, subst, ◌∙◌, arith, rules}
use Rattle.std.specs.List.{All}
use Rattle.std.proofs.lemmas.List.{length-append}
use Rattle.std.proofs.lemmas.List.Elements.{All-push}
use Rattle.sg_activity.specs.Doing.{Doing}
use Rattle.sg_activity.specs.Task.{Task}
use Rattle.sg_mailbox.specs.declared.owners.Whose.{Whose}
use Rattle.sg_mailbox.specs.declared.owners.Whose.TheVariants.{Posted}
use Rattle.sg_kernel_calls.specs.World.{extent}
use Rattle.sg_mailbox.specs.Owners.{Owned}
use Rattle.sg_kernel_calls.specs.kept.Sound.{IsOwner}
use Rattle.sg_kernel_calls.proofs.Begins.{held_with, sound_with}
use Rattle.sg_kernel_calls.proofs.Timely.{IsTimelyAt}
use Rattle.sg_kernel_calls.proofs.Meets.{AreBusy, AreIdle, AreTold, busy_more, idle_more, made_more, told_posted}
use Rattle.sg_kernel_calls.proofs.Stated.{awaiting_more}
use Rattle.sg_kernel_calls.proofs.Mets.{waiting_below}
use Rattle.sg_kernel_calls.proofs.meetings.post.Goals as goal

pub enter-requires-clause-above : goal.enter-requires-clause-above
enter-requires-clause-above c = λ other. waiting_below c.args.fields.now other c.take_serial-serial.result.0 c.take_serial-serial.ensures.serial c.requires.comes.able.whole.sound c.requires.comes.able.whole.meeting

pub take_part-requires : goal.take_part-requires
take_part-requires c = record {
  able = search rules;
  comer = search rules;
  made =
      let whose = c.args.fields.now.whose.whose in
      let w = Posted c.args.comer.now.mailbox c.args.comer.now.sends c.args.comer.now.side in
      let many = ap (λ (o : Owned). length o.whose) c.push.ensures ∙ length-append whose (w ∷ []) in
      (omega (arith, c.take_serial-serial.ensures.serial), omega (arith, c.take_serial-serial.ensures.serial, many, c.requires.comes.able.whole.sound.numbered));
  room = search rules;
  few = search rules;
  whole =
      let old = c.args.fields.now in
      let comer = c.args.comer.now in
      let e = extent old.setup in
      let was = c.requires.comes.able.whole in
      let w = Posted comer.mailbox comer.sends comer.side in
      let doing = c.take_serial-serial.new.self in
      let drawn = c.take_serial-serial.ensures.drawn in
      let entered = c.enter.ensures in
      let whose : c.push.new.self.whose ≡ old.whose.whose ++ w ∷ [] = ap (λ (o : Owned). o.whose) c.push.ensures in
      let tasks : doing.under.tasks ≡ old.doing.under.tasks ++ None ∷ [] = ap (λ (d : Doing). d.under.tasks) drawn in
      let next : c.take_serial-serial.result.0 ≡ 1 + length old.whose.whose = omega (arith, c.take_serial-serial.ensures.serial, was.sound.numbered) in
      let long = ap length tasks ∙ length-append old.doing.under.tasks (None ∷ []) in
      let many = ap (λ (l : List Whose). length l) whose ∙ length-append old.whose.whose (w ∷ []) in
      let more : length old.whose.whose ≤ length c.push.new.self.whose = omega (arith, many) in
      record {
        sound = sound_with old doing c.push.new.self c.enter.new.self (omega (arith, long, many, was.sound.numbered)) (omega (arith, long, c.requires.comes.able.fresh.tasks)) (ap (λ (d : Doing). d.under.capacities) drawn) was.sound;
        roomy = record {
          starts = omega (arith, was.roomy.starts, ap (λ (d : Doing). d.room) drawn);
          owners = omega (arith, was.roomy.owners, ap (λ (o : Owned). o.room) c.push.ensures);
          mailboxes = omega (arith, was.roomy.mailboxes, entered.room);
          requests = omega (arith, was.roomy.requests);
        };
        dated = omega (arith, was.dated, ap (λ (d : Doing). d.under.date) drawn);
        timely = subst (IsTimelyAt old) (sym (ap (λ (d : Doing). d.under.date) drawn)) was.timely;
        limited = subst (All (IsOwner e)) (sym whose) (All-push (IsOwner e) old.whose.whose w was.limited c.requires.comes.comer.side);
        meeting = record {
          posts =
              subst (AreTold c.enter.new.self) (sym whose)
              (told_posted old.boxes c.enter.new.self comer.mailbox comer.sends comer.side c.take_serial-serial.result old.whose.whose next c.requires.alone entered.there entered.elsewhere was.meeting.posts);
          idle =
              subst (λ (l : List Whose). AreIdle l doing.under.tasks) (sym whose)
              (subst (λ (l : List (Option Task)). AreIdle (old.whose.whose ++ w ∷ []) l) (sym tasks)
              (idle_more old.whose.whose old.doing.under.tasks w None was.sound.numbered (λ e. refl) was.meeting.idle));
          busy =
              subst (λ (l : List Whose). AreBusy l doing.under.tasks) (sym whose)
              (subst (λ (l : List (Option Task)). AreBusy (old.whose.whose ++ w ∷ []) l) (sym tasks)
              (busy_more old.whose.whose old.doing.under.tasks w None was.sound.numbered (λ e. absurd (true≢false e)) was.meeting.busy));
          awaited = awaiting_more (length old.whose.whose) (length c.push.new.self.whose) old.states.actors more was.meeting.awaited;
          asked = made_more (length old.whose.whose) (length c.push.new.self.whose) old.requests.queues more was.meeting.asked;
        };
        held = held_with old doing c.push.new.self c.enter.new.self was.held;
        round = was.round;
      };
}
