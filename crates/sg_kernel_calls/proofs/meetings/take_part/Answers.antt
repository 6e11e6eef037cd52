use Rattle.std.proofs.Common.{length, ap, sym, subst, arith}
use Rattle.std.proofs.lemmas.Grind.{common_steps}
use Rattle.sg_requests.specs.Requested.{Requested}
use Rattle.sg_kernel_calls.proofs.Meets.{AreMade, made_queued}
use Rattle.sg_kernel_calls.proofs.meetings.take_part.Goals as goal

pub block-requires-clause-made : goal.block-requires-clause-made
block-requires-clause-made c = record { from = c.requires.made.0; to = c.requires.made.1 }

pub answer_now-requires-clause-able : goal.answer_now-requires-clause-able
answer_now-requires-clause-able c =
    let old = c.args.fields.now in
    let was = c.requires.whole in
    let sound = was.sound in
    let made = AreMade (length old.whose.whose) in
    let queues = ap (λ (r : Requested). r.queues) c.push.ensures in
    let long = ap (λ (r : Requested). length r.queues) c.push.ensures in
    record {
      whole = record {
        sound = record {
          numbered = sound.numbered;
          few = sound.few;
          within = sound.within;
          budgeted = sound.budgeted;
          hosts_counted = sound.hosts_counted;
          links_counted = sound.links_counted;
          homes_known = sound.homes_known;
          requests_known = grind (arith, common_steps);
          requests_few = omega (arith, c.requires.few, ap (λ (r : Requested). r.asked) c.push.ensures);
          extent_is = sound.extent_is;
        };
        roomy = record { starts = was.roomy.starts; owners = was.roomy.owners; mailboxes = was.roomy.mailboxes; requests = omega (arith, c.requires.room, ap (λ (r : Requested). r.room) c.push.ensures) };
        dated = was.dated;
        timely = was.timely;
        limited = was.limited;
        meeting = record {
          posts = was.meeting.posts;
          idle = was.meeting.idle;
          busy = was.meeting.busy;
          awaited = was.meeting.awaited;
          asked = subst made (sym queues) (made_queued (length old.whose.whose) old.requests.queues c.args.comer.now.side.actor.0 _ (record { from = c.requires.made.0; to = c.requires.made.1 }) was.meeting.asked);
        };
        held = record { owners = was.held.owners; counts = was.held.counts; actors = was.held.actors; few = was.held.few; once = was.held.once; held = was.held.held; locking = was.held.locking; acquiring = was.held.acquiring };
        round = was.round;
      };
      call = c.requires.able;
    }
