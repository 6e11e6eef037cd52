use Rattle.std.proofs.Common.{◌≡◌, ℕ, ◌-◌, arith, ◌∙◌, length, ap, sym, subst}
use Rattle.std.proofs.lemmas.List.{length-set}
use Rattle.sg_requests.specs.Requested.{Requested, queues_without_oldest}
use Rattle.sg_kernel_calls.specs.declared.simulation_state.Fields.{Fields}
use Rattle.sg_kernel_calls.specs.kept.Whole.{CanStep}
use Rattle.sg_kernel_calls.proofs.Meets.{AreMade, made_taken, made_oldest}
use Rattle.sg_kernel_calls.proofs.Moves.{can_conclude}
use Rattle.sg_kernel_calls.proofs.meetings.wait.Goals as goal

-- with one request less
asking_less : (fields : Fields) (actor : ℕ) (requests : Requested) → requests ≡ record fields.requests { queues = queues_without_oldest fields.requests.queues actor } → CanStep fields actor → CanStep (record fields { requests = requests }) actor
asking_less fields actor requests is able =
    let was = able.whole in
    let sound = was.sound in
    let n = length fields.whose.whose in
    let queues = ap (λ (r : Requested). r.queues) is in
    record {
      whole = record {
        sound = record {
          numbered = sound.numbered;
          few = sound.few;
          within = sound.within;
          budgeted = sound.budgeted;
          hosts_counted = sound.hosts_counted;
          links_counted = sound.links_counted;
          homes_known = sound.homes_known;
          requests_known = ap length queues ∙ length-set fields.requests.queues (actor - 1) _ ∙ sound.requests_known;
          requests_few = omega (arith, sound.requests_few, ap (λ (r : Requested). r.asked) is);
          extent_is = sound.extent_is;
        };
        roomy = record { starts = was.roomy.starts; owners = was.roomy.owners; mailboxes = was.roomy.mailboxes; requests = omega (arith, was.roomy.requests, ap (λ (r : Requested). r.room) is) };
        dated = was.dated;
        timely = was.timely;
        limited = was.limited;
        meeting = record { posts = was.meeting.posts; idle = was.meeting.idle; busy = was.meeting.busy; awaited = was.meeting.awaited; asked = subst (AreMade n) (sym queues) (made_taken n fields.requests.queues actor was.meeting.asked) };
        held = record { owners = was.held.owners; counts = was.held.counts; actors = was.held.actors; few = was.held.few; once = was.held.once; held = was.held.held; locking = was.held.locking; acquiring = was.held.acquiring };
        round = was.round;
      };
      call = able.call;
      fresh = record { tasks = able.fresh.tasks; asked = omega (arith, able.fresh.asked, ap (λ (r : Requested). r.asked) is); counts = able.fresh.counts };
    }

pub of-requires : goal.of-requires
of-requires c =
    let old = c.args.fields.now in
    let made = made_oldest (length old.whose.whose) old.requests.queues c.args.actor.0 c.in-Some.on (sym c.take.ensures.oldest ∙ c.in-Some.is) c.requires.whole.meeting.asked in
    record { from = made.from; to = made.to }

pub answer_now-requires-clause-able : goal.answer_now-requires-clause-able
answer_now-requires-clause-able c = can_conclude (record c.args.fields.now { requests = c.take.new.self }) c.args.actor.0 (asking_less c.args.fields.now c.args.actor.0 c.take.new.self c.take.ensures.rest c.requires)

pub answer_now-requires-in-Some-answer_of_over-clause-able : goal.answer_now-requires-in-Some-answer_of_over-clause-able
answer_now-requires-in-Some-answer_of_over-clause-able c = can_conclude (record c.args.fields.now { requests = c.take.new.self }) c.args.actor.0 (asking_less c.args.fields.now c.args.actor.0 c.take.new.self c.take.ensures.rest c.requires)

pub block-requires-clause-able : goal.block-requires-clause-able
block-requires-clause-able c = can_conclude (record c.args.fields.now { requests = c.take.new.self }) c.args.actor.0 (asking_less c.args.fields.now c.args.actor.0 c.take.new.self c.take.ensures.rest c.requires)

pub block-requires-clause-made : goal.block-requires-clause-made
block-requires-clause-made c =
    let old = c.args.fields.now in
    made_oldest (length old.whose.whose) old.requests.queues c.args.actor.0 c.in-Some.on (sym c.take.ensures.oldest ∙ c.in-Some.is) c.requires.whole.meeting.asked
