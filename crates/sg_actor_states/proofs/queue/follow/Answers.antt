use Rattle.std.proofs.Common.{◌≡◌, Bool, true, false, true≢false, List, refl, sym, ◌∙◌}
use Rattle.sg_base.specs.declared.ids.ActorId.{ActorId}
use Rattle.sg_actor_states.specs.declared.state.Actor.{Actor}
use Rattle.sg_actor_states.specs.Actors.{is_ready, put_actor}
use Rattle.sg_actor_states.specs.Queue.{is_ready_in, IsIdOf}
use Rattle.sg_actor_states.specs.kept.Standing.{IsQueued}
use Rattle.sg_actor_states.proofs.Queues.{answered_same, queue_kept}
use Rattle.sg_actor_states.proofs.queue.follow.Goals as goal
use Rattle.sg_actor_states.proofs.queue.follow.Goals.{else-is_ready-via-then-is_ready+else-not-is_ready_in, else-is_ready-via-else-is_ready}

-- one that doesn't get ready
stays : (passing : Bool) (actors : List Actor) (queue : List ActorId) (actor : ActorId) (next : Actor) → IsIdOf actors actor → (passing ≡ true → is_ready_in actors actor.0 ≡ false) → (is_ready next ≡ true → is_ready_in actors actor.0 ≡ true) → IsQueued passing actors queue → IsQueued passing (put_actor actors actor.0 next) queue
stays true actors queue actor next is turn was queued = answered_same actors queue actor next is (turn refl) (never (is_ready next) refl) queued
  where
    never : (b : Bool) → is_ready next ≡ b → b ≡ false
    never true e = absurd (true≢false (sym (was e) ∙ turn refl))
    never false e = refl
stays false actors queue actor next is turn was queued = queue_kept actors queue actor.0 next is.0 is.1 was queued

pub returns-else-is_ready : goal.returns-else-is_ready
returns-else-is_ready c =
    let actors = c.args.actors.now in
    let was : is_ready c.args.next ≡ true → is_ready_in actors c.args.actor.0 ≡ true =
    elim c.else-is_ready.branch [
      | else-is_ready-via-then-is_ready+else-not-is_ready_in w ↦ λ now. sym w.is_ready_in.ensures ∙ w.if-not-is_ready_in.false
      | else-is_ready-via-else-is_ready w ↦ λ now. absurd (true≢false (sym now ∙ (sym c.is_ready.ensures ∙ w.if-is_ready.false)))
    ] in
    record {
      queued = stays c.args.passing actors c.args.queue.now.items c.args.actor c.args.next c.requires.follows.actor c.requires.turn was c.requires.follows.queued;
      capacity = refl;
    }
