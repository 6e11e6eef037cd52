-- What always holds of the actors, as one that has an answer gets another.
use Rattle.std.proofs.Common.{◌≡◌, ◌+◌, Bool, true, false, true≢false, not, IsTrue, List, refl, sym, subst, ap, ◌∙◌}
use Rattle.sg_base.specs.declared.ids.ActorId.{ActorId}
use Rattle.sg_base.specs.declared.call.Answer.{Answer}
use Rattle.sg_actor_states.specs.declared.joiners.Joiner.{Joiner}
use Rattle.sg_actor_states.specs.declared.state.Actor.{Actor}
use Rattle.sg_actor_states.specs.declared.state.State.{State}
use Rattle.sg_actor_states.specs.declared.state.State.TheVariants.{Unstarted, Ready, Blocked, Ended}
use Rattle.sg_actor_states.specs.Actors.{actor_at, is_answered, is_over, is_ready, put_actor, put_state, state_at, IsActor}
use Rattle.sg_actor_states.specs.Queue.{is_ready_in, IsIdOf}
use Rattle.sg_actor_states.specs.kept.Standing.{Counts, IsQueued, IsStanding, Standing}
use Rattle.sg_actor_states.proofs.Keeping.{answered_idle}
use Rattle.sg_actor_states.proofs.Queues.{answered_same, queue_kept}
use Rattle.sg_actor_states.proofs.Standings.{one_if, standing_moved}
use Rattle.sg_actor_states.proofs.Waits.{waiting_same}

-- one that has an answer is ready unless it is suspended, and isn't over
answered_ready : (a : Actor) → IsTrue (is_answered a.state) → (is_ready a ≡ not a.suspended) × (is_over a ≡ false)
answered_ready a e = by a.state e
  where
    by : (s : State) → IsTrue (is_answered s) → (is_ready (record { state = s; suspended = a.suspended }) ≡ not a.suspended) × (is_over (record { state = s; suspended = a.suspended }) ≡ false)
    by Unstarted e = absurd (true≢false (sym e))
    by (Ready x) e = (refl, refl)
    by (Blocked c w o) e = absurd (true≢false (sym e))
    by Ended e = absurd (true≢false (sym e))

-- one that isn't ready, and doesn't get so
pub queued_idle : (passing : Bool) (actors : List Actor) (queue : List ActorId) (actor : ActorId) (next : Actor) → IsIdOf actors actor → is_ready_in actors actor.0 ≡ false → is_ready next ≡ false → IsQueued passing actors queue → IsQueued passing (put_actor actors actor.0 next) queue
queued_idle true actors queue actor next is was will queued = answered_same actors queue actor next is was will queued
queued_idle false actors queue actor next is was will queued = queue_kept actors queue actor.0 next is.0 is.1 (λ now. absurd (true≢false (sym now ∙ will))) queued

-- one that has an answer gets another
pub standing_answered : (standing : Standing) (queue : List ActorId) (list : List Joiner) (counts : Counts) (actor : ActorId) (answer : Answer) (actors : List Actor) → IsActor standing.actors actor.0 → IsTrue (is_answered (state_at standing.actors actor.0)) → standing.passing ≡ false
    → actors ≡ put_state standing.actors actor.0 (Ready answer) → IsStanding standing queue list counts → IsStanding (record { actors = actors; passing = standing.passing; trimmed = false }) queue list counts
standing_answered standing queue list counts actor answer actors is answered round same was =
    let there : Actor = actor_at standing.actors actor.0 in
    let next : Actor = record { state = Ready answer; suspended = there.suspended } in
    let known = answered_ready there answered in
    let queued = subst (λ p. IsQueued p standing.actors queue) round was.queued in
    let follows : IsQueued standing.passing (put_actor standing.actors actor.0 next) queue =
    subst (λ p. IsQueued p (put_actor standing.actors actor.0 next) queue) (sym round) (queue_kept standing.actors queue actor.0 next is.from is.to (λ now. known.0 ∙ now) queued) in
    let waits = waiting_same standing.actors list actor next (is.from, is.to) (sym (answered_idle there.state answered).1) was.waiting in
    standing_moved standing queue queue list list counts counts actor next actors is same follows waits (ap (λ b. counts.ready + one_if b) known.0) (ap (λ b. counts.over + one_if b) known.1) refl refl was
