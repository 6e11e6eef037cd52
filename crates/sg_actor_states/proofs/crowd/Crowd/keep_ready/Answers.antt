use Rattle.std.proofs.Common.{◌≡◌, true, false, List, length, filter, refl, sym, subst, ap, arith, ◌∙◌}
use Rattle.std.specs.Prelude.{vec_capacity}
use Rattle.std.specs.Global.{Vec}
use Rattle.sg_base.specs.declared.ids.ActorId.{ActorId}
use Rattle.sg_actor_states.specs.declared.crowd.Crowd.TheInside.{Inside}
use Rattle.sg_actor_states.specs.declared.state.Actor.{Actor}
use Rattle.sg_actor_states.specs.Queue.{is_ready_in, AreReady, IsQueue}
use Rattle.sg_actor_states.specs.kept.Standing.{IsQueued, IsStanding, Standing}
use Rattle.sg_actor_states.proofs.Queues.{all_ready, filter_ready, queue_filtered}
use Rattle.sg_actor_states.proofs.crowd.Crowd.keep_ready.Goals as goal
use Rattle.sg_actor_states.proofs.crowd.Crowd.keep_ready.Goals.{then-len-self, else-len-self}

pub invariant_of-self : goal.invariant_of-self
invariant_of-self c =
    let kept = c.self.invariant in
    let o = c.self.inside in
    let passing : o.passing ≡ false = ap (λ (s : Standing). s.passing) c.self.view_is ∙ c.requires in
    let queued : IsQueue o.actors.items o.queue.items = subst (λ p. IsQueued p o.actors.items o.queue.items) passing kept.queued in
    let trimmed : Inside → Type 0 = λ s. IsStanding (record { actors = s.actors.items; passing = s.passing; trimmed = true }) s.queue.items s.joiners.items (record { ready = s.ready; over = s.over; queue_room = vec_capacity s.queue; joiners_room = vec_capacity s.joiners }) in
    let lists_ready : (queue : Vec ActorId) → IsQueue o.actors.items queue.items → AreReady o.actors.items queue.items → vec_capacity queue ≡ vec_capacity o.queue → trimmed (record o { queue = queue }) = λ queue is ready room. record {
      few = kept.few;
      ready_count = kept.ready_count;
      over_count = kept.over_count;
      queued = subst (λ p. IsQueued p o.actors.items queue.items) (sym passing) is;
      trimmed = λ yes. ready;
      waiting = kept.waiting;
      queue_fits = omega (arith, kept.queue_fits, room);
      joiners_fit = kept.joiners_fit;
    } in
    elim c.if-len-self.branch [
      | then-len-self w ↦
          let left : List Actor → List ActorId = λ actors. filter (λ (actor : ActorId). is_ready_in actors actor.0) o.queue.items in
          let items : w.keep_ready.new.queue.items ≡ left o.actors.items = w.keep_ready.ensures.items ∙ ap left w.deref.ensures.value in
          subst trimmed (sym w.self-inside-is) (lists_ready w.keep_ready.new.queue (subst (IsQueue o.actors.items) (sym items) (queue_filtered o.actors.items o.queue.items queued)) (subst (AreReady o.actors.items) (sym items) (filter_ready o.actors.items o.queue.items)) w.keep_ready.ensures.capacity)
      | else-len-self w ↦
          let number : length o.queue.items ≡ o.ready = sym o.queue.ok.0 ∙ (sym c.len.ensures ∙ w.if-len-self.false) in
          subst trimmed (sym w.self-inside-is) (lists_ready o.queue queued (all_ready o.actors.items o.queue.items queued (number ∙ kept.ready_count)) refl)
    ]
