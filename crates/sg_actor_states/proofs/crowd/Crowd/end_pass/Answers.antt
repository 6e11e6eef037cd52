use Rattle.std.proofs.Common.{◌≡◌, true, true≢false, sym, subst, ap, arith, ◌∙◌}
use Rattle.sg_actor_states.specs.kept.Standing.{IsQueued, Standing}
use Rattle.sg_actor_states.proofs.Queues.{answered_sorted}
use Rattle.sg_actor_states.proofs.crowd.Crowd.end_pass.Goals as goal

pub invariant_of-self : goal.invariant_of-self
invariant_of-self c =
    let kept = c.self.invariant in
    let o = c.self.inside in
    let passing : o.passing ≡ true = ap (λ (s : Standing). s.passing) c.self.view_is ∙ c.requires in
    let answered = subst (λ p. IsQueued p o.actors.items o.queue.items) passing kept.queued in
    record {
      few = kept.few;
      ready_count = kept.ready_count;
      over_count = kept.over_count;
      trimmed = λ is. absurd (true≢false (sym is));
      queued = answered_sorted _ _ _ answered c.sort.ensures.moves c.sort.ensures.rises;
      waiting = kept.waiting;
      queue_fits = omega (arith, kept.queue_fits, c.sort.ensures.capacity);
      joiners_fit = kept.joiners_fit;
    }
