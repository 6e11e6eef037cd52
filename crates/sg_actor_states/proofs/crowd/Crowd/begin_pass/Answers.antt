use Rattle.std.proofs.Common.{◌≡◌, false, true≢false, sym, subst, ap, arith, ◌∙◌}
use Rattle.std.specs.List.{list_any}
use Rattle.sg_actor_states.specs.Actors.{is_ready}
use Rattle.sg_actor_states.specs.kept.Standing.{HasAnswered, Standing}
use Rattle.sg_actor_states.proofs.Queues.{answered_none}
use Rattle.sg_actor_states.proofs.crowd.Crowd.begin_pass.Goals as goal

pub invariant_of-self : goal.invariant_of-self
invariant_of-self c =
    let kept = c.self.invariant in
    let actors = c.self.inside.actors.items in
    let idle : list_any is_ready actors ≡ false = ap (λ (s : Standing). list_any is_ready s.actors) c.self.view_is ∙ c.requires in
    record {
      few = kept.few;
      ready_count = kept.ready_count;
      over_count = kept.over_count;
      trimmed = λ is. absurd (true≢false (sym is));
      queued = subst (HasAnswered actors) (sym c.clear.ensures.items) (answered_none actors idle);
      waiting = kept.waiting;
      queue_fits = omega (arith, kept.queue_fits, c.clear.ensures.capacity);
      joiners_fit = kept.joiners_fit;
    }
