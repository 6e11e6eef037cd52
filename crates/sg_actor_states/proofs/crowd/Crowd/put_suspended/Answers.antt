use Rattle.std.proofs.Common.{◌≡◌, ◌+◌, List, get_or, set, refl, sym, subst, ap, ◌∙◌, arith}
use Rattle.std.proofs.lemmas.List.{get_or_default}
use Rattle.sg_actor_states.specs.Actors.{actor_at, is_over, is_ready, joined_in, not_suspended, put_actor, IsActor}
use Rattle.sg_actor_states.specs.declared.state.State.TheVariants.{Ended}
use Rattle.sg_actor_states.specs.declared.state.Actor.{Actor}
use Rattle.sg_actor_states.specs.kept.Standing.{IsQueued, Standing}
use Rattle.sg_actor_states.proofs.Standings.{one_if, standing_moved}
use Rattle.sg_actor_states.proofs.Waits.{waiting_same}
use Rattle.sg_actor_states.proofs.crowd.Crowd.put_suspended.Goals as goal

pub invariant_of-self : goal.invariant_of-self
invariant_of-self c =
    let o = c.self.inside in
    let old : Standing = record { actors = o.actors.items; passing = o.passing; trimmed = o.trimmed } in
    let is : IsActor old.actors c.args.actor.0 = subst (λ (s : Standing). IsActor s.actors c.args.actor.0) (sym c.self.view_is) c.requires.actor in
    let next : Actor = record { state = c.index-old.result.now.state; suspended = c.args.on } in
    let same : set o.actors.items c.index-2.result next ≡ put_actor o.actors.items c.args.actor.0 next = ap (λ i. set o.actors.items i next) c.index-2.ensures in
    let queued = subst (λ (xs : List Actor). IsQueued o.passing (put_actor xs c.args.actor.0 next) c.follow.new.queue.items) c.deref.ensures.value c.follow.ensures.queued in
    let here : c.index-old.result.now ≡ actor_at o.actors.items c.args.actor.0 =
    c.index-old.ensures ∙ (get_or_default o.actors.items c.index.result _ (not_suspended Ended) (omega (arith, c.index.ensures, is.from, is.to)) ∙ ap (λ i. get_or o.actors.items i (not_suspended Ended)) c.index.ensures) in
    let waits = waiting_same o.actors.items o.joiners.items c.args.actor next (is.from, is.to) (ap (λ (a : Actor). joined_in a.state) here) c.self.invariant.waiting in
    let was : one_if (is_ready (actor_at o.actors.items c.args.actor.0)) ≡ one_if c.is_ready.result = ap (λ (a : Actor). one_if (is_ready a)) (sym here) ∙ sym (ap one_if c.is_ready.ensures) in
    let will : one_if c.is_ready-2.result ≡ one_if (is_ready next) = ap one_if c.is_ready-2.ensures in
    standing_moved old o.queue.items c.follow.new.queue.items o.joiners.items o.joiners.items _ _ c.args.actor next (set o.actors.items c.index-2.result next) is same queued waits
    (omega (arith, was, will, c.counted-self-inside.ensures)) (ap (λ (a : Actor). o.over + one_if (is_over a)) (sym here)) c.follow.ensures.capacity refl c.self.invariant
