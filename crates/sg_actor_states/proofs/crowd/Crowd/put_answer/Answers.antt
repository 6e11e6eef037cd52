use Rattle.std.proofs.Common.{◌≡◌, ◌-◌, false, IsTrue, get_or, set, sym, subst, ap, ◌∙◌, arith}
use Rattle.std.proofs.lemmas.List.{get_or_default}
use Rattle.sg_actor_states.specs.Actors.{actor_at, is_answered, not_suspended, put_state, state_at, IsActor}
use Rattle.sg_actor_states.specs.declared.state.Actor.{Actor}
use Rattle.sg_actor_states.specs.declared.state.State.TheVariants.{Ended, Ready}
use Rattle.sg_actor_states.specs.kept.Standing.{Standing}
use Rattle.sg_actor_states.proofs.Turning.{standing_answered}
use Rattle.sg_actor_states.proofs.crowd.Crowd.put_answer.Goals as goal

pub invariant_of-self : goal.invariant_of-self
invariant_of-self c =
    let o = c.self.inside in
    let id = c.args.actor.0 in
    let old : Standing = record { actors = o.actors.items; passing = o.passing; trimmed = o.trimmed } in
    let is : IsActor old.actors id = subst (λ (s : Standing). IsActor s.actors id) (sym c.self.view_is) c.requires.actor in
    let answered = subst (λ (s : Standing). IsTrue (is_answered (state_at s.actors id))) (sym c.self.view_is) c.requires.answered in
    let round : o.passing ≡ false = ap (λ (s : Standing). s.passing) c.self.view_is ∙ c.requires.round in
    let there : c.index_mut.result.now ≡ actor_at o.actors.items id =
    c.index_mut.ensures.value ∙ (get_or_default o.actors.items c.index.result _ (not_suspended Ended) (omega (arith, c.index.ensures, is.from, is.to)) ∙ ap (λ i. get_or o.actors.items i (not_suspended Ended)) c.index.ensures) in
    let next : Actor = record { state = Ready c.args.answer; suspended = c.index_mut.result.now.suspended } in
    let same : set o.actors.items c.index.result next ≡ put_state o.actors.items id (Ready c.args.answer) =
    ap (λ i. set o.actors.items i next) c.index.ensures ∙ ap (λ (a : Actor). set o.actors.items (id - 1) (record { state = Ready c.args.answer; suspended = a.suspended })) there in
    standing_answered old o.queue.items o.joiners.items _ c.args.actor c.args.answer _ is answered round same c.self.invariant
