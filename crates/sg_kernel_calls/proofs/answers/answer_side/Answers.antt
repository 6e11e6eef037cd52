use Rattle.std.proofs.Common.{◌≡◌, Bool, true, false, cond, ℕ, Some, refl, sym, ap, subst, ◌∙◌, arith, rules}
use Rattle.sg_base.specs.declared.call.Call.{Call}
use Rattle.sg_base.specs.declared.call.Call.TheVariants as call
use Rattle.sg_base.specs.declared.call.Msg.{Msg}
use Rattle.sg_base.specs.Limits.{Extent, IsAmount, IsAnswer, IsMsg}
use Rattle.sg_actor_states.specs.declared.state.State.TheVariants.{Ready, Blocked}
use Rattle.sg_actor_states.specs.Actors.{is_blocked, state_at, IsActor}
use Rattle.sg_actor_states.specs.States.{ActorStates, KeepsLimits}
use Rattle.sg_mailbox.specs.declared.owners.How.{How}
use Rattle.sg_mailbox.specs.declared.owners.How.TheVariants as how
use Rattle.sg_kernel_calls.specs.Answers.{answer_to}
use Rattle.sg_kernel_calls.specs.kept.Sound.{is_queued}
use Rattle.sg_kernel_calls.proofs.Moves.{moves_replied, whole_answered}
use Rattle.sg_kernel_calls.proofs.answers.answer_side.Goals as goal

done_limited : (ex : Extent) (what : Call) (m : Msg) → IsMsg m → IsAnswer ex (answer_to how.Done what m)
done_limited ex call.Ask m h = tt
done_limited ex (call.Compute n p) m h = tt
done_limited ex (call.Sleep n) m h = tt
done_limited ex (call.Send b n x r) m h = tt
done_limited ex (call.Recv b) m h = h
done_limited ex (call.ISend b n x r) m h = tt
done_limited ex (call.IRecv b) m h = tt
done_limited ex call.Wait m h = tt
done_limited ex (call.Lock n) m h = tt
done_limited ex (call.Unlock n) m h = tt
done_limited ex (call.Acquire n) m h = tt
done_limited ex (call.Release n) m h = tt
done_limited ex call.Barrier m h = tt
done_limited ex (call.Create n) m h = tt
done_limited ex (call.Join n) m h = tt
done_limited ex (call.Kill n) m h = tt
done_limited ex (call.Suspend n) m h = tt
done_limited ex (call.Resume n) m h = tt
done_limited ex call.Yield m h = tt
done_limited ex call.Exit m h = tt

answer_limited : (ex : Extent) (over : How) (what : Call) (m : Msg) → IsMsg m → IsAnswer ex (answer_to over what m)
answer_limited ex how.Done what m h = done_limited ex what m h
answer_limited ex how.Failed what m h = tt

some_bytes : (b : Bool) (n : ℕ) → IsAmount n → IsAmount (cond b n 0)
some_bytes true n h = h
some_bytes false n h = omega arith

pub state-requires : goal.state-requires
state-requires c =
    let given = c.requires.given.actor in
    record { from = given.0; to = omega (arith, given.1, c.requires.able.sound.homes_known) }

pub reply-requires-clause-actor : goal.reply-requires-clause-actor
reply-requires-clause-actor c =
    let given = c.requires.given.actor in
    record { from = given.0; to = omega (arith, given.1, c.requires.able.sound.homes_known) }

pub reply-requires-clause-blocked : goal.reply-requires-clause-blocked
reply-requires-clause-blocked c = ap is_blocked (sym c.state.ensures.is ∙ c.in-Blocked-default-default-Some.is)

pub reply-requires-clause-what : goal.reply-requires-clause-what
reply-requires-clause-what c = subst (KeepsLimits c.args.fields.now.states.extent) c.in-Blocked-default-default-Some.is c.state.ensures.limited

pub reply-requires-clause-bytes : goal.reply-requires-clause-bytes
reply-requires-clause-bytes c = subst IsAmount (sym c.bytes_told-bytes.ensures) (some_bytes _ c.args.given.bytes c.requires.given.bytes)

pub reply-requires-clause-answer : goal.reply-requires-clause-answer
reply-requires-clause-answer c =
    let ex = c.args.fields.now.states.extent in
    subst (IsAnswer ex) (sym c.answer_to-answer.ensures) (answer_limited ex c.args.over c.in-Blocked-default-default-Some.what c.args.given.msg c.requires.given.message)

pub reply-requires-clause-date : goal.reply-requires-clause-date
reply-requires-clause-date c = omega (arith, c.date-date.ensures, c.requires.able.small)

pub returns-in-Blocked-default-default-Some-clause-keeps : goal.returns-in-Blocked-default-default-Some-clause-keeps
returns-in-Blocked-default-default-Some-clause-keeps c =
    let old = c.args.fields.now in
    let given = c.args.given in
    let inside = c.in-Blocked-default-default-Some in
    let new = c.reply.new.self in
    let answer = c.answer_to-answer.result in
    let on : inside.field-2 ≡ Some inside.on = search rules in
    let state : Blocked inside.what inside.since (Some inside.on) ≡ state_at old.states.actors given.actor.0 = sym (sym c.state.ensures.is ∙ inside.is ∙ ap (λ o. Blocked inside.what inside.since o) on) in
    let isnt : is_queued (state_at old.states.actors given.actor.0) ≡ false = ap is_queued (sym state) in
    let moves = moves_replied old.states new given.actor.0 inside.what inside.since c.bytes_told-bytes.result answer c.date-date.result c.reply.ensures in
    let room = ap (λ (s : ActorStates). s.room) c.reply.ensures in
    let long = c.requires.able.sound.homes_known in
    let is : IsActor old.states.actors given.actor.0 = record { from = c.requires.given.actor.0; to = omega (arith, c.requires.given.actor.1, long) } in
    whole_answered old new given.actor (Ready answer) is refl isnt tt moves room c.requires.able.sound
