use Rattle.std.proofs.Common.{ℕ, ◌≡◌, ◌-◌, List, length, refl, sym, ap, ap₂, subst, ◌∙◌, arith}
use Rattle.sg_base.specs.declared.awaits.Await.{Await}
use Rattle.sg_base.specs.declared.call.Call.TheVariants as call
use Rattle.sg_requests.specs.Requested.{Requested, awaited_with, queue_at, without_requests}
use Rattle.sg_actor_states.specs.Actors.{blocking_in}
use Rattle.sg_sync.specs.Objects.{Objects}
use Rattle.sg_sync.specs.Sync.{SyncState}
use Rattle.sg_kernel_calls.specs.Kills.{awaited, blocked_on, withdrawn}
use Rattle.sg_kernel_calls.specs.kept.Killing.{AreSerials}
use Rattle.sg_kernel_calls.specs.kept.Sound.{core_of, known_of}
use Rattle.sg_kernel_calls.proofs.Killed.{awaited_made, kill_told, killed_known, killed_room, whole_killed}
use Rattle.sg_kernel_calls.proofs.Limits.{date_below, states_tell}
use Rattle.sg_kernel_calls.proofs.killing.withdraw.Goals as goal

pub end-requires-clause-what : goal.end-requires-clause-what
end-requires-clause-what c =
    let old = c.args.fields.now in
    let sound = c.requires.named.able.whole.sound in
    states_tell old (call.Kill c.args.target) sound (kill_told old c.args.target sound c.requires.named.target)

pub end-requires-clause-date : goal.end-requires-clause-date
end-requires-clause-date c =
    let old = c.args.fields.now in
    omega (arith, c.date-date.ensures, date_below old c.requires.named.able.whole.sound c.requires.named.able.whole.dated)

pub returns-clause-awaited : goal.returns-clause-awaited
returns-clause-awaited c =
    let old = c.args.fields.now in
    let queue = queue_at old.requests.queues c.args.target.0 in
    ap (λ (r : Requested). r.awaited) c.let_go.ensures
    ∙ ap (λ on. awaited_with on queue) (c.blocked_on-on.ensures ∙ ap (λ s. blocked_on (blocking_in s)) c.state.ensures.is)

pub returns-clause-made : goal.returns-clause-made
returns-clause-made c =
    let old = c.args.fields.now in
    let queue = queue_at old.requests.queues c.args.target.0 in
    let told : c.let_go.new.self.awaited ≡ awaited c.args.target (core_of old) =
    ap (λ (r : Requested). r.awaited) c.let_go.ensures
    ∙ ap (λ on. awaited_with on queue) (c.blocked_on-on.ensures ∙ ap (λ s. blocked_on (blocking_in s)) c.state.ensures.is) in
    subst (AreSerials (length old.whose.whose)) (sym told) (awaited_made old c.args.target c.requires.named.able.whole)

pub returns-clause-answers : goal.returns-clause-answers
returns-clause-answers c = record {
  known =
      let old = c.args.fields.now in
      let new = c.end.new.states in
      let target = c.args.target in
      let core = core_of old in
      let known = known_of old in
      let room : new.room ≡ old.states.room - 1 = killed_room old.states new c.args.actor.0 target c.date-date.result c.end.ensures in
      ap₂ (λ (queues : List (List Await)) (o : Objects). record known { core = record core { requests = queues; objects = o; actors = new.actors }; records = new.records; room = new.room }) (ap (λ (r : Requested). r.queues) c.let_go.ensures) (ap (λ (s : SyncState). s.objects) c.leave.ensures)
      ∙ ap (λ n. record known { core = record (withdrawn target core) { actors = new.actors }; records = new.records; room = n }) room
      ∙ killed_known known core c.args.actor.0 target old.states new c.date-date.result c.end.ensures refl (sym c.date-date.ensures) refl;
  whole =
      let old = c.args.fields.now in
      let gone = c.let_go.ensures in
      let queues = without_requests old.requests.queues c.args.target.0 in
      whole_killed old c.end.new.states c.args.actor.0 c.args.target c.date-date.result c.let_go.new.self c.leave.new.self c.requires.named.able c.requires.named.target c.end.ensures
      (gone ∙ ap (λ (l : List ℕ). record old.requests { queues = queues; awaited = l }) (sym (ap (λ (r : Requested). r.awaited) gone)))
      (ap (λ (s : SyncState). s.objects) c.leave.ensures);
}
