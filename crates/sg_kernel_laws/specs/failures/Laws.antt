-- Whose call is answered as failed.
use Rattle.std.specs.Prelude.{◌≡◌, ◌≢◌, ◌⊎◌, ℕ, ◌-◌, ◌<◌, ◌==◌, ◌||◌, Bool, true, false, Option, None, Some, Result, Ok, Err, List, ◌∷◌, ◌++◌, All, Contains}
use Rattle.sg_base.specs.declared.awaits.Await.{Await}
use Rattle.sg_base.specs.declared.awaits.Party.{Party}
use Rattle.sg_base.specs.declared.awaits.Party.TheVariants as party
use Rattle.sg_base.specs.declared.call.Call.{Call}
use Rattle.sg_base.specs.declared.call.Call.TheVariants as call
use Rattle.sg_base.specs.declared.ids.ActorId.{ActorId}
use Rattle.sg_base.specs.declared.trace_record.End.{End}
use Rattle.sg_base.specs.declared.trace_record.End.TheVariants as end
use Rattle.sg_base.specs.declared.trace_record.Record.{Record}
use Rattle.sg_activity.specs.Links.{is_off}
use Rattle.sg_activity.specs.Task.{is_cut}
use Rattle.sg_mailbox.specs.declared.sides.Post.{Post}
use Rattle.sg_mailbox.specs.declared.sides.Side.{Side}
use Rattle.sg_mailbox.specs.Posts.{partner}
use Rattle.sg_requests.specs.Requested.{oldest, queue_at}
use Rattle.sg_route.specs.declared.router.RouteFault.{RouteFault}
use Rattle.sg_route.specs.Roads.{Roads}
use Rattle.sg_route.specs.Route.{Route}
use Rattle.sg_actor_states.specs.declared.state.State.TheVariants.{Blocked}
use Rattle.sg_actor_states.specs.Actors.{is_alive}
use Rattle.sg_kernel_calls.specs.declared.meetings.Comer.{Comer}
use Rattle.sg_mailbox.specs.declared.owners.How.{How}
use Rattle.sg_mailbox.specs.declared.owners.How.TheVariants as how
use Rattle.sg_mailbox.specs.declared.owners.Whose.{Whose}
use Rattle.sg_mailbox.specs.declared.owners.Whose.TheVariants.{Over, Alone, Posted, Pair}
use Rattle.sg_kernel_calls.specs.Calls.{answered}
use Rattle.sg_kernel_calls.specs.Kills.{awaited}
use Rattle.sg_kernel_calls.specs.Meetings.{comer_of, posts_at, receiver_of, route_between, sender_of, way_with}
use Rattle.sg_kernel.specs.Passes.{pass_of}
use Rattle.sg_kernel_calls.specs.Setup.{Setup}
use Rattle.sg_kernel_calls.specs.World.{Core, MayCall, host_of, state_of, whose_at}

-- ---- time advances
-- how the activity ended of a call that ended so
abbrev pub over_by : End → How
over_by (end.Done ns) = how.Done
over_by end.Refused = how.Done
over_by end.Failed = how.Failed

-- before, the actor was blocked by the call on an activity, which after that has ended as the record says
pub record TellsHow (before after : Core) (r : Record) : Type 0 where
  pub since : ℕ
  pub on : Await
  pub blocked : state_of before r.actor.0 ≡ Blocked r.what since (Some on)
  pub over : whose_at after on.serial.0 ≡ Over (over_by r.end)

-- each record of a time advance says how the activity ended
abbrev pub PassesTell : Type 0
PassesTell = (setup : Setup) (core : Core) →
    All (TellsHow core (pass_of setup core).core) (pass_of setup core).made

-- ---- calls
abbrev pub is_failed : End → Bool
is_failed (end.Done ns) = false
is_failed end.Refused = false
is_failed end.Failed = true

-- whether an activity ended by a failure
abbrev pub has_failed : Whose → Bool
has_failed (Over how.Done) = false
has_failed (Over how.Failed) = true
has_failed (Alone actor) = false
has_failed (Posted mailbox sends side) = false
has_failed (Pair sender receiver) = false

-- whether the communication of the request has failed
abbrev pub wait_fails : Core → Option Await → Bool
wait_fails core None = false
wait_fails core (Some on) = has_failed (whose_at core on.serial.0)

-- whether there is a route, and the way over it is cut
abbrev pub way_fails : Result Route RouteFault → Setup → Comer → Post → Core → Bool
way_fails (Err why) setup comer post core = false
way_fails (Ok route) setup comer post core = is_cut core.under.on (way_with route setup comer post.side)

-- whether the endpoint matches another, to or from which the route is cut
abbrev pub meeting_fails : Option Post → Roads → Setup → Comer → Core → Bool
meeting_fails None roads setup comer core = false
meeting_fails (Some post) roads setup comer core =
    way_fails (route_between roads setup (sender_of comer post.side) (receiver_of comer post.side)) setup comer post core

abbrev pub side_fails : Option Comer → Roads → Setup → Core → Bool
side_fails None roads setup core = false
side_fails (Some comer) roads setup core =
    meeting_fails (partner comer.sends (posts_at comer.mailbox core)) roads setup comer core

-- whether what the actor asks for by this call fails in the call
abbrev pub call_fails : Roads → Setup → Core → ℕ → Call → Bool
call_fails roads setup core actor (call.Compute flops priority) = is_off core.under.on.hosts (host_of setup actor)
call_fails roads setup core actor call.Wait = wait_fails core (oldest (queue_at core.requests actor))
call_fails roads setup core actor other = side_fails (comer_of actor other) roads setup core

-- whether the call is done at once, whatever becomes of its communication
abbrev pub only_posts : Call → Bool
only_posts (call.ISend mailbox bytes message rate) = true
only_posts (call.IRecv mailbox) = true
only_posts other = false

-- one of the records is of the actor's call, and says that it failed
pub record TellsCaller (actor : ℕ) (what : Call) (made : List Record) : Type 0 where
  pub before : List Record
  pub own : Record
  pub after : List Record
  pub among : made ≡ before ++ own ∷ after
  pub caller : own.actor.0 ≡ actor
  pub call : own.what ≡ what
  pub fails : is_failed own.end ≡ true

-- whether the call kills an actor that is alive
abbrev pub kills_one : Core → Call → Bool
kills_one core (call.Kill target) = is_alive (state_of core target.0)
kills_one core other = false

abbrev pub is_over : Whose → Bool
is_over (Over before) = true
is_over (Alone actor) = false
is_over (Posted mailbox sends side) = false
is_over (Pair sender receiver) = false

-- the kill's own, which is of another than the killed one, and is done
pub record TellsKiller (actor : ℕ) (target : ActorId) (r : Record) : Type 0 where
  pub caller : r.actor.0 ≡ actor
  pub apart : actor ≢ target.0
  pub call : r.what ≡ call.Kill target
  pub done : is_failed r.end ≡ false

-- of another than the killed one, which was blocked on an activity that the killed one awaited and that wasn't over: it failed
pub record TellsOther (target : ActorId) (core : Core) (r : Record) : Type 0 where
  pub apart : r.actor.0 ≢ target.0
  pub since : ℕ
  pub on : Await
  pub blocked : state_of core r.actor.0 ≡ Blocked r.what since (Some on)
  pub awaits : Contains (awaited target core) on.serial.0
  pub goes : is_over (whose_at core on.serial.0) ≡ false
  pub fails : is_failed r.end ≡ true

-- of another that was blocked by a join of the killed one: it is done
pub record TellsJoiner (target : ActorId) (core : Core) (r : Record) : Type 0 where
  pub apart : r.actor.0 ≢ target.0
  pub since : ℕ
  pub on : Option Await
  pub blocked : state_of core r.actor.0 ≡ Blocked r.what since on
  pub call : r.what ≡ call.Join target
  pub done : is_failed r.end ≡ false

abbrev pub TellsKill : ℕ → ActorId → Core → Record → Type 0
TellsKill actor target core r = TellsKiller actor target r ⊎ (TellsOther target core r ⊎ TellsJoiner target core r)

-- whether the actor is this side of a communication
abbrev pub is_party : ℕ → Side → Side → Party → Bool
is_party actor sender receiver party.Alone = false
is_party actor sender receiver party.Sender = sender.actor.0 == actor
is_party actor sender receiver party.Receiver = receiver.actor.0 == actor

abbrev pub is_side : ℕ → Party → Whose → Bool
is_side actor side (Over before) = false
is_side actor side (Alone owner) = false
is_side actor side (Posted mailbox sends other) = false
is_side actor side (Pair sender receiver) = is_party actor sender receiver side

-- another than the killed one is blocked on its endpoint of a communication that the killed one awaited; activity ids
-- are from 1 on
pub record IsOtherSide (target : ActorId) (core : Core) (other since : ℕ) (what : Call) (on : Await) : Type 0 where
  pub apart : other - 1 ≢ target.0 - 1
  pub blocked : state_of core other ≡ Blocked what since (Some on)
  pub side : is_side other on.party (whose_at core on.serial.0) ≡ true
  pub awaits : Contains (awaited target core) on.serial.0
  pub drawn : All (λ serial. 0 < serial) (awaited target core)

-- If the call fails, each record that it makes says so, except for an ISend or IRecv, and one of them is the caller's,
-- if it waits. Otherwise none does, except for the kill of a living actor, which fails what that actor awaited: each
-- record of it is one of these, and each other endpoint that was blocked gets one.
pub record TellsFailure (roads : Roads) (setup : Setup) (core : Core) (actor : ℕ) (what : Call) : Type 0 where
  pub fails : call_fails roads setup core actor what ≡ true →
      All (λ r. (only_posts r.what || is_failed r.end) ≡ true) (answered roads setup core actor what).made
  pub caller : call_fails roads setup core actor what ≡ true → only_posts what ≡ false → core.events ≢ setup.budget →
      TellsCaller actor what (answered roads setup core actor what).made
  pub goes_well : call_fails roads setup core actor what ≡ false → kills_one core what ≡ false →
      All (λ r. is_failed r.end ≡ false) (answered roads setup core actor what).made
  pub kills : (target : ActorId) → what ≡ call.Kill target → is_alive (state_of core target.0) ≡ true →
      All (TellsKill actor target core) (answered roads setup core actor what).made
  pub reaches : (target : ActorId) → what ≡ call.Kill target → is_alive (state_of core target.0) ≡ true → MayCall core actor → core.events ≢ setup.budget →
      (other since : ℕ) (called : Call) (on : Await) → IsOtherSide target core other since called on → TellsCaller other called (answered roads setup core actor what).made

abbrev pub CallsTell : Type 0
CallsTell = (roads : Roads) (setup : Setup) (core : Core) (actor : ℕ) (what : Call) → TellsFailure roads setup core actor what
