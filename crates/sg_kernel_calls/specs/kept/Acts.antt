-- What the functions that answer calls ask for, and what they do.
use Rattle.std.specs.Prelude.{◌≡◌, ◌≢◌, AllPairs, ℕ, ◌+◌, ◌-◌, ◌<◌, ◌≤◌, true, is_ok, None, Some, List, Result, Ok, Err, length}
use Rattle.sg_base.specs.declared.call.Call.{Call}
use Rattle.sg_base.specs.declared.ids.LinkId.{LinkId}
use Rattle.sg_base.specs.declared.ids.Serial.{Serial}
use Rattle.sg_base.specs.Limits.{IsCall}
use Rattle.sg_mailbox.specs.declared.sides.Found.{Found}
use Rattle.sg_mailbox.specs.declared.sides.Side.{Side}
use Rattle.sg_mailbox.specs.Posts.{IsFound}
use Rattle.sg_route.specs.declared.router.RouteFault.{RouteFault}
use Rattle.sg_route.specs.Roads.{Roads}
use Rattle.sg_kernel_calls.specs.Setup.{Setup}
use Rattle.sg_actor_states.specs.Actors.{joined_by}
use Rattle.sg_actor_states.specs.Records.{IsTellable}
use Rattle.sg_actor_states.specs.States.{CanCall}
use Rattle.sg_kernel_calls.specs.declared.simulation_state.Fields.{Fields}
use Rattle.sg_kernel_calls.specs.declared.meetings.Comer.{Comer}
use Rattle.sg_kernel_calls.specs.declared.stop.Stop.{Stop}
use Rattle.sg_kernel_calls.specs.declared.stop.Stop.TheVariants.{Budget}
use Rattle.sg_kernel_calls.specs.Known.{after_call}
use Rattle.sg_kernel_calls.specs.Meetings.{point_of, receiver_of, route_between, sender_of, stop_of}
use Rattle.sg_kernel_calls.specs.Steps.{Step, result_of}
use Rattle.sg_kernel_calls.specs.World.{Core, extent, IsActor}
use Rattle.sg_kernel_calls.specs.kept.Sound.{core_of, known_of, IsComer, StepsBy}
use Rattle.sg_kernel_calls.specs.kept.Waking.{LeavesCallers}
use Rattle.sg_kernel_calls.specs.kept.Whole.{CanStep, IsSteady, IsWhole, IsWholeFor}

-- ---- what is asked for
-- the call of the actor is counted, and keeps to the limits
pub record CanMake (fields : Fields) (actor : ℕ) (what : Call) : Type 0 where
  pub able : CanStep fields actor
  pub call : IsCall (extent fields.setup) what

-- and this one names an actor
pub record CanName (fields : Fields) (actor other : ℕ) : Type 0 where
  pub able : CanStep fields actor
  pub target : IsActor (core_of fields) other

-- an endpoint can arrive by its call, which isn't counted
pub record CanCome (fields : Fields) (one : Comer) : Type 0 where
  pub call : CanCall fields.states one.side.actor.0
  pub comer : IsComer (extent fields.setup) one
  pub whole : IsWhole fields

-- its call is counted, and it meets nobody
pub record CanPost (fields : Fields) (one : Comer) : Type 0 where
  pub able : CanStep fields one.side.actor.0
  pub comer : IsComer (extent fields.setup) one

-- or another one
pub record CanMeet (fields : Fields) (one : Comer) (look : Found) (post : Serial × Side) : Type 0 where
  pub able : CanStep fields one.side.actor.0
  pub comer : IsComer (extent fields.setup) one
  pub found : IsFound fields.boxes one.mailbox one.sends look
  pub met : look.met ≡ Some post

-- it can take part in the communication with this id
pub record CanTakePart (fields : Fields) (one : Comer) (serial : ℕ) : Type 0 where
  pub able : CanCall fields.states one.side.actor.0
  pub comer : IsComer (extent fields.setup) one
  pub made : (0 < serial) × (serial ≤ length fields.whose.whose)
  pub room : fields.states.room ≤ fields.requests.room
  pub few : fields.requests.asked < fields.events
  pub whole : IsWholeFor (fields.states.room - 1) fields

-- the call of an actor on an object is counted, and can be answered
pub record CanServe (fields : Fields) (actor : ℕ) (call : Call) : Type 0 where
  pub able : CanCall fields.states actor
  pub what : IsTellable (extent fields.setup) call
  pub object : joined_by call ≡ None
  pub steady : IsSteady fields

-- between calls, an activity with this id was made
pub record CanGiveUp (fields : Fields) (serial : ℕ) : Type 0 where
  pub from : 0 < serial
  pub to : serial ≤ length fields.whose.whose
  pub whole : IsWhole fields

-- ---- events
-- one more is counted
pub record CountsOne (old new : Fields) : Type 0 where
  pub left : old.events ≢ old.setup.budget
  pub counted : new ≡ record old { events = old.events + 1 }

-- or the budget is used up: the run stops for that
pub record IsUsedUp (fields : Fields) (why : Stop) : Type 0 where
  pub used : fields.events ≡ fields.setup.budget
  pub stop : why ≡ Budget

-- ---- routes
-- the links and the latency between an arriving endpoint and its match, or why the run stops
abbrev pub LeavesWay : Roads → Setup → Comer → Side → Result ℕ Stop → List LinkId → Type 0
LeavesWay roads setup comer other (Ok latency) links = route_between roads setup (sender_of comer other) (receiver_of comer other) ≡ Ok (record { links = links; latency = latency })
LeavesWay roads setup comer other (Err why) links = (fault : RouteFault) × (route_between roads setup (sender_of comer other) (receiver_of comer other) ≡ Err fault) × (why ≡ stop_of (point_of setup (sender_of comer other)) (point_of setup (receiver_of comer other)) fault)

-- the links are apart, and the router stands for the same routes as before
pub record FindsWay (old new : Roads) (setup : Setup) (comer : Comer) (other : Side) (result : Result ℕ Stop) (links : List LinkId) : Type 0 where
  pub route : LeavesWay old setup comer other result links
  pub apart : AllPairs (λ (a b : LinkId). a ≢ b) links
  pub router : new ≡ old

-- ---- what is done: what is known changes so, and what is kept is whole again
-- by a call that is counted
pub record Answers (step : Core → Step) (old new : Fields) : Type 0 where
  pub known : known_of new ≡ after_call true (step (core_of old)) (known_of old)
  pub whole : IsWhole new

-- by one that makes no record
pub record Becomes (change : Core → Core) (old new : Fields) : Type 0 where
  pub known : known_of new ≡ record (known_of old) { core = change (core_of old); room = old.states.room - 1 }
  pub whole : IsWhole new

-- by one that may stop the run before it is counted
pub record Replies (step : Step) (old new : Fields) (reply : Result Unit Stop) : Type 0 where
  pub known : known_of new ≡ after_call (is_ok reply) step (known_of old)
  pub result : reply ≡ result_of step.stop
  pub whole : IsWhole new

-- by a part of a call
pub record Steps (step : Core → Step) (old new : Fields) : Type 0 where
  pub known : StepsBy step old new
  pub whole : IsWhole new

-- by the failure of an activity
pub record GivesUp (step : Core → Step) (old new : Fields) : Type 0 where
  pub known : StepsBy step old new
  pub requests : new.requests ≡ old.requests
  pub many : length new.whose.whose ≡ length old.whose.whose
  pub whole : IsWhole new

-- as actors that waited are unblocked
pub record Wakes (step : Core → Step) (old new : Fields) : Type 0 where
  pub known : StepsBy step old new
  pub frees : LeavesCallers old.states new.states
  pub whole : IsWhole new
