-- All that holds of what is kept.
use Rattle.std.specs.Prelude.{◌≡◌, ℕ, ◌+◌, ◌-◌, ◌<◌, ◌^◌, true, false, length, All}
use Rattle.sg_actor_states.specs.States.{CanCall}
use Rattle.sg_kernel_calls.specs.declared.simulation_state.Fields.{Fields}
use Rattle.sg_kernel_calls.specs.kept.Waking.{LeavesCallers}
use Rattle.sg_kernel_calls.specs.kept.Sound.{IsSound, HasRoom, IsDated, IsTimely, AreLimited, AreMeeting, AreHeld}

-- between any two calls, with room for what so many calls begin
pub record IsWholeFor (room : ℕ) (fields : Fields) : Type 0 where
  pub sound : IsSound fields
  pub roomy : HasRoom room fields
  pub dated : IsDated fields
  pub timely : IsTimely fields
  pub limited : AreLimited fields
  pub meeting : AreMeeting fields
  pub held : AreHeld fields
  pub round : fields.states.passing ≡ false

abbrev pub IsWhole : Fields → Type 0
IsWhole fields = IsWholeFor fields.states.room fields

-- the last event is counted, and has begun no activity, made no request and released no semaphore yet
pub record IsFresh (fields : Fields) : Type 0 where
  pub tasks : length fields.doing.under.tasks < fields.events
  pub asked : fields.requests.asked < fields.events
  pub counts : All (λ count. count < 10 ^ 9 + fields.events) fields.objects.objects.counts

-- the call of the actor is counted, and can be answered
pub record CanStep (fields : Fields) (actor : ℕ) : Type 0 where
  pub whole : IsWhole fields
  pub call : CanCall fields.states actor
  pub fresh : IsFresh fields

-- the call of the actor is counted, and can be answered; what it began may have used its room
pub record CanConclude (fields : Fields) (actor : ℕ) : Type 0 where
  pub whole : IsWholeFor (fields.states.room - 1) fields
  pub call : CanCall fields.states actor

-- while a call on an object is answered: all except who is blocked, which `AreWaking` gives
pub record IsSteady (fields : Fields) : Type 0 where
  pub sound : IsSound fields
  pub roomy : HasRoom fields.states.room fields
  pub dated : IsDated fields
  pub timely : IsTimely fields
  pub limited : AreLimited fields
  pub meeting : AreMeeting fields
  pub round : fields.states.passing ≡ false

-- while a time advance answers: its date is not yet that of an event
pub record IsPassing (fields : Fields) : Type 0 where
  pub sound : IsSound fields
  pub roomy : HasRoom fields.states.room fields
  pub timely : IsTimely fields
  pub limited : AreLimited fields
  pub meeting : AreMeeting fields
  pub held : AreHeld fields
  pub passing : fields.states.passing ≡ true
  pub small : fields.doing.under.date < 10 ^ 33

-- an actor that waited may be answered: all that holds before holds after
pub record KeepsWhole (old new : Fields) : Type 0 where
  pub passing : IsPassing old → IsPassing new
  pub whole : (room : ℕ) → IsWholeFor room old → IsWholeFor room new
  pub sound : IsSound new
  pub callers : LeavesCallers old.states new.states
  pub room : new.states.room ≡ old.states.room
  pub rest : new ≡ record old { states = new.states }
