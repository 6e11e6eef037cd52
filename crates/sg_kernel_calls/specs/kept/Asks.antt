-- What is asked for if more than two facts go together, under one function each.
use Rattle.std.specs.Prelude.{ℕ, ◌^◌, ◌<◌, IsTrue}
use Rattle.sg_base.specs.declared.call.Call.{Call}
use Rattle.sg_base.specs.Limits.{IsCall}
use Rattle.sg_activity.specs.Underway.{is_computing}
use Rattle.sg_kernel_calls.specs.declared.simulation_state.Fields.{Fields}
use Rattle.sg_kernel_calls.specs.World.{extent, IsActor, MayCall}
use Rattle.sg_kernel_calls.specs.kept.Sound.{core_of, IsSound}
use Rattle.sg_kernel_calls.specs.kept.Whole.{IsWhole}

-- a call of the actor can be answered, or stops the run
pub record CanAnswer (fields : Fields) (actor : ℕ) (what : Call) : Type 0 where
  pub caller : MayCall (core_of fields) actor
  pub call : IsCall (extent fields.setup) what
  pub room : 0 < fields.states.room
  pub whole : IsWhole fields

-- the execution with this id, which the actor began, can be suspended
pub record CanHold (fields : Fields) (one serial : ℕ) : Type 0 where
  pub actor : IsActor (core_of fields) one
  pub from : 0 < serial
  pub computing : IsTrue (is_computing fields.doing.under serial)
  pub whole : IsWhole fields

-- an actor can be suspended or resumed, which may take the room of a call
pub record CanTurn (fields : Fields) : Type 0 where
  pub room : 0 < fields.states.room
  pub whole : IsWhole fields

-- those that wait for an activity can be answered, within a time advance too
pub record CanReply (fields : Fields) : Type 0 where
  pub sound : IsSound fields
  pub small : fields.doing.under.date < 10 ^ 33
