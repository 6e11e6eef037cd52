-- What is asked for in a time advance if more than two facts go together, under one function each.
use Rattle.std.specs.Prelude.{◌≡◌, ◌≢◌, ◌⊎◌, ℕ, false, IsTrue, []}
use Rattle.std.specs.List.{list_any}
use Rattle.sg_activity.specs.Doing.{IsHit}
use Rattle.sg_actor_states.specs.Actors.{is_ready}
use Rattle.sg_kernel_calls.specs.declared.simulation_state.Fields.{Fields}
use Rattle.sg_kernel.specs.kept.Coming.{rows_now}
use Rattle.sg_kernel_calls.specs.kept.Whole.{IsPassing, IsWhole}

-- the rates are up to date, and no actor is ready
pub record CanMoveOn (fields : Fields) : Type 0 where
  pub settled : IsTrue fields.doing.settled
  pub whole : IsWhole fields
  pub idle : list_any is_ready fields.states.actors ≡ false

-- in a time advance something comes at its date, and the budget isn't used up
pub record CanPass (fields : Fields) : Type 0 where
  pub passing : IsPassing fields
  pub some : (rows_now fields ≢ []) ⊎ (fields.doing.due ≢ [])
  pub budget : fields.events ≢ fields.setup.budget

-- in a time advance this activity is the first that uses something that is off, and its failure is counted
pub record CanFail (fields : Fields) (serial : ℕ) : Type 0 where
  pub hit : IsHit fields.doing serial
  pub passing : IsPassing fields
