-- Which calls end no activity.
use Rattle.std.specs.Prelude.{◌≡◌, ℕ, Bool, false, Option}
use Rattle.sg_base.specs.declared.call.Action.{Action}
use Rattle.sg_base.specs.declared.call.Call.{Call}
use Rattle.sg_base.specs.declared.ids.ActorId.{ActorId}
use Rattle.sg_route.specs.Roads.{Roads}
use Rattle.sg_kernel_calls.specs.Calls.{answered, told}
use Rattle.sg_kernel_calls.specs.Lives.{created}
use Rattle.sg_kernel_calls.specs.Meetings.{comer_of}
use Rattle.sg_kernel_calls.specs.Steps.{Step}
use Rattle.sg_kernel_calls.specs.World.{Core, whose_at}
use Rattle.sg_kernel_calls.specs.Setup.{Setup}
use Rattle.sg_kernel_laws.specs.failures.Laws.{is_over, kills_one, side_fails}

-- an activity that has not ended before has not ended after it
abbrev pub Spares : Core → Step → Type 0
Spares core step = (serial : ℕ) → is_over (whose_at core serial) ≡ false → is_over (whose_at step.core serial) ≡ false

-- So it is for each call except the kill of an actor that is alive, and a match whose way is cut; and for each actor that is
-- created and each line that is fetched.
pub record OtherCallsEndNothing : Type 0 where
  pub calls : (roads : Roads) (setup : Setup) (core : Core) (actor : ℕ) (what : Call) → kills_one core what ≡ false → side_fails (comer_of actor what) roads setup core ≡ false → Spares core (answered roads setup core actor what)
  pub creates : (given : Bool) (actor : ℕ) (target : ActorId) (core : Core) → Spares core (created given actor target core)
  pub asks : (setup : Setup) (core : Core) (actor : ℕ) (action : Option Action) → Spares core (told setup core actor action)
