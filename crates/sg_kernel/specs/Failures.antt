-- What is off isn't used.
use Rattle.std.specs.Prelude.{◌≡◌, ℕ, Bool, Option, None, []}
use Rattle.sg_base.specs.declared.call.Action.{Action}
use Rattle.sg_base.specs.declared.call.Call.{Call}
use Rattle.sg_base.specs.declared.ids.ActorId.{ActorId}
use Rattle.sg_activity.specs.Links.{Capacities}
use Rattle.sg_activity.specs.Underway.{hits}
use Rattle.sg_route.specs.Roads.{Roads}
use Rattle.sg_kernel_calls.specs.Setup.{Setup}
use Rattle.sg_kernel_calls.specs.World.{Core}
use Rattle.sg_kernel_calls.specs.Calls.{answered, told}
use Rattle.sg_kernel_calls.specs.Lives.{created}
use Rattle.sg_kernel.specs.Passes.{pass_of}
use Rattle.sg_kernel.specs.Start.{first_core}

-- no running activity uses a host or a link that is off
abbrev pub UsesNothingOff : Core → Type 0
UsesNothingOff core = hits core.under ≡ []

-- So it is at first, it stays so with each call, and it is so again after each time advance that isn't stopped.
pub record NothingOffIsUsed : Type 0 where
  pub first : (capacities : Capacities) (setup : Setup) → UsesNothingOff (first_core capacities setup)
  pub calls : (roads : Roads) (setup : Setup) (core : Core) (actor : ℕ) (what : Call) → UsesNothingOff core → UsesNothingOff (answered roads setup core actor what).core
  pub creates : (given : Bool) (actor : ℕ) (target : ActorId) (core : Core) → UsesNothingOff core → UsesNothingOff (created given actor target core).core
  pub asks : (setup : Setup) (core : Core) (actor : ℕ) (action : Option Action) → UsesNothingOff core → UsesNothingOff (told setup core actor action).core
  pub passes : (setup : Setup) (core : Core) → UsesNothingOff core → (pass_of setup core).stop ≡ None → UsesNothingOff (pass_of setup core).core
