-- What a run reaches.
use Rattle.std.specs.Prelude.{◌≡◌, ℕ, Bool, IsTrue, Option, length}
use Rattle.sg_base.specs.declared.call.Action.{Action}
use Rattle.sg_base.specs.declared.call.Call.{Call}
use Rattle.sg_base.specs.declared.ids.ActorId.{ActorId}
use Rattle.sg_activity.specs.Links.{Capacities}
use Rattle.sg_route.specs.Roads.{Roads}
use Rattle.sg_platform_rows.specs.Deployment.{Deployed}
use Rattle.sg_platform_rows.specs.Platform.{Platform}
use Rattle.sg_actor_states.specs.Actors.{is_unstarted}
use Rattle.sg_kernel_calls.specs.Calls.{answered, told}
use Rattle.sg_kernel_calls.specs.Lives.{created}
use Rattle.sg_kernel.specs.Passes.{pass_of}
use Rattle.sg_kernel.specs.Start.{capacities_in, first_core}
use Rattle.sg_kernel_calls.specs.Setup.{setup_of, Setup}
use Rattle.sg_kernel_calls.specs.World.{Core, MayCall, state_of}

-- A run reaches a core from another: by calls of actors that may call, actors that are created, fetched lines that are
-- answered, and time advances, with the premises that the kernel's functions have.
pub data Reaches (roads : Roads) (setup : Setup) (start : Core) : Core → Type 0 where
  here : Reaches roads setup start start
  calls : {core : Core} → Reaches roads setup start core → (actor : ℕ) (what : Call) → MayCall core actor → Reaches roads setup start (answered roads setup core actor what).core
  creates : {core : Core} → Reaches roads setup start core → (given : Bool) (actor : ℕ) (target : ActorId) → MayCall core actor → (IsTrue given → IsTrue (is_unstarted (state_of core target.0))) → Reaches roads setup start (created given actor target core).core
  asks : {core : Core} → Reaches roads setup start core → (actor : ℕ) (action : Option Action) → MayCall core actor → Reaches roads setup start (told setup core actor action).core
  passes : {core : Core} → Reaches roads setup start core → Reaches roads setup start (pass_of setup core).core

-- a run reaches the core from its start; its setup says of each actor the host, and whether it starts
pub record Reached (roads : Roads) (setup : Setup) (core : Core) : Type 0 where
  pub capacities : Capacities
  pub actors : length setup.starts ≡ length setup.homes
  pub way : Reaches roads setup (first_core capacities setup) core

-- a run of any platform and any deployment starts at a core that is reached
abbrev pub StartsAreReached : Type 0
StartsAreReached = (roads : Roads) (platform : Platform) (deployed : Deployed) (budget : ℕ) → Reached roads (setup_of platform deployed budget) (first_core (capacities_in platform) (setup_of platform deployed budget))
