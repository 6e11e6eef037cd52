-- No actor has two records in one step.
use Rattle.std.specs.Prelude.{◌≢◌, ℕ, List, [], ◌∷◌, All}
use Rattle.sg_base.specs.declared.call.Call.TheVariants as call
use Rattle.sg_base.specs.declared.ids.ActorId.{ActorId}
use Rattle.sg_base.specs.declared.trace_record.Record.{Record}
use Rattle.sg_route.specs.Roads.{Roads}
use Rattle.sg_kernel_calls.specs.Calls.{answered}
use Rattle.sg_kernel_calls.specs.World.{Core}
use Rattle.sg_kernel.specs.Passes.{pass_of}
use Rattle.sg_kernel_calls.specs.Setup.{Setup}
use Rattle.sg_engine_laws.specs.changes.Order.{id_in}

-- no two of these records are of one actor
abbrev pub HaveOneEach : List Record → Type 0
HaveOneEach [] = Unit {0}
HaveOneEach (r ∷ more) = All (λ other. id_in r ≢ id_in other) more × HaveOneEach more

-- so it is in each kill, each exit and each time advance
pub record NobodyHasTwoRecords : Type 0 where
  pub kills : (roads : Roads) (setup : Setup) (core : Core) (actor : ℕ) (target : ActorId) → HaveOneEach (answered roads setup core actor (call.Kill target)).made
  pub exits : (roads : Roads) (setup : Setup) (core : Core) (actor : ℕ) → HaveOneEach (answered roads setup core actor call.Exit).made
  pub passes : (setup : Setup) (core : Core) → HaveOneEach (pass_of setup core).made
