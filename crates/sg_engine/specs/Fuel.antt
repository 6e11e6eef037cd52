-- Runs with more scheduling rounds and time advances than they need.
use Rattle.std.specs.Prelude.{◌≡◌, ℕ, zero, suc, ◌+◌, None, Some, IsSome, if◌then◌else◌}
use Rattle.sg_engine.specs.World.{World}
use Rattle.sg_engine.specs.declared.ended.Ended.TheVariants as ended
use Rattle.sg_engine.specs.Run.{Scene, Answering, Progress, are_completed, at_world, then_unless_ended, round_or_pass, run_from}

-- so many scheduling rounds and time advances: how the run has ended, if it did by then
unfoldable pub parts_from : ℕ → Scene → Answering → World → Progress
parts_from zero at answers world = at_world None world
parts_from (suc n) at answers world =
    if are_completed world.core then at_world (Some ended.Completed) world
    else then_unless_ended (round_or_pass at answers world) (parts_from n at answers)

-- A run that has ended in so many scheduling rounds and time advances is the same if there may be
-- more.
abbrev pub MoreChangesNothing : Type 0
MoreChangesNothing = (n more : ℕ) (at : Scene) (answers : Answering) (world : World) →
    IsSome (parts_from n at answers world).ended → run_from (n + more) at answers world ≡ parts_from n at answers world
