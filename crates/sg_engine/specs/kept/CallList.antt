-- The calls of a scheduling round as they are kept: only those that were made, each with its
-- actor.
use Rattle.std.specs.Prelude.{ℕ, ◌+◌, Option, None, Some, List, [], ◌∷◌}
use Rattle.sg_base.specs.declared.call.Call.{Call}
use Rattle.sg_engine.specs.World.{World}
use Rattle.sg_engine.specs.declared.actor_call.ActorCall.{ActorCall}
use Rattle.sg_engine.specs.Run.{Scene, Answering, Progress, at_world, then_unless_ended, unless_killed}

abbrev pub with_call : ℕ → Option Call → List ActorCall → List ActorCall
with_call actor None rest = rest
with_call actor (Some what) rest = record { actor = record { 0 = actor }; call = what } ∷ rest

-- the calls that were made, if the first place is this actor's
unfoldable pub call_list : ℕ → List (Option Call) → List ActorCall
call_list actor [] = []
call_list actor (what ∷ rest) = with_call actor what (call_list (actor + 1) rest)

-- these calls are answered one after another
unfoldable pub calls_of : Scene → Answering → List ActorCall → World → Progress
calls_of at answers [] world = at_world None world
calls_of at answers (made ∷ rest) world = then_unless_ended (unless_killed at answers made.actor.0 made.call world) (calls_of at answers rest)
