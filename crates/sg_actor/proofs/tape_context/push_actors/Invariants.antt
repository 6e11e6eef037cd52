use Rattle.std.proofs.Common.{◌≡◌, ◌++◌, map, take, length}
use Rattle.sg_actor.specs.Roles.{actor_number}
use Rattle.sg_actor.specs.kept.Tape.{FitActorsFrom}
use Rattle.sg_actor.proofs.tape_context.push_actors.Given as goal

abbrev pub invariant-loop-actor : goal.invariant-loop-actor
invariant-loop-actor l = record {
  all : l.words.items ≡ l.fn.words.items ++ map actor_number (take l.actor-index l.actors);
  fit : FitActorsFrom (length l.fn.words.items) l.words.items;
}
