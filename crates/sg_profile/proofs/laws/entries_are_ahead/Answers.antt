use Rattle.sg_profile.proofs.Ahead.{ahead_at_first, ahead_moves, ahead_steps, next_is_near}
use Rattle.sg_profile.proofs.laws.entries_are_ahead.Goals as goal

pub returns : goal.returns
returns c = record {
  first = ahead_at_first;
  near = next_is_near;
  moves = ahead_moves;
  steps = ahead_steps;
}
