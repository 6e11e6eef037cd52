use Rattle.sg_actor_states.proofs.Begins.{HasBegun}
use Rattle.sg_actor_states.proofs.crowd.Crowd.new.Given as goal

abbrev pub invariant-loop-i : goal.invariant-loop-i
invariant-loop-i l = HasBegun l.starts l.i l.crowd
