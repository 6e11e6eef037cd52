use Rattle.std.proofs.Common.{refl, ap}
use Rattle.sg_actor_states.specs.kept.Standing.{Standing}
use Rattle.sg_actor_states.proofs.Keeping.{kept_first}
use Rattle.sg_actor_states.proofs.states.States.new.Goals as goal

pub invariant_of-result : goal.invariant_of-result
invariant_of-result c = kept_first _ c.args.starts.now _ _ _ _ _ _ refl (ap (λ (s : Standing). s.actors) c.in_ok-new.ensures) c.new-2.ensures.items c.new-2.ensures.len
