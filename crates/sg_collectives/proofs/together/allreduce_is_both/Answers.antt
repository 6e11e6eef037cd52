use Rattle.std.proofs.Common.{refl}
use Rattle.sg_collectives.proofs.together.allreduce_is_both.Goals as goal

pub returns : goal.returns
returns c = λ bytes flops rank members. refl
