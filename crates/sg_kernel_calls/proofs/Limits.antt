-- What keeps to its limits, for the kernel and for the actors' states.
use Rattle.std.proofs.Common.{◌<◌, ◌^◌, sym, subst, arith}
use Rattle.sg_base.specs.declared.call.Answer.{Answer}
use Rattle.sg_base.specs.declared.call.Call.{Call}
use Rattle.sg_base.specs.Limits.{IsAnswer}
use Rattle.sg_actor_states.specs.Records.{IsTellable}
use Rattle.sg_kernel_calls.specs.declared.simulation_state.Fields.{Fields}
use Rattle.sg_kernel_calls.specs.World.{extent}
use Rattle.sg_kernel_calls.specs.kept.Sound.{IsSound, IsDated}

pub date_below : (fields : Fields) → IsSound fields → IsDated fields → fields.doing.under.date < 10 ^ 33
date_below fields sound dated = omega (arith, sound.within, sound.budgeted, dated)

-- what calls may name is the same for both
pub states_tell : (fields : Fields) (what : Call) → IsSound fields → IsTellable (extent fields.setup) what → IsTellable fields.states.extent what
states_tell fields what sound is = subst (λ e. IsTellable e what) (sym sound.extent_is) is

pub kernel_tells : (fields : Fields) (what : Call) → IsSound fields → IsTellable fields.states.extent what → IsTellable (extent fields.setup) what
kernel_tells fields what sound is = subst (λ e. IsTellable e what) sound.extent_is is

pub states_answer : (fields : Fields) (answer : Answer) → IsSound fields → IsAnswer (extent fields.setup) answer → IsAnswer fields.states.extent answer
states_answer fields answer sound is = subst (λ e. IsAnswer e answer) (sym sound.extent_is) is
