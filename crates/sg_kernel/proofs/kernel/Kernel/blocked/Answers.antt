use Rattle.std.proofs.Common.{ap, subst, sym, ◌∙◌}
use Rattle.std.specs.Option.{IfSome}
use Rattle.sg_base.specs.Limits.{Extent}
use Rattle.sg_actor_states.specs.declared.state.State.{State}
use Rattle.sg_actor_states.specs.declared.state.State.TheVariants.{Unstarted, Ready, Blocked, Ended}
use Rattle.sg_actor_states.specs.Actors.{blocked_of}
use Rattle.sg_actor_states.specs.Records.{IsTellable}
use Rattle.sg_actor_states.specs.States.{KeepsLimits}
use Rattle.sg_kernel_calls.specs.Known.{Known}
use Rattle.sg_kernel_calls.specs.World.{extent}
use Rattle.sg_kernel.proofs.kernel.Kernel.blocked.Goals as goal

-- the call that blocks an actor may be recorded
tellable : (extent : Extent) (state : State) → KeepsLimits extent state → IfSome (blocked_of state) (IsTellable extent)
tellable extent Unstarted limited = tt
tellable extent (Ready answer) limited = tt
tellable extent (Blocked what since on) limited = limited
tellable extent Ended limited = tt

pub returns-clause-limited : goal.returns-clause-limited
returns-clause-limited c =
    let extent_is = c.self.invariant.sound.extent_is ∙ ap (λ (k : Known). extent k.setup) c.self.view_is in
    let told = tellable c.self.inside.fields.states.extent c.state.result c.state.ensures.limited in
    subst (λ e. IfSome c.blocked.result (IsTellable e)) extent_is (subst (λ call. IfSome call (IsTellable c.self.inside.fields.states.extent)) (sym c.blocked.ensures) told)
