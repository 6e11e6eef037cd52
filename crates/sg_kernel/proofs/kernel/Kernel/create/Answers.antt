use Rattle.std.proofs.Common.{◌≢◌, ◌<◌, sym, subst, arith}
use Rattle.sg_base.specs.declared.call.Call.TheVariants as call
use Rattle.sg_kernel_calls.specs.declared.simulation_state.Fields.{Fields}
use Rattle.sg_kernel_calls.specs.Known.{Known}
use Rattle.sg_kernel_calls.specs.World.{IsActor, MayCall}
use Rattle.sg_kernel_calls.specs.kept.Acts.{CanMake}
use Rattle.sg_kernel_calls.proofs.Moves.{can_step}
use Rattle.sg_kernel.proofs.kernel.Kernel.create.Goals as goal

pub count-requires-clause-left : goal.count-requires-clause-left
count-requires-clause-left c = subst (λ (k : Known). k.core.events ≢ k.setup.budget) (sym c.self.view_is) c.requires.budget

pub create-requires-clause-makes : goal.create-requires-clause-makes
create-requires-clause-makes c =
    let fields = c.self.inside.fields in
    let actor = c.args.actor.0 in
    let target = c.args.target in
    let whole = c.self.invariant in
    let caller = subst (λ (k : Known). MayCall k.core actor) (sym c.self.view_is) c.requires.caller in
    let room = subst (λ (k : Known). 0 < k.room) (sym c.self.view_is) c.requires.room in
    let budget = subst (λ (k : Known). k.core.events ≢ k.setup.budget) (sym c.self.view_is) c.requires.budget in
    let there = subst (λ (k : Known). IsActor k.core target.0) (sym c.self.view_is) c.requires.target in
    subst (λ (f : Fields). CanMake f actor (call.Create target)) (sym c.count.ensures) (record {
      able = can_step fields actor whole caller room budget;
      call = (there.from, omega (arith, there.to, whole.sound.homes_known));
    })
