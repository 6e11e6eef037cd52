use Rattle.std.proofs.Common.{length, ap, ◌∙◌}
use Rattle.std.specs.List.{list_any}
use Rattle.sg_activity.specs.Doing.{Doing}
use Rattle.sg_actor_states.specs.Actors.{is_ready}
use Rattle.sg_kernel_calls.specs.declared.simulation_state.Fields.{Fields}
use Rattle.sg_kernel_calls.specs.Known.{Known, after}
use Rattle.sg_kernel.specs.Passes.{pass_of, settled_pass}
use Rattle.sg_kernel_calls.specs.Steps.{result_of}
use Rattle.sg_kernel_calls.specs.kept.Sound.{core_of, known_of, setup_in}
use Rattle.sg_kernel.proofs.Passed.{actors_same, whole_settled}
use Rattle.sg_kernel.proofs.kernel.Kernel.pass.Goals as goal

pub move_on-requires : goal.move_on-requires
move_on-requires g c = record {
  settled = ap (λ (d : Doing). d.settled) c.settle.ensures.settles;
  whole = whole_settled c.self.inside.fields c.settle.new.self c.settle.ensures.settles c.self.invariant;
  idle = ap (λ (k : Known). list_any is_ready k.core.actors) c.self.view_is ∙ c.requires.idle;
}

pub returns-clause-step : goal.returns-clause-step
returns-clause-step g c =
    let mid : Doing → Fields = λ doing. record c.self.inside.fields { doing = doing } in
    c.move_on.ensures.known
    ∙ ap (λ (d : Doing). after (settled_pass (setup_in (mid d)) (core_of (mid d))) (known_of (mid d))) c.settle.ensures.settles
    ∙ ap (λ (k : Known). after (pass_of k.setup k.core) k) c.self.view_is

pub returns-clause-result : goal.returns-clause-result
returns-clause-result g c =
    let mid : Doing → Fields = λ doing. record c.self.inside.fields { doing = doing } in
    c.move_on.ensures.result
    ∙ ap (λ (d : Doing). result_of (settled_pass (setup_in (mid d)) (core_of (mid d))).stop) c.settle.ensures.settles
    ∙ ap (λ (k : Known). result_of (pass_of k.setup k.core).stop) c.self.view_is

pub returns-clause-actors : goal.returns-clause-actors
returns-clause-actors g c =
    let fields = c.self.inside.fields in
    actors_same fields c.move_on.new.fields c.self.invariant.sound c.move_on.ensures.whole.sound (ap (λ (k : Known). k.setup) c.move_on.ensures.known)
    ∙ ap (λ (k : Known). length k.core.actors) c.self.view_is
