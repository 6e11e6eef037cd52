use Rattle.std.proofs.Common.{◌≡◌, ◌∙◌, ap, length, None, arith, sym}
use Rattle.sg_engine.specs.declared.simulation.Simulation.{Simulation}
use Rattle.sg_engine.proofs.Crews.{front_all}
use Rattle.sg_engine.proofs.Starting.{is_first}
use Rattle.sg_engine.proofs.start.start.Goals as goal

pub returns-clause-first : goal.returns-clause-first
returns-clause-first g c = λ part begun.
    let platform = c.args.plan.now.platform.now in
    let deployed = c.args.plan.now.deployment.now in
    let number : length c.actors-actors.result.now ≡ length deployed.actors = ap length c.actors-actors.ensures.rows in
    let rest = rw (sym c.replace.ensures.value) at c.in_ok-seats.ensures.crew in
    let sim : Simulation _ = record { seats = c.in_ok-seats.seats; crew = c.replace.result; kernel = c.in_ok-new-3.field-0; script = c.in_ok-new.field-0; calls = c.in_ok-with_capacity.field-0; buffer = c.in_ok-new-2.field-0 } in
    is_first _ platform deployed c.args.plan.now.terms.budget (length c.args.crew.now.items) part sim c.in_ok-new-3.ensures (c.in_ok-new.ensures.actors ∙ number) begun (c.in_ok-new.ensures.waiting _) (c.in_ok-new.ensures.stands _ part.stage) c.in_ok-seats.ensures.minds rest.number c.in_ok-seats.ensures.seated
    (front_all (λ b. (goal.Actor-dyn g (b.vtable, b.value)).mind b.value ≡ None) c.args.crew.now.items c.replace.result.items rest.front c.requires.blank)
    (omega (arith, c.in_ok-with_capacity.ensures.capacity, number)) c.actors-actors.ensures.kept.few_actors c.in_ok-new-2.ensures
