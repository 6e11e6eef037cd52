use Rattle.std.proofs.Common.{◌≡◌, ◌∙◌, ℕ, List, Option, ap, ap₂, arith, length, None, refl, subst, sym}
use Rattle.std.specs.Prelude.{All}
use Rattle.std.proofs.lemmas.List.{with_items_is}
use Rattle.sg_actor.specs.Seats.{seat_views}
use Rattle.sg_base.specs.Limits.{Extent}
use Rattle.sg_base.specs.Mind.{Mind}
use Rattle.sg_kernel_calls.specs.Known.{Known}
use Rattle.sg_kernel_calls.specs.World.{extent}
use Rattle.sg_platform_rows.specs.Deployment.{extent_of}
use Rattle.sg_engine.specs.kept.SeatRules.{IsSeated}
use Rattle.sg_engine.proofs.Creating.{created_short, created_to, crew_given}
use Rattle.sg_engine.proofs.Crews.{front_all, front_less}
use Rattle.sg_engine.proofs.Leaving.{created_free, created_number}
use Rattle.sg_engine.proofs.Uncut.{exit_is}
use Rattle.sg_engine.specs.declared.ended.Ended.TheVariants as ended
use Rattle.sg_engine.proofs.answers.create.Goals as goal

pub returns-clause-step : goal.returns-clause-step
returns-clause-step g c = λ part begun taken world stands.
    let turned = with_items_is c.args.sim.now.seats c.seat_if.new.seats (c.seat_if.auto.seats ∙ c.as_mut_slice-seats.ensures.len) in
    let minds = rw c.as_mut_slice-seats.ensures.value at (c.in_ok-seat_if.ensures {u = tt}).minds in
    created_to _ taken _ _ part _ c.args.sim.now.kernel c.create.new.self _ world _ c.args.actor.0 c.args.target c.args.given begun stands c.requires.unused c.requires.given
    (ap₂ (λ (m : List (Option Mind)) (n : ℕ). record { minds = m; contexts = n }) (rw turned minds) (front_less c.args.sim.now.crew.items c.seat_if.new.crew.items _ (c.in_ok-seat_if.ensures {u = tt}).crew).1) c.create.ensures

pub returns-in_err-seat_if-clause-step : goal.returns-in_err-seat_if-clause-step
returns-in_err-seat_if-clause-step g c = λ part begun taken world stands.
    rw (exit_is ended.Memory c.from_residual.result c.from_residual.ensures.1)
    (created_short _ taken _ _ part _ c.args.sim.now.kernel world _ c.args.actor.0 c.args.target c.args.given begun stands c.requires.unused c.requires.given (front_less c.args.sim.now.crew.items c.seat_if.new.crew.items _ c.in_err-seat_if.ensures.crew).1)

pub returns-clause-others : goal.returns-clause-others
returns-clause-others g c =
    let can = c.requires.can in
    let old = c.args.sim.now.kernel in
    let new = c.create.new.self in
    let actor = c.args.actor.0 in
    let turned = with_items_is c.args.sim.now.seats c.seat_if.new.seats (c.seat_if.auto.seats ∙ c.as_mut_slice-seats.ensures.len) in
    let seats : length c.seat_if.new.seats ≡ length c.args.sim.now.seats.items = c.seat_if.auto.seats ∙ ap length c.as_mut_slice-seats.ensures.value in
    let less = front_less c.args.sim.now.crew.items c.seat_if.new.crew.items _ (c.in_ok-seat_if.ensures {u = tt}).crew in
    let setup = ap (λ (k : Known). k.setup) c.create.ensures in
    let limits : extent new.setup ≡ extent_of c.args.plan.now.deployment.now = ap (λ (k : Known). extent k.setup) c.create.ensures ∙ can.limits in
    record {
      setup = setup;
      room = omega (arith, ap (λ (k : Known). k.room) c.create.ensures, can.room);
      free = created_free c.args.given old new actor c.args.target _ can.caller.from c.create.ensures;
      seats = ap length turned ∙ seats;
      manned = record {
        number = ap length turned ∙ seats ∙ can.manned.number ∙ sym (created_number c.args.given old new actor c.args.target _ can.caller.from c.create.ensures);
        seated = rw turned (subst (λ (e : Extent). All (IsSeated e) (seat_views (λ b. (goal.Actor-dyn g (b.vtable, b.value)).mind b.value) c.seat_if.new.seats)) (sym limits) (c.in_ok-seat_if.ensures {u = tt}).seats.seated);
        blank = front_all (λ b. (goal.Actor-dyn g (b.vtable, b.value)).mind b.value ≡ None) _ _ less.0 can.manned.blank;
      };
      crew = record {
        front = less.0;
        begun = crew_given c.args.given old new (length c.args.sim.now.crew.items) (length c.seat_if.new.crew.items) actor c.args.target _ can.caller.from (record { from = can.target_is.0; to = omega (arith, can.target_is.1, can.number, ap (λ (e : Extent). e.actors) can.limits) }) c.requires.given less.1 c.create.ensures;
      };
      calls = refl;
      buffer = refl;
    }
