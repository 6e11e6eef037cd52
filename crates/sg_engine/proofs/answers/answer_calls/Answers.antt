use Rattle.std.proofs.Common.{◌∙◌, ◌++◌, ◌<◌, ap, sym, subst, refl, arith, false, get_or, length}
use Rattle.std.specs.Prelude.{vec_capacity}
use Rattle.sg_engine.specs.RunContract.{is_cut}
use Rattle.sg_kernel_calls.specs.Roads.{AreOver}
use Rattle.sg_kernel_calls.specs.Setup.{Setup}
use Rattle.sg_route.specs.Roads.{Roads}
use Rattle.sg_script.proofs.Chains.{reads_none}
use Rattle.sg_engine.specs.Roles.{firsts_of}
use Rattle.sg_engine.specs.Run.{scene}
use Rattle.sg_engine.proofs.Creating.{free_may}
use Rattle.sg_engine.proofs.Crews.{crew_same, crew_then}
use Rattle.sg_engine.proofs.Reaching.{reached_none}
use Rattle.sg_engine.proofs.Calls.{rest_from, one_more_call, all_called, ends_call}
use Rattle.sg_engine.proofs.Files.{script_then, script_unread}
use Rattle.sg_engine.proofs.Listing.{other_actor}
use Rattle.sg_engine.proofs.Uncut.{exit_is}
use Rattle.sg_engine.proofs.answers.answer_calls.Goals as goal

pub loop-place-init : goal.loop-place-init
loop-place-init g c = record {
  reached = λ taken world stands. reached_none _ (rest_from (scene c.args.router.now c.args.sim.now.kernel.setup (firsts_of c.args.plan.now.deployment.now) c.args.plan.now.script) c.args.sim.now.calls.items 0) taken _ _ world (reads_none _ c.requires.can.fits.begun) stands;
  fits = c.requires.can.fits;
  script = script_unread g.F.Files.shows c.args.plan.now.script c.args.files.now;
  router = refl;
  setup = refl;
  room = omega (arith, c.requires.room);
  calls = refl;
  buffer = refl;
  seats = refl;
  manned = c.requires.can.manned;
  crew = crew_same c.args.sim.now c.args.sim.now refl (omega arith);
  callers = λ j d from below. free_may c.args.sim.now.kernel.core (get_or c.args.sim.now.calls.items j d).actor.0 (c.requires.callers j d below).0;
}

pub returns-in_err-answer_one-clause-step : goal.returns-in_err-answer_one-clause-step
returns-in_err-answer_one-clause-step g c = λ taken world stands.
    let inv = c.loop-place.invariant in
    let first = inv.reached taken world stands in
    let how = c.in_err-answer_one.field-0.0 in
    let within : c.loop-place.place < length c.args.sim.now.calls.items = omega (arith, c.loop-place-test.true, c.len-place-end.ensures) in
    rw (exit_is how c.from_residual.result c.from_residual.ensures.1)
    (ends_call (is_cut how) _ _ c.args.router.now c.args.sim.now.kernel.setup (firsts_of c.args.plan.now.deployment.now) c.args.plan.now.script c.args.sim.now.calls.items c.loop-place.place _ how taken _ _ _ _ _ within inv.setup first
    (rw (inv.router, c.as_slice.ensures.value, inv.calls) at (c.in_err-answer_one.ensures.step (taken ++ first.piece) first.world first.stands)))

pub returns-in_err-answer_one-clause-goes : goal.returns-in_err-answer_one-clause-goes
returns-in_err-answer_one-clause-goes g c =
    let inv = c.loop-place.invariant in
    let how = c.in_err-answer_one.field-0.0 in
    let one = c.in_err-answer_one.ensures.others in
    let script = c.in_err-answer_one.ensures.script in
    rw (exit_is how c.from_residual.result c.from_residual.ensures.1) (record {
      fits = c.in_err-answer_one.ensures.fits;
      seats = record {
        setup = one.setup ∙ inv.setup;
        number = one.seats ∙ inv.seats;
        seated = one.manned.seated;
        crew = crew_then (is_cut how) c.args.sim.now c.loop-place.sim c.answer_one.new.sim inv.crew one.crew;
        calls = ap vec_capacity (one.calls ∙ inv.calls);
        buffer = one.buffer ∙ inv.buffer;
      };
      script = record {
        reads = script_then _ _ _ _ _ inv.script script.reads;
        roads = script.roads ∙ inv.router;
        unwritten = script.unwritten;
        cause = script.cause;
      };
    })

pub loop-place-preserved : goal.loop-place-preserved
loop-place-preserved g c =
    let inv = c.loop-place.invariant in
    let one = (c.in_ok-answer_one.ensures {u = tt}).others in
    let calls = c.args.sim.now.calls.items in
    let within : c.loop-place.place < length calls = omega (arith, c.loop-place-test.true, c.len-place-end.ensures) in
    let free = rw (c.as_slice.ensures.value, inv.calls) at one.free in
    record {
      reached = λ taken world stands.
          let first = inv.reached taken world stands in
          one_more_call _ _ c.args.router.now c.args.sim.now.kernel.setup (firsts_of c.args.plan.now.deployment.now) c.args.plan.now.script calls c.loop-place.place _ taken _ _ _ _ _ within inv.setup first
          (rw (inv.router, c.as_slice.ensures.value, inv.calls) at ((c.in_ok-answer_one.ensures {u = tt}).step (taken ++ first.piece) first.world first.stands));
      fits = (c.in_ok-answer_one.ensures {u = tt}).fits;
      script = script_then _ _ _ _ _ inv.script (c.in_ok-answer_one.ensures {u = tt}).script.reads;
      router = (c.in_ok-answer_one.ensures {u = tt}).script.roads ∙ inv.router;
      setup = one.setup ∙ inv.setup;
      room = omega (arith, inv.room, one.room);
      calls = one.calls ∙ inv.calls;
      buffer = one.buffer ∙ inv.buffer;
      seats = one.seats ∙ inv.seats;
      manned = one.manned;
      crew = crew_then false c.args.sim.now c.loop-place.sim c.answer_one.new.sim inv.crew one.crew;
      callers = λ j d from below. free (get_or calls j d).actor.0 (other_actor calls c.loop-place.place j d _ c.requires.rises (omega (arith, from)) below) (inv.callers j d (omega (arith, from)) below);
    }

pub returns-clause-step : goal.returns-clause-step
returns-clause-step g c = λ taken world stands.
    all_called _ _ (scene c.args.router.now c.args.sim.now.kernel.setup (firsts_of c.args.plan.now.deployment.now) c.args.plan.now.script) c.args.sim.now.calls.items c.loop-place.place taken _ _ _ (omega (arith, c.loop-place-test.false, c.len-place-end.ensures)) (c.loop-place.invariant.reached taken world stands)

pub answer_one-requires-clause-can : goal.answer_one-requires-clause-can
answer_one-requires-clause-can g c = record {
  roads = subst (λ (setup : Setup). AreOver setup.links c.loop-place.router) (sym c.loop-place.invariant.setup)
      (subst (λ (roads : Roads). AreOver c.args.sim.now.kernel.setup.links roads) (sym c.loop-place.invariant.router) c.requires.can.roads);
  fits = c.loop-place.invariant.fits;
  manned = c.loop-place.invariant.manned;
}
