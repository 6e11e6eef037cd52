use Rattle.std.proofs.Common.{◌≡◌, ◌+◌, add-zero, arith, ◌∙◌, ◌≤◌, sym, ap, refl, subst, true, false, None, Some}
use Rattle.std.specs.List.{list_any}
use Rattle.sg_kernel_calls.specs.Known.{Known}
use Rattle.sg_kernel.specs.Passes.{pass_of}
use Rattle.sg_kernel_calls.specs.World.{Core, extent}
use Rattle.sg_actor_states.specs.Actors.{is_ready}
use Rattle.sg_activity.specs.Underway.{work_of}
use Rattle.sg_engine.specs.kept.Invariant.{unstarted}
use Rattle.sg_engine.proofs.Calls.{stepped}
use Rattle.sg_engine.proofs.Crews.{crew_same}
use Rattle.sg_engine.proofs.Leaving.{passed_begun}
use Rattle.sg_engine.proofs.Files.{script_unread}
use Rattle.sg_engine.proofs.Parts.{seated_as}
use Rattle.sg_engine.proofs.Uncut.{exit_is, goes_so, stop_uncut, stop_unread, stop_unwritten, stops_so}
use Rattle.sg_engine.specs.Run.{ended_by}
use Rattle.sg_engine.proofs.rounds.round_or_pass.Goals as goal

pub returns-then-any_ready-clause-step : goal.returns-then-any_ready-clause-step
returns-then-any_ready-clause-step g c = λ taken world stands.
    let ready : list_any is_ready world.core.actors ≡ true = ap (λ (core : Core). list_any is_ready core.actors) (sym stands.core) ∙ sym c.any_ready.ensures ∙ c.if-any_ready.true in
    rw (ready, add-zero) (c.round.ensures.step taken world stands)

pub returns-in_err-pass-clause-step : goal.returns-in_err-pass-clause-step
returns-in_err-pass-clause-step g c = λ taken world stands.
    let old = c.args.sim.now.kernel in
    let idle : list_any is_ready world.core.actors ≡ false = ap (λ (core : Core). list_any is_ready core.actors) (sym stands.core) ∙ sym c.any_ready.ensures ∙ c.if-any_ready.false in
    rw (exit_is (ended_by c.in_err-pass.field-0.0) c.from_residual.result c.from_residual.ensures.1, stop_uncut c.in_err-pass.field-0.0, idle) (stepped _ taken _ _ _ old c.pass.new.self old.room (record world { work = world.work + work_of world.core.under }) (λ core. pass_of old.setup core) (Some (ended_by c.in_err-pass.field-0.0)) c.requires.can.fits.begun (record { script = stands.script; core = stands.core; cast = stands.cast }) c.pass.ensures.step (stops_so c.in_err-pass.field-0.0 _ c.in_err-pass.ensures.result))

pub returns-in_ok-pass-clause-step : goal.returns-in_ok-pass-clause-step
returns-in_ok-pass-clause-step g c = λ taken world stands.
    let old = c.args.sim.now.kernel in
    let idle : list_any is_ready world.core.actors ≡ false = ap (λ (core : Core). list_any is_ready core.actors) (sym stands.core) ∙ sym c.any_ready.ensures ∙ c.if-any_ready.false in
    rw idle (stepped _ taken _ _ _ old c.pass.new.self old.room (record world { work = world.work + work_of world.core.under }) (λ core. pass_of old.setup core) None c.requires.can.fits.begun (record { script = stands.script; core = stands.core; cast = stands.cast }) c.pass.ensures.step (goes_so c.in_ok-pass.field-0 _ (c.in_ok-pass.ensures {u = tt}).result))

pub returns-then-any_ready-clause-steps : goal.returns-then-any_ready-clause-steps
returns-then-any_ready-clause-steps g c = rw (sym c.any_ready.ensures ∙ c.if-any_ready.true) (omega arith)

pub returns-in_err-pass-clause-steps : goal.returns-in_err-pass-clause-steps
returns-in_err-pass-clause-steps g c = rw (sym c.any_ready.ensures ∙ c.if-any_ready.false) c.pass.ensures.looks

pub returns-in_ok-pass-clause-steps : goal.returns-in_ok-pass-clause-steps
returns-in_ok-pass-clause-steps g c = rw (sym c.any_ready.ensures ∙ c.if-any_ready.false) c.pass.ensures.looks

pub returns-in_err-pass-clause-goes : goal.returns-in_err-pass-clause-goes
returns-in_err-pass-clause-goes g c =
    let setup = ap (λ (k : Known). k.setup) c.pass.ensures.step in
    let fits = c.requires.can.fits in
    rw (exit_is (ended_by c.in_err-pass.field-0.0) c.from_residual.result c.from_residual.ensures.1) (record {
      fits = record { actors = c.pass.ensures.actors ∙ fits.actors; queues = fits.queues; begun = fits.begun; extent = ap extent setup ∙ fits.extent; waiting = fits.waiting };
      seats = record {
        setup = setup;
        number = refl;
        seated = seated_as c.args.sim.now.kernel.setup c.pass.new.self.setup _ setup c.requires.can.room.manned.seated;
        crew = rw (stop_uncut c.in_err-pass.field-0.0) (crew_same c.args.sim.now (record c.args.sim.now { kernel = c.pass.new.self }) refl (subst (λ (k : Known). unstarted k.core ≤ unstarted c.args.sim.now.kernel.core) (sym c.pass.ensures.step) (passed_begun c.args.sim.now.kernel.setup c.args.sim.now.kernel.core)));
        calls = refl;
        buffer = refl;
      };
      script = record {
        reads = script_unread g.F.Files.shows c.args.engine.now.plan.script c.args.files.now;
        roads = refl;
        unwritten = λ is. stop_unwritten c.in_err-pass.field-0.0 (cc is);
        cause = λ is. absurd (stop_unread c.in_err-pass.field-0.0 (cc is));
      };
    })

pub returns-in_ok-pass-clause-goes : goal.returns-in_ok-pass-clause-goes
returns-in_ok-pass-clause-goes g c =
    let setup = ap (λ (k : Known). k.setup) c.pass.ensures.step in
    let fits = c.requires.can.fits in
    record {
      fits = record { actors = c.pass.ensures.actors ∙ fits.actors; queues = fits.queues; begun = fits.begun; extent = ap extent setup ∙ fits.extent; waiting = fits.waiting };
      seats = record {
        setup = setup;
        number = refl;
        seated = seated_as c.args.sim.now.kernel.setup c.pass.new.self.setup _ setup c.requires.can.room.manned.seated;
        crew = crew_same c.args.sim.now (record c.args.sim.now { kernel = c.pass.new.self }) refl (subst (λ (k : Known). unstarted k.core ≤ unstarted c.args.sim.now.kernel.core) (sym c.pass.ensures.step) (passed_begun c.args.sim.now.kernel.setup c.args.sim.now.kernel.core));
        calls = refl;
        buffer = refl;
      };
      script = record {
        reads = script_unread g.F.Files.shows c.args.engine.now.plan.script c.args.files.now;
        roads = refl;
        unwritten = λ is. cc is;
        cause = λ is. absurd (cc is);
      };
    }
