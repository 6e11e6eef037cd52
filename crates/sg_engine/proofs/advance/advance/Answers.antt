use Rattle.std.proofs.Common.{◌≡◌, ◌≤◌, ◌+◌, ◌∙◌, sym, ap, arith, refl, rules, subst, ℕ, Bool, true, false, List, length, None, Ok}
use Rattle.std.specs.Prelude.{take}
use Rattle.sg_base.specs.declared.trace_record.Record.{Record}
use Rattle.sg_edge.specs.declared.files.Part.TheVariants.{Script}
use Rattle.sg_edge.specs.declared.sinks.Stream.TheVariants.{Out}
use Rattle.sg_edge.specs.Sinks.{GainsFront}
use Rattle.sg_kernel_calls.specs.Known.{Known}
use Rattle.sg_kernel_calls.specs.Roads.{AreOver}
use Rattle.sg_kernel_calls.specs.Setup.{Setup}
use Rattle.sg_kernel_calls.specs.World.{extent}
use Rattle.sg_script.specs.Known.{known_in}
use Rattle.sg_script.specs.Stands.{kept_of}
use Rattle.sg_engine.specs.declared.ended.Ended.TheVariants as ended
use Rattle.sg_engine.specs.Output.{trace_of}
use Rattle.sg_engine.specs.kept.Moments.{cuts, end_in, moment, script_part}
use Rattle.sg_engine.specs.Roles.{firsts_of}
use Rattle.sg_engine.specs.Run.{next_work, scene, round_or_pass}
use Rattle.sg_engine.proofs.Parts.{room_for}
use Rattle.sg_engine.proofs.Files.{script_unread}
use Rattle.sg_engine.proofs.Simulating.{advanced, cuts_off_at, cuts_off_by, kept_on, lacks_room, lacks_scene, part_is, part_kept, part_short, scene_as, short_kept}
use Rattle.sg_engine.proofs.Crews.{crew_cut, crew_same, front_all}
use Rattle.sg_engine.proofs.Endings.{in_cut, in_over}
use Rattle.sg_engine.proofs.Uncut.{exit_is, no_cause}
use Rattle.sg_engine.specs.declared.simulation.Simulation.{Simulation}
use Rattle.sg_engine.specs.kept.Invariant.{still_unstarted, unstarted, TakesCrew}
use Rattle.sg_engine.proofs.advance.advance.Goals as goal

-- room for a scheduling round changes nothing of what comes next
next_as : (old new : Known) (start count : ℕ) → new ≡ record old { room = new.room } → count ≤ start + next_work new.core → count ≤ start + next_work old.core
next_as old new start count same worked =
    let next : next_work new.core ≡ next_work old.core = ap (λ (k : Known). next_work k.core) same in
    omega (arith, next, worked)

unstarted_as : (old new : Known) → new ≡ record old { room = new.room } → unstarted new.core ≤ unstarted old.core
unstarted_as old new same = omega (arith, ap (λ (k : Known). unstarted k.core) same)

-- room for a scheduling round takes no context
takes_as : {A : Type 0} (cut : Bool) (old new last : Simulation A) (room : Known) → room ≡ record old.kernel { room = room.room } → TakesCrew cut (record old { kernel = room }) new → last.crew.items ≡ new.crew.items → last.kernel.core ≡ new.kernel.core → TakesCrew cut old last
takes_as cut old new last room same takes crew core = record {
  front = crew ∙ takes.front ∙ ap (λ n. take n old.crew.items) (sym (ap length crew));
  begun = omega (arith, takes.begun, ap length crew, ap (still_unstarted cut) core, ap (λ (k : Known). unstarted k.core) same);
}

-- ---- memory ran out for the room
pub returns-in_err-reserve_round-clause-part : goal.returns-in_err-reserve_round-clause-part
returns-in_err-reserve_round-clause-part g c = (
  refl,
  λ taken world stands.
      part_short _ _ _ _ c.from_residual.result taken _ _ _ _ _ (ap cuts (exit_is ended.Memory c.from_residual.result c.from_residual.ensures.1))
      (cuts_off_by _ _ _ taken _ _ _ _ _
      (lacks_room _ (scene c.args.router.now c.args.sim.now.kernel.setup (firsts_of c.args.engine.now.plan.deployment.now) c.args.engine.now.plan.script) taken _ _ world c.requires.kept.fits.begun stands) refl),
)

pub returns-in_err-reserve_round-clause-cause : goal.returns-in_err-reserve_round-clause-cause
returns-in_err-reserve_round-clause-cause g c = no_cause _ ended.Memory c.from_residual.result _ _ (exit_is ended.Memory c.from_residual.result c.from_residual.ensures.1) (λ is. cc is) (λ is. absurd (cc is))

pub returns-in_err-reserve_round-clause-kept : goal.returns-in_err-reserve_round-clause-kept
returns-in_err-reserve_round-clause-kept g c =
    short_kept _ _ c.from_residual.result _ _ _ (ap cuts (exit_is ended.Memory c.from_residual.result c.from_residual.ensures.1))
    (crew_cut false c.args.sim.now _ (crew_same c.args.sim.now _ refl (unstarted_as c.args.sim.now.kernel c.reserve_round.new.self c.in_err-reserve_round.ensures.kept))) (ap (λ (k : Known). k.setup) c.in_err-reserve_round.ensures.kept)

pub returns-in_err-reserve_round-clause-script : goal.returns-in_err-reserve_round-clause-script
returns-in_err-reserve_round-clause-script g c = record { reads = script_unread g.F.Files.shows c.args.engine.now.plan.script c.args.files.now; roads = refl }

-- ---- or for what was made
pub returns-then-cuts-clause-part : goal.returns-then-cuts-clause-part
returns-then-cuts-clause-part g c = (
  refl,
  λ taken world stands.
      let kept = (c.in_ok-reserve_round.ensures {u = tt}).kept in
      let core = ap (λ (k : Known). k.core) kept in
      let cut = sym c.cuts.ensures ∙ c.if-cuts.true in
      part_short _ _ _ _ c.round_or_pass-done.result taken _ _ _ _ _ cut
      (cuts_off_by _ _ _ taken _ _ _ _ _
      (lacks_scene _ c.args.router.now (firsts_of c.args.engine.now.plan.deployment.now) c.args.engine.now.plan.script c.args.sim.now.kernel.setup c.reserve_round.new.self.setup taken _ world _ _ (ap (λ (k : Known). k.setup) kept)
      (in_cut _ (cuts c.round_or_pass-done.result) cut (c.round_or_pass-done.ensures.step taken world (record { script = stands.script; core = core ∙ stands.core; cast = stands.cast })))) refl),
)

pub returns-then-cuts-clause-cause : goal.returns-then-cuts-clause-cause
returns-then-cuts-clause-cause g c =
    let script = c.round_or_pass-done.ensures.goes.script in
    record { same = refl; write = λ is. absurd (script.unwritten is); sound = λ isnt. refl; read = script.cause }

pub returns-then-cuts-clause-kept : goal.returns-then-cuts-clause-kept
returns-then-cuts-clause-kept g c =
    let kept = (c.in_ok-reserve_round.ensures {u = tt}).kept in
    let cut = sym c.cuts.ensures ∙ c.if-cuts.true in
    let seats = c.round_or_pass-done.ensures.goes.seats in
    short_kept _ _ c.round_or_pass-done.result _ _ _ cut
    (takes_as true c.args.sim.now c.round_or_pass-done.new.sim _ c.reserve_round.new.self kept (crew_cut (cuts c.round_or_pass-done.result) (record c.args.sim.now { kernel = c.reserve_round.new.self }) c.round_or_pass-done.new.sim seats.crew) refl refl)
    (seats.setup ∙ ap (λ (k : Known). k.setup) kept)

pub returns-then-cuts-clause-script : goal.returns-then-cuts-clause-script
returns-then-cuts-clause-script g c =
    let script = c.round_or_pass-done.ensures.goes.script in
    record { reads = script.reads; roads = script.roads }

pub returns-then-cuts-clause-steps : goal.returns-then-cuts-clause-steps
returns-then-cuts-clause-steps g c = next_as c.args.sim.now.kernel c.reserve_round.new.self c.args.steps.now c.round_or_pass-done.new.steps (c.in_ok-reserve_round.ensures {u = tt}).kept c.round_or_pass-done.ensures.steps

-- ---- a write failed
pub returns-in_err-write_trace-clause-part : goal.returns-in_err-write_trace-clause-part
returns-in_err-write_trace-clause-part g c = (
  c.in_err-write_trace.ensures.writes.err_held,
  λ taken world stands.
      let names = known_in c.args.engine.now.plan.deployment.now in
      let trace = trace_of c.args.engine.now.plan.terms.show c.args.engine.now.plan.platform.now c.args.engine.now.plan.deployment.now in
      let done = c.round_or_pass-done.result in
      let old = c.args.sim.now.kernel in
      let mid = c.reserve_round.new.self in
      let new = c.round_or_pass-done.new.sim.kernel in
      let part = script_part c.args.engine.now.plan.script (g.F.Files.shows c.args.files.now Script) in
      let part' = script_part c.args.engine.now.plan.script (g.F.Files.shows c.round_or_pass-done.new.files Script) in
      let kept = kept_of c.args.sim.now.script in
      let kept' = kept_of c.round_or_pass-done.new.sim.script in
      let same : mid ≡ record old { room = mid.room } = (c.in_ok-reserve_round.ensures {u = tt}).kept in
      let reached = in_over _ (cuts done) (sym c.cuts.ensures ∙ c.if-cuts.false) (c.round_or_pass-done.ensures.step taken world (record { script = stands.script; core = ap (λ (k : Known). k.core) same ∙ stands.core; cast = stands.cast })) in
      let before = g.O.Sinks.contents c.args.out.now.sink.now Out in
      let after = g.O.Sinks.contents c.write_trace.new.out.sink.now Out in
      let front : GainsFront (trace new.records) before after =
      subst (λ (l : List Record). GainsFront (trace l) before after) c.records.ensures.are c.in_err-write_trace.ensures.writes.front in
      part_short _ _ _ _ c.from_residual-in_err-write_trace.result taken _ _ _ _ _ (ap cuts (exit_is ended.WriteFault c.from_residual-in_err-write_trace.result c.from_residual-in_err-write_trace.ensures.1))
      (cuts_off_at names trace (λ answers. round_or_pass (scene c.args.router.now old.setup (firsts_of c.args.engine.now.plan.deployment.now) c.args.engine.now.plan.script) answers world) (end_in done) taken _ part part' kept kept' mid new before after
      (scene_as names c.args.router.now (firsts_of c.args.engine.now.plan.deployment.now) c.args.engine.now.plan.script old.setup mid.setup (end_in done) taken _ world (moment part kept mid) (moment part' kept' new) (ap (λ (k : Known). k.setup) same) reached)
      (ap (λ (k : Known). k.records) same ∙ c.requires.kept.cleared) front),
)

pub returns-in_err-write_trace-clause-cause : goal.returns-in_err-write_trace-clause-cause
returns-in_err-write_trace-clause-cause g c =
    let is = exit_is ended.WriteFault c.from_residual-in_err-write_trace.result c.from_residual-in_err-write_trace.ensures.1 in
    record { same = c.in_err-write_trace.ensures.writes.same; write = λ failed. c.in_err-write_trace.ensures.writes.failed; sound = λ isnt. absurd (isnt is); read = λ read. absurd (cc (sym is ∙ read)) }

pub returns-in_err-write_trace-clause-kept : goal.returns-in_err-write_trace-clause-kept
returns-in_err-write_trace-clause-kept g c =
    let kept = (c.in_ok-reserve_round.ensures {u = tt}).kept in
    let seats = c.round_or_pass-done.ensures.goes.seats in
    let before = record c.args.sim.now { kernel = c.reserve_round.new.self } in
    short_kept _ _ c.from_residual-in_err-write_trace.result _ _ _ (ap cuts (exit_is ended.WriteFault c.from_residual-in_err-write_trace.result c.from_residual-in_err-write_trace.ensures.1))
    (takes_as true c.args.sim.now c.round_or_pass-done.new.sim _ c.reserve_round.new.self kept (crew_cut (cuts c.round_or_pass-done.result) before c.round_or_pass-done.new.sim seats.crew) refl refl)
    (seats.setup ∙ ap (λ (k : Known). k.setup) kept)

pub returns-in_err-write_trace-clause-script : goal.returns-in_err-write_trace-clause-script
returns-in_err-write_trace-clause-script g c =
    let script = c.round_or_pass-done.ensures.goes.script in
    record { reads = script.reads; roads = script.roads }

pub returns-in_err-write_trace-clause-steps : goal.returns-in_err-write_trace-clause-steps
returns-in_err-write_trace-clause-steps g c = next_as c.args.sim.now.kernel c.reserve_round.new.self c.args.steps.now c.round_or_pass-done.new.steps (c.in_ok-reserve_round.ensures {u = tt}).kept c.round_or_pass-done.ensures.steps

-- ---- all is written
pub returns-clause-part : goal.returns-clause-part
returns-clause-part g c = (
  (c.in_ok-write_trace.ensures {u = tt}).writes.err_held,
  λ taken world stands.
      let plan = c.args.engine.now.plan in
      let old = c.args.sim.now.kernel in
      let new = c.round_or_pass-done.new.sim.kernel in
      let same : c.reserve_round.new.self ≡ record old { room = c.reserve_round.new.self.room } = (c.in_ok-reserve_round.ensures {u = tt}).kept in
      advanced (known_in plan.deployment.now) (trace_of plan.terms.show plan.platform.now plan.deployment.now) c.args.router.now (firsts_of plan.deployment.now) plan.script None taken _ world
      (script_part plan.script (g.F.Files.shows c.args.files.now Script))
      (script_part plan.script (g.F.Files.shows c.round_or_pass-done.new.files Script))
      (kept_of c.args.sim.now.script)
      (kept_of c.round_or_pass-done.new.sim.script)
      old c.reserve_round.new.self new c.clear_records.new.self
      (g.O.Sinks.contents c.args.out.now.sink.now Out)
      (g.O.Sinks.contents c.write_trace.new.out.sink.now Out)
      same
      ((c.in_ok-done.ensures {u = tt}).step taken world (record { script = stands.script; core = ap (λ (k : Known). k.core) same ∙ stands.core; cast = stands.cast }))
      c.requires.kept.cleared c.records.result.now c.records.ensures.are (c.in_ok-write_trace.ensures {u = tt}).writes.out_held c.clear_records.ensures,
)

pub returns-clause-cause : goal.returns-clause-cause
returns-clause-cause g c = record {
  same = (c.in_ok-write_trace.ensures {u = tt}).writes.same;
  write = λ is. absurd (cc is);
  sound = λ isnt. (c.in_ok-write_trace.ensures {u = tt}).writes.sound;
  read = λ is. absurd (cc is);
}

pub returns-clause-kept : goal.returns-clause-kept
returns-clause-kept g c =
    let kept = c.requires.kept in
    let room = (c.in_ok-reserve_round.ensures {u = tt}).kept in
    let goes = (c.in_ok-done.ensures {u = tt}).goes in
    let setup = goes.seats.setup ∙ ap (λ (k : Known). k.setup) room in
    let sim = record c.round_or_pass-done.new.sim { kernel = c.clear_records.new.self; buffer = c.write_trace.new.buffer } in
    part_kept _ _ (Ok tt) _ _ _ refl
    (takes_as false c.args.sim.now c.round_or_pass-done.new.sim sim c.reserve_round.new.self room goes.seats.crew refl (ap (λ (k : Known). k.core) c.clear_records.ensures))
    (ap (λ (k : Known). k.setup) c.clear_records.ensures ∙ setup)
    (kept_on _ c.args.engine.now.plan.deployment.now _ sim c.round_or_pass-done.new.sim.kernel goes.fits c.clear_records.ensures (ap (λ (s : Setup). length s.homes) setup ∙ kept.homes) goes.seats.seated
    (goes.seats.number ∙ kept.number) (omega (arith, goes.seats.calls, kept.calls)) kept.few (front_all (λ b. (goal.Actor-dyn g (b.vtable, b.value)).mind b.value ≡ None) _ _ goes.seats.crew.front kept.blank) (c.in_ok-write_trace.ensures {u = tt}).empty)

pub returns-clause-steps : goal.returns-clause-steps
returns-clause-steps g c = next_as c.args.sim.now.kernel c.reserve_round.new.self c.args.steps.now c.round_or_pass-done.new.steps (c.in_ok-reserve_round.ensures {u = tt}).kept c.round_or_pass-done.ensures.steps

pub returns-clause-script : goal.returns-clause-script
returns-clause-script g c =
    let script = c.round_or_pass-done.ensures.goes.script in
    record { reads = script.reads; roads = script.roads }

-- ---- and the run has ended
pub returns-in_err-done-clause-part : goal.returns-in_err-done-clause-part
returns-in_err-done-clause-part g c = (
  (c.in_ok-write_trace.ensures {u = tt}).writes.err_held,
  λ taken world stands.
      let plan = c.args.engine.now.plan in
      let names = known_in plan.deployment.now in
      let trace = trace_of plan.terms.show plan.platform.now plan.deployment.now in
      let done = c.round_or_pass-done.result in
      let is : c.from_residual-in_err-done.result ≡ done = exit_is _ c.from_residual-in_err-done.result c.from_residual-in_err-done.ensures.1 ∙ sym (c.in_err-done.was {u = tt}) in
      let uncut = sym c.cuts.ensures ∙ c.if-cuts.false in
      let old = c.args.sim.now.kernel in
      let new = c.round_or_pass-done.new.sim.kernel in
      let before = g.O.Sinks.contents c.args.out.now.sink.now Out in
      let after = g.O.Sinks.contents c.write_trace.new.out.sink.now Out in
      let same : c.reserve_round.new.self ≡ record old { room = c.reserve_round.new.self.room } = (c.in_ok-reserve_round.ensures {u = tt}).kept in
      rw is (part_is names trace _ done taken _ _ _ before after uncut
      (advanced names trace c.args.router.now (firsts_of plan.deployment.now) plan.script (end_in done) taken _ world
      (script_part plan.script (g.F.Files.shows c.args.files.now Script))
      (script_part plan.script (g.F.Files.shows c.round_or_pass-done.new.files Script))
      (kept_of c.args.sim.now.script)
      (kept_of c.round_or_pass-done.new.sim.script)
      old c.reserve_round.new.self new c.clear_records.new.self before after same
      (in_over _ (cuts done) uncut (c.round_or_pass-done.ensures.step taken world (record { script = stands.script; core = ap (λ (k : Known). k.core) same ∙ stands.core; cast = stands.cast })))
      c.requires.kept.cleared c.records.result.now c.records.ensures.are (c.in_ok-write_trace.ensures {u = tt}).writes.out_held c.clear_records.ensures)),
)

pub returns-in_err-done-clause-kept : goal.returns-in_err-done-clause-kept
returns-in_err-done-clause-kept g c =
    let kept = c.requires.kept in
    let room = (c.in_ok-reserve_round.ensures {u = tt}).kept in
    let done = c.round_or_pass-done.result in
    let is : c.from_residual-in_err-done.result ≡ done = exit_is _ c.from_residual-in_err-done.result c.from_residual-in_err-done.ensures.1 ∙ sym (c.in_err-done.was {u = tt}) in
    let uncut = sym c.cuts.ensures ∙ c.if-cuts.false in
    let seats = c.round_or_pass-done.ensures.goes.seats in
    let setup = seats.setup ∙ ap (λ (k : Known). k.setup) room in
    let before = record c.args.sim.now { kernel = c.reserve_round.new.self } in
    let sim = record c.round_or_pass-done.new.sim { kernel = c.clear_records.new.self; buffer = c.write_trace.new.buffer } in
    let crew : TakesCrew false before c.round_or_pass-done.new.sim = subst (λ (cut : Bool). TakesCrew cut before c.round_or_pass-done.new.sim) uncut seats.crew in
    part_kept _ _ c.from_residual-in_err-done.result _ _ _ (ap cuts is ∙ uncut)
    (takes_as false c.args.sim.now c.round_or_pass-done.new.sim sim c.reserve_round.new.self room crew refl (ap (λ (k : Known). k.core) c.clear_records.ensures))
    (ap (λ (k : Known). k.setup) c.clear_records.ensures ∙ setup)
    (kept_on _ c.args.engine.now.plan.deployment.now _ sim c.round_or_pass-done.new.sim.kernel c.round_or_pass-done.ensures.goes.fits c.clear_records.ensures (ap (λ (s : Setup). length s.homes) setup ∙ kept.homes) seats.seated
    (seats.number ∙ kept.number) (omega (arith, seats.calls, kept.calls)) kept.few (front_all (λ b. (goal.Actor-dyn g (b.vtable, b.value)).mind b.value ≡ None) _ _ seats.crew.front kept.blank) (c.in_ok-write_trace.ensures {u = tt}).empty)

pub round_or_pass-done-requires-clause-can : goal.round_or_pass-done-requires-clause-can
round_or_pass-done-requires-clause-can g c κs within =
    let ok = c.in_ok-reserve_round.ensures {u = tt} in
    let same = ok.kept in
    let kept = c.requires.kept in
    let number : c.len.result ≡ length c.args.sim.now.seats.items = search rules in
    record {
      roads = subst (λ (s : Setup). AreOver s.links c.args.router.now) (sym (ap (λ (k : Known). k.setup) same)) c.requires.roads;
      fits = record {
        actors = ap (λ (k : Known). length k.core.actors) same ∙ kept.fits.actors;
        queues = kept.fits.queues;
        begun = kept.fits.begun;
        extent = ap (λ (k : Known). extent k.setup) same ∙ kept.fits.extent;
        waiting = kept.fits.waiting;
      };
      room = room_for c.reserve_round.new.self kept same (omega (arith, number, ok.room));
    }

pub write_trace-requires-clause-empty : goal.write_trace-requires-clause-empty
write_trace-requires-clause-empty g c = c.round_or_pass-done.ensures.goes.seats.buffer ∙ c.requires.kept.empty
