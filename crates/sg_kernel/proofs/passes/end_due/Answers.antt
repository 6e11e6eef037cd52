use Rattle.std.proofs.Common.{◌≡◌, ◌≢◌, inl, refl, drop, sym, ap, subst, ◌∙◌, arith, rules}
use Rattle.sg_kernel_calls.specs.declared.simulation_state.Fields.{Fields}
use Rattle.sg_kernel_calls.specs.Known.{Known}
use Rattle.sg_kernel.specs.Passes.{ends}
use Rattle.sg_kernel_calls.specs.Steps.{result_of}
use Rattle.sg_kernel_calls.specs.Setup.{Setup}
use Rattle.sg_kernel_calls.specs.kept.Sound.{known_of, setup_in}
use Rattle.sg_kernel_calls.specs.kept.Whole.{IsPassing}
use Rattle.sg_kernel.proofs.Counting.{counted_more, counts_all, counts_used}
use Rattle.sg_kernel_calls.proofs.Replied.{used_err}
use Rattle.sg_kernel_calls.proofs.Each.{still, still_stops, still_none, stops_none}
use Rattle.sg_kernel.specs.kept.Acts.{phase_ends}
use Rattle.sg_kernel.specs.kept.Coming.{CountsSome}
use Rattle.sg_kernel.proofs.Events.{can_end, over}
use Rattle.sg_kernel.proofs.Ends.{still_ends, still_used}
use Rattle.sg_kernel.proofs.passes.end_due.Goals as goal

pub returns-in_err-event-clause-passes : goal.returns-in_err-event-clause-passes
returns-in_err-event-clause-passes c = record {
  known =
      let setup = setup_in c.args.fields.now in
      let now = c.loop-phase.fields in
      let inv = c.loop-phase.invariant in
      let due = c.in-Some.ensures in
      let used = c.in_err-event.ensures.counts.used ∙ ap (λ (s : Setup). s.budget) inv.setup in
      ap known_of c.in_err-event.ensures.stays
      ∙ sym (still_used setup c.in-Some.phase.serial.0 due.task due.rest (known_of now) due.at used).0
      ∙ ap (λ d. still (ends setup) d (known_of now)) (sym due.first)
      ∙ inv.known;
  result =
      let setup = setup_in c.args.fields.now in
      let now = c.loop-phase.fields in
      let inv = c.loop-phase.invariant in
      let due = c.in-Some.ensures in
      let used = c.in_err-event.ensures.counts.used ∙ ap (λ (s : Setup). s.budget) inv.setup in
      used_err _ c.in_err-event.field-0.0 c.from_residual.result c.from_residual.ensures.1 c.in_err-event.ensures.counts
      ∙ ap result_of (
      sym (still_used setup c.in-Some.phase.serial.0 due.task due.rest (known_of now) due.at used).1
      ∙ ap (λ d. still_stops (ends setup) d (known_of now)) (sym due.first)
      ∙ inv.stop
      );
  passing = subst IsPassing (sym c.in_err-event.ensures.stays) c.loop-phase.invariant.passing;
  date = ap (λ (f : Fields). f.doing.under.date) c.in_err-event.ensures.stays ∙ c.loop-phase.invariant.date;
}

pub returns-in_err-event-clause-events : goal.returns-in_err-event-clause-events
returns-in_err-event-clause-events c =
    let first = c.args.fields.now in
    let now = c.loop-phase.fields in
    let inv = c.loop-phase.invariant in
    subst (λ (f : Fields). CountsSome first.doing.due first f) (sym c.in_err-event.ensures.stays)
    (counts_used first now first.doing.due now.doing.due inv.events (sym (ap (λ (s : Setup). s.budget) inv.setup)) c.in_err-event.ensures.counts.used)

pub loop-phase-init : goal.loop-phase-init
loop-phase-init c = record { passing = c.requires; setup = refl; known = refl; stop = refl; date = refl; events = inl (refl, refl) }

pub loop-phase-preserved : goal.loop-phase-preserved
loop-phase-preserved c =
    let setup = setup_in c.args.fields.now in
    let old = c.loop-phase.fields in
    let new = c.end_phase.new.fields in
    let inv = c.loop-phase.invariant in
    let counts = (c.in_ok-event.ensures {u = tt}).counts in
    let made = over (phase_ends c.in-Some.phase.serial.0) old c.event.new.fields new counts c.end_phase.ensures in
    let due = c.in-Some.ensures in
    let go : old.events ≢ setup.budget = λ e. counts.left (e ∙ sym (ap (λ (s : Setup). s.budget) inv.setup)) in
    let rest : new.doing.due ≡ due.rest = made.due ∙ ap (drop 1) due.first in
    let more = still_ends setup c.in-Some.phase.serial.0 due.task due.rest (known_of old) (known_of new) due.at go made.known in
    record {
      passing = made.passing;
      setup = ap (λ (k : Known). k.setup) made.known ∙ inv.setup;
      known =
          ap (λ d. still (ends setup) d (known_of new)) rest
          ∙ more.0
          ∙ ap (λ d. still (ends setup) d (known_of old)) (sym due.first)
          ∙ inv.known;
      stop =
          ap (λ d. still_stops (ends setup) d (known_of new)) rest
          ∙ more.1
          ∙ ap (λ d. still_stops (ends setup) d (known_of old)) (sym due.first)
          ∙ inv.stop;
      date = made.date ∙ inv.date;
      events = counted_more c.args.fields.now old new c.args.fields.now.doing.due old.doing.due new.doing.due inv.events (omega (arith, made.events));
    }

pub returns-clause-passes : goal.returns-clause-passes
returns-clause-passes c = record {
  known =
      let setup = setup_in c.args.fields.now in
      let now = c.loop-phase.fields in
      let inv = c.loop-phase.invariant in
      sym (still_none (ends setup) (known_of now))
      ∙ ap (λ d. still (ends setup) d (known_of now)) (sym c.in_default.ensures)
      ∙ inv.known;
  result =
      let setup = setup_in c.args.fields.now in
      let now = c.loop-phase.fields in
      let inv = c.loop-phase.invariant in
      ap result_of (
      sym (stops_none (ends setup) (known_of now))
      ∙ ap (λ d. still_stops (ends setup) d (known_of now)) (sym c.in_default.ensures)
      ∙ inv.stop
      );
  passing = search rules;
  date = search rules;
}

pub returns-clause-events : goal.returns-clause-events
returns-clause-events c =
    let now = c.loop-phase.fields in
    counts_all c.args.fields.now now c.args.fields.now.doing.due now.doing.due c.loop-phase.invariant.events c.in_default.ensures

pub end_phase-requires : goal.end_phase-requires
end_phase-requires c = can_end c.loop-phase.fields c.event.new.fields c.in-Some.phase (c.in_ok-event.ensures {u = tt}).counts c.in-Some.ensures c.loop-phase.invariant.passing
