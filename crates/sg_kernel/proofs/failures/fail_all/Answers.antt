use Rattle.std.proofs.Common.{◌≡◌, ◌≢◌, drop, refl, sym, ap, subst, ◌∙◌, arith, rules}
use Rattle.sg_activity.specs.Underway.{hits}
use Rattle.sg_mailbox.specs.declared.owners.How.TheVariants as how
use Rattle.sg_kernel_calls.specs.declared.simulation_state.Fields.{Fields}
use Rattle.sg_kernel_calls.specs.Answers.{finishes}
use Rattle.sg_kernel_calls.specs.Known.{Known}
use Rattle.sg_kernel.specs.Passes.{fails}
use Rattle.sg_kernel_calls.specs.Steps.{result_of}
use Rattle.sg_kernel_calls.specs.Setup.{Setup}
use Rattle.sg_kernel_calls.specs.kept.Sound.{known_of, setup_in}
use Rattle.sg_kernel_calls.specs.kept.Whole.{IsPassing}
use Rattle.sg_kernel.specs.kept.Coming.{LeavesDue}
use Rattle.sg_kernel_calls.proofs.Replied.{used_err}
use Rattle.sg_kernel_calls.proofs.Each.{still, still_none, still_stops, stops_none}
use Rattle.sg_kernel.proofs.Events.{came, can_fail}
use Rattle.sg_kernel.proofs.Ends.{still_fails, still_unfailed}
use Rattle.sg_kernel.proofs.Leaving.{leaves_both, leaves_same}
use Rattle.sg_kernel.proofs.failures.fail_all.Goals as goal

pub loop-serial-init : goal.loop-serial-init
loop-serial-init c =
    let fields = c.args.fields.now in
    record { passing = c.requires; setup = refl; known = refl; stop = refl; due = leaves_same fields fields refl refl refl; profiles = refl; events = omega arith }

pub loop-serial-preserved : goal.loop-serial-preserved
loop-serial-preserved c =
    let first = c.args.fields.now in
    let setup = setup_in first in
    let old = c.loop-serial.fields in
    let new = c.fail.new.fields in
    let inv = c.loop-serial.invariant in
    let counts = (c.in_ok-event.ensures {u = tt}).counts in
    let made = came (finishes how.Failed c.in-Some.serial.0) old c.event.new.fields new counts c.fail.ensures.enters in
    let hit = c.in-Some.ensures in
    let go : old.events ≢ setup.budget = λ e. counts.left (e ∙ sym (ap (λ (s : Setup). s.budget) inv.setup)) in
    let rest : hits new.doing.under ≡ hit.rest = c.fail.ensures.hits ∙ ap (λ (f : Fields). drop 1 (hits f.doing.under)) counts.counted ∙ ap (drop 1) hit.first in
    let more = still_fails setup c.in-Some.serial.0 hit.rest (known_of old) (known_of new) go made.known in
    record {
      passing = made.passing;
      setup = ap (λ (k : Known). k.setup) made.known ∙ inv.setup;
      known =
          ap (λ d. still (fails setup) d (known_of new)) rest
          ∙ more.0
          ∙ ap (λ d. still (fails setup) d (known_of old)) (sym hit.first)
          ∙ inv.known;
      stop =
          ap (λ d. still_stops (fails setup) d (known_of new)) rest
          ∙ more.1
          ∙ ap (λ d. still_stops (fails setup) d (known_of old)) (sym hit.first)
          ∙ inv.stop;
      due = leaves_both first old new inv.due made.due;
      profiles = c.fail.ensures.profiles ∙ ap (λ (f : Fields). f.profiles) counts.counted ∙ inv.profiles;
      events = omega (arith, inv.events, made.events);
    }

pub returns-in_err-event-clause-changes : goal.returns-in_err-event-clause-changes
returns-in_err-event-clause-changes c = record {
  known =
      let setup = setup_in c.args.fields.now in
      let now = c.loop-serial.fields in
      let inv = c.loop-serial.invariant in
      let hit = c.in-Some.ensures in
      let used = c.in_err-event.ensures.counts.used ∙ ap (λ (s : Setup). s.budget) inv.setup in
      ap known_of c.in_err-event.ensures.stays
      ∙ sym (still_unfailed setup c.in-Some.serial.0 hit.rest (known_of now) used).0
      ∙ ap (λ d. still (fails setup) d (known_of now)) (sym hit.first)
      ∙ inv.known;
  result =
      let setup = setup_in c.args.fields.now in
      let now = c.loop-serial.fields in
      let inv = c.loop-serial.invariant in
      let hit = c.in-Some.ensures in
      let used = c.in_err-event.ensures.counts.used ∙ ap (λ (s : Setup). s.budget) inv.setup in
      used_err _ c.in_err-event.field-0.0 c.from_residual.result c.from_residual.ensures.1 c.in_err-event.ensures.counts
      ∙ ap result_of (
      sym (still_unfailed setup c.in-Some.serial.0 hit.rest (known_of now) used).1
      ∙ ap (λ d. still_stops (fails setup) d (known_of now)) (sym hit.first)
      ∙ inv.stop
      );
  passing = subst IsPassing (sym c.in_err-event.ensures.stays) c.loop-serial.invariant.passing;
  due = subst (LeavesDue c.args.fields.now) (sym c.in_err-event.ensures.stays) c.loop-serial.invariant.due;
}

pub returns-in_err-event-clause-profiles : goal.returns-in_err-event-clause-profiles
returns-in_err-event-clause-profiles c = ap (λ (f : Fields). f.profiles) c.in_err-event.ensures.stays ∙ c.loop-serial.invariant.profiles

pub returns-in_err-event-clause-events : goal.returns-in_err-event-clause-events
returns-in_err-event-clause-events c = omega (arith, ap (λ (f : Fields). f.events) c.in_err-event.ensures.stays, c.loop-serial.invariant.events)

pub returns-clause-changes : goal.returns-clause-changes
returns-clause-changes c = record {
  known =
      let setup = setup_in c.args.fields.now in
      let now = c.loop-serial.fields in
      sym (still_none (fails setup) (known_of now))
      ∙ ap (λ d. still (fails setup) d (known_of now)) (sym c.in_default.ensures)
      ∙ c.loop-serial.invariant.known;
  result =
      let setup = setup_in c.args.fields.now in
      let now = c.loop-serial.fields in
      ap result_of (
      sym (stops_none (fails setup) (known_of now))
      ∙ ap (λ d. still_stops (fails setup) d (known_of now)) (sym c.in_default.ensures)
      ∙ c.loop-serial.invariant.stop
      );
  passing = search rules;
  due = search rules;
}

pub fail-requires : goal.fail-requires
fail-requires c = can_fail c.loop-serial.fields c.event.new.fields c.in-Some.serial.0 (c.in_ok-event.ensures {u = tt}).counts c.in-Some.ensures c.loop-serial.invariant.passing
