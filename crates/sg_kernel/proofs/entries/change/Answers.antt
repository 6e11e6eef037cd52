use Rattle.std.proofs.Common.{refl, sym, ap, subst, ◌∙◌, arith}
use Rattle.sg_kernel_calls.specs.declared.simulation_state.Fields.{Fields}
use Rattle.sg_kernel_calls.specs.declared.stop.Stop.TheVariants.{Budget}
use Rattle.sg_kernel_calls.specs.Known.{Known, after}
use Rattle.sg_kernel.specs.Passes.{all_fail, enters_one}
use Rattle.sg_kernel_calls.specs.Setup.{Setup}
use Rattle.sg_kernel_calls.specs.Steps.{Step, result_of}
use Rattle.sg_kernel_calls.specs.kept.Sound.{core_of, known_of, setup_in}
use Rattle.sg_kernel_calls.specs.kept.Whole.{IsPassing}
use Rattle.sg_kernel.specs.kept.Coming.{row_next}
use Rattle.sg_kernel_calls.proofs.Replied.{used_err}
use Rattle.sg_kernel_calls.proofs.Each.{after_stop, ok_anyway, then_after, then_stops}
use Rattle.sg_kernel.proofs.Entering.{change_is, change_used, rows_same}
use Rattle.sg_kernel.proofs.Events.{can_enter, entry_came, entry_comes, rows_came, EntersOne}
use Rattle.sg_kernel.proofs.Leaving.{leaves_both, leaves_same}
use Rattle.sg_kernel.proofs.entries.change.Goals as goal

pub enter-requires : goal.enter-requires
enter-requires c = can_enter c.args.fields.now c.event.new.fields c.args.entry (c.in_ok-event.ensures {u = tt}).counts c.requires.due c.requires.passing

pub returns-in_err-event-clause-changes : goal.returns-in_err-event-clause-changes
returns-in_err-event-clause-changes c = record {
  known =
      let fields = c.args.fields.now in
      ap known_of c.in_err-event.ensures.stays
      ∙ sym (ap (λ s. after s (known_of fields)) (change_used (setup_in fields) (row_next fields) (core_of fields) c.in_err-event.ensures.counts.used) ∙ after_stop (known_of fields) Budget);
  result =
      let fields = c.args.fields.now in
      used_err _ c.in_err-event.field-0.0 c.from_residual.result c.from_residual.ensures.1 c.in_err-event.ensures.counts
      ∙ sym (ap (λ (s : Step). result_of s.stop) (change_used (setup_in fields) (row_next fields) (core_of fields) c.in_err-event.ensures.counts.used));
  passing = subst IsPassing (sym c.in_err-event.ensures.stays) c.requires.passing;
  due =
      let fields = c.args.fields.now in
      let same = c.in_err-event.ensures.stays in
      leaves_same fields c.event.new.fields (ap (λ (f : Fields). f.doing.under.date) same) (ap (λ (f : Fields). f.doing.under.tasks) same) (ap (λ (f : Fields). f.doing.due) same);
}

pub returns-in_err-event-clause-events : goal.returns-in_err-event-clause-events
returns-in_err-event-clause-events c = record { more = omega (arith, ap (λ (f : Fields). f.events) c.in_err-event.ensures.stays); some = λ go some. absurd (go c.in_err-event.ensures.counts.used) }

pub returns-clause-changes : goal.returns-clause-changes
returns-clause-changes c =
    let fields = c.args.fields.now in
    let setup = setup_in fields in
    let row = row_next fields in
    let known = known_of fields in
    let mid = c.enter.new.fields in
    let counts = (c.in_ok-event.ensures {u = tt}).counts in
    let made : EntersOne (entry_comes fields) fields mid = entry_came fields c.event.new.fields mid counts c.enter.ensures.enters in
    record {
      known =
          c.fail_all.ensures.changes.known
          ∙ ap (λ (s : Setup). after (all_fail s (core_of mid)) (known_of mid)) (ap (λ (k : Known). k.setup) made.known)
          ∙ ap (λ (k : Known). after (all_fail setup k.core) k) made.known
          ∙ then_after (enters_one setup row known.core) (all_fail setup) known refl
          ∙ sym (ap (λ s. after s known) (change_is setup row known.core counts.left));
      result =
          c.fail_all.ensures.changes.result
          ∙ ap (λ (s : Setup). result_of (all_fail s (core_of mid)).stop) (ap (λ (k : Known). k.setup) made.known)
          ∙ ap (λ (k : Known). result_of (all_fail setup k.core).stop) made.known
          ∙ sym (ap result_of (then_stops (enters_one setup row known.core) (all_fail setup) refl))
          ∙ sym (ap (λ (s : Step). result_of s.stop) (change_is setup row known.core counts.left));
      passing = c.fail_all.ensures.changes.passing;
      due = leaves_both fields mid c.fail_all.new.fields made.due c.fail_all.ensures.changes.due;
    }

pub returns-clause-rows : goal.returns-clause-rows
returns-clause-rows c =
    let counts = (c.in_ok-event.ensures {u = tt}).counts in
    ok_anyway c.fail_all.result (rows_same c.enter.new.fields c.fail_all.new.fields c.fail_all.ensures.changes.due.date c.fail_all.ensures.profiles ∙ rows_came c.args.fields.now c.event.new.fields c.enter.new.fields counts c.enter.ensures.rows)

pub returns-clause-events : goal.returns-clause-events
returns-clause-events c =
    let counts = (c.in_ok-event.ensures {u = tt}).counts in
    let one = ap (λ (f : Fields). f.events) counts.counted in
    record { more = omega (arith, one, c.enter.ensures.enters.events, c.fail_all.ensures.events); some = λ go some. omega (arith, one, c.enter.ensures.enters.events, c.fail_all.ensures.events) }
