use Rattle.std.proofs.Common.{◌≡◌, ◌≢◌, None, [], drop, inl, refl, sym, ap, ◌∙◌, rules}
use Rattle.sg_kernel_calls.specs.Known.{Known, after}
use Rattle.sg_kernel.specs.Passes.{changes}
use Rattle.sg_kernel_calls.specs.Steps.{Step, result_of}
use Rattle.sg_kernel_calls.specs.Setup.{Setup}
use Rattle.sg_kernel_calls.specs.kept.Sound.{core_of, known_of, setup_in}
use Rattle.sg_kernel.specs.kept.Coming.{row_next, rows_now}
use Rattle.sg_kernel.proofs.Counting.{counted_more, counts_all, counts_some}
use Rattle.sg_kernel_calls.proofs.Each.{on_err, on_ok, still, still_last, still_next, still_none, still_stops, stops_none}
use Rattle.sg_kernel.proofs.Entering.{change_used}
use Rattle.sg_kernel.proofs.Leaving.{leaves_both, leaves_same}
use Rattle.sg_kernel.proofs.entries.change_due.Goals as goal

pub loop-entry-init : goal.loop-entry-init
loop-entry-init c =
    let fields = c.args.fields.now in
    record { passing = c.requires; setup = refl; known = refl; stop = refl; due = leaves_same fields fields refl refl refl; idle = λ none. (none, refl); events = inl (refl, refl) }

pub loop-entry-preserved : goal.loop-entry-preserved
loop-entry-preserved c =
    let first = c.args.fields.now in
    let setup = setup_in first in
    let old = c.loop-entry.fields in
    let new = c.change.new.fields in
    let inv = c.loop-entry.invariant in
    let made = c.change.ensures in
    let due = c.in-Some.ensures.next in
    let row = row_next old in
    let known : known_of new ≡ after (changes setup row (core_of old)) (known_of old) = made.changes.known ∙ ap (λ s. after (changes s row (core_of old)) (known_of old)) inv.setup in
    let on : (changes setup row (core_of old)).stop ≡ None = on_ok _ (sym (c.in-Ok.ensures.changes.result ∙ ap (λ s. result_of (changes s row (core_of old)).stop) inv.setup)) in
    let rest : rows_now new ≡ due.rest = c.in-Ok.ensures.rows ∙ ap (drop 1) due.first in
    let more = still_next (changes setup) row due.rest (known_of old) (known_of new) known on in
    let go : old.events ≢ old.setup.budget = λ used. cc (sym (ap (λ (s : Step). s.stop) (change_used setup row (core_of old) (used ∙ ap (λ (s : Setup). s.budget) inv.setup))) ∙ on) in
    let some : rows_now old ≢ [] = λ none. cc (sym due.first ∙ none) in
    record {
      passing = made.changes.passing;
      setup = ap (λ (k : Known). k.setup) made.changes.known ∙ inv.setup;
      known =
          ap (λ d. still (changes setup) d (known_of new)) rest
          ∙ more.0
          ∙ ap (λ d. still (changes setup) d (known_of old)) (sym due.first)
          ∙ inv.known;
      stop =
          ap (λ d. still_stops (changes setup) d (known_of new)) rest
          ∙ more.1
          ∙ ap (λ d. still_stops (changes setup) d (known_of old)) (sym due.first)
          ∙ inv.stop;
      due = leaves_both first old new inv.due made.changes.due;
      idle = λ none. absurd (some (inv.idle none).0);
      events = counted_more first old new (rows_now first) (rows_now old) (rows_now new) inv.events (made.events.some go some);
    }

pub returns-in-Err-clause-changes : goal.returns-in-Err-clause-changes
returns-in-Err-clause-changes c = record {
  known =
      let setup = setup_in c.args.fields.now in
      let old = c.loop-entry.fields in
      let inv = c.loop-entry.invariant in
      let made = c.change.ensures in
      let due = c.in-Some.ensures.next in
      let row = row_next old in
      let known = made.changes.known ∙ ap (λ s. after (changes s row (core_of old)) (known_of old)) inv.setup in
      let why = on_err _ c.in-Err.stop (sym (c.in-Err.ensures.changes.result ∙ ap (λ s. result_of (changes s row (core_of old)).stop) inv.setup)) in
      (still_last (changes setup) row due.rest (known_of old) (known_of c.change.new.fields) c.in-Err.stop known why).0
      ∙ ap (λ d. still (changes setup) d (known_of old)) (sym due.first)
      ∙ inv.known;
  result =
      let setup = setup_in c.args.fields.now in
      let old = c.loop-entry.fields in
      let inv = c.loop-entry.invariant in
      let made = c.change.ensures in
      let due = c.in-Some.ensures.next in
      let row = row_next old in
      let known = made.changes.known ∙ ap (λ s. after (changes s row (core_of old)) (known_of old)) inv.setup in
      let why = on_err _ c.in-Err.stop (sym (c.in-Err.ensures.changes.result ∙ ap (λ s. result_of (changes s row (core_of old)).stop) inv.setup)) in
      ap result_of (
      sym (still_last (changes setup) row due.rest (known_of old) (known_of c.change.new.fields) c.in-Err.stop known why).1
      ∙ ap (λ d. still_stops (changes setup) d (known_of old)) (sym due.first)
      ∙ inv.stop
      );
  passing = search rules;
  due = leaves_both c.args.fields.now c.loop-entry.fields c.change.new.fields c.loop-entry.invariant.due c.change.ensures.changes.due;
}

pub returns-in-Err-clause-events : goal.returns-in-Err-clause-events
returns-in-Err-clause-events c =
    let first = c.args.fields.now in
    let old = c.loop-entry.fields in
    let inv = c.loop-entry.invariant in
    counts_some first old c.change.new.fields (rows_now first) (rows_now old) inv.events (sym (ap (λ (s : Setup). s.budget) inv.setup)) c.change.ensures.events

pub returns-clause-changes : goal.returns-clause-changes
returns-clause-changes c = record {
  known =
      let setup = setup_in c.args.fields.now in
      let now = c.loop-entry.fields in
      sym (still_none (changes setup) (known_of now))
      ∙ ap (λ d. still (changes setup) d (known_of now)) (sym c.in_default.ensures)
      ∙ c.loop-entry.invariant.known;
  result =
      let setup = setup_in c.args.fields.now in
      let now = c.loop-entry.fields in
      ap result_of (
      sym (stops_none (changes setup) (known_of now))
      ∙ ap (λ d. still_stops (changes setup) d (known_of now)) (sym c.in_default.ensures)
      ∙ c.loop-entry.invariant.stop
      );
  passing = search rules;
  due = search rules;
}

pub returns-clause-events : goal.returns-clause-events
returns-clause-events c =
    let first = c.args.fields.now in
    let now = c.loop-entry.fields in
    counts_all first now (rows_now first) (rows_now now) c.loop-entry.invariant.events c.in_default.ensures

pub returns-in-Err-clause-idle : goal.returns-in-Err-clause-idle
returns-in-Err-clause-idle c = λ none. absurd (cc (sym c.in-Some.ensures.next.first ∙ (c.loop-entry.invariant.idle none).0))

pub returns-clause-idle : goal.returns-clause-idle
returns-clause-idle c = λ none. (c.loop-entry.invariant.idle none).1
