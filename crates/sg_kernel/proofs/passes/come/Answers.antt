use Rattle.std.proofs.Common.{◌≡◌, ◌≢◌, Some, [], sym, ap, ◌∙◌, rules}
use Rattle.sg_kernel_calls.specs.Known.{Known, after}
use Rattle.sg_kernel.specs.Passes.{changes, ends}
use Rattle.sg_kernel_calls.specs.Steps.{Step, each, result_of}
use Rattle.sg_kernel_calls.specs.Setup.{Setup}
use Rattle.sg_kernel_calls.specs.kept.Sound.{core_of, known_of, setup_in}
use Rattle.sg_kernel.specs.kept.Coming.{rows_now}
use Rattle.sg_kernel.proofs.Counting.{counts_both}
use Rattle.sg_kernel_calls.proofs.Each.{all_of-two, on_err, on_ok, stops_none, then_after, then_none, then_stops}
use Rattle.sg_kernel.proofs.Skips.{ends_filter}
use Rattle.sg_kernel.proofs.passes.come.Goals as goal

pub returns-in-Err-clause-passes : goal.returns-in-Err-clause-passes
returns-in-Err-clause-passes c = record {
  known =
      let fields = c.args.fields.now in
      let setup = setup_in fields in
      let entries = each (changes setup) (rows_now fields) in
      let phases = each (ends setup) fields.doing.due in
      let made = c.in-Err.ensures {u = tt} in
      let all = all_of-two entries phases (core_of fields) ∙ then_none (entries (core_of fields)) phases c.in-Err.stop (on_err _ c.in-Err.stop (sym made.changes.result)) in
      made.changes.known ∙ sym (ap (λ s. after s (known_of fields)) all);
  result =
      let fields = c.args.fields.now in
      let setup = setup_in fields in
      let entries = each (changes setup) (rows_now fields) in
      let phases = each (ends setup) fields.doing.due in
      let made = c.in-Err.ensures {u = tt} in
      let all = all_of-two entries phases (core_of fields) ∙ then_none (entries (core_of fields)) phases c.in-Err.stop (on_err _ c.in-Err.stop (sym made.changes.result)) in
      made.changes.result ∙ sym (ap (λ (s : Step). result_of s.stop) all);
  passing = search rules;
  date = search rules;
}

pub returns-in-Ok-clause-passes : goal.returns-in-Ok-clause-passes
returns-in-Ok-clause-passes c = record {
  known =
      let fields = c.args.fields.now in
      let setup = setup_in fields in
      let mid = c.change_due.new.fields in
      let entries = each (changes setup) (rows_now fields) in
      let phases = each (ends setup) fields.doing.due in
      let made = c.in-Ok.ensures {u = tt} in
      let ended = c.end_due.ensures in
      let same = ap (λ (k : Known). k.setup) made.changes.known in
      ended.passes.known
      ∙ ap (λ (s : Setup). after (each (ends s) mid.doing.due (core_of mid)) (known_of mid)) same
      ∙ ap (λ d. after (each (ends setup) d (core_of mid)) (known_of mid)) made.changes.due.due
      ∙ ap (λ s. after s (known_of mid)) (ends_filter setup made.changes.due.test fields.doing.due (core_of mid) made.changes.due.gone)
      ∙ ap (λ (k : Known). after (phases k.core) k) made.changes.known
      ∙ then_after (entries (core_of fields)) phases (known_of fields) (on_ok _ (sym made.changes.result))
      ∙ sym (ap (λ s. after s (known_of fields)) (all_of-two entries phases (core_of fields)));
  result =
      let fields = c.args.fields.now in
      let setup = setup_in fields in
      let mid = c.change_due.new.fields in
      let entries = each (changes setup) (rows_now fields) in
      let phases = each (ends setup) fields.doing.due in
      let made = c.in-Ok.ensures {u = tt} in
      let ended = c.end_due.ensures in
      let same = ap (λ (k : Known). k.setup) made.changes.known in
      ended.passes.result
      ∙ ap (λ (s : Setup). result_of (each (ends s) mid.doing.due (core_of mid)).stop) same
      ∙ ap (λ d. result_of (each (ends setup) d (core_of mid)).stop) made.changes.due.due
      ∙ ap (λ (s : Step). result_of s.stop) (ends_filter setup made.changes.due.test fields.doing.due (core_of mid) made.changes.due.gone)
      ∙ ap (λ (k : Known). result_of (phases k.core).stop) made.changes.known
      ∙ sym (ap result_of (then_stops (entries (core_of fields)) phases (on_ok _ (sym made.changes.result))))
      ∙ sym (ap (λ (s : Step). result_of s.stop) (all_of-two entries phases (core_of fields)));
  passing = search rules;
  date = search rules;
}

pub returns-in-Ok-clause-events : goal.returns-in-Ok-clause-events
returns-in-Ok-clause-events c =
    let fields = c.args.fields.now in
    let mid = c.change_due.new.fields in
    let made = c.in-Ok.ensures {u = tt} in
    counts_both fields mid c.end_due.new.fields (rows_now fields) fields.doing.due mid.doing.due made.events c.end_due.ensures.events made.idle (ap (λ (k : Known). k.setup.budget) made.changes.known) c.requires.some c.requires.budget

-- entries stop only if there is one
pub returns-in-Err-clause-events : goal.returns-in-Err-clause-events
returns-in-Err-clause-events c =
    let fields = c.args.fields.now in
    let setup = setup_in fields in
    let made = c.in-Err.ensures {u = tt} in
    let why : (each (changes setup) (rows_now fields) (core_of fields)).stop ≡ Some c.in-Err.stop = on_err _ c.in-Err.stop (sym made.changes.result) in
    let some : rows_now fields ≢ [] = λ none. cc (sym why ∙ ap (λ r. (each (changes setup) r (core_of fields)).stop) none ∙ stops_none (changes setup) (known_of fields)) in
    made.events.some c.requires.budget some
