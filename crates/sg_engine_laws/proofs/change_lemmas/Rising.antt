-- In which order a time advance makes its records.
use Rattle.std.proofs.Common.{◌≡◌, ℕ, zero, suc, ◌+◌, ◌≤◌, ◌==◌, Bool, true, false, cond, Option, None, Some, List, [], ◌∷◌, ◌++◌, append_assoc, append-nil, length, refl, sym, ap, subst, ◌∙◌, arith}
use Rattle.std.specs.List.{All}
use Rattle.std.proofs.lemmas.List.Elements.{All-nil, All-cons, All-append, All-head, All-tail}
use Rattle.sg_base.specs.declared.trace_record.Record.{Record}
use Rattle.sg_activity_table.specs.Slots.{is_over_after, passes, serials}
use Rattle.sg_activity.specs.Task.{Task, is_hit, phase_after, task_at}
use Rattle.sg_activity.specs.Underway.{due_in, hits, wait_in}
use Rattle.sg_profile.specs.Profiles.{rows_due}
use Rattle.sg_mailbox.specs.declared.owners.How.{How}
use Rattle.sg_mailbox.specs.declared.owners.How.TheVariants as how
use Rattle.sg_kernel_calls.specs.declared.stop.Stop.{Stop}
use Rattle.sg_kernel_calls.specs.declared.stop.Stop.TheVariants.{Budget}
use Rattle.sg_kernel_calls.specs.Answers.{finishes}
use Rattle.sg_kernel_calls.specs.Steps.{Step, all_of, and_then, counted, each, follows, stops}
use Rattle.sg_kernel_calls.specs.World.{Core}
use Rattle.sg_kernel_calls.proofs.Each.{all_of-two}
use Rattle.sg_kernel.specs.Passes.{all_fail, changes, core_later, ends, ends_by, ends_in, ends_one, enters_one, entry_stretches, fails, fails_one, pass_at, settled, stretches}
use Rattle.sg_kernel_calls.specs.Setup.{Setup}
use Rattle.sg_kernel_laws.proofs.actor_lemmas.Kept.{Kept, either, each_kept, finishes_kept, still}
use Rattle.sg_engine_laws.proofs.await_lemmas.Over.{anything}
use Rattle.sg_engine_laws.specs.changes.Order.{Rise, serial_before}
use Rattle.sg_engine_laws.specs.changes.Rising.{TimeAdvancesRecordBySerial, RecordsBySerial, joined}
use Rattle.sg_engine_laws.proofs.change_lemmas.Order.{AllOf, Numbered, RiseBy, WasBlocked, finish_serial, rise_append, was_closed}

-- ---- one after another, as far as the budget goes
rise_same : (number : Record → ℕ) (n : ℕ) (made : List Record) → All (λ r. number r ≡ n) made → Rise number made
rise_same number n made all = subst (Rise number) (append-nil made) (rise_append number n made [] all (All-nil _) tt)

module _ (number : Record → ℕ) (Holds : Core → Type 0) (does : ℕ → Core → Step) (one : (k : ℕ) (core : Core) → Holds core → All (λ r. number r ≡ k) (does k core).made) (keeps : (k : ℕ) (core : Core) → Holds core → Holds (does k core).core) where
  each_rises : (ks : List ℕ) (core : Core) → RiseBy (λ k. k) ks → Holds core → Numbered (λ k. k) number ks (each does ks core).made
  unfolding each
  each_rises [] core rise h = record { rises = tt; above = λ low all. All-nil (λ r. low ≤ number r) }
  each_rises (k ∷ ks) core rise h = by (does k core).stop (each_rises ks (does k core).core rise.1 (keeps k core h))
    where
      first : Step
      first = does k core

      mine : All (λ r. number r ≡ k) first.made
      mine = one k core h

      low_mine : (low : ℕ) → low ≤ k → All (λ r. low ≤ number r) first.made
      low_mine low below i d within = (let same = mine i d within in omega (arith, below, same))

      by : (o : Option Stop) → Numbered (λ k. k) number ks (each does ks first.core).made → Numbered (λ k. k) number (k ∷ ks) (follows o first (each does ks first.core)).made
      by None more = record {
        rises = rise_append number k first.made (each does ks first.core).made mine (more.above k rise.0) more.rises;
        above = λ low all. All-append (λ r. low ≤ number r) first.made (each does ks first.core).made (low_mine low (All-head (λ m. low ≤ m) k ks all)) (more.above low (All-tail (λ m. low ≤ m) k ks all));
      }
      by (Some why) more = record { rises = rise_same number k first.made mine; above = λ low all. low_mine low (All-head (λ m. low ≤ m) k ks all) }

-- ---- ids rise
module _ {X : Type 0} (test : X → Bool) where
  serials_from : (n : ℕ) (xs : List (Option X)) → All (λ k. n ≤ k) (serials test n xs)
  unfolding serials
  serials_from n [] = All-nil (λ k. n ≤ k)
  serials_from n (x ∷ xs) = by (passes test x) (λ i d within. (let above = serials_from (n + 1) xs i d within in omega (arith, above)))
    where
      by : (b : Bool) → All (λ k. n ≤ k) (serials test (n + 1) xs) → All (λ k. n ≤ k) (cond b (n ∷ serials test (n + 1) xs) (serials test (n + 1) xs))
      by true above = All-cons (λ k. n ≤ k) n (serials test (n + 1) xs) (omega arith) above
      by false above = above

  serials_rise : (n : ℕ) (xs : List (Option X)) → RiseBy (λ k. k) (serials test n xs)
  unfolding serials
  serials_rise n [] = tt
  serials_rise n (x ∷ xs) = by (passes test x) (λ i d within. (let above = serials_from (n + 1) xs i d within in omega (arith, above))) (serials_rise (n + 1) xs)
    where
      by : (b : Bool) → All (λ k. n ≤ k) (serials test (n + 1) xs) → RiseBy (λ k. k) (serials test (n + 1) xs) → RiseBy (λ k. k) (cond b (n ∷ serials test (n + 1) xs) (serials test (n + 1) xs))
      by true above more = (above, more)
      by false above more = more

-- ---- a time advance
module _ (setup : Setup) (before : Core) where
  abbrev Was : Core → Type 0
  Was core = WasBlocked before core

  none_of : (k : ℕ) → AllOf before k []
  none_of k = All-nil _

  finish_kept : (over : How) (k : ℕ) (core : Core) → Was core → Kept Was anything (finishes over k core)
  finish_kept over k core was = finishes_kept Was anything (was_closed before) over k core was

  fail_of : (k : ℕ) (core : Core) → Was core → AllOf before k (fails setup k core).made
  fail_of k core was = by (core.events == setup.budget)
    where
      by : (b : Bool) → AllOf before k (cond b (stops core [] Budget) (fails_one k core)).made
      by true = none_of k
      by false = finish_serial before how.Failed k (counted core) was

  fail_was : (k : ℕ) (core : Core) → Was core → Was (fails setup k core).core
  fail_was k core was = (either Was anything (core.events == setup.budget) (stops core [] Budget) (fails_one k core) (still Was anything core (Some Budget) was) (finish_kept how.Failed k (counted core) was)).holds

  fails_was : (ks : List ℕ) (core : Core) → Was core → Was (each (fails setup) ks core).core
  fails_was ks core was = (each_kept Was anything (fails setup) (λ k mid w. record { holds = fail_was k mid w; made = λ i d within. tt }) ks core was).holds

  end_of : (k : ℕ) (core : Core) → Was core → AllOf before k (ends setup k core).made
  end_of k core was = by (task_at core.under.tasks k)
    where
      next : (after : Option Task) → AllOf before k (ends_in k after (counted core)).made
      next None = finish_serial before how.Done k (counted core) was
      next (Some more) = none_of k

      on : (b : Bool) → AllOf before k (cond b (stops core [] Budget) (ends_one k core)).made
      on true = none_of k
      on false = next (phase_after (task_at core.under.tasks k))

      by : (o : Option Task) → AllOf before k (ends_by setup k o core).made
      by None = none_of k
      by (Some task) = on (core.events == setup.budget)

  end_was : (k : ℕ) (core : Core) → Was core → Was (ends setup k core).core
  end_was k core was = by (task_at core.under.tasks k)
    where
      next : (after : Option Task) → Was (ends_in k after (counted core)).core
      next None = (finish_kept how.Done k (counted core) was).holds
      next (Some more) = was

      on : (b : Bool) → Was (cond b (stops core [] Budget) (ends_one k core)).core
      on true = was
      on false = next (phase_after (task_at core.under.tasks k))

      by : (o : Option Task) → Was (ends_by setup k o core).core
      by None = was
      by (Some task) = on (core.events == setup.budget)

  -- the failures behind an entry
  change_rises : (row : ℕ) (core : Core) → Was core → Rise (serial_before before) (changes setup row core).made × Was (changes setup row core).core
  change_rises row core was = by (core.events == setup.budget)
    where
      mid : Core
      mid = (enters_one setup row core).core

      Both : Step → Type 0
      Both step = Rise (serial_before before) step.made × Was step.core

      goes : Both (and_then (enters_one setup row core) (all_fail setup))
      goes = ((each_rises (serial_before before) Was (fails setup) fail_of fail_was (hits mid.under) mid (serials_rise (is_hit mid.under.on) 1 mid.under.tasks) was).rises, fails_was (hits mid.under) mid was)

      by : (b : Bool) → Rise (serial_before before) (cond b (stops core [] Budget) (all_of (entry_stretches setup row) core)).made × Was (cond b (stops core [] Budget) (all_of (entry_stretches setup row) core)).core
      by true = (tt, was)
      by false = subst (λ (s : Step). Rise (serial_before before) s.made × Was s.core) (sym (all_of-two (enters_one setup row) (all_fail setup) core)) goes

  -- so many stretches, each of which rises
  pub record InStretches (number : ℕ) (made : List Record) : Type 0 where
    pub parts : List (List Record)
    pub is : made ≡ joined parts
    pub long : length parts ≡ number
    pub rise : All (Rise (serial_before before)) parts

  no_more : (n : ℕ) → InStretches n []
  no_more zero = record { parts = []; is = refl; long = refl; rise = All-nil _ }
  no_more (suc n) = (let more = no_more n in record { parts = [] ∷ more.parts; is = more.is; long = ap suc more.long; rise = All-cons (Rise (serial_before before)) [] more.parts tt more.rise })

  one_more : (n : ℕ) (first rest : List Record) → Rise (serial_before before) first → InStretches n rest → InStretches (suc n) (first ++ rest)
  one_more n first rest rises more = record { parts = first ∷ more.parts; is = ap (λ (l : List Record). first ++ l) more.is; long = ap suc more.long; rise = All-cons (Rise (serial_before before)) first more.parts rises more.rise }

  last_one : (n : ℕ) (first : List Record) → Rise (serial_before before) first → InStretches (suc n) first
  last_one n first rises = subst (InStretches (suc n)) (append-nil first) (one_more n first [] rises (no_more n))

  -- the entries, and then what comes behind them
  rows_rise : (rows : List ℕ) (core : Core) (last : Core → Step) → Was core → ((mid : Core) → Was mid → Rise (serial_before before) (last mid).made) → InStretches (suc (length rows)) (and_then (each (changes setup) rows core) last).made
  unfolding each
  rows_rise [] core last was rises = last_one 0 (last core).made (rises core was)
  rows_rise (row ∷ rows) core last was rises = by (changes setup row core).stop (rows_rise rows (changes setup row core).core last (change_rises row core was).1 rises)
    where
      first : Step
      first = changes setup row core

      one : Rise (serial_before before) first.made × Was first.core
      one = change_rises row core was

      -- a stretch, the other entries, and what comes behind them
      then_so : (middle : Step) (o : Option Stop) → InStretches (suc (length rows)) (follows o middle (last middle.core)).made → InStretches (suc (suc (length rows))) (follows o (record middle { made = first.made ++ middle.made }) (last middle.core)).made
      then_so middle None more = subst (InStretches (suc (suc (length rows)))) (sym (append_assoc first.made middle.made (last middle.core).made)) (one_more (suc (length rows)) first.made (middle.made ++ (last middle.core).made) one.0 more)
      then_so middle (Some why) more = one_more (suc (length rows)) first.made middle.made one.0 more

      by : (o : Option Stop) → InStretches (suc (length rows)) (and_then (each (changes setup) rows first.core) last).made → InStretches (suc (suc (length rows))) (and_then (follows o first (each (changes setup) rows first.core)) last).made
      by None more = then_so (each (changes setup) rows first.core) (each (changes setup) rows first.core).stop more
      by (Some why) more = at first.stop
        where
          at : (o : Option Stop) → InStretches (suc (suc (length rows))) (follows o first (last first.core)).made
          at None = one_more (suc (length rows)) first.made (last first.core).made one.0 (last_one (length rows) (last first.core).made (rises first.core one.1))
          at (Some other) = last_one (suc (length rows)) first.made one.0

  pub date_rises : (span : ℕ) → InStretches (suc (length (rows_due (before.under.date + span) setup.profiles before.turns))) (pass_at setup before (Some span)).made
  date_rises span = by (before.events == setup.budget)
    where
      rows : List ℕ
      rows = rows_due (before.under.date + span) setup.profiles before.turns

      due : List ℕ
      due = due_in span before.under

      moved : Core
      moved = core_later span before

      last_rises : (mid : Core) → Was mid → Rise (serial_before before) (each (ends setup) due mid).made
      last_rises mid was = (each_rises (serial_before before) Was (ends setup) end_of end_was due mid (serials_rise (λ task. is_over_after (wait_in before.under task) span) 1 before.under.tasks) was).rises

      by : (b : Bool) → InStretches (suc (length rows)) (cond b (stops before [] Budget) (all_of (stretches setup span before) moved)).made
      by true = no_more (suc (length rows))
      by false =
          subst (λ (s : Step). InStretches (suc (length rows)) s.made) (sym (all_of-two (each (changes setup) rows) (each (ends setup) due) moved))
          (rows_rise rows moved (each (ends setup) due) (λ actor since what on e. e) last_rises)

pub time_advances_record_by_serial : TimeAdvancesRecordBySerial
time_advances_record_by_serial setup core span next =
    let now = settled core in
    let r = date_rises setup now span in
    let one : suc (length (rows_due (core.under.date + span) setup.profiles core.turns)) ≡ length (rows_due (core.under.date + span) setup.profiles core.turns) + 1 = omega arith in
    subst (λ (o : Option ℕ). RecordsBySerial (rows_due (core.under.date + span) setup.profiles core.turns) core (pass_at setup now o)) (sym next)
    (record { stretches = r.parts; made = r.is; number = r.long ∙ one; rise = r.rise })
