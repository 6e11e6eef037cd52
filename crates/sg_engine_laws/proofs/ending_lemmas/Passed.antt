-- What a time advance leaves: who has begun, and no entry that is overdue; and it has an event, or stops the run.
use Rattle.std.proofs.Common.{◌≡◌, ◌≢◌, ◌⊎◌, ℕ, zero, suc, ◌+◌, ◌-◌, ◌==◌, ◌<◌, ◌≤◌, min, Bool, true, false, cond, inl, inr, Option, None, Some, option_map, List, [], ◌∷◌, map, get_or, refl, sym, ap, subst, ◌∙◌, arith}
use Rattle.std.specs.Prelude.{IsSome, is_some}
use Rattle.std.specs.List.{All}
use Rattle.std.specs.Option.{IfSome}
use Rattle.std.proofs.lemmas.List.Elements.{All-nil, All-append}
use Rattle.sg_activity_table.specs.Slots.{sooner, soonest, serials, is_over_after}
use Rattle.sg_activity.specs.Task.{Task, phase_after, task_at}
use Rattle.sg_activity.specs.Underway.{Underway, due_in, hits, is_running, next_in, passed, wait_in, with_task}
use Rattle.sg_activity.proofs.Times.{sooner_cases}
use Rattle.sg_profile.specs.declared.entry.Entry.{Entry}
use Rattle.sg_profile.specs.declared.entry.Entry.TheVariants as entry
use Rattle.sg_profile.specs.declared.turn.Turn.{Turn}
use Rattle.sg_profile.specs.Ahead.{IsAhead, IsNear}
use Rattle.sg_profile.specs.Profiles.{AreProfiles, dates_of, earliest, entry_at, next_date, rows_due, rows_due_from, turns_after_row}
use Rattle.sg_profile.proofs.Cases.{earlier_of}
use Rattle.sg_profile.proofs.Ahead.{ahead_moves, ahead_steps, next_is_near, rows_are_left}
use Rattle.sg_platform_rows.specs.declared.network.Network.{Network}
use Rattle.sg_actor_states.specs.declared.state.Actor.{Actor}
use Rattle.sg_mailbox.specs.declared.owners.How.{How}
use Rattle.sg_mailbox.specs.declared.owners.How.TheVariants as how
use Rattle.sg_kernel_calls.specs.declared.stop.Stop.{Stop}
use Rattle.sg_kernel_calls.specs.declared.stop.Stop.TheVariants as stop
use Rattle.sg_kernel_calls.specs.Answers.{finishes}
use Rattle.sg_kernel.specs.Passes.{all_fail, applied_if, changes, core_later, ends, ends_by, ends_in, ends_one, enters, enters_one, entry_stretches, fails, fails_one, next_span, pass_at, pass_of, settled, span_to, stretches}
use Rattle.sg_kernel_calls.specs.Steps.{Step, goes_on, stops, counted, follows, and_then, each, all_of}
use Rattle.sg_kernel_calls.specs.Setup.{Setup}
use Rattle.sg_kernel_calls.specs.World.{Core}
use Rattle.sg_kernel_calls.proofs.Finishes.{finishes_goes}
use Rattle.sg_kernel_laws.proofs.actor_lemmas.Kept.{finishes_kept, still}
use Rattle.sg_engine_laws.proofs.ending_lemmas.Called.{Keeping, Keeps, Leaves, TellsNone, closed}

-- ---- numbers
pub same_or : (a b : ℕ) → ((a == b) ≡ true → a ≡ b) × ((a == b) ≡ false → a ≢ b)
same_or a b = (λ e. grind (arith, e), λ e is. grind (arith, e, is))

same : (n : ℕ) → (n == n) ≡ true
same n = grind arith

-- ---- who has begun
pub kept_so : (old now : List Actor) → Keeps old now → Keeps now now
kept_so old now k = record { long = refl; begun = λ i. refl; waits = k.waits }

pub keeps_then : (old now new : List Actor) → Keeps old now → Keeps now new → Keeps old new
keeps_then old now new k l = record { long = l.long ∙ k.long; begun = λ i. l.begun i ∙ k.begun i; waits = l.waits }

-- ---- one step, and another
-- this holds after it; it records no create; and if the budget stops it the count is the budget
pub record Goes (P : Core → Type 0) (budget : ℕ) (step : Step) : Type 0 where
  pub holds : P step.core
  pub silent : All TellsNone step.made
  pub used : step.stop ≡ Some stop.Budget → step.core.events ≡ budget

goes_still : (P : Core → Type 0) (budget : ℕ) (core : Core) → P core → Goes P budget (goes_on core [])
goes_still P budget core p = record { holds = p; silent = All-nil TellsNone; used = λ e. absurd (cc e) }

goes_used : (P : Core → Type 0) (budget : ℕ) (core : Core) → core.events ≡ budget → P core → Goes P budget (stops core [] stop.Budget)
goes_used P budget core is p = record { holds = p; silent = All-nil TellsNone; used = λ e. is }

goes_so : (P Q : Core → Type 0) (budget : ℕ) (step : Step) → ((core : Core) → P core → Q core) → Goes P budget step → Goes Q budget step
goes_so P Q budget step so g = record { holds = so step.core g.holds; silent = g.silent; used = g.used }

goes_then : (M P : Core → Type 0) (budget : ℕ) (first : Step) (next : Core → Step) → ((core : Core) → M core → P core) → Goes M budget first → (M first.core → Goes P budget (next first.core)) → Goes P budget (and_then first next)
goes_then M P budget first next so g more = by first.stop refl
  where
    by : (o : Option Stop) → first.stop ≡ o → Goes P budget (follows o first (next first.core))
    by None e = (let n = more g.holds in record { holds = n.holds; silent = All-append TellsNone first.made (next first.core).made g.silent n.silent; used = n.used })
    by (Some why) e = record { holds = so first.core g.holds; silent = g.silent; used = g.used }

goes_on_then : (P : Core → Type 0) (budget : ℕ) (first : Step) (next : Core → Step) → first.stop ≡ None → All TellsNone first.made → Goes P budget (next first.core) → Goes P budget (and_then first next)
goes_on_then P budget first next on silent n =
    subst (λ (o : Option Stop). Goes P budget (follows o first (next first.core))) (sym on)
    (record { holds = n.holds; silent = All-append TellsNone first.made (next first.core).made silent n.silent; used = n.used })

goes_each : {X : Type 0} (P : Core → Type 0) (budget : ℕ) (does : X → Core → Step) → ((x : X) (core : Core) → P core → Goes P budget (does x core)) → (xs : List X) (core : Core) → P core → Goes P budget (each does xs core)
unfolding each
goes_each P budget does one [] core p = goes_still P budget core p
goes_each P budget does one (x ∷ xs) core p = goes_then P P budget (does x core) (each does xs) (λ c q. q) (one x core p) (goes_each P budget does one xs (does x core).core)

goes_last : (P : Core → Type 0) (budget : ℕ) (does : Core → Step) (core : Core) → Goes P budget (does core) → Goes P budget (all_of (does ∷ []) core)
unfolding all_of
goes_last P budget does core g = goes_then P P budget (does core) (all_of []) (λ c q. q) g (goes_still P budget (does core).core)

goes_two : (M P : Core → Type 0) (budget : ℕ) (first second : Core → Step) (core : Core) → ((c : Core) → M c → P c) → Goes M budget (first core) → ((mid : Core) → M mid → Goes P budget (second mid)) → Goes P budget (all_of (first ∷ second ∷ []) core)
unfolding all_of
goes_two M P budget first second core so g more = goes_then M P budget (first core) (all_of (second ∷ [])) so g (λ m. goes_last P budget second (first core).core (more (first core).core m))

-- ---- amid a time advance
-- so many events at least, and no more than the budget; it is this date, and the profiles are so far
pub record Amid (old : List Actor) (budget low day : ℕ) (far : List Turn) (core : Core) : Type 0 where
  pub more : low ≤ core.events
  pub within : core.events ≤ budget
  pub date : core.under.date ≡ day
  pub turns : core.turns ≡ far
  pub actors : Keeps old core.actors

amid_less : (old : List Actor) (budget low high date : ℕ) (turns : List Turn) (core : Core) → low ≤ high → Amid old budget high date turns core → Amid old budget low date turns core
amid_less old budget low high date turns core le a = record { more = omega (arith, le, a.more); within = a.within; date = a.date; turns = a.turns; actors = a.actors }

module _ (setup : Setup) (old : List Actor) (date : ℕ) where
  abbrev In : ℕ → List Turn → Core → Type 0
  In low turns core = Amid old setup.budget low date turns core

  -- one event more
  event : (low high : ℕ) (turns : List Turn) (core : Core) (step : Step) → high ≤ core.events + 1 → core.events ≢ setup.budget → In low turns core → step.stop ≡ None → Keeping (counted core) step → Goes (In high turns) setup.budget step
  event low high turns core step le go a on kept =
      let l = kept.holds in
      record {
        holds = record {
          more = omega (arith, le, l.events);
          within = omega (arith, a.within, go, l.events);
          date = l.date ∙ a.date;
          turns = l.turns ∙ a.turns;
          actors = keeps_then old core.actors step.core.actors a.actors l.actors;
        };
        silent = kept.made;
        used = λ e. absurd (cc (sym on ∙ e));
      }

  counted_so : (core : Core) → Keeps old core.actors → Leaves (counted core) (counted core)
  counted_so core k = record { events = refl; date = refl; turns = refl; actors = kept_so old core.actors k }

  finish : (low high : ℕ) (turns : List Turn) (over : How) (serial : ℕ) (core : Core) → high ≤ core.events + 1 → core.events ≢ setup.budget → In low turns core → Goes (In high turns) setup.budget (finishes over serial (counted core))
  finish low high turns over serial core le go a =
      event low high turns core (finishes over serial (counted core)) le go a (finishes_goes over serial (counted core))
      (finishes_kept (Leaves (counted core)) TellsNone (closed (counted core)) over serial (counted core) (counted_so core a.actors))

  unless : (P : Core → Type 0) (core : Core) (step : Step) → P core → (core.events ≢ setup.budget → Goes P setup.budget step) → Goes P setup.budget (cond (core.events == setup.budget) (stops core [] stop.Budget) step)
  unless P core step p more = by (core.events == setup.budget) refl
    where
      by : (b : Bool) → (core.events == setup.budget) ≡ b → Goes P setup.budget (cond b (stops core [] stop.Budget) step)
      by true e = goes_used P setup.budget core ((same_or core.events setup.budget).0 e) p
      by false e = more ((same_or core.events setup.budget).1 e)

  fail_goes : (low : ℕ) (turns : List Turn) (serial : ℕ) (core : Core) → In low turns core → Goes (In low turns) setup.budget (fails setup serial core)
  fail_goes low turns serial core a =
      unless (In low turns) core (fails_one serial core) a (λ go. finish low low turns how.Failed serial core (omega (arith, a.more)) go a)

  -- ---- ends of phases
  end_one : (low high : ℕ) (turns : List Turn) (serial : ℕ) (core : Core) → high ≤ core.events + 1 → core.events ≢ setup.budget → In low turns core → Goes (In high turns) setup.budget (ends_one serial core)
  end_one low high turns serial core le go a = by (phase_after (task_at core.under.tasks serial))
    where
      by : (next : Option Task) → Goes (In high turns) setup.budget (ends_in serial next (counted core))
      by None = finish low high turns how.Done serial core le go a
      by (Some next) =
          (let under = with_task serial (Some next) core.under in
          event low high turns core (goes_on (record (counted core) { under = under }) []) le go a refl
          (still (Leaves (counted core)) TellsNone (record (counted core) { under = under }) None (record { events = refl; date = refl; turns = refl; actors = kept_so old core.actors a.actors })))

  end_goes : (low : ℕ) (turns : List Turn) (serial : ℕ) (core : Core) → In low turns core → Goes (In low turns) setup.budget (ends setup serial core)
  end_goes low turns serial core a = by (task_at core.under.tasks serial)
    where
      by : (o : Option Task) → Goes (In low turns) setup.budget (ends_by setup serial o core)
      by None = goes_still (In low turns) setup.budget core a
      by (Some task) = unless (In low turns) core (ends_one serial core) a (λ go. end_one low low turns serial core (omega (arith, a.more)) go a)

  ends_go : (low : ℕ) (turns : List Turn) (due : List ℕ) (core : Core) → In low turns core → Goes (In low turns) setup.budget (each (ends setup) due core)
  ends_go low turns due core a = goes_each (In low turns) setup.budget (ends setup) (end_goes low turns) due core a

  -- if one is running it is an event
  ends_count : (low high : ℕ) (turns : List Turn) (serial : ℕ) (due : List ℕ) (core : Core) → high ≤ core.events + 1 → core.events ≢ setup.budget → IsSome (task_at core.under.tasks serial) → In low turns core → Goes (In high turns) setup.budget (each (ends setup) (serial ∷ due) core)
  unfolding each
  ends_count low high turns serial due core le go some a =
      goes_then (In high turns) (In high turns) setup.budget (ends setup serial core) (each (ends setup) due) (λ c q. q) (by (task_at core.under.tasks serial) some) (ends_go high turns due (ends setup serial core).core)
    where
      on : (b : Bool) → (core.events == setup.budget) ≡ b → Goes (In high turns) setup.budget (cond b (stops core [] stop.Budget) (ends_one serial core))
      on true e = absurd (go ((same_or core.events setup.budget).0 e))
      on false e = end_one low high turns serial core le go a

      by : (o : Option Task) → IsSome o → Goes (In high turns) setup.budget (ends_by setup serial o core)
      by None is = absurd (cc is)
      by (Some task) is = on (core.events == setup.budget) refl

  -- ---- entries
  -- no entry is overdue
  pub record Ahead (low : ℕ) (core : Core) : Type 0 where
    pub amid : In low core.turns core
    pub ahead : IsAhead date setup.profiles core.turns

  -- and these rows are of the date
  record Left (low : ℕ) (rows : List ℕ) (core : Core) : Type 0 where
    amid : In low core.turns core
    ahead : IsAhead date setup.profiles core.turns
    left : rows_due date setup.profiles core.turns ≡ rows

  left_ahead : (low : ℕ) (rows : List ℕ) (core : Core) → Left low rows core → Ahead low core
  left_ahead low rows core l = record { amid = l.amid; ahead = l.ahead }

  date_stays : (network : Network) (o : Option Entry) (under : Underway) → (applied_if network o under).date ≡ under.date
  date_stays network None under = refl
  date_stays network (Some (entry.Speed host speed)) under = refl
  date_stays network (Some (entry.Bandwidth link bandwidth)) under = refl
  date_stays network (Some (entry.HostOn host on)) under = refl
  date_stays network (Some (entry.LinkOn link on)) under = refl

  module _ (hosts links : ℕ) (are : AreProfiles hosts links setup.profiles) where
    settle_turns : (low : ℕ) (rows : List ℕ) (turns : List Turn) (core : Core) → IsAhead date setup.profiles turns → rows_due date setup.profiles turns ≡ rows → In low turns core → Left low rows core
    settle_turns low rows turns core ahead left a = record {
      amid = record { more = a.more; within = a.within; date = a.date; turns = refl; actors = a.actors };
      ahead = subst (λ (ts : List Turn). IsAhead date setup.profiles ts) (sym a.turns) ahead;
      left = ap (rows_due date setup.profiles) a.turns ∙ left;
    }

    change_goes : (low high row : ℕ) (rest : List ℕ) (core : Core) → high ≤ core.events + 1 → core.events ≢ setup.budget → Left low (row ∷ rest) core → Goes (Left high rest) setup.budget (all_of (entry_stretches setup row) core)
    change_goes low high row rest core le go l =
        goes_so (In high turns) (Left high rest) setup.budget (all_of (entry_stretches setup row) core) (λ c a. settle_turns high rest turns c (ahead_steps hosts links date setup.profiles core.turns row rest are l.left l.ahead) (rows_are_left hosts links date setup.profiles core.turns row rest are l.left) a)
        (goes_two (In high turns) (In high turns) setup.budget (enters_one setup row) (all_fail setup) core (λ c a. a) entered
        (λ mid a. goes_each (In high turns) setup.budget (fails setup) (fail_goes high turns) (hits mid.under) mid a))
      where
        turns : List Turn
        turns = turns_after_row setup.profiles row core.turns

        entered : Goes (In high turns) setup.budget (enters_one setup row core)
        entered = goes_still (In high turns) setup.budget (counted (enters setup row core)) (record {
          more = le;
          within = omega (arith, l.amid.within, go);
          date = date_stays setup.network (entry_at setup.profiles core.turns row) core.under ∙ l.amid.date;
          turns = refl;
          actors = l.amid.actors;
        })

    rows_go : (low : ℕ) (rows : List ℕ) (core : Core) → Left low rows core → Goes (Ahead low) setup.budget (each (changes setup) rows core)
    unfolding each
    rows_go low [] core l = goes_still (Ahead low) setup.budget core (left_ahead low [] core l)
    rows_go low (row ∷ rest) core l = by (core.events == setup.budget) refl (rows_go low rest (all_of (entry_stretches setup row) core).core)
      where
        by : (b : Bool) → (core.events == setup.budget) ≡ b → (Left low rest (all_of (entry_stretches setup row) core).core → Goes (Ahead low) setup.budget (each (changes setup) rest (all_of (entry_stretches setup row) core).core)) →
            Goes (Ahead low) setup.budget (and_then (cond b (stops core [] stop.Budget) (all_of (entry_stretches setup row) core)) (each (changes setup) rest))
        by true e more = goes_used (Ahead low) setup.budget core ((same_or core.events setup.budget).0 e) (left_ahead low (row ∷ rest) core l)
        by false e more =
            goes_then (Left low rest) (Ahead low) setup.budget (all_of (entry_stretches setup row) core) (each (changes setup) rest) (left_ahead low rest) (change_goes low low row rest core (omega (arith, l.amid.more)) ((same_or core.events setup.budget).1 e) l) more

    -- the first is an event
    rows_count : (low high row : ℕ) (rest : List ℕ) (core : Core) → high ≤ core.events + 1 → core.events ≢ setup.budget → Left low (row ∷ rest) core → Goes (Ahead high) setup.budget (each (changes setup) (row ∷ rest) core)
    unfolding each
    rows_count low high row rest core le go l = by (core.events == setup.budget) refl
      where
        by : (b : Bool) → (core.events == setup.budget) ≡ b → Goes (Ahead high) setup.budget (and_then (cond b (stops core [] stop.Budget) (all_of (entry_stretches setup row) core)) (each (changes setup) rest))
        by true e = absurd (go ((same_or core.events setup.budget).0 e))
        by false e =
            (let first = all_of (entry_stretches setup row) core in
            goes_then (Left high rest) (Ahead high) setup.budget first (each (changes setup) rest) (left_ahead high rest) (change_goes low high row rest core le go l) (rows_go high rest first.core))

-- ---- something comes at the next date
back : (b : Bool) (k : ℕ) (l : List ℕ) → cond b (k ∷ l) l ≡ [] → l ≡ []
back true k l z = absurd (cc z)
back false k l z = z

some_due : {X : Type 0} (waits : X → Option ℕ) (n serial : ℕ) (xs : List (Option X)) → soonest waits xs ≡ Some n → serials (λ x. is_over_after (waits x) n) serial xs ≡ [] → ⊥
unfolding soonest serials
some_due waits n serial [] e none = cc e
some_due waits n serial (None ∷ xs) e none = some_due waits n (serial + 1) xs e none
some_due waits n serial (Some x ∷ xs) e none =
    let rest = serials (λ y. is_over_after (waits y) n) (serial + 1) xs in
    elim (sooner_cases (waits x) (soonest waits xs) n e) [
      | inl a ↦ cc (sym (ap (λ b. cond b (serial ∷ rest) rest) (ap (λ w. is_over_after w n) a ∙ same n)) ∙ none)
      | inr b ↦ some_due waits n (serial + 1) xs b (back (is_over_after (waits x) n) serial rest none)
    ]

earlier_cases : (x : ℕ) (other : Option ℕ) (date : ℕ) → earlier_of x other ≡ date → (x ≡ date) ⊎ (other ≡ Some date)
earlier_cases x None date e = inl e
earlier_cases x (Some y) date e = elim (less x y) [ inl h ↦ inl (sym h ∙ e) | inr h ↦ inr (ap (λ k. Some k) (sym h ∙ e)) ]
  where
    less : (x y : ℕ) → (min x y ≡ x) ⊎ (min x y ≡ y)
    less x y = grind arith

some_row : (row date : ℕ) (dates : List (Option ℕ)) → earliest dates ≡ Some date → rows_due_from row date dates ≡ [] → ⊥
unfolding earliest rows_due_from
some_row row date [] e none = cc e
some_row row date (None ∷ dates) e none = some_row (row + 1) date dates e none
some_row row date (Some x ∷ dates) e none =
    let rest = rows_due_from (row + 1) date dates in
    let is : earlier_of x (earliest dates) ≡ date = cc e in
    elim (earlier_cases x (earliest dates) date is) [
      | inl a ↦ cc (sym (ap (λ b. cond b (row ∷ rest) rest) (ap (λ k. k == date) a ∙ same date)) ∙ none)
      | inr b ↦ some_row (row + 1) date dates b (back (x == date) row rest none)
    ]

-- the phase of the first activity id that meets the condition is there
found_there : {X : Type 0} (test : X → Bool) (n serial : ℕ) (xs : List (Option X)) (rest : List ℕ) → serials test n xs ≡ serial ∷ rest → (n ≤ serial) × IsSome (get_or xs (serial - n) None)
unfolding serials
found_there test n serial [] rest e = absurd (cc e)
found_there test n serial (None ∷ xs) rest e =
    let more = found_there test (n + 1) serial xs rest e in
    let place : serial - n ≡ suc (serial - (n + 1)) = omega (arith, more.0) in
    (omega (arith, more.0), ap (λ (k : ℕ). is_some (get_or (None ∷ xs) k None)) place ∙ more.1)
found_there test n serial (Some x ∷ xs) rest e = by (test x) e (found_there test (n + 1) serial xs rest)
  where
    by : (b : Bool) → cond b (n ∷ serials test (n + 1) xs) (serials test (n + 1) xs) ≡ serial ∷ rest → (serials test (n + 1) xs ≡ serial ∷ rest → (n + 1 ≤ serial) × IsSome (get_or xs (serial - (n + 1)) None)) →
        (n ≤ serial) × IsSome (get_or (Some x ∷ xs) (serial - n) None)
    by true here behind =
        (let is : n ≡ serial = cc here in
        let place : serial - n ≡ 0 = omega (arith, is) in
        (omega (arith, is), ap (λ (k : ℕ). is_some (get_or (Some x ∷ xs) k None)) place))
    by false there behind =
        (let more = behind there in
        let place : serial - n ≡ suc (serial - (n + 1)) = omega (arith, more.0) in
        (omega (arith, more.0), ap (λ (k : ℕ). is_some (get_or (Some x ∷ xs) k None)) place ∙ more.1))

later_some : (change : Task → Task) (tasks : List (Option Task)) (place : ℕ) → IsSome (get_or tasks place None) → IsSome (get_or (map (option_map change) tasks) place None)
later_some change [] place e = e
later_some change (None ∷ tasks) zero e = e
later_some change (Some task ∷ tasks) zero e = refl
later_some change (task ∷ tasks) (suc place) e = later_some change tasks place e

-- ---- a time advance
-- what it leaves
pub record Passes (setup : Setup) (before : Core) (step : Step) : Type 0 where
  pub more : before.events ≤ step.core.events
  pub within : step.core.events ≤ setup.budget
  pub actors : Keeps before.actors step.core.actors
  pub ahead : IsAhead step.core.under.date setup.profiles step.core.turns
  pub silent : All TellsNone step.made
  pub used : step.stop ≡ Some stop.Budget → step.core.events ≡ setup.budget
  pub advances : step.stop ≡ None → before.events < step.core.events

module _ (setup : Setup) (hosts links : ℕ) (are : AreProfiles hosts links setup.profiles) (core : Core) (waits : Keeps core.actors core.actors) (within : core.events ≤ setup.budget) (ahead : IsAhead core.under.date setup.profiles core.turns) where
  abbrev now : ℕ
  now = core.under.date

  stopped : (why : Stop) → why ≢ stop.Budget → Passes setup core (stops (settled core) [] why)
  stopped why other = record {
    more = omega arith;
    within = within;
    actors = waits;
    ahead = ahead;
    silent = All-nil TellsNone;
    used = λ e. absurd (other (let is : why ≡ stop.Budget = cc e in is));
    advances = λ e. absurd (cc e);
  }

  spent : core.events ≡ setup.budget → Passes setup core (stops (settled core) [] stop.Budget)
  spent is = record {
    more = omega arith;
    within = within;
    actors = waits;
    ahead = ahead;
    silent = All-nil TellsNone;
    used = λ e. is;
    advances = λ e. absurd (cc e);
  }

  -- it ends amid
  passed_so : (date low : ℕ) (step : Step) → core.events < low → Goes (Ahead setup core.actors date low) setup.budget step → Passes setup core step
  passed_so date low step less g = record {
    more = omega (arith, less, g.holds.amid.more);
    within = g.holds.amid.within;
    actors = g.holds.amid.actors;
    ahead = subst (λ (d : ℕ). IsAhead d setup.profiles step.core.turns) (sym g.holds.amid.date) g.holds.ahead;
    silent = g.silent;
    used = g.used;
    advances = λ e. omega (arith, less, g.holds.amid.more);
  }

  span_gap : (span : ℕ) (entry : Option ℕ) → IfSome entry (IsNear now) → span_to core entry ≡ Some span → entry ≡ Some (now + span)
  span_gap span None near e = absurd (cc e)
  span_gap span (Some next) near e =
      let gap : next - now ≡ span = cc e in
      let there : next ≡ now + span = omega (arith, gap, near.from) in
      ap Some there

  no_later : (a b : Option ℕ) (n : ℕ) → sooner a b ≡ Some n → IfSome b (λ m. n ≤ m)
  no_later a None n e = tt
  no_later None (Some y) n e = let is : y ≡ n = cc e in omega (arith, is)
  no_later (Some x) (Some y) n e = let is : min x y ≡ n = cc e in omega (arith, is)

  up_to : (span : ℕ) (entry : Option ℕ) → IfSome entry (IsNear now) → IfSome (span_to core entry) (λ m. span ≤ m) → IfSome entry (λ next. now + span ≤ next)
  up_to span None near le = tt
  up_to span (Some next) near le = omega (arith, le, near.from)

  next_near : IfSome (next_date setup.profiles core.turns) (IsNear now)
  next_near = next_is_near now setup.profiles core.turns ahead

  module _ (span : ℕ) (next : next_span setup (settled core) ≡ Some span) (go : core.events ≢ setup.budget) where
    abbrev mid : Core
    mid = core_later span (settled core)

    abbrev date : ℕ
    date = now + span

    abbrev rows : List ℕ
    rows = rows_due date setup.profiles core.turns

    abbrev due : List ℕ
    due = due_in span (settled core).under

    later_ahead : IsAhead date setup.profiles core.turns
    later_ahead =
        ahead_moves now date setup.profiles core.turns ahead (omega arith)
        (up_to span (next_date setup.profiles core.turns) next_near (no_later (next_in (settled core).under) (span_to core (next_date setup.profiles core.turns)) span next))

    begun : (its : List ℕ) → rows ≡ its → Left setup core.actors date core.events its mid
    begun its is = record {
      amid = record { more = omega arith; within = within; date = refl; turns = refl; actors = waits };
      ahead = later_ahead;
      left = is;
    }

    abbrev In_at : Core → Core → Type 0
    In_at c other = Amid core.actors setup.budget (core.events + 1) date c.turns other

    with_turns : (turns : List Turn) → IsAhead date setup.profiles turns → (other : Core) → Amid core.actors setup.budget (core.events + 1) date turns other → Ahead setup core.actors date (core.events + 1) other
    with_turns turns is other a = record {
      amid = record { more = a.more; within = a.within; date = a.date; turns = refl; actors = a.actors };
      ahead = subst (λ (ts : List Turn). IsAhead date setup.profiles ts) (sym a.turns) is;
    }

    waiting : (serial : ℕ) (serials : List ℕ) → due ≡ serial ∷ serials → IsSome (task_at mid.under.tasks serial)
    waiting serial others so =
        let there = found_there (λ task. is_over_after (wait_in (settled core).under task) span) 1 serial core.under.tasks others so in
        later_some (passed (settled core).under span) core.under.tasks (serial - 1) there.1

    alone_so : (serial : ℕ) (serials : List ℕ) → due ≡ serial ∷ serials → rows ≡ [] → Goes (Ahead setup core.actors date (core.events + 1)) setup.budget (all_of (each (changes setup) [] ∷ each (ends setup) (serial ∷ serials) ∷ []) mid)
    unfolding each all_of
    alone_so serial others so none =
        goes_on_then (Ahead setup core.actors date (core.events + 1)) setup.budget (goes_on mid []) (all_of (each (ends setup) (serial ∷ others) ∷ [])) refl (All-nil TellsNone)
        (goes_last (Ahead setup core.actors date (core.events + 1)) setup.budget (each (ends setup) (serial ∷ others)) mid
        (goes_so (In_at core) (Ahead setup core.actors date (core.events + 1)) setup.budget (each (ends setup) (serial ∷ others) mid) (with_turns core.turns later_ahead)
        (ends_count setup core.actors date core.events (core.events + 1) core.turns serial others mid (omega arith) go (waiting serial others so) (begun [] none).amid)))

    both_so : (its serials : List ℕ) → rows ≡ its → due ≡ serials → Goes (Ahead setup core.actors date (core.events + 1)) setup.budget (all_of (each (changes setup) its ∷ each (ends setup) serials ∷ []) mid)
    both_so (row ∷ rest) serials is so =
        goes_two (Ahead setup core.actors date (core.events + 1)) (Ahead setup core.actors date (core.events + 1)) setup.budget (each (changes setup) (row ∷ rest)) (each (ends setup) serials) mid (λ c a. a)
        (rows_count setup core.actors date hosts links are core.events (core.events + 1) row rest mid (omega arith) go (begun (row ∷ rest) is))
        (λ c a. goes_so (In_at c) (Ahead setup core.actors date (core.events + 1)) setup.budget (each (ends setup) serials c) (with_turns c.turns a.ahead) (ends_go setup core.actors date (core.events + 1) c.turns serials c a.amid))
    both_so [] (serial ∷ serials) is so = alone_so serial serials so is
    both_so [] [] is so =
        absurd (elim (sooner_cases (next_in (settled core).under) (span_to core (next_date setup.profiles core.turns)) span next) [
          | inl phase ↦ some_due (wait_in (settled core).under) span 1 core.under.tasks phase so
          | inr coming ↦ some_row 0 date (dates_of setup.profiles core.turns) (span_gap span (next_date setup.profiles core.turns) next_near coming) is
        ])

    -- something comes, so that there is an event
    comes_so : Goes (Ahead setup core.actors date (core.events + 1)) setup.budget (all_of (stretches setup span (settled core)) mid)
    comes_so = both_so rows due refl refl

  pub pass_so : Passes setup core (pass_of setup core)
  pass_so = by (next_span setup (settled core)) refl
    where
      running : (b : Bool) → cond b stop.Starved stop.Deadlock ≢ stop.Budget
      running true e = cc e
      running false e = cc e

      spans : (span : ℕ) → next_span setup (settled core) ≡ Some span → (b : Bool) → (core.events == setup.budget) ≡ b → Passes setup core (cond b (stops (settled core) [] stop.Budget) (all_of (stretches setup span (settled core)) (core_later span (settled core))))
      spans span next true e = spent ((same_or core.events setup.budget).0 e)
      spans span next false e = passed_so (now + span) (core.events + 1) _ (omega arith) (comes_so span next ((same_or core.events setup.budget).1 e))

      by : (o : Option ℕ) → next_span setup (settled core) ≡ o → Passes setup core (pass_at setup (settled core) o)
      by None e = stopped (cond (is_running core.under) stop.Starved stop.Deadlock) (running (is_running core.under))
      by (Some span) e = spans span e (core.events == setup.budget) refl
