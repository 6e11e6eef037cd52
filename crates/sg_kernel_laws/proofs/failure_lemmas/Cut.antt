-- Which activities fail in a time advance, and which complete.
use Rattle.std.proofs.Common.{◌≡◌, ◌≢◌, ◌⊎◌, ℕ, zero, suc, ◌+◌, ◌-◌, ◌<◌, ◌==◌, ◌&&◌, ◌||◌, not, Bool, true, false, true≢false, cond, inl, inr, Option, None, Some, option_map, is_some, List, [], ◌∷◌, ◌++◌, length, map, set, get_or, refl, sym, ap, ap₂, subst, ◌∙◌, arith}
use Rattle.std.specs.Prelude.{IsSome}
use Rattle.std.specs.List.{list_any}
use Rattle.std.proofs.lemmas.Bool.{cases_lt, or_parts, or_right}
use Rattle.std.proofs.lemmas.List.{get_or-set_same, get_or-set_other, get_or_past}
use Rattle.sg_activity_table.specs.declared.kinds.PhaseKind.{PhaseKind}
use Rattle.sg_activity_table.specs.declared.kinds.PhaseKind.TheVariants as phase
use Rattle.sg_activity_table.specs.Slots.{is_over_after, passes, serials}
use Rattle.sg_activity.specs.Links.{Switches}
use Rattle.sg_activity.specs.Task.{Task, is_hit, next_phase, phase_after, task_at}
use Rattle.sg_activity.specs.Underway.{Underway, due_in, hits, passed, wait_in}
use Rattle.sg_profile.specs.declared.entry.Entry.{Entry}
use Rattle.sg_profile.specs.declared.entry.Entry.TheVariants as entry
use Rattle.sg_profile.specs.declared.turn.Turn.{Turn}
use Rattle.sg_profile.specs.Profiles.{entry_at, rows_due, turns_after_row}
use Rattle.sg_platform_rows.specs.declared.network.Network.{Network}
use Rattle.sg_mailbox.specs.declared.owners.How.{How}
use Rattle.sg_mailbox.specs.declared.owners.How.TheVariants as how
use Rattle.sg_mailbox.specs.declared.owners.Whose.{Whose}
use Rattle.sg_mailbox.specs.declared.owners.Whose.TheVariants.{Over, Alone, Posted, Pair}
use Rattle.sg_kernel_calls.specs.declared.stop.Stop.{Stop}
use Rattle.sg_kernel_calls.specs.declared.stop.Stop.TheVariants.{Budget}
use Rattle.sg_base.specs.declared.awaits.Party.{Party}
use Rattle.sg_base.specs.declared.awaits.Party.TheVariants as party
use Rattle.sg_mailbox.specs.declared.sides.Side.{Side}
use Rattle.sg_actor_states.specs.declared.state.Blocking.{Blocking}
use Rattle.sg_actor_states.specs.Actors.{blocking_in}
use Rattle.sg_kernel_calls.specs.Answers.{answers, answers_by, answers_side, bare_side, finishes, for_receiver, awaits_side, with_over}
use Rattle.sg_kernel.specs.Passes.{all_fail, applied_if, changes, core_later, ends, ends_by, ends_in, ends_one, enters_one, entry_stretches, fails, pass_at, settled, stretches}
use Rattle.sg_kernel_calls.specs.Steps.{Step, stops, counted, follows, and_then, each, all_of}
use Rattle.sg_kernel_calls.specs.Setup.{Setup}
use Rattle.sg_kernel_calls.specs.World.{Core, state_of, whose_at}
use Rattle.sg_kernel_calls.proofs.Each.{all_of-two}
use Rattle.sg_kernel.proofs.Skips.{finishes_leaves, none_there}
use Rattle.sg_kernel_laws.specs.failures.Cut.{EndsBy, TimeAdvancesFailWhatIsOff, is_cut_in, is_done_in, is_last, over_in, switched, switches_behind}
use Rattle.sg_kernel_laws.specs.failures.Laws.{is_over}
use Rattle.sg_kernel_laws.proofs.failure_lemmas.Passed.{entry_leaves}

-- ---- one is among these ids; the place of an activity is one below its id
abbrev pub has : ℕ → List ℕ → Bool
has place ks = list_any (λ k. (k - 1) == place) ks

-- it is among them no more than once
abbrev Rest : ℕ → Bool → List ℕ → Type 0 → Type 0
Rest place true ks more = has place ks ≡ false
Rest place false ks more = more

unfoldable Once : ℕ → List ℕ → Type 0
Once place [] = Unit {0}
Once place (k ∷ ks) = Rest place ((k - 1) == place) ks (Once place ks)

module _ {X : Type 0} (test : X → Bool) where
  has_none : (n place : ℕ) (xs : List (Option X)) → place < n → has place (serials test (n + 1) xs) ≡ false
  unfolding serials
  has_none n place [] below = refl
  has_none n place (x ∷ xs) below = by (passes test x) (has_none (n + 1) place xs (omega (arith, below)))
    where
      apart : ((n + 1 - 1) == place) ≡ false
      apart = let is : n + 1 - 1 ≡ n = omega arith in grind (arith, below, is)

      by : (b : Bool) → has place (serials test (n + 1 + 1) xs) ≡ false → has place (cond b ((n + 1) ∷ serials test (n + 1 + 1) xs) (serials test (n + 1 + 1) xs)) ≡ false
      by true rest = ap (λ (b : Bool). b || has place (serials test (n + 1 + 1) xs)) apart ∙ rest
      by false rest = rest

  has_passing : (n place i : ℕ) (xs : List (Option X)) → place ≡ n + i → has place (serials test (n + 1) xs) ≡ passes test (get_or xs i None)
  unfolding serials
  has_passing n place i [] is = refl
  has_passing n place zero (x ∷ xs) is = by (passes test x)
    where
      here : ((n + 1 - 1) == place) ≡ true
      here = let e : n + 1 - 1 ≡ place = omega (arith, is) in grind (arith, e)

      rest : has place (serials test (n + 1 + 1) xs) ≡ false
      rest = has_none (n + 1) place xs (omega (arith, is))

      by : (b : Bool) → has place (cond b ((n + 1) ∷ serials test (n + 1 + 1) xs) (serials test (n + 1 + 1) xs)) ≡ b
      by true = ap (λ (b : Bool). b || has place (serials test (n + 1 + 1) xs)) here
      by false = rest
  has_passing n place (suc i) (x ∷ xs) is = by (passes test x) (has_passing (n + 1) place i xs (omega (arith, is)))
    where
      apart : ((n + 1 - 1) == place) ≡ false
      apart = let e : n + 1 - 1 < place = omega (arith, is) in grind (arith, e)

      by : (b : Bool) → has place (serials test (n + 1 + 1) xs) ≡ passes test (get_or xs i None) → has place (cond b ((n + 1) ∷ serials test (n + 1 + 1) xs) (serials test (n + 1 + 1) xs)) ≡ passes test (get_or xs i None)
      by true rest = ap (λ (b : Bool). b || has place (serials test (n + 1 + 1) xs)) apart ∙ rest
      by false rest = rest

  once : (n place : ℕ) (xs : List (Option X)) → Once place (serials test (n + 1) xs)
  unfolding serials Once
  once n place [] = tt
  once n place (x ∷ xs) = by (passes test x) (once (n + 1) place xs)
    where
      here : (b : Bool) → ((n + 1 - 1) == place) ≡ b → Once place (serials test (n + 1 + 1) xs) → Rest place b (serials test (n + 1 + 1) xs) (Once place (serials test (n + 1 + 1) xs))
      here true is more = has_none (n + 1) place xs (let e : n + 1 - 1 ≡ place = grind (arith, is) in omega (arith, e))
      here false is more = more

      by : (b : Bool) → Once place (serials test (n + 1 + 1) xs) → Once place (cond b ((n + 1) ∷ serials test (n + 1 + 1) xs) (serials test (n + 1 + 1) xs))
      by true more = here ((n + 1 - 1) == place) refl more
      by false more = more

-- ---- answers leave whose the activities are, and how far the profiles
abbrev Same : Core → Core → Type 0
Same core later = (later.whose ≡ core.whose) × (later.turns ≡ core.turns)

by_leaves : (over : How) (serial : ℕ) (side : Party) (given : Side) (blocking : Option Blocking) (core : Core) → Same core (answers_by over serial side given blocking core).core
by_leaves over serial side given None core = (refl, refl)
by_leaves over serial side given (Some blocking) core = cases (awaits_side serial side blocking.on) _ _ (refl, refl) (refl, refl)
  where
    cases : (b : Bool) (one other : Step) → Same core one.core → Same core other.core → Same core (cond b one other).core
    cases true one other e f = e
    cases false one other e f = f

side_leaves : (over : How) (serial : ℕ) (side : Party) (given : Side) (core : Core) → Same core (answers_side over serial side given core).core
side_leaves over serial side given core = by_leaves over serial side given (blocking_in (state_of core given.actor.0)) core

answers_leave : (over : How) (serial : ℕ) (whose : Whose) (core : Core) → Same core (answers over serial whose core).core
answers_leave over serial (Over before) core = (refl, refl)
answers_leave over serial (Alone actor) core = side_leaves over serial party.Alone (bare_side actor.0) core
answers_leave over serial (Posted mailbox sends side) core = (refl, refl)
answers_leave over serial (Pair sender receiver) core = by (answers_side over serial party.Sender sender core).stop
  where
    first : Step
    first = answers_side over serial party.Sender sender core

    by : (o : Option Stop) → Same core (follows o first (answers_side over serial party.Receiver (for_receiver sender receiver) first.core)).core
    by None =
        (let one = side_leaves over serial party.Sender sender core in
        let two = side_leaves over serial party.Receiver (for_receiver sender receiver) first.core in
        (two.0 ∙ one.0, two.1 ∙ one.1))
    by (Some why) = side_leaves over serial party.Sender sender core

pub finishes_mark : (over : How) (serial : ℕ) (core : Core) → (finishes over serial core).core.whose ≡ set core.whose (serial - 1) (Over over)
finishes_mark over serial core = (answers_leave over serial (whose_at core serial) (with_over over serial core)).0

-- what isn't done there is among them
pub within : (whose : List Whose) (place : ℕ) (w : Whose) → get_or whose place (Over how.Done) ≡ w → w ≢ Over how.Done → place < length whose
within whose place w is other = elim (cases_lt place (length whose)) [
  | inl less ↦ less
  | inr past ↦ absurd (other (sym is ∙ get_or_past whose place (Over how.Done) past))
]

-- ---- one activity, within a time advance
module _ (setup : Setup) (place : ℕ) (was : Whose) (task : Option Task) (alive : was ≢ Over how.Done) where
  -- it failed, or is as it was
  abbrev Now : Bool → Core → Type 0
  Now true core = (get_or core.whose place (Over how.Done) ≡ Over how.Failed) × (get_or core.under.tasks place None ≡ None)
  Now false core = (get_or core.whose place (Over how.Done) ≡ was) × (get_or core.under.tasks place None ≡ task)

  now_within : (b : Bool) (core : Core) → Now b core → place < length core.whose
  now_within true core n = within core.whose place (Over how.Failed) n.0 (λ e. cc e)
  now_within false core n = within core.whose place was n.0 alive

  -- after a step it is as the second says, or the step was stopped and it is as before
  abbrev Comes : Bool → Bool → Step → Type 0
  Comes b c step = Now c step.core ⊎ (IsSome step.stop × Now b step.core)

  -- the step leaves these
  abbrev Leaves : List Turn → Switches → Step → Type 0
  Leaves turns on step = (step.core.turns ≡ turns) × (step.core.under.on ≡ on)

  -- ---- failures
  failed : (k : ℕ) (b : Bool) (core : Core) → Now b core → Now (b || ((k - 1) == place)) (finishes how.Failed k (counted core)).core
  failed k b core n = by ((k - 1) == place) refl
    where
      after : Core
      after = (finishes how.Failed k (counted core)).core

      whose : after.whose ≡ set core.whose (k - 1) (Over how.Failed)
      whose = finishes_mark how.Failed k (counted core)

      tasks : after.under.tasks ≡ set core.under.tasks (k - 1) None
      tasks = ap (λ (u : Underway). u.tasks) (finishes_leaves how.Failed k (counted core))

      fails_here : k - 1 ≡ place → Now true after
      fails_here same = (
        ap (λ (w : List Whose). get_or w place (Over how.Done)) whose ∙ ap (λ (i : ℕ). get_or (set core.whose i (Over how.Failed)) place (Over how.Done)) same ∙ get_or-set_same core.whose place (Over how.Failed) (Over how.Done) (now_within b core n),
        ap (λ (ts : List (Option Task)). get_or ts place None) tasks ∙ ap (λ (i : ℕ). get_or (set core.under.tasks i None) place None) same ∙ none_there core.under.tasks place,
      )

      other : (c : Bool) → (place ≡ k - 1 → ⊥) → Now c core → Now c after
      other true apart m = (
        ap (λ (w : List Whose). get_or w place (Over how.Done)) whose ∙ get_or-set_other core.whose (k - 1) place (Over how.Failed) (Over how.Done) apart ∙ m.0,
        ap (λ (ts : List (Option Task)). get_or ts place None) tasks ∙ get_or-set_other core.under.tasks (k - 1) place None None apart ∙ m.1,
      )
      other false apart m = (
        ap (λ (w : List Whose). get_or w place (Over how.Done)) whose ∙ get_or-set_other core.whose (k - 1) place (Over how.Failed) (Over how.Done) apart ∙ m.0,
        ap (λ (ts : List (Option Task)). get_or ts place None) tasks ∙ get_or-set_other core.under.tasks (k - 1) place None None apart ∙ m.1,
      )

      by : (c : Bool) → ((k - 1) == place) ≡ c → Now (b || c) after
      by true is = subst (λ (d : Bool). Now d after) (sym (or_right b true refl)) (fails_here (grind (arith, is)))
      by false is = (let apart : place ≡ k - 1 → ⊥ = (λ same. grind (arith, is, same)) in
          subst (λ (d : Bool). Now d after) (same_or b) (other b apart n))
        where
          same_or : (d : Bool) → d ≡ (d || false)
          same_or true = refl
          same_or false = refl

  -- ---- one step behind another
  same_or : (d : Bool) → d ≡ (d || false)
  same_or true = refl
  same_or false = refl

  stopped_so : (b h r : Bool) (step : Step) → IsSome step.stop → Now (b || h) step.core → Comes b (b || (h || r)) step
  stopped_so true h r step stop n = inl n
  stopped_so false true r step stop n = inl n
  stopped_so false false r step stop n = inr (stop, n)

  goes_so : (b h r : Bool) (step : Step) → Comes (b || h) ((b || h) || r) step → Comes b (b || (h || r)) step
  goes_so true h r step c = c
  goes_so false true r step (inl n) = inl n
  goes_so false true r step (inr s) = inl s.1
  goes_so false false r step c = c

  chain : (b h r : Bool) (first second : Step) (o : Option Stop) → first.stop ≡ o → Comes b (b || h) first → (first.stop ≡ None → Now (b || h) first.core → Comes (b || h) ((b || h) || r) second) → Comes b (b || (h || r)) (follows o first second)
  chain b h r first second None e (inl n) more = goes_so b h r (record second { made = first.made ++ second.made }) (more e n)
  chain b h r first second None e (inr s) more = absurd (true≢false (sym s.0 ∙ ap is_some e))
  chain b h r first second (Some why) e (inl n) more = stopped_so b h r first (ap is_some e) n
  chain b h r first second (Some why) e (inr s) more = inr s

  one_fails : (k : ℕ) (b : Bool) (core : Core) → Now b core → Comes b (b || ((k - 1) == place)) (fails setup k core)
  one_fails k b core n = by (core.events == setup.budget)
    where
      by : (c : Bool) → Comes b (b || ((k - 1) == place)) (cond c (stops core [] Budget) (finishes how.Failed k (counted core)))
      by true = inr (refl, n)
      by false = inl (failed k b core n)

  all_failed : (ks : List ℕ) (b : Bool) (core : Core) → Now b core → Comes b (b || has place ks) (each (fails setup) ks core)
  unfolding each
  all_failed [] b core n = inl (subst (λ (d : Bool). Now d core) (same_or b) n)
  all_failed (k ∷ ks) b core n =
      let first = fails setup k core in
      chain b ((k - 1) == place) (has place ks) first (each (fails setup) ks first.core) first.stop refl (one_fails k b core n) (λ on m. all_failed ks (b || ((k - 1) == place)) first.core m)

  -- how far the profiles are, and what is on
  abbrev Stays : Core → Core → Type 0
  Stays core later = (later.turns ≡ core.turns) × (later.under.on ≡ core.under.on)

  fail_stays : (k : ℕ) (core : Core) → Stays core (fails setup k core).core
  fail_stays k core = by (core.events == setup.budget)
    where
      by : (c : Bool) → Stays core (cond c (stops core [] Budget) (finishes how.Failed k (counted core))).core
      by true = (refl, refl)
      by false = ((answers_leave how.Failed k (whose_at (counted core) k) (with_over how.Failed k (counted core))).1, ap (λ (u : Underway). u.on) (finishes_leaves how.Failed k (counted core)))

  all_stay : (ks : List ℕ) (core : Core) → Stays core (each (fails setup) ks core).core
  unfolding each
  all_stay [] core = (refl, refl)
  all_stay (k ∷ ks) core = by (fails setup k core).stop (all_stay ks (fails setup k core).core)
    where
      first : Step
      first = fails setup k core

      by : (o : Option Stop) → Stays first.core (each (fails setup) ks first.core).core → Stays core (follows o first (each (fails setup) ks first.core)).core
      by None more = (let one = fail_stays k core in (more.0 ∙ one.0, more.1 ∙ one.1))
      by (Some why) more = fail_stays k core

  -- ---- entries
  abbrev cut : Switches → Bool
  cut on = passes (is_hit on) task

  hits_are : (b : Bool) (core : Core) → Now b core → (b || has place (hits core.under)) ≡ (b || cut core.under.on)
  hits_are true core n = refl
  hits_are false core n = has_passing (is_hit core.under.on) 0 place place core.under.tasks (omega arith) ∙ ap (passes (is_hit core.under.on)) n.1

  switched_so : (network : Network) (o : Option Entry) (under : Underway) → (applied_if network o under).on ≡ switched o under.on
  switched_so network None under = refl
  switched_so network (Some (entry.Speed host speed)) under = refl
  switched_so network (Some (entry.Bandwidth link bandwidth)) under = refl
  switched_so network (Some (entry.HostOn host on)) under = refl
  switched_so network (Some (entry.LinkOn link on)) under = refl

  entered : (row : ℕ) (b : Bool) (core : Core) → Now b core → Now b (enters_one setup row core).core
  entered row true core n = (n.0, ap (λ (ts : List (Option Task)). get_or ts place None) (entry_leaves setup.network (entry_at setup.profiles core.turns row) core.under) ∙ n.1)
  entered row false core n = (n.0, ap (λ (ts : List (Option Task)). get_or ts place None) (entry_leaves setup.network (entry_at setup.profiles core.turns row) core.under) ∙ n.1)

  abbrev now_on : ℕ → Core → Switches
  now_on row core = switched (entry_at setup.profiles core.turns row) core.under.on

  one_changes : (row : ℕ) (b : Bool) (core : Core) → Now b core → Comes b (b || cut (now_on row core)) (changes setup row core)
  one_changes row b core n = by (core.events == setup.budget)
    where
      mid : Core
      mid = (enters_one setup row core).core

      is : (b || has place (hits mid.under)) ≡ (b || cut (now_on row core))
      is = hits_are b mid (entered row b core n) ∙ ap (λ (on : Switches). b || cut on) (switched_so setup.network (entry_at setup.profiles core.turns row) core.under)

      comes : Comes b (b || cut (now_on row core)) (and_then (enters_one setup row core) (all_fail setup))
      comes = subst (λ (d : Bool). Comes b d (and_then (enters_one setup row core) (all_fail setup))) is (all_failed (hits mid.under) b mid (entered row b core n))

      by : (c : Bool) → Comes b (b || cut (now_on row core)) (cond c (stops core [] Budget) (all_of (entry_stretches setup row) core))
      by true = inr (refl, n)
      by false = subst (Comes b (b || cut (now_on row core))) (sym (all_of-two (enters_one setup row) (all_fail setup) core)) comes

  -- a row that isn't stopped leaves the profiles and what is on so
  one_switches : (row : ℕ) (core : Core) → (changes setup row core).stop ≡ None → ((changes setup row core).core.turns ≡ turns_after_row setup.profiles row core.turns) × ((changes setup row core).core.under.on ≡ now_on row core)
  one_switches row core = by (core.events == setup.budget)
    where
      mid : Core
      mid = (enters_one setup row core).core

      Goal : Step → Type 0
      Goal step = step.stop ≡ None → (step.core.turns ≡ turns_after_row setup.profiles row core.turns) × (step.core.under.on ≡ now_on row core)

      goes : Goal (and_then (enters_one setup row core) (all_fail setup))
      goes on = (let s = all_stay (hits mid.under) mid in (s.0, s.1 ∙ switched_so setup.network (entry_at setup.profiles core.turns row) core.under))

      by : (c : Bool) → Goal (cond c (stops core [] Budget) (all_of (entry_stretches setup row) core))
      by true = λ on. absurd (cc on)
      by false = subst Goal (sym (all_of-two (enters_one setup row) (all_fail setup) core)) goes

  all_changed : (rows : List ℕ) (turns : List Turn) (on : Switches) (b : Bool) (core : Core) → core.turns ≡ turns → core.under.on ≡ on → Now b core → Comes b (b || list_any cut (switches_behind setup rows turns on)) (each (changes setup) rows core)
  unfolding each switches_behind
  all_changed [] turns on b core far lit n = inl (subst (λ (d : Bool). Now d core) (same_or b) n)
  all_changed (row ∷ rows) turns on b core far lit n =
      let first = changes setup row core in
      let next = switched (entry_at setup.profiles turns row) on in
      let is : now_on row core ≡ next = ap₂ (λ (ts : List Turn) (o : Switches). switched (entry_at setup.profiles ts row) o) far lit in
      chain b (cut next) (list_any cut (switches_behind setup rows (turns_after_row setup.profiles row turns) next)) first (each (changes setup) rows first.core) first.stop refl
      (subst (λ (o : Switches). Comes b (b || cut o) first) is (one_changes row b core n))
      (λ goes m. all_changed rows (turns_after_row setup.profiles row turns) next (b || cut next) first.core
      ((one_switches row core goes).0 ∙ ap (turns_after_row setup.profiles row) far) ((one_switches row core goes).1 ∙ is) m)

  -- ---- ends of phases
  abbrev whose_now : Core → Whose
  whose_now core = get_or core.whose place (Over how.Done)

  other_whose : (k : ℕ) (core : Core) → ((k - 1) == place) ≡ false → whose_now (ends setup k core).core ≡ whose_now core
  other_whose k core is = by (task_at core.under.tasks k)
    where
      apart : place ≡ k - 1 → ⊥
      apart same = grind (arith, is, same)

      next : (after : Option Task) → whose_now (ends_in k after (counted core)).core ≡ whose_now core
      next None = ap (λ (w : List Whose). get_or w place (Over how.Done)) (finishes_mark how.Done k (counted core)) ∙ get_or-set_other core.whose (k - 1) place (Over how.Done) (Over how.Done) apart
      next (Some more) = refl

      on : (c : Bool) → whose_now (cond c (stops core [] Budget) (ends_one k core)).core ≡ whose_now core
      on true = refl
      on false = next (phase_after (task_at core.under.tasks k))

      by : (o : Option Task) → whose_now (ends_by setup k o core).core ≡ whose_now core
      by None = refl
      by (Some its) = on (core.events == setup.budget)

  other_task : (k : ℕ) (core : Core) → ((k - 1) == place) ≡ false → get_or (ends setup k core).core.under.tasks place None ≡ get_or core.under.tasks place None
  other_task k core is = by (task_at core.under.tasks k)
    where
      apart : place ≡ k - 1 → ⊥
      apart same = grind (arith, is, same)

      next : (after : Option Task) → get_or (ends_in k after (counted core)).core.under.tasks place None ≡ get_or core.under.tasks place None
      next None = ap (λ (u : Underway). get_or u.tasks place None) (finishes_leaves how.Done k (counted core)) ∙ get_or-set_other core.under.tasks (k - 1) place None None apart
      next (Some more) = get_or-set_other core.under.tasks (k - 1) place (Some more) None apart

      on : (c : Bool) → get_or (cond c (stops core [] Budget) (ends_one k core)).core.under.tasks place None ≡ get_or core.under.tasks place None
      on true = refl
      on false = next (phase_after (task_at core.under.tasks k))

      by : (o : Option Task) → get_or (ends_by setup k o core).core.under.tasks place None ≡ get_or core.under.tasks place None
      by None = refl
      by (Some its) = on (core.events == setup.budget)

  -- where none of these is of it
  untouched : (ks : List ℕ) (core : Core) → has place ks ≡ false → whose_now (each (ends setup) ks core).core ≡ whose_now core
  unfolding each
  untouched [] core none = refl
  untouched (k ∷ ks) core none = by (ends setup k core).stop (untouched ks (ends setup k core).core)
    where
      first : Step
      first = ends setup k core

      parts : (((k - 1) == place) ≡ false) × (has place ks ≡ false)
      parts = or_parts ((k - 1) == place) (has place ks) none

      by : (o : Option Stop) → (has place ks ≡ false → whose_now (each (ends setup) ks first.core).core ≡ whose_now first.core) → whose_now (follows o first (each (ends setup) ks first.core)).core ≡ whose_now core
      by None more = more parts.1 ∙ other_whose k core parts.0
      by (Some why) more = other_whose k core parts.0

  -- what failed is passed over
  gone_one : (k : ℕ) (core : Core) → Now true core → Now true (ends setup k core).core
  gone_one k core n = by ((k - 1) == place) refl
    where
      there : task_at core.under.tasks k ≡ None → Now true (ends setup k core).core
      there none = subst (λ (o : Option Task). Now true (ends_by setup k o core).core) (sym none) n

      by : (c : Bool) → ((k - 1) == place) ≡ c → Now true (ends setup k core).core
      by true is = (let same : k - 1 ≡ place = grind (arith, is) in there (ap (λ (i : ℕ). get_or core.under.tasks i None) same ∙ n.1))
      by false is = (other_whose k core is ∙ n.0, other_task k core is ∙ n.1)

  gone : (ks : List ℕ) (core : Core) → Now true core → Now true (each (ends setup) ks core).core
  unfolding each
  gone [] core n = n
  gone (k ∷ ks) core n = by (ends setup k core).stop (gone ks (ends setup k core).core (gone_one k core n))
    where
      first : Step
      first = ends setup k core

      by : (o : Option Stop) → Now true (each (ends setup) ks first.core).core → Now true (follows o first (each (ends setup) ks first.core)).core
      by None more = more
      by (Some why) more = gone_one k core n

  -- it is done, or is as it was
  abbrev Ended : Bool → Step → Type 0
  Ended done step = (whose_now step.core ≡ cond done (Over how.Done) was) ⊎ (IsSome step.stop × (whose_now step.core ≡ was))

  one_end : (k : ℕ) (core : Core) → k - 1 ≡ place → Now false core → Ended (passes is_last task) (ends setup k core)
  one_end k core same n = by (task_at core.under.tasks k) refl
    where
      its_is : task_at core.under.tasks k ≡ task
      its_is = ap (λ (i : ℕ). get_or core.under.tasks i None) same ∙ n.1

      last_is : (its : Task) (after : Option Task) → task_at core.under.tasks k ≡ Some its → phase_after (task_at core.under.tasks k) ≡ after → passes is_last task ≡ not (is_some after)
      last_is its after e f = ap (passes is_last) (sym its_is ∙ e) ∙ ap (λ (o : Option Task). not (is_some (phase_after o))) (sym e) ∙ ap (λ (o : Option Task). not (is_some o)) f

      next : (its : Task) (after : Option Task) → task_at core.under.tasks k ≡ Some its → phase_after (task_at core.under.tasks k) ≡ after → Ended (passes is_last task) (ends_in k after (counted core))
      next its None e f =
          inl (ap (λ (w : List Whose). get_or w place (Over how.Done)) (finishes_mark how.Done k (counted core)) ∙ ap (λ (i : ℕ). get_or (set core.whose i (Over how.Done)) place (Over how.Done)) same
          ∙ get_or-set_same core.whose place (Over how.Done) (Over how.Done) (now_within false core n) ∙ ap (λ (b : Bool). cond b (Over how.Done) was) (sym (last_is its None e f)))
      next its (Some more) e f = inl (n.0 ∙ ap (λ (b : Bool). cond b (Over how.Done) was) (sym (last_is its (Some more) e f)))

      on : (its : Task) → task_at core.under.tasks k ≡ Some its → (c : Bool) → Ended (passes is_last task) (cond c (stops core [] Budget) (ends_one k core))
      on its e true = inr (refl, n.0)
      on its e false = next its (phase_after (task_at core.under.tasks k)) e refl

      by : (o : Option Task) → task_at core.under.tasks k ≡ o → Ended (passes is_last task) (ends_by setup k o core)
      by None e = inl (n.0 ∙ ap (λ (o : Option Task). cond (passes is_last o) (Over how.Done) was) (sym e ∙ its_is))
      by (Some its) e = on its e (core.events == setup.budget)

  all_end : (ks : List ℕ) (core : Core) → Once place ks → Now false core → Ended (has place ks && passes is_last task) (each (ends setup) ks core)
  unfolding each Once
  all_end [] core single n = inl n.0
  all_end (k ∷ ks) core single n = by ((k - 1) == place) refl single (all_end ks)
    where
      first : Step
      first = ends setup k core

      behind : has place ks ≡ false → (o : Option Stop) → first.stop ≡ o → Ended (passes is_last task) first → Ended (passes is_last task) (follows o first (each (ends setup) ks first.core))
      behind none None e (inl m) = inl (untouched ks first.core none ∙ m)
      behind none None e (inr s) = absurd (true≢false (sym s.0 ∙ ap is_some e))
      behind none (Some why) e m = m

      later : (o : Option Stop) → first.stop ≡ o → Now false first.core → Ended (has place ks && passes is_last task) (each (ends setup) ks first.core) → Ended (has place ks && passes is_last task) (follows o first (each (ends setup) ks first.core))
      later None e m more = more
      later (Some why) e m more = inr (ap is_some e, m.0)

      by : (c : Bool) → ((k - 1) == place) ≡ c → Rest place c ks (Once place ks) → ((mid : Core) → Once place ks → Now false mid → Ended (has place ks && passes is_last task) (each (ends setup) ks mid)) →
          Ended ((c || has place ks) && passes is_last task) (follows first.stop first (each (ends setup) ks first.core))
      by true is none more = behind none first.stop refl (one_end k core (grind (arith, is)) n)
      by false is single more = (let m : Now false first.core = (other_whose k core is ∙ n.0, other_task k core is ∙ n.1) in later first.stop refl m (more first.core single m))

  -- ---- a time advance
  abbrev Left : Bool → Bool → Whose
  Left true done = Over how.Failed
  Left false true = Over how.Done
  Left false false = was

  abbrev Passes : Bool → Bool → Step → Type 0
  Passes fails done step = (whose_now step.core ≡ Left fails done) ⊎ (IsSome step.stop × (whose_now step.core ≡ was))

  ended_passes : (done : Bool) (step : Step) → Ended done step → Passes false done step
  ended_passes true step e = e
  ended_passes false step e = e

  both_pass : (c : Bool) (ks : List ℕ) (first : Step) (o : Option Stop) → first.stop ≡ o → Once place ks → Comes false c first → Passes c (has place ks && passes is_last task) (follows o first (each (ends setup) ks first.core))
  both_pass true ks first None e single (inl n) = inl (gone ks first.core n).0
  both_pass false ks first None e single (inl n) = ended_passes (has place ks && passes is_last task) (each (ends setup) ks first.core) (all_end ks first.core single n)
  both_pass c ks first None e single (inr s) = absurd (true≢false (sym s.0 ∙ ap is_some e))
  both_pass true ks first (Some why) e single (inl n) = inl n.0
  both_pass false ks first (Some why) e single (inl n) = inr (ap is_some e, n.0)
  both_pass c ks first (Some why) e single (inr s) = inr (s.0, s.1.0)

-- ---- what time leaves
mapped : {X Y : Type 0} (f : X → Y) (xs : List (Option X)) (i : ℕ) → get_or (map (option_map f) xs) i None ≡ option_map f (get_or xs i None)
mapped f [] i = refl
mapped f (x ∷ xs) zero = refl
mapped f (x ∷ xs) (suc i) = mapped f xs i

cut_still : (under : Underway) (span : ℕ) (all : List Switches) (o : Option Task) → list_any (λ on. passes (is_hit on) (option_map (passed under span) o)) all ≡ list_any (λ on. passes (is_hit on) o) all
cut_still under span all None = refl
cut_still under span all (Some task) = refl

kind_last : (kind : PhaseKind) (one other : Task) → not (is_some (next_phase kind one)) ≡ not (is_some (next_phase kind other))
kind_last phase.Exec one other = refl
kind_last phase.Timer one other = refl
kind_last phase.Latency one other = refl
kind_last phase.Flow one other = refl
kind_last phase.Kept one other = refl

last_still : (under : Underway) (span : ℕ) (o : Option Task) → passes is_last (option_map (passed under span) o) ≡ passes is_last o
last_still under span None = refl
last_still under span (Some task) = kind_last task.kind (passed under span task) task

-- ---- the law
told : (was : Whose) (live : is_over was ≡ false) (serial : ℕ) (c d : Bool) (step : Step) → (whose_at step.core serial ≡ cond c (Over how.Failed) (cond d (Over how.Done) was)) ⊎ (IsSome step.stop × (whose_at step.core serial ≡ was)) → EndsBy (cond c (Some how.Failed) (cond d (Some how.Done) None)) serial step
told was live serial c d step found = by c d found
  where
    never : (over : How) → was ≡ Over over → ⊥
    never over e = true≢false (sym (ap is_over e) ∙ live)

    stopped : IsSome step.stop → step.stop ≡ None → ⊥
    stopped some none = true≢false (sym some ∙ ap is_some none)

    by : (c d : Bool) → (whose_at step.core serial ≡ cond c (Over how.Failed) (cond d (Over how.Done) was)) ⊎ (IsSome step.stop × (whose_at step.core serial ≡ was)) → EndsBy (cond c (Some how.Failed) (cond d (Some how.Done) None)) serial step
    by true d (inl m) = record { so = λ over e on. m ∙ cc e; only = λ over e. cc (sym m ∙ e) }
    by true d (inr s) = record { so = λ over e on. absurd (stopped s.0 on); only = λ over e. absurd (never over (sym s.1 ∙ e)) }
    by false true (inl m) = record { so = λ over e on. m ∙ cc e; only = λ over e. cc (sym m ∙ e) }
    by false true (inr s) = record { so = λ over e on. absurd (stopped s.0 on); only = λ over e. absurd (never over (sym s.1 ∙ e)) }
    by false false (inl m) = record { so = λ over e on. absurd (cc e); only = λ over e. absurd (never over (sym m ∙ e)) }
    by false false (inr s) = record { so = λ over e on. absurd (stopped s.0 on); only = λ over e. absurd (never over (sym s.1 ∙ e)) }

date_so : (setup : Setup) (core : Core) (span serial : ℕ) → 0 < serial → is_over (whose_at core serial) ≡ false → EndsBy (over_in setup span core serial) serial (pass_at setup core (Some span))
date_so setup core span serial from live = by (core.events == setup.budget)
  where
    was : Whose
    was = whose_at core serial

    task : Option Task
    task = task_at core.under.tasks serial

    moved : Core
    moved = core_later span core

    rows : List ℕ
    rows = rows_due (core.under.date + span) setup.profiles core.turns

    fails_so : Bool
    fails_so = is_cut_in setup span core task

    ends_so : Bool
    ends_so = is_done_in span core.under task

    alive : was ≢ Over how.Done
    alive e = true≢false (sym (ap is_over e) ∙ live)

    then_task : Option Task
    then_task = option_map (passed core.under span) task

    is_due : Task → Bool
    is_due its = is_over_after (wait_in core.under its) span

    changed : Step
    changed = each (changes setup) rows moved

    passes_so : Passes setup (serial - 1) was then_task alive (is_cut_in setup span core then_task) (has (serial - 1) (due_in span core.under) && passes is_last then_task) (follows changed.stop changed (each (ends setup) (due_in span core.under) changed.core))
    passes_so =
        both_pass setup (serial - 1) was then_task alive (is_cut_in setup span core then_task) (due_in span core.under) changed changed.stop refl (once is_due 0 (serial - 1) core.under.tasks)
        (all_changed setup (serial - 1) was then_task alive rows core.turns core.under.on false moved refl refl (refl, mapped (passed core.under span) core.under.tasks (serial - 1)))

    fails_is : is_cut_in setup span core then_task ≡ fails_so
    fails_is = cut_still core.under span _ task

    ends_is : (has (serial - 1) (due_in span core.under) && passes is_last then_task) ≡ ends_so
    ends_is = ap₂ (λ (a b : Bool). a && b) (has_passing is_due 0 (serial - 1) (serial - 1) core.under.tasks (omega arith)) (last_still core.under span task)

    as_left : (c d : Bool) → Left setup (serial - 1) was then_task alive c d ≡ cond c (Over how.Failed) (cond d (Over how.Done) was)
    as_left true d = refl
    as_left false true = refl
    as_left false false = refl

    Found : Bool → Bool → Step → Type 0
    Found c d step = (whose_at step.core serial ≡ cond c (Over how.Failed) (cond d (Over how.Done) was)) ⊎ (IsSome step.stop × (whose_at step.core serial ≡ was))

    found_by : (c d : Bool) (step : Step) → Passes setup (serial - 1) was then_task alive c d step → Found c d step
    found_by c d step (inl m) = inl (m ∙ as_left c d)
    found_by c d step (inr s) = inr s

    whole : Step
    whole = and_then changed (each (ends setup) (due_in span core.under))

    found : Found fails_so ends_so whole
    found =
        subst (λ (d : Bool). Found fails_so d whole) ends_is
        (subst (λ (c : Bool). Found c (has (serial - 1) (due_in span core.under) && passes is_last then_task) whole) fails_is (found_by _ _ whole passes_so))

    by : (b : Bool) → EndsBy (over_in setup span core serial) serial (cond b (stops core [] Budget) (all_of (stretches setup span core) moved))
    by true = told was live serial fails_so ends_so (stops core [] Budget) (inr (refl, refl))
    by false =
        subst (EndsBy (over_in setup span core serial) serial) (sym (all_of-two (each (changes setup) rows) (each (ends setup) (due_in span core.under)) moved))
        (told was live serial fails_so ends_so whole found)

pub time_advances_fail_what_is_off : TimeAdvancesFailWhatIsOff
time_advances_fail_what_is_off setup core span serial next from live =
    subst (λ (o : Option ℕ). EndsBy (over_in setup span (settled core) serial) serial (pass_at setup (settled core) o)) (sym next) (date_so setup (settled core) span serial from live)
