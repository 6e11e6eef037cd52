-- What a kill records, and in which order.
use Rattle.std.proofs.Common.{◌≡◌, ◌≢◌, ◌⊎◌, ℕ, zero, suc, ◌+◌, ◌-◌, ◌<◌, ◌≤◌, ◌==◌, nat_lt, Bool, true, false, cond, IsTrue, inl, inr, Option, None, Some, List, [], ◌∷◌, ◌++◌, append_assoc, get_or, refl, sym, ap, subst, ◌∙◌, arith}
use Rattle.std.specs.List.{All, Contains}
use Rattle.std.proofs.lemmas.Bool.{cond-false}
use Rattle.std.proofs.lemmas.List.Elements.{All-nil, All-cons, All-append, All-head, All-tail, All-contains_itself}
use Rattle.sg_base.specs.declared.awaits.Await.{Await}
use Rattle.sg_base.specs.declared.awaits.Party.{Party}
use Rattle.sg_base.specs.declared.awaits.Party.TheVariants as party
use Rattle.sg_base.specs.declared.call.Answer.TheVariants as answer
use Rattle.sg_base.specs.declared.call.Call.{Call}
use Rattle.sg_base.specs.declared.call.Call.TheVariants as call
use Rattle.sg_base.specs.declared.ids.ActorId.{ActorId}
use Rattle.sg_base.specs.declared.trace_record.Record.{Record}
use Rattle.sg_mailbox.specs.declared.sides.Side.{Side}
use Rattle.sg_requests.specs.Requested.{rising_numbers_with, rising_numbers}
use Rattle.sg_route.specs.Roads.{Roads}
use Rattle.sg_actor_states.specs.declared.state.Actor.{Actor}
use Rattle.sg_actor_states.specs.declared.state.Blocking.{Blocking}
use Rattle.sg_actor_states.specs.declared.state.State.{State}
use Rattle.sg_actor_states.specs.declared.state.State.TheVariants.{Ready, Blocked, Ended}
use Rattle.sg_actor_states.specs.Actors.{blocking_in, is_alive, is_answered, joiners, joins, not_suspended, put_state, state_at}
use Rattle.sg_actor_states.specs.Records.{record_of}
use Rattle.sg_mailbox.specs.declared.owners.How.{How}
use Rattle.sg_mailbox.specs.declared.owners.How.TheVariants as how
use Rattle.sg_mailbox.specs.declared.owners.Whose.{Whose}
use Rattle.sg_mailbox.specs.declared.owners.Whose.TheVariants.{Over, Alone, Posted, Pair}
use Rattle.sg_kernel_calls.specs.declared.stop.Stop.{Stop}
use Rattle.sg_kernel_calls.specs.declared.stop.Stop.TheVariants.{Budget}
use Rattle.sg_kernel_calls.specs.Answers.{answer_to, answers, answers_by, answers_side, bare_side, finishes, for_receiver, awaits_side, tells_bytes, with_over}
use Rattle.sg_kernel_calls.specs.Calls.{answered}
use Rattle.sg_kernel_calls.specs.Kills.{awaited, blocked_on, gives_up, gives_up_by, kill_done, kill_stretches, kills, withdrawn}
use Rattle.sg_kernel_calls.specs.Lives.{exits, with_actor_ended}
use Rattle.sg_kernel_calls.specs.Locks.{joiners_wake, wakes, wakes_from}
use Rattle.sg_kernel_calls.specs.Steps.{Step, goes_on, stops, counted, follows, and_then, each, all_of, at_once, replied}
use Rattle.sg_kernel_calls.specs.Setup.{Setup}
use Rattle.sg_kernel_calls.specs.World.{Core, MayCall, state_of, whose_at}
use Rattle.sg_kernel_calls.proofs.Each.{all_of-two, each_on, eq_no, eq_yes}
use Rattle.sg_kernel_calls.proofs.Stated.{blocking_is}
use Rattle.sg_kernel_laws.specs.failures.Laws.{TellsOther}
use Rattle.sg_kernel_laws.proofs.failure_lemmas.Killed.{Goes, Since, each_goes, gives_up_tells, joiners_tell, killer_tells, since_withdrawn}
use Rattle.sg_kernel_laws.proofs.failure_lemmas.Others.{entered_all}
use Rattle.sg_kernel_laws.proofs.failure_lemmas.Passed.{Awaits, awaits, put_there, ready_after}
use Rattle.sg_kernel_laws.proofs.actor_lemmas.Kept.{Closed, gives_up_kept, one_made, side_kept}
use Rattle.sg_kernel_laws.proofs.actor_lemmas.Others.{same_state}
use Rattle.sg_engine_laws.proofs.await_lemmas.Answered.{after_both}
use Rattle.sg_engine_laws.proofs.await_lemmas.Awaiting.{put_at}
use Rattle.sg_engine_laws.proofs.await_lemmas.Over.{anything, gives_up_goes, kill_done_goes}
use Rattle.sg_engine_laws.specs.changes.Order.{ExitsTellJoiners, KillsTellInOrder, Rise, TellsInOrder, TellsJoiners, id_in, own_records, serial_before, serial_on}
use Rattle.sg_engine_laws.specs.changes.Told.{IsTold}
use Rattle.sg_engine_laws.proofs.change_lemmas.Tracked.{Tracks, blocked_within, follow_both, quiet, reply_tracks, told_first, told_second}

-- ---- numbers that rise
abbrev pub Rising : List ℕ → Type 0
Rising [] = Unit {0}
Rising (n ∷ more) = All (λ m. n ≤ m) more × Rising more

entered_rises : (n : ℕ) (ns : List ℕ) → Rising ns → Rising (rising_numbers_with n ns)
unfolding rising_numbers_with
entered_rises n [] r = (All-nil (λ m. n ≤ m), tt)
entered_rises n (m ∷ more) r = by (nat_lt n m) (n == m) refl refl (entered_rises n more r.1)
  where
    by : (less same : Bool) → nat_lt n m ≡ less → (n == m) ≡ same → Rising (rising_numbers_with n more) → Rising (cond less (n ∷ m ∷ more) (cond same (m ∷ more) (m ∷ rising_numbers_with n more)))
    by true same is kind rest =
        let below : n ≤ m = grind (arith, is) in
        (All-cons (λ k. n ≤ k) m more below (λ i d within. (let above = r.0 i d within in omega (arith, below, above))), r)
    by false true is kind rest = r
    by false false is kind rest =
        let above : m ≤ n = grind (arith, is) in
        (entered_all (λ k. m ≤ k) n more above r.0, rest)

rising_rises : (ns : List ℕ) → Rising (rising_numbers ns)
unfolding rising_numbers
rising_rises [] = tt
rising_rises (n ∷ more) = entered_rises n (rising_numbers more) (rising_rises more)

-- ---- records that rise
pub rise_append : (number : Record → ℕ) (n : ℕ) (first rest : List Record) → All (λ r. number r ≡ n) first → All (λ r. n ≤ number r) rest → Rise number rest → Rise number (first ++ rest)
rise_append number n [] rest all above rise = rise
rise_append number n (r ∷ first) rest all above rise =
    let P = (λ (q : Record). number q ≡ n) in
    let mine : number r ≡ n = All-head P r first all in
    let others = All-tail P r first all in
    let Q = (λ (q : Record). number r ≤ number q) in
    (All-append Q first rest (λ i d within. (let same = others i d within in omega (arith, mine, same))) (λ i d within. (let more = above i d within in omega (arith, mine, more))), rise_append number n first rest others above rise)

-- if the first continues, the second one follows
then_is : (first : Step) (next : Core → Step) → first.stop ≡ None → and_then first next ≡ record (next first.core) { made = first.made ++ (next first.core).made }
then_is first next on = ap (λ o. follows o first (next first.core)) on

-- what each makes has its number
pub record Numbered {X : Type 0} (key : X → ℕ) (number : Record → ℕ) (xs : List X) (made : List Record) : Type 0 where
  pub rises : Rise number made
  pub above : (low : ℕ) → All (λ x. low ≤ key x) xs → All (λ r. low ≤ number r) made

abbrev pub RiseBy : {X : Type 0} → (X → ℕ) → List X → Type 0
RiseBy key [] = Unit {0}
RiseBy key (x ∷ more) = All (λ other. key x ≤ key other) more × RiseBy key more

each_rises : {X : Type 0} (key : X → ℕ) (number : Record → ℕ) (Is : X → Type 0) (Holds : Core → Type 0) (does : X → Core → Step) → ((x : X) (core : Core) → (does x core).stop ≡ None) → ((x : X) (core : Core) → Is x → Holds core → All (λ r. number r ≡ key x) (does x core).made) → ((x : X) (core : Core) → Is x → Holds core → Holds (does x core).core)
    → (xs : List X) (core : Core) → All Is xs → RiseBy key xs → Holds core → Numbered key number xs (each does xs core).made
unfolding each
each_rises key number Is Holds does on one keeps [] core are rise h = record { rises = tt; above = λ low all. All-nil (λ r. low ≤ number r) }
each_rises key number Is Holds does on one keeps (x ∷ xs) core are rise h =
    let first = does x core in
    let is = All-head Is x xs are in
    let mine = one x core is h in
    let more = each_rises key number Is Holds does on one keeps xs first.core (All-tail Is x xs are) rise.1 (keeps x core is h) in
    let made = ap (λ (s : Step). s.made) (then_is first (each does xs) (on x core)) in
    record {
      rises = subst (Rise number) (sym made) (rise_append number (key x) first.made (each does xs first.core).made mine (more.above (key x) rise.0) more.rises);
      above = λ low all.
          let here = All-head (λ y. low ≤ key y) x xs all in
          subst (All (λ r. low ≤ number r)) (sym made)
          (All-append (λ r. low ≤ number r) first.made (each does xs first.core).made (λ i d within. (let same = mine i d within in omega (arith, here, same))) (more.above low (All-tail (λ y. low ≤ key y) x xs all)));
    }

-- ---- the other endpoints
-- an actor that is blocked was so before
abbrev pub WasBlocked : Core → Core → Type 0
WasBlocked before core = (actor since : ℕ) (what : Call) (on : Option Await) → state_of core actor ≡ Blocked what since on → state_of before actor ≡ Blocked what since on

pub was_closed : (before : Core) → Closed (WasBlocked before) anything
was_closed before = record {
  answered = record { replies = λ actor blocking bytes given core is w. one_made (WasBlocked before) anything _ _ (λ other since what on e. w other since what on (ready_after core.actors actor other since given what on e)) tt };
  over = λ over serial core w. w;
}

-- all are of those that were blocked on the activity with this id
abbrev pub AllOf : Core → ℕ → List Record → Type 0
AllOf before serial made = All (λ r. serial_before before r ≡ serial) made

side_serial : (before : Core) (over : How) (serial : ℕ) (side : Party) (given : Side) (core : Core) → WasBlocked before core → AllOf before serial (answers_side over serial side given core).made
side_serial before over serial side given core was = by (blocking_in (state_of core given.actor.0)) refl
  where
    Q : Record → Type 0
    Q r = serial_before before r ≡ serial

    tested : (blocking : Blocking) → blocking_in (state_of core given.actor.0) ≡ Some blocking → (b : Bool) → awaits_side serial side blocking.on ≡ b →
        All Q (cond b (replied given.actor.0 blocking.what blocking.since (cond (tells_bytes blocking.what) given.bytes 0) (answer_to over blocking.what given.msg) core) (goes_on core [])).made
    tested blocking e true there =
        let at : Awaits serial blocking.on = awaits serial side blocking.on there in
        let old = was given.actor.0 blocking.since blocking.what (Some at.side) (blocking_is (state_of core given.actor.0) blocking e ∙ ap (λ o. Blocked blocking.what blocking.since o) at.is) in
        All-cons Q _ [] (ap (λ x. serial_on (blocked_on (blocking_in x))) old ∙ at.of) (All-nil Q)
    tested blocking e false there = All-nil Q

    by : (found : Option Blocking) → blocking_in (state_of core given.actor.0) ≡ found → All Q (answers_by over serial side given found core).made
    by None e = All-nil Q
    by (Some blocking) e = tested blocking e (awaits_side serial side blocking.on) refl

pub both_all : (Q : Record → Type 0) (first : Step) (next : Core → Step) → All Q first.made → All Q (next first.core).made → All Q (and_then first next).made
both_all Q first next one more = by first.stop
  where
    by : (o : Option Stop) → All Q (follows o first (next first.core)).made
    by None = All-append Q first.made (next first.core).made one more
    by (Some why) = one

pub finish_serial : (before : Core) (over : How) (serial : ℕ) (core : Core) → WasBlocked before core → AllOf before serial (finishes over serial core).made
finish_serial before over serial core was = answered_all (whose_at core serial)
  where
    Q : Record → Type 0
    Q r = serial_before before r ≡ serial

    mid : Core
    mid = with_over over serial core

    answered_all : (w : Whose) → All Q (answers over serial w mid).made
    answered_all (Over how) = All-nil Q
    answered_all (Alone actor) = side_serial before over serial party.Alone (bare_side actor.0) mid was
    answered_all (Posted mailbox sends side) = All-nil Q
    answered_all (Pair sender receiver) =
        let first = answers_side over serial party.Sender sender mid in
        both_all Q first (answers_side over serial party.Receiver (for_receiver sender receiver)) (side_serial before over serial party.Sender sender mid was)
        (side_serial before over serial party.Receiver (for_receiver sender receiver) first.core (side_kept (WasBlocked before) anything (was_closed before).answered over serial party.Sender sender mid was).holds)

give_up_serial : (before : Core) (serial : ℕ) (core : Core) → WasBlocked before core → AllOf before serial (gives_up serial core).made
give_up_serial before serial core was = by (whose_at core serial)
  where
    by : (w : Whose) → AllOf before serial (gives_up_by w serial core).made
    by (Over over) = All-nil _
    by (Alone actor) = finish_serial before how.Failed serial core was
    by (Posted mailbox sends side) = finish_serial before how.Failed serial core was
    by (Pair sender receiver) = finish_serial before how.Failed serial core was

rise_of : (ns : List ℕ) → Rising ns → RiseBy (λ n. n) ns
rise_of [] r = tt
rise_of (n ∷ more) r = (r.0, rise_of more r.1)

sides_rise : (before : Core) (serials : List ℕ) (core : Core) → Rising serials → WasBlocked before core → Rise (serial_before before) (each gives_up serials core).made
sides_rise before serials core rise was =
    (each_rises (λ n. n) (serial_before before) (λ n. Unit {0}) (WasBlocked before) gives_up gives_up_goes (λ serial mid any w. give_up_serial before serial mid w)
    (λ serial mid any w. (gives_up_kept (WasBlocked before) anything (was_closed before) serial mid w).holds) serials core (λ i d within. tt) (rise_of serials rise) was).rises

-- ---- those that joined it
wakes_goes : (actor : ActorId) (core : Core) → (wakes actor core).stop ≡ None
wakes_goes actor core = by (blocking_in (state_of core actor.0))
  where
    by : (o : Option Blocking) → (wakes_from o actor core).stop ≡ None
    by None = refl
    by (Some blocking) = refl

wake_id : (actor : ActorId) (core : Core) → All (λ r. id_in r ≡ actor.0) (wakes actor core).made
wake_id actor core = by (blocking_in (state_of core actor.0))
  where
    Q : Record → Type 0
    Q r = id_in r ≡ actor.0

    by : (o : Option Blocking) → All Q (wakes_from o actor core).made
    by None = All-nil Q
    by (Some blocking) = All-cons Q _ [] refl (All-nil Q)

pub joiners_from : (target id : ℕ) (actors : List Actor) → All (λ (a : ActorId). id ≤ a.0) (joiners target id actors)
unfolding joiners
joiners_from target id [] = All-nil (λ (a : ActorId). id ≤ a.0)
joiners_from target id (actor ∷ rest) = by (joins target actor.state) (λ i d within. (let more = joiners_from target (id + 1) rest i d within in omega (arith, more)))
  where
    P : ActorId → Type 0
    P a = id ≤ a.0

    by : (b : Bool) → All P (joiners target (id + 1) rest) → All P (cond b (record { 0 = id } ∷ joiners target (id + 1) rest) (joiners target (id + 1) rest))
    by true more = All-cons P (record { 0 = id }) (joiners target (id + 1) rest) (omega arith) more
    by false more = more

joiners_rise : (target id : ℕ) (actors : List Actor) → RiseBy (λ (a : ActorId). a.0) (joiners target id actors)
unfolding joiners
joiners_rise target id [] = tt
joiners_rise target id (actor ∷ rest) = by (joins target actor.state) (λ i d within. (let more = joiners_from target (id + 1) rest i d within in omega (arith, more))) (joiners_rise target (id + 1) rest)
  where
    by : (b : Bool) → All (λ (a : ActorId). id ≤ a.0) (joiners target (id + 1) rest) → RiseBy (λ (a : ActorId). a.0) (joiners target (id + 1) rest) → RiseBy (λ (a : ActorId). a.0) (cond b (record { 0 = id } ∷ joiners target (id + 1) rest) (joiners target (id + 1) rest))
    by true above more = (above, more)
    by false above more = more

joins_rise : (target : ℕ) (core : Core) → Rise id_in (joiners_wake target core).made
joins_rise target core =
    (each_rises (λ (a : ActorId). a.0) id_in (λ a. Unit {0}) (λ c. Unit {0}) wakes wakes_goes (λ actor mid any w. wake_id actor mid) (λ actor mid any w. tt) (joiners target 1 core.actors) core (λ i d within. tt) (joiners_rise target 1 core.actors) tt).rises

-- the number is among these
abbrev Among : ℕ → List ActorId → Type 0
Among other [] = ⊥
Among other (a ∷ more) = (a.0 ≡ other) ⊎ Among other more

joiners_among : (target id k other : ℕ) (actors : List Actor) → id + k ≡ other → joins target (get_or actors k (not_suspended Ended)).state ≡ true → Among other (joiners target id actors)
unfolding joiners
joiners_among target id k other [] same is = absurd (cc is)
joiners_among target id zero other (actor ∷ rest) same is = by (joins target actor.state) is
  where
    by : (b : Bool) → b ≡ true → Among other (cond b (record { 0 = id } ∷ joiners target (id + 1) rest) (joiners target (id + 1) rest))
    by true e = inl (omega (arith, same))
    by false e = absurd (cc e)
joiners_among target id (suc k) other (actor ∷ rest) same is = by (joins target actor.state) (joiners_among target (id + 1) k other rest (omega (arith, same)) is)
  where
    by : (b : Bool) → Among other (joiners target (id + 1) rest) → Among other (cond b (record { 0 = id } ∷ joiners target (id + 1) rest) (joiners target (id + 1) rest))
    by true more = inr more
    by false more = more

module _ (other since : ℕ) (what : Call) (from : 0 < other) where
  -- it is blocked so, on no activity
  abbrev Waits : Core → Type 0
  Waits core = state_of core other ≡ Blocked what since None

  abbrev Follows : Core → Step → Type 0
  Follows core step = Tracks other since what None core step

  wake_tracks : (actor : ActorId) (core : Core) → 0 < actor.0 → Follows core (wakes actor core)
  wake_tracks actor core some = by (blocking_in (state_of core actor.0)) refl
    where
      by : (o : Option Blocking) → blocking_in (state_of core actor.0) ≡ o → Follows core (wakes_from o actor core)
      by None e = quiet other since what None core core None refl refl
      by (Some blocking) e = reply_tracks other since what None actor.0 blocking 0 answer.Done core e (λ is on same. omega (arith, same, from, some))

  wakes_track : (actors : List ActorId) (core : Core) → All (λ (a : ActorId). 1 ≤ a.0) actors → Follows core (each wakes actors core)
  unfolding each
  wakes_track [] core all = quiet other since what None core core None refl refl
  wakes_track (actor ∷ rest) core all =
      let P = (λ (a : ActorId). 1 ≤ a.0) in
      let some = All-head P actor rest all in
      follow_both other since what None core (wakes actor core) (each wakes rest) (wake_tracks actor core (omega (arith, some))) (wakes_track rest (wakes actor core).core (All-tail P actor rest all))

  -- one of those that are unblocked has its record
  woken_told : (actor : ActorId) (core : Core) → actor.0 ≡ other → Waits core → IsTold other since what (wakes actor core)
  woken_told actor core same is = by (blocking_in (state_of core actor.0)) refl
    where
      found : blocking_in (state_of core actor.0) ≡ Some (record { what = what; since = since; on = None })
      found = ap (λ n. blocking_in (state_of core n)) same ∙ ap blocking_in is

      by : (o : Option Blocking) → blocking_in (state_of core actor.0) ≡ o → IsTold other since what (wakes_from o actor core)
      by None e = absurd (cc (sym e ∙ found))
      by (Some blocking) e =
          let one : blocking ≡ record { what = what; since = since; on = None } = cc (sym e ∙ found) in
          record {
            given = answer.Done;
            bytes = 0;
            front = [];
            back = [];
            made =
                ap (λ (b : Blocking). record_of actor.0 b.what b.since 0 answer.Done core.under.date ∷ []) one
                ∙ ap (λ (n : ℕ). record_of n what since 0 answer.Done core.under.date ∷ []) same;
            ready = subst (λ (n : ℕ). state_at (put_state core.actors n (Ready answer.Done)) other ≡ Ready answer.Done) (sym same)
                (put_at (λ (s : State). s ≡ Ready answer.Done) core.actors other other (Ready answer.Done) (blocked_within core.actors (other - 1) (record { what = what; since = since; on = None }) (ap blocking_in is)) (λ kind. refl) (λ apart. absurd (apart refl)));
          }

  first_told : (first : Step) (next : Core → Step) → first.stop ≡ None → Follows first.core (next first.core) → IsTold other since what first → IsTold other since what (and_then first next)
  first_told first next on t told = subst (IsTold other since what) (sym (then_is first next on)) (told_first other since what None first (next first.core) t.date t.stays told)

  second_told : (first : Step) (next : Core → Step) → first.stop ≡ None → IsTold other since what (next first.core) → IsTold other since what (and_then first next)
  second_told first next on told = subst (IsTold other since what) (sym (then_is first next on)) (told_second other since what None first (next first.core) told)

  all_told : (actors : List ActorId) (core : Core) → All (λ (a : ActorId). 1 ≤ a.0) actors → Among other actors → Waits core → IsTold other since what (each wakes actors core)
  unfolding each
  all_told [] core all among is = absurd among
  all_told (actor ∷ rest) core all among is = by among (all_told rest (wakes actor core).core (All-tail P actor rest all))
    where
      P : ActorId → Type 0
      P a = 1 ≤ a.0

      goes : (wakes actor core).stop ≡ None
      goes = wakes_goes actor core

      told_now : IsTold other since what (wakes actor core) → IsTold other since what (and_then (wakes actor core) (each wakes rest))
      told_now told = first_told (wakes actor core) (each wakes rest) goes (wakes_track rest (wakes actor core).core (All-tail P actor rest all)) told

      later : (Among other rest → Waits (wakes actor core).core → IsTold other since what (each wakes rest (wakes actor core).core)) → Among other rest → Waits (wakes actor core).core ⊎ IsTold other since what (wakes actor core) → IsTold other since what (and_then (wakes actor core) (each wakes rest))
      later more there (inl still) = second_told (wakes actor core) (each wakes rest) goes (more there still)
      later more there (inr told) = told_now told

      by : Among other (actor ∷ rest) → (Among other rest → Waits (wakes actor core).core → IsTold other since what (each wakes rest (wakes actor core).core)) → IsTold other since what (and_then (wakes actor core) (each wakes rest))
      by (inl same) more = told_now (woken_told actor core same is)
      by (inr there) more = later more there ((wake_tracks actor core (let some = All-head P actor rest all in omega (arith, some))).told is)

  -- ---- what comes before leaves it waiting
  side_waits : (serial : ℕ) (side : Party) (given : Side) (core : Core) → Waits core → Waits (answers_side how.Failed serial side given core).core
  side_waits serial side given core is = by (blocking_in (state_of core given.actor.0)) refl
    where
      tested : (blocking : Blocking) → blocking_in (state_of core given.actor.0) ≡ Some blocking → (b : Bool) → awaits_side serial side blocking.on ≡ b →
          Waits (cond b (replied given.actor.0 blocking.what blocking.since (cond (tells_bytes blocking.what) given.bytes 0) answer.Failed core) (goes_on core [])).core
      tested blocking e true there = put_there (λ (s : State). s ≡ Blocked what since None) core.actors given.actor.0 other (Ready answer.Failed) (λ same. absurd (apart same)) is
        where
          apart : other - 1 ≡ given.actor.0 - 1 → ⊥
          apart same =
              let one : blocking ≡ record { what = what; since = since; on = None } = cc (sym e ∙ ap blocking_in (sym (same_state core.actors other given.actor.0 same)) ∙ ap blocking_in is) in
              absurd (cc (sym there ∙ ap (λ (b : Blocking). awaits_side serial side b.on) one))
      tested blocking e false there = is

      by : (o : Option Blocking) → blocking_in (state_of core given.actor.0) ≡ o → Waits (answers_by how.Failed serial side given o core).core
      by None e = is
      by (Some blocking) e = tested blocking e (awaits_side serial side blocking.on) refl

  give_up_waits : (serial : ℕ) (core : Core) → Waits core → Waits (gives_up serial core).core
  give_up_waits serial core is = by (whose_at core serial)
    where
      mid : Core
      mid = with_over how.Failed serial core

      answered_waits : (w : Whose) → Waits (answers how.Failed serial w mid).core
      answered_waits (Over over) = is
      answered_waits (Alone actor) = side_waits serial party.Alone (bare_side actor.0) mid is
      answered_waits (Posted mailbox sends side) = is
      answered_waits (Pair sender receiver) =
          after_both Waits (answers_side how.Failed serial party.Sender sender mid) (answers_side how.Failed serial party.Receiver (for_receiver sender receiver)) (side_waits serial party.Sender sender mid is)
          (side_waits serial party.Receiver (for_receiver sender receiver) (answers_side how.Failed serial party.Sender sender mid).core)

      by : (w : Whose) → Waits (gives_up_by w serial core).core
      by (Over over) = is
      by (Alone actor) = answered_waits (whose_at core serial)
      by (Posted mailbox sends side) = answered_waits (whose_at core serial)
      by (Pair sender receiver) = answered_waits (whose_at core serial)

  given_up_waits : (serials : List ℕ) (core : Core) → Waits core → Waits (each gives_up serials core).core
  unfolding each
  given_up_waits [] core is = is
  given_up_waits (serial ∷ rest) core is = after_both Waits (gives_up serial core) (each gives_up rest) (give_up_waits serial core is) (given_up_waits rest (gives_up serial core).core)

-- ---- a kill
pub all_of_is : (first : Core → Step) (rest : List (Core → Step)) (core : Core) → (first core).stop ≡ None → all_of (first ∷ rest) core ≡ record (all_of rest (first core).core) { made = (first core).made ++ (all_of rest (first core).core).made }
unfolding all_of
all_of_is first rest core on = then_is (first core) (all_of rest) on

module _ (roads : Roads) (setup : Setup) (core : Core) (actor : ℕ) (target : ActorId) (may : MayCall core actor) where
  abbrev serials : List ℕ
  serials = awaited target core

  abbrev pub start : Core
  start = withdrawn target (counted core)

  abbrev pub own : Step
  own = kill_done actor target start

  abbrev sides : Step
  sides = each gives_up serials own.core

  abbrev woken : Step
  woken = joiners_wake target.0 sides.core

  own_goes : own.stop ≡ None
  own_goes = kill_done_goes actor target start

  sides_go : sides.stop ≡ None
  sides_go = each_on gives_up gives_up_goes serials own.core

  killed_is : all_of (kill_stretches actor target serials) start ≡ record woken { made = own.made ++ (sides.made ++ woken.made) }
  killed_is =
      all_of_is (kill_done actor target) (each gives_up serials ∷ joiners_wake target.0 ∷ []) start own_goes
      ∙ ap (λ (s : Step). record s { made = own.made ++ s.made }) (all_of-two (each gives_up serials) (joiners_wake target.0) own.core ∙ then_is sides (joiners_wake target.0) sides_go)

  own_is : own.made ≡ own_records actor target core
  own_is = by (actor == target.0)
    where
      by : (b : Bool) → (cond b (goes_on start []) (at_once actor (call.Kill target) 0 answer.Done start)).made ≡ cond b [] (record_of actor (call.Kill target) core.under.date 0 answer.Done core.under.date ∷ [])
      by true = refl
      by false = refl

  since_start : Since target core start
  since_start = since_withdrawn target core (core.events + 1)

  since_own : Since target core own.core
  since_own = (killer_tells actor target core start since_start).since

  side_goes : Goes (TellsOther target core) target core sides
  side_goes = each_goes (TellsOther target core) target core (Contains serials) gives_up (gives_up_tells target core) serials own.core (All-contains_itself serials) since_own

  pub own_waits : (other since : ℕ) (what : Call) (on : Option Await) → other - 1 ≢ target.0 - 1 → state_of core other ≡ Blocked what since on → state_of own.core other ≡ Blocked what since on
  own_waits other since what on apart is = by (actor == target.0)
    where
      left : state_of start other ≡ Blocked what since on
      left = put_there (λ (s : State). s ≡ Blocked what since on) core.actors target.0 other Ended (λ same. absurd (apart same)) is

      calls : other - 1 ≡ actor - 1 → ⊥
      calls same = absurd (cc (sym may.ready ∙ ap is_answered (sym (same_state core.actors other actor same)) ∙ ap is_answered is))

      by : (b : Bool) → state_of (cond b (goes_on start []) (at_once actor (call.Kill target) 0 answer.Done start)).core other ≡ Blocked what since on
      by true = left
      by false = put_there (λ (s : State). s ≡ Blocked what since on) start.actors actor other (Ready answer.Done) (λ same. absurd (calls same)) left

  joiner_told : (other since : ℕ) → 0 < other → other - 1 ≢ target.0 - 1 → state_of core other ≡ Blocked (call.Join target) since None → IsTold other since (call.Join target) woken
  joiner_told other since from apart is =
      let now = given_up_waits other since (call.Join target) from serials own.core (own_waits other since (call.Join target) None apart is) in
      let there : joins target.0 (state_of sides.core other) ≡ true = ap (joins target.0) now ∙ eq_yes target.0 target.0 refl in
      let place : 1 + (other - 1) ≡ other = omega (arith, from) in
      all_told other since (call.Join target) from (joiners target.0 1 sides.core.actors) sides.core (joiners_from target.0 1 sides.core.actors) (joiners_among target.0 1 (other - 1) other sides.core.actors place there) now

  in_order : TellsInOrder actor target core (all_of (kill_stretches actor target serials) start)
  in_order = record {
    sides = sides.made;
    joins = woken.made;
    made = ap (λ (s : Step). s.made) killed_is ∙ ap (λ (ms : List Record). ms ++ (sides.made ++ woken.made)) own_is;
    others = side_goes.told;
    by_serial = sides_rise core serials own.core (rising_rises _) (λ other since what on e. (since_own.blocked other since what on e).0);
    joiners = (joiners_tell target core sides.core side_goes.since).told;
    by_id = joins_rise target.0 sides.core;
    told = λ other since from apart is.
        let told = joiner_told other since from apart is in
        subst (IsTold other since (call.Join target)) (sym killed_is)
        (record { given = told.given; bytes = told.bytes; front = own.made ++ (sides.made ++ told.front); back = told.back; made = more (record_of other (call.Join target) since told.bytes told.given woken.core.under.date) told.front told.back told.made; ready = told.ready });
  }
    where
      more : (r : Record) (front back : List Record) → woken.made ≡ front ++ r ∷ back → own.made ++ (sides.made ++ woken.made) ≡ (own.made ++ (sides.made ++ front)) ++ r ∷ back
      more r front back e =
          ap (λ (ms : List Record). own.made ++ (sides.made ++ ms)) e
          ∙ ap (λ (ms : List Record). own.made ++ ms) (sym (append_assoc sides.made front (r ∷ back)))
          ∙ sym (append_assoc own.made (sides.made ++ front) (r ∷ back))

pub kill_is : (roads : Roads) (setup : Setup) (core : Core) (actor : ℕ) (target : ActorId) → IsTrue (is_alive (state_of core target.0)) → core.events ≢ setup.budget →
    answered roads setup core actor (call.Kill target) ≡ all_of (kill_stretches actor target (awaited target core)) (withdrawn target (counted core))
kill_is roads setup core actor target alive left =
    let ends = all_of (kill_stretches actor target (awaited target core)) (withdrawn target (counted core)) in
    let stays = at_once actor (call.Kill target) 0 answer.Done (counted core) in
    cond-false (core.events == setup.budget) (stops core [] Budget) (kills actor target (counted core)) (eq_no core.events setup.budget left) ∙ ap (λ b. cond b ends stays) alive

pub kills_tell_in_order : KillsTellInOrder
kills_tell_in_order roads setup core actor target may alive left = subst (TellsInOrder actor target core) (sym (kill_is roads setup core actor target alive left)) (in_order roads setup core actor target may)

-- ---- an exit
exit_tells : (core : Core) (actor : ℕ) → TellsJoiners actor core (exits actor (counted core))
exit_tells core actor = record {
  joiners = (joiners_tell leaver core (with_actor_ended actor (counted core)) since_leaves).told;
  by_id = joins_rise actor (with_actor_ended actor (counted core));
  told = λ other since from apart is.
      let gone = with_actor_ended actor (counted core) in
      let now : state_of gone other ≡ Blocked (call.Join (record { 0 = actor })) since None = put_there (λ (s : State). s ≡ Blocked (call.Join (record { 0 = actor })) since None) core.actors actor other Ended (λ same. absurd (apart same)) is in
      let there : joins actor (state_of gone other) ≡ true = ap (joins actor) now ∙ eq_yes actor actor refl in
      let place : 1 + (other - 1) ≡ other = omega (arith, from) in
      all_told other since (call.Join (record { 0 = actor })) from (joiners actor 1 gone.actors) gone (joiners_from actor 1 gone.actors) (joiners_among actor 1 (other - 1) other gone.actors place there) now;
}
  where
    leaver : ActorId
    leaver = record { 0 = actor }

    since_leaves : Since leaver core (with_actor_ended actor (counted core))
    since_leaves = (let s = since_withdrawn leaver core (core.events + 1) in record { blocked = s.blocked; goes = s.goes; alone = s.alone })

pub exits_tell_joiners : ExitsTellJoiners
exits_tell_joiners roads setup core actor left =
    subst (TellsJoiners actor core) (sym (cond-false (core.events == setup.budget) (stops core [] Budget) (exits actor (counted core)) (eq_no core.events setup.budget left))) (exit_tells core actor)
