-- Whoever is blocked on what a killed actor awaits has its record.
use Rattle.std.proofs.Common.{◌≡◌, ◌≢◌, ◌⊎◌, ℕ, ◌-◌, ◌<◌, ◌≤◌, true, inl, inr, Option, None, Some, List, [], ◌∷◌, ◌++◌, refl, sym, ap, subst, ◌∙◌, arith}
use Rattle.std.specs.List.{All, Contains}
use Rattle.std.proofs.lemmas.List.Elements.{All-nil, All-cons, All-head, All-tail}
use Rattle.sg_base.specs.declared.awaits.Await.{Await}
use Rattle.sg_base.specs.declared.awaits.Party.{Party}
use Rattle.sg_base.specs.declared.awaits.Party.TheVariants as party
use Rattle.sg_base.specs.declared.call.Answer.TheVariants as answer
use Rattle.sg_base.specs.declared.call.Call.{Call}
use Rattle.sg_base.specs.declared.call.Call.TheVariants as call
use Rattle.sg_base.specs.declared.ids.ActorId.{ActorId}
use Rattle.sg_mailbox.specs.declared.sides.Side.{Side}
use Rattle.sg_route.specs.Roads.{roads_of}
use Rattle.sg_actor_states.specs.declared.state.Blocking.{Blocking}
use Rattle.sg_actor_states.specs.declared.state.State.TheVariants.{Blocked}
use Rattle.sg_actor_states.specs.Actors.{blocking_in, joiners}
use Rattle.sg_mailbox.specs.declared.owners.How.TheVariants as how
use Rattle.sg_mailbox.specs.declared.owners.Whose.{Whose}
use Rattle.sg_mailbox.specs.declared.owners.Whose.TheVariants.{Over, Alone, Posted, Pair}
use Rattle.sg_kernel_calls.specs.Answers.{finishes, with_over}
use Rattle.sg_kernel_calls.specs.Calls.{answered}
use Rattle.sg_kernel_calls.specs.Kills.{awaited, gives_up, gives_up_by, kill_done, kill_stretches, withdrawn}
use Rattle.sg_kernel_calls.specs.Locks.{joiners_wake, wakes, wakes_from}
use Rattle.sg_kernel_calls.specs.Steps.{Step, all_of, and_then, counted, each}
use Rattle.sg_kernel_calls.specs.World.{Core, state_of, whose_at}
use Rattle.sg_kernel_calls.proofs.Each.{all_of-two, each_on}
use Rattle.sg_kernel_laws.specs.failures.Laws.{is_side}
use Rattle.sg_kernel_laws.proofs.failure_lemmas.Called.{calls_tell}
use Rattle.sg_kernel_laws.proofs.failure_lemmas.Passed.{set_there}
use Rattle.sg_kernel_laws.proofs.actor_lemmas.Kept.{Closed, answers_kept, each_kept, gives_up_kept, joiners_kept}
use Rattle.sg_engine_laws.proofs.await_lemmas.Over.{IsGone, anything, core_after, gives_up_goes, gone_replying, is_over, kill_done_goes, over_there}
use Rattle.sg_engine_laws.specs.changes.Theirs.{PartOf}
use Rattle.sg_engine_laws.specs.changes.Told.{IsTold, KillsReach, setup_in}
use Rattle.sg_engine_laws.proofs.change_lemmas.CalledParts.{Belongs, Dying, awaited_belong, dying_next, dying_own, parts_answered}
use Rattle.sg_engine_laws.proofs.change_lemmas.Order.{all_of_is, joiners_from, kill_is, own_waits}
use Rattle.sg_engine_laws.proofs.change_lemmas.Reached.{awaited_are_drawn, nobody_waits_for_over, run_parts}
use Rattle.sg_engine_laws.proofs.change_lemmas.Theirs.{IsPart, Nobody, TakePart}
use Rattle.sg_engine_laws.proofs.change_lemmas.Tracked.{Tracks, finish_tracks, follow_both, quiet, reply_tracks, told_second}

-- what holds of all holds of one
contained : (P : ℕ → Type 0) (ns : List ℕ) (n : ℕ) → Contains ns n → All P ns → P n
contained P ns n c all = subst P c.2 (all c.0 n c.1)

sides_differ : (other : ℕ) (side : Party) (sender receiver : Side) → PartOf other (Pair sender receiver) side → is_side other side (Pair sender receiver) ≡ true
sides_differ other party.Alone sender receiver part = absurd part
sides_differ other party.Sender sender receiver part = grind (arith, part)
sides_differ other party.Receiver sender receiver part = grind (arith, part)

-- two that take part in one activity are the endpoints of a communication
both_take_part : (other target : ℕ) (side : Party) (w : Whose) → other ≢ target → PartOf other w side → (is_over w ≡ true) ⊎ ((mine : Party) × PartOf target w mine) → is_side other side w ≡ true
both_take_part other target side (Over before) apart part theirs = absurd part
both_take_part other target side (Alone owner) apart part (inl over) = absurd (cc over)
both_take_part other target side (Alone owner) apart part (inr theirs) = absurd (apart (sym part.1 ∙ theirs.1.1))
both_take_part other target side (Posted mailbox sends one) apart part (inl over) = absurd (cc over)
both_take_part other target side (Posted mailbox sends one) apart part (inr theirs) = absurd (apart (sym part.1 ∙ theirs.1.1))
both_take_part other target side (Pair sender receiver) apart part theirs = sides_differ other side sender receiver part

-- ---- what was given up has ended
gone_closed : (serial : ℕ) → Closed (IsGone serial) anything
gone_closed serial = record {
  answered = gone_replying serial;
  over = λ over other core gone. set_there (λ (w : Whose). is_over w ≡ true) core.whose (other - 1) (serial - 1) (Over over) (Over how.Done) (λ same. refl) gone;
}

given_up_gone : (serial : ℕ) (core : Core) → IsGone serial (gives_up serial core).core
given_up_gone serial core = by (whose_at core serial) refl
  where
    finished : IsGone serial (finishes how.Failed serial core).core
    finished = (answers_kept (IsGone serial) anything (gone_replying serial) how.Failed serial (whose_at core serial) (with_over how.Failed serial core) (over_there core.whose (serial - 1) how.Failed)).holds

    by : (w : Whose) → whose_at core serial ≡ w → IsGone serial (gives_up_by w serial core).core
    by (Over over) e = ap is_over e
    by (Alone owner) e = finished
    by (Posted mailbox sends side) e = finished
    by (Pair sender receiver) e = finished

all_gone : (serials : List ℕ) (core : Core) → All (λ n. IsGone n (each gives_up serials core).core) serials
unfolding each
all_gone [] core = All-nil (λ n. IsGone n core)
all_gone (serial ∷ rest) core =
    let first = gives_up serial core in
    let P = (λ (c : Core) (n : ℕ). IsGone n c) in
    let after = each gives_up rest first.core in
    let is = core_after first (each gives_up rest) (gives_up_goes serial core) in
    subst (λ (c : Core). All (P c) (serial ∷ rest)) (sym is)
    (All-cons (P after.core) serial rest (each_kept (IsGone serial) anything gives_up (gives_up_kept (IsGone serial) anything (gone_closed serial)) rest first.core (given_up_gone serial core)).holds (all_gone rest first.core))

none_over : (actor : ℕ) (w : Whose) (side : Party) → is_over w ≡ true → PartOf actor w side → ⊥
none_over actor (Over before) side over part = part
none_over actor (Alone owner) side over part = absurd (cc over)
none_over actor (Posted mailbox sends other) side over part = absurd (cc over)
none_over actor (Pair sender receiver) side over part = absurd (cc over)

-- ---- who is blocked is so still, or has its record
module _ (other since : ℕ) (called : Call) (on : Option Await) (some : 0 < other) where
  abbrev Follows : Core → Step → Type 0
  Follows core step = Tracks other since called on core step

  give_up_tracks : (serial : ℕ) (core : Core) → TakePart Nobody core → Follows core (gives_up serial core)
  give_up_tracks serial core p = by (whose_at core serial)
    where
      finished : Follows core (finishes how.Failed serial core)
      finished = finish_tracks other since called on how.Failed serial core some p

      by : (w : Whose) → Follows core (gives_up_by w serial core)
      by (Over over) = quiet other since called on core core None refl refl
      by (Alone owner) = finished
      by (Posted mailbox sends side) = finished
      by (Pair sender receiver) = finished

  given_up_tracks : (dead : ℕ) (serials : List ℕ) (core : Core) → Dying dead serials core → Follows core (each gives_up serials core)
  unfolding each
  given_up_tracks dead [] core d = quiet other since called on core core None refl refl
  given_up_tracks dead (serial ∷ rest) core d =
      follow_both other since called on core (gives_up serial core) (each gives_up rest) (give_up_tracks serial core d.parts) (given_up_tracks dead rest (gives_up serial core).core (dying_next dead serial rest core d))

  wake_tracks : (actor : ActorId) (core : Core) → 1 ≤ actor.0 → Follows core (wakes actor core)
  wake_tracks actor core from = by (blocking_in (state_of core actor.0)) refl
    where
      by : (o : Option Blocking) → blocking_in (state_of core actor.0) ≡ o → Follows core (wakes_from o actor core)
      by None e = quiet other since called on core core None refl refl
      by (Some blocking) e = reply_tracks other since called on actor.0 blocking 0 answer.Done core e (λ is kind same. omega (arith, same, from, some))

  wakes_track : (actors : List ActorId) (core : Core) → All (λ (a : ActorId). 1 ≤ a.0) actors → Follows core (each wakes actors core)
  unfolding each
  wakes_track [] core all = quiet other since called on core core None refl refl
  wakes_track (actor ∷ rest) core all =
      let P = (λ (a : ActorId). 1 ≤ a.0) in
      follow_both other since called on core (wakes actor core) (each wakes rest) (wake_tracks actor core (All-head P actor rest all)) (wakes_track rest (wakes actor core).core (All-tail P actor rest all))

pub kills_reach : KillsReach
kills_reach run core of_run actor target may from alive left other since called on some apart blocked awaits = record {
  fails =
      (calls_tell (roads_of run.platform) (setup_in run) core actor (call.Kill target)).reaches target refl alive may left other since called on
      (record {
        apart = places;
        blocked = blocked;
        side = both_take_part other target.0 on.party (whose_at core on.serial.0) apart (nobody_waits_for_over run core of_run other since called on some blocked) belongs.1;
        awaits = awaits;
        drawn = awaited_are_drawn run core of_run target from;
      });
  told = subst (IsTold other since called) (sym is) (by (tracks.told waiting));
}
  where
    places : other - 1 ≡ target.0 - 1 → ⊥
    places same = apart (omega (arith, same, from, some))

    parts : TakePart Nobody core
    parts = run_parts run core of_run

    belongs : Belongs target.0 core.whose on.serial.0
    belongs = contained (Belongs target.0 core.whose) (awaited target core) on.serial.0 awaits (awaited_belong target.0 target core from refl parts)

    killed : Step
    killed = all_of (kill_stretches actor target (awaited target core)) (withdrawn target (counted core))

    is : answered (roads_of run.platform) (setup_in run) core actor (call.Kill target) ≡ killed
    is = kill_is (roads_of run.platform) (setup_in run) core actor target alive left

    first : Step
    first = kill_done actor target (withdrawn target (counted core))

    given_up : Step
    given_up = each gives_up (awaited target core) first.core

    rest : Step
    rest = and_then given_up (joiners_wake target.0)

    dying : Dying target.0 (awaited target core) first.core
    dying = dying_own target.0 actor target (counted core) from refl parts

    tracks : Tracks other since called (Some on) first.core rest
    tracks =
        follow_both other since called (Some on) first.core given_up (joiners_wake target.0) (given_up_tracks other since called (Some on) some target.0 (awaited target core) first.core dying)
        (wakes_track other since called (Some on) some (joiners target.0 1 given_up.core.actors) given_up.core (joiners_from target.0 1 given_up.core.actors))

    waiting : state_of first.core other ≡ Blocked called since (Some on)
    waiting = own_waits (roads_of run.platform) (setup_in run) core actor target may other since called (Some on) places blocked

    rest_goes : given_up.stop ≡ None
    rest_goes = each_on gives_up gives_up_goes (awaited target core) first.core

    made_of : killed ≡ record rest { made = first.made ++ rest.made }
    made_of =
        all_of_is (kill_done actor target) (each gives_up (awaited target core) ∷ joiners_wake target.0 ∷ []) (withdrawn target (counted core)) (kill_done_goes actor target (withdrawn target (counted core)))
        ∙ ap (λ (s : Step). record s { made = first.made ++ s.made }) (all_of-two (each gives_up (awaited target core)) (joiners_wake target.0) first.core)

    gone : IsGone on.serial.0 rest.core
    gone =
        subst (λ (c : Core). IsGone on.serial.0 c) (sym (core_after given_up (joiners_wake target.0) rest_goes))
        (joiners_kept (IsGone on.serial.0) anything (gone_replying on.serial.0) target.0 given_up.core (contained (λ n. IsGone n given_up.core) (awaited target core) on.serial.0 awaits (all_gone (awaited target core) first.core))).holds

    later : TakePart Nobody rest.core
    later = subst (λ (s : Step). TakePart Nobody s.core) (is ∙ made_of) (parts_answered (roads_of run.platform) (setup_in run) core actor (call.Kill target) may.from parts)

    still : IsPart rest.core.whose other on ⊎ ⊥ → ⊥
    still (inl part) = none_over other (whose_at rest.core on.serial.0) on.party gone part.part
    still (inr none) = none

    by : (state_of rest.core other ≡ Blocked called since (Some on)) ⊎ IsTold other since called rest → IsTold other since called killed
    by (inl stays) = absurd (still (later.waits other since called on some stays))
    by (inr told) = subst (IsTold other since called) (sym made_of) (told_second other since called (Some on) first rest told)
