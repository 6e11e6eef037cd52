-- The other endpoints of what a killed actor awaited are answered.
use Rattle.std.proofs.Common.{◌≡◌, ◌≢◌, ℕ, ◌-◌, ◌<◌, ◌==◌, ◌&&◌, Bool, true, false, cond, Option, None, Some, List, [], ◌∷◌, ◌++◌, get_or, inl, inr, refl, sym, ap, subst, ◌∙◌, arith, append_assoc}
use Rattle.std.specs.List.{All, Contains}
use Rattle.std.proofs.lemmas.Bool.{cases_eq}
use Rattle.std.proofs.lemmas.List.{get_or-set_other}
use Rattle.std.proofs.lemmas.List.Elements.{All-head, All-tail}
use Rattle.std.proofs.lemmas.Map.Made.{Contains-tail}
use Rattle.sg_base.specs.declared.awaits.Await.{Await}
use Rattle.sg_base.specs.declared.awaits.Party.{Party}
use Rattle.sg_base.specs.declared.awaits.Party.TheVariants as party
use Rattle.sg_base.specs.declared.call.Answer.TheVariants as answer
use Rattle.sg_base.specs.declared.call.Call.{Call}
use Rattle.sg_base.specs.declared.call.Call.TheVariants as call
use Rattle.sg_base.specs.declared.ids.ActorId.{ActorId}
use Rattle.sg_base.specs.declared.trace_record.Record.{Record}
use Rattle.sg_mailbox.specs.declared.sides.Side.{Side}
use Rattle.sg_actor_states.specs.declared.state.Blocking.{Blocking}
use Rattle.sg_actor_states.specs.declared.state.State.TheVariants.{Ready, Blocked, Ended}
use Rattle.sg_actor_states.specs.Actors.{blocking_in, is_alive, is_answered, not_suspended}
use Rattle.sg_actor_states.specs.Records.{record_of}
use Rattle.sg_mailbox.specs.declared.owners.How.TheVariants as how
use Rattle.sg_mailbox.specs.declared.owners.Whose.{Whose}
use Rattle.sg_mailbox.specs.declared.owners.Whose.TheVariants.{Over, Alone, Posted, Pair}
use Rattle.sg_kernel_calls.specs.declared.stop.Stop.{Stop}
use Rattle.sg_kernel_calls.specs.Answers.{answers, answers_by, answers_side, bare_side, for_receiver, awaits_side, party_eq, tells_bytes, with_over}
use Rattle.sg_kernel_calls.specs.Kills.{awaited, gives_up, gives_up_by, kill_done, kill_stretches, kills, withdrawn}
use Rattle.sg_kernel_calls.specs.Locks.{joiners_wake}
use Rattle.sg_kernel_calls.specs.Steps.{Step, goes_on, counted, follows, and_then, each, all_of, at_once, replied}
use Rattle.sg_kernel_calls.specs.World.{Core, MayCall, state_of, whose_at}
use Rattle.sg_kernel_calls.proofs.Each.{eq_no, eq_yes}
use Rattle.sg_kernel_calls.proofs.Finishes.{answers_side_goes, finishes_goes}
use Rattle.sg_kernel_laws.specs.failures.Laws.{IsOtherSide, TellsCaller, is_side}
use Rattle.sg_kernel_laws.proofs.failure_lemmas.Passed.{put_there}

-- ---- records among others
told_before : (actor : ℕ) (what : Call) (made more : List Record) → TellsCaller actor what made → TellsCaller actor what (made ++ more)
told_before actor what made more t = record {
  before = t.before;
  own = t.own;
  after = t.after ++ more;
  among = ap (λ (m : List Record). m ++ more) t.among ∙ append_assoc t.before (t.own ∷ t.after) more;
  caller = t.caller;
  call = t.call;
  fails = t.fails;
}

told_after : (actor : ℕ) (what : Call) (less made : List Record) → TellsCaller actor what made → TellsCaller actor what (less ++ made)
told_after actor what less made t = record {
  before = less ++ t.before;
  own = t.own;
  after = t.after;
  among = ap (λ (m : List Record). less ++ m) t.among ∙ sym (append_assoc less t.before (t.own ∷ t.after));
  caller = t.caller;
  call = t.call;
  fails = t.fails;
}

told_first : (actor : ℕ) (what : Call) (first : Step) (next : Core → Step) → TellsCaller actor what first.made → TellsCaller actor what (and_then first next).made
told_first actor what first next t = by first.stop
  where
    by : (o : Option Stop) → TellsCaller actor what (follows o first (next first.core)).made
    by None = told_before actor what first.made (next first.core).made t
    by (Some why) = t

told_next : (actor : ℕ) (what : Call) (first : Step) (next : Core → Step) → first.stop ≡ None → TellsCaller actor what (next first.core).made → TellsCaller actor what (and_then first next).made
told_next actor what first next on t =
    subst (λ o. TellsCaller actor what (follows o first (next first.core)).made) (sym on) (told_after actor what first.made (next first.core).made t)

-- ---- an actor that is blocked on its endpoint of a communication
record Waits (actor since : ℕ) (what : Call) (on : Await) (whose : Whose) (core : Core) : Type 0 where
  blocked : state_of core actor ≡ Blocked what since (Some on)
  theirs : whose_at core on.serial.0 ≡ whose

waits_both : (actor since : ℕ) (what : Call) (on : Await) (whose : Whose) (first : Step) (next : Core → Step) → Waits actor since what on whose first.core → (Waits actor since what on whose first.core → Waits actor since what on whose (next first.core).core) → Waits actor since what on whose (and_then first next).core
waits_both actor since what on whose first next w more = by first.stop
  where
    by : (o : Option Stop) → Waits actor since what on whose (follows o first (next first.core)).core
    by None = more w
    by (Some why) = w

-- another side is answered
waits_side : (actor since : ℕ) (what : Call) (on : Await) (whose : Whose) (serial : ℕ) (side : Party) (given : Side) (core : Core) → awaits_side serial side (Some on) ≡ false → Waits actor since what on whose core → Waits actor since what on whose (answers_side how.Failed serial side given core).core
waits_side actor since what on whose serial side given core apart w = by (blocking_in (state_of core given.actor.0)) refl
  where
    reply : (blocking : Blocking) → Step
    reply blocking = replied given.actor.0 blocking.what blocking.since (cond (tells_bytes blocking.what) given.bytes 0) answer.Failed core

    elsewhere : (blocking : Blocking) → blocking_in (state_of core given.actor.0) ≡ Some blocking → awaits_side serial side blocking.on ≡ true → actor - 1 ≡ given.actor.0 - 1 → ⊥
    elsewhere blocking e there same =
        let here : state_of core given.actor.0 ≡ Blocked what since (Some on) = ap (λ i. (get_or core.actors i (not_suspended Ended)).state) (sym same) ∙ w.blocked in
        let one : Some (record { what = what; since = since; on = Some on }) ≡ Some blocking = sym (ap blocking_in here) ∙ e in
        let is : record { what = what; since = since; on = Some on } ≡ blocking = cc one in
        absurd (cc (sym apart ∙ ap (λ (b : Blocking). awaits_side serial side b.on) is ∙ there))

    cases : (blocking : Blocking) → blocking_in (state_of core given.actor.0) ≡ Some blocking → (b : Bool) → awaits_side serial side blocking.on ≡ b → Waits actor since what on whose (cond b (reply blocking) (goes_on core [])).core
    cases blocking e true there = record {
      blocked = put_there (λ state. state ≡ Blocked what since (Some on)) core.actors given.actor.0 actor (Ready answer.Failed) (λ same. absurd (elsewhere blocking e there same)) w.blocked;
      theirs = w.theirs;
    }
    cases blocking e false there = w

    by : (found : Option Blocking) → blocking_in (state_of core given.actor.0) ≡ found → Waits actor since what on whose (answers_by how.Failed serial side given found core).core
    by None e = w
    by (Some blocking) e = cases blocking e (awaits_side serial side blocking.on) refl

-- ---- another activity is given up
waits_more : (actor since : ℕ) (what : Call) (on : Await) (whose : Whose) (serial : ℕ) (core : Core) → 0 < serial → 0 < on.serial.0 → on.serial.0 ≢ serial → Waits actor since what on whose core → Waits actor since what on whose (gives_up serial core).core
waits_more actor since what on whose serial core from made apart w = by (whose_at core serial)
  where
    mid : Core
    mid = with_over how.Failed serial core

    after : Waits actor since what on whose mid
    after = record {
      blocked = w.blocked;
      theirs = get_or-set_other core.whose (serial - 1) (on.serial.0 - 1) (Over how.Failed) (Over how.Done) (λ e. apart (omega (arith, e, from, made))) ∙ w.theirs;
    }

    off : (side : Party) → awaits_side serial side (Some on) ≡ false
    off side = ap (λ b. b && party_eq on.party side) (eq_no on.serial.0 serial apart)

    answered : (owners : Whose) → Waits actor since what on whose (answers how.Failed serial owners mid).core
    answered (Over way) = after
    answered (Alone owner) = waits_side actor since what on whose serial party.Alone (bare_side owner.0) mid (off party.Alone) after
    answered (Posted mailbox sends side) = after
    answered (Pair sender receiver) =
        waits_both actor since what on whose (answers_side how.Failed serial party.Sender sender mid) (answers_side how.Failed serial party.Receiver (for_receiver sender receiver))
        (waits_side actor since what on whose serial party.Sender sender mid (off party.Sender) after)
        (waits_side actor since what on whose serial party.Receiver (for_receiver sender receiver) (answers_side how.Failed serial party.Sender sender mid).core (off party.Receiver))

    by : (owners : Whose) → Waits actor since what on whose (gives_up_by owners serial core).core
    by (Over way) = w
    by (Alone owner) = answered (whose_at core serial)
    by (Posted mailbox sends side) = answered (whose_at core serial)
    by (Pair sender receiver) = answered (whose_at core serial)

gives_up_on : (serial : ℕ) (core : Core) → (gives_up serial core).stop ≡ None
gives_up_on serial core = by (whose_at core serial)
  where
    by : (whose : Whose) → (gives_up_by whose serial core).stop ≡ None
    by (Over before) = refl
    by (Alone actor) = finishes_goes how.Failed serial core
    by (Posted mailbox sends side) = finishes_goes how.Failed serial core
    by (Pair sender receiver) = finishes_goes how.Failed serial core

-- ---- its own is given up
own_told : (actor since : ℕ) (what : Call) (on : Await) (whose : Whose) (given : Side) (core : Core) → given.actor.0 ≡ actor → Waits actor since what on whose core → TellsCaller actor what (answers_side how.Failed on.serial.0 on.party given core).made
own_told actor since what on whose given core is w =
    subst (λ o. TellsCaller actor what (answers_by how.Failed on.serial.0 on.party given o core).made) (sym found)
    (subst (λ b. TellsCaller actor what (cond b reply (goes_on core [])).made) (sym there) told)
  where
    reply : Step
    reply = replied given.actor.0 what since (cond (tells_bytes what) given.bytes 0) answer.Failed core

    found : blocking_in (state_of core given.actor.0) ≡ Some (record { what = what; since = since; on = Some on })
    found = ap (λ n. blocking_in (state_of core n)) is ∙ ap blocking_in w.blocked

    same_party : (p : Party) → party_eq p p ≡ true
    same_party party.Alone = refl
    same_party party.Sender = refl
    same_party party.Receiver = refl

    there : awaits_side on.serial.0 on.party (Some on) ≡ true
    there = ap (λ b. b && party_eq on.party on.party) (eq_yes on.serial.0 on.serial.0 refl) ∙ same_party on.party

    told : TellsCaller actor what reply.made
    told = record {
      before = [];
      own = record_of given.actor.0 what since (cond (tells_bytes what) given.bytes 0) answer.Failed core.under.date;
      after = [];
      among = refl;
      caller = is;
      call = refl;
      fails = refl;
    }

finish_told : (actor since : ℕ) (what : Call) (on : Await) (whose : Whose) (core : Core) → is_side actor on.party whose ≡ true → Waits actor since what on whose core → TellsCaller actor what (gives_up on.serial.0 core).made
finish_told actor since what on whose core side w =
    subst (λ o. TellsCaller actor what (gives_up_by o on.serial.0 core).made) (sym w.theirs) (by whose side w)
  where
    mid : Core
    mid = with_over how.Failed on.serial.0 core

    pair : (sender receiver : Side) → (p : Party) → on.party ≡ p → is_side actor p (Pair sender receiver) ≡ true → TellsCaller actor what (answers how.Failed on.serial.0 (Pair sender receiver) mid).made
    pair sender receiver party.Alone e s = absurd (cc s)
    pair sender receiver party.Sender e s =
        let is : sender.actor.0 ≡ actor = grind (arith, s) in
        told_first actor what (answers_side how.Failed on.serial.0 party.Sender sender mid) (answers_side how.Failed on.serial.0 party.Receiver (for_receiver sender receiver))
        (subst (λ p. TellsCaller actor what (answers_side how.Failed on.serial.0 p sender mid).made) e (own_told actor since what on (whose_at mid on.serial.0) sender mid is (record { blocked = w.blocked; theirs = refl })))
    pair sender receiver party.Receiver e s =
        let is : receiver.actor.0 ≡ actor = grind (arith, s) in
        let first = answers_side how.Failed on.serial.0 party.Sender sender mid in
        let off : awaits_side on.serial.0 party.Sender (Some on) ≡ false = ap (λ b. b && party_eq on.party party.Sender) (eq_yes on.serial.0 on.serial.0 refl) ∙ ap (λ p. party_eq p party.Sender) e in
        let still = waits_side actor since what on (whose_at mid on.serial.0) on.serial.0 party.Sender sender mid off (record { blocked = w.blocked; theirs = refl }) in
        told_next actor what first (answers_side how.Failed on.serial.0 party.Receiver (for_receiver sender receiver)) (answers_side_goes how.Failed on.serial.0 party.Sender sender mid)
        (subst (λ p. TellsCaller actor what (answers_side how.Failed on.serial.0 p (for_receiver sender receiver) first.core).made) e (own_told actor since what on (whose_at mid on.serial.0) (for_receiver sender receiver) first.core is still))

    by : (owners : Whose) → is_side actor on.party owners ≡ true → Waits actor since what on owners core → TellsCaller actor what (gives_up_by owners on.serial.0 core).made
    by (Over way) s w = absurd (cc s)
    by (Alone owner) s w = absurd (cc s)
    by (Posted mailbox sends side) s w = absurd (cc s)
    by (Pair sender receiver) s w =
        subst (λ o. TellsCaller actor what (answers how.Failed on.serial.0 o mid).made) (sym w.theirs) (pair sender receiver on.party refl s)

-- ---- a kill
all_told : (actor since : ℕ) (what : Call) (on : Await) (whose : Whose) (serials : List ℕ) (core : Core) → is_side actor on.party whose ≡ true → 0 < on.serial.0 → All (λ serial. 0 < serial) serials → Contains serials on.serial.0 → Waits actor since what on whose core → TellsCaller actor what (each gives_up serials core).made
unfolding each
all_told actor since what on whose [] core side made drawn within w = absurd (omega (arith, within.1))
all_told actor since what on whose (serial ∷ more) core side made drawn within w =
    let later : Contains more on.serial.0 → Waits actor since what on whose (gives_up serial core).core → TellsCaller actor what (each gives_up more (gives_up serial core).core).made =
    all_told actor since what on whose more (gives_up serial core).core side made (All-tail (λ serial. 0 < serial) serial more drawn) in
    elim (cases_eq on.serial.0 serial) [
      | inl same ↦ told_first actor what (gives_up serial core) (each gives_up more) (subst (λ n. TellsCaller actor what (gives_up n core).made) same (finish_told actor since what on whose core side w))
      | inr apart ↦
          told_next actor what (gives_up serial core) (each gives_up more) (gives_up_on serial core)
          (later (Contains-tail serial more on.serial.0 (λ e. apart (sym e)) within)
          (waits_more actor since what on whose serial core (All-head (λ serial. 0 < serial) serial more drawn) made apart w))
    ]

contained : (P : ℕ → Type 0) (serials : List ℕ) (serial : ℕ) → All P serials → Contains serials serial → P serial
contained P serials serial all at = subst P at.2 (all at.0 serial at.1)

done_goes : (actor : ℕ) (target : ActorId) (core : Core) → (kill_done actor target core).stop ≡ None
done_goes actor target core = by (actor == target.0)
  where
    by : (b : Bool) → (cond b (goes_on core []) (at_once actor (call.Kill target) 0 answer.Done core)).stop ≡ None
    by true = refl
    by false = refl

stretches_told : (first second third : Core → Step) (core : Core) (actor : ℕ) (what : Call) → (first core).stop ≡ None → TellsCaller actor what (second (first core).core).made → TellsCaller actor what (all_of (first ∷ second ∷ third ∷ []) core).made
unfolding all_of
stretches_told first second third core actor what on t =
    told_next actor what (first core) (all_of (second ∷ third ∷ [])) on (told_first actor what (second (first core).core) (all_of (third ∷ [])) t)

pub kill_reaches : (actor : ℕ) (target : ActorId) (core : Core) → is_alive (state_of core target.0) ≡ true → MayCall core actor → (other since : ℕ) (what : Call) (on : Await) → IsOtherSide target core other since what on → TellsCaller other what (kills actor target (counted core)).made
kill_reaches actor target core alive may other since what on is =
    subst (λ b. TellsCaller other what (cond b (all_of (kill_stretches actor target serials) start) (at_once actor (call.Kill target) 0 answer.Done (counted core))).made) (sym alive)
    (stretches_told (kill_done actor target) (each gives_up serials) (joiners_wake target.0) start other what (done_goes actor target start)
    (all_told other since what on whose serials (kill_done actor target start).core is.side (contained (λ serial. 0 < serial) serials on.serial.0 is.drawn is.awaits) is.drawn is.awaits waits))
  where
    serials : List ℕ
    serials = awaited target core

    start : Core
    start = withdrawn target (counted core)

    whose : Whose
    whose = whose_at core on.serial.0

    first : Waits other since what on whose start
    first = record {
      blocked = put_there (λ state. state ≡ Blocked what since (Some on)) core.actors target.0 other Ended (λ same. absurd (is.apart same)) is.blocked;
      theirs = refl;
    }

    answered : other - 1 ≡ actor - 1 → ⊥
    answered same =
        let here : state_of core actor ≡ Blocked what since (Some on) = ap (λ i. (get_or core.actors i (not_suspended Ended)).state) (sym same) ∙ is.blocked in
        absurd (cc (sym (ap is_answered here) ∙ may.ready))

    by : (b : Bool) → Waits other since what on whose (cond b (goes_on start []) (at_once actor (call.Kill target) 0 answer.Done start)).core
    by true = first
    by false = record {
      blocked = put_there (λ state. state ≡ Blocked what since (Some on)) start.actors actor other (Ready answer.Done) (λ same. absurd (answered same)) first.blocked;
      theirs = refl;
    }

    waits : Waits other since what on whose (kill_done actor target start).core
    waits = by (actor == target.0)
