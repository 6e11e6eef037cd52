-- No actor has two records in one step.
use Rattle.std.proofs.Common.{◌≡◌, ◌≢◌, ℕ, ◌-◌, ◌==◌, Bool, true, false, true≢false, cond, Option, None, Some, is_some, List, [], ◌∷◌, ◌++◌, get_or, refl, sym, ap, ◌∙◌}
use Rattle.std.specs.List.{All}
use Rattle.std.proofs.lemmas.List.Elements.{All-nil, All-cons, All-append, All-head, All-tail}
use Rattle.sg_base.specs.declared.call.Answer.{Answer}
use Rattle.sg_base.specs.declared.call.Answer.TheVariants as answer
use Rattle.sg_base.specs.declared.call.Call.TheVariants as call
use Rattle.sg_base.specs.declared.ids.ActorId.{ActorId}
use Rattle.sg_base.specs.declared.trace_record.Record.{Record}
use Rattle.sg_actor_states.specs.declared.state.Actor.{Actor}
use Rattle.sg_actor_states.specs.declared.state.Blocking.{Blocking}
use Rattle.sg_actor_states.specs.declared.state.State.{State}
use Rattle.sg_actor_states.specs.declared.state.State.TheVariants.{Ready, Ended}
use Rattle.sg_actor_states.specs.Actors.{actor_at, blocking_in, is_alive, not_suspended, put_state, state_at}
use Rattle.sg_actor_states.specs.Records.{record_of}
use Rattle.sg_kernel_calls.specs.declared.stop.Stop.TheVariants.{Budget}
use Rattle.sg_kernel_calls.specs.Kills.{awaited, gives_up, kill_stretches, kills, kills_alive, withdrawn}
use Rattle.sg_kernel_calls.specs.Lives.{exits, with_actor_ended}
use Rattle.sg_kernel_calls.specs.Locks.{joiners_wake}
use Rattle.sg_kernel_calls.specs.Steps.{Step, all_of, and_then, at_once, counted, each, goes_on, readied, stops}
use Rattle.sg_kernel_calls.specs.World.{Core, state_of}
use Rattle.sg_kernel_laws.proofs.failure_lemmas.Between.{Between, each_so, give_up_so, joiners_so, more_so, none_so, pass_so}
use Rattle.sg_kernel_laws.proofs.failure_lemmas.Passed.{put_there}
use Rattle.sg_engine_laws.specs.changes.Once.{NobodyHasTwoRecords, HaveOneEach}
use Rattle.sg_engine_laws.specs.changes.Order.{id_in}
use Rattle.sg_engine_laws.proofs.change_lemmas.Finished.{at_place}

-- all that have a record were blocked, and aren't any more; no other is blocked from then on, and each has one record
record Once (before after : Core) (made : List Record) : Type 0 where
  was : All (λ r. is_some (blocking_in (state_of before r.actor.0)) ≡ true) made
  now : All (λ r. blocking_in (state_of after r.actor.0) ≡ None) made
  keeps : (actor : ℕ) → blocking_in (state_of before actor) ≡ None → blocking_in (state_of after actor) ≡ None
  apart : HaveOneEach made

-- one that isn't blocked any more is another than one that still is
apart_append : (mid : Core) (first second : List Record) → All (λ r. blocking_in (state_of mid r.actor.0) ≡ None) first → All (λ r. is_some (blocking_in (state_of mid r.actor.0)) ≡ true) second → HaveOneEach first → HaveOneEach second → HaveOneEach (first ++ second)
apart_append mid [] second now was one two = two
apart_append mid (r ∷ first) second now was one two =
    let P = (λ (other : Record). id_in r ≢ id_in other) in
    let free = All-head (λ (q : Record). blocking_in (state_of mid q.actor.0) ≡ None) r first now in (
      All-append P first second one.0 (λ i d within same. true≢false (sym (was i d within) ∙ ap (λ (n : ℕ). is_some (blocking_in (state_of mid n))) (sym same) ∙ ap is_some free)),
      apart_append mid first second (All-tail (λ (q : Record). blocking_in (state_of mid q.actor.0) ≡ None) r first now) was one.1 two,
    )

ready_free : (actors : List Actor) (actor : ℕ) (given : Answer) → blocking_in (state_at (put_state actors actor (Ready given)) actor) ≡ None
ready_free actors actor given = at_place (λ (a : Actor). blocking_in a.state ≡ None) actors (actor - 1) (record (actor_at actors actor) { state = Ready given }) (not_suspended Ended) refl refl

once : Between Once
once = record {
  still = λ core later is. record { was = All-nil _; now = All-nil _; keeps = λ actor e. ap (λ (actors : List Actor). blocking_in (state_at actors actor)) is ∙ e; apart = tt };
  next = λ a b c first second one two. record {
    was = All-append (λ (r : Record). is_some (blocking_in (state_of a r.actor.0)) ≡ true) first second one.was (λ i d within. before a b (get_or second i d).actor.0 (one.keeps (get_or second i d).actor.0) (two.was i d within));
    now = All-append (λ (r : Record). blocking_in (state_of c r.actor.0) ≡ None) first second (λ i d within. two.keeps (get_or first i d).actor.0 (one.now i d within)) two.now;
    keeps = λ actor e. two.keeps actor (one.keeps actor e);
    apart = apart_append b first second one.now two.was one.apart two.apart;
  };
  replies = λ actor blocking bytes given core is. record {
    was = All-cons (λ (r : Record). is_some (blocking_in (state_of core r.actor.0)) ≡ true) (record_of actor blocking.what blocking.since bytes given core.under.date) [] (ap is_some is) (All-nil _);
    now = All-cons (λ (r : Record). blocking_in (state_of (readied actor given core) r.actor.0) ≡ None) (record_of actor blocking.what blocking.since bytes given core.under.date) [] (ready_free core.actors actor given) (All-nil _);
    keeps = λ other e. put_there (λ (s : State). blocking_in s ≡ None) core.actors actor other (Ready given) (λ same. refl) e;
    apart = (All-nil _, tt);
  };
}
  where
    before : (a b : Core) (actor : ℕ) → (blocking_in (state_of a actor) ≡ None → blocking_in (state_of b actor) ≡ None) → is_some (blocking_in (state_of b actor)) ≡ true → is_some (blocking_in (state_of a actor)) ≡ true
    before a b actor keeps is = by (blocking_in (state_of a actor)) refl
      where
        by : (o : Option Blocking) → blocking_in (state_of a actor) ≡ o → is_some o ≡ true
        by None e = absurd (true≢false (sym is ∙ ap is_some (keeps e)))
        by (Some blocking) e = refl

-- ---- kills
rest_once : (target : ℕ) (serials : List ℕ) (core : Core) → Once core (all_of (each gives_up serials ∷ joiners_wake target ∷ []) core).core (all_of (each gives_up serials ∷ joiners_wake target ∷ []) core).made
rest_once target serials core =
    more_so Once once (each gives_up serials) (joiners_wake target ∷ []) core (each_so Once once gives_up (give_up_so Once once) serials core)
    (λ mid. more_so Once once (joiners_wake target) [] mid (joiners_so Once once target mid) (none_so Once once))

killed_once : (actor : ℕ) (target : ActorId) (serials : List ℕ) (core : Core) → HaveOneEach (all_of (kill_stretches actor target serials) core).made
unfolding all_of
killed_once actor target serials core = by (actor == target.0)
  where
    rest : Core → Step
    rest = all_of (each gives_up serials ∷ joiners_wake target.0 ∷ [])

    own : Record
    own = record_of actor (call.Kill target) core.under.date 0 answer.Done core.under.date

    told : Core
    told = readied actor answer.Done core

    other : HaveOneEach (own ∷ (rest told).made)
    other =
        (let o = rest_once target.0 serials told in
        (λ i d within same. true≢false (sym (o.was i d within) ∙ ap (λ (n : ℕ). is_some (blocking_in (state_of told n))) (sym same) ∙ ap is_some (ready_free core.actors actor answer.Done)), o.apart))

    by : (b : Bool) → HaveOneEach (and_then (cond b (goes_on core []) (at_once actor (call.Kill target) 0 answer.Done core)) rest).made
    by true = (rest_once target.0 serials core).apart
    by false = other

cond_once : (b : Bool) (one other : Step) → HaveOneEach one.made → HaveOneEach other.made → HaveOneEach (cond b one other).made
cond_once true one other o p = o
cond_once false one other o p = p

pub nobody_has_two_records : NobodyHasTwoRecords
nobody_has_two_records = record {
  kills = λ roads setup core actor target.
      cond_once (core.events == setup.budget) (stops core [] Budget) (kills actor target (counted core)) tt
      (cond_once (is_alive (state_of core target.0)) (kills_alive actor target (counted core)) (at_once actor (call.Kill target) 0 answer.Done (counted core))
      (killed_once actor target (awaited target (counted core)) (withdrawn target (counted core))) (All-nil _, tt));
  exits = λ roads setup core actor. cond_once (core.events == setup.budget) (stops core [] Budget) (exits actor (counted core)) tt (joiners_so Once once actor (with_actor_ended actor (counted core))).apart;
  passes = λ setup core. (pass_so Once once setup core).apart;
}
