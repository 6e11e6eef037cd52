-- What a kill leaves of an actor.
use Rattle.std.proofs.Common.{◌≡◌, ◌≢◌, ℕ, ◌-◌, ◌<◌, cond, None, List, [], refl, sym, ap, subst, ◌∙◌, arith}
use Rattle.sg_base.specs.declared.ids.ActorId.{ActorId}
use Rattle.sg_base.specs.declared.call.Call.TheVariants as call
use Rattle.sg_base.specs.declared.call.Answer.TheVariants as answer
use Rattle.sg_base.specs.declared.trace_record.Record.{Record}
use Rattle.sg_actor_states.specs.declared.state.State.TheVariants.{Ended}
use Rattle.sg_sync.specs.Objects.{Objects, waiting}
use Rattle.sg_sync.proofs.Leaving.{waits_nowhere}
use Rattle.sg_kernel_calls.specs.Kills.{awaited, gives_up, kill_done, kill_stretches, kills_alive, withdrawn}
use Rattle.sg_kernel_calls.specs.Locks.{joiners_wake}
use Rattle.sg_kernel_calls.specs.Steps.{goes_on, each, all_of, at_once}
use Rattle.sg_kernel_calls.specs.World.{Core, IsActor, MayCall}
use Rattle.sg_kernel_calls.proofs.Alone.{kill_stretches_go}
use Rattle.sg_kernel_calls.proofs.Stated.{state_same}
use Rattle.sg_kernel_laws.specs.actors.Kills.{EndsBy, KillsEnd}
use Rattle.sg_kernel_laws.proofs.actor_lemmas.Dead.{IsDead, dead_rests}
use Rattle.sg_kernel_laws.proofs.actor_lemmas.Others.{let_go, stretches_spare}
use Rattle.sg_kernel_laws.proofs.actor_lemmas.Kept.{Closed, Replying, still, one_made, either, each_kept, gives_up_kept, joiners_kept, more_kept, none_kept}

-- ---- what comes after the actor was withdrawn changes no objects, and is no event
record Stays (before core : Core) : Type 0 where
  objects : core.objects ≡ before.objects
  events : core.events ≡ before.events

abbrev anything : Record → Type 0
anything r = Unit {0}

replying : (before : Core) → Replying (Stays before) anything
replying before = record {
  replies = λ actor blocking bytes given core is s. one_made (Stays before) anything _ _ (record { objects = s.objects; events = s.events }) tt;
}

closed : (before : Core) → Closed (Stays before) anything
closed before = record {
  answered = replying before;
  over = λ over serial core s. record { objects = s.objects; events = s.events };
}

stretches_stay : (actor : ℕ) (target : ActorId) (serials : List ℕ) (core : Core) → Stays core (all_of (kill_stretches actor target serials) core).core
stretches_stay actor target serials core =
    (more_kept (Stays core) anything (kill_done actor target) _ core
    (either (Stays core) anything _ (goes_on core []) (at_once actor (call.Kill target) 0 answer.Done core) (still (Stays core) anything core None was) (one_made (Stays core) anything _ _ (record { objects = refl; events = refl }) tt))
    (λ one p. more_kept (Stays core) anything (each gives_up serials) _ one (each_kept (Stays core) anything gives_up (gives_up_kept (Stays core) anything (closed core)) serials one p)
    (λ two q. more_kept (Stays core) anything (joiners_wake target.0) [] two (joiners_kept (Stays core) anything (replying core) target.0 two q)
    (none_kept (Stays core) anything)))).holds
  where
    was : Stays core core
    was = record { objects = refl; events = refl }

apart_numbers : (actor target : ℕ) → 0 < actor → 0 < target → actor ≢ target → target - 1 ≢ actor - 1
apart_numbers actor target one two differs same = differs (omega (arith, one, two, same))

alive_ends : (actor : ℕ) (target : ActorId) (core : Core) → MayCall core actor → IsActor core target.0 → EndsBy target core (kills_alive actor target core)
alive_ends actor target core may is =
    let mid = withdrawn target core in
    let serials = awaited target core in
    let stays = stretches_stay actor target serials mid in
    let spared = stretches_spare target.0 (IsDead []) (dead_rests []) actor target serials mid (apart_numbers actor target.0 may.from is.from) (state_same core.actors target.0 Ended is, let_go core.requests (target.0 - 1)) in
    record {
      ended = spared.holds.0;
      goes_on = kill_stretches_go actor target serials mid;
      events = stays.events;
      silent = spared.made;
      requests = spared.holds.1;
      waits = ap (λ o. waiting o target) stays.objects ∙ waits_nowhere core.objects target;
      owners = ap (λ (o : Objects). o.owners) stays.objects;
    }

pub kills_end : KillsEnd
kills_end actor target core may is alive =
    subst (λ b. EndsBy target core (cond b (kills_alive actor target core) (at_once actor (call.Kill target) 0 answer.Done core))) (sym alive) (alive_ends actor target core may is)
