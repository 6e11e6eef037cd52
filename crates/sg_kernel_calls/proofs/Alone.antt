-- Calls by which endpoints of communications arrive, and others.
use Rattle.std.proofs.Common.{◌≡◌, ℕ, ◌==◌, Bool, true, false, cond, Ok, Result, Option, None, Some, List, [], ◌∷◌, refl, sym, ap, subst, ◌∙◌, arith}
use Rattle.sg_base.specs.declared.call.Answer.{Answer}
use Rattle.sg_base.specs.declared.call.Call.{Call}
use Rattle.sg_base.specs.declared.call.Call.TheVariants as call
use Rattle.sg_base.specs.declared.ids.ActorId.{ActorId}
use Rattle.sg_base.specs.Limits.{IsActorIn, IsAmount, IsMsg, IsRate}
use Rattle.sg_base.specs.Lines.{HasLine}
use Rattle.sg_base.specs.declared.awaits.Await.{Await}
use Rattle.sg_requests.specs.Requested.{oldest, queue_at, queues_without_oldest}
use Rattle.sg_route.specs.Roads.{Roads}
use Rattle.sg_sync.specs.Objects.{Done, locked, unlocked, acquired, released, arrived}
use Rattle.sg_kernel_calls.specs.declared.meetings.Comer.{Comer}
use Rattle.sg_activity.specs.Links.{is_off}
use Rattle.sg_base.specs.Turn.{actor_of}
use Rattle.sg_actor_states.specs.Actors.{is_alive, is_ended, joiners}
use Rattle.sg_mailbox.specs.declared.owners.How.TheVariants as how
use Rattle.sg_mailbox.specs.declared.owners.Whose.{Whose}
use Rattle.sg_mailbox.specs.declared.owners.Whose.TheVariants.{Over, Alone, Posted, Pair}
use Rattle.sg_kernel_calls.specs.declared.simulation_state.Fields.{Fields}
use Rattle.sg_kernel_calls.specs.declared.stop.Stop.{Stop}
use Rattle.sg_kernel_calls.specs.Setup.{Setup}
use Rattle.sg_kernel_calls.specs.World.{Core, extent, host_of, state_of, whose_at}
use Rattle.sg_kernel_calls.specs.Known.{after_call}
use Rattle.sg_kernel_calls.specs.Steps.{Step, all_of, counted, each, unless_used}
use Rattle.sg_kernel_calls.specs.Answers.{side_of}
use Rattle.sg_kernel_calls.specs.Meetings.{answer_of_over, comer_of, comes, receives_by, sends_by, waits_by, waits_until}
use Rattle.sg_kernel_calls.specs.Locks.{caller_gets, all_wake, caller_first, caller_last, joiners_wake, with_objects}
use Rattle.sg_kernel_calls.specs.Lives.{joins_by, with_actor_ended}
use Rattle.sg_kernel_calls.specs.Kills.{awaited, gives_up, gives_up_by, kill_done, kill_stretches, kills, withdrawn}
use Rattle.sg_kernel_calls.specs.Calls.{answered, answered_call, computes}
use Rattle.sg_kernel_calls.specs.kept.Acts.{CanCome, CanMake, CanName, CountsOne, Replies}
use Rattle.sg_kernel_calls.specs.kept.Asks.{CanAnswer}
use Rattle.sg_kernel_calls.specs.kept.Sound.{comes_in, core_of, known_of}
use Rattle.sg_kernel_calls.specs.kept.Whole.{CanStep, IsWhole}
use Rattle.sg_kernel_calls.proofs.Each.{both_on, each_on}
use Rattle.sg_kernel_calls.proofs.Finishes.{finishes_goes}
use Rattle.sg_kernel_calls.proofs.Moves.{can_step}
use Rattle.sg_kernel_calls.proofs.Replied.{counted_replies}
use Rattle.sg_kernel_calls.proofs.Woken.{all_on, caller_goes}

-- an actor that is named by a call exists
pub can_name : (fields : Fields) (actor : ℕ) (target : ActorId) → CanStep fields actor → IsActorIn (extent fields.setup) target → CanName fields actor target.0
can_name fields actor target able is = record { able = able; target = record { from = is.0; to = omega (arith, is.1, able.whole.sound.homes_known) } }

-- ---- an endpoint arrives by a call of its actor
side_comes : (fields : Fields) (one : Comer) → CanAnswer fields one.side.actor.0 one.what → HasLine one.what → IsAmount one.side.bytes → IsMsg one.side.msg → IsRate one.side.rate → CanCome fields one
side_comes fields one can told bytes message rate = record {
  call = record { caller = can.caller; room = can.room; round = can.whole.round };
  comer = record {
    what = record { told = told; call = can.call };
    side = record { actor = (can.caller.from, omega (arith, can.caller.to, can.whole.sound.homes_known)); bytes = bytes; message = message; rate = rate };
  };
  whole = can.whole;
}

some_same : {X : Type 0} {x y : X} → Some x ≡ Some y → x ≡ y
some_same e = cc e

pub can_come : (fields : Fields) (actor : ℕ) (what : Call) (comer : Comer) → comer_of actor what ≡ Some comer → CanAnswer fields actor what → CanCome fields comer
can_come fields actor call.Ask comer e can = absurd (cc e)
can_come fields actor (call.Compute n p) comer e can = absurd (cc e)
can_come fields actor (call.Sleep n) comer e can = absurd (cc e)
can_come fields actor (call.Send b n m r) comer e can = subst (CanCome fields) (some_same e) (side_comes fields (sends_by (side_of actor n m r) (call.Send b n m r) true b) can tt can.call.1 can.call.2 can.call.3)
can_come fields actor (call.Recv b) comer e can = subst (CanCome fields) (some_same e) (side_comes fields (receives_by actor (call.Recv b) true b) can tt (omega arith) tt (omega arith))
can_come fields actor (call.ISend b n m r) comer e can = subst (CanCome fields) (some_same e) (side_comes fields (sends_by (side_of actor n m r) (call.ISend b n m r) false b) can tt can.call.1 can.call.2 can.call.3)
can_come fields actor (call.IRecv b) comer e can = subst (CanCome fields) (some_same e) (side_comes fields (receives_by actor (call.IRecv b) false b) can tt (omega arith) tt (omega arith))
can_come fields actor call.Wait comer e can = absurd (cc e)
can_come fields actor (call.Lock n) comer e can = absurd (cc e)
can_come fields actor (call.Unlock n) comer e can = absurd (cc e)
can_come fields actor (call.Acquire n) comer e can = absurd (cc e)
can_come fields actor (call.Release n) comer e can = absurd (cc e)
can_come fields actor call.Barrier comer e can = absurd (cc e)
can_come fields actor (call.Create n) comer e can = absurd (cc e)
can_come fields actor (call.Join n) comer e can = absurd (cc e)
can_come fields actor (call.Kill n) comer e can = absurd (cc e)
can_come fields actor (call.Suspend n) comer e can = absurd (cc e)
can_come fields actor (call.Resume n) comer e can = absurd (cc e)
can_come fields actor call.Yield comer e can = absurd (cc e)
can_come fields actor call.Exit comer e can = absurd (cc e)

-- what it leads to
comes_by_call : (roads : Roads) (setup : Setup) (core : Core) (actor : ℕ) (what : Call) (comer : Comer) → comer_of actor what ≡ Some comer → answered_call roads setup core actor what ≡ comes roads setup comer core
comes_by_call roads setup core actor call.Ask comer e = absurd (cc e)
comes_by_call roads setup core actor (call.Compute n p) comer e = absurd (cc e)
comes_by_call roads setup core actor (call.Sleep n) comer e = absurd (cc e)
comes_by_call roads setup core actor (call.Send b n m r) comer e = ap (λ one. comes roads setup one core) (some_same e)
comes_by_call roads setup core actor (call.Recv b) comer e = ap (λ one. comes roads setup one core) (some_same e)
comes_by_call roads setup core actor (call.ISend b n m r) comer e = ap (λ one. comes roads setup one core) (some_same e)
comes_by_call roads setup core actor (call.IRecv b) comer e = ap (λ one. comes roads setup one core) (some_same e)
comes_by_call roads setup core actor call.Wait comer e = absurd (cc e)
comes_by_call roads setup core actor (call.Lock n) comer e = absurd (cc e)
comes_by_call roads setup core actor (call.Unlock n) comer e = absurd (cc e)
comes_by_call roads setup core actor (call.Acquire n) comer e = absurd (cc e)
comes_by_call roads setup core actor (call.Release n) comer e = absurd (cc e)
comes_by_call roads setup core actor call.Barrier comer e = absurd (cc e)
comes_by_call roads setup core actor (call.Create n) comer e = absurd (cc e)
comes_by_call roads setup core actor (call.Join n) comer e = absurd (cc e)
comes_by_call roads setup core actor (call.Kill n) comer e = absurd (cc e)
comes_by_call roads setup core actor (call.Suspend n) comer e = absurd (cc e)
comes_by_call roads setup core actor (call.Resume n) comer e = absurd (cc e)
comes_by_call roads setup core actor call.Yield comer e = absurd (cc e)
comes_by_call roads setup core actor call.Exit comer e = absurd (cc e)

pub comer_replies : (roads : Roads) (old new : Fields) (actor : ℕ) (what : Call) (comer : Comer) (reply : Result Unit Stop) → comer_of actor what ≡ Some comer → Replies (comes_in roads comer old) old new reply → Replies (answered roads old.setup (core_of old) actor what) old new reply
comer_replies roads old new actor what comer reply is does =
    subst (λ (step : Step). Replies (unless_used old.setup.budget (core_of old) step) old new reply) (sym (comes_by_call roads old.setup (core_of old) actor what comer is)) does

-- ---- any other call continues
first_goes : (done : Done) (actor : ℕ) (what : Call) (core : Core) → (caller_first done actor what core).stop ≡ None
first_goes done actor what core = both_on (caller_gets done.outcome actor what (with_objects done core)) (all_wake done.woken) (caller_goes done.outcome actor what (with_objects done core)) (all_on done.woken)

last_goes : (done : Done) (actor : ℕ) (what : Call) (core : Core) → (caller_last done actor what core).stop ≡ None
last_goes done actor what core = both_on (all_wake done.woken (with_objects done core)) (caller_gets done.outcome actor what) (all_on done.woken (with_objects done core)) (caller_goes done.outcome actor what)

waits_on : (over : Option Answer) (actor : ℕ) (on : Await) (core : Core) → (waits_until over actor on core).stop ≡ None
waits_on None actor on core = refl
waits_on (Some over) actor on core = refl

waits_goes : (found : Option Await) (actor : ℕ) (core : Core) → (waits_by found actor core).stop ≡ None
waits_goes None actor core = refl
waits_goes (Some on) actor core = waits_on (answer_of_over (whose_at core on.serial.0)) actor on (record core { requests = queues_without_oldest core.requests actor })

computes_goes : (setup : Setup) (actor flops priority : ℕ) (core : Core) → (computes setup actor flops priority core).stop ≡ None
computes_goes setup actor flops priority core = cases (is_off core.under.on.hosts (host_of setup actor)) _ _ refl refl
  where
    cases : (b : Bool) (one other : Step) → one.stop ≡ None → other.stop ≡ None → (cond b one other).stop ≡ None
    cases true one other e f = e
    cases false one other e f = f

joins_goes : (ended : Bool) (actor : ℕ) (target : ActorId) (core : Core) → (joins_by ended actor target core).stop ≡ None
joins_goes true actor target core = refl
joins_goes false actor target core = refl

-- ---- a kill
pub gives_up_goes : (serial : ℕ) (core : Core) → (gives_up serial core).stop ≡ None
gives_up_goes serial core = cases (whose_at core serial)
  where
    cases : (whose : Whose) → (gives_up_by whose serial core).stop ≡ None
    cases (Over before) = refl
    cases (Alone actor) = finishes_goes how.Failed serial core
    cases (Posted mailbox sends side) = finishes_goes how.Failed serial core
    cases (Pair sender receiver) = finishes_goes how.Failed serial core

pub kill_done_goes : (actor : ℕ) (target : ActorId) (core : Core) → (kill_done actor target core).stop ≡ None
kill_done_goes actor target core = cases (actor == target.0) _ _ refl refl
  where
    cases : (b : Bool) (one other : Step) → one.stop ≡ None → other.stop ≡ None → (cond b one other).stop ≡ None
    cases true one other e f = e
    cases false one other e f = f

-- one stretch after another
all_two : (first : Core → Step) (rest : List (Core → Step)) (core : Core) → (first core).stop ≡ None → ((c : Core) → (all_of rest c).stop ≡ None) → (all_of (first ∷ rest) core).stop ≡ None
unfolding all_of
all_two first rest core one more = both_on (first core) (all_of rest) one more

all_none : (core : Core) → (all_of [] core).stop ≡ None
unfolding all_of
all_none core = refl

pub kill_stretches_go : (actor : ℕ) (target : ActorId) (serials : List ℕ) (core : Core) → (all_of (kill_stretches actor target serials) core).stop ≡ None
kill_stretches_go actor target serials core =
    all_two (kill_done actor target) (each gives_up serials ∷ joiners_wake target.0 ∷ []) core (kill_done_goes actor target core)
    (λ c. all_two (each gives_up serials) (joiners_wake target.0 ∷ []) c (each_on gives_up gives_up_goes serials c)
    (λ d. all_two (joiners_wake target.0) [] d (all_on (joiners target.0 1 d.actors) d) all_none))

kills_goes : (actor : ℕ) (target : ActorId) (core : Core) → (kills actor target core).stop ≡ None
kills_goes actor target core = cases (is_alive (state_of core target.0)) _ _ (kill_stretches_go actor target (awaited target core) (withdrawn target core)) refl
  where
    cases : (b : Bool) (one other : Step) → one.stop ≡ None → other.stop ≡ None → (cond b one other).stop ≡ None
    cases true one other e f = e
    cases false one other e f = f

pub alone_goes : (roads : Roads) (setup : Setup) (core : Core) (actor : ℕ) (what : Call) → comer_of actor what ≡ None → (answered_call roads setup core actor what).stop ≡ None
alone_goes roads setup core actor call.Ask e = refl
alone_goes roads setup core actor (call.Compute n p) e = computes_goes setup actor n p (counted core)
alone_goes roads setup core actor (call.Sleep n) e = refl
alone_goes roads setup core actor (call.Send b n m r) e = absurd (cc e)
alone_goes roads setup core actor (call.Recv b) e = absurd (cc e)
alone_goes roads setup core actor (call.ISend b n m r) e = absurd (cc e)
alone_goes roads setup core actor (call.IRecv b) e = absurd (cc e)
alone_goes roads setup core actor call.Wait e = waits_goes (oldest (queue_at core.requests actor)) actor (counted core)
alone_goes roads setup core actor (call.Lock n) e = first_goes (locked (actor_of actor) n core.objects) actor (call.Lock n) (counted core)
alone_goes roads setup core actor (call.Unlock n) e = first_goes (unlocked (actor_of actor) n core.objects) actor (call.Unlock n) (counted core)
alone_goes roads setup core actor (call.Acquire n) e = first_goes (acquired (actor_of actor) n core.objects) actor (call.Acquire n) (counted core)
alone_goes roads setup core actor (call.Release n) e = first_goes (released n core.objects) actor (call.Release n) (counted core)
alone_goes roads setup core actor call.Barrier e = last_goes (arrived (actor_of actor) core.objects) actor call.Barrier (counted core)
alone_goes roads setup core actor (call.Create n) e = refl
alone_goes roads setup core actor (call.Join n) e = joins_goes (is_ended (state_of core n.0)) actor n (counted core)
alone_goes roads setup core actor (call.Kill n) e = kills_goes actor n (counted core)
alone_goes roads setup core actor (call.Suspend n) e = refl
alone_goes roads setup core actor (call.Resume n) e = refl
alone_goes roads setup core actor call.Yield e = refl
alone_goes roads setup core actor call.Exit e = all_on (joiners actor 1 (with_actor_ended actor core).actors) (with_actor_ended actor (counted core))

-- ---- in the budget
pub can_make : (old mid : Fields) (actor : ℕ) (one what : Call) → one ≡ what → CountsOne old mid → CanAnswer old actor one → CanMake mid actor what
can_make old mid actor one what is counts can =
    subst (CanMake mid actor) is (subst (λ (fields : Fields). CanMake fields actor one) (sym counts.counted) (record { able = can_step old actor can.whole can.caller can.room counts.left; call = can.call }))

-- a call that brings no endpoint, by its row
pub row_replies : (roads : Roads) (old mid new : Fields) (actor : ℕ) (one what : Call) (does : Setup → Core → Step) → one ≡ what → CountsOne old mid → comer_of actor what ≡ None → answered_call roads old.setup (core_of old) actor what ≡ does old.setup (counted (core_of old)) →
    known_of new ≡ after_call true (does mid.setup (core_of mid)) (known_of mid) → IsWhole new → Replies (answered roads old.setup (core_of old) actor one) old new (Ok tt)
row_replies roads old mid new actor one what does is counts alone row known whole =
    let step = answered_call roads old.setup (core_of old) actor what in
    subst (λ (w : Call). Replies (answered roads old.setup (core_of old) actor w) old new (Ok tt)) (sym is)
    (counted_replies old mid new step does counts row (sym (ap (λ (s : Step). s.stop) row) ∙ alone_goes roads old.setup (core_of old) actor what alone) (record { known = known; whole = whole }))
