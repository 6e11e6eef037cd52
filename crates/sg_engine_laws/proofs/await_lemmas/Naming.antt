-- What names an actor is awaited by it, as activities and requests change.
use Rattle.std.proofs.Common.{◌≡◌, ◌⊎◌, ℕ, ◌+◌, ◌-◌, ◌<◌, ◌==◌, ◌||◌, Bool, true, false, true≢false, IsTrue, inl, inr, Option, None, Some, option_to_list, List, [], ◌∷◌, ◌++◌, length, map, set, get_or, refl, sym, ap, subst, ◌∙◌, arith}
use Rattle.std.proofs.lemmas.Bool.{cases_eq, cases_lt}
use Rattle.std.proofs.lemmas.List.{get_or-set_other, get_or-append-add, get_or_append_left, get_or_past, length-append, length-set}
use Rattle.sg_base.specs.declared.awaits.Await.{Await}
use Rattle.sg_base.specs.declared.ids.ActorId.{ActorId}
use Rattle.sg_base.specs.declared.ids.BoxId.{BoxId}
use Rattle.sg_activity.specs.Underway.{Underway}
use Rattle.sg_mailbox.specs.declared.sides.Side.{Side}
use Rattle.sg_requests.specs.Requested.{oldest, queue_at, rest_of, serial_of, queues_without_oldest}
use Rattle.sg_actor_states.specs.Actors.{blocking_in}
use Rattle.sg_mailbox.specs.declared.owners.How.{How}
use Rattle.sg_mailbox.specs.declared.owners.How.TheVariants as how
use Rattle.sg_mailbox.specs.declared.owners.Whose.{Whose}
use Rattle.sg_mailbox.specs.declared.owners.Whose.TheVariants.{Over, Posted, Pair}
use Rattle.sg_kernel_calls.specs.Answers.{with_over}
use Rattle.sg_kernel_calls.specs.Kills.{blocked_on}
use Rattle.sg_kernel_calls.specs.Meetings.{asks_for}
use Rattle.sg_kernel_calls.specs.World.{Core, state_of, whose_at}
use Rattle.sg_kernel_calls.proofs.Each.{eq_yes}
use Rattle.sg_engine_laws.specs.awaits.Awaits.{names}
use Rattle.sg_kernel_laws.proofs.actor_lemmas.Others.{set_there}
use Rattle.sg_engine_laws.proofs.await_lemmas.Awaiting.{AreAwaited, Has, IsAwaited, IsCaller, Lacks, Nobody, serials_in, set_at}
use Rattle.sg_engine_laws.proofs.await_lemmas.Over.{is_over, over_there, over_unnamed}

pub unnamed : (target : ActorId) (whose : Whose) → is_over whose ≡ true → IsTrue (names target whose) → ⊥
unnamed target whose over is = true≢false (sym is ∙ over_unnamed target whose over)

-- ---- what names whom
-- less is missed
pub awaited_less : (Misses Less : ActorId → ℕ → Type 0) (going : List ActorId) (core : Core) → ((target : ActorId) (serial : ℕ) → IsTrue (names target (whose_at core serial)) → Misses target serial → Less target serial) → AreAwaited Misses going core → AreAwaited Less going core
awaited_less Misses Less going core so a = record {
  numbered = a.numbered;
  rooms = a.rooms;
  named = λ target serial from is. by target serial is (a.named target serial from is);
  held = a.held;
}
  where
    by : (target : ActorId) (serial : ℕ) → IsTrue (names target (whose_at core serial)) → IsAwaited core.actors core.requests target serial ⊎ Misses target serial → IsAwaited core.actors core.requests target serial ⊎ Less target serial
    by target serial is (inl h) = inl h
    by target serial is (inr missed) = inr (so target serial is missed)

-- an actor that is named now was so before, or is missed now
record Was (Misses Less : ActorId → ℕ → Type 0) (before : List Whose) (target : ActorId) (serial : ℕ) : Type 0 where
  named : IsTrue (names target (get_or before (serial - 1) (Over how.Done)))
  less : Misses target serial → Less target serial

awaited_renamed : (Misses Less : ActorId → ℕ → Type 0) (going : List ActorId) (core : Core) (under : Underway) (whose : List Whose) → length whose ≡ length under.tasks
    → ((target : ActorId) (serial : ℕ) → 0 < serial → IsTrue (names target (get_or whose (serial - 1) (Over how.Done))) → Was Misses Less core.whose target serial ⊎ Less target serial)
    → AreAwaited Misses going core → AreAwaited Less going (record core { under = under; whose = whose })
awaited_renamed Misses Less going core under whose long so a = record {
  numbered = long;
  rooms = a.rooms;
  named = λ target serial from is. by target serial from (so target serial from is);
  held = a.held;
}
  where
    before : (target : ActorId) (serial : ℕ) → (Misses target serial → Less target serial) → IsAwaited core.actors core.requests target serial ⊎ Misses target serial → IsAwaited core.actors core.requests target serial ⊎ Less target serial
    before target serial less (inl h) = inl h
    before target serial less (inr missed) = inr (less missed)

    by : (target : ActorId) (serial : ℕ) → 0 < serial → Was Misses Less core.whose target serial ⊎ Less target serial → IsAwaited core.actors core.requests target serial ⊎ Less target serial
    by target serial from (inl was) = before target serial was.less (a.named target serial from was.named)
    by target serial from (inr less) = inr less

-- an activity ends
pub awaited_over : (Misses Less : ActorId → ℕ → Type 0) (going : List ActorId) (over : How) (serial : ℕ) (core : Core) → ((target : ActorId) (other : ℕ) → Misses target other → (other ≡ serial) ⊎ Less target other) → AreAwaited Misses going core → AreAwaited Less going (with_over over serial core)
awaited_over Misses Less going over serial core so a =
    awaited_renamed Misses Less going core (with_over over serial core).under (set core.whose (serial - 1) (Over over))
    (omega (arith, a.numbered, length-set core.whose (serial - 1) (Over over), length-set core.under.tasks (serial - 1) None)) by a
  where
    after : Whose
    after = get_or (set core.whose (serial - 1) (Over over)) (serial - 1) (Over how.Done)

    apart_less : (target : ActorId) (other : ℕ) → (other - 1 ≡ serial - 1 → ⊥) → (other ≡ serial) ⊎ Less target other → Less target other
    apart_less target other apart (inl same) = absurd (apart (ap (λ n. n - 1) same))
    apart_less target other apart (inr less) = less

    by : (target : ActorId) (other : ℕ) → 0 < other → IsTrue (names target (get_or (set core.whose (serial - 1) (Over over)) (other - 1) (Over how.Done))) → Was Misses Less core.whose target other ⊎ Less target other
    by target other from is = elim (cases_eq (other - 1) (serial - 1)) [
      | inl same ↦ absurd (unnamed target after (over_there core.whose (serial - 1) over) (ap (λ k. names target (get_or (set core.whose (serial - 1) (Over over)) k (Over how.Done))) (sym same) ∙ is))
      | inr apart ↦ inl (record {
        named = ap (names target) (sym (get_or-set_other core.whose (serial - 1) (other - 1) (Over over) (Over how.Done) apart)) ∙ is;
        less = λ missed. apart_less target other apart (so target other missed);
      })
    ]

-- a new activity names an actor alone, which misses it
pub awaited_pushed : (actor : ℕ) (under : Underway) (new : Whose) (core : Core) → length under.tasks ≡ length core.under.tasks + 1 → ((target : ActorId) → IsTrue (names target new) → target.0 ≡ actor)
    → AreAwaited Nobody [] core → AreAwaited (Lacks actor (length core.under.tasks + 1)) [] (record core { under = under; whose = core.whose ++ new ∷ [] })
awaited_pushed actor under new core long only a =
    awaited_renamed Nobody (Lacks actor (length core.under.tasks + 1)) [] core under (core.whose ++ new ∷ [])
    (omega (arith, a.numbered, long, length-append core.whose (new ∷ []))) by a
  where
    by : (target : ActorId) (serial : ℕ) → 0 < serial → IsTrue (names target (get_or (core.whose ++ new ∷ []) (serial - 1) (Over how.Done))) → Was Nobody (Lacks actor (length core.under.tasks + 1)) core.whose target serial ⊎ Lacks actor (length core.under.tasks + 1) target serial
    by target serial from is = elim (cases_lt (serial - 1) (length core.whose)) [
      | inl less ↦ inl (record { named = ap (names target) (sym (get_or_append_left core.whose (new ∷ []) (Over how.Done) (serial - 1) less)) ∙ is; less = λ missed. absurd missed })
      | inr past ↦ elim (cases_eq (serial - 1) (length core.whose + 0)) [
        | inl last ↦
            let here : get_or (core.whose ++ new ∷ []) (serial - 1) (Over how.Done) ≡ new = ap (λ k. get_or (core.whose ++ new ∷ []) k (Over how.Done)) last ∙ get_or-append-add core.whose (new ∷ []) 0 (Over how.Done) in
            inr (ap (λ n. n - 1) (only target (ap (names target) (sym here) ∙ is)), omega (arith, last, from, a.numbered))
        | inr apart ↦
            let gone : get_or (core.whose ++ new ∷ []) (serial - 1) (Over how.Done) ≡ Over how.Done = get_or_past (core.whose ++ new ∷ []) (serial - 1) (Over how.Done) (omega (arith, past, apart, length-append core.whose (new ∷ []))) in
            absurd (unnamed target (get_or (core.whose ++ new ∷ []) (serial - 1) (Over how.Done)) (ap is_over gone) is)
      ]
    ]

-- a posted endpoint matches that of the actor, which misses the activity
named_either : (target : ActorId) (a b : Side) → IsTrue (names target (Pair a b)) → (a.actor.0 ≡ target.0) ⊎ (b.actor.0 ≡ target.0)
named_either target a b is = by (a.actor.0 == target.0) refl is
  where
    by : (c : Bool) → (a.actor.0 == target.0) ≡ c → (c || (b.actor.0 == target.0)) ≡ true → (a.actor.0 ≡ target.0) ⊎ (b.actor.0 ≡ target.0)
    by true e is = inl (grind (arith, e))
    by false e is = inr (grind (arith, is))

pub awaited_joined : (actor serial : ℕ) (mailbox : BoxId) (sends : Bool) (other a b : Side) (under : Underway) (core : Core) → 0 < serial → serial - 1 < length core.whose → length under.tasks ≡ length core.under.tasks
    → whose_at core serial ≡ Posted mailbox sends other → ((target : ActorId) → (a.actor.0 ≡ target.0) ⊎ (b.actor.0 ≡ target.0) → (target.0 ≡ actor) ⊎ (other.actor.0 ≡ target.0))
    → AreAwaited Nobody [] core → AreAwaited (Lacks actor serial) [] (record core { under = under; whose = set core.whose (serial - 1) (Pair a b) })
awaited_joined actor serial mailbox sends other a b under core some within long was both k =
    awaited_renamed Nobody (Lacks actor serial) [] core under (set core.whose (serial - 1) (Pair a b)) (omega (arith, k.numbered, long, length-set core.whose (serial - 1) (Pair a b))) by k
  where
    Named : ActorId → ℕ → Type 0
    Named target n = Was Nobody (Lacks actor serial) core.whose target n ⊎ Lacks actor serial target n

    there : (target : ActorId) (n : ℕ) → n - 1 ≡ serial - 1 → 0 < n → (target.0 ≡ actor) ⊎ (other.actor.0 ≡ target.0) → Named target n
    there target n same from (inl own) = inr (ap (λ i. i - 1) own, omega (arith, same, from, some))
    there target n same from (inr theirs) = inl (record {
      named = ap (λ i. names target (get_or core.whose i (Over how.Done))) same ∙ ap (names target) was ∙ eq_yes other.actor.0 target.0 theirs;
      less = λ missed. absurd missed;
    })

    by : (target : ActorId) (n : ℕ) → 0 < n → IsTrue (names target (get_or (set core.whose (serial - 1) (Pair a b)) (n - 1) (Over how.Done))) → Named target n
    by target n from =
        set_at (λ w. IsTrue (names target w) → Named target n) core.whose (serial - 1) (n - 1) (Pair a b) (Over how.Done) within
        (λ same is. there target n same from (both target (named_either target a b is)))
        (λ apart is. inl (record { named = is; less = λ missed. absurd missed }))

-- ---- what actors ask for
has_pushed : (n : ℕ) (on : Await) (queue : List Await) → Has n (map serial_of queue) ⊎ (n ≡ serial_of on) → Has n (map serial_of (queue ++ on ∷ []))
has_pushed n on [] (inl h) = absurd h
has_pushed n on [] (inr is) = inl is
has_pushed n on (first ∷ queue) (inl (inl is)) = inl is
has_pushed n on (first ∷ queue) (inl (inr h)) = inr (has_pushed n on queue (inl h))
has_pushed n on (first ∷ queue) (inr is) = inr (has_pushed n on queue (inr is))

has_asked : (n : ℕ) (o : Option Await) (on : Await) (queue : List Await) → Has n (map serial_of (option_to_list o ++ queue)) ⊎ (n ≡ serial_of on) → Has n (map serial_of (option_to_list o ++ (queue ++ on ∷ [])))
has_asked n None on queue h = has_pushed n on queue h
has_asked n (Some first) on queue (inl (inl is)) = inl is
has_asked n (Some first) on queue (inl (inr h)) = inr (has_pushed n on queue (inl h))
has_asked n (Some first) on queue (inr is) = inr (has_pushed n on queue (inr is))

has_taken : (n : ℕ) (o : Option Await) (on : Await) (rest : List Await) → Has n (map serial_of (option_to_list o ++ on ∷ rest)) → Has n (map serial_of (option_to_list o ++ rest)) ⊎ (n ≡ serial_of on)
has_taken n None on rest (inl is) = inr is
has_taken n None on rest (inr h) = inl h
has_taken n (Some first) on rest (inl is) = inl (inl is)
has_taken n (Some first) on rest (inr (inl is)) = inr is
has_taken n (Some first) on rest (inr (inr h)) = inl (inr h)

same_queue : (queues : List (List Await)) (actor other : ℕ) → other - 1 ≡ actor - 1 → queue_at queues other ≡ queue_at queues actor
same_queue queues actor other same = ap (λ i. get_or queues i []) same

-- the caller asks for the activity that it misses
pub awaited_asked : (actor : ℕ) (on : Await) (core : Core) → IsCaller actor core → AreAwaited (Lacks actor on.serial.0) [] core → AreAwaited Nobody [] (asks_for actor on core)
awaited_asked actor on core caller a = record {
  numbered = a.numbered;
  rooms = omega (arith, a.rooms, length-set core.requests (actor - 1) (mine ++ on ∷ []));
  named = λ target serial from is.
      set_at (λ queue. Has serial (serials_in (state_of core target.0) queue) ⊎ ⊥) core.requests (actor - 1) (target.0 - 1) (mine ++ on ∷ []) [] (omega (arith, caller.within, a.rooms))
      (λ same. by target serial same (a.named target serial from is)) (λ apart. still target serial apart (a.named target serial from is));
  held = a.held;
}
  where
    mine : List Await
    mine = queue_at core.requests actor

    by : (target : ActorId) (serial : ℕ) → target.0 - 1 ≡ actor - 1 → IsAwaited core.actors core.requests target serial ⊎ Lacks actor on.serial.0 target serial → Has serial (serials_in (state_of core target.0) (mine ++ on ∷ [])) ⊎ ⊥
    by target serial same (inl h) = inl (has_asked serial (blocked_on (blocking_in (state_of core target.0))) on mine (inl (subst (λ queue. Has serial (serials_in (state_of core target.0) queue)) (same_queue core.requests actor target.0 same) h)))
    by target serial same (inr lacks) = inl (has_asked serial (blocked_on (blocking_in (state_of core target.0))) on mine (inr lacks.1))

    still : (target : ActorId) (serial : ℕ) → (target.0 - 1 ≡ actor - 1 → ⊥) → IsAwaited core.actors core.requests target serial ⊎ Lacks actor on.serial.0 target serial → IsAwaited core.actors core.requests target serial ⊎ ⊥
    still target serial apart (inl h) = inl h
    still target serial apart (inr lacks) = absurd (apart lacks.0)

-- the caller misses what its oldest request was
oldest_is : (queue : List Await) (on : Await) → oldest queue ≡ Some on → queue ≡ on ∷ rest_of queue
oldest_is [] on e = absurd (cc e)
oldest_is (first ∷ rest) on e = (let same : first ≡ on = cc e in ap (λ o. o ∷ rest) same)

pub awaited_taken : (actor : ℕ) (on : Await) (core : Core) → oldest (queue_at core.requests actor) ≡ Some on → AreAwaited Nobody [] core → AreAwaited (Lacks actor on.serial.0) [] (record core { requests = queues_without_oldest core.requests actor })
awaited_taken actor on core first a = record {
  numbered = a.numbered;
  rooms = omega (arith, a.rooms, length-set core.requests (actor - 1) rest);
  named = λ target serial from is.
      set_there (λ queue. Has serial (serials_in (state_of core target.0) queue) ⊎ Lacks actor on.serial.0 target serial) core.requests (actor - 1) (target.0 - 1) rest []
      (λ same. by target serial same (a.named target serial from is)) (still target serial (a.named target serial from is));
  held = a.held;
}
  where
    rest : List Await
    rest = rest_of (queue_at core.requests actor)

    left : (target : ActorId) (serial : ℕ) → target.0 - 1 ≡ actor - 1 → Has serial (serials_in (state_of core target.0) rest) ⊎ (serial ≡ on.serial.0) → Has serial (serials_in (state_of core target.0) rest) ⊎ Lacks actor on.serial.0 target serial
    left target serial same (inl h) = inl h
    left target serial same (inr is) = inr (same, is)

    by : (target : ActorId) (serial : ℕ) → target.0 - 1 ≡ actor - 1 → IsAwaited core.actors core.requests target serial ⊎ Nobody target serial → Has serial (serials_in (state_of core target.0) rest) ⊎ Lacks actor on.serial.0 target serial
    by target serial same (inl h) =
        left target serial same (has_taken serial (blocked_on (blocking_in (state_of core target.0))) on rest
        (subst (λ queue. Has serial (serials_in (state_of core target.0) queue)) (same_queue core.requests actor target.0 same ∙ oldest_is (queue_at core.requests actor) on first) h))
    by target serial same (inr missed) = absurd missed

    still : (target : ActorId) (serial : ℕ) → IsAwaited core.actors core.requests target serial ⊎ Nobody target serial → IsAwaited core.actors core.requests target serial ⊎ Lacks actor on.serial.0 target serial
    still target serial (inl h) = inl h
    still target serial (inr missed) = absurd missed
