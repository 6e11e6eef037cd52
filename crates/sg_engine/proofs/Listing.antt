-- The calls of a scheduling round, with those that weren't made and without.
use Rattle.std.proofs.Common.{◌≡◌, ◌≢◌, ◌∙◌, sym, ap, subst, refl, ℕ, zero, suc, ◌+◌, ◌-◌, ◌<◌, ◌≤◌, Bool, true, false, cond, List, [], ◌∷◌, ◌++◌, length, map, get_or, take, Option, None, Some, IsTrue, arith}
use Rattle.std.specs.Prelude.{All, AllPairs}
use Rattle.std.proofs.lemmas.List.{get_or_default, take_all}
use Rattle.std.proofs.lemmas.List.Elements.{All-nil, All-cons}
use Rattle.std.proofs.lemmas.List.Kept.{AllPairs-cons}
use Rattle.sg_actor.specs.Seats.{SeatView, KeepsLimits}
use Rattle.sg_base.specs.Limits.{Extent, IsCall}
use Rattle.sg_base.specs.Mind.{Mind}
use Rattle.sg_base.specs.declared.call.Answer.{Answer}
use Rattle.sg_base.specs.declared.call.Call.{Call}
use Rattle.sg_actor_states.specs.declared.state.Actor.{Actor}
use Rattle.sg_actor_states.specs.declared.state.State.{State}
use Rattle.sg_actor_states.specs.declared.state.State.TheVariants.{Unstarted, Ready, Blocked, Ended}
use Rattle.sg_kernel_calls.specs.World.{Core, MayCall}
use Rattle.sg_actor_states.specs.Actors.{answer_in, inbox_of, is_answered, not_suspended}
use Rattle.sg_engine.specs.World.{World}
use Rattle.sg_engine.specs.declared.actor_call.ActorCall.{ActorCall}
use Rattle.sg_engine.specs.declared.ended.Ended.{Ended as Ending}
use Rattle.sg_engine.specs.kept.CallList.{with_call, call_list, calls_of}
use Rattle.sg_engine.specs.Run.{Scene, Answering, Progress, with_front, then_unless_ended, and_then_by, unless_killed, if_call, calls_from, zip_with, call_after, inboxes}
use Rattle.sg_engine.specs.kept.SeatRules.{call_in}

-- ---- what isn't there is answered by nothing
then_same : (how : Option Ending) (first : Progress) (f g : World → Progress) → ((w : World) → f w ≡ g w) → and_then_by how first f ≡ and_then_by how first g
then_same None first f g same = ap (with_front first.made) (same first.world)
then_same (Some how) first f g same = refl

listed_call : (at : Scene) (answers : Answering) (actor : ℕ) (what : Option Call) (rest : List (Option Call)) (world : World) → ((w : World) → calls_of at answers (call_list (actor + 1) rest) w ≡ calls_from at answers (actor + 1) rest w) →
    calls_of at answers (with_call actor what (call_list (actor + 1) rest)) world ≡ then_unless_ended (if_call at answers actor what world) (calls_from at answers (actor + 1) rest)
unfolding calls_of
listed_call at answers actor None rest world same = same world
listed_call at answers actor (Some what) rest world same =
    then_same (unless_killed at answers actor what world).ended (unless_killed at answers actor what world) (calls_of at answers (call_list (actor + 1) rest)) (calls_from at answers (actor + 1) rest) same

pub calls_listed : (at : Scene) (answers : Answering) (actor : ℕ) (calls : List (Option Call)) (world : World) → calls_of at answers (call_list actor calls) world ≡ calls_from at answers actor calls world
unfolding calls_of calls_from call_list
calls_listed at answers actor [] world = refl
calls_listed at answers actor (what ∷ rest) world = listed_call at answers actor what rest world (λ w. calls_listed at answers (actor + 1) rest w)

-- ---- what is true of the calls that were made
all_one : (P : ActorCall → Type 0) (actor : ℕ) (what : Option Call) (rest : List ActorCall) → ((made : Call) → what ≡ Some made → P (record { actor = record { 0 = actor }; call = made })) → All P rest → All P (with_call actor what rest)
all_one P actor None rest here more = more
all_one P actor (Some made) rest here more = All-cons P (record { actor = record { 0 = actor }; call = made }) rest (here made refl) more

pub listed_all : (P : ActorCall → Type 0) (actor : ℕ) (calls : List (Option Call)) → ((i : ℕ) (made : Call) → get_or calls i None ≡ Some made → P (record { actor = record { 0 = actor + i }; call = made })) → All P (call_list actor calls)
unfolding call_list
listed_all P actor [] each = All-nil P
listed_all P actor (what ∷ rest) each =
    let first : actor + 0 ≡ actor = omega arith in
    all_one P actor what (call_list (actor + 1) rest)
    (λ made is. subst (λ n. P (record { actor = record { 0 = n }; call = made })) first (each 0 made is))
    (listed_all P (actor + 1) rest (λ i made is. let next : actor + suc i ≡ actor + 1 + i = omega arith in subst (λ n. P (record { actor = record { 0 = n }; call = made })) next (each (suc i) made is)))

rises_one : (actor : ℕ) (what : Option Call) (rest : List ActorCall) → All (λ (made : ActorCall). actor < made.actor.0) rest → AllPairs (λ (a b : ActorCall). a.actor.0 < b.actor.0) rest → AllPairs (λ (a b : ActorCall). a.actor.0 < b.actor.0) (with_call actor what rest)
rises_one actor None rest above more = more
rises_one actor (Some made) rest above more = AllPairs-cons (λ (a b : ActorCall). a.actor.0 < b.actor.0) (record { actor = record { 0 = actor }; call = made }) rest above more

pub listed_rises : (actor : ℕ) (calls : List (Option Call)) → AllPairs (λ (a b : ActorCall). a.actor.0 < b.actor.0) (call_list actor calls)
unfolding call_list
listed_rises actor [] = λ i j d less within. absurd (omega (arith, within))
listed_rises actor (what ∷ rest) = rises_one actor what (call_list (actor + 1) rest) (listed_all (λ (made : ActorCall). actor < made.actor.0) (actor + 1) rest (λ i made is. omega arith)) (listed_rises (actor + 1) rest)

-- a later call is another actor's
pub other_actor : (calls : List ActorCall) (i j : ℕ) (d e : ActorCall) → AllPairs (λ (a b : ActorCall). a.actor.0 < b.actor.0) calls → i < j → j < length calls → (get_or calls j d).actor.0 ≢ (get_or calls i e).actor.0
other_actor calls i j d e rises less within same =
    absurd (omega (arith, rises i j d less within, same, ap (λ (made : ActorCall). made.actor.0) (get_or_default calls i d e (omega (arith, less, within)))))

short_one : (actor : ℕ) (what : Option Call) (rest : List ActorCall) → length (with_call actor what rest) ≤ suc (length rest)
short_one actor None rest = omega arith
short_one actor (Some made) rest = omega arith

pub listed_short : (actor : ℕ) (calls : List (Option Call)) → length (call_list actor calls) ≤ length calls
unfolding call_list
listed_short actor [] = omega arith
listed_short actor (what ∷ rest) = omega (arith, short_one actor what (call_list (actor + 1) rest), listed_short (actor + 1) rest)

-- ---- who has called was ready
some_by : (m : Option Mind) (suspended : Bool) (state : State) (what : Call) → call_after m (cond suspended None (answer_in state)) ≡ Some what → is_answered state ≡ true
some_by m true state what e = absurd (cc e)
some_by m false Unstarted what e = absurd (cc e)
some_by m false (Ready b) what e = refl
some_by m false (Blocked c w o) what e = absurd (cc e)
some_by m false Ended what e = absurd (cc e)

pub call_ready : (minds : List (Option Mind)) (actors : List Actor) (i : ℕ) (what : Call) → get_or (zip_with call_after minds (map inbox_of actors)) i None ≡ Some what → (i < length actors) × IsTrue (is_answered (get_or actors i (not_suspended Ended)).state)
call_ready [] actors i what e = absurd (cc e)
call_ready (m ∷ minds) [] i what e = absurd (cc e)
call_ready (m ∷ minds) (s ∷ actors) zero what e = (omega arith, some_by m s.suspended s.state what e)
call_ready (m ∷ minds) (s ∷ actors) (suc i) what e = let r = call_ready minds actors i what e in (omega (arith, r.0), r.1)

pub call_may : (minds : List (Option Mind)) (core : Core) (i : ℕ) (what : Call) → get_or (zip_with call_after minds (inboxes core)) i None ≡ Some what → MayCall core (i + 1)
call_may minds core i what e =
    let r = call_ready minds core.actors i what e in
    let back : i + 1 - 1 ≡ i = omega arith in
    record { from = omega arith; to = omega (arith, r.0); ready = subst (λ k. IsTrue (is_answered (get_or core.actors k (not_suspended Ended)).state)) (sym back) r.1 }

pub row_short : (xs : List (Option Mind)) (ys : List (Option Answer)) → length (zip_with call_after xs ys) ≤ length xs
row_short [] ys = omega arith
row_short (x ∷ xs) [] = omega arith
row_short (x ∷ xs) (y ∷ ys) = omega (arith, row_short xs ys)

-- an actor that has called was ready
pub listed_may : (minds : List (Option Mind)) (core : Core) → All (λ (made : ActorCall). MayCall core made.actor.0) (call_list 1 (zip_with call_after minds (inboxes core)))
listed_may minds core = listed_all (λ (made : ActorCall). MayCall core made.actor.0) 1 (zip_with call_after minds (inboxes core)) (λ i made is. let same : i + 1 ≡ 1 + i = omega arith in subst (MayCall core) same (call_may minds core i made is))

-- those of places within the limits keep to them
call_limited : (extent : Extent) (place : SeatView) (made : Call) → KeepsLimits extent place → call_in place ≡ Some made → IsCall extent made
call_limited extent place made is e =
    let by : (b : Bool) → cond b (Some place.outbox) None ≡ Some made → IsCall extent made = λ b. elim b as (λ (v : Bool). cond v (Some place.outbox) None ≡ Some made → IsCall extent made) [
      | true ↦ λ same. subst (IsCall extent) (let out : place.outbox ≡ made = cc same in out) is.2
      | false ↦ λ same. absurd (cc same)
    ] in
    by place.ready e

pub calls_limited : (extent : Extent) (actor : ℕ) (places : List SeatView) → All (KeepsLimits extent) places → All (λ (made : ActorCall). IsCall extent made.call) (call_list actor (map call_in places))
unfolding call_list
calls_limited extent actor [] limited = All-nil (λ (made : ActorCall). IsCall extent made.call)
calls_limited extent actor (place ∷ places) limited =
    all_one (λ (made : ActorCall). IsCall extent made.call) actor (call_in place) (call_list (actor + 1) (map call_in places))
    (λ made is. call_limited extent place made (limited 0 place (omega arith)) is)
    (calls_limited extent (actor + 1) places (λ k d within. limited (suc k) d (omega (arith, within))))

-- ---- call by call
none_listed : (actor : ℕ) (calls : List (Option Call)) (c : ℕ) → ((j : ℕ) → j < c → get_or calls j None ≡ None) → call_list actor (take c calls) ≡ []
unfolding call_list
none_listed actor [] zero none = refl
none_listed actor [] (suc c) none = refl
none_listed actor (what ∷ calls) zero none = refl
none_listed actor (what ∷ calls) (suc c) none =
    ap (λ (o : Option Call). with_call actor o (call_list (actor + 1) (take c calls))) (none 0 (omega arith)) ∙ none_listed (actor + 1) calls c (λ j within. none (suc j) (omega (arith, within)))

-- nothing is added if no actor between has called
pub skipped_calls : (actor : ℕ) (calls : List (Option Call)) (b c : ℕ) → b ≤ c → ((j : ℕ) → b ≤ j → j < c → get_or calls j None ≡ None) → call_list actor (take b calls) ≡ call_list actor (take c calls)
unfolding call_list
skipped_calls actor [] zero zero le none = refl
skipped_calls actor [] zero (suc c) le none = refl
skipped_calls actor [] (suc b) zero le none = refl
skipped_calls actor [] (suc b) (suc c) le none = refl
skipped_calls actor (what ∷ calls) zero c le none = sym (none_listed actor (what ∷ calls) c (λ j within. none j (omega arith) within))
skipped_calls actor (what ∷ calls) (suc b) zero le none = absurd (omega (arith, le))
skipped_calls actor (what ∷ calls) (suc b) (suc c) le none =
    ap (λ (l : List ActorCall). with_call actor what l) (skipped_calls (actor + 1) calls b c (omega (arith, le)) (λ j from to. none (suc j) (omega (arith, from)) (omega (arith, to))))

front_one : (actor : ℕ) (what : Option Call) (front back : List ActorCall) → with_call actor what (front ++ back) ≡ with_call actor what front ++ back
front_one actor None front back = refl
front_one actor (Some made) front back = refl

listed_next : (actor : ℕ) (calls : List (Option Call)) (i : ℕ) → i < length calls → call_list actor (take (suc i) calls) ≡ call_list actor (take i calls) ++ with_call (actor + i) (get_or calls i None) []
unfolding call_list
listed_next actor [] i within = absurd (omega (arith, within))
listed_next actor (what ∷ calls) zero within = let here : actor ≡ actor + 0 = omega arith in ap (λ n. with_call n what []) here
listed_next actor (what ∷ calls) (suc i) within =
    let next : actor + 1 + i ≡ actor + suc i = omega arith in
    ap (λ (l : List ActorCall). with_call actor what l) (listed_next (actor + 1) calls i (omega (arith, within)) ∙ ap (λ n. call_list (actor + 1) (take i calls) ++ with_call n (get_or calls i None) []) next)
    ∙ front_one actor what (call_list (actor + 1) (take i calls)) (with_call (actor + suc i) (get_or calls i None) [])

-- one call more, as the loop has it
pub calls_next : (calls : List (Option Call)) (items items' : List ActorCall) (i id : ℕ) (call : Option Call) → i < length calls → items ≡ call_list 1 (take i calls) → items' ≡ items ++ with_call id call [] → 1 + i ≡ id → call ≡ get_or calls i None →
    items' ≡ call_list 1 (take (i + 1) calls)
calls_next calls items items' i id call within before added at is =
    let next : suc i ≡ i + 1 = omega arith in
    added
    ∙ ap (λ (l : List ActorCall). l ++ with_call id call []) before
    ∙ ap (λ (o : Option Call). call_list 1 (take i calls) ++ with_call id o []) is
    ∙ ap (λ n. call_list 1 (take i calls) ++ with_call n (get_or calls i None) []) (sym at)
    ∙ sym (listed_next 1 calls i within)
    ∙ ap (λ n. call_list 1 (take n calls)) next

pub all_listed : (calls : List (Option Call)) (n : ℕ) → length calls ≤ n → call_list 1 (take n calls) ≡ call_list 1 calls
all_listed calls n long = ap (call_list 1) (take_all n calls long)
