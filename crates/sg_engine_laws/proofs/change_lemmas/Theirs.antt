-- An actor that waits for an activity takes part in it, as what actors do, phases and the waiters of activities change.
use Rattle.std.proofs.Common.{◌≡◌, ◌⊎◌, ℕ, zero, suc, ◌+◌, ◌-◌, ◌<◌, ◌≤◌, true, false, inl, inr, Option, None, Some, option_map, List, [], ◌∷◌, ◌++◌, length, map, set, get_or, refl, sym, ap, subst, ◌∙◌, arith}
use Rattle.std.specs.List.{All}
use Rattle.std.proofs.lemmas.Bool.{cases_eq, cases_lt}
use Rattle.std.proofs.lemmas.List.{get_or-set_same, get_or-set_other, get_or_past, get_or_append_left, get_or-append-add, length-set, length-append}
use Rattle.std.proofs.lemmas.List.Elements.{All-nil, All-cons, All-append, All-head, All-tail}
use Rattle.sg_base.specs.declared.awaits.Await.{Await}
use Rattle.sg_base.specs.declared.call.Answer.{Answer}
use Rattle.sg_base.specs.declared.call.Call.{Call}
use Rattle.sg_activity.specs.Task.{Task}
use Rattle.sg_activity.specs.Underway.{Underway}
use Rattle.sg_requests.specs.Requested.{oldest, queue_at, rest_of, queues_without_oldest}
use Rattle.sg_actor_states.specs.declared.state.Actor.{Actor}
use Rattle.sg_actor_states.specs.declared.state.State.{State}
use Rattle.sg_actor_states.specs.declared.state.State.TheVariants.{Ready, Blocked}
use Rattle.sg_actor_states.specs.Actors.{put_state, state_at}
use Rattle.sg_mailbox.specs.declared.owners.How.{How}
use Rattle.sg_mailbox.specs.declared.owners.How.TheVariants as how
use Rattle.sg_mailbox.specs.declared.owners.Whose.{Whose}
use Rattle.sg_mailbox.specs.declared.owners.Whose.TheVariants.{Over}
use Rattle.sg_kernel_calls.specs.kept.Sound.{is_posted}
use Rattle.sg_kernel_calls.specs.Answers.{with_over}
use Rattle.sg_kernel_calls.specs.Meetings.{asks_for}
use Rattle.sg_kernel_calls.specs.Steps.{blocked_by, readied}
use Rattle.sg_kernel_calls.specs.World.{Core, whose_at}
use Rattle.sg_kernel_laws.proofs.failure_lemmas.Passed.{put_there, set_there}
use Rattle.sg_engine_laws.proofs.await_lemmas.Over.{is_over}
use Rattle.sg_engine_laws.specs.changes.Theirs.{PartOf}

-- what an actor waits for: it takes part in it, and it isn't over
pub record IsPart (whose : List Whose) (actor : ℕ) (on : Await) : Type 0 where
  pub from : 0 < on.serial.0
  pub part : PartOf actor (get_or whose (on.serial.0 - 1) (Over how.Done)) on.party

-- what it asked for may have ended
pub record IsAsked (whose : List Whose) (actor : ℕ) (on : Await) : Type 0 where
  pub from : 0 < on.serial.0
  pub made : on.serial.0 - 1 < length whose
  pub part : (is_over (get_or whose (on.serial.0 - 1) (Over how.Done)) ≡ true) ⊎ PartOf actor (get_or whose (on.serial.0 - 1) (Over how.Done)) on.party

-- no actor is left
abbrev pub Nobody : ℕ → Await → Type 0
Nobody actor on = ⊥

-- the actor took part in the activity with this id, which was such
abbrev pub LeftOf : ℕ → Whose → ℕ → Await → Type 0
LeftOf serial was actor on = (0 < on.serial.0) × (on.serial.0 - 1 ≡ serial - 1) × PartOf actor was on.party

-- all take part in what they wait for, except for who is left; and no communication with one endpoint runs
pub record HaveParts (Left : ℕ → Await → Type 0) (actors : List Actor) (tasks : List (Option Task)) (whose : List Whose) (requests : List (List Await)) : Type 0 where
  pub numbered : length whose ≡ length tasks
  pub waits : (actor since : ℕ) (what : Call) (on : Await) → 0 < actor → state_at actors actor ≡ Blocked what since (Some on) → IsPart whose actor on ⊎ Left actor on
  pub asked : (actor : ℕ) → 0 < actor → All (IsAsked whose actor) (queue_at requests actor)
  pub posted : (place : ℕ) → is_posted (get_or whose place (Over how.Done)) ≡ true → get_or tasks place None ≡ None

abbrev pub TakePart : (ℕ → Await → Type 0) → Core → Type 0
TakePart Left core = HaveParts Left core.actors core.under.tasks core.whose core.requests

-- ---- what actors do
-- an actor that is blocked on an activity was so before
pub parts_fewer : (Left : ℕ → Await → Type 0) (old new : List Actor) (tasks : List (Option Task)) (whose : List Whose) (requests : List (List Await)) → ((actor since : ℕ) (what : Call) (on : Await) → state_at new actor ≡ Blocked what since (Some on) → state_at old actor ≡ Blocked what since (Some on)) → HaveParts Left old tasks whose requests → HaveParts Left new tasks whose requests
parts_fewer Left old new tasks whose requests so p = record {
  numbered = p.numbered;
  waits = λ actor since what on from e. p.waits actor since what on from (so actor since what on e);
  asked = p.asked;
  posted = p.posted;
}

pub parts_put : (Left : ℕ → Await → Type 0) (core : Core) (actor : ℕ) (state : State) → ((since : ℕ) (what : Call) (on : Await) → state ≡ Blocked what since (Some on) → ⊥) → TakePart Left core → TakePart Left (record core { actors = put_state core.actors actor state })
parts_put Left core actor state free =
    parts_fewer Left core.actors (put_state core.actors actor state) core.under.tasks core.whose core.requests
    (λ other since what on. put_there (λ now. now ≡ Blocked what since (Some on) → state_at core.actors other ≡ Blocked what since (Some on)) core.actors actor other state (λ same e. absurd (free since what on e)) (λ e. e))

pub parts_ready : (Left : ℕ → Await → Type 0) (core : Core) (actor : ℕ) (answer : Answer) → TakePart Left core → TakePart Left (readied actor answer core)
parts_ready Left core actor answer p = parts_put Left core actor (Ready answer) (λ since what on e. absurd (cc e)) p

pub parts_blocked : (Left : ℕ → Await → Type 0) (core : Core) (actor : ℕ) (what : Call) (on : Await) → 0 < actor → IsPart core.whose actor on → TakePart Left core → TakePart Left (blocked_by actor what (Some on) core)
parts_blocked Left core actor what on from part p = record {
  numbered = p.numbered;
  waits = λ other since which side some.
      put_there (λ state. state ≡ Blocked which since (Some side) → IsPart core.whose other side ⊎ Left other side) core.actors actor other (Blocked what core.under.date (Some on))
      (λ same e. inl (by other since which side (omega (arith, same, from, some)) e)) (p.waits other since which side some);
  asked = p.asked;
  posted = p.posted;
}
  where
    by : (other since : ℕ) (which : Call) (side : Await) → actor ≡ other → Blocked what core.under.date (Some on) ≡ Blocked which since (Some side) → IsPart core.whose other side
    by other since which side same e =
        let await : on ≡ side = cc e in
        subst (λ n. IsPart core.whose n side) same (subst (IsPart core.whose actor) await part)

-- ---- what actors asked for
pub parts_queued : (Left : ℕ → Await → Type 0) (core : Core) (actor : ℕ) (queue : List Await) → ((other : ℕ) → 0 < other → other - 1 ≡ actor - 1 → All (IsAsked core.whose other) queue) → TakePart Left core → TakePart Left (record core { requests = set core.requests (actor - 1) queue })
parts_queued Left core actor queue are p = record {
  numbered = p.numbered;
  waits = p.waits;
  asked = λ other some.
      set_there (λ (q : List Await). All (IsAsked core.whose other) q) core.requests (actor - 1) (other - 1) queue [] (are other some) (p.asked other some);
  posted = p.posted;
}

-- those of one that has a number
own_queue : (whose : List Whose) (actor : ℕ) (queue : List Await) → 0 < actor → All (IsAsked whose actor) queue → (other : ℕ) → 0 < other → other - 1 ≡ actor - 1 → All (IsAsked whose other) queue
own_queue whose actor queue from are other some same = by (omega (arith, same, from, some))
  where
    by : actor ≡ other → All (IsAsked whose other) queue
    by is = subst (λ n. All (IsAsked whose n) queue) is are

pub parts_asks : (Left : ℕ → Await → Type 0) (core : Core) (actor : ℕ) (on : Await) → 0 < actor → IsAsked core.whose actor on → TakePart Left core → TakePart Left (asks_for actor on core)
parts_asks Left core actor on from asked p =
    let P = IsAsked core.whose actor in
    parts_queued Left core actor (queue_at core.requests actor ++ on ∷ []) (own_queue core.whose actor _ from (All-append P (queue_at core.requests actor) (on ∷ []) (p.asked actor from) (All-cons P on [] asked (All-nil P)))) p

rest_all : (P : Await → Type 0) (queue : List Await) → All P queue → All P (rest_of queue)
rest_all P [] all = All-nil P
rest_all P (on ∷ queue) all = All-tail P on queue all

pub oldest_is : (P : Await → Type 0) (queue : List Await) (on : Await) → oldest queue ≡ Some on → All P queue → P on
oldest_is P [] on e all = absurd (cc e)
oldest_is P (first ∷ queue) on e all = (let same : first ≡ on = cc e in subst P same (All-head P first queue all))

pub parts_taken : (Left : ℕ → Await → Type 0) (core : Core) (actor : ℕ) → 0 < actor → TakePart Left core → TakePart Left (record core { requests = queues_without_oldest core.requests actor })
parts_taken Left core actor from p = parts_queued Left core actor (rest_of (queue_at core.requests actor)) (own_queue core.whose actor _ from (rest_all (IsAsked core.whose actor) (queue_at core.requests actor) (p.asked actor from))) p

-- ---- phases
-- if nothing is running now, nothing is later
pub parts_tasks : (Left : ℕ → Await → Type 0) (actors : List Actor) (tasks later : List (Option Task)) (whose : List Whose) (requests : List (List Await)) → length later ≡ length tasks → ((place : ℕ) → get_or tasks place None ≡ None → get_or later place None ≡ None) → HaveParts Left actors tasks whose requests → HaveParts Left actors later whose requests
parts_tasks Left actors tasks later whose requests long none p = record {
  numbered = p.numbered ∙ sym long;
  waits = p.waits;
  asked = p.asked;
  posted = λ place is. none place (p.posted place is);
}

pub none_changed : (tasks : List (Option Task)) (at place : ℕ) (slot : Option Task) → (get_or tasks at None ≡ None → slot ≡ None) → get_or tasks place None ≡ None → get_or (set tasks at slot) place None ≡ None
none_changed tasks at place slot so none = set_there (λ (x : Option Task). x ≡ None) tasks at place slot None (λ same. so (ap (λ k. get_or tasks k None) (sym same) ∙ none)) none

pub none_mapped : (change : Task → Task) (tasks : List (Option Task)) (place : ℕ) → get_or tasks place None ≡ None → get_or (map (option_map change) tasks) place None ≡ None
none_mapped change [] place none = refl
none_mapped change (slot ∷ tasks) zero none = ap (option_map change) none
none_mapped change (slot ∷ tasks) (suc place) none = none_mapped change tasks place none

-- ---- whose activities are
gone_past : (whose : List Whose) (place : ℕ) → length whose ≤ place → (actor : ℕ) (on : Await) → PartOf actor (get_or whose place (Over how.Done)) on.party → ⊥
gone_past whose place past actor on part = subst (λ w. PartOf actor w on.party) (get_or_past whose place (Over how.Done) past) part

part_pushed : (whose : List Whose) (w : Whose) (actor : ℕ) (on : Await) → IsPart whose actor on → IsPart (whose ++ w ∷ []) actor on
part_pushed whose w actor on p = elim (cases_lt (on.serial.0 - 1) (length whose)) [
  | inl less ↦ record { from = p.from; part = subst (λ x. PartOf actor x on.party) (sym (get_or_append_left whose (w ∷ []) (Over how.Done) (on.serial.0 - 1) less)) p.part }
  | inr past ↦ absurd (gone_past whose (on.serial.0 - 1) past actor on p.part)
]

asked_pushed : (whose : List Whose) (w : Whose) (actor : ℕ) (on : Await) → IsAsked whose actor on → IsAsked (whose ++ w ∷ []) actor on
asked_pushed whose w actor on a = record {
  from = a.from;
  made = omega (arith, a.made, length-append whose (w ∷ []));
  part = subst (λ x. (is_over x ≡ true) ⊎ PartOf actor x on.party) (sym (get_or_append_left whose (w ∷ []) (Over how.Done) (on.serial.0 - 1) a.made)) a.part;
}

pub at_end : {X : Type 0} (xs : List X) (x d : X) (place : ℕ) → place ≡ length xs → get_or (xs ++ x ∷ []) place d ≡ x
at_end xs x d place same =
    let there : place ≡ length xs + 0 = omega (arith, same) in
    ap (λ k. get_or (xs ++ x ∷ []) k d) there ∙ get_or-append-add xs (x ∷ []) 0 d

posted_pushed : (tasks : List (Option Task)) (whose : List Whose) (slot : Option Task) (w : Whose) → length whose ≡ length tasks → (is_posted w ≡ true → slot ≡ None) → ((place : ℕ) → is_posted (get_or whose place (Over how.Done)) ≡ true → get_or tasks place None ≡ None) →
    (place : ℕ) → is_posted (get_or (whose ++ w ∷ []) place (Over how.Done)) ≡ true → get_or (tasks ++ slot ∷ []) place None ≡ None
posted_pushed tasks whose slot w even idle was place is = elim (cases_lt place (length whose)) [
  | inl less ↦
      get_or_append_left tasks (slot ∷ []) None place (omega (arith, less, even))
      ∙ was place (ap is_posted (sym (get_or_append_left whose (w ∷ []) (Over how.Done) place less)) ∙ is)
  | inr past ↦ elim (cases_eq place (length whose)) [
    | inl last ↦ at_end tasks slot None place (omega (arith, last, even)) ∙ idle (ap is_posted (sym (at_end whose w (Over how.Done) place last)) ∙ is)
    | inr more ↦ get_or_past (tasks ++ slot ∷ []) place None (by past more)
  ]
]
  where
    by : length whose ≤ place → (place ≡ length whose → ⊥) → length (tasks ++ slot ∷ []) ≤ place
    by past more = omega (arith, past, more, even, length-append tasks (slot ∷ []))

pub parts_pushed : (Left : ℕ → Await → Type 0) (actors : List Actor) (tasks : List (Option Task)) (whose : List Whose) (requests : List (List Await)) (slot : Option Task) (w : Whose) → (is_posted w ≡ true → slot ≡ None) → HaveParts Left actors tasks whose requests → HaveParts Left actors (tasks ++ slot ∷ []) (whose ++ w ∷ []) requests
parts_pushed Left actors tasks whose requests slot w idle p = record {
  numbered = omega (arith, p.numbered, length-append whose (w ∷ []), length-append tasks (slot ∷ []));
  waits = λ actor since what on from e. by actor on (p.waits actor since what on from e);
  asked = λ actor from k d within. asked_pushed whose w actor (get_or (queue_at requests actor) k d) (p.asked actor from k d within);
  posted = posted_pushed tasks whose slot w p.numbered idle p.posted;
}
  where
    by : (actor : ℕ) (on : Await) → IsPart whose actor on ⊎ Left actor on → IsPart (whose ++ w ∷ []) actor on ⊎ Left actor on
    by actor on (inl part) = inl (part_pushed whose w actor on part)
    by actor on (inr left) = inr left

posted_set : (tasks : List (Option Task)) (whose : List Whose) (at : ℕ) (slot : Option Task) (w : Whose) → is_posted w ≡ false → ((place : ℕ) → is_posted (get_or whose place (Over how.Done)) ≡ true → get_or tasks place None ≡ None) →
    (place : ℕ) → is_posted (get_or (set whose at w) place (Over how.Done)) ≡ true → get_or (set tasks at slot) place None ≡ None
posted_set tasks whose at slot w none was place = elim (cases_eq place at) [
  | inl same ↦ λ is. absurd (by same is)
  | inr apart ↦ λ is. get_or-set_other tasks at place slot None apart ∙ was place (ap is_posted (sym (get_or-set_other whose at place w (Over how.Done) apart)) ∙ is)
]
  where
    by : place ≡ at → is_posted (get_or (set whose at w) place (Over how.Done)) ≡ true → ⊥
    by same is = elim (cases_lt at (length whose)) [
      | inl less ↦ absurd (cc (sym none ∙ ap is_posted (sym (get_or-set_same whose at w (Over how.Done) less)) ∙ ap (λ k. is_posted (get_or (set whose at w) k (Over how.Done))) (sym same) ∙ is))
      | inr past ↦ absurd (cc (sym (ap is_posted (get_or_past (set whose at w) place (Over how.Done) (omega (arith, same, past, length-set whose at w)))) ∙ is))
    ]

asked_over : (whose : List Whose) (at : ℕ) (over : How) (actor : ℕ) (on : Await) → IsAsked whose actor on → IsAsked (set whose at (Over over)) actor on
asked_over whose at over actor on a = record {
  from = a.from;
  made = omega (arith, a.made, length-set whose at (Over over));
  part = set_there (λ (x : Whose). (is_over x ≡ true) ⊎ PartOf actor x on.party) whose at (on.serial.0 - 1) (Over over) (Over how.Done) (λ same. inl refl) a.part;
}

-- an activity ends: who took part in it is left
pub parts_over : (over : How) (serial : ℕ) (core : Core) → TakePart Nobody core → TakePart (LeftOf serial (whose_at core serial)) (with_over over serial core)
parts_over over serial core p = record {
  numbered = length-set core.whose (serial - 1) (Over over) ∙ p.numbered ∙ sym (length-set core.under.tasks (serial - 1) None);
  waits = λ actor since what on from e. by actor on (p.waits actor since what on from e);
  asked = λ actor from k d within. asked_over core.whose (serial - 1) over actor (get_or (queue_at core.requests actor) k d) (p.asked actor from k d within);
  posted = posted_set core.under.tasks core.whose (serial - 1) None (Over over) refl p.posted;
}
  where
    part : (actor : ℕ) (on : Await) → IsPart core.whose actor on → IsPart (set core.whose (serial - 1) (Over over)) actor on ⊎ LeftOf serial (whose_at core serial) actor on
    part actor on is = elim (cases_eq (on.serial.0 - 1) (serial - 1)) [
      | inl same ↦ inr (is.from, same, subst (λ k. PartOf actor (get_or core.whose k (Over how.Done)) on.party) same is.part)
      | inr apart ↦ inl (record { from = is.from; part = subst (λ x. PartOf actor x on.party) (sym (get_or-set_other core.whose (serial - 1) (on.serial.0 - 1) (Over over) (Over how.Done) apart)) is.part })
    ]

    by : (actor : ℕ) (on : Await) → IsPart core.whose actor on ⊎ ⊥ → IsPart (set core.whose (serial - 1) (Over over)) actor on ⊎ LeftOf serial (whose_at core serial) actor on
    by actor on (inl is) = part actor on is
    by actor on (inr none) = absurd none

-- both endpoints are there: who was one of them is so still
pub parts_paired : (serial : ℕ) (under : Underway) (was now : Whose) (core : Core) (slot : Option Task) → under.tasks ≡ set core.under.tasks (serial - 1) slot → serial - 1 < length core.whose → whose_at core serial ≡ was → is_over was ≡ false → is_posted now ≡ false →
    ((actor : ℕ) (on : Await) → PartOf actor was on.party → PartOf actor now on.party) → TakePart Nobody core → TakePart Nobody (record core { under = under; whose = set core.whose (serial - 1) now })
parts_paired serial under was now core slot tasks within is live none so p = record {
  numbered = length-set core.whose (serial - 1) now ∙ p.numbered ∙ sym (ap length tasks ∙ length-set core.under.tasks (serial - 1) slot);
  waits = λ actor since what on from e. by actor on (p.waits actor since what on from e);
  asked = λ actor from k d inside. asked actor (get_or (queue_at core.requests actor) k d) (p.asked actor from k d inside);
  posted = λ place e. ap (λ (ts : List (Option Task)). get_or ts place None) tasks ∙ posted_set core.under.tasks core.whose (serial - 1) slot now none p.posted place e;
}
  where
    Fits : ℕ → Await → Whose → Type 0
    Fits actor on x = (is_over x ≡ true) ⊎ PartOf actor x on.party

    here : (actor : ℕ) (on : Await) → on.serial.0 - 1 ≡ serial - 1 → PartOf actor (get_or core.whose (on.serial.0 - 1) (Over how.Done)) on.party → PartOf actor now on.party
    here actor on same part = so actor on (subst (λ x. PartOf actor x on.party) (ap (λ k. get_or core.whose k (Over how.Done)) same ∙ is) part)

    fits : (actor : ℕ) (on : Await) → on.serial.0 - 1 ≡ serial - 1 → Fits actor on (get_or core.whose (on.serial.0 - 1) (Over how.Done)) → Fits actor on now
    fits actor on same (inl over) = absurd (cc (sym live ∙ ap is_over (sym (ap (λ k. get_or core.whose k (Over how.Done)) same ∙ is)) ∙ over))
    fits actor on same (inr part) = inr (here actor on same part)

    asked : (actor : ℕ) (on : Await) → IsAsked core.whose actor on → IsAsked (set core.whose (serial - 1) now) actor on
    asked actor on a = record {
      from = a.from;
      made = omega (arith, a.made, length-set core.whose (serial - 1) now);
      part = set_there (Fits actor on) core.whose (serial - 1) (on.serial.0 - 1) now (Over how.Done) (λ same. fits actor on same a.part) a.part;
    }

    by : (actor : ℕ) (on : Await) → IsPart core.whose actor on ⊎ ⊥ → IsPart (set core.whose (serial - 1) now) actor on ⊎ ⊥
    by actor on (inl part) = inl (record { from = part.from; part = set_there (λ x. PartOf actor x on.party) core.whose (serial - 1) (on.serial.0 - 1) now (Over how.Done) (λ same. here actor on same part.part) part.part })
    by actor on (inr left) = absurd left
