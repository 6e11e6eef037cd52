-- Who is blocked by a join, as an actor becomes another.
use Rattle.std.proofs.Common.{◌≡◌, ◌≢◌, ℕ, ◌+◌, ◌*◌, ◌-◌, ◌<◌, ◌≤◌, ◌^◌, Bool, true, false, true≢false, cond, Option, None, Some, List, [], ◌∷◌, length, set, get_or, inl, inr, refl, sym, subst, ap, ◌∙◌, arith}
use Rattle.std.specs.Prelude.{Contains}
use Rattle.std.specs.List.{insert, remove}
use Rattle.std.proofs.lemmas.Bool.{cases_eq, cases_lt, eqb-true, eq-eqb}
use Rattle.std.proofs.lemmas.List.{get_or_default, get_or-set_same, get_or-set_other, length-set}
use Rattle.std.proofs.lemmas.List.Edits.{length-insert, length-remove}
use Rattle.std.proofs.lemmas.List.Quantifiers.{all_pairs_remove}
use Rattle.sg_base.specs.declared.ids.ActorId.{ActorId}
use Rattle.sg_actor_states.specs.declared.joiners.Joiner.{Joiner}
use Rattle.sg_actor_states.specs.declared.state.Actor.{Actor}
use Rattle.sg_actor_states.specs.declared.state.State.TheVariants.{Unstarted, Ready, Blocked, Ended}
use Rattle.sg_actor_states.specs.declared.state.State.{State}
use Rattle.sg_actor_states.specs.Actors.{is_blocked, is_id, joined_in, joiners, joins, not_suspended, state_at, IsJoiner}
use Rattle.sg_actor_states.specs.Queue.{IsIdOf}
use Rattle.sg_actor_states.specs.kept.Places.{IsPlace}
use Rattle.sg_actor_states.specs.kept.Waiting.{is_joining, is_some_id, rank, AreWaiting}
use Rattle.sg_actor_states.proofs.Counts.{count_set, counted_less}
use Rattle.sg_actor_states.proofs.Joining.{first_joins, none_join}
use Rattle.sg_actor_states.proofs.Places.{rises_weakly}
use Rattle.sg_actor_states.proofs.Sorted.{all_inserted, apart_keys, inserted, left_in, place_is, removed_from, rises_inserted, still_in}

some_of : (a b : ActorId) → Some a ≡ Some b → a ≡ b
some_of a b same = ap (λ (o : Option ActorId). unwrapped o) same
  where
    unwrapped : Option ActorId → ActorId
    unwrapped None = a
    unwrapped (Some x) = x

-- for whose end another waits, and the actor itself
others_join : (actors : List Actor) (actor other : ℕ) (next : Actor) → 0 < actor → 0 < other → other ≢ actor → joined_in (state_at (set actors (actor - 1) next) other) ≡ joined_in (state_at actors other)
others_join actors actor other next from some apart = ap (λ (a : Actor). joined_in a.state) (get_or-set_other actors (actor - 1) (other - 1) next (not_suspended Ended) (λ e. apart (omega (arith, e, from, some))))

itself_joins : (actors : List Actor) (actor : ℕ) (next : Actor) → 0 < actor → actor ≤ length actors → joined_in (state_at (set actors (actor - 1) next) actor) ≡ joined_in next.state
itself_joins actors actor next from to = ap (λ (a : Actor). joined_in a.state) (get_or-set_same actors (actor - 1) next (not_suspended Ended) (omega (arith, from, to)))

same_joiner : (joiner : Joiner) (of actor : ActorId) → joiner.of ≡ of → joiner.actor.0 ≡ actor.0 → joiner ≡ record { of = of; actor = actor }
same_joiner joiner of actor whom who =
    let by : (n : ℕ) → joiner.actor.0 ≡ n → joiner ≡ record { of = joiner.of; actor = record { 0 = n } } = λ n e. ap (λ m. record { of = joiner.of; actor = record { 0 = m } }) e in
    by actor.0 who ∙ ap (λ (a : ActorId). record { of = a; actor = actor }) whom

joining_some : (o : Option ActorId) (of : ActorId) → is_some_id o ≡ false → o ≢ Some of
joining_some None of isnt same = true≢false (sym (ap is_some_id same))
joining_some (Some x) of isnt same = true≢false isnt

-- ---- it waits for the same one
pub waiting_same : (actors : List Actor) (list : List Joiner) (actor : ActorId) (next : Actor) → IsIdOf actors actor → joined_in next.state ≡ joined_in (state_at actors actor.0) → AreWaiting actors list → AreWaiting (set actors (actor.0 - 1) next) list
waiting_same actors list actor next is alike old =
    let long = length-set actors (actor.0 - 1) next in
    let place : actor.0 - 1 < length actors = omega (arith, is.0, is.1) in
    let ones : ◌≡◌ {A = ℕ} (cond (is_joining next) 1 0) (cond (is_joining (get_or actors (actor.0 - 1) (not_suspended Ended))) 1 0) = ap (λ o. cond (is_some_id o) 1 0) alike in
    record {
      rises = old.rises;
      ids = λ k d within. let here = old.ids k d within in (here.0, omega (arith, here.1, long));
      wait = λ k d within. each (get_or list k d).actor.0 (old.ids k d within).0 ∙ old.wait k d within;
      has_waiting = λ joiner some waits. old.has_waiting joiner some (sym (each joiner.actor.0 some) ∙ waits);
      number = omega (arith, old.number, ones, count_set is_joining actors (actor.0 - 1) next (not_suspended Ended) place);
    }
  where
    each : (id : ℕ) → 0 < id → joined_in (state_at (set actors (actor.0 - 1) next) id) ≡ joined_in (state_at actors id)
    each id some = elim (cases_eq id actor.0) [
      | inl same ↦ ap (λ n. joined_in (state_at (set actors (actor.0 - 1) next) n)) same ∙ (itself_joins actors actor.0 next is.0 is.1 ∙ (alike ∙ sym (ap (λ n. joined_in (state_at actors n)) same)))
      | inr apart ↦ others_join actors actor.0 id next is.0 some apart
    ]

-- ---- it begins to wait
-- equal ranks are of one actor
one_rank : (a b m n : ℕ) → m < 2 ^ 32 → n < 2 ^ 32 → a * 2 ^ 32 + m ≡ b * 2 ^ 32 + n → m ≡ n
one_rank a b m n low_m low_n same = omega (arith, low_m, low_n, same)

pub waiting_entered : (actors : List Actor) (list : List Joiner) (of actor : ActorId) (next : Actor) (place : ℕ) → length actors < 2 ^ 32 → IsIdOf actors actor → is_some_id (joined_in (state_at actors actor.0)) ≡ false → joined_in next.state ≡ Some of
    → IsPlace rank list (rank (record { of = of; actor = actor })) place → AreWaiting actors list → AreWaiting (set actors (actor.0 - 1) next) (insert list place (record { of = of; actor = actor }))
waiting_entered actors list of actor next place few is isnt now found old =
    let long = length-set actors (actor.0 - 1) next in
    let at : actor.0 - 1 < length actors = omega (arith, is.0, is.1) in
    let joiner : Joiner = record { of = of; actor = actor } in
    let was : ◌≡◌ {A = ℕ} (cond (is_joining (get_or actors (actor.0 - 1) (not_suspended Ended))) 1 0) 0 = ap (λ b. cond b 1 0) isnt in
    let one : ◌≡◌ {A = ℕ} (cond (is_joining next) 1 0) 1 = ap (λ o. cond (is_some_id o) 1 0) now in
    record {
      rises = rises_inserted rank list joiner place old.rises found (λ k d within same.
          apart k d within (one_rank (get_or list k d).of.0 of.0 (get_or list k d).actor.0 actor.0 (omega (arith, few, (old.ids k d within).1)) (omega (arith, few, is.1)) same));
      ids = all_inserted (λ (j : Joiner). IsIdOf (set actors (actor.0 - 1) next) j.actor) list joiner place found.within (is.0, omega (arith, is.1, long)) (λ k d within. let here = old.ids k d within in (here.0, omega (arith, here.1, long)));
      wait = all_inserted (λ (j : Joiner). joined_in (state_at (set actors (actor.0 - 1) next) j.actor.0) ≡ Some j.of) list joiner place found.within (itself_joins actors actor.0 next is.0 is.1 ∙ now)
          (λ k d within. others_join actors actor.0 (get_or list k d).actor.0 next is.0 (old.ids k d within).0 (apart k d within) ∙ old.wait k d within);
      has_waiting = λ j some waits. elim (cases_eq j.actor.0 actor.0) [
        | inl same ↦
            let whom = some_of j.of of (sym waits ∙ (ap (λ n. joined_in (state_at (set actors (actor.0 - 1) next) n)) same ∙ (itself_joins actors actor.0 next is.0 is.1 ∙ now))) in
            subst (λ (x : Joiner). Contains (insert list place joiner) x) (sym (same_joiner j of actor whom same)) (inserted list joiner place found.within)
        | inr differs ↦ still_in list joiner j place found.within (old.has_waiting j some (sym (others_join actors actor.0 j.actor.0 next is.0 some differs) ∙ waits))
      ];
      number = omega (arith, old.number, was, one, length-insert list place joiner found.within, count_set is_joining actors (actor.0 - 1) next (not_suspended Ended) at);
    }
  where
    apart : (k : ℕ) (d : Joiner) → k < length list → (get_or list k d).actor.0 ≢ actor.0
    apart k d within same = joining_some (joined_in (state_at actors actor.0)) (get_or list k d).of isnt (ap (λ n. joined_in (state_at actors n)) (sym same) ∙ old.wait k d within)

-- ---- it no longer waits
pub waiting_left : (actors : List Actor) (list : List Joiner) (of actor : ActorId) (next : Actor) (place : ℕ) → IsIdOf actors actor → joined_in (state_at actors actor.0) ≡ Some of → joined_in next.state ≡ None
    → Contains list (record { of = of; actor = actor }) → IsPlace rank list (rank (record { of = of; actor = actor })) place → AreWaiting actors list → AreWaiting (set actors (actor.0 - 1) next) (remove list place)
waiting_left actors list of actor next place is was now has found old =
    let long = length-set actors (actor.0 - 1) next in
    let at : actor.0 - 1 < length actors = omega (arith, is.0, is.1) in
    let joiner : Joiner = record { of = of; actor = actor } in
    let stands : has.0 ≡ place = place_is rank list joiner place old.rises found has in
    let within : place < length list = omega (arith, stands, has.1) in
    let one : ◌≡◌ {A = ℕ} (cond (is_joining (get_or actors (actor.0 - 1) (not_suspended Ended))) 1 0) 1 = ap (λ o. cond (is_some_id o) 1 0) was in
    let none : ◌≡◌ {A = ℕ} (cond (is_joining next) 1 0) 0 = ap (λ o. cond (is_some_id o) 1 0) now in
    record {
      rises = all_pairs_remove (λ a b. rank a < rank b) list place within old.rises;
      ids = λ k d less.
          let from = removed_from list place k d within less in
          let here = old.ids from.0 d from.1 in
          subst (λ (j : Joiner). IsIdOf (set actors (actor.0 - 1) next) j.actor) (sym from.3) (here.0, omega (arith, here.1, long));
      wait = λ k d less.
          let from = removed_from list place k d within less in
          let here = old.ids from.0 d from.1 in
          subst (λ (j : Joiner). joined_in (state_at (set actors (actor.0 - 1) next) j.actor.0) ≡ Some j.of) (sym from.3)
          (others_join actors actor.0 (get_or list from.0 d).actor.0 next is.0 here.0 (apart from.0 d from.1 (λ e. from.2 (e ∙ stands))) ∙ old.wait from.0 d from.1);
      has_waiting = λ j some waits. elim (cases_eq j.actor.0 actor.0) [
        | inl same ↦
            let nobody = sym waits ∙ (ap (λ n. joined_in (state_at (set actors (actor.0 - 1) next) n)) same ∙ (itself_joins actors actor.0 next is.0 is.1 ∙ now)) in
            absurd (true≢false (ap is_some_id nobody))
        | inr differs ↦
            let there = old.has_waiting j some (sym (others_join actors actor.0 j.actor.0 next is.0 some differs) ∙ waits) in
            left_in list j place within there (λ e. differs (ap (λ (x : Joiner). x.actor.0) (sym there.2 ∙ (get_or_same list there.0 has.0 j joiner (e ∙ sym stands) there.1 ∙ has.2))))
      ];
      number = omega (arith, old.number, one, none, length-remove list place within, count_set is_joining actors (actor.0 - 1) next (not_suspended Ended) at);
    }
  where
    get_or_same : (xs : List Joiner) (i j : ℕ) (d e : Joiner) → i ≡ j → i < length xs → get_or xs i d ≡ get_or xs j e
    get_or_same xs i j d e same less = get_or_default xs i d e less ∙ ap (λ k. get_or xs k e) same

    apart : (k : ℕ) (d : Joiner) → k < length list → k ≢ has.0 → (get_or list k d).actor.0 ≢ actor.0
    apart k d less differs same =
        let waits = old.wait k d less in
        let whom = some_of (get_or list k d).of of (sym waits ∙ (ap (λ n. joined_in (state_at actors n)) same ∙ was)) in
        let it = same_joiner (get_or list k d) of actor whom same in
        apart_keys rank list k has.0 d old.rises less has.1 differs (ap rank it ∙ sym (ap rank (get_or_default list has.0 d (record { of = of; actor = actor }) has.1 ∙ has.2)))

-- ---- who waits for the end of one
who_joins : (target : ℕ) (s : State) → joins target s ≡ true → (of : ActorId) × (joined_in s ≡ Some of) × (of.0 ≡ target)
who_joins target s is = cases (joined_in s) is
  where
    cases : (o : Option ActorId) → is_id target o ≡ true → (of : ActorId) × (o ≡ Some of) × (of.0 ≡ target)
    cases None e = absurd (true≢false (sym e))
    cases (Some of) e = (of, refl, eqb-true of.0 target e)

joins_him : (target : ℕ) (s : State) (of : ActorId) → joined_in s ≡ Some of → of.0 ≡ target → joins target s ≡ true
joins_him target s of waits is = ap (is_id target) waits ∙ eq-eqb of.0 target is

joining_blocked : (s : State) (of : ActorId) → joined_in s ≡ Some of → is_blocked s ≡ true
joining_blocked Unstarted of e = absurd (true≢false (sym (ap is_some_id e)))
joining_blocked (Ready a) of e = absurd (true≢false (sym (ap is_some_id e)))
joining_blocked (Blocked what since on) of e = refl
joining_blocked Ended of e = absurd (true≢false (sym (ap is_some_id e)))

-- whoever waits stands at the place of the first or after it
stands : (actors : List Actor) (list : List Joiner) (target : ActorId) (place k : ℕ) → AreWaiting actors list → IsPlace rank list (rank (record { of = target; actor = record { 0 = 0 } })) place
    → joins target.0 (get_or actors k (not_suspended Ended)).state ≡ true → (m : ℕ) × (place ≤ m) × (m < length list) × ((d : Joiner) → rank (get_or list m d) ≡ target.0 * 2 ^ 32 + (k + 1))
stands actors list target place k is found waits =
    let back : k + 1 - 1 ≡ k = omega arith in
    let who = who_joins target.0 (get_or actors k (not_suspended Ended)).state waits in
    let has = is.has_waiting (record { of = who.0; actor = record { 0 = k + 1 } }) (omega arith) (ap (λ n. joined_in (get_or actors n (not_suspended Ended)).state) back ∙ who.1) in
    let at : (d : Joiner) → rank (get_or list has.0 d) ≡ target.0 * 2 ^ 32 + (k + 1) = λ d. ap rank (get_or_default list has.0 d (record { of = who.0; actor = record { 0 = k + 1 } }) has.1 ∙ has.2) ∙ ap (λ n. n * 2 ^ 32 + (k + 1)) who.2 in
    elim (cases_lt has.0 place) [
      | inl before ↦ absurd (omega (arith, at (record { of = target; actor = target }), found.below has.0 (record { of = target; actor = target }) before))
      | inr past ↦ (has.0, past, has.1, at)
    ]

unless_true : (b : Bool) → (b ≡ true → ⊥) → b ≡ false
unless_true true never = absurd (never refl)
unless_true false never = refl

pub waiting_first : (actors : List Actor) (list : List Joiner) (target : ActorId) (place : ℕ) (joiner : Joiner) → AreWaiting actors list → IsPlace rank list (rank (record { of = target; actor = record { 0 = 0 } })) place
    → place < length list → get_or list place joiner ≡ joiner → joiner.of.0 ≡ target.0 → IsJoiner actors target.0 joiner.actor
waiting_first actors list target place joiner is found within here whom =
    let ids = subst (λ (j : Joiner). IsIdOf actors j.actor) here (is.ids place joiner within) in
    let waits = subst (λ (j : Joiner). joined_in (state_at actors j.actor.0) ≡ Some j.of) here (is.wait place joiner within) in
    let joined = joins_him target.0 (state_at actors joiner.actor.0) joiner.of waits whom in
    let back : 1 + (joiner.actor.0 - 1) ≡ joiner.actor.0 = omega (arith, ids.0) in
    let all = first_joins target.0 1 actors (joiner.actor.0 - 1) (not_suspended Ended) (omega (arith, ids.0, ids.1)) joined (λ k before. unless_true (joins target.0 (get_or actors k (not_suspended Ended)).state) (no_sooner k (omega (arith, before)))) in
    record {
      rest = all.0;
      first = all.1 ∙ ap (λ n. record { 0 = n } ∷ all.0) back;
      from = ids.0;
      to = ids.1;
      joins = joined;
      blocked = joining_blocked (state_at actors joiner.actor.0) joiner.of waits;
    }
  where
    no_sooner : (k : ℕ) → k + 1 < joiner.actor.0 → joins target.0 (get_or actors k (not_suspended Ended)).state ≡ true → ⊥
    no_sooner k before also =
        let at = stands actors list target place k is found also in
        let mine : rank (get_or list place joiner) ≡ target.0 * 2 ^ 32 + joiner.actor.0 = ap rank here ∙ ap (λ n. n * 2 ^ 32 + joiner.actor.0) whom in
        elim (cases_eq at.0 place) [
          | inl same ↦ omega (arith, before, mine, ap (λ m. rank (get_or list m joiner)) same, at.3 joiner)
          | inr apart ↦
              let less : place < at.0 = omega (arith, apart, at.1) in
              omega (arith, before, mine, at.3 joiner, is.rises place at.0 joiner less at.2)
        ]

pub waiting_none : (actors : List Actor) (list : List Joiner) (target : ActorId) (place : ℕ) → length actors < 2 ^ 32 → AreWaiting actors list → IsPlace rank list (rank (record { of = target; actor = record { 0 = 0 } })) place
    → ((d : Joiner) → place < length list → (get_or list place d).of.0 ≢ target.0) → joiners target.0 1 actors ≡ []
waiting_none actors list target place few is found differs = none_join target.0 1 actors (not_suspended Ended) (λ k less. unless_true (joins target.0 (get_or actors k (not_suspended Ended)).state) (nobody k less))
  where
    one_of : (a b m n : ℕ) → m < 2 ^ 32 → n < 2 ^ 32 → b * 2 ^ 32 + 0 ≤ a * 2 ^ 32 + m → a * 2 ^ 32 + m ≤ b * 2 ^ 32 + n → a ≡ b
    one_of a b m n low_m low_n low high = omega (arith, low_m, low_n, low, high)

    nobody : (k : ℕ) → k < length actors → joins target.0 (get_or actors k (not_suspended Ended)).state ≡ true → ⊥
    nobody k less also =
        let at = stands actors list target place k is found also in
        let d : Joiner = record { of = target; actor = target } in
        let within : place < length list = omega (arith, at.1, at.2) in
        let low = found.above place d (omega arith) within in
        let mine : (get_or list place d).actor.0 < 2 ^ 32 = omega (arith, few, (is.ids place d within).1) in
        let high : rank (get_or list place d) ≤ rank (get_or list at.0 d) = rises_weakly rank list is.rises place at.0 d at.1 at.2 in
        differs d within (one_of (get_or list place d).of.0 target.0 (get_or list place d).actor.0 (k + 1) mine (omega (arith, few, less)) low (omega (arith, high, at.3 d)))

-- ---- room among those that wait
pub waiting_room : (actors : List Actor) (list : List Joiner) (actor : ActorId) → IsIdOf actors actor → is_some_id (joined_in (state_at actors actor.0)) ≡ false → AreWaiting actors list → length list < length actors
waiting_room actors list actor is isnt old = omega (arith, old.number, counted_less is_joining actors (actor.0 - 1) (not_suspended Ended) (omega (arith, is.0, is.1)) isnt)

pub none_joined : (actors : List Actor) (actor : ActorId) (i : ℕ) (d : Actor) (o : Option ActorId) → IsIdOf actors actor → i ≡ actor.0 - 1 → o ≡ joined_in (get_or actors i d).state → o ≡ None → is_some_id (joined_in (state_at actors actor.0)) ≡ false
none_joined actors actor i d o is here told none =
    let at : i < length actors = omega (arith, here, is.0, is.1) in
    let same : get_or actors i d ≡ get_or actors (actor.0 - 1) (not_suspended Ended) = get_or_default actors i d (not_suspended Ended) at ∙ ap (λ k. get_or actors k (not_suspended Ended)) here in
    ap is_some_id (sym (ap (λ (a : Actor). joined_in a.state) same) ∙ (sym told ∙ none))
