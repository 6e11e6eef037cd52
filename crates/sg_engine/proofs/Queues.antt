-- Who is in the queue of a kernel, and who isn't.
use Rattle.std.proofs.Common.{◌≡◌, ◌∙◌, sym, ap, subst, ℕ, zero, suc, ◌+◌, ◌-◌, ◌<◌, ◌≤◌, Bool, true, false, List, length, get_or, IsTrue, inl, inr, refl, arith}
use Rattle.std.specs.Prelude.{AllPairs}
use Rattle.std.proofs.lemmas.Bool.{cases_lt}
use Rattle.std.proofs.lemmas.List.{get_or_default}
use Rattle.sg_base.specs.declared.ids.ActorId.{ActorId}
use Rattle.sg_actor_states.specs.declared.state.Actor.{Actor}
use Rattle.sg_actor_states.specs.declared.state.State.TheVariants.{Ended}
use Rattle.sg_actor_states.specs.Queue.{IsQueue}
use Rattle.sg_actor_states.specs.Actors.{is_ready, not_suspended}

-- the last id of the first so many
unfoldable pub last_id : List ActorId → ℕ → ℕ
last_id queue zero = 0
last_id queue (suc k) = (get_or queue k (record { 0 = 0 })).0

pub not_true : (b : Bool) → (IsTrue b → ⊥) → b ≡ false
not_true true isnt = absurd (isnt refl)
not_true false isnt = refl

same_read : (queue : List ActorId) (k : ℕ) (d e : ActorId) → k < length queue → (get_or queue k d).0 ≡ (get_or queue k e).0
same_read queue k d e less = ap (λ (a : ActorId). a.0) (get_or_default queue k d e less)

not_early : (states : List Actor) (queue : List ActorId) (k m j : ℕ) (d : ActorId) → IsQueue states queue → m < k → k ≤ length queue → last_id queue k ≤ j → (get_or queue m d).0 ≡ j + 1 → ⊥
unfolding last_id
not_early states queue zero m j d is less long from id = absurd (omega (arith, less))
not_early states queue (suc k) m j d is less long from id =
    let read = same_read queue k d (record { 0 = 0 }) (omega (arith, long)) in
    let last : (get_or queue k (record { 0 = 0 })).0 ≤ j = from in
    elim (cases_lt m k) [
      | inl before ↦ absurd (omega (arith, is.rises m k d before (omega (arith, long)), id, last, read))
      | inr at ↦ let same : m ≡ k = omega (arith, less, at) in absurd (omega (arith, id, last, read, ap (λ n. (get_or queue n d).0) same))
    ]

-- those after the first so many have ids above c
none_between : (states : List Actor) (queue : List ActorId) (k c j : ℕ) → IsQueue states queue → k ≤ length queue → ((m : ℕ) (d : ActorId) → k ≤ m → m < length queue → c < (get_or queue m d).0) → last_id queue k ≤ j → j < c → is_ready (get_or states j (not_suspended Ended)) ≡ false
none_between states queue k c j is within above from to = not_true (is_ready (get_or states j (not_suspended Ended))) (λ ready.
    let back : j + 1 - 1 ≡ j = omega arith in
    let me : ActorId = record { 0 = j + 1 } in
    let has = is.has_ready me (omega arith) (subst (λ n. IsTrue (is_ready (get_or states n (not_suspended Ended)))) (sym back) ready) in
    let id : (get_or queue has.0 me).0 ≡ j + 1 = ap (λ (a : ActorId). a.0) has.2 in
    elim (cases_lt has.0 k) [
      | inl before ↦ not_early states queue k has.0 j me is before within from id
      | inr behind ↦ absurd (omega (arith, above has.0 me behind has.1, id, to))
    ])

-- ---- where a turn stands in the queue
pub last_next : (queue : List ActorId) (k : ℕ) → 0 < (get_or queue k (record { 0 = 0 })).0 → last_id queue (k + 1) ≡ (get_or queue k (record { 0 = 0 })).0 - 1 + 1
unfolding last_id
last_next queue k from = let next : k + 1 ≡ suc k = omega arith in ap (last_id queue) next ∙ let back : (get_or queue k (record { 0 = 0 })).0 ≡ (get_or queue k (record { 0 = 0 })).0 - 1 + 1 = omega (arith, from) in back

-- the same, by the place before
pub last_at : (queue : List ActorId) (k : ℕ) → 0 < k → last_id queue k ≡ (get_or queue (k - 1) (record { 0 = 0 })).0
unfolding last_id
last_at queue zero some = absurd (omega (arith, some))
last_at queue (suc k) some = let back : k ≡ suc k - 1 = omega arith in ap (λ n. (get_or queue n (record { 0 = 0 })).0) back

pub last_before : (states : List Actor) (queue : List ActorId) (k : ℕ) → IsQueue states queue → k < length queue → last_id queue k ≤ (get_or queue k (record { 0 = 0 })).0 - 1
unfolding last_id
last_before states queue zero is within = omega arith
last_before states queue (suc k) is within = omega (arith, is.rises k (suc k) (record { 0 = 0 }) (omega arith) within)

pub last_within : (states : List Actor) (queue : List ActorId) (k : ℕ) → IsQueue states queue → k ≤ length queue → last_id queue k ≤ length states
unfolding last_id
last_within states queue zero is within = omega arith
last_within states queue (suc k) is within = (is.ids k (record { 0 = 0 }) (omega (arith, within))).1

above_here : (queue : List ActorId) (k m : ℕ) (d : ActorId) → AllPairs (λ (a b : ActorId). a.0 < b.0) queue → 0 < (get_or queue k (record { 0 = 0 })).0 → k ≤ m → m < length queue → (get_or queue k (record { 0 = 0 })).0 - 1 < (get_or queue m d).0
above_here queue k m d rises from le within =
    let read = same_read queue k d (record { 0 = 0 }) (omega (arith, le, within)) in
    elim (cases_lt k m) [
      | inl behind ↦ omega (arith, rises k m d behind within, read)
      | inr at ↦ let same : k ≡ m = omega (arith, le, at) in omega (arith, from, read, ap (λ n. (get_or queue n d).0) same)
    ]

-- no actor before this place, and after the one before it, is ready
pub quiet : (states : List Actor) (queue : List ActorId) (k j : ℕ) → IsQueue states queue → k < length queue → last_id queue k ≤ j → j < (get_or queue k (record { 0 = 0 })).0 - 1 → is_ready (get_or states j (not_suspended Ended)) ≡ false
quiet states queue k j is within from to =
    none_between states queue k ((get_or queue k (record { 0 = 0 })).0 - 1) j is (omega (arith, within)) (λ m d le less. above_here queue k m d is.rises (is.ids k (record { 0 = 0 }) within).0 le less) from to

-- and no actor after the last one
pub quiet_end : (states : List Actor) (queue : List ActorId) (k j : ℕ) → IsQueue states queue → k ≤ length queue → length queue ≤ k → last_id queue k ≤ j → j < length states → is_ready (get_or states j (not_suspended Ended)) ≡ false
quiet_end states queue k j is within past from to =
    none_between states queue k (length states) j is within (λ m d le less. absurd (omega (arith, le, less, past))) from to
