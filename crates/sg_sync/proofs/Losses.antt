-- No call loses an actor that waits.
use Rattle.std.proofs.Common.{◌≡◌, ◌≢◌, ◌<◌, ◌≤◌, ◌+◌, ◌∙◌, ap, sym, refl, ℕ, eqb, [], length, Option, None, Some, inl, inr, arith}
use Rattle.std.specs.Prelude.{nat_lt}
use Rattle.std.proofs.lemmas.Bool.{cases_Bool}
use Rattle.std.proofs.lemmas.Bool.Decides.{nat_tests}
use Rattle.sg_base.specs.declared.ids.ActorId.{ActorId}
use Rattle.sg_queues.specs.Rings.{queue_at, front}
use Rattle.sg_sync.specs.Queues.{times}
use Rattle.sg_sync.specs.Objects.{Objects, Done, owner_of, count_of, waiting, locked, locked_by, unlocked, unlocked_by, acquired, released, released_to, arrived}
use Rattle.sg_sync.specs.declared.outcome.Outcome.{Outcome}
use Rattle.sg_sync.specs.declared.outcome.Outcome.TheVariants.{GoesOn, Waits, Refused}
use Rattle.sg_sync.specs.Laws.{KeepsAll, WaitsOnce, comers}
use Rattle.sg_sync.proofs.Counts.{id_same, one_same, one_other, times_cons, times_more, waits_joined, waits_left}

lock_keeps : (owner : Option ActorId) (o : Objects) (caller : ActorId) (mutex : ℕ) → mutex < length o.locking → KeepsAll caller o (locked_by owner caller mutex o)
lock_keeps None o caller mutex below actor = omega arith
lock_keeps (Some owner) o caller mutex below actor = omega (arith, waits_joined caller actor o.locking mutex below, times_cons actor caller [])

unlock_keeps : (owner : Option ActorId) (o : Objects) (caller : ActorId) (mutex : ℕ) → mutex < length o.locking → KeepsAll caller o (unlocked_by owner caller mutex o)
unlock_keeps None o caller mutex below actor = omega arith
unlock_keeps (Some owner) o caller mutex below actor = elim (cases_Bool (eqb owner.0 caller.0)) [
  | inl is ↦ rw is (omega (arith, waits_left actor o.locking mutex below))
  | inr isnt ↦ rw isnt (omega arith)
]

pub locked_keeps : (o : Objects) (caller : ActorId) (mutex : ℕ) → mutex < length o.locking → KeepsAll caller o (locked caller mutex o)
locked_keeps o caller mutex below = lock_keeps (owner_of o mutex) o caller mutex below

pub unlocked_keeps : (o : Objects) (caller : ActorId) (mutex : ℕ) → mutex < length o.locking → KeepsAll caller o (unlocked caller mutex o)
unlocked_keeps o caller mutex below = unlock_keeps (owner_of o mutex) o caller mutex below

pub acquired_keeps : (o : Objects) (caller : ActorId) (semaphore : ℕ) → semaphore < length o.acquiring → KeepsAll caller o (acquired caller semaphore o)
acquired_keeps o caller semaphore below actor = elim (cases_Bool (nat_lt 0 (count_of o semaphore))) [
  | inl some ↦ rw some (omega arith)
  | inr none ↦ rw none (omega (arith, waits_joined caller actor o.acquiring semaphore below, times_cons actor caller []))
]

release_keeps : (first : Option ActorId) (o : Objects) (caller : ActorId) (semaphore : ℕ) → first ≡ front (queue_at o.acquiring semaphore) → semaphore < length o.acquiring → KeepsAll caller o (released_to first semaphore o)
release_keeps None o caller semaphore is below actor = omega arith
release_keeps (Some first) o caller semaphore is below actor =
    let left = waits_left actor o.acquiring semaphore below in
    omega (arith, rw (← is) at left)

pub released_keeps : (o : Objects) (caller : ActorId) (semaphore : ℕ) → semaphore < length o.acquiring → KeepsAll caller o (released semaphore o)
released_keeps o caller semaphore below = release_keeps (front (queue_at o.acquiring semaphore)) o caller semaphore refl below

pub arrived_keeps : (o : Objects) (caller : ActorId) → KeepsAll caller o (arrived caller o)
arrived_keeps o caller actor = elim (cases_Bool (nat_lt (length o.arrived + 1) o.members)) [
  | inl few ↦ rw few (omega (arith, times_more actor caller o.arrived, times_cons actor caller []))
  | inr all ↦ rw all (omega arith)
]

comer_once : (caller actor : ActorId) (outcome : Outcome) (n : ℕ) → (caller.0 ≡ actor.0 → n ≡ 0) → n ≤ 1 → n + times actor (comers caller outcome) ≤ 1
comer_once caller actor GoesOn n free once = omega (arith, once)
comer_once caller actor Refused n free once = omega (arith, once)
comer_once caller actor Waits n free once = elim (cases_Bool (eqb caller.0 actor.0)) [
  | inl is ↦
      let same : caller.0 ≡ actor.0 = grind (arith, nat_tests) in
      omega (arith, free same, times_cons actor caller [], one_same actor caller same)
  | inr isnt ↦
      let differs : caller.0 ≢ actor.0 = grind (arith, nat_tests) in
      omega (arith, once, times_cons actor caller [], one_other actor caller differs)
]

pub once_after : (o : Objects) (caller : ActorId) (done : Done) → KeepsAll caller o done → waiting o caller ≡ 0 → WaitsOnce o → WaitsOnce done.after
once_after o caller done keeps free once actor =
    omega (arith, keeps actor, comer_once caller actor done.outcome (waiting o actor) (λ same. ap (waiting o) (sym (id_same caller actor same)) ∙ free) (once actor))
