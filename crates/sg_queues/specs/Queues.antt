-- First-in-first-out queues of values, each in a slot.
use Rattle.std.specs.Prelude.{◌≡◌, ◌≢◌, ℕ, ◌<◌, ◌≤◌, ◌==◌, Bool, true, not, List, [], ◌∷◌, ◌++◌, length, map, filter, slice_set, AllPairs, Option, option_map, Result, IfOk, OnOk, OnErr, refl}
use Rattle.std.specs.List.{list_any}
use Rattle.std.specs.Coded.{Coded, code_by, coded×, coded_ℕ, coded_list}
use Rattle.sg_base.specs.declared.memory.Memory.{Memory}
use Rattle.sg_queues.specs.Rings.{queue_at, behind, front}

-- the values of each queue, in order, each with its slot; and room for so many more
pub record Queues (T : Type 0) : Type 0 where
  pub queues : List (List (ℕ × T))
  pub room : ℕ

abbrev pub queues_code : {T : Type 0} → Coded T → Coded (Queues T)
queues_code {T} code =
    code_by (List (List (ℕ × T)) × ℕ) (coded× (coded_list (coded_list (coded× coded_ℕ code))) coded_ℕ) (λ q. (q.queues, q.room)) (λ p. record { queues = p.0; room = p.1 }) (λ _. refl)

module _ {T : Type 0} where
  abbrev pub value : ℕ × T → T
  value entry = entry.1

  -- the values of each queue, without their slots
  abbrev pub values_of : List (List (ℕ × T)) → List (List T)
  values_of queues = map (map value) queues

  -- whether the slot is in a queue
  abbrev pub holds : ℕ → List (ℕ × T) → Bool
  holds slot queue = list_any (λ (entry : ℕ × T). slot == entry.0) queue

  -- the slot is in one of the queues
  pub record IsHeld (slot : ℕ) (queues : List (List (ℕ × T))) : Type 0 where
    pub queue : ℕ
    pub there : holds slot (queue_at queues queue) ≡ true

  -- a value comes to the end of a queue
  abbrev pub queued : List (List (ℕ × T)) → ℕ → ℕ × T → List (List (ℕ × T))
  queued queues queue entry = slice_set queues queue (queue_at queues queue ++ entry ∷ [])

  -- the first leaves a queue, if there is one
  abbrev pub shortened : List (List (ℕ × T)) → ℕ → List (List (ℕ × T))
  shortened queues queue = slice_set queues queue (behind (queue_at queues queue))

  abbrev pub without_slot : ℕ → List (ℕ × T) → List (ℕ × T)
  without_slot slot queue = filter (λ (entry : ℕ × T). not (entry.0 == slot)) queue

  -- the slot leaves the queue in which it is
  abbrev pub let_go : ℕ → List (List (ℕ × T)) → List (List (ℕ × T))
  let_go slot queues = map (without_slot slot) queues

  -- each slot holds one value, in one queue
  pub record AreSlots (queues : List (List (ℕ × T))) : Type 0 where
    pub once : (queue : ℕ) → AllPairs (λ (a b : ℕ × T). a.0 ≢ b.0) (queue_at queues queue)
    pub apart : (p q slot : ℕ) → holds slot (queue_at queues p) ≡ true → holds slot (queue_at queues q) ≡ true → p ≡ q

  -- there is such a queue, and room for a value
  pub record CanPush (at : ℕ) (old : Queues T) : Type 0 where
    pub queue : at < length old.queues
    pub room : 0 < old.room

  -- the queues stay, and there is room for so many values, or no less than before
  pub record MakesRoom (n : ℕ) (old new : Queues T) (result : Result Unit Memory) : Type 0 where
    pub room : OnOk result (n ≤ new.room)
    pub grows : old.room ≤ new.room
    pub kept : new ≡ record old { room = new.room }

  -- an empty queue is added, whose number is how many there were, or nothing changes
  pub record AddsQueue (old new : Queues T) (result : Result ℕ Memory) : Type 0 where
    pub number : IfOk result (λ number. number ≡ length old.queues)
    pub queue : OnOk result (new ≡ record old { queues = old.queues ++ [] ∷ [] })
    pub slots : OnOk result (AreSlots new.queues)
    pub kept : OnErr result (new ≡ old)

  -- the first value of a queue leaves it and is returned, if there is one, and there is no less room
  pub record PopsFront (at : ℕ) (old new : Queues T) (result : Option T) : Type 0 where
    pub first : result ≡ option_map value (front (queue_at old.queues at))
    pub rest : new.queues ≡ shortened old.queues at
    pub room : old.room ≤ new.room
