-- Slots, each of which is alone, idle or in one queue at any time.
use Rattle.std.specs.Prelude.{◌≡◌, ◌≢◌, ℕ, ◌+◌, ◌<◌, ◌==◌, nat_eq, Bool, true, false, not, Option, None, Some, List, [], ◌∷◌, ◌++◌, length, map, filter, slice_index_or, slice_set, AllPairs, Result, IfOk, OnOk, OnErr}
use Rattle.std.specs.List.{list_any}
use Rattle.sg_base.specs.declared.memory.Memory.{Memory}

-- how many nodes there are: slots, and heads, which never move; the head of the idle slots, and after it that of each queue; and which slots are idle and in each queue, in order
pub record Rings : Type 0 where
  pub nodes : ℕ
  pub heads : List ℕ
  pub idle : List ℕ
  pub queues : List (List ℕ)

abbrev pub is_in : ℕ → List ℕ → Bool
is_in node nodes = list_any (nat_eq node) nodes

-- the queue of this number
abbrev pub queue_at : {X : Type 0} → List (List X) → ℕ → List X
queue_at queues queue = slice_index_or queues queue []

-- the first of a queue, if it isn't empty
abbrev pub front : {X : Type 0} → List X → Option X
front [] = None
front (first ∷ rest) = Some first

-- the queue after its first
abbrev pub behind : {X : Type 0} → List X → List X
behind [] = []
behind (first ∷ rest) = rest

-- a node that isn't a head
pub record IsSlot (nodes : ℕ) (heads : List ℕ) (node : ℕ) : Type 0 where
  pub within : node < nodes
  pub moves : is_in node heads ≡ false

abbrev pub without : ℕ → List ℕ → List ℕ
without slot queue = filter (λ other. not (other == slot)) queue

-- the slot leaves its place
abbrev pub left : ℕ → List (List ℕ) → List (List ℕ)
left slot rows = map (without slot) rows

-- the slot comes to the end of this row
abbrev pub joined : ℕ → ℕ → List (List ℕ) → List (List ℕ)
joined slot row rows = slice_set rows row (queue_at rows row ++ slot ∷ [])

-- the slot is in none of these rows
abbrev pub IsAlone : ℕ → List (List ℕ) → Type 0
IsAlone slot rows = (row : ℕ) → is_in slot (queue_at rows row) ≡ false

-- a slot is in one of these rows at most, and once there; and each row has a head of its own
pub record AreApart (nodes : ℕ) (heads : List ℕ) (rows : List (List ℕ)) : Type 0 where
  pub count : length rows ≡ length heads
  pub below : (head : ℕ) → is_in head heads ≡ true → head < nodes
  pub distinct : AllPairs (λ a b. a ≢ b) heads
  pub slots : (row slot : ℕ) → is_in slot (queue_at rows row) ≡ true → IsSlot nodes heads slot
  pub once : (row : ℕ) → AllPairs (λ a b. a ≢ b) (queue_at rows row)
  pub apart : (p q slot : ℕ) → is_in slot (queue_at rows p) ≡ true → is_in slot (queue_at rows q) ≡ true → p ≡ q

-- the idle slots, and those of each queue
abbrev pub rows_of : Rings → List (List ℕ)
rows_of rings = rings.idle ∷ rings.queues

abbrev pub IsApart : Rings → Type 0
IsApart rings = AreApart rings.nodes rings.heads (rows_of rings)

-- an empty queue is added, whose number is how many there were, or nothing changes
pub record AddsQueue (old new : Rings) (result : Result ℕ Memory) : Type 0 where
  pub number : IfOk result (λ number. number ≡ length old.queues)
  pub queue : OnOk result (new ≡ record old { nodes = old.nodes + 1; heads = old.heads ++ old.nodes ∷ []; queues = old.queues ++ [] ∷ [] })
  pub apart : OnOk result (IsApart new)
  pub kept : OnErr result (new ≡ old)

-- a slot is added, which is alone, and whose number is how many nodes there were, or nothing changes
pub record AddsSlot (old new : Rings) (result : Result ℕ Memory) : Type 0 where
  pub number : IfOk result (λ slot. slot ≡ old.nodes)
  pub slot : OnOk result (new ≡ record old { nodes = old.nodes + 1 })
  pub alone : OnOk result (IsAlone old.nodes (rows_of new))
  pub is : OnOk result (IsSlot new.nodes new.heads old.nodes)
  pub apart : OnOk result (IsApart new)
  pub kept : OnErr result (new ≡ old)

-- the slot is alone, and there is such a queue for it
pub record CanJoin (node at : ℕ) (rings : Rings) : Type 0 where
  pub slot : IsSlot rings.nodes rings.heads node
  pub alone : IsAlone node (rows_of rings)
  pub queue : at < length rings.queues
