-- How the queues of mailboxes are kept: by number, with the place of each endpoint by its activity id.
use Rattle.std.specs.Prelude.{◌≡◌, ◌≢◌, ℕ, ◌+◌, ◌<◌, ◌≤◌, ◌==◌, Bool, true, false, Option, None, Some, IfSome, List, [], length, map, All, AllPairs, vec_capacity}
use Rattle.std.specs.HashMap.{get, spare, hash_map_len}
use Rattle.sg_base.specs.declared.ids.BoxId.{BoxId}
use Rattle.sg_queues.specs.Serials as serials
use Rattle.sg_queues.specs.Rings.{queue_at}
use Rattle.sg_queues.specs.Queues.{holds, value, values_of, AreSlots}
use Rattle.sg_mailbox.specs.declared.sides.Post.{Post}
use Rattle.sg_mailbox.specs.declared.sides.Place.{Place}
use Rattle.sg_mailbox.specs.declared.box_queues.Kept.{Kept}
use Rattle.sg_mailbox.specs.Posts.{Posts, box_eq}

-- the queue of a mailbox
abbrev pub number : Kept → BoxId → Option ℕ
number kept mailbox = get box_eq kept.numbers mailbox

-- the place where the endpoint of an activity id waits
abbrev pub place : Kept → ℕ → Option Place
place kept serial = serials.at kept.places serial

abbrev pub posts_of : Kept → Posts
posts_of kept = record { numbers = kept.numbers.entries; queues = values_of kept.queues.queues; room = kept.room }

-- a queue in which nobody waits, and which is no mailbox's
pub record IsFree (number : BoxId → Option ℕ) (queues : List (List (ℕ × Post))) (queue : ℕ) : Type 0 where
  pub within : queue < length queues
  pub none : queue_at queues queue ≡ []
  pub nobodys : (mailbox : BoxId) → number mailbox ≢ Some queue

-- each queue is one mailbox's, or waits to be some mailbox's
pub record AreNumbered (number : BoxId → Option ℕ) (empty : List ℕ) (queues : List (List (ℕ × Post))) : Type 0 where
  pub within : (mailbox : BoxId) (queue : ℕ) → number mailbox ≡ Some queue → queue < length queues
  pub once : (a b : BoxId) (queue : ℕ) → number a ≡ Some queue → number b ≡ Some queue → a ≡ b
  pub free : All (IsFree number queues) empty
  pub distinct : AllPairs (λ a b. a ≢ b) empty

abbrev pub is_at : ℕ → Option Place → Bool
is_at slot None = false
is_at slot (Some place) = slot == place.slot

pub record IsPlace (number : BoxId → Option ℕ) (queues : List (List (ℕ × Post))) (place : Place) : Type 0 where
  pub queue : number place.mailbox ≡ Some place.queue
  pub there : holds place.slot (queue_at queues place.queue) ≡ true

-- each waiting endpoint has the place of its activity id, and no other
pub record ArePlaced (number : BoxId → Option ℕ) (place : ℕ → Option Place) (queues : List (List (ℕ × Post))) : Type 0 where
  pub told : (queue serial : ℕ) → All (λ (entry : ℕ × Post). is_at entry.0 (place serial) ≡ (entry.1.serial.0 == serial)) (queue_at queues queue)
  pub held : (serial : ℕ) → IfSome (place serial) (IsPlace number queues)

-- those that wait in a queue are of one kind, by rising activity id
abbrev pub AreOrdered : List Post → Type 0
AreOrdered posts = AllPairs (λ (first later : Post). (first.sends ≡ later.sends) × (first.serial.0 < later.serial.0)) posts

-- what one that comes may need, with so many more mailboxes
pub record HasRoom (more : ℕ) (kept : Kept) : Type 0 where
  pub numbers : more ≤ spare kept.numbers
  pub empty : more ≤ length kept.empty.items
  pub places : kept.room ≤ serials.room kept.places
  pub queues : kept.room ≤ kept.queues.room
  pub stack : length kept.empty.items + hash_map_len kept.numbers ≤ vec_capacity kept.empty

-- somebody waits in each mailbox that has a queue, except perhaps in these
pub record AreKept (more : ℕ) (may_be_empty : BoxId → Type 0) (kept : Kept) : Type 0 where
  pub roomy : HasRoom more kept
  pub numbered : AreNumbered (number kept) kept.empty.items kept.queues.queues
  pub placed : ArePlaced (number kept) (place kept) kept.queues.queues
  pub slots : AreSlots kept.queues.queues
  pub ordered : (queue : ℕ) → AreOrdered (map value (queue_at kept.queues.queues queue))
  pub filled : (mailbox : BoxId) (queue : ℕ) → number kept mailbox ≡ Some queue → queue_at kept.queues.queues queue ≡ [] → may_be_empty mailbox

abbrev pub IsKept : Kept → Type 0
IsKept kept = AreKept kept.room (λ _. ⊥) kept

-- between two steps of a call: nobody may wait in this mailbox
abbrev pub IsKeptBut : BoxId → ℕ → Kept → Type 0
IsKeptBut mailbox more kept = AreKept more (λ other. other ≡ mailbox) kept
