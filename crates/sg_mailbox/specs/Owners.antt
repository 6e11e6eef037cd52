-- The waiters of each activity, by activity id.
use Rattle.std.specs.Prelude.{◌≡◌, ℕ, zero, suc, ◌+◌, ◌<◌, ◌≤◌, ◌^◌, Option, unwrap_or, Result, OnOk, List, [], ◌∷◌, length}
use Rattle.sg_base.specs.declared.memory.Memory.{Memory}
use Rattle.sg_mailbox.specs.declared.owners.How.TheVariants as how
use Rattle.sg_mailbox.specs.declared.owners.Whose.{Whose}
use Rattle.sg_mailbox.specs.declared.owners.Whose.TheVariants.{Over}

-- the waiters of each activity ever made, by activity id from 1 on, and room for so many more
pub record Owned : Type 0 where
  pub whose : List Whose
  pub room : ℕ

-- it keeps nothing of one that is done
abbrev pub whose_of : Option Whose → Whose
whose_of kept = unwrap_or kept (Over how.Done)

-- the waiters of so many activities, from this id on
unfoldable pub table : (ℕ → Option Whose) → ℕ → ℕ → List Whose
table owner from zero = []
table owner from (suc n) = whose_of (owner from) ∷ table owner (from + 1) n

-- an activity has this id
pub record IsDrawn (serial : ℕ) (owned : Owned) : Type 0 where
  pub from : 0 < serial
  pub to : serial ≤ length owned.whose

-- activity ids remain, and there is room for an activity
pub record CanPush (owned : Owned) : Type 0 where
  pub few : length owned.whose < 10 ^ 9
  pub room : 0 < owned.room

-- There is room for so many, unless memory was lacking. Nothing else changes, and the room doesn't shrink.
pub record HoldsMore (n : ℕ) (old new : Owned) (result : Result Unit Memory) : Type 0 where
  pub room : OnOk result (n ≤ new.room)
  pub grows : old.room ≤ new.room
  pub kept : new ≡ record old { room = new.room }
