-- What the functions of the mailboxes ask for, and what they do.
use Rattle.std.specs.Prelude.{◌≡◌, ℕ, ◌-◌, ◌<◌, ◌≤◌, Some, [], ◌∷◌, ◌++◌}
use Rattle.sg_base.specs.declared.ids.BoxId.{BoxId}
use Rattle.sg_mailbox.specs.declared.box_queues.Kept.{Kept}
use Rattle.sg_mailbox.specs.declared.sides.Post.{Post}
use Rattle.sg_mailbox.specs.Posts.{waiters, AllStay, OthersStay}
use Rattle.sg_mailbox.specs.kept.Queues.{number, posts_of, IsKept, IsKeptBut}

-- ---- what is asked for
-- there is to be so much room, which is no less than there is
pub record CanGrow (room : ℕ) (old : Kept) : Type 0 where
  pub kept : IsKept old
  pub more : old.room ≤ room

-- there is room for an arriving endpoint
pub record CanTake (old : Kept) : Type 0 where
  pub kept : IsKept old
  pub room : 0 < old.room

-- ---- what is done
-- the same endpoints wait, and there is no less room
pub record Keeps (old new : Kept) : Type 0 where
  pub grows : old.room ≤ new.room
  pub same : AllStay (posts_of old) (posts_of new)
  pub kept : IsKept new

-- the same endpoints wait, and there is as much room
pub record Stays (old new : Kept) : Type 0 where
  pub same : AllStay (posts_of old) (posts_of new)
  pub room : new.room ≡ old.room
  pub kept : IsKept new

-- the mailbox has this queue, in which nobody may wait; the same endpoints wait, and there is as much room
pub record Opens (mailbox : BoxId) (at : ℕ) (old new : Kept) : Type 0 where
  pub queue : number new mailbox ≡ Some at
  pub same : AllStay (posts_of old) (posts_of new)
  pub room : new.room ≡ old.room
  pub kept : IsKeptBut mailbox (new.room - 1) new

-- an endpoint waits after the others in the mailbox
pub record Waits (mailbox : BoxId) (post : Post) (old new : Kept) : Type 0 where
  pub there : waiters (posts_of new) mailbox ≡ waiters (posts_of old) mailbox ++ post ∷ []
  pub elsewhere : OthersStay mailbox (posts_of old) (posts_of new)
  pub room : new.room ≡ old.room - 1
  pub kept : IsKept new
