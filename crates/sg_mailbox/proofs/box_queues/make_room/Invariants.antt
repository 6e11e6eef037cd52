use Rattle.std.proofs.Common.{◌≡◌, ◌-◌, ◌≤◌, ℕ, length}
use Rattle.std.specs.HashMap.{spare}
use Rattle.sg_queues.specs.Serials as serials
use Rattle.sg_base.specs.declared.ids.BoxId.{BoxId}
use Rattle.sg_mailbox.specs.declared.box_queues.Kept.{Kept}
use Rattle.sg_mailbox.specs.Posts.{waiters}
use Rattle.sg_mailbox.specs.kept.Queues.{posts_of, IsKept}
use Rattle.sg_mailbox.proofs.box_queues.make_room.Given as goal

-- the same endpoints wait, and all except the queues is there for so many more
pub record IsGrown (old new : Kept) (more : ℕ) : Type 0 where
  pub kept : IsKept new
  pub same : (mailbox : BoxId) → waiters (posts_of new) mailbox ≡ waiters (posts_of old) mailbox
  pub room : new.room ≡ old.room
  pub numbers : more ≤ spare new.numbers
  pub places : more ≤ serials.room new.places
  pub queues : more ≤ new.queues.room

abbrev pub invariant-loop-kept : goal.invariant-loop-kept
invariant-loop-kept l = IsGrown l.fn.kept l.kept l.room

abbrev pub decreases-loop-kept : goal.decreases-loop-kept
decreases-loop-kept l = l.room - length l.kept.empty.items
