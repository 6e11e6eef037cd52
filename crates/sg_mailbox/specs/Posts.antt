-- Communications with one endpoint, mailbox by mailbox.
use Rattle.std.specs.Prelude.{◌≡◌, ◌≢◌, ℕ, ◌-◌, ◌<◌, ◌≤◌, Bool, not, ◌==◌, Option, None, Some, option_map, List, [], ◌∷◌, ◌++◌, All, filter, slice_index_or, if◌then◌else◌, Result, OnOk}
use Rattle.std.specs.List.{find, AllPairs}
use Rattle.std.specs.Map.{lookup}
use Rattle.sg_base.specs.declared.ids.BoxId.{BoxId}
use Rattle.sg_base.specs.declared.ids.Serial.{Serial}
use Rattle.sg_base.specs.declared.memory.Memory.{Memory}
use Rattle.sg_base.specs.contracts.ids.BoxIdPartialEq.TheImpl as box_eq_impl
use Rattle.sg_mailbox.specs.declared.sides.Side.{Side}
use Rattle.sg_mailbox.specs.declared.sides.Found.{Found}
use Rattle.sg_mailbox.specs.declared.sides.Meeting.{Meeting}
use Rattle.sg_mailbox.specs.declared.sides.Meeting.TheVariants.{Posted, Met}
use Rattle.sg_mailbox.specs.declared.sides.Post.{Post}

-- the queue of each mailbox in which somebody waits, who waits in each queue in the order of arrival, and room for so many more arriving endpoints
pub record Posts : Type 0 where
  pub numbers : List (BoxId × ℕ)
  pub queues : List (List Post)
  pub room : ℕ

-- whether two mailboxes are the same
abbrev pub box_eq : BoxId → BoxId → Bool
box_eq = (box_eq_impl.ghosts).eq

-- the queue of a mailbox
abbrev pub queue_of : Posts → BoxId → Option ℕ
queue_of posts mailbox = lookup (box_eq mailbox) posts.numbers

abbrev pub posts_in : List (List Post) → Option ℕ → List Post
posts_in queues None = []
posts_in queues (Some queue) = slice_index_or queues queue []

-- who waits in a mailbox
abbrev pub waiters : Posts → BoxId → List Post
waiters posts mailbox = posts_in posts.queues (queue_of posts mailbox)

-- whether the other kind of endpoint waits: a receiver for one that sends, and a sender for one that receives
abbrev pub is_other : Bool → Post → Bool
is_other sends post = if sends then not post.sends else post.sends

-- whom an arriving endpoint matches: the first of the other kind, which has the least activity id
abbrev pub partner : Bool → List Post → Option Post
partner sends posts = find (is_other sends) posts

-- the list without the first that passes the test
unfoldable pub without : (Post → Bool) → List Post → List Post
without test [] = []
without test (post ∷ rest) = if test post then rest else post ∷ without test rest

abbrev pub posts_by_partner : Option Post → Bool → Side → Serial → List Post → List Post
posts_by_partner None sends side serial posts = posts ++ record { serial = serial; sends = sends; side = side } ∷ []
posts_by_partner (Some post) sends side serial posts = without (is_other sends) posts

-- an arriving endpoint removes its match, and waits if it has none
abbrev pub posts_after : Bool → Side → Serial → List Post → List Post
posts_after sends side serial posts = posts_by_partner (partner sends posts) sends side serial posts

abbrev pub meeting : Option Post → Serial → Meeting
meeting None serial = Posted serial
meeting (Some post) serial = Met post.serial post.side

-- the match of an arriving endpoint, as its communication's activity id and its endpoint
abbrev pub partner_side : Option Post → Option (Serial × Side)
partner_side found = option_map (λ post. (post.serial, post.side)) found

-- what an endpoint arriving at this mailbox finds there
pub record IsFound (posts : Posts) (mailbox : BoxId) (sends : Bool) (found : Found) : Type 0 where
  pub queue : found.queue ≡ queue_of posts mailbox
  pub met : found.met ≡ partner_side (partner sends (waiters posts mailbox))

-- the post of this activity id has left
abbrev pub posts_without : Serial → List Post → List Post
posts_without serial posts = filter (λ (post : Post). not (post.serial.0 == serial.0)) posts

-- all that wait have lower activity ids
abbrev pub AreBelow : ℕ → Posts → Type 0
AreBelow serial posts = (mailbox : BoxId) → All (λ (post : Post). post.serial.0 < serial) (waiters posts mailbox)

-- the same endpoints wait
abbrev pub AllStay : Posts → Posts → Type 0
AllStay old new = (mailbox : BoxId) → waiters new mailbox ≡ waiters old mailbox

-- the same endpoints wait in all mailboxes except this one
abbrev pub OthersStay : BoxId → Posts → Posts → Type 0
OthersStay mailbox old new = (other : BoxId) → other ≢ mailbox → waiters new other ≡ waiters old other

-- activity ids rise in the order of arrival
abbrev pub AreRising : List Post → Type 0
AreRising posts = AllPairs (λ (first later : Post). first.serial.0 < later.serial.0) posts

-- there is room for an arriving endpoint, and its activity id is above those that wait
pub record CanCome (serial : ℕ) (posts : Posts) : Type 0 where
  pub room : 0 < posts.room
  pub above : AreBelow serial posts

-- there is room for an arriving endpoint, and this is what it finds
pub record CanEnter (mailbox : BoxId) (sends : Bool) (here : Found) (posts : Posts) : Type 0 where
  pub room : 0 < posts.room
  pub found : IsFound posts mailbox sends here

-- There is room for so many arriving endpoints, unless memory was lacking. The same endpoints wait, and the room doesn't shrink.
pub record AcceptsMore (n : ℕ) (old new : Posts) (result : Result Unit Memory) : Type 0 where
  pub room : OnOk result (n ≤ new.room)
  pub grows : old.room ≤ new.room
  pub kept : AllStay old new

-- an endpoint arrived at a mailbox, matched one there or waits, and took its room
pub record Comes (mailbox : BoxId) (sends : Bool) (side : Side) (serial : Serial) (old new : Posts) (met : Meeting) : Type 0 where
  pub meeting : met ≡ meeting (partner sends (waiters old mailbox)) serial
  pub there : waiters new mailbox ≡ posts_after sends side serial (waiters old mailbox)
  pub elsewhere : OthersStay mailbox old new
  pub room : new.room ≡ old.room - 1
