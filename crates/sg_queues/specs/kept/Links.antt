-- How slots are kept: each row is a ring of nodes, its head and its slots, linked both ways, and so is each slot that is alone.
use Rattle.std.specs.Prelude.{◌≡◌, ◌≢◌, ℕ, zero, suc, ◌<◌, ◌≤◌, ◌^◌, ◌==◌, false, if◌then◌else◌, List, [], ◌∷◌, length, map, slice_index_or}
use Rattle.sg_queues.specs.Rings.{is_in, queue_at, AreApart, IsAlone}

-- what a node is linked to; what is no node, to itself
abbrev pub at : List ℕ → ℕ → ℕ
at links node = slice_index_or links node node

-- the head of this row
abbrev pub head_at : List ℕ → ℕ → ℕ
head_at heads row = slice_index_or heads row 0

-- the links lead from a node over these ones to a last one
abbrev pub Path : (ℕ → ℕ) → ℕ → List ℕ → ℕ → Type 0
Path next from [] to = next from ≡ to
Path next from (node ∷ nodes) to = (next from ≡ node) × Path next node nodes to

-- the nodes from this one on, until the last one, and so many at most
abbrev pub walk : (ℕ → ℕ) → ℕ → ℕ → ℕ → List ℕ
walk next to zero node = []
walk next to (suc most) node = if node == to then [] else node ∷ walk next to most (next node)

-- the ring of a head, without the head
abbrev pub ring : List ℕ → ℕ → List ℕ
ring next head = walk (at next) head (length next) (at next head)

abbrev pub queues_of : List ℕ → List ℕ → List (List ℕ)
queues_of next heads = map (ring next) heads

-- each link has its link back
pub record AreInverse (next prev : ℕ → ℕ) : Type 0 where
  pub forth : (node : ℕ) → next (prev node) ≡ node
  pub back : (node : ℕ) → prev (next node) ≡ node

pub record AreLinked (next prev : List ℕ) : Type 0 where
  pub len : length prev ≡ length next
  pub few : length next ≤ 2 ^ 32
  pub inverse : AreInverse (at next) (at prev)

-- two nodes have exchanged what they lead to
pub record IsExchanged (old new : List ℕ) (a b : ℕ) : Type 0 where
  pub len : length new ≡ length old
  pub at_a : at new a ≡ at old b
  pub at_b : at new b ≡ at old a
  pub others : (node : ℕ) → node ≢ a → node ≢ b → at new node ≡ at old node

-- The links lead from the head of each row over its slots back to the head, and from a slot in no row to itself.
pub record AreRings (next prev heads : List ℕ) (rows : List (List ℕ)) : Type 0 where
  pub links : AreLinked next prev
  pub paths : (row : ℕ) → row < length heads → Path (at next) (head_at heads row) (queue_at rows row) (head_at heads row)
  pub alone : (slot : ℕ) → is_in slot heads ≡ false → IsAlone slot rows → at next slot ≡ slot
  pub apart : AreApart (length next) heads rows
