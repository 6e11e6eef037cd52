-- Routes to finalized points, traversed backwards a link at a time: of the lists that begin where they stand, the least
-- is next.
use Rattle.std.specs.Prelude.{◌≡◌, ◌≢◌, ℕ, zero, suc, ◌+◌, ◌-◌, ◌*◌, ◌<◌, ◌≤◌, ◌⊎◌, List, [], ◌∷◌, ◌++◌, Some, length, drop, slice_index, slice_set}
use Rattle.sg_base.specs.declared.ids.LinkId.{LinkId}
use Rattle.sg_heap.specs.Agenda.{Key, key_at}
use Rattle.sg_paths.specs.declared.ahead.Ahead.{Ahead}
use Rattle.sg_paths.specs.declared.ahead.Mark.{Mark}
use Rattle.sg_paths.specs.declared.route.PathRoute.{PathRoute}
use Rattle.sg_paths.specs.declared.trail.Settled.{Settled}
use Rattle.sg_paths.specs.Arrivals.{from_at, to_at}
use Rattle.sg_paths.specs.Trail.{IsSettledAt, links_at}

abbrev pub first_of : List LinkId → ℕ
first_of [] = 0
first_of (link ∷ rest) = link.0

abbrev pub rest_of : List LinkId → List LinkId
rest_of [] = []
rest_of (link ∷ rest) = rest

-- the key of a list: how many links it has and the first of them, and then the rank of the others
pub record IsKeyOf (order : ℕ → List LinkId) (ranks : ℕ) (key : Key) (links : List LinkId) : Type 0 where
  pub date : key.date ≡ length links * 4294967296 + first_of links
  pub fits : first_of links < 4294967296
  pub rank : key.serial < ranks
  pub rest : rest_of links ≡ order key.serial

abbrev pub key_of : Mark → Key
key_of mark = record { date = mark.date; serial = mark.serial }

-- the key of a list, and its own rank
pub record IsMark (order : ℕ → List LinkId) (ranks : ℕ) (mark : Mark) (links : List LinkId) : Type 0 where
  pub key : IsKeyOf order ranks (key_of mark) links
  pub rank : mark.rank < ranks
  pub at : order mark.rank ≡ links

-- a route that stood after so many of its links stands after one less, at the key of the list from there on
pub record GoesBack (routes : List PathRoute) (i left : ℕ) (mark : Mark) (old new : Ahead) : Type 0 where
  pub key : Key
  pub keys : new.agenda ≡ slice_set old.agenda i (Some key)
  pub lefts : new.left.items ≡ slice_set old.left.items i (left - 1)
  pub is : (order : ℕ → List LinkId) (ranks : ℕ) (rest : List LinkId) → IsMark order ranks mark (drop left (links_at routes i) ++ rest)
      → IsKeyOf order ranks key (drop (left - 1) (links_at routes i) ++ rest)

-- a route stands after all its links except the last, at the key of the list from there on
pub record HasEntered (routes : List PathRoute) (mark : Mark) (i : ℕ) (ahead : Ahead) : Type 0 where
  pub key : Key
  pub at : key_at ahead.agenda i ≡ Some key
  pub left : slice_index ahead.left.items i ≡ length (links_at routes i) - 1
  pub is : (order : ℕ → List LinkId) (ranks : ℕ) (rest : List LinkId) → IsMark order ranks mark rest
      → IsKeyOf order ranks key (drop (length (links_at routes i) - 1) (links_at routes i) ++ rest)

-- a route stands where it stood
pub record StandsStill (i : ℕ) (old new : Ahead) : Type 0 where
  pub key : key_at new.agenda i ≡ key_at old.agenda i
  pub left : slice_index new.left.items i ≡ slice_index old.left.items i

-- nothing changes if a route begins at a finalized point
pub record IsPassed (routes : List PathRoute) (settled : List Settled) (i : ℕ) (old new : Ahead) : Type 0 where
  pub place : ℕ
  pub from : IsSettledAt settled place (from_at routes i)
  pub same : new ≡ old

-- a route moves back over its last link, unless it begins at a finalized point
abbrev pub MayGoBack : List PathRoute → List Settled → ℕ → Mark → Ahead → Ahead → Type 0
MayGoBack routes settled i mark old new = GoesBack routes i (length (links_at routes i)) mark old new ⊎ IsPassed routes settled i old new

-- a route stands where it stood, since it begins at a finalized point
pub record StaysOut (routes : List PathRoute) (settled : List Settled) (i : ℕ) (old new : Ahead) : Type 0 where
  pub still : StandsStill i old new
  pub place : ℕ
  pub from : IsSettledAt settled place (from_at routes i)

-- there is a place for each route
pub record HasPlaceFor (routes : List PathRoute) (ahead : Ahead) : Type 0 where
  pub slots : length ahead.agenda ≡ length routes
  pub lefts : length ahead.left.items ≡ length routes

-- those from this number on that lead to a point have entered, except those from finalized points, and the others stand
-- still
pub record EntersFrom (routes : List PathRoute) (settled : List Settled) (point n : ℕ) (mark : Mark) (old new : Ahead) : Type 0 where
  pub entered : (i : ℕ) → n ≤ i → i < length routes → to_at routes i ≡ point → HasEntered routes mark i new ⊎ StaysOut routes settled i old new
  pub others : (i : ℕ) → to_at routes i ≢ point → StandsStill i old new
  pub below : (i : ℕ) → i < n → StandsStill i old new
  pub places : HasPlaceFor routes new

-- the sum of these numbers, for each number below this one
abbrev pub sum_to : (ℕ → ℕ) → ℕ → ℕ
sum_to f zero = 0
sum_to f (suc n) = sum_to f n + f n

-- how often routes may go back, or stop: each over all its links, and once more
abbrev pub steps_in : List PathRoute → ℕ
steps_in routes = sum_to (λ i. length (links_at routes i) + 1) (length routes)
