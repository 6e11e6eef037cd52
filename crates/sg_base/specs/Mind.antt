-- What an actor has in mind: a kind, and a list of numbers.
use Rattle.std.specs.Prelude.{◌≡◌, ℕ, ◌+◌, ◌-◌, ◌<◌, ◌≤◌, List, length, slice_index, ⊤}
use Rattle.sg_base.specs.Limits.{Extent, IsActorNumber, IsAmount}

-- what an actor is: it replays its script lines; it works for a master, or is one; it churns; or it has ended
pub data Kind : Type 0 where
  replay : Kind
  worker : Kind
  master : Kind
  churn : Kind
  ended : Kind

-- the whole state of an actor between its turns: its kind, and numbers whose sense the kind gives
pub record Mind : Type 0 where
  pub kind : Kind
  pub numbers : List ℕ

-- the state of an actor of this kind, with these numbers
abbrev pub mind : Kind → List ℕ → Mind
mind kind numbers = record { kind = kind; numbers = numbers }

-- each number from this place on is an actor's
abbrev pub ActorsFrom : Extent → ℕ → List ℕ → Type 0
ActorsFrom extent at numbers = (k : ℕ) → at ≤ k → k < length numbers → IsActorNumber extent (slice_index numbers k)

-- the numbers that a mind of this kind has
abbrev pub IsShaped : Extent → Kind → List ℕ → Type 0
IsShaped extent replay numbers = (length numbers ≡ 1) × ActorsFrom extent 0 numbers
IsShaped extent worker numbers = (length numbers ≡ 1) × ActorsFrom extent 0 numbers
IsShaped extent master numbers =
    (4 < length numbers) × (slice_index numbers 3 ≤ slice_index numbers 0 + (length numbers - 4))
    × IsAmount (slice_index numbers 1) × IsAmount (slice_index numbers 2) × ActorsFrom extent 4 numbers
IsShaped extent churn numbers = (length numbers ≡ 7) × ActorsFrom extent 4 numbers
IsShaped extent ended numbers = ⊤

abbrev pub IsMind : Extent → Mind → Type 0
IsMind extent m = IsShaped extent m.kind m.numbers
