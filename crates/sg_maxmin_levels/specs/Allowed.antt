-- What a rate update knows and spends.
use Rattle.std.specs.Prelude.{◌≡◌, ℕ, ◌+◌, ◌<◌, ◌≤◌, ◌^◌, Bool, true, IsSome, max, slice_index}
use Rattle.sg_base.specs.MarkSet.{is_in}
use Rattle.sg_maxmin.specs.Sharing.{Sharing, flow_at}
use Rattle.sg_maxmin_levels.specs.declared.allowance.Allowance.{Allowance}
use Rattle.sg_maxmin_levels.specs.declared.levels.Levels.{Levels}
use Rattle.sg_maxmin_levels.specs.Joined.{joined_count, joined_uses, spare_looks}
use Rattle.sg_maxmin_levels.specs.Kept.{IsWithin}
use Rattle.sg_maxmin.specs.Found.{PassAlong}

-- the flows that began or have another bound are held, and noted
pub record AreNew (s : Sharing) (all : Levels) : Type 0 where
  pub held : (id : ℕ) → is_in id all.stale.members ≡ true → IsSome (flow_at s.slots id)
  pub noted : (id : ℕ) → is_in id all.stale.members ≡ true → is_in id all.moved.members ≡ true

-- so many visits remain, and they suffice for as many users as flows are known
pub record IsLeft (given : Allowance) (left : ℕ) : Type 0 where
  pub pass : given.known ≤ left
  pub fits : given.spent + left < 2 ^ 64
  pub few : given.spent + left ≤ spare_looks given.known given.row given.ended

-- as many more visits are counted as were made, and they are allowed
pub record IsSpent (given : Allowance) (before now : ℕ) (next : Allowance) : Type 0 where
  pub told : now + given.spent ≤ before + next.spent
  pub few : next.spent ≤ spare_looks next.known next.row next.ended

-- no more is known than before and of so many users of a resource
pub record KnowsUsers (given : Allowance) (users : ℕ) (next : Allowance) : Type 0 where
  pub flows : next.known ≤ max given.known users
  pub row : next.row ≤ max given.row users
  pub ended : next.ended ≡ given.ended

-- an active resource has at least so many users: no more than are counted of one
abbrev pub HaveUsers : Levels → ℕ → Type 0
HaveUsers all most = (n : ℕ) → ((r : ℕ) → is_in r all.active.members ≡ true → slice_index all.counts.items r ≤ n) → most ≤ n

-- what is known of the flows and uses is so of the whole component
abbrev pub IsJoined : Sharing → Levels → Allowance → Type 0
IsJoined s all given =
    (p q : ℕ → Bool) → PassAlong s p q → IsWithin p q all →
    (given.known ≤ joined_count s.slots p) × (given.row ≤ joined_uses s.slots p)

-- the connected component of all that was active, noted or stale bounds the visits
abbrev pub SparesLooks : Sharing → Levels → ℕ → ℕ → ℕ → Type 0
SparesLooks s all ended before now =
    (p q : ℕ → Bool) → PassAlong s p q → IsWithin p q all →
    now ≤ before + spare_looks (joined_count s.slots p) (joined_uses s.slots p) ended
