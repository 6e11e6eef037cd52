-- How levels are brought up to date: what is pending, what is done, and by how many visits.
use Rattle.std.specs.Prelude.{◌≡◌, ℕ, ◌+◌, ◌*◌, ◌<◌, ◌≤◌, Bool, true, false, None, IsTrue, IsSome, [], length}
use Rattle.sg_base.specs.MarkSet.{is_in}
use Rattle.sg_maxmin.specs.Sharing.{Sharing, flow_at}
use Rattle.sg_maxmin.specs.Held.{AreFilled}
use Rattle.sg_maxmin_levels.specs.Kept.{IsBetween, IsFresh, IsWithin, NotesChanged}
use Rattle.sg_maxmin.specs.Found.{PassAlong}
use Rattle.sg_maxmin_levels.specs.Joined.{joined_count, joined_uses, spare_looks}
use Rattle.sg_maxmin_levels.specs.Settling.{is_active}
use Rattle.sg_maxmin_solve.specs.Parts.{IsReady}
use Rattle.sg_lazy.specs.declared.settle.Pending.{Pending}
use Rattle.sg_lazy.specs.declared.settle.Solver.{Solver}

-- no flow, on so many resources
pub record IsSolver (resources : ℕ) (solver : Solver) : Type 0 where
  pub fresh : IsFresh resources solver.levels
  pub nothing : (p q : ℕ → Bool) → IsWithin p q solver.levels
  pub ready : IsReady 0 resources solver.parts

-- the tests hold of all that is marked
pub record AreMarkedWithin (p q : ℕ → Bool) (pending : Pending) : Type 0 where
  pub flows : (id : ℕ) → is_in id pending.marked.members ≡ true → IsTrue (p id)
  pub resources : (r : ℕ) → is_in r pending.resources.members ≡ true → IsTrue (q r)

-- the flows that ended are gone, the other marked ones are held, and what is noted, stale or active is connected to what is marked
pub record IsPendingOn (s : Sharing) (solver : Solver) (pending : Pending) : Type 0 where
  pub between : IsBetween s solver.levels
  pub ready : IsReady (length s.slots) (length s.capacities) solver.parts
  pub ended_room : length s.slots ≤ pending.ended.room
  pub below : (id : ℕ) → is_in id pending.marked.members ≡ true → id < length s.slots
  pub held : (id : ℕ) → is_in id pending.marked.members ≡ true → is_in id pending.ended.members ≡ false → IsSome (flow_at s.slots id)
  pub gone : (id : ℕ) → is_in id pending.ended.members ≡ true → flow_at s.slots id ≡ None
  pub resources : pending.resources.room ≡ length s.capacities
  pub within : (p q : ℕ → Bool) → PassAlong s p q → AreMarkedWithin p q pending → IsWithin p q solver.levels

-- all levels are max-min levels, nothing is active or stale, what moved is noted, and is connected to what is marked
pub record IsSolved (s : Sharing) (pending : Pending) (old new : Solver) : Type 0 where
  pub between : IsBetween s new.levels
  pub filled : AreFilled s new.levels.levels.items
  pub quiet : (r : ℕ) → is_active new.levels.active.members r ≡ false
  pub none_stale : new.levels.stale.members ≡ []
  pub changed : NotesChanged s s old.levels new.levels
  pub within : (p q : ℕ → Bool) → PassAlong s p q → AreMarkedWithin p q pending → IsWithin p q new.levels
  pub ready : IsReady (length s.slots) (length s.capacities) new.parts

-- The visits that suffice to solve a component of so many flows with so many uses and to write their levels, to try it by levels alone,
-- and for both.
abbrev pub refill_looks : ℕ → ℕ → ℕ
refill_looks flows uses = 3 * uses + 3 * flows * uses + uses

abbrev pub try_looks : ℕ → ℕ → ℕ → ℕ
try_looks ended flows uses = uses + spare_looks flows uses ended

abbrev pub solve_looks : ℕ → ℕ → ℕ → ℕ
solve_looks ended flows uses = try_looks ended flows uses + refill_looks flows uses

-- so many suffice for the connected components of all that is marked
abbrev pub SolvesWithin : Sharing → Pending → (ℕ → ℕ → ℕ) → ℕ → ℕ → Type 0
SolvesWithin s pending looks before after =
    (p q : ℕ → Bool) → PassAlong s p q → AreMarkedWithin p q pending → after ≤ before + looks (joined_count s.slots p) (joined_uses s.slots p)
