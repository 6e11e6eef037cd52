-- What a rate update knows holds of the whole component.
use Rattle.std.proofs.Common.{◌≡◌, ◌≢◌, ℕ, ◌+◌, ◌-◌, ◌<◌, ◌≤◌, ◌⊎◌, inl, inr, Bool, true, false, cond, ◌||◌, true≢false, max, All, AllPairs, IsTrue, IsSome, Option, Some, None, List, length, get_or, slice_index, refl, sym, ap, ◌∙◌, arith}
use Rattle.std.proofs.lemmas.List.{get_or_past}
use Rattle.std.proofs.lemmas.List.Elements.{All-get_or}
use Rattle.sg_base.specs.MarkSet.{is_in}
use Rattle.sg_maxmin.specs.Chained.{users_on}
use Rattle.sg_maxmin.specs.Fill.{Flow}
use Rattle.sg_maxmin.specs.Sharing.{Sharing, IsSound, flow_at}
use Rattle.sg_maxmin_levels.specs.declared.allowance.Allowance.{Allowance}
use Rattle.sg_maxmin_levels.specs.declared.levels.Levels.{Levels}
use Rattle.sg_maxmin_levels.specs.Settling.{is_active}
use Rattle.sg_maxmin_levels.specs.Kept.{IsKept, IsWithin, StaysWithin}
use Rattle.sg_maxmin.specs.Found.{PassAlong}
use Rattle.sg_maxmin_levels.specs.Joined.{joined_count, joined_uses, spare_looks}
use Rattle.sg_maxmin_levels.specs.Allowed.{AreNew, IsJoined, SparesLooks}
use Rattle.sg_maxmin.proofs.Users.{on_held}
use Rattle.sg_maxmin_levels.proofs.Joined.{noted_count, past_none, row_count, row_uses, spare_more}

-- ---- two tests
abbrev is_there : Option Flow → Bool
is_there None = false
is_there (Some f) = true

there : (o : Option Flow) → IsSome o → is_there o ≡ true
there None some = absurd (true≢false (sym some))
there (Some f) some = refl

some_there : (o : Option Flow) → is_there o ≡ true → IsSome o
some_there None h = absurd (true≢false (sym h))
some_there (Some f) h = refl

both : (a b : Bool) → a ≡ true → b ≡ true → cond a b false ≡ true
both a b e f = ap {B = Bool} (λ c. cond c b false) e ∙ f

one_of : (a b : Bool) → cond a b false ≡ true → a ≡ true
one_of true b h = refl
one_of false b h = h

other_of : (a b : Bool) → cond a b false ≡ true → b ≡ true
other_of true b h = h
other_of false b h = absurd (true≢false (sym h))

left_or : (a b : Bool) → a ≡ true → (a || b) ≡ true
left_or a b e = ap {B = Bool} (λ c. c || b) e

right_or : (a b : Bool) → b ≡ true → (a || b) ≡ true
right_or true b e = refl
right_or false b e = e

either : (a b : Bool) → (a || b) ≡ true → (a ≡ true) ⊎ (b ≡ true)
either true b h = inl refl
either false b h = inr h

-- ---- the flows that a rate update noted, and those that it began with
module _ (s : Sharing) (sound : IsSound s) (first now : Levels) (new : AreNew s first) (stays : StaysWithin s first now) (p q : ℕ → Bool) (along : PassAlong s p q) (within : IsWithin p q first) where
  -- it passes, and was noted before or is held
  abbrev test : ℕ → Bool
  test id = cond (p id) (is_in id first.moved.members || is_there (flow_at s.slots id)) false

  test_along : PassAlong s test q
  test_along = record {
    uses = λ id r here u. along.uses id r (one_of (p id) (is_in id first.moved.members || is_there (flow_at s.slots id)) here) u;
    users = λ r id here i.
        let f = on_held s sound r id i in
        both (p id) (is_in id first.moved.members || is_there (flow_at s.slots id)) (along.users r id here i) (right_or (is_in id first.moved.members) (is_there (flow_at s.slots id)) (ap is_there f.1));
  }

  test_within : IsWithin test q first
  test_within = record {
    active = within.active;
    moved = λ id i. both (p id) (is_in id first.moved.members || is_there (flow_at s.slots id)) (within.moved id i) (left_or (is_in id first.moved.members) (is_there (flow_at s.slots id)) i);
    stale = λ id i. both (p id) (is_in id first.moved.members || is_there (flow_at s.slots id)) (within.stale id i) (right_or (is_in id first.moved.members) (is_there (flow_at s.slots id)) (there (flow_at s.slots id) (new.held id i)));
  }

  noted_one : (id : ℕ) → is_in id now.moved.members ≡ true → (is_in id first.moved.members ≡ true) ⊎ (IsTrue (p id) × IsSome (flow_at s.slots id))
  noted_one id i =
      let here = (stays test q test_along test_within).moved id i in
      elim (either (is_in id first.moved.members) (is_there (flow_at s.slots id)) (other_of (p id) (is_in id first.moved.members || is_there (flow_at s.slots id)) here)) [
        | inl old ↦ inl old
        | inr held ↦ inr (one_of (p id) (is_in id first.moved.members || is_there (flow_at s.slots id)) here, some_there (flow_at s.slots id) held)
      ]

  below : (xs : List ℕ) (room n : ℕ) → All (λ number. number < room) xs → room ≤ n → (i : ℕ) → i < length xs → get_or xs i 0 < n
  below xs room n all le i h =
      let less : get_or xs i 0 < room = All-get_or (λ number. number < room) xs i 0 h all in
      omega (arith, less, le)

  pub flows_count : AllPairs (λ a b. a ≢ b) first.stale.members → AllPairs (λ a b. a ≢ b) now.moved.members → All (λ number. number < first.stale.room) first.stale.members → All (λ number. number < first.moved.room) first.moved.members → All (λ number. number < now.moved.room) now.moved.members →
      length now.moved.members - (length first.moved.members - length first.stale.members) ≤ joined_count s.slots p
  flows_count once once' bx by bz =
      let n = length s.slots + first.stale.room + first.moved.room + now.moved.room in
      omega (
        arith,
        noted_count s p n first.stale.members first.moved.members now.moved.members (omega arith) once once' (below first.stale.members first.stale.room n bx (omega arith)) (below first.moved.members first.moved.room n by (omega arith)) (below now.moved.members now.moved.room n bz (omega arith))
            (λ id i. (new.noted id i, (within.stale id i, new.held id i))) noted_one,
        past_none s.slots p n (omega arith) (λ id past. get_or_past s.slots id None past),
      )

-- ---- the users of an active resource
pub users_joined : (s : Sharing) → IsSound s → (first now : Levels) → StaysWithin s first now → (r : ℕ) → is_active now.active.members r ≡ true → (p q : ℕ → Bool) → PassAlong s p q → IsWithin p q first →
    (length (users_on s.users r) ≤ joined_count s.slots p) × (length (users_on s.users r) ≤ joined_uses s.slots p)
users_joined s sound first now stays r on p q along within =
    let here = (stays p q along within).active r on in
    (row_count s sound r p (λ id i. along.users r id here i), row_uses s sound r p (λ id i. along.users r id here i))

-- ---- what is known one step later
pub round_joined : (s : Sharing) → IsSound s → (first now : Levels) → AreNew s first → StaysWithin s first now → IsKept s now → (given : Allowance) (flows most : ℕ) → ((n : ℕ) → ((r : ℕ) → is_active now.active.members r ≡ true → slice_index now.counts.items r ≤ n) → most ≤ n) → IsJoined s first given → flows ≡ length now.moved.members - (length first.moved.members - length first.stale.members) →
    AllPairs (λ a b. a ≢ b) first.stale.members → AllPairs (λ a b. a ≢ b) now.moved.members → All (λ number. number < first.stale.room) first.stale.members → All (λ number. number < first.moved.room) first.moved.members → All (λ number. number < now.moved.room) now.moved.members →
    (p q : ℕ → Bool) → PassAlong s p q → IsWithin p q first → (max (max given.known flows) most ≤ joined_count s.slots p) × (max given.row most ≤ joined_uses s.slots p)
round_joined s sound first now new stays kept given flows most told joined is once once' bx by bz p q along within =
    let before = joined p q along within in
    let count = told (joined_count s.slots p) (λ r on. omega (arith, kept.counts r, (users_joined s sound first now stays r on p q along within).0)) in
    let uses = told (joined_uses s.slots p) (λ r on. omega (arith, kept.counts r, (users_joined s sound first now stays r on p q along within).1)) in
    (omega (arith, before.0, is, count, flows_count s sound first now new stays p q along within once once' bx by bz), omega (arith, before.1, uses))

-- ---- what is known allows no more than the component
pub spared : (s : Sharing) (first : Levels) (k r m before now : ℕ) → ((p q : ℕ → Bool) → PassAlong s p q → IsWithin p q first → (k ≤ joined_count s.slots p) × (r ≤ joined_uses s.slots p)) → now ≤ before + spare_looks k r m → SparesLooks s first m before now
spared s first k r m before now joined looks p q along within =
    let known = joined p q along within in
    omega (arith, looks, spare_more k (joined_count s.slots p) r (joined_uses s.slots p) m known.0 known.1)
