-- The activities under the keys of a slab.
use Rattle.std.proofs.Common.{◌≡◌, ℕ, zero, suc, ◌+◌, ◌<◌, ◌≤◌, ◌⊎◌, inl, inr, List, [], ◌∷◌, Option, None, Some, IsSome, is_some, cond, count_by, length, get_or, option_map, set, refl, sym, ap, subst, ◌∙◌, arith}
use Rattle.std.proofs.lemmas.List.Sums.{count_by-le-length, sum_by-cons, sum_by-set}
use Rattle.slab.specs.Slab.{Slab, get, slab_len, with_value, ContainsKey, HasRoomFor, Updates}
use Rattle.slab.proofs.SlabLemmas.{ContainsKey-within}
use Rattle.sg_activity_table.specs.declared.cells.Cell.{Cell}
use Rattle.sg_activity_table.specs.declared.lives.Live.{Live}
use Rattle.sg_activity_table.specs.Cells.{live_of, live_at, lives_in}
use Rattle.sg_activity_table.specs.Pool.{FindsEach, HasFree, IsLives, SameSlots, goes_on, slot_at}
use Rattle.sg_activity_table.specs.Slots.{listed, passes}
use Rattle.sg_activity_table.proofs.Listed.{length-listed, at_listed, past_listed, same_listed, set_listed}
use Rattle.sg_activity_table.proofs.Pooled.{within_there}
use Rattle.sg_activity_table.proofs.Found.{found_wider}

-- one key changes
pub lives_set : (keys key : ℕ) (old new : Slab Cell) (slot : Option Cell) → key < keys → Updates old new key slot → lives_in keys new ≡ set (lives_in keys old) key (option_map live_of slot)
lives_set keys key old new slot within up = set_listed keys (live_at old) (live_at new) key (option_map live_of slot) within (ap (option_map live_of) up.changed) (λ other ne. ap (option_map live_of) (up.others other ne))

pub live_read : (keys key : ℕ) (slab : Slab Cell) → key < keys → slot_at (lives_in keys slab) key ≡ live_at slab key
live_read keys key slab within = at_listed keys (live_at slab) key None within

held_some : (o : Option Cell) → IsSome (option_map live_of o) → IsSome o
held_some None there = there
held_some (Some cell) there = refl

-- a key with an activity is one of so many, and the slab has it
pub there_in : (keys key : ℕ) (slab : Slab Cell) → IsSome (slot_at (lives_in keys slab) key) → (key < keys) × ContainsKey slab key
there_in keys key slab there =
    let within : key < keys = omega (arith, within_there (lives_in keys slab) key there, length-listed keys (live_at slab)) in
    (within, held_some (get slab key) (subst (λ o. IsSome o) (live_read keys key slab within) there))

pub none_in : (slab : Slab Cell) → lives_in 0 slab ≡ []
unfolding listed
none_in slab = refl

-- ---- how many keys have an activity
abbrev pub held : List (Option Cell) → ℕ → Option Live
held cells key = option_map live_of (get_or cells key None)

same_one : (o : Option Cell) → ◌≡◌ {A = ℕ} (cond (is_some (option_map live_of o)) 1 0) (cond (is_some o) 1 0)
same_one None = refl
same_one (Some cell) = refl

count_none : (n : ℕ) (f : ℕ → Option Live) → ((k : ℕ) → f k ≡ None) → count_by is_some (listed n f) ≡ 0
unfolding listed
count_none zero f h = refl
count_none (suc n) f h = omega (arith, sum_by-cons (λ (o : Option Live). cond (is_some o) 1 0) (f 0) (listed n (λ i. f (suc i))), ap {B = ℕ} (λ o. cond (is_some o) 1 0) (h 0), count_none n (λ i. f (suc i)) (λ k. h (suc k)))

pub count_listed : (n : ℕ) (cells : List (Option Cell)) → count_by is_some (listed n (held cells)) ≤ count_by is_some cells
unfolding listed
count_listed zero cells = omega arith
count_listed (suc n) [] = omega (arith, count_none (suc n) (held []) (λ k. refl))
count_listed (suc n) (o ∷ cells) = omega (arith, sum_by-cons (λ (o : Option Live). cond (is_some o) 1 0) (held (o ∷ cells) 0) (listed n (held cells)), sum_by-cons (λ (o : Option Cell). cond (is_some o) 1 0) o cells, same_one o, count_listed n cells)

pub len_with : (slab : Slab Cell) (key : ℕ) (cell : Cell) → ContainsKey slab key → slab_len (with_value slab key cell) ≡ slab_len slab
len_with slab key cell there = omega (arith, sum_by-set (λ (o : Option Cell). cond (is_some o) 1 0) slab.slots key (Some cell) None (ContainsKey-within slab key there), ap {B = ℕ} (λ b. cond b 1 0) there)

-- if one of so many keys is free, the slab has room
roomy : (n capacity : ℕ) (cells : List (Option Cell)) → length cells ≤ capacity → n ≤ capacity → count_by is_some (listed n (held cells)) < n → count_by is_some cells < capacity
unfolding listed
roomy zero capacity cells long fits free = absurd (omega (arith, free))
roomy (suc n) zero cells long fits free = absurd (omega (arith, fits))
roomy (suc n) (suc capacity) [] long fits free = omega arith
roomy (suc n) (suc capacity) (None ∷ cells) long fits free = omega (arith, long, sum_by-cons (λ (o : Option Cell). cond (is_some o) 1 0) None cells, count_by-le-length is_some cells)
roomy (suc n) (suc capacity) (Some cell ∷ cells) long fits free = omega (arith, sum_by-cons (λ (o : Option Cell). cond (is_some o) 1 0) (Some cell) cells, roomy n capacity cells (omega (arith, long)) (omega (arith, fits)) (omega (arith, free, sum_by-cons (λ (o : Option Live). cond (is_some o) 1 0) (held (Some cell ∷ cells) 0) (listed n (held cells)))))

-- if a key is free, the slab has room for one more
pub room_for_one : (keys : ℕ) (slab : Slab Cell) → length slab.slots ≤ slab.capacity → HasFree keys slab → HasRoomFor slab 1
room_for_one keys slab long has = omega (arith, roomy keys slab.capacity slab.slots long has.fits has.free)

-- a key below this number stays free if one changes that isn't below it
pub still_free : (keys above : ℕ) (old new : Slab Cell) (slot : Option Cell) → keys ≤ above → Updates old new above slot → new.capacity ≡ old.capacity → HasFree keys old → HasFree keys new
still_free keys above old new slot large up same has =
    let lives_are : lives_in keys new ≡ lives_in keys old = same_listed keys (live_at new) (live_at old) (λ k within. ap (option_map live_of) (up.others k (λ e. absurd (omega (arith, e, within, large))))) in
    record {
      free = subst (λ l. count_by is_some l < keys) (sym lives_are) has.free;
      fits = omega (arith, has.fits, same);
    }

-- ---- more keys
lt_cases : (a b : ℕ) → (a < b) ⊎ (b ≤ a)
lt_cases a b = grind arith

-- under the keys that come there is nothing
pub wider : (few many : ℕ) (slab : Slab Cell) → few ≤ many → ((key : ℕ) → few ≤ key → get slab key ≡ None) → SameSlots (lives_in few slab) (lives_in many slab)
wider few many slab more above key = elim (lt_cases key few) [
  | inl low ↦ at_listed many (live_at slab) key None (omega (arith, low, more)) ∙ sym (at_listed few (live_at slab) key None low)
  | inr high ↦ elim (lt_cases key many) [
    | inl within ↦ at_listed many (live_at slab) key None within ∙ ap (option_map live_of) (above key high) ∙ sym (past_listed few (live_at slab) key None high)
    | inr past ↦ past_listed many (live_at slab) key None past ∙ sym (past_listed few (live_at slab) key None high)
  ]
]

pub counts_wider : (few many : ℕ) (f : ℕ → Option Live) → few ≤ many → ((key : ℕ) → few ≤ key → f key ≡ None) → count_by (passes goes_on) (listed many f) ≡ count_by (passes goes_on) (listed few f)
unfolding listed
counts_wider zero zero f more above = refl
counts_wider zero (suc many) f more above = omega (arith, sum_by-cons (λ o. cond (passes goes_on o) 1 0) (f 0) (listed many (λ i. f (suc i))), ap {B = ℕ} (λ o. cond (passes goes_on o) 1 0) (above 0 (omega arith)), counts_wider zero many (λ i. f (suc i)) (omega arith) (λ key h. above (suc key) (omega arith)))
counts_wider (suc few) zero f more above = absurd (omega (arith, more))
counts_wider (suc few) (suc many) f more above = omega (arith, sum_by-cons (λ o. cond (passes goes_on o) 1 0) (f 0) (listed many (λ i. f (suc i))), sum_by-cons (λ o. cond (passes goes_on o) 1 0) (f 0) (listed few (λ i. f (suc i))), counts_wider few many (λ i. f (suc i)) (omega (arith, more)) (λ key h. above (suc key) (omega (arith, h))))

-- a slab with the same values and more room, and so many keys
pub more_lives : (few many : ℕ) (old new : Slab Cell) (find next : ℕ → Option ℕ) (spare more going room rooms : ℕ) → IsLives few old find spare going room → new.slots ≡ old.slots → few ≤ many → many ≤ new.capacity → slab_len old + rooms ≤ many → rooms ≤ more → ((serial : ℕ) → next serial ≡ find serial) → IsLives many new next more going rooms
more_lives few many old new find next spare more going room rooms is slots longer fits free spares same =
    let cells : lives_in many new ≡ lives_in many old = ap (λ (l : List (Option Cell)). listed many (held l)) slots in
    record {
      pool = record {
        above = λ key h. ap (λ (l : List (Option Cell)). get_or l key None) slots ∙ is.pool.above key (omega (arith, h, longer));
        fits = fits;
        free = omega (arith, free, ap (count_by is_some) slots);
      };
      keyed = subst (λ l. FindsEach l next) (sym cells) (found_wider (lives_in few old) (lives_in many old) find next (wider few many old longer is.pool.above) same is.keyed);
      goes = is.goes ∙ sym (ap (count_by (passes goes_on)) cells ∙ counts_wider few many (live_at old) longer (λ key h. ap (option_map live_of) (is.pool.above key h)));
      spare_room = spares;
    }
