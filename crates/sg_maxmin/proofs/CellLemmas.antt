-- Slots in a slab of cells: what is read and written, and that a number of 32 bits is free.
use Rattle.std.proofs.Common.{◌≡◌, ℕ, zero, suc, ◌<◌, ◌≤◌, List, [], ◌∷◌, map, length, get_or, Option, None, Some, is_some, IsSome, cond, count_by, min, option_map, refl, sym, ap, subst, ◌∙◌, arith}
use Rattle.std.proofs.Math.Nat.{min-le_left, min-le_right}
use Rattle.std.proofs.lemmas.List.Sums.{count_by-le-length, sum_by-cons, sum_by-set}
use Rattle.slab.specs.Slab.{Slab, ContainsKey, HasRoomFor, get, slab_len, Updates, with_value}
use Rattle.slab.proofs.SlabLemmas.{ContainsKey-within, Updates-with_value}
use Rattle.sg_maxmin.specs.declared.cells.Cell.{Cell}
use Rattle.sg_maxmin.specs.declared.slots.Slot.{Slot}
use Rattle.sg_maxmin.specs.kept.Slots.{HasNumber, nothing, slot_in, slots_in, taken}
use Rattle.sg_maxmin.specs.kept.Linked.{KeepsRoom}

-- the slot under a number is that in its cell
pub slot_at : (cells : List (Option Cell)) (i : ℕ) → get_or (map (option_map slot_in) cells) i None ≡ option_map slot_in (get_or cells i None)
slot_at [] i = refl
slot_at (cell ∷ cells) zero = refl
slot_at (cell ∷ cells) (suc i) = slot_at cells i

cell_of : (cell : Option Cell) → IsSome (option_map slot_in cell) → IsSome cell
cell_of None there = there
cell_of (Some cell) there = refl

-- where a slot is there, so is its cell
pub cell_there : (slab : Slab Cell) (i : ℕ) → IsSome (get (slots_in slab) i) → ContainsKey slab i
cell_there slab i there = cell_of (get slab i) (subst (λ o. IsSome o) (slot_at slab.slots i) there)

-- a written cell changes the slot under its number, and no other
pub slots_updated : (old new : Slab Cell) (i : ℕ) (cell : Option Cell) → Updates old new i cell → Updates (slots_in old) (slots_in new) i (option_map slot_in cell)
slots_updated old new i cell up = record {
  changed = slot_at new.slots i ∙ ap (option_map slot_in) up.changed;
  others = λ other differs. slot_at new.slots other ∙ ap (option_map slot_in) (up.others other differs) ∙ sym (slot_at old.slots other);
}

-- as does a cell that is written in place of another
pub slots_written : (slab : Slab Cell) (i : ℕ) (cell : Cell) → ContainsKey slab i → Updates (slots_in slab) (slots_in (with_value slab i cell)) i (Some (slot_in cell))
slots_written slab i cell there = slots_updated slab (with_value slab i cell) i (Some cell) (Updates-with_value slab i cell there)

-- ---- how many numbers are taken
same_one : (cell : Option Cell) → ◌≡◌ {A = ℕ} (cond (is_some (option_map slot_in cell)) 1 0) (cond (is_some cell) 1 0)
same_one None = refl
same_one (Some cell) = refl

-- there are as many slots as cells
pub count_slots : (cells : List (Option Cell)) → count_by is_some (map (option_map slot_in) cells) ≡ count_by is_some cells
count_slots [] = refl
count_slots (cell ∷ cells) = omega (arith, sum_by-cons (λ (o : Option Slot). cond (is_some o) 1 0) (option_map slot_in cell) (map (option_map slot_in) cells), sum_by-cons (λ (o : Option Cell). cond (is_some o) 1 0) cell cells, same_one cell, count_slots cells)

len_with : (slab : Slab Cell) (i : ℕ) (cell : Cell) → ContainsKey slab i → slab_len (with_value slab i cell) ≡ slab_len slab
len_with slab i cell there = omega (arith, sum_by-set (λ (o : Option Cell). cond (is_some o) 1 0) slab.slots i (Some cell) None (ContainsKey-within slab i there), ap {B = ℕ} (λ b. cond b 1 0) there)

-- as many slots, and no other room
pub keeps_room : (slab : Slab Cell) (i : ℕ) (cell : Cell) → ContainsKey slab i → KeepsRoom (slots_in slab) (slots_in (with_value slab i cell))
keeps_room slab i cell there = record {
  len = omega (arith, count_slots slab.slots, count_slots (with_value slab i cell).slots, len_with slab i cell there);
  capacity = refl;
}

pub taken_few : (n : ℕ) (cells : List (Option Cell)) → taken n cells ≤ count_by is_some cells
unfolding taken
taken_few zero cells = omega arith
taken_few (suc n) [] = omega arith
taken_few (suc n) (cell ∷ cells) = omega (arith, sum_by-cons (λ (o : Option Cell). cond (is_some o) 1 0) cell cells, taken_few n cells)

none_taken : (n : ℕ) (cells : List (Option Cell)) → ((i : ℕ) → i < n → get_or cells i None ≡ None) → taken n cells ≡ 0
unfolding taken
none_taken zero cells none = refl
none_taken (suc n) [] none = refl
none_taken (suc n) (cell ∷ cells) none = omega (arith, ap {B = ℕ} (λ o. cond (is_some o) 1 0) (none 0 (omega arith)), none_taken n cells (λ i within. none (suc i) (omega (arith, within))))

-- as many are taken as long as none of them changes
taken_same : (n : ℕ) (old new : List (Option Cell)) → ((i : ℕ) → i < n → get_or new i None ≡ get_or old i None) → taken n new ≡ taken n old
unfolding taken
taken_same zero old new same = refl
taken_same (suc n) [] new same = none_taken (suc n) new same
taken_same (suc n) (cell ∷ old) [] same = sym (none_taken (suc n) (cell ∷ old) (λ i within. sym (same i within)))
taken_same (suc n) (cell ∷ old) (other ∷ new) same = omega (arith, ap {B = ℕ} (λ o. cond (is_some o) 1 0) (same 0 (omega arith)), taken_same n old new (λ i within. same (suc i) (omega (arith, within))))

-- if one of so many numbers is free, the slab has room
roomy : (n capacity : ℕ) (cells : List (Option Cell)) → length cells ≤ capacity → n ≤ capacity → taken n cells < n → count_by is_some cells < capacity
unfolding taken
roomy zero capacity cells long fits free = absurd (omega (arith, free))
roomy (suc n) zero cells long fits free = absurd (omega (arith, fits))
roomy (suc n) (suc capacity) [] long fits free = omega arith
roomy (suc n) (suc capacity) (None ∷ cells) long fits free = omega (arith, long, sum_by-cons (λ (o : Option Cell). cond (is_some o) 1 0) None cells, count_by-le-length is_some cells)
roomy (suc n) (suc capacity) (Some cell ∷ cells) long fits free = omega (arith, sum_by-cons (λ (o : Option Cell). cond (is_some o) 1 0) (Some cell) cells, roomy n capacity cells (omega (arith, long)) (omega (arith, fits)) (omega (arith, free)))

-- if a number is free, the slab has room for one more
pub room_for_one : (slab : Slab Cell) → length slab.slots ≤ slab.capacity → HasNumber slab → HasRoomFor slab 1
room_for_one slab long free = omega (arith, roomy (min slab.capacity nothing) slab.capacity slab.slots long (min-le_left slab.capacity nothing) free)

-- a number stays free if another changes that is too large
pub still_free : (old new : Slab Cell) (i : ℕ) (cell : Option Cell) → nothing ≤ i → Updates old new i cell → new.capacity ≡ old.capacity → HasNumber old → HasNumber new
still_free old new i cell large up same free =
    let n = min old.capacity nothing in
    let taken_is : taken n new.slots ≡ taken n old.slots = taken_same n old.slots new.slots (λ k within. up.others k (λ e. absurd (omega (arith, e, within, min-le_right old.capacity nothing, large)))) in
    rw same (omega (arith, taken_is, free))
