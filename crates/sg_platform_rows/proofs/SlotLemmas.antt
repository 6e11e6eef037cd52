-- The slots of names.
use Rattle.std.proofs.Common.{◌≡◌, ◌<◌, ◌-◌, ◌∙◌, ap, refl, sym, subst, ℕ, zero, suc, List, [], ◌∷◌, ◌++◌, length, get_or, Some, arith}
use Rattle.std.specs.Prelude.{replicate}
use Rattle.std.specs.List.{All}
use Rattle.std.specs.Global.{Vec}
use Rattle.std.specs.HashMap.{HashMap}
use Rattle.std.proofs.lemmas.List.{append_cancel_right, get_or-replicate, length-replicate}
use Rattle.sg_platform_rows.specs.declared.names.Slot.{Slot}
use Rattle.sg_platform_rows.specs.kept.Finds.{finds}
use Rattle.sg_platform_rows.specs.kept.Slots.{IsKey, IsSlot, IsSlotOf}

-- ---- the bytes of a short name
-- so many elements, from a place on
abbrev pub elements : ℕ → ℕ → List ℕ → List ℕ
elements zero i xs = []
elements (suc n) i xs = get_or xs i 0 ∷ elements n (suc i) xs

elements_after : (n i x : ℕ) (xs : List ℕ) → elements n (suc i) (x ∷ xs) ≡ elements n i xs
elements_after zero i x xs = refl
elements_after (suc n) i x xs = ap (λ (l : List ℕ). get_or xs i 0 ∷ l) (elements_after n (suc i) x xs)

all_elements : (n : ℕ) (xs : List ℕ) → length xs ≡ n → elements n 0 xs ≡ xs
all_elements zero [] e = refl
all_elements zero (x ∷ xs) e = absurd (omega (arith, e))
all_elements (suc n) [] e = absurd (omega (arith, e))
all_elements (suc n) (x ∷ xs) e = ap (λ (l : List ℕ). x ∷ l) (elements_after n 0 x xs ∙ all_elements n xs (omega (arith, e)))

pub padded : (n : ℕ) (name : List ℕ) → length name ≡ n → elements n 0 name ++ replicate (8 - n) 0 ≡ name ++ replicate (8 - length name) 0
padded n name e = ap (λ (l : List ℕ). l ++ replicate (8 - n) 0) (all_elements n name e) ∙ ap (λ (k : ℕ). name ++ replicate (8 - k) 0) (sym e)

-- ---- the slots
-- names of one length have one key only if they are the same
same_name : (name other : List ℕ) (key : ℕ) → IsKey name key → IsKey other key → length other ≡ length name → other ≡ name
same_name name other key is also e =
    append_cancel_right other name (replicate (8 - length name) 0)
    (subst (λ (n : ℕ). other ++ replicate (8 - n) 0 ≡ name ++ replicate (8 - length name) 0) e (sym also ∙ is))

pub short_slot : (name : List ℕ) (number : ℕ) (slot : Slot) → IsKey name slot.key → length name ≡ slot.len → slot.number ≡ number → IsSlotOf name number slot
short_slot name number slot key len is = λ other within. (same_name name other slot.key key within.key (within.len ∙ sym len), is)

-- no short name is in the slot of a longer one
pub long_slot : (name : List ℕ) (number : ℕ) (slot : Slot) → slot.len ≡ 9 → IsSlotOf name number slot
long_slot name number slot len = λ other within. absurd (omega (arith, within.short, within.len, len))

pub free_slot : {S : Type 0} (map : HashMap (Vec ℕ) ℕ S) (slot : Slot) → slot.len ≡ 9 → IsSlot map slot
free_slot map slot len = λ name within. absurd (omega (arith, within.short, within.len, len))

pub all_same : (P : Slot → Type 0) (n : ℕ) (slot : Slot) → P slot → All P (replicate n slot)
all_same P n slot is = λ i d below. subst P (sym (get_or-replicate n i slot d (subst (λ (k : ℕ). i < k) (length-replicate n slot) below))) is

pub known_slot : {S : Type 0} (map : HashMap (Vec ℕ) ℕ S) (name : List ℕ) (number : ℕ) (slot : Slot) → IsSlotOf name number slot → finds map name ≡ Some number → IsSlot map slot
known_slot map name number slot is found = λ other within.
    let both = is other within in
    subst (λ (q : List ℕ). finds map q ≡ Some slot.number) (sym both.0) (subst (λ (n : ℕ). finds map name ≡ Some n) (sym both.1) found)
