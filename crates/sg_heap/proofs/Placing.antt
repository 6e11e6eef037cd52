-- Two entries change places.
use Rattle.std.proofs.Common.{◌≡◌, ◌≢◌, ℕ, ◌<◌, ◌≤◌, ◌⊎◌, inl, inr, List, length, get_or, set, None, Some, cond, ltb, lt-ltb, zero, suc, [], ◌∷◌, length-set, get_or-set_same, get_or-set_other, refl, sym, ap, subst, ◌∙◌, arith}
use Rattle.std.proofs.lemmas.List.{ext_get_or, get_or-map, length-map}
use Rattle.sg_heap.specs.declared.entry.Entry.{Entry}
use Rattle.sg_heap.specs.kept.Heap.{no_entry, entry_at, key_of, key_in, keys_of, ArePlaced}

pub eq_cases : (a b : ℕ) → (a ≡ b) ⊎ (a ≢ b)
eq_cases a b = grind arith

-- what a change of places leaves, read place by place and slot by slot
pub record AreSwapped (heap heap' : List Entry) (place place' : List ℕ) (a b : ℕ) : Type 0 where
  pub heap_len : length heap' ≡ length heap
  pub place_len : length place' ≡ length place
  pub at_a : entry_at heap' a ≡ entry_at heap b
  pub at_b : entry_at heap' b ≡ entry_at heap a
  pub at_rest : (i : ℕ) → i ≢ a → i ≢ b → entry_at heap' i ≡ entry_at heap i
  pub of_a : get_or place' (entry_at heap a).slot 0 ≡ b
  pub of_b : get_or place' (entry_at heap b).slot 0 ≡ a
  pub of_rest : (slot : ℕ) → slot ≢ (entry_at heap a).slot → slot ≢ (entry_at heap b).slot → get_or place' slot 0 ≡ get_or place slot 0

abbrev pub swap_heap : List Entry → ℕ → ℕ → List Entry
swap_heap heap a b = set (set heap a (entry_at heap b)) b (entry_at heap a)

abbrev pub swap_place : List Entry → List ℕ → ℕ → ℕ → List ℕ
swap_place heap place a b = set (set place (entry_at heap b).slot a) (entry_at heap a).slot b

pub slots_differ : (heap : List Entry) (place : List ℕ) (a b : ℕ) → ArePlaced heap place → a < length place → b < length place → a ≢ b → (entry_at heap a).slot ≢ (entry_at heap b).slot
slots_differ heap place a b p la lb ne e = ne (sym (p.there a la) ∙ ap (λ s. get_or place s 0) e ∙ p.there b lb)

pub swapped : (heap : List Entry) (place : List ℕ) (a b : ℕ) → ArePlaced heap place → a < length place → b < length place → a ≢ b → AreSwapped heap (swap_heap heap a b) place (swap_place heap place a b) a b
swapped heap place a b p la lb ne =
    let ea = entry_at heap a in
    let eb = entry_at heap b in
    let one = set heap a eb in
    let mid = set place eb.slot a in
    let la' : a < length heap = omega (arith, p.len) in
    let lb' : b < length one = omega (arith, p.len, length-set heap a eb) in
    let sa : ea.slot < length place = p.slots a la in
    let sb : eb.slot < length place = p.slots b lb in
    let sa' : ea.slot < length mid = omega (arith, length-set place eb.slot a) in
    let differ : ea.slot ≢ eb.slot = slots_differ heap place a b p la lb ne in
    record {
      heap_len = length-set one b ea ∙ length-set heap a eb;
      place_len = length-set mid ea.slot b ∙ length-set place eb.slot a;
      at_a = get_or-set_other one b a ea no_entry ne ∙ get_or-set_same heap a eb no_entry la';
      at_b = get_or-set_same one b ea no_entry lb';
      at_rest = λ i na nb. get_or-set_other one b i ea no_entry nb ∙ get_or-set_other heap a i eb no_entry na;
      of_a = get_or-set_same mid ea.slot b 0 sa';
      of_b = get_or-set_other mid ea.slot eb.slot b 0 (λ e. differ (sym e)) ∙ get_or-set_same place eb.slot a 0 sb;
      of_rest = λ s na nb. get_or-set_other mid ea.slot s b 0 na ∙ get_or-set_other place eb.slot s a 0 nb;
    }

-- by cases: the one place, the other, or neither
three : (P : ℕ → Type 0) (a b i : ℕ) → P a → P b → (i ≢ a → i ≢ b → P i) → P i
three P a b i pa pb rest = elim (eq_cases i a) [
  | inl e ↦ subst P (sym e) pa
  | inr na ↦ elim (eq_cases i b) [ inl e ↦ subst P (sym e) pb | inr nb ↦ rest na nb ]
]

pub placed_swapped : (heap heap' : List Entry) (place place' : List ℕ) (a b : ℕ) → ArePlaced heap place → a < length place → b < length place → AreSwapped heap heap' place place' a b → ArePlaced heap' place'
placed_swapped heap heap' place place' a b p la lb s =
    let ea = entry_at heap a in
    let eb = entry_at heap b in
    let n = length place in
    let sa : ea.slot < n = p.slots a la in
    let sb : eb.slot < n = p.slots b lb in
    record {
      len = s.heap_len ∙ p.len ∙ sym s.place_len;
      slots = λ i h. subst (λ m. (entry_at heap' i).slot < m) (sym s.place_len)
          (three (λ i. i < n → (entry_at heap' i).slot < n) a b i (λ _. subst (λ e. e.slot < n) (sym s.at_a) sb) (λ _. subst (λ e. e.slot < n) (sym s.at_b) sa)
          (λ na nb k. subst (λ e. e.slot < n) (sym (s.at_rest i na nb)) (p.slots i k)) (subst (λ m. i < m) s.place_len h));
      places = λ i h. subst (λ m. get_or place' i 0 < m) (sym s.place_len)
          (three (λ i. i < n → get_or place' i 0 < n) ea.slot eb.slot i (λ _. subst (λ e. e < n) (sym s.of_a) lb) (λ _. subst (λ e. e < n) (sym s.of_b) la)
          (λ na nb k. subst (λ e. e < n) (sym (s.of_rest i na nb)) (p.places i k)) (subst (λ m. i < m) s.place_len h));
      there = λ i h. three (λ i. i < n → get_or place' (entry_at heap' i).slot 0 ≡ i) a b i (λ _. ap (λ e. get_or place' e.slot 0) s.at_a ∙ s.of_b) (λ _. ap (λ e. get_or place' e.slot 0) s.at_b ∙ s.of_a)
          (λ na nb k. ap (λ e. get_or place' e.slot 0) (s.at_rest i na nb)
          ∙ s.of_rest (entry_at heap i).slot (λ e. na (sym (p.there i k) ∙ ap (λ z. get_or place z 0) e ∙ p.there a la)) (λ e. nb (sym (p.there i k) ∙ ap (λ z. get_or place z 0) e ∙ p.there b lb))
          ∙ p.there i k) (subst (λ m. i < m) s.place_len h);
      back = λ i h. three (λ i. i < n → (entry_at heap' (get_or place' i 0)).slot ≡ i) ea.slot eb.slot i (λ _. ap (λ z. (entry_at heap' z).slot) s.of_a ∙ ap (λ e. e.slot) s.at_b) (λ _. ap (λ z. (entry_at heap' z).slot) s.of_b ∙ ap (λ e. e.slot) s.at_a)
          (λ na nb k. ap (λ z. (entry_at heap' z).slot) (s.of_rest i na nb)
          ∙ ap (λ e. e.slot) (s.at_rest (get_or place i 0) (λ e. na (sym (p.back i k) ∙ ap (λ z. (entry_at heap z).slot) e)) (λ e. nb (sym (p.back i k) ∙ ap (λ z. (entry_at heap z).slot) e)))
          ∙ p.back i k) (subst (λ m. i < m) s.place_len h);
    }

pub key_at-keys : (heap : List Entry) (place : List ℕ) (count slot : ℕ) → slot < length place → get_or (keys_of heap place count) slot None ≡ key_in heap count (get_or place slot 0)
unfolding keys_of
key_at-keys heap place count slot h = get_or-map (key_in heap count) place slot 0 None h

pub length-keys : (heap : List Entry) (place : List ℕ) (count : ℕ) → length (keys_of heap place count) ≡ length place
unfolding keys_of
length-keys heap place count = length-map place (key_in heap count)

-- entries that change places among the first count keep their keys
pub keys_swapped : (heap heap' : List Entry) (place place' : List ℕ) (a b count : ℕ) → ArePlaced heap place → a < length place → b < length place → a < count → b < count → AreSwapped heap heap' place place' a b → keys_of heap' place' count ≡ keys_of heap place count
keys_swapped heap heap' place place' a b count p la lb ca cb s =
    let ea = entry_at heap a in
    let eb = entry_at heap b in
    let n = length place in
    ext_get_or None (keys_of heap' place' count) (keys_of heap place count) (length-keys heap' place' count ∙ s.place_len ∙ sym (length-keys heap place count)) (λ i h.
    let h' : i < length place' = subst (λ m. i < m) (length-keys heap' place' count) h in
    let k : i < n = subst (λ m. i < m) s.place_len h' in
    key_at-keys heap' place' count i h' ∙ each i k ∙ sym (key_at-keys heap place count i k))
  where
    both_in : (x y : ℕ) (e e' : Entry) → x < count → y < count → e ≡ e' → cond (ltb x count) (Some (key_of e)) None ≡ cond (ltb y count) (Some (key_of e')) None
    both_in x y e e' hx hy q = rw (lt-ltb x count hx, lt-ltb y count hy, q)

    each : (i : ℕ) → i < length place → key_in heap' count (get_or place' i 0) ≡ key_in heap count (get_or place i 0)
    each i k = three (λ i. i < length place → key_in heap' count (get_or place' i 0) ≡ key_in heap count (get_or place i 0)) (entry_at heap a).slot (entry_at heap b).slot i
        (λ _. ap (key_in heap' count) s.of_a ∙ both_in b a (entry_at heap' b) (entry_at heap a) cb ca s.at_b ∙ ap (key_in heap count) (sym (p.there a la)))
        (λ _. ap (key_in heap' count) s.of_b ∙ both_in a b (entry_at heap' a) (entry_at heap b) ca cb s.at_a ∙ ap (key_in heap count) (sym (p.there b lb)))
        (λ na nb k. ap (key_in heap' count) (s.of_rest i na nb)
        ∙ ap (λ e. cond (ltb (get_or place i 0) count) (Some (key_of e)) None) (s.at_rest (get_or place i 0) (λ e. na (sym (p.back i k) ∙ ap (λ z. (entry_at heap z).slot) e)) (λ e. nb (sym (p.back i k) ∙ ap (λ z. (entry_at heap z).slot) e)))) k

pub twice : {X : Type 0} → (l : List X) (i : ℕ) (x y : X) → set (set l i x) i y ≡ set l i y
twice [] i x y = refl
twice (z ∷ l) zero x y = refl
twice (z ∷ l) (suc i) x y = ap (λ m. z ∷ m) (twice l i x y)

-- what was written first is written over
over : (l : List ℕ) (i j x y z : ℕ) → set (set (set l i x) j y) i z ≡ set (set l j y) i z
over l i j x y z = elim (eq_cases j i) [
  | inl e ↦ rw e (ap (λ m. set m i z) (twice l i x y))
  | inr ne ↦ ap (λ m. set m i z) (set-comm l i j x y (λ e. ne (sym e))) ∙ twice (set l j y) i x z
]
  where
    set-comm : (l : List ℕ) (i j x y : ℕ) → i ≢ j → set (set l i x) j y ≡ set (set l j y) i x
    set-comm [] i j x y ne = refl
    set-comm (w ∷ l) zero zero x y ne = absurd (ne refl)
    set-comm (w ∷ l) zero (suc j) x y ne = refl
    set-comm (w ∷ l) (suc i) zero x y ne = refl
    set-comm (w ∷ l) (suc i) (suc j) x y ne = ap (λ m. w ∷ m) (set-comm l i j x y (λ e. ne (ap suc e)))

-- The entry in hand stands, for the proof, at one place. If another entry comes there, and the one in hand goes to that one's place, the two have changed places.
pub moved_heap : (heap : List Entry) (at to : ℕ) (entry : Entry) → at ≢ to → at < length heap → set (set heap at (entry_at heap to)) to entry ≡ swap_heap (set heap at entry) at to
moved_heap heap at to entry ne la =
    let at_to : entry_at (set heap at entry) to ≡ entry_at heap to = get_or-set_other heap at to entry no_entry (λ e. ne (sym e)) in
    let at_at : entry_at (set heap at entry) at ≡ entry = get_or-set_same heap at entry no_entry la in
    rw (at_to, at_at) (ap (λ l. set l to entry) (sym (twice heap at entry (entry_at heap to))))

pub moved_place : (heap : List Entry) (place : List ℕ) (at to : ℕ) (entry : Entry) → at ≢ to → at < length heap → set (set place (entry_at heap to).slot at) entry.slot to ≡ swap_place (set heap at entry) (set place entry.slot at) at to
moved_place heap place at to entry ne la =
    let at_to : entry_at (set heap at entry) to ≡ entry_at heap to = get_or-set_other heap at to entry no_entry (λ e. ne (sym e)) in
    let at_at : entry_at (set heap at entry) at ≡ entry = get_or-set_same heap at entry no_entry la in
    rw (at_to, at_at) (sym (over place entry.slot (entry_at heap to).slot at at to))

-- what stands at two places is exchanged
pub record AreExchanged (heap heap' : List Entry) (a b : ℕ) : Type 0 where
  pub at_a : entry_at heap' a ≡ entry_at heap b
  pub at_b : entry_at heap' b ≡ entry_at heap a
  pub at_rest : (i : ℕ) → i ≢ a → i ≢ b → entry_at heap' i ≡ entry_at heap i

-- all that a move keeps, and what it changes
pub record IsMove (heap : List Entry) (place : List ℕ) (at to count : ℕ) (entry : Entry) : Type 0 where
  pub placed : ArePlaced (set (set heap at (entry_at heap to)) to entry) (set (set place (entry_at heap to).slot at) entry.slot to)
  pub keys : keys_of (set (set heap at (entry_at heap to)) to entry) (set (set place (entry_at heap to).slot at) entry.slot to) count ≡ keys_of (set heap at entry) (set place entry.slot at) count
  pub exchanged : AreExchanged (set heap at entry) (set (set heap at (entry_at heap to)) to entry) at to

pub moves : (heap : List Entry) (place : List ℕ) (at to count : ℕ) (entry : Entry) → at ≢ to → at < count → to < count → count ≤ length heap → ArePlaced (set heap at entry) (set place entry.slot at) → IsMove heap place at to count entry
moves heap place at to count entry ne ca ct lc p =
    let virt = set heap at entry in
    let noted = set place entry.slot at in
    let la : at < length heap = omega arith in
    let lens : length virt ≡ length noted = p.len in
    let la' : at < length noted = omega (arith, lens, length-set heap at entry) in
    let lt' : to < length noted = omega (arith, lens, length-set heap at entry) in
    let s = swapped virt noted at to p la' lt' ne in
    let eh = moved_heap heap at to entry ne la in
    let ep = moved_place heap place at to entry ne la in
    record {
      placed = rw (eh, ep) (placed_swapped virt (swap_heap virt at to) noted (swap_place virt noted at to) at to p la' lt' s);
      keys = rw (eh, ep) (keys_swapped virt (swap_heap virt at to) noted (swap_place virt noted at to) at to count p la' lt' ca ct s);
      exchanged = rw eh (record { at_a = s.at_a; at_b = s.at_b; at_rest = s.at_rest });
    }
