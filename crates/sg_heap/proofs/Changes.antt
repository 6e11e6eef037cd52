-- A key comes, changes or goes.
use Rattle.std.proofs.Common.{◌≡◌, ◌≢◌, ℕ, ◌+◌, ◌-◌, ◌/◌, ◌<◌, ◌≤◌, ◌⊎◌, inl, inr, List, length, get_or, set, Option, None, Some, is_some, cond, ltb, lt-ltb, le-ltb, length-set, get_or-set_same, get_or-set_other, refl, sym, ap, subst, ◌∙◌, arith}
use Rattle.std.proofs.lemmas.List.{ext_get_or, set-get_or}
use Rattle.std.proofs.lemmas.List.Sums.{sum_by-set}
use Rattle.sg_heap.specs.declared.entry.Entry.{Entry}
use Rattle.sg_heap.specs.Agenda.{Key, key_count}
use Rattle.sg_heap.specs.kept.Heap.{no_entry, entry_at, key_of, key_in, keys_of, InOrder, IsHeap, ArePlaced, MayMove}
use Rattle.sg_heap.proofs.Order.{no_later-trans}
use Rattle.sg_heap.proofs.Placing.{eq_cases, swap_heap, swap_place, swapped, placed_swapped, key_at-keys, length-keys, twice, moved_heap, moved_place}
use Rattle.sg_heap.proofs.Sifts.{by}

pub lt_cases : (a b : ℕ) → (a < b) ⊎ (b ≤ a)
lt_cases a b = grind arith

key_in_yes : (heap : List Entry) (count at : ℕ) (e : Entry) → at < count → entry_at heap at ≡ e → key_in heap count at ≡ Some (key_of e)
key_in_yes heap count at e h q = rw (lt-ltb at count h, q)

pub key_in_no : (heap : List Entry) (count at : ℕ) → count ≤ at → key_in heap count at ≡ None
key_in_no heap count at h = rw (le-ltb at count h)

-- one slot's key is another now, and the others' are as they were
keys_set : (heap heap' : List Entry) (place place' : List ℕ) (count count' s : ℕ) (v : Option Key) → s < length place → length place' ≡ length place → key_in heap' count' (get_or place' s 0) ≡ v →
    ((i : ℕ) → i < length place → i ≢ s → key_in heap' count' (get_or place' i 0) ≡ key_in heap count (get_or place i 0)) → keys_of heap' place' count' ≡ set (keys_of heap place count) s v
keys_set heap heap' place place' count count' s v hs len at_s rest =
    let new = keys_of heap' place' count' in
    let old = keys_of heap place count in
    ext_get_or None new (set old s v) (length-keys heap' place' count' ∙ len ∙ sym (length-keys heap place count) ∙ sym (length-set old s v)) (λ i h.
    let h' : i < length place' = subst (λ m. i < m) (length-keys heap' place' count') h in
    let k : i < length place = subst (λ m. i < m) len h' in
    key_at-keys heap' place' count' i h' ∙ (elim (eq_cases i s) [
      | inl e ↦ subst (λ j. key_in heap' count' (get_or place' j 0) ≡ get_or (set old s v) j None) (sym e) (at_s ∙ sym (get_or-set_same old s v None (subst (λ m. s < m) (sym (length-keys heap place count)) hs)))
      | inr ne ↦ rest i k ne ∙ sym (key_at-keys heap place count i k) ∙ sym (get_or-set_other old s i v None ne)
    ]))

-- how many have a key
pub key_count_set : (keys : List (Option Key)) (s : ℕ) (key : Key) → s < length keys → get_or keys s None ≡ None → key_count (set keys s (Some key)) ≡ key_count keys + 1
key_count_set keys s key h e = omega (arith, sum_by-set (λ o. cond (is_some o) 1 0) keys s (Some key) None h, ap {B = ℕ} (λ o. cond (is_some o) 1 0) e)

pub key_count_reset : (keys : List (Option Key)) (s : ℕ) (key old : Key) → s < length keys → get_or keys s None ≡ Some old → key_count (set keys s (Some key)) ≡ key_count keys
key_count_reset keys s key old h e = omega (arith, sum_by-set (λ o. cond (is_some o) 1 0) keys s (Some key) None h, ap {B = ℕ} (λ o. cond (is_some o) 1 0) e)

pub key_count_clear : (keys : List (Option Key)) (s : ℕ) (old : Key) → s < length keys → get_or keys s None ≡ Some old → key_count (set keys s None) + 1 ≡ key_count keys
key_count_clear keys s old h e = omega (arith, sum_by-set (λ o. cond (is_some o) 1 0) keys s None None h, ap {B = ℕ} (λ o. cond (is_some o) 1 0) e)

-- A heap in which one entry is another now.
pub loose_of : (heap heap' : List Entry) (count count' at : ℕ) → IsHeap heap count → count' ≤ count → at < count → ((i : ℕ) → i < count' → i ≢ at → entry_at heap' i ≡ entry_at heap i) → MayMove heap' count' at
unfolding IsHeap
loose_of heap heap' count count' at h le la same = record {
  order = λ i hi hc na pa. by (entry_at heap ((i - 1) / 2)) (entry_at heap i) (entry_at heap' ((i - 1) / 2)) (entry_at heap' i) (same ((i - 1) / 2) (omega arith) pa) (same i hc na) (h i hi (omega arith));
  spanned = λ some i hi hc e. by (entry_at heap ((at - 1) / 2)) (entry_at heap i) (entry_at heap' ((at - 1) / 2)) (entry_at heap' i) (same ((at - 1) / 2) (omega arith) (λ q. omega (arith, q))) (same i hc (λ q. omega (arith, q, e)))
      (no_later-trans (key_of (entry_at heap ((at - 1) / 2))) (key_of (entry_at heap at)) (key_of (entry_at heap i)) (h at some la) (subst (λ k. InOrder heap k i) e (h i hi (omega arith))));
}

pub shorter : (heap heap' : List Entry) (count count' : ℕ) → IsHeap heap count → count' ≤ count → ((i : ℕ) → i < count' → entry_at heap' i ≡ entry_at heap i) → IsHeap heap' count'
unfolding IsHeap
shorter heap heap' count count' h le same = λ i hi hc. by (entry_at heap ((i - 1) / 2)) (entry_at heap i) (entry_at heap' ((i - 1) / 2)) (entry_at heap' i) (same ((i - 1) / 2) (omega arith)) (same i hc) (h i hi (omega arith))

-- One slot's entry is another now, at the same place.
module _ (heap : List Entry) (place : List ℕ) (at : ℕ) (entry : Entry) (p : ArePlaced heap place) (la : at < length place) (its : entry.slot ≡ (entry_at heap at).slot) where
  pub noted : set place entry.slot at ≡ place
  noted = ap (λ k. set place entry.slot k) (sym (ap (λ s. get_or place s 0) its ∙ p.there at la)) ∙ set-get_or place entry.slot 0

  la' : at < length heap
  la' = omega (arith, p.len)

  slot_same : (i : ℕ) → (entry_at (set heap at entry) i).slot ≡ (entry_at heap i).slot
  slot_same i = elim (eq_cases i at) [
    | inl e ↦ subst (λ j. (entry_at (set heap at entry) j).slot ≡ (entry_at heap j).slot) (sym e) (ap (λ x. x.slot) (get_or-set_same heap at entry no_entry la') ∙ its)
    | inr ne ↦ ap (λ x. x.slot) (get_or-set_other heap at i entry no_entry ne)
  ]

  placed_same : ArePlaced (set heap at entry) place
  placed_same = record {
    len = length-set heap at entry ∙ p.len;
    slots = λ i h. subst (λ s. s < length place) (sym (slot_same i)) (p.slots i h);
    places = p.places;
    there = λ i h. ap (λ s. get_or place s 0) (slot_same i) ∙ p.there i h;
    back = λ s h. slot_same (get_or place s 0) ∙ p.back s h;
  }

  pub placed_changed : ArePlaced (set heap at entry) (set place entry.slot at)
  placed_changed = subst (λ w. ArePlaced (set heap at entry) w) (sym noted) placed_same

  slot_in : entry.slot < length place
  slot_in = subst (λ s. s < length place) (sym its) (p.slots at la)

  pub at_slot : get_or place entry.slot 0 ≡ at
  at_slot = ap (λ s. get_or place s 0) its ∙ p.there at la

  elsewhere : (i : ℕ) → i < length place → i ≢ entry.slot → get_or place i 0 ≢ at
  elsewhere i h ne e = ne (sym (p.back i h) ∙ ap (λ x. (entry_at heap x).slot) e ∙ sym its)

  pub keys_changed : (count : ℕ) → at < count → keys_of (set heap at entry) (set place entry.slot at) count ≡ set (keys_of heap place count) entry.slot (Some (key_of entry))
  keys_changed count lc = subst (λ w. keys_of (set heap at entry) w count ≡ set (keys_of heap place count) entry.slot (Some (key_of entry))) (sym noted)
      (keys_set heap (set heap at entry) place place count count entry.slot (Some (key_of entry)) slot_in refl
      (ap (key_in (set heap at entry) count) at_slot ∙ key_in_yes (set heap at entry) count at entry lc (get_or-set_same heap at entry no_entry la'))
      (λ i h ne. ap (λ x. cond (ltb (get_or place i 0) count) (Some (key_of x)) None) (get_or-set_other heap at (get_or place i 0) entry no_entry (elsewhere i h ne))))

  -- The entry comes to the place after the last with a key, and what stood there comes here.
  module _ (count : ℕ) (behind : count ≤ at) where
    abbrev pub added_heap : List Entry
    added_heap = set (set heap at (entry_at heap count)) count entry

    abbrev pub added_place : List ℕ
    added_place = set (set place (entry_at heap count).slot at) entry.slot count

    pub record IsAdded : Type 0 where
      pub placed : ArePlaced added_heap added_place
      pub keys : keys_of added_heap added_place (count + 1) ≡ set (keys_of heap place count) entry.slot (Some (key_of entry))
      pub same : (i : ℕ) → i < count → entry_at added_heap i ≡ entry_at heap i

    same_below : (i : ℕ) → i < count → entry_at added_heap i ≡ entry_at heap i
    same_below i h = get_or-set_other (set heap at (entry_at heap count)) count i entry no_entry (λ e. omega (arith, e, h)) ∙ get_or-set_other heap at i (entry_at heap count) no_entry (λ e. omega (arith, e, h, behind))

    others_same : (i x : ℕ) → x ≢ at → x ≢ count → key_in added_heap (count + 1) x ≡ key_in heap count x
    others_same i x na nc =
        let same : entry_at added_heap x ≡ entry_at heap x = get_or-set_other (set heap at (entry_at heap count)) count x entry no_entry nc ∙ get_or-set_other heap at x (entry_at heap count) no_entry na in
        elim (lt_cases x count) [
          | inl l ↦ key_in_yes added_heap (count + 1) x (entry_at heap x) (omega arith) same ∙ sym (key_in_yes heap count x (entry_at heap x) l refl)
          | inr m ↦ key_in_no added_heap (count + 1) x (omega (arith, m, nc)) ∙ sym (key_in_no heap count x m)
        ]

    count_in : count < length place
    count_in = omega arith

    its_key : key_in added_heap (count + 1) (get_or added_place entry.slot 0) ≡ Some (key_of entry)
    its_key =
        let here : get_or added_place entry.slot 0 ≡ count = get_or-set_same (set place (entry_at heap count).slot at) entry.slot count 0 (subst (λ n. entry.slot < n) (sym (length-set place (entry_at heap count).slot at)) slot_in) in
        ap (key_in added_heap (count + 1)) here ∙ key_in_yes added_heap (count + 1) count entry (omega arith) (get_or-set_same (set heap at (entry_at heap count)) count entry no_entry (omega (arith, p.len, count_in, length-set heap at (entry_at heap count))))

    len_same : length added_place ≡ length place
    len_same = length-set (set place (entry_at heap count).slot at) entry.slot count ∙ length-set place (entry_at heap count).slot at

    added_last : at ≡ count → ArePlaced added_heap added_place
    added_last e =
        let stays : set heap at (entry_at heap count) ≡ heap = ap (λ k. set heap at (entry_at heap k)) (sym e) ∙ set-get_or heap at no_entry in
        let slot_is : (entry_at heap count).slot ≡ entry.slot = ap (λ k. (entry_at heap k).slot) (sym e) ∙ sym its in
        let there : set (set place (entry_at heap count).slot at) entry.slot count ≡ set place entry.slot at = ap (λ s. set (set place s at) entry.slot count) slot_is ∙ twice place entry.slot at count ∙ ap (set place entry.slot) (sym e) in
        subst (λ h. ArePlaced h added_place) (sym (ap (λ h. set h count entry) stays ∙ ap (λ k. set heap k entry) (sym e))) (subst (λ w. ArePlaced (set heap at entry) w) (sym there) placed_changed)

    added_before : at ≢ count → ArePlaced added_heap added_place
    added_before ne =
        let virt = set heap at entry in
        let w = set place entry.slot at in
        let n : length w ≡ length place = length-set place entry.slot at in
        let a : at < length w = omega (arith, n, la) in
        let b : count < length w = omega (arith, n, la, behind) in
        subst (λ h. ArePlaced h added_place) (sym (moved_heap heap at count entry ne la'))
        (subst (λ v. ArePlaced (swap_heap virt at count) v) (sym (moved_place heap place at count entry ne la'))
        (placed_swapped virt (swap_heap virt at count) w (swap_place virt w at count) at count placed_changed a b (swapped virt w at count placed_changed a b ne)))

    pub added : IsAdded
    added = record {
      placed = elim (eq_cases at count) [ inl e ↦ added_last e | inr ne ↦ added_before ne ];
      keys = keys_set heap added_heap place added_place count (count + 1) entry.slot (Some (key_of entry)) slot_in len_same its_key (λ i h ne. elim (eq_cases i (entry_at heap count).slot) [
        | inl e ↦ moved_key i h ne e
        | inr nm ↦ ap (key_in added_heap (count + 1)) (get_or-set_other (set place (entry_at heap count).slot at) entry.slot i count 0 ne ∙ get_or-set_other place (entry_at heap count).slot i at 0 nm)
            ∙ others_same i (get_or place i 0) (elsewhere i h ne) (λ q. nm (sym (p.back i h) ∙ ap (λ x. (entry_at heap x).slot) q))
      ]);
      same = same_below;
    }
      where
        moved_key : (i : ℕ) → i < length place → i ≢ entry.slot → i ≡ (entry_at heap count).slot → key_in added_heap (count + 1) (get_or added_place i 0) ≡ key_in heap count (get_or place i 0)
        moved_key i h ne e =
            let old : get_or place i 0 ≡ count = ap (λ s. get_or place s 0) e ∙ p.there count count_in in
            let new : get_or added_place i 0 ≡ at = get_or-set_other (set place (entry_at heap count).slot at) entry.slot i count 0 ne ∙ ap (λ s. get_or (set place (entry_at heap count).slot at) s 0) e
            ∙ get_or-set_same place (entry_at heap count).slot at 0 (p.slots count count_in) in
            let apart : at ≢ count = λ q. elsewhere i h ne (old ∙ sym q) in
            ap (key_in added_heap (count + 1)) new ∙ key_in_no added_heap (count + 1) at (omega (arith, apart, behind)) ∙ sym (ap (key_in heap count) old ∙ key_in_no heap count count (omega arith))

-- The entry here goes after those with a key, and the last of these comes here.
module _ (heap : List Entry) (place : List ℕ) (at last : ℕ) (p : ArePlaced heap place) (la : at ≤ last) (ll : last < length place) where
  pub record IsTaken (heap' : List Entry) (place' : List ℕ) : Type 0 where
    pub placed : ArePlaced heap' place'
    pub keys : keys_of heap' place' last ≡ set (keys_of heap place (last + 1)) (entry_at heap at).slot None
    pub same : (i : ℕ) → i < last → i ≢ at → entry_at heap' i ≡ entry_at heap i

  at_in : at < length place
  at_in = omega arith

  pub taken_last : at ≡ last → IsTaken (set heap last (entry_at heap at)) (set place (entry_at heap at).slot last)
  taken_last e =
      let h : set heap last (entry_at heap at) ≡ heap = ap (λ k. set heap k (entry_at heap at)) (sym e) ∙ set-get_or heap at no_entry in
      let w : set place (entry_at heap at).slot last ≡ place = ap (set place (entry_at heap at).slot) (sym e ∙ sym (p.there at at_in)) ∙ set-get_or place (entry_at heap at).slot 0 in
      rw (h, w) (record {
        placed = p;
        keys = keys_set heap heap place place (last + 1) last (entry_at heap at).slot None (p.slots at at_in) refl (ap (key_in heap last) (p.there at at_in) ∙ key_in_no heap last at (omega (arith, e)))
            (λ i k ne. same_key (get_or place i 0) (λ q. ne (sym (p.back i k) ∙ ap (λ x. (entry_at heap x).slot) (q ∙ sym e))));
        same = λ i k ne. refl;
      })
    where
      same_key : (x : ℕ) → x ≢ last → key_in heap last x ≡ key_in heap (last + 1) x
      same_key x ne = elim (lt_cases x last) [
        | inl l ↦ key_in_yes heap last x (entry_at heap x) l refl ∙ sym (key_in_yes heap (last + 1) x (entry_at heap x) (omega arith) refl)
        | inr m ↦ key_in_no heap last x m ∙ sym (key_in_no heap (last + 1) x (omega (arith, m, ne)))
      ]

  pub taken_before : at < last → IsTaken (swap_heap heap last at) (swap_place heap place last at)
  taken_before less =
      let ne : last ≢ at = λ e. omega (arith, e, less) in
      let s = swapped heap place last at p ll at_in ne in
      let h' = swap_heap heap last at in
      let w' = swap_place heap place last at in
      record {
        placed = placed_swapped heap h' place w' last at p ll at_in s;
        keys = keys_set heap h' place w' (last + 1) last (entry_at heap at).slot None (p.slots at at_in) s.place_len (ap (key_in h' last) s.of_b ∙ key_in_no h' last last (omega arith)) (λ i k nb. elim (eq_cases i (entry_at heap last).slot) [
          | inl e ↦ ap (λ j. key_in h' last (get_or w' j 0)) e ∙ ap (key_in h' last) s.of_a ∙ key_in_yes h' last at (entry_at heap last) less s.at_b
              ∙ sym (ap (λ j. key_in heap (last + 1) (get_or place j 0)) e ∙ ap (key_in heap (last + 1)) (p.there last ll) ∙ key_in_yes heap (last + 1) last (entry_at heap last) (omega arith) refl)
          | inr na ↦ ap (key_in h' last) (s.of_rest i na nb) ∙ other h' (get_or place i 0) (λ q. na (sym (p.back i k) ∙ ap (λ x. (entry_at heap x).slot) q))
              (s.at_rest (get_or place i 0) (λ q. na (sym (p.back i k) ∙ ap (λ x. (entry_at heap x).slot) q)) (λ q. nb (sym (p.back i k) ∙ ap (λ x. (entry_at heap x).slot) q)))
        ]);
        same = λ i k na. s.at_rest i (λ q. omega (arith, q, k)) na;
      }
    where
      other : (h' : List Entry) (x : ℕ) → x ≢ last → entry_at h' x ≡ entry_at heap x → key_in h' last x ≡ key_in heap (last + 1) x
      other h' x ne same = elim (lt_cases x last) [
        | inl l ↦ key_in_yes h' last x (entry_at heap x) l same ∙ sym (key_in_yes heap (last + 1) x (entry_at heap x) (omega arith) refl)
        | inr m ↦ key_in_no h' last x m ∙ sym (key_in_no heap (last + 1) x (omega (arith, m, ne)))
      ]

-- what a slot with an entry among the first count has
pub key_there : (heap : List Entry) (place : List ℕ) (count at : ℕ) → ArePlaced heap place → at < length place → at < count → get_or (keys_of heap place count) (entry_at heap at).slot None ≡ Some (key_of (entry_at heap at))
key_there heap place count at p la lc = key_at-keys heap place count (entry_at heap at).slot (p.slots at la) ∙ ap (key_in heap count) (p.there at la) ∙ key_in_yes heap count at (entry_at heap at) lc refl

pub no_key_there : (heap : List Entry) (place : List ℕ) (count slot : ℕ) → slot < length place → count ≤ get_or place slot 0 → get_or (keys_of heap place count) slot None ≡ None
no_key_there heap place count slot h le = key_at-keys heap place count slot h ∙ key_in_no heap count (get_or place slot 0) le
