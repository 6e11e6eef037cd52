-- An agenda as a whole: empty, with one more slot, and its least key.
use Rattle.std.proofs.Common.{◌≡◌, ℕ, ◌+◌, ◌<◌, ◌≤◌, inl, inr, List, [], ◌∷◌, ◌++◌, length, get_or, Option, None, Some, cond, ltb, is_some, lt-ltb, length-append, append-nil, append_assoc, ◌-◌, replicate, refl, sym, ap, subst, ◌∙◌, arith}
use Rattle.std.proofs.lemmas.List.{ext_get_or, get_or_past, get_or_append_left, get_or_push, replicate-append-replicate}
use Rattle.std.proofs.lemmas.List.Sums.{sum_by-append, sum_by-cons}
use Rattle.sg_heap.specs.declared.entry.Entry.{Entry}
use Rattle.sg_heap.specs.Agenda.{Key, IsNoLater, IsLeast, key_count, key_at, with_slots}
use Rattle.sg_heap.specs.kept.Heap.{no_entry, entry_at, key_of, key_in, keys_of, IsHeap, ArePlaced, IsAgenda, GrowsTo}
use Rattle.sg_heap.proofs.Placing.{key_at-keys, length-keys}
use Rattle.sg_heap.proofs.Sifts.{root_first}
use Rattle.sg_heap.proofs.Changes.{lt_cases, key_there, key_in_no, shorter}

pub empty_keys : keys_of [] [] 0 ≡ []
unfolding keys_of
empty_keys = refl

pub empty_agenda : IsAgenda [] [] 0
unfolding keys_of IsHeap
empty_agenda = record {
  placed = record { len = refl; slots = λ i h. absurd (omega (arith, h)); places = λ i h. absurd (omega (arith, h)); there = λ i h. absurd (omega (arith, h)); back = λ i h. absurd (omega (arith, h)) };
  order = λ i hi hc. absurd (omega (arith, hc));
  within = omega arith;
  counted = refl;
}

pub least_is : (heap : List Entry) (place : List ℕ) (count : ℕ) → IsAgenda heap place count → 0 < count → IsLeast (keys_of heap place count) (entry_at heap 0).slot (key_of (entry_at heap 0))
least_is heap place count a some = record { there = key_there heap place count 0 a.placed (omega (arith, a.within)) some; least = each }
  where
    in_heap : (at : ℕ) (its : Key) → key_in heap count at ≡ Some its → IsNoLater (key_of (entry_at heap 0)) its
    in_heap at its e = elim (lt_cases at count) [
      | inl l ↦
          let q : Some (key_of (entry_at heap at)) ≡ Some its = sym (ap (λ b. cond b (Some (key_of (entry_at heap at))) None) (lt-ltb at count l)) ∙ e in
          subst (λ k. IsNoLater (key_of (entry_at heap 0)) k) (same (key_of (entry_at heap at)) its q) (root_first heap count at a.order l)
      | inr m ↦ let q : None ≡ Some its = sym (key_in_no heap count at m) ∙ e in cc
    ]
      where
        same : (x y : Key) → Some x ≡ Some y → x ≡ y
        same x y h = cc h

    each : (other : ℕ) (its : Key) → key_at (keys_of heap place count) other ≡ Some its → IsNoLater (key_of (entry_at heap 0)) its
    each other its e = elim (lt_cases other (length place)) [
      | inl l ↦ in_heap (get_or place other 0) its (sym (key_at-keys heap place count other l) ∙ e)
      | inr m ↦ let q : None ≡ Some its = sym (get_or_past (keys_of heap place count) other None (subst (λ n. n ≤ other) (sym (length-keys heap place count)) m)) ∙ e in cc
    ]

pub none_is : (heap : List Entry) (place : List ℕ) (slot : ℕ) → get_or (keys_of heap place 0) slot None ≡ None
none_is heap place slot = elim (lt_cases slot (length place)) [
  | inl l ↦ key_at-keys heap place 0 slot l ∙ key_in_no heap 0 (get_or place slot 0) (omega arith)
  | inr m ↦ get_or_past (keys_of heap place 0) slot None (subst (λ n. n ≤ slot) (sym (length-keys heap place 0)) m)
]

-- one more slot, with no key
module _ (heap : List Entry) (place : List ℕ) (count : ℕ) (entry : Entry) (a : IsAgenda heap place count) (its : entry.slot ≡ length place) where
  abbrev more_heap : List Entry
  more_heap = heap ++ entry ∷ []

  abbrev more_place : List ℕ
  more_place = place ++ length place ∷ []

  len_more : length more_place ≡ length place + 1
  len_more = length-append place (length place ∷ [])

  len_heap : length more_heap ≡ length place + 1
  len_heap = length-append heap (entry ∷ []) ∙ ap (λ k. k + 1) a.placed.len

  entry_old : (i : ℕ) → i < length place → entry_at more_heap i ≡ entry_at heap i
  entry_old i h = get_or_append_left heap (entry ∷ []) no_entry i (subst (λ k. i < k) (sym a.placed.len) h)

  entry_new : entry_at more_heap (length place) ≡ entry
  entry_new = get_or_push heap entry no_entry (length place) a.placed.len

  place_old : (i : ℕ) → i < length place → get_or more_place i 0 ≡ get_or place i 0
  place_old i h = get_or_append_left place (length place ∷ []) 0 i h

  place_new : get_or more_place (length place) 0 ≡ length place
  place_new = get_or_push place (length place) 0 (length place) refl

  either : (P : ℕ → Type 0) (i : ℕ) → i < length more_place → (i < length place → P i) → P (length place) → P i
  either P i h old new = elim (lt_cases i (length place)) [ inl l ↦ old l | inr m ↦ subst P (last m) new ]
    where
      last : length place ≤ i → length place ≡ i
      last m = omega (arith, m, h, len_more)

  placed_more : ArePlaced more_heap more_place
  placed_more = record {
    len = len_heap ∙ sym len_more;
    slots = λ i h. subst (λ m. (entry_at more_heap i).slot < m) (sym len_more) (either (λ i. (entry_at more_heap i).slot < length place + 1) i h (λ l. subst (λ e. e.slot < length place + 1) (sym (entry_old i l)) (omega (arith, a.placed.slots i l)))
        (subst (λ e. e.slot < length place + 1) (sym entry_new) (omega (arith, its))));
    places = λ i h. subst (λ m. get_or more_place i 0 < m) (sym len_more) (either (λ i. get_or more_place i 0 < length place + 1) i h (λ l. subst (λ e. e < length place + 1) (sym (place_old i l)) (omega (arith, a.placed.places i l)))
        (subst (λ e. e < length place + 1) (sym place_new) (omega arith)));
    there = λ i h. either (λ i. get_or more_place (entry_at more_heap i).slot 0 ≡ i) i h (λ l. ap (λ e. get_or more_place e.slot 0) (entry_old i l) ∙ place_old (entry_at heap i).slot (a.placed.slots i l) ∙ a.placed.there i l)
        (ap (λ e. get_or more_place e.slot 0) entry_new ∙ ap (λ s. get_or more_place s 0) its ∙ place_new);
    back = λ i h. either (λ i. (entry_at more_heap (get_or more_place i 0)).slot ≡ i) i h (λ l. ap (λ k. (entry_at more_heap k).slot) (place_old i l) ∙ ap (λ e. e.slot) (entry_old (get_or place i 0) (a.placed.places i l)) ∙ a.placed.back i l)
        (ap (λ k. (entry_at more_heap k).slot) place_new ∙ ap (λ e. e.slot) entry_new ∙ its);
  }

  key_same : (at : ℕ) → at < length place → key_in more_heap count at ≡ key_in heap count at
  key_same at h = ap (λ e. cond (ltb at count) (Some (key_of e)) None) (entry_old at h)

  pub keys_more : keys_of more_heap more_place count ≡ keys_of heap place count ++ None ∷ []
  keys_more = ext_get_or None (keys_of more_heap more_place count) (keys_of heap place count ++ None ∷ [])
      (length-keys more_heap more_place count ∙ len_more ∙ sym (length-append (keys_of heap place count) (None ∷ []) ∙ ap (λ k. k + 1) (length-keys heap place count)))
      (λ i h.
      let k : i < length more_place = subst (λ m. i < m) (length-keys more_heap more_place count) h in
      key_at-keys more_heap more_place count i k ∙ either (λ i. key_in more_heap count (get_or more_place i 0) ≡ get_or (keys_of heap place count ++ None ∷ []) i None) i k
      (λ l. ap (key_in more_heap count) (place_old i l) ∙ key_same (get_or place i 0) (a.placed.places i l) ∙ sym (key_at-keys heap place count i l) ∙ sym (get_or_append_left (keys_of heap place count) (None ∷ []) None i (subst (λ m. i < m) (sym (length-keys heap place count)) l)))
      (ap (key_in more_heap count) place_new ∙ key_in_no more_heap count (length place) a.within ∙ sym (get_or_push (keys_of heap place count) None None (length place) (length-keys heap place count))))

  pub agenda_more : IsAgenda more_heap more_place count
  agenda_more = record {
    placed = placed_more;
    order = shorter heap more_heap count count a.order (omega arith) (λ i h. entry_old i (omega (arith, a.within, h)));
    within = omega (arith, a.within, len_more);
    counted = ap key_count keys_more ∙ key_count_more (keys_of heap place count) ∙ a.counted;
  }
    where
      key_count_more : (keys : List (Option Key)) → key_count (keys ++ None ∷ []) ≡ key_count keys
      key_count_more keys = omega (arith, sum_by-append (λ o. cond (is_some {T = Key} o) 1 0) keys (None ∷ []), sum_by-cons (λ o. cond (is_some {T = Key} o) 1 0) None [])

-- slots come, none of which has a key
pushed : (keys : List (Option Key)) (n : ℕ) → length keys ≤ n → with_slots n keys ++ None ∷ [] ≡ with_slots (n + 1) keys
pushed keys n h =
    append_assoc keys (replicate (n - length keys) None) (None ∷ [])
    ∙ ap (λ r. keys ++ r) (replicate-append-replicate (n - length keys) 1 None ∙ ap (λ k. replicate k None) (omega (arith, h)))

same_slots : (keys : List (Option Key)) (m n : ℕ) → m - length keys ≡ n - length keys → with_slots m keys ≡ with_slots n keys
same_slots keys m n e = ap (λ k. keys ++ replicate k None) e

none_more : (keys : List (Option Key)) → keys ≡ with_slots (length keys) keys
none_more keys = sym (ap (λ k. keys ++ replicate k None) none ∙ append-nil keys)
  where
    none : length keys - length keys ≡ 0
    none = omega arith

pub grows_none : (heap : List Entry) (place : List ℕ) → GrowsTo (length place) heap place heap place
grows_none heap place = record {
  agenda = λ count a. a;
  keys = λ count a. subst (λ n. keys_of heap place count ≡ with_slots n (keys_of heap place count)) (length-keys heap place count) (none_more (keys_of heap place count));
}

pub grows_same : (heap heap' : List Entry) (place place' : List ℕ) (m n : ℕ) → m - length place ≡ n - length place → GrowsTo m heap place heap' place' → GrowsTo n heap place heap' place'
grows_same heap heap' place place' m n e g = record {
  agenda = g.agenda;
  keys = λ count a. g.keys count a ∙ same_slots (keys_of heap place count) m n (subst (λ k. m - k ≡ n - k) (sym (length-keys heap place count)) e);
}

pub grows_more : (heap heap' : List Entry) (place place' : List ℕ) (entry : Entry) (n : ℕ) → entry.slot ≡ n → length place' ≡ n → length place ≤ n → GrowsTo n heap place heap' place' → GrowsTo (n + 1) heap place (heap' ++ entry ∷ []) (place' ++ n ∷ [])
grows_more heap heap' place place' entry n its len le g = record {
  agenda = λ count a. subst (λ w. IsAgenda (heap' ++ entry ∷ []) (place' ++ w ∷ []) count) len (agenda_more heap' place' count entry (g.agenda count a) (its ∙ sym len));
  keys = λ count a.
      subst (λ w. keys_of (heap' ++ entry ∷ []) (place' ++ w ∷ []) count ≡ keys_of heap' place' count ++ None ∷ []) len (keys_more heap' place' count entry (g.agenda count a) (its ∙ sym len))
      ∙ ap (λ keys. keys ++ None ∷ []) (g.keys count a)
      ∙ pushed (keys_of heap place count) n (subst (λ k. k ≤ n) (sym (length-keys heap place count)) le);
}
