-- What a move of a slot does to the queues of values.
use Rattle.std.proofs.Common.{◌≡◌, ◌≢◌, ◌<◌, ◌≤◌, ◌+◌, ◌∙◌, sym, ap, refl, ℕ, suc, true, false, not, ◌||◌, eqb, List, [], ◌∷◌, ◌++◌, length, get_or, set, Some, arith}
use Rattle.std.specs.Prelude.{All, map}
use Rattle.std.proofs.Math.Path.{fun_ext}
use Rattle.std.proofs.lemmas.Bool.{eq-eqb}
use Rattle.std.proofs.lemmas.List.{length-map, length_push, get_or-map, get_or-set_same, get_or-set_other}
use Rattle.std.proofs.lemmas.List.Elements.{All-from_get_or}
use Rattle.std.proofs.lemmas.List.Folds.{list_any_at}
use Rattle.sg_queues.specs.Rings.{Rings, is_in, queue_at, front, behind, joined, left, without, IsAlone, IsApart, IsSlot}
use Rattle.sg_queues.specs.Queues.{holds, queued, shortened, let_go, AreSlots, IsHeld}
use Rattle.sg_queues.specs.kept.Entries.{entry, entries_of, AreKept}
use Rattle.sg_queues.proofs.Lists.{read_grown, from_front, front_any, without_none, without_first, popped, none_of, joined_of, map_at, map_alike, left_of}
use Rattle.sg_queues.proofs.Rows.{absent_from, short}
use Rattle.sg_queues.proofs.Homes.{homes_stay}

pub front_in : (queue : List ℕ) (first : ℕ) → front queue ≡ Some first → is_in first queue ≡ true
front_in queue first is = front_any (eqb first) queue first is (eq-eqb first first refl)

-- who is idle is in no queue
pub idle_apart : (rings : Rings) (slot : ℕ) → IsApart rings → is_in slot rings.idle ≡ true → IsAlone slot rings.queues
idle_apart rings slot apart there queue = absent_from apart 0 (suc queue) slot there (λ e. omega (arith, e))

pub in_idle : (rings : Rings) (slot : ℕ) → IsApart rings → front rings.idle ≡ Some slot → IsSlot rings.nodes rings.heads slot
in_idle rings slot apart is = apart.slots 0 slot (front_in rings.idle slot is)

-- the first that is idle comes to a queue
pub one_less : (rings : Rings) (slot : ℕ) → IsApart rings → front rings.idle ≡ Some slot → length (without slot rings.idle) + 1 ≡ length rings.idle
one_less rings slot apart is =
    let left : without slot rings.idle ≡ behind rings.idle = without_first (λ x. x) rings.idle slot (apart.once 0) is in
    omega (arith, ap length left, ap length (from_front rings.idle slot is))

module _ {T : Type 0} (blank : T) where
  pub entries_at : (values : List T) (queues : List (List ℕ)) (queue : ℕ) → queue_at (entries_of blank values queues) queue ≡ map (entry blank values) (queue_at queues queue)
  entries_at values queues queue = map_at (map (entry blank values)) [] queues queue

  pub front_entry : (values : List T) (queues : List (List ℕ)) (queue slot : ℕ) → front (queue_at queues queue) ≡ Some slot → front (queue_at (entries_of blank values queues) queue) ≡ Some (entry blank values slot)
  front_entry values queues queue slot is = rw (entries_at values queues queue, from_front (queue_at queues queue) slot is) refl

  pub holds_at : (values : List T) (queues : List (List ℕ)) (slot queue : ℕ) → holds slot (queue_at (entries_of blank values queues) queue) ≡ is_in slot (queue_at queues queue)
  holds_at values queues slot queue = ap (holds slot) (entries_at values queues queue) ∙ go (queue_at queues queue)
    where
      go : (slots : List ℕ) → holds slot (map (entry blank values) slots) ≡ is_in slot slots
      go [] = refl
      go (x ∷ xs) = ap (λ b. eqb slot x || b) (go xs)

  pub are_slots : (values : List T) (rings : Rings) → IsApart rings → AreSlots (entries_of blank values rings.queues)
  are_slots values rings apart = record {
    once = λ queue i j d less below same.
        let slots : List ℕ = queue_at rings.queues queue in
        let long : length (queue_at (entries_of blank values rings.queues) queue) ≡ length slots = ap length (entries_at values rings.queues queue) ∙ length-map slots (entry blank values) in
        let is : (k : ℕ) → k < length slots → (get_or (queue_at (entries_of blank values rings.queues) queue) k d).0 ≡ get_or slots k 0 =
        λ k k_below. ap (λ (l : List (ℕ × T)). (get_or l k d).0) (entries_at values rings.queues queue) ∙ ap (λ (e : ℕ × T). e.0) (get_or-map (entry blank values) slots k 0 d k_below) in
        apart.once (suc queue) i j 0 less (omega (arith, below, long)) (sym (is i (omega (arith, less, below, long))) ∙ same ∙ is j (omega (arith, below, long)));
    apart = λ p q slot p_in q_in.
        let same : suc p ≡ suc q = apart.apart (suc p) (suc q) slot (sym (holds_at values rings.queues slot p) ∙ p_in) (sym (holds_at values rings.queues slot q) ∙ q_in) in
        omega (arith, same);
  }

  -- a slot of a queue is one, and not idle
  pub held_slot : (values : List T) (rings : Rings) (slot : ℕ) → IsApart rings → IsHeld slot (entries_of blank values rings.queues) → IsSlot rings.nodes rings.heads slot × (is_in slot rings.idle ≡ false)
  held_slot values rings slot apart held =
      let there : is_in slot (queue_at rings.queues held.queue) ≡ true = sym (holds_at values rings.queues slot held.queue) ∙ held.there in
      (apart.slots (suc held.queue) slot there, absent_from apart (suc held.queue) 0 slot there (λ e. omega (arith, e)))

  -- a slot of a queue is free
  pub freed : (values : List T) (homes : List ℕ) (rings mid new : Rings) (places room slot : ℕ) → AreKept rings homes places room → IsHeld slot (entries_of blank values rings.queues) → IsApart new
      → mid ≡ record rings { idle = without slot rings.idle; queues = left slot rings.queues } → new ≡ record mid { idle = mid.idle ++ slot ∷ [] } → AreKept new homes places (room + 1) × (room + 1 ≤ length homes)
  freed values homes rings mid new places room slot kept held apart left_is is =
      let absent = (held_slot values rings slot kept.apart held).1 in
      let count : length new.idle ≡ room + 1 =
      ap (λ (r : Rings). length r.idle) is ∙ length_push mid.idle slot ∙ ap (λ (r : Rings). length r.idle + 1) left_is ∙ ap (λ l. length l + 1) (without_none (λ x. x) slot rings.idle (none_of slot rings.idle absent)) ∙ ap (λ n. n + 1) (sym kept.free) in
      let nodes : new.nodes ≡ rings.nodes = ap (λ (r : Rings). r.nodes) is ∙ ap (λ (r : Rings). r.nodes) left_is in
      let heads : new.heads ≡ rings.heads = ap (λ (r : Rings). r.heads) is ∙ ap (λ (r : Rings). r.heads) left_is in
      let few : length new.idle ≤ new.nodes = short apart 0 in
      (record { apart = apart; homes_fit = kept.homes_fit ∙ sym nodes; homes_are = homes_stay nodes heads kept.homes_are; free = sym count }, omega (arith, count, kept.homes_fit, nodes, few))

  -- one more place for a value, which isn't used
  pub entries_grown : (values : List T) (queues : List (List ℕ)) → entries_of blank (values ++ blank ∷ []) queues ≡ entries_of blank values queues
  entries_grown values queues = ap (λ (f : ℕ → ℕ × T). map (map f) queues) (fun_ext (λ slot. ap (λ (v : T). (slot, v)) (read_grown values blank blank slot (λ is. refl))))

  -- a slot that is in no queue comes to one, with a value
  pub pushed : (values : List T) (queues : List (List ℕ)) (slot queue : ℕ) (value : T) → IsAlone slot queues → slot < length values
      → entries_of blank (set values slot value) (joined slot queue queues) ≡ queued (entries_of blank values queues) queue (slot, value)
  pushed values queues slot queue value absent below =
      let new : ℕ → ℕ × T = entry blank (set values slot value) in
      let others : map (map new) queues ≡ entries_of blank values queues =
      map_alike (map new) (map (entry blank values)) queues (All-from_get_or (λ (q : List ℕ). map new q ≡ map (entry blank values) q) queues [] (λ q q_below.
      map_alike new (entry blank values) (queue_at queues q) (λ k d k_below. ap (λ (v : T). (get_or (queue_at queues q) k d, v)) (get_or-set_other values slot (get_or (queue_at queues q) k d) value blank (none_of slot (queue_at queues q) (absent q) k d k_below))))) in
      joined_of new slot queue queues
      ∙ ap (λ (l : List (List (ℕ × T))). set l queue (queue_at l queue ++ new slot ∷ [])) others
      ∙ ap (λ (v : T). queued (entries_of blank values queues) queue (slot, v)) (get_or-set_same values slot value blank below)

  -- a slot leaves its queue and is idle
  pub removed : (values : List T) (queues : List (List ℕ)) (slot : ℕ) → entries_of blank values (left slot queues) ≡ let_go slot (entries_of blank values queues)
  removed values queues slot = left_of (entry blank values) (λ (e : ℕ × T). not (eqb e.0 slot)) queues

module _ {T : Type 0} where
  pub holds_front : (queue : List (ℕ × T)) (first : ℕ × T) → front queue ≡ Some first → holds first.0 queue ≡ true
  holds_front queue first is = front_any (λ (e : ℕ × T). eqb first.0 e.0) queue first is (eq-eqb first.0 first.0 refl)

  -- a slot of one queue is in no other
  pub not_there : (queues : List (List (ℕ × T))) (p q slot : ℕ) → AreSlots queues → holds slot (queue_at queues p) ≡ true → q ≢ p → All (λ (e : ℕ × T). e.0 ≢ slot) (queue_at queues q)
  not_there queues p q slot slots there other k d below same =
      other (slots.apart q p slot (list_any_at (λ (e : ℕ × T). eqb slot e.0) (queue_at queues q) k d below (eq-eqb slot (get_or (queue_at queues q) k d).0 (sym same))) there)

  -- the first of a queue leaves that one alone
  pub first_leaves : (queues : List (List (ℕ × T))) (queue : ℕ) (first : ℕ × T) → AreSlots queues → queue < length queues → front (queue_at queues queue) ≡ Some first → let_go first.0 queues ≡ shortened queues queue
  first_leaves queues queue first slots below is =
      popped (λ (e : ℕ × T). e.0) queues queue first below is (slots.once queue) (λ other. not_there queues queue other first.0 slots (holds_front (queue_at queues queue) first is))
