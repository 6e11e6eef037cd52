-- One step of sifting, for the entry in hand, which is to be written at one place.
use Rattle.std.proofs.Common.{◌≡◌, ◌≢◌, ℕ, ◌-◌, ◌/◌, ◌<◌, ◌≤◌, List, length, set, length-set, get_or-set_same, get_or-set_other, subst, arith}
use Rattle.sg_heap.specs.declared.entry.Entry.{Entry}
use Rattle.sg_heap.specs.Agenda.{IsNoLater}
use Rattle.sg_heap.specs.kept.Heap.{no_entry, entry_at, key_of, InOrder, IsHeap, ArePlaced, MayMove, MayRise, MaySink}
use Rattle.sg_heap.proofs.Placing.{IsMove, moves}
use Rattle.sg_heap.proofs.Sifts.{by, loose_moved, rises_moved, rises_done, sinks_moved, sinks_done}

pub here : (heap : List Entry) (at : ℕ) (entry : Entry) → at < length heap → entry_at (set heap at entry) at ≡ entry
here heap at entry h = get_or-set_same heap at entry no_entry h

pub there : (heap : List Entry) (at i : ℕ) (entry : Entry) → i ≢ at → entry_at (set heap at entry) i ≡ entry_at heap i
there heap at i entry h = get_or-set_other heap at i entry no_entry h

pub slot_of : (heap : List Entry) (place : List ℕ) (at i : ℕ) (entry : Entry) → i ≢ at → i < length heap → ArePlaced (set heap at entry) (set place entry.slot at) → (entry_at heap i).slot < length place
slot_of heap place at i entry ne h p =
    let lens : length (set heap at entry) ≡ length (set place entry.slot at) = p.len in
    let n : length (set place entry.slot at) ≡ length place = length-set place entry.slot at in
    let k : i < length (set place entry.slot at) = omega (arith, lens, length-set heap at entry) in
    subst (λ m. (entry_at heap i).slot < m) n (subst (λ e. e.slot < length (set place entry.slot at)) (there heap at i entry ne) (p.slots i k))

-- up
pub rise_stops : (heap : List Entry) (count at : ℕ) (entry : Entry) → at < length heap → MayRise (set heap at entry) count at → (0 < at → IsNoLater (key_of (entry_at heap ((at - 1) / 2))) (key_of entry)) → IsHeap (set heap at entry) count
rise_stops heap count at entry h r behind =
    rises_done (set heap at entry) count at r (λ some. by (entry_at heap ((at - 1) / 2)) entry (entry_at (set heap at entry) ((at - 1) / 2)) (entry_at (set heap at entry) at)
    (there heap at ((at - 1) / 2) entry (λ e. omega (arith, e))) (here heap at entry h) (behind some))

pub rise_goes : (heap : List Entry) (place : List ℕ) (count at to : ℕ) (entry : Entry) → (at - 1) / 2 ≡ to → 0 < at → at < count → count ≤ length heap → ArePlaced (set heap at entry) (set place entry.slot at) → MayRise (set heap at entry) count at →
    IsNoLater (key_of entry) (key_of (entry_at heap to)) → IsMove heap place at to count entry × MayRise (set (set heap at (entry_at heap to)) to entry) count to
rise_goes heap place count at to entry parent some in' len p r before =
    let m = moves heap place at to count entry (λ e. omega (arith, e)) in' (omega arith) len p in (
      m,
      rises_moved (set heap at entry) (set (set heap at (entry_at heap to)) to entry) count at to m.exchanged some in' parent
          (by entry (entry_at heap to) (entry_at (set heap at entry) at) (entry_at (set heap at entry) to) (here heap at entry (omega arith)) (there heap at to entry (λ e. omega (arith, e))) before) r,
    )

-- down
pub sink_stops : (heap : List Entry) (count at : ℕ) (entry : Entry) → at < length heap → MaySink (set heap at entry) count at → ((i : ℕ) → 0 < i → i < count → (i - 1) / 2 ≡ at → IsNoLater (key_of entry) (key_of (entry_at heap i))) → IsHeap (set heap at entry) count
sink_stops heap count at entry h r first =
    sinks_done (set heap at entry) count at r (λ i hi hc e. by entry (entry_at heap i) (entry_at (set heap at entry) at) (entry_at (set heap at entry) i)
    (here heap at entry h) (there heap at i entry (λ q. omega (arith, q, e))) (first i hi hc e))

pub sink_goes : (heap : List Entry) (place : List ℕ) (count at to : ℕ) (entry : Entry) → (to - 1) / 2 ≡ at → at < to → to < count → count ≤ length heap → ArePlaced (set heap at entry) (set place entry.slot at) → MaySink (set heap at entry) count at →
    IsNoLater (key_of (entry_at heap to)) (key_of entry) → ((i : ℕ) → 0 < i → i < count → (i - 1) / 2 ≡ at → InOrder heap to i) → IsMove heap place at to count entry × MaySink (set (set heap at (entry_at heap to)) to entry) count to
sink_goes heap place count at to entry parent less in' len p r before first =
    let m = moves heap place at to count entry (λ e. omega (arith, e)) (omega arith) in' len p in
    let same : entry_at (set heap at entry) to ≡ entry_at heap to = there heap at to entry (λ e. omega (arith, e)) in (
      m,
      sinks_moved (set heap at entry) (set (set heap at (entry_at heap to)) to entry) count at to m.exchanged less in' parent
          (by (entry_at heap to) entry (entry_at (set heap at entry) to) (entry_at (set heap at entry) at) same (here heap at entry (omega arith)) before)
          (λ i hi hc e. by (entry_at heap to) (entry_at heap i) (entry_at (set heap at entry) to) (entry_at (set heap at entry) i) same (there heap at i entry (λ q. omega (arith, q, e))) (first i hi hc e)) r,
    )

-- down, whatever comes
pub loose_goes : (heap : List Entry) (place : List ℕ) (count at to : ℕ) (entry : Entry) → (to - 1) / 2 ≡ at → at < to → to < count → count ≤ length heap → ArePlaced (set heap at entry) (set place entry.slot at) → MayMove (set heap at entry) count at →
    ((i : ℕ) → 0 < i → i < count → (i - 1) / 2 ≡ at → InOrder heap to i) → IsMove heap place at to count entry × MayMove (set (set heap at (entry_at heap to)) to entry) count to
loose_goes heap place count at to entry parent less in' len p r first =
    let m = moves heap place at to count entry (λ e. omega (arith, e)) (omega arith) in' len p in
    let same : entry_at (set heap at entry) to ≡ entry_at heap to = there heap at to entry (λ e. omega (arith, e)) in (
      m,
      loose_moved (set heap at entry) (set (set heap at (entry_at heap to)) to entry) count at to m.exchanged less in' parent
          (λ i hi hc e. by (entry_at heap to) (entry_at heap i) (entry_at (set heap at entry) to) (entry_at (set heap at entry) i) same (there heap at i entry (λ q. omega (arith, q, e))) (first i hi hc e)) r,
    )
