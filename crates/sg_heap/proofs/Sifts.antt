-- A step up or down in a heap keeps its order, and in the end all is in order.
use Rattle.std.proofs.Common.{◌≡◌, ◌≢◌, ℕ, zero, suc, ◌+◌, ◌-◌, ◌*◌, ◌/◌, ◌<◌, ◌≤◌, inl, inr, List, sym, ap, subst, ◌∙◌, arith}
use Rattle.sg_heap.specs.declared.entry.Entry.{Entry}
use Rattle.sg_heap.specs.Agenda.{IsNoLater}
use Rattle.sg_heap.specs.kept.Heap.{entry_at, key_of, InOrder, IsSpanned, IsHeap, MayMove, MayRise, MaySink}
use Rattle.sg_heap.proofs.Order.{no_later-trans, no_later-same}
use Rattle.sg_heap.proofs.Placing.{AreExchanged, eq_cases}

pub by : (x y x' y' : Entry) → x' ≡ x → y' ≡ y → IsNoLater (key_of x) (key_of y) → IsNoLater (key_of x') (key_of y')
by x y x' y' p q h = subst (λ e. IsNoLater (key_of e) (key_of y')) (sym p) (subst (λ e. IsNoLater (key_of x) (key_of e)) (sym q) h)

pub rises_moved : (heap heap' : List Entry) (count at to : ℕ) → AreExchanged heap heap' at to → 0 < at → at < count → (at - 1) / 2 ≡ to → InOrder heap at to → MayRise heap count at → MayRise heap' count to
rises_moved heap heap' count at to s some in' parent before r = record { order = order; spanned = spanned }
  where
    order : (i : ℕ) → 0 < i → i < count → i ≢ to → InOrder heap' ((i - 1) / 2) i
    order i hi hc nt = elim (eq_cases i at) [
      | inl e ↦ by (entry_at heap at) (entry_at heap to) (entry_at heap' ((i - 1) / 2)) (entry_at heap' i) (ap (entry_at heap') (ap (λ k. (k - 1) / 2) e ∙ parent) ∙ s.at_b) (ap (entry_at heap') e ∙ s.at_a) before
      | inr na ↦
          let same = s.at_rest i na nt in
          elim (eq_cases ((i - 1) / 2) at) [
            | inl e ↦ by (entry_at heap to) (entry_at heap i) (entry_at heap' ((i - 1) / 2)) (entry_at heap' i) (ap (entry_at heap') e ∙ s.at_a) same (subst (λ k. InOrder heap k i) parent (r.spanned some i hi hc e))
            | inr pa ↦ elim (eq_cases ((i - 1) / 2) to) [
              | inl e ↦ by (entry_at heap at) (entry_at heap i) (entry_at heap' ((i - 1) / 2)) (entry_at heap' i) (ap (entry_at heap') e ∙ s.at_b) same
                  (no_later-trans (key_of (entry_at heap at)) (key_of (entry_at heap to)) (key_of (entry_at heap i)) before (subst (λ k. InOrder heap k i) e (r.order i hi hc na)))
              | inr pt ↦ by (entry_at heap ((i - 1) / 2)) (entry_at heap i) (entry_at heap' ((i - 1) / 2)) (entry_at heap' i) (s.at_rest ((i - 1) / 2) pa pt) same (r.order i hi hc na)
            ]
          ]
    ]

    spanned : IsSpanned heap' count to
    spanned some' i hi hc e =
        let up : InOrder heap ((to - 1) / 2) to = r.order to some' (omega arith) (λ q. omega (arith, q)) in
        let upper : entry_at heap' ((to - 1) / 2) ≡ entry_at heap ((to - 1) / 2) = s.at_rest ((to - 1) / 2) (λ q. omega (arith, q)) (λ q. omega (arith, q)) in
        elim (eq_cases i at) [
          | inl q ↦ by (entry_at heap ((to - 1) / 2)) (entry_at heap to) (entry_at heap' ((to - 1) / 2)) (entry_at heap' i) upper (ap (entry_at heap') q ∙ s.at_a) up
          | inr na ↦ by (entry_at heap ((to - 1) / 2)) (entry_at heap i) (entry_at heap' ((to - 1) / 2)) (entry_at heap' i) upper (s.at_rest i na (λ q. omega (arith, q)))
              (no_later-trans (key_of (entry_at heap ((to - 1) / 2))) (key_of (entry_at heap to)) (key_of (entry_at heap i)) up (subst (λ k. InOrder heap k i) e (r.order i hi hc na)))
        ]

pub rises_done : (heap : List Entry) (count at : ℕ) → MayRise heap count at → (0 < at → InOrder heap ((at - 1) / 2) at) → IsHeap heap count
unfolding IsHeap
rises_done heap count at r here = λ i hi hc. elim (eq_cases i at) [
  | inl e ↦ subst (λ k. InOrder heap ((k - 1) / 2) k) (sym e) (here (subst (λ k. 0 < k) e hi))
  | inr ne ↦ r.order i hi hc ne
]

pub sinks_moved : (heap heap' : List Entry) (count at to : ℕ) → AreExchanged heap heap' at to → at < to → to < count → (to - 1) / 2 ≡ at → InOrder heap to at → ((i : ℕ) → 0 < i → i < count → (i - 1) / 2 ≡ at → InOrder heap to i) → MaySink heap count at → MaySink heap' count to
sinks_moved heap heap' count at to s less in' parent before first r = record { order = order; spanned = spanned }
  where
    order : (i : ℕ) → 0 < i → i < count → (i - 1) / 2 ≢ to → InOrder heap' ((i - 1) / 2) i
    order i hi hc pt = elim (eq_cases i to) [
      | inl e ↦ by (entry_at heap to) (entry_at heap at) (entry_at heap' ((i - 1) / 2)) (entry_at heap' i) (ap (entry_at heap') (ap (λ k. (k - 1) / 2) e ∙ parent) ∙ s.at_a) (ap (entry_at heap') e ∙ s.at_b) before
      | inr nt ↦ elim (eq_cases ((i - 1) / 2) at) [
        | inl e ↦ by (entry_at heap to) (entry_at heap i) (entry_at heap' ((i - 1) / 2)) (entry_at heap' i) (ap (entry_at heap') e ∙ s.at_a) (s.at_rest i (λ q. omega (arith, q, e)) nt) (first i hi hc e)
        | inr pa ↦
            let upper : entry_at heap' ((i - 1) / 2) ≡ entry_at heap ((i - 1) / 2) = s.at_rest ((i - 1) / 2) pa pt in
            elim (eq_cases i at) [
              | inl e ↦ by (entry_at heap ((i - 1) / 2)) (entry_at heap to) (entry_at heap' ((i - 1) / 2)) (entry_at heap' i) upper (ap (entry_at heap') e ∙ s.at_a)
                  (subst (λ k. InOrder heap ((k - 1) / 2) to) (sym e) (r.spanned (subst (λ k. 0 < k) e hi) to (omega arith) in' parent))
              | inr na ↦ by (entry_at heap ((i - 1) / 2)) (entry_at heap i) (entry_at heap' ((i - 1) / 2)) (entry_at heap' i) upper (s.at_rest i na nt) (r.order i hi hc pa)
            ]
      ]
    ]

    spanned : IsSpanned heap' count to
    spanned some' i hi hc e = by (entry_at heap to) (entry_at heap i) (entry_at heap' ((to - 1) / 2)) (entry_at heap' i) (ap (entry_at heap') parent ∙ s.at_a) (s.at_rest i (λ q. omega (arith, q, e)) (λ q. omega (arith, q, e)))
        (subst (λ k. InOrder heap k i) e (r.order i hi hc (λ q. omega (arith, q, e))))

pub sinks_done : (heap : List Entry) (count at : ℕ) → MaySink heap count at → ((i : ℕ) → 0 < i → i < count → (i - 1) / 2 ≡ at → InOrder heap at i) → IsHeap heap count
unfolding IsHeap
sinks_done heap count at r here = λ i hi hc. elim (eq_cases ((i - 1) / 2) at) [
  | inl e ↦ subst (λ k. InOrder heap k i) (sym e) (here i hi hc e)
  | inr ne ↦ r.order i hi hc ne
]

-- a child that comes before the others goes up, whatever comes down
pub loose_moved : (heap heap' : List Entry) (count at to : ℕ) → AreExchanged heap heap' at to → at < to → to < count → (to - 1) / 2 ≡ at → ((i : ℕ) → 0 < i → i < count → (i - 1) / 2 ≡ at → InOrder heap to i) → MayMove heap count at → MayMove heap' count to
loose_moved heap heap' count at to s less in' parent first r = record { order = order; spanned = spanned }
  where
    order : (i : ℕ) → 0 < i → i < count → i ≢ to → (i - 1) / 2 ≢ to → InOrder heap' ((i - 1) / 2) i
    order i hi hc nt pt = elim (eq_cases i at) [
      | inl e ↦
          let upper : entry_at heap' ((i - 1) / 2) ≡ entry_at heap ((i - 1) / 2) = s.at_rest ((i - 1) / 2) (λ q. omega (arith, q, e, hi)) pt in
          by (entry_at heap ((i - 1) / 2)) (entry_at heap to) (entry_at heap' ((i - 1) / 2)) (entry_at heap' i) upper (ap (entry_at heap') e ∙ s.at_a)
          (subst (λ k. InOrder heap ((k - 1) / 2) to) (sym e) (r.spanned (subst (λ k. 0 < k) e hi) to (omega arith) in' parent))
      | inr na ↦
          let same = s.at_rest i na nt in
          elim (eq_cases ((i - 1) / 2) at) [
            | inl e ↦ by (entry_at heap to) (entry_at heap i) (entry_at heap' ((i - 1) / 2)) (entry_at heap' i) (ap (entry_at heap') e ∙ s.at_a) same (first i hi hc e)
            | inr pa ↦ by (entry_at heap ((i - 1) / 2)) (entry_at heap i) (entry_at heap' ((i - 1) / 2)) (entry_at heap' i) (s.at_rest ((i - 1) / 2) pa pt) same (r.order i hi hc na pa)
          ]
    ]

    spanned : IsSpanned heap' count to
    spanned some i hi hc e = by (entry_at heap to) (entry_at heap i) (entry_at heap' ((to - 1) / 2)) (entry_at heap' i) (ap (entry_at heap') parent ∙ s.at_a) (s.at_rest i (λ q. omega (arith, q, e)) (λ q. omega (arith, q, e)))
        (subst (λ k. InOrder heap k i) e (r.order i hi hc (λ q. omega (arith, q, e)) (λ q. omega (arith, q, e))))

-- with no children an entry can only come before its parent
pub loose_rises : (heap : List Entry) (count at : ℕ) → count ≤ 2 * at + 1 → MayMove heap count at → MayRise heap count at
loose_rises heap count at end r = record { order = λ i hi hc ne. r.order i hi hc ne (λ q. omega (arith, q, hi, hc, end)); spanned = r.spanned }

-- a new entry after a heap
pub rises_new : (heap heap' : List Entry) (count : ℕ) → IsHeap heap count → ((i : ℕ) → i < count → entry_at heap' i ≡ entry_at heap i) → MayRise heap' (count + 1) count
unfolding IsHeap
rises_new heap heap' count h same = record {
  order = λ i hi hc ne. by (entry_at heap ((i - 1) / 2)) (entry_at heap i) (entry_at heap' ((i - 1) / 2)) (entry_at heap' i) (same ((i - 1) / 2) (omega (arith, ne))) (same i (omega (arith, ne))) (h i hi (omega (arith, ne)));
  spanned = λ some i hi hc e. absurd (omega (arith, some, hi, hc, e));
}

-- the first entry comes before all
root : (most : ℕ) (heap : List Entry) (count i : ℕ) → IsHeap heap count → i < count → i ≤ most → InOrder heap 0 i
unfolding IsHeap
root zero heap count i h hc hm = subst (λ k. InOrder heap 0 k) (sym none) (no_later-same (key_of (entry_at heap 0)))
  where
    none : i ≡ 0
    none = omega arith
root (suc most) heap count i h hc hm = elim (eq_cases i 0) [
  | inl e ↦ subst (λ k. InOrder heap 0 k) (sym e) (no_later-same (key_of (entry_at heap 0)))
  | inr some ↦ no_later-trans (key_of (entry_at heap 0)) (key_of (entry_at heap ((i - 1) / 2))) (key_of (entry_at heap i)) (root most heap count ((i - 1) / 2) h (omega arith) (omega arith)) (h i (omega arith) hc)
]

pub root_first : (heap : List Entry) (count i : ℕ) → IsHeap heap count → i < count → InOrder heap 0 i
root_first heap count i h hc = root i heap count i h hc (omega arith)
