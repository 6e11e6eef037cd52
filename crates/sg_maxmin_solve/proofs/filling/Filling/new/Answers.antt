use Rattle.std.proofs.Common.{◌≡◌, ℕ, [], length, get_or, Option, None, inl, inr, replicate, max, ap, ◌∙◌, arith}
use Rattle.std.proofs.lemmas.List.{get_or-replicate, get_or_past, length-replicate}
use Rattle.std.proofs.lemmas.Bool.{cases_lt}
use Rattle.sg_heap.specs.Agenda.{Key, with_slots}
use Rattle.sg_maxmin_solve.proofs.filling.Filling.new.Goals as goal

at_replicate : {A : Type 0} (n c : ℕ) (a : A) → get_or (replicate n a) c a ≡ a
at_replicate n c a = elim (cases_lt c n) [
  | inl less ↦ get_or-replicate n c a a less
  | inr most ↦ get_or_past (replicate n a) c a (omega (arith, most, length-replicate n a))
]

none : (n : ℕ) → with_slots n [] ≡ replicate n None
none n = ap (λ k. replicate {A = Option Key} k None) (omega (arith))

pub returns : goal.returns
returns c =
    let n = length c.args.capacities.now in
    let room : c.reserve.new.self.room ≡ max 0 n = c.in_ok-reserve.ensures.room ∙ ap (λ r. max r n) c.new-stale.ensures.room in
    let agenda : c.reserve-2.new.self ≡ replicate n None = c.in_ok-reserve-2.ensures.room ∙ ap (with_slots n) c.in_ok-agenda.ensures ∙ none n in
    let holds : length c.in_ok-vec.field-0.items ≡ n = omega (arith, c.in_ok-vec.field-0.ok, c.in_ok-vec.ensures.len) in
    let left : c.in_ok-from_slice.field-0.items ≡ c.args.capacities.now = c.in_ok-from_slice.ensures.items in
    let waiting : c.in_ok-vec-2.field-0.items ≡ replicate n 0 = c.in_ok-vec-2.ensures.items_if_clones_equal (λ y h. h) in
    let levels : c.in_ok-from_slice-2.field-0.items ≡ c.args.capacities.now = c.in_ok-from_slice-2.ensures.items in
    record {
      holds_len = holds;
      left_len = ap length left;
      waiting_len = ap length waiting ∙ length-replicate n 0;
      levels_len = ap length levels;
      stale_room = room ∙ omega (arith);
      slots = ap length agenda ∙ length-replicate {A = Option Key} n None;
      idle = record {
        waiting = λ k. ap (λ xs. get_or xs k 0) waiting ∙ at_replicate n k 0;
        keys = λ k. ap (λ xs. get_or xs k None) agenda ∙ at_replicate n k None;
      };
    }
