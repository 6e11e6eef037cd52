-- How many steps of an expansion pass a test, and that sends are received and requests awaited.
use Rattle.std.proofs.Common.{◌≡◌, ℕ, ◌+◌, ◌-◌, ◌*◌, ◌%◌, ◌<◌, ◌≤◌, inl, inr, Bool, true, false, cond, ◌&&◌, ltb, eqb, List, [], ◌∷◌, ◌++◌, map, reverse, replicate, refl, sym, ap, ap₂, ◌∙◌, mod-eq_of_lt, arith}
use Rattle.std.specs.List.{count_by, range_with_len, flat_map}
use Rattle.std.proofs.Math.Nat.{add-mod_right}
use Rattle.std.proofs.lemmas.Bool.{cases_lt}
use Rattle.std.proofs.lemmas.Bool.Decides.{Decides-eqb, Decides-like, same_from_decides}
use Rattle.std.proofs.lemmas.List.FromFn.{length-range_with_len}
use Rattle.sg_collectives.specs.declared.collective.Collective.{Collective}
use Rattle.sg_collectives.specs.declared.collective.Collective.TheVariants.{Bcast, Reduce, Allreduce, Alltoall}
use Rattle.sg_collectives.specs.declared.step.Step.{Step}
use Rattle.sg_collectives.specs.declared.step.Step.TheVariants.{Recv, Send, Compute, IRecv, ISend, Wait}
use Rattle.sg_collectives.specs.Expansion.{alltoall, bcast, expansion, reduce}
use Rattle.sg_collectives.specs.Laws.{KindsAgree, RequestsAreAwaited, SendsAreReceived, is_irecv, is_isend, is_recv, is_send, is_wait, makes_request}
use Rattle.sg_collectives.specs.Tree.{children, parent_rank}
use Rattle.sg_collectives.proofs.Ranges.{count_by-append, count_by-each, count_by-map, count_by-none, count_by-pairs, count_by-replicate, count_by-reverse, count_by_agree}
use Rattle.sg_collectives.proofs.TreeLemmas.{children_count, is_under}

-- ---- counts of expansions
count_if : (p : Step → Bool) (b : Bool) (x : Step) → count_by p (cond b (x ∷ []) []) ≡ cond (b && p x) 1 0
count_if p true x = omega arith
count_if p false x = refl

off : (b : Bool) → ◌≡◌ {A = ℕ} (cond (b && false) 1 0) 0
off true = refl
off false = refl

count_bcast : (p : Step → Bool) (bytes rank members : ℕ) → count_by p (bcast bytes rank members)
    ≡ cond (ltb 0 rank && p (Recv (parent_rank rank))) 1 0 + count_by (λ child. p (Send child bytes)) (children rank members)
unfolding bcast
count_bcast p bytes rank members =
    let send : ℕ → Step = λ child. Send child bytes in
    count_by-append p (cond (ltb 0 rank) (Recv (parent_rank rank) ∷ []) []) (map (λ child. Send child bytes) (reverse (children rank members)))
    ∙ ap₂ (λ x y. x + y) (count_if p (ltb 0 rank) (Recv (parent_rank rank)))
    (count_by-map p send (reverse (children rank members)) ∙ count_by-reverse (λ child. p (send child)) (children rank members))

count_reduce : (p : Step → Bool) (bytes flops rank members : ℕ) → count_by p (reduce bytes flops rank members)
    ≡ (count_by (λ child. p (Recv child)) (children rank members) + count_by (λ child. p (Compute flops)) (children rank members))
    + cond (ltb 0 rank && p (Send (parent_rank rank) bytes)) 1 0
unfolding reduce
count_reduce p bytes flops rank members =
    count_by-append p (flat_map (λ child. Recv child ∷ Compute flops ∷ []) (children rank members)) (cond (ltb 0 rank) (Send (parent_rank rank) bytes ∷ []) [])
    ∙ ap₂ (λ x y. x + y) (count_by-pairs p (λ child. Recv child) (λ child. Compute flops) (children rank members))
    (count_if p (ltb 0 rank) (Send (parent_rank rank) bytes))

count_alltoall : (p : Step → Bool) (bytes rank members : ℕ) → count_by p (alltoall bytes rank members)
    ≡ (count_by (λ i. p (IRecv ((rank + members - i) % members))) (range_with_len 1 (members - 1))
    + count_by (λ i. p (ISend ((rank + i) % members) bytes)) (range_with_len 1 (members - 1)))
    + 2 * (members - 1) * cond (p Wait) 1 0
unfolding alltoall
count_alltoall p bytes rank members =
    let range : List ℕ = range_with_len 1 (members - 1) in
    let recv : ℕ → Step = λ i. IRecv ((rank + members - i) % members) in
    let send : ℕ → Step = λ i. ISend ((rank + i) % members) bytes in
    count_by-append p (map recv range ++ map send range) (replicate (2 * (members - 1)) Wait)
    ∙ ap₂ (λ x y. x + y)
    (count_by-append p (map recv range) (map send range)
    ∙ ap₂ (λ x y. x + y) (count_by-map p recv range) (count_by-map p send range))
    (count_by-replicate p (2 * (members - 1)) Wait)

-- ---- sends and receives
-- the one's sends to b are as many as the other's receives from a, and as many without waiting
record AreMatched (a b : ℕ) (from to : List Step) : Type 0 where
  waiting : count_by (is_send b) from ≡ count_by (is_recv a) to
  free : count_by (is_isend b) from ≡ count_by (is_irecv a) to

matched_append : (a b : ℕ) (xs ys us vs : List Step) → AreMatched a b xs us → AreMatched a b ys vs →
    AreMatched a b (xs ++ ys) (us ++ vs)
matched_append a b xs ys us vs first second = record {
  waiting = count_by-append (is_send b) xs ys ∙ ap₂ (λ x y. x + y) first.waiting second.waiting ∙ sym (count_by-append (is_recv a) us vs);
  free = count_by-append (is_isend b) xs ys ∙ ap₂ (λ x y. x + y) first.free second.free ∙ sym (count_by-append (is_irecv a) us vs);
}

bcast_matched : (bytes members a b : ℕ) → b < members → AreMatched a b (bcast bytes a members) (bcast bytes b members)
bcast_matched bytes members a b within = record {
  waiting =
      (count_bcast (is_send b) bytes a members
      ∙ ap₂ (λ x y. x + y) (off (ltb 0 a)) (children_count a b members within))
      ∙ sym (count_bcast (is_recv a) bytes b members
      ∙ ap (λ n. cond (is_under a b) 1 0 + n) (count_by-none (children b members)) ∙ omega arith);
  free =
      (count_bcast (is_isend b) bytes a members ∙ ap₂ (λ x y. x + y) (off (ltb 0 a)) (count_by-none (children a members)))
      ∙ sym (count_bcast (is_irecv a) bytes b members ∙ ap₂ (λ x y. x + y) (off (ltb 0 b)) (count_by-none (children b members)));
}

reduce_matched : (bytes flops members a b : ℕ) → a < members →
    AreMatched a b (reduce bytes flops a members) (reduce bytes flops b members)
reduce_matched bytes flops members a b within = record {
  waiting =
      count_reduce (is_send b) bytes flops a members
      ∙ ap (λ n. (n + n) + cond (is_under b a) 1 0) (count_by-none (children a members))
      ∙ sym (count_reduce (is_recv a) bytes flops b members
      ∙ ap₂ (λ x y. x + y)
      (ap₂ (λ x y. x + y) (children_count b a members within) (count_by-none (children b members))) (off (ltb 0 b))
      ∙ omega arith);
  free =
      (count_reduce (is_isend b) bytes flops a members
      ∙ ap₂ (λ x y. (x + x) + y) (count_by-none (children a members)) (off (ltb 0 a)))
      ∙ sym (count_reduce (is_irecv a) bytes flops b members
      ∙ ap₂ (λ x y. (x + x) + y) (count_by-none (children b members)) (off (ltb 0 b)));
}

-- ---- all to all
pub over : (x r members : ℕ) → x ≡ r + members → r < members → x % members ≡ r
over x r members e less = ap (λ n. n % members) e ∙ add-mod_right r members ∙ mod-eq_of_lt less

pub under : (x r members : ℕ) → x ≡ r → r < members → x % members ≡ r
under x r members e less = ap (λ n. n % members) e ∙ mod-eq_of_lt less

module _ (members a b i : ℕ) (a_in : a < members) (b_in : b < members) (from : 1 ≤ i) (below : i < members) where
  forth : (a + i) % members ≡ b → (b + members - i) % members ≡ a
  forth e = elim (cases_lt (a + i) members) [
    | inl less ↦ over (b + members - i) a members (omega (arith, under (a + i) (a + i) members refl less)) a_in
    | inr above ↦
        under (b + members - i) a members (omega (arith, over (a + i) (a + i - members) members (omega arith) (omega arith))) a_in
  ]

  back : (b + members - i) % members ≡ a → (a + i) % members ≡ b
  back e = elim (cases_lt (b + members - i) members) [
    | inl less ↦
        over (a + i) b members (omega (arith, under (b + members - i) (b + members - i) members refl less)) b_in
    | inr above ↦
        under (a + i) b members (omega (arith, over (b + members - i) (b - i) members (omega arith) (omega arith))) b_in
  ]

  same_way : eqb ((a + i) % members) b ≡ eqb ((b + members - i) % members) a
  same_way =
      same_from_decides (eqb ((a + i) % members) b) (eqb ((b + members - i) % members) a)
      (Decides-eqb ((a + i) % members) b)
      (Decides-like (eqb ((b + members - i) % members) a) back forth (Decides-eqb ((b + members - i) % members) a))

alltoall_matched : (bytes members a b : ℕ) → a < members → b < members →
    AreMatched a b (alltoall bytes a members) (alltoall bytes b members)
alltoall_matched bytes members a b a_in b_in =
    let range : List ℕ = range_with_len 1 (members - 1) in
    record {
      waiting =
          (count_alltoall (is_send b) bytes a members
          ∙ ap (λ n. (n + n) + 2 * (members - 1) * 0) (count_by-none range))
          ∙ sym (count_alltoall (is_recv a) bytes b members
          ∙ ap (λ n. (n + n) + 2 * (members - 1) * 0) (count_by-none range));
      free = omega (
        arith,
        count_alltoall (is_isend b) bytes a members,
        count_alltoall (is_irecv a) bytes b members,
        count_by-none range,
        count_by_agree (λ i. eqb ((a + i) % members) b) (λ i. eqb ((b + members - i) % members) a) 1 (members - 1)
            (λ i from below. same_way members a b i a_in b_in from (omega arith)),
      );
    }

matched : (collective : Collective) (members a b : ℕ) → a < members → b < members →
    AreMatched a b (expansion collective a members) (expansion collective b members)
matched (Bcast bytes) members a b a_in b_in = bcast_matched bytes members a b b_in
matched (Reduce bytes flops) members a b a_in b_in = reduce_matched bytes flops members a b a_in
matched (Allreduce bytes flops) members a b a_in b_in =
    matched_append a b (reduce bytes flops a members) (bcast bytes a members) (reduce bytes flops b members)
    (bcast bytes b members) (reduce_matched bytes flops members a b a_in) (bcast_matched bytes members a b b_in)
matched (Alltoall bytes) members a b a_in b_in = alltoall_matched bytes members a b a_in b_in

pub sends_are_received : SendsAreReceived
sends_are_received collective members a b a_in b_in =
    let are = matched collective members a b a_in b_in in
    ap₂ (λ x y. x + y) are.waiting are.free

pub kinds_agree : KindsAgree
kinds_agree collective members a b a_in b_in = (matched collective members a b a_in b_in).free

-- ---- requests
record IsAwaited (steps : List Step) : Type 0 where
  is : count_by is_wait steps ≡ count_by makes_request steps

bcast_awaited : (bytes rank members : ℕ) → IsAwaited (bcast bytes rank members)
bcast_awaited bytes rank members = record {
  is =
      (count_bcast is_wait bytes rank members ∙ ap₂ (λ x y. x + y) (off (ltb 0 rank)) (count_by-none (children rank members)))
      ∙ sym (count_bcast makes_request bytes rank members
      ∙ ap₂ (λ x y. x + y) (off (ltb 0 rank)) (count_by-none (children rank members)));
}

reduce_awaited : (bytes flops rank members : ℕ) → IsAwaited (reduce bytes flops rank members)
reduce_awaited bytes flops rank members = record {
  is =
      (count_reduce is_wait bytes flops rank members
      ∙ ap₂ (λ x y. (x + x) + y) (count_by-none (children rank members)) (off (ltb 0 rank)))
      ∙ sym (count_reduce makes_request bytes flops rank members
      ∙ ap₂ (λ x y. (x + x) + y) (count_by-none (children rank members)) (off (ltb 0 rank)));
}

awaited_append : (xs ys : List Step) → IsAwaited xs → IsAwaited ys → IsAwaited (xs ++ ys)
awaited_append xs ys first second = record {
  is = count_by-append is_wait xs ys ∙ ap₂ (λ x y. x + y) first.is second.is ∙ sym (count_by-append makes_request xs ys);
}

alltoall_awaited : (bytes rank members : ℕ) → IsAwaited (alltoall bytes rank members)
alltoall_awaited bytes rank members =
    let range : List ℕ = range_with_len 1 (members - 1) in
    record {
      is = omega (
        arith,
        count_alltoall is_wait bytes rank members,
        count_alltoall makes_request bytes rank members,
        count_by-none range,
        count_by-each range,
        length-range_with_len 1 (members - 1),
      );
    }

pub requests_are_awaited : RequestsAreAwaited
requests_are_awaited (Bcast bytes) rank members within = (bcast_awaited bytes rank members).is
requests_are_awaited (Reduce bytes flops) rank members within = (reduce_awaited bytes flops rank members).is
requests_are_awaited (Allreduce bytes flops) rank members within =
    (awaited_append (reduce bytes flops rank members) (bcast bytes rank members)
    (reduce_awaited bytes flops rank members) (bcast_awaited bytes rank members)).is
requests_are_awaited (Alltoall bytes) rank members within = (alltoall_awaited bytes rank members).is
