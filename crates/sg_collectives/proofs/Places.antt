-- What stands at a place of an expansion, and how long it is.
use Rattle.std.proofs.Common.{◌≡◌, ℕ, zero, suc, ◌+◌, ◌-◌, ◌*◌, ◌/◌, ◌%◌, ◌^◌, ◌<◌, ◌≤◌, cond, List, [], ◌∷◌, ◌++◌, map, reverse, length, get_or, replicate, Some, None, refl, sym, ap, ◌∙◌, lt-ltb, le-ltb, length-append, arith, ltb}
use Rattle.std.specs.List.{flat_map, range_with_len, slice_get}
use Rattle.std.specs.Option.{option_map}
use Rattle.std.proofs.lemmas.List.{get_or-replicate, get_or-reverse, length-map, length-replicate, length-reverse}
use Rattle.std.proofs.lemmas.List.FromFn.{get_or-map-range_with_len, length-map-range_with_len}
use Rattle.std.proofs.lemmas.Option.{slice_get-get_or, slice_get-map, slice_get_past}
use Rattle.sg_collectives.specs.declared.step.Step.{Step}
use Rattle.sg_collectives.specs.declared.step.Step.TheVariants.{Recv, Send, Compute, IRecv, ISend, Wait}
use Rattle.sg_collectives.specs.Expansion.{alltoall, bcast, reduce}
use Rattle.sg_collectives.specs.Tree.{children, doubling_from, parent_rank}

-- ---- joined lists
at_first : {X : Type 0} (xs ys : List X) (i : ℕ) → i < length xs → slice_get (xs ++ ys) i ≡ slice_get xs i
at_first [] ys i less = absurd (omega arith)
at_first (x ∷ xs) ys zero less = refl
at_first (x ∷ xs) ys (suc i) less = at_first xs ys i (omega arith)

at_behind : {X : Type 0} (xs ys : List X) (i j : ℕ) → i ≡ length xs + j → slice_get (xs ++ ys) i ≡ slice_get ys j
at_behind [] ys i j e = ap (slice_get ys) (omega arith)
at_behind (x ∷ xs) ys zero j e = absurd (omega arith)
at_behind (x ∷ xs) ys (suc i) j e = at_behind xs ys i j (omega arith)

at_pair_first : {X : Type 0} (f g : ℕ → X) (xs : List ℕ) (place i : ℕ) → place ≡ 2 * i →
    slice_get (flat_map (λ x. f x ∷ g x ∷ []) xs) place ≡ option_map f (slice_get xs i)
at_pair_first f g [] place i e = refl
at_pair_first f g (x ∷ xs) zero zero e = refl
at_pair_first f g (x ∷ xs) (suc place) zero e = absurd (omega arith)
at_pair_first f g (x ∷ xs) zero (suc i) e = absurd (omega arith)
at_pair_first f g (x ∷ xs) (suc zero) (suc i) e = absurd (omega arith)
at_pair_first f g (x ∷ xs) (suc (suc place)) (suc i) e = at_pair_first f g xs place i (omega arith)

at_pair_second : {X : Type 0} (f g : ℕ → X) (xs : List ℕ) (place i : ℕ) → place ≡ 2 * i + 1 →
    slice_get (flat_map (λ x. f x ∷ g x ∷ []) xs) place ≡ option_map g (slice_get xs i)
at_pair_second f g [] place i e = refl
at_pair_second f g (x ∷ xs) zero i e = absurd (omega arith)
at_pair_second f g (x ∷ xs) (suc zero) zero e = refl
at_pair_second f g (x ∷ xs) (suc zero) (suc i) e = absurd (omega arith)
at_pair_second f g (x ∷ xs) (suc (suc place)) zero e = absurd (omega arith)
at_pair_second f g (x ∷ xs) (suc (suc place)) (suc i) e = at_pair_second f g xs place i (omega arith)

length-pairs : {X : Type 0} (f g : ℕ → X) (xs : List ℕ) → length (flat_map (λ x. f x ∷ g x ∷ []) xs) ≡ 2 * length xs
length-pairs f g [] = refl
length-pairs f g (x ∷ xs) = omega (arith, length-pairs f g xs)

-- ---- children
length-doubling : (rank count : ℕ) → length (doubling_from rank count) ≡ count
unfolding doubling_from
length-doubling rank count = length-map-range_with_len (λ k. rank + 2 ^ k) 0 count

at_doubling : (rank count k : ℕ) → k < count → get_or (doubling_from rank count) k 0 ≡ rank + 2 ^ k
unfolding doubling_from
at_doubling rank count k less = get_or-map-range_with_len (λ j. rank + 2 ^ j) 0 count k k 0 less (omega arith)

get-doubling : (rank count k : ℕ) → k < count → slice_get (doubling_from rank count) k ≡ Some (rank + 2 ^ k)
get-doubling rank count k less =
    slice_get-get_or (doubling_from rank count) k 0 (omega (arith, length-doubling rank count))
    ∙ ap Some (at_doubling rank count k less)

to_children_is : (bytes rank members count : ℕ) → children rank members ≡ doubling_from rank count →
    map (λ child. Send child bytes) (reverse (children rank members)) ≡ map (λ child. Send child bytes) (reverse (doubling_from rank count))
to_children_is bytes rank members count e = ap (λ xs. map (λ child. Send child bytes) (reverse xs)) e

length-to_children : (bytes rank members count : ℕ) → children rank members ≡ doubling_from rank count →
    length (map (λ child. Send child bytes) (reverse (children rank members))) ≡ count
length-to_children bytes rank members count e =
    ap length (to_children_is bytes rank members count e)
    ∙ length-map (reverse (doubling_from rank count)) (λ child. Send child bytes)
    ∙ length-reverse (doubling_from rank count) ∙ length-doubling rank count

pub to_child_at : (bytes rank members count place : ℕ) → children rank members ≡ doubling_from rank count →
    place < count →
    Some (Send (rank + 2 ^ (count - 1 - place)) bytes) ≡ slice_get (map (λ child. Send child bytes) (reverse (children rank members))) place
to_child_at bytes rank members count place e less =
    let xs : List ℕ = doubling_from rank count in
    let long : length xs ≡ count = length-doubling rank count in
    let from_end : get_or (reverse xs) place 0 ≡ rank + 2 ^ (count - 1 - place) =
    get_or-reverse xs place 0 (omega arith) ∙ ap (λ n. get_or xs (n - 1 - place) 0) long
    ∙ at_doubling rank count (count - 1 - place) (omega arith) in
    sym (ap (λ ys. slice_get ys place) (to_children_is bytes rank members count e)
    ∙ slice_get-map (λ child. Send child bytes) (reverse xs) place
    ∙ ap (option_map (λ child. Send child bytes))
    (slice_get-get_or (reverse xs) place 0 (omega (arith, length-reverse xs)) ∙ ap Some from_end))

pub to_child_past : (bytes rank members count place : ℕ) → children rank members ≡ doubling_from rank count →
    count ≤ place → None ≡ slice_get (map (λ child. Send child bytes) (reverse (children rank members))) place
to_child_past bytes rank members count place e past =
    sym (slice_get_past (map (λ child. Send child bytes) (reverse (children rank members))) place (omega (arith, length-to_children bytes rank members count e)))

-- ---- bcast
from_parent_root : (rank : ℕ) → rank ≡ 0 → cond (ltb 0 rank) (Recv (parent_rank rank) ∷ []) [] ≡ []
from_parent_root rank root = ap (λ b. cond b (Recv (parent_rank rank) ∷ []) []) (le-ltb 0 rank (omega arith))

from_parent_other : (rank : ℕ) → 0 < rank → cond (ltb 0 rank) (Recv (parent_rank rank) ∷ []) [] ≡ Recv (parent_rank rank) ∷ []
from_parent_other rank some = ap (λ b. cond b (Recv (parent_rank rank) ∷ []) []) (lt-ltb 0 rank some)

pub bcast_root : (bytes rank members : ℕ) → rank ≡ 0 → map (λ child. Send child bytes) (reverse (children rank members)) ≡ bcast bytes rank members
unfolding bcast
bcast_root bytes rank members root =
    sym (ap (λ xs. xs ++ map (λ child. Send child bytes) (reverse (children rank members))) (from_parent_root rank root))

bcast_other : (bytes rank members : ℕ) → 0 < rank →
    bcast bytes rank members ≡ Recv (parent_rank rank) ∷ map (λ child. Send child bytes) (reverse (children rank members))
unfolding bcast
bcast_other bytes rank members some =
    ap (λ xs. xs ++ map (λ child. Send child bytes) (reverse (children rank members))) (from_parent_other rank some)

pub bcast_first : (bytes rank members : ℕ) → 0 < rank → Some (Recv (parent_rank rank)) ≡ slice_get (bcast bytes rank members) 0
bcast_first bytes rank members some = sym (ap (λ xs. slice_get xs 0) (bcast_other bytes rank members some))

pub bcast_behind : (bytes rank members place : ℕ) → 0 < rank → 0 < place →
    slice_get (map (λ child. Send child bytes) (reverse (children rank members))) (place - 1) ≡ slice_get (bcast bytes rank members) place
bcast_behind bytes rank members place some behind =
    sym (ap (λ xs. slice_get xs place) (bcast_other bytes rank members some)
    ∙ at_behind (Recv (parent_rank rank) ∷ []) (map (λ child. Send child bytes) (reverse (children rank members))) place (place - 1) (omega arith))

pub length_bcast_root : (bytes rank members count : ℕ) → children rank members ≡ doubling_from rank count →
    rank ≡ 0 → count ≡ length (bcast bytes rank members)
length_bcast_root bytes rank members count e root =
    sym (length-to_children bytes rank members count e) ∙ ap length (bcast_root bytes rank members root)

pub length_bcast_other : (bytes rank members count : ℕ) → children rank members ≡ doubling_from rank count →
    0 < rank → count + 1 ≡ length (bcast bytes rank members)
length_bcast_other bytes rank members count e some =
    omega (arith, ap length (bcast_other bytes rank members some), length-to_children bytes rank members count e)

-- ---- reduce
to_parent_root : (bytes rank : ℕ) → rank ≡ 0 → cond (ltb 0 rank) (Send (parent_rank rank) bytes ∷ []) [] ≡ []
to_parent_root bytes rank root = ap (λ b. cond b (Send (parent_rank rank) bytes ∷ []) []) (le-ltb 0 rank (omega arith))

to_parent_other : (bytes rank : ℕ) → 0 < rank → cond (ltb 0 rank) (Send (parent_rank rank) bytes ∷ []) [] ≡ Send (parent_rank rank) bytes ∷ []
to_parent_other bytes rank some = ap (λ b. cond b (Send (parent_rank rank) bytes ∷ []) []) (lt-ltb 0 rank some)

pub to_parent_first : (bytes rank : ℕ) → 0 < rank → Some (Send (parent_rank rank) bytes) ≡ slice_get (cond (ltb 0 rank) (Send (parent_rank rank) bytes ∷ []) []) 0
to_parent_first bytes rank some = sym (ap (λ xs. slice_get xs 0) (to_parent_other bytes rank some))

pub to_parent_behind : (bytes rank place : ℕ) → 0 < place → None ≡ slice_get (cond (ltb 0 rank) (Send (parent_rank rank) bytes ∷ []) []) place
to_parent_behind bytes zero place behind = sym (ap (λ xs. slice_get xs place) (to_parent_root bytes zero refl))
to_parent_behind bytes (suc r) place behind =
    sym (ap (λ xs. slice_get xs place) (to_parent_other bytes (suc r) (omega arith))
    ∙ slice_get_past (Send (parent_rank (suc r)) bytes ∷ []) place (omega arith))

pub to_parent_none : (bytes rank place : ℕ) → rank ≡ 0 → None ≡ slice_get (cond (ltb 0 rank) (Send (parent_rank rank) bytes ∷ []) []) place
to_parent_none bytes rank place root = sym (ap (λ xs. slice_get xs place) (to_parent_root bytes rank root))

from_children_is : (flops rank members count : ℕ) → children rank members ≡ doubling_from rank count →
    flat_map (λ child. Recv child ∷ Compute flops ∷ []) (children rank members) ≡ flat_map (λ child. Recv child ∷ Compute flops ∷ []) (doubling_from rank count)
from_children_is flops rank members count e = ap (flat_map (λ child. Recv child ∷ Compute flops ∷ [])) e

length-from_children : (flops rank members count : ℕ) → children rank members ≡ doubling_from rank count →
    length (flat_map (λ child. Recv child ∷ Compute flops ∷ []) (children rank members)) ≡ 2 * count
length-from_children flops rank members count e =
    ap length (from_children_is flops rank members count e)
    ∙ length-pairs (λ child. Recv child) (λ child. Compute flops) (doubling_from rank count)
    ∙ ap (λ n. 2 * n) (length-doubling rank count)

reduce_at : (bytes flops rank members count place : ℕ) → children rank members ≡ doubling_from rank count →
    place < 2 * count → slice_get (reduce bytes flops rank members) place
    ≡ slice_get (flat_map (λ child. Recv child ∷ Compute flops ∷ []) (doubling_from rank count)) place
unfolding reduce
reduce_at bytes flops rank members count place e less =
    at_first (flat_map (λ child. Recv child ∷ Compute flops ∷ []) (children rank members)) (cond (ltb 0 rank) (Send (parent_rank rank) bytes ∷ []) []) place
    (omega (arith, length-from_children flops rank members count e))
    ∙ ap (λ xs. slice_get xs place) (from_children_is flops rank members count e)

pub reduce_recv : (bytes flops rank members count place : ℕ) → children rank members ≡ doubling_from rank count →
    place < 2 * count → place % 2 ≡ 0 →
    Some (Recv (rank + 2 ^ (place / 2))) ≡ slice_get (reduce bytes flops rank members) place
reduce_recv bytes flops rank members count place e less even =
    sym (reduce_at bytes flops rank members count place e less
    ∙ at_pair_first (λ child. Recv child) (λ child. Compute flops) (doubling_from rank count) place (place / 2) (omega arith)
    ∙ ap (option_map (λ child. Recv child)) (get-doubling rank count (place / 2) (omega arith)))

pub reduce_compute : (bytes flops rank members count place : ℕ) → children rank members ≡ doubling_from rank count →
    place < 2 * count → place % 2 ≡ 1 → Some (Compute flops) ≡ slice_get (reduce bytes flops rank members) place
reduce_compute bytes flops rank members count place e less odd =
    sym (reduce_at bytes flops rank members count place e less
    ∙ at_pair_second (λ child. Recv child) (λ child. Compute flops) (doubling_from rank count) place (place / 2) (omega arith)
    ∙ ap (option_map (λ child. Compute flops)) (get-doubling rank count (place / 2) (omega arith)))

pub reduce_behind : (bytes flops rank members count place : ℕ) → children rank members ≡ doubling_from rank count →
    2 * count ≤ place →
    slice_get (cond (ltb 0 rank) (Send (parent_rank rank) bytes ∷ []) []) (place - 2 * count) ≡ slice_get (reduce bytes flops rank members) place
unfolding reduce
reduce_behind bytes flops rank members count place e behind =
    sym (at_behind (flat_map (λ child. Recv child ∷ Compute flops ∷ []) (children rank members)) (cond (ltb 0 rank) (Send (parent_rank rank) bytes ∷ []) []) place (place - 2 * count)
    (omega (arith, length-from_children flops rank members count e)))

length-reduce : (bytes flops rank members count : ℕ) → children rank members ≡ doubling_from rank count →
    length (reduce bytes flops rank members) ≡ 2 * count + length (cond (ltb 0 rank) (Send (parent_rank rank) bytes ∷ []) [])
unfolding reduce
length-reduce bytes flops rank members count e =
    length-append (flat_map (λ child. Recv child ∷ Compute flops ∷ []) (children rank members)) (cond (ltb 0 rank) (Send (parent_rank rank) bytes ∷ []) [])
    ∙ ap (λ n. n + length (cond (ltb 0 rank) (Send (parent_rank rank) bytes ∷ []) [])) (length-from_children flops rank members count e)

pub length_reduce_root : (bytes flops rank members count : ℕ) → children rank members ≡ doubling_from rank count →
    rank ≡ 0 → 2 * count ≡ length (reduce bytes flops rank members)
length_reduce_root bytes flops rank members count e root =
    omega (arith, length-reduce bytes flops rank members count e, ap length (to_parent_root bytes rank root))

pub length_reduce_other : (bytes flops rank members count : ℕ) → children rank members ≡ doubling_from rank count →
    0 < rank → 2 * count + 1 ≡ length (reduce bytes flops rank members)
length_reduce_other bytes flops rank members count e some =
    omega (arith, length-reduce bytes flops rank members count e, ap length (to_parent_other bytes rank some))

-- ---- allreduce
pub allreduce_first : (xs ys : List Step) (place : ℕ) → place < length xs → slice_get xs place ≡ slice_get (xs ++ ys) place
allreduce_first xs ys place less = sym (at_first xs ys place less)

pub allreduce_behind : (xs ys : List Step) (place : ℕ) → length xs ≤ place →
    slice_get ys (place - length xs) ≡ slice_get (xs ++ ys) place
allreduce_behind xs ys place behind = sym (at_behind xs ys place (place - length xs) (omega arith))

-- ---- alltoall
at_range : {X : Type 0} (f : ℕ → X) (a n i j : ℕ) → i < n → a + i ≡ j →
    slice_get (map f (range_with_len a n)) i ≡ Some (f j)
at_range f a zero i j less e = absurd (omega arith)
at_range f a (suc n) zero j less e = ap (λ k. Some (f k)) (omega arith)
at_range f a (suc n) (suc i) j less e = at_range f (a + 1) n i j (omega arith) (omega arith)

module _ (bytes rank members : ℕ) where
  receives : List Step
  receives = map (λ i. IRecv ((rank + members - i) % members)) (range_with_len 1 (members - 1))

  sends : List Step
  sends = map (λ i. ISend ((rank + i) % members) bytes) (range_with_len 1 (members - 1))

  waits : List Step
  waits = replicate (2 * (members - 1)) Wait

  alltoall_is : alltoall bytes rank members ≡ (receives ++ sends) ++ waits
  unfolding alltoall receives sends waits
  alltoall_is = refl

  length-receives : length receives ≡ members - 1
  unfolding receives
  length-receives = length-map-range_with_len (λ i. IRecv ((rank + members - i) % members)) 1 (members - 1)

  length-sends : length sends ≡ members - 1
  unfolding sends
  length-sends = length-map-range_with_len (λ i. ISend ((rank + i) % members) bytes) 1 (members - 1)

  length-waits : length waits ≡ 2 * (members - 1)
  unfolding waits
  length-waits = length-replicate (2 * (members - 1)) Wait

  length-both : length (receives ++ sends) ≡ 2 * (members - 1)
  length-both = omega (arith, length-append receives sends, length-receives, length-sends)

  pub alltoall_recv : (place : ℕ) → place < members - 1 →
      Some (IRecv ((rank + members - (place + 1)) % members)) ≡ slice_get (alltoall bytes rank members) place
  unfolding receives
  alltoall_recv place less =
      sym (ap (λ xs. slice_get xs place) alltoall_is
      ∙ at_first (receives ++ sends) waits place (omega (arith, length-both))
      ∙ at_first receives sends place (omega (arith, length-receives))
      ∙ at_range (λ i. IRecv ((rank + members - i) % members)) 1 (members - 1) place (place + 1) less (omega arith))

  pub alltoall_send : (place : ℕ) → members - 1 ≤ place → place < 2 * (members - 1) →
      Some (ISend ((rank + (place + 1 - (members - 1))) % members) bytes) ≡ slice_get (alltoall bytes rank members) place
  unfolding sends
  alltoall_send place behind less =
      sym (ap (λ xs. slice_get xs place) alltoall_is
      ∙ at_first (receives ++ sends) waits place (omega (arith, length-both))
      ∙ at_behind receives sends place (place - (members - 1)) (omega (arith, length-receives))
      ∙ at_range (λ i. ISend ((rank + i) % members) bytes) 1 (members - 1) (place - (members - 1)) (place + 1 - (members - 1))
      (omega arith) (omega arith))

  pub alltoall_wait : (place : ℕ) → 2 * (members - 1) ≤ place → place < 4 * (members - 1) →
      Some Wait ≡ slice_get (alltoall bytes rank members) place
  unfolding waits
  alltoall_wait place behind less =
      sym (ap (λ xs. slice_get xs place) alltoall_is
      ∙ at_behind (receives ++ sends) waits place (place - 2 * (members - 1)) (omega (arith, length-both))
      ∙ slice_get-get_or waits (place - 2 * (members - 1)) Wait (omega (arith, length-waits))
      ∙ ap Some (get_or-replicate (2 * (members - 1)) (place - 2 * (members - 1)) Wait Wait (omega arith)))

  pub length_alltoall : 4 * (members - 1) ≡ length (alltoall bytes rank members)
  length_alltoall =
      omega (arith, ap length alltoall_is, length-append (receives ++ sends) waits, length-both, length-waits)

  pub alltoall_past : (place : ℕ) → 4 * (members - 1) ≤ place → None ≡ slice_get (alltoall bytes rank members) place
  alltoall_past place past = sym (slice_get_past (alltoall bytes rank members) place (omega (arith, length_alltoall)))
