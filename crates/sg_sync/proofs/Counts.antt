-- How often an actor waits, as queues change.
use Rattle.std.proofs.Common.{◌≡◌, ◌≢◌, ◌<◌, ◌+◌, ap, refl, ℕ, true, false, cond, eqb, List, [], ◌∷◌, ◌++◌, length, Some, arith}
use Rattle.std.specs.Prelude.{replicate}
use Rattle.std.proofs.lemmas.Bool.Decides.{nat_tests}
use Rattle.std.proofs.lemmas.List.Sums.{sum_by-cons, sum_by-append, sum_by-set}
use Rattle.std.proofs.lemmas.List.Folds.{sum_by-replicate}
use Rattle.std.specs.Option.{option_to_list}
use Rattle.sg_base.specs.declared.ids.ActorId.{ActorId}
use Rattle.sg_queues.specs.Rings.{queue_at, front, behind}
use Rattle.sg_sync.specs.Queues.{with_waiter, shortened, times, waits}

-- one if both are the same actor
abbrev pub one : ActorId → ActorId → ℕ
one actor other = cond (eqb other.0 actor.0) 1 0

pub id_same : (a b : ActorId) → a.0 ≡ b.0 → a ≡ b
id_same a b same = ap (λ (n : ℕ). record { 0 = n }) same

pub one_same : (a b : ActorId) → b.0 ≡ a.0 → one a b ≡ 1
one_same a b same =
    let is : eqb b.0 a.0 ≡ true = grind (arith, nat_tests) in
    rw is refl

pub one_other : (a b : ActorId) → b.0 ≢ a.0 → one a b ≡ 0
one_other a b differs =
    let is : eqb b.0 a.0 ≡ false = grind (arith, nat_tests) in
    rw is refl

pub times_cons : (a b : ActorId) (queue : List ActorId) → times a (b ∷ queue) ≡ one a b + times a queue
times_cons a b queue = sum_by-cons (one a) b queue

pub times_more : (a b : ActorId) (queue : List ActorId) → times a (queue ++ b ∷ []) ≡ times a queue + one a b
times_more a b queue = omega (arith, sum_by-append (one a) queue (b ∷ []))

pub waits_joined : (a b : ActorId) (queues : List (List ActorId)) (q : ℕ) → q < length queues → waits b (with_waiter queues q a) ≡ waits b queues + one b a
waits_joined a b queues q below = omega (arith, sum_by-set (times b) queues q (queue_at queues q ++ a ∷ []) [] below, times_more b a (queue_at queues q))

pub nobody_waits : (a : ActorId) (n : ℕ) → waits a (replicate n []) ≡ 0
nobody_waits a n = omega (arith, sum_by-replicate (times a) n [])

pub front_some : (queue : List ActorId) (a : ActorId) → Some a ≡ front queue → 0 < length queue
front_some [] a is = absurd (cc)
front_some (b ∷ queue) a is = omega arith

-- who leaves a queue waits there no more
times_front : (a : ActorId) (queue : List ActorId) → times a (behind queue) + times a (option_to_list (front queue)) ≡ times a queue
times_front a [] = refl
times_front a (b ∷ queue) = omega (arith, times_cons a b queue, times_cons a b [])

pub waits_left : (a : ActorId) (queues : List (List ActorId)) (q : ℕ) → q < length queues → waits a (shortened queues q) + times a (option_to_list (front (queue_at queues q))) ≡ waits a queues
waits_left a queues q below = omega (arith, sum_by-set (times a) queues q (behind (queue_at queues q)) [] below, times_front a (queue_at queues q))
