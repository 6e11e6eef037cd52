-- A queue of requests, one after another.
use Rattle.std.proofs.Common.{◌≡◌, ◌<◌, ◌+◌, ℕ, None, Some, option_map, List, [], ◌∷◌, length, map, set, refl, sym, ap, ◌∙◌, arith}
use Rattle.std.proofs.lemmas.List.{get_or-set_same, length-map, length-set, set-set}
use Rattle.std.proofs.lemmas.List.Sums.{sum_by-cons, sum_by-set}
use Rattle.std.specs.List.{sum_by}
use Rattle.sg_base.specs.declared.awaits.Await.{Await}
use Rattle.sg_queues.specs.Rings.{behind, front, queue_at}
use Rattle.sg_queues.specs.Queues.{shortened, value, values_of}
use Rattle.sg_queues.proofs.Values.{shortened_values, values_at}

-- as the oldest request of a queue is taken away
pub record IsTaken (old new : List (List (ℕ × Await))) (queue : ℕ) (request : Await) : Type 0 where
  pub first : queue_at (values_of old) queue ≡ request ∷ queue_at (values_of new) queue
  pub fewer : length (queue_at new queue) + 1 ≡ length (queue_at old queue)
  pub long : length new ≡ length old
  pub rest : set (values_of new) queue [] ≡ set (values_of old) queue []

first_is : (queue : List (ℕ × Await)) (request : Await) → Some request ≡ option_map value (front queue) → (map value queue ≡ request ∷ map value (behind queue)) × (length (behind queue) + 1 ≡ length queue)
first_is [] request e = absurd (cc e)
first_is (entry ∷ rest) request e = let is : request ≡ entry.1 = cc e in (ap (λ r. r ∷ map value rest) (sym is), omega arith)

pub taken_is : (old new : List (List (ℕ × Await))) (queue : ℕ) (request : Await) → queue < length old → Some request ≡ option_map value (front (queue_at old queue)) → new ≡ shortened old queue → IsTaken old new queue request
taken_is old new queue request within e is =
    let here = first_is (queue_at old queue) request e in
    let there : queue_at new queue ≡ behind (queue_at old queue) = ap (λ l. queue_at l queue) is ∙ get_or-set_same old queue (behind (queue_at old queue)) [] within in
    record {
      first = values_at old queue ∙ here.0 ∙ sym (ap (λ l. request ∷ l) (values_at new queue ∙ ap (map value) there));
      fewer = omega (arith, ap length there, here.1);
      long = ap length is ∙ length-set old queue (behind (queue_at old queue));
      rest =
          ap (λ l. set (values_of l) queue []) is
          ∙ ap (λ l. set l queue []) (shortened_values old queue)
          ∙ set-set (values_of old) queue (behind (queue_at (values_of old) queue)) [];
    }

pub none_left : (queue : List (ℕ × Await)) → None ≡ option_map value (front queue) → queue ≡ []
none_left [] e = refl
none_left (entry ∷ rest) e = absurd (cc e)

-- ---- how many stand in all
values_total : (queues : List (List (ℕ × Await))) → sum_by length (values_of queues) ≡ sum_by length queues
values_total [] = refl
values_total (queue ∷ queues) = omega (arith, sum_by-cons length queue queues, sum_by-cons length (map value queue) (values_of queues), length-map queue value, values_total queues)

pub emptied_total : (old new : List (List (ℕ × Await))) (queue : ℕ) → queue < length old → values_of new ≡ set (values_of old) queue [] → sum_by length new + length (queue_at old queue) ≡ sum_by length old
emptied_total old new queue within is =
    let before = values_of old in
    omega (
      arith,
      values_total old,
      values_total new,
      ap (sum_by length) is,
      sum_by-set length before queue [] [] (omega (arith, within, length-map old (map value))),
      ap length (values_at old queue),
      length-map (queue_at old queue) value,
    )
