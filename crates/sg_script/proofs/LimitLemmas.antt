-- The lines that wait keep to the limits.
use Rattle.std.proofs.Common.{◌≡◌, ◌<◌, ℕ, [], ◌∷◌, ◌++◌, length}
use Rattle.std.specs.Prelude.{replicate}
use Rattle.std.proofs.lemmas.List.Elements.{All-append, All-get_or, All-nil, All-replicate, All-set}
use Rattle.sg_base.specs.Limits.{Extent}
use Rattle.sg_script.specs.declared.operation.Operation.{Operation}
use Rattle.sg_script.specs.declared.waiting.Waiting.{Waiting}
use Rattle.sg_script.specs.kept.Queues.{AreOperations, queue_at, with_line}
use Rattle.sg_script.specs.Operation.{IsOperation}
use Rattle.sg_script.specs.Stands.{Kept, AreLimited}

only : (extent : Extent) (operation : Operation) → IsOperation extent operation → AreOperations extent (record { operation = operation; place = 0 } ∷ [])
only extent operation limited = All-replicate (λ (line : Waiting). IsOperation extent line.operation) 1 (record { operation = operation; place = 0 }) limited

-- empty queues
pub limited_none : (extent : Extent) (kept : Kept) (n : ℕ) → kept.queues ≡ replicate n [] → AreLimited extent kept
limited_none extent kept n are = record { queues = rw are (All-replicate (AreOperations extent) n [] (All-nil (λ (line : Waiting). IsOperation extent line.operation))) }

-- the same queues
pub limited_same : (extent : Extent) (old new : Kept) → new.queues ≡ old.queues → AreLimited extent old → AreLimited extent new
limited_same extent old new same limited = record { queues = rw same limited.queues }

-- one line more
pub limited_more : (extent : Extent) (old new : Kept) (i : ℕ) (operation : Operation) → i < length old.queues → IsOperation extent operation → new.queues ≡ with_line i operation old.queues → AreLimited extent old → AreLimited extent new
limited_more extent old new i operation below is more limited = record {
  queues = rw more (All-set (AreOperations extent) old.queues i (queue_at old.queues i ++ record { operation = operation; place = 0 } ∷ [])
      (All-append (λ (line : Waiting). IsOperation extent line.operation) (queue_at old.queues i) (record { operation = operation; place = 0 } ∷ []) (All-get_or (AreOperations extent) old.queues i [] below limited.queues) (only extent operation is)) limited.queues);
}
