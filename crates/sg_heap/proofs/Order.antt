-- Keys stand in one order.
use Rattle.std.proofs.Common.{inl, inr, ◌∙◌, arith}
use Rattle.sg_heap.specs.Agenda.{Key, IsNoLater}

pub no_later-same : (a : Key) → IsNoLater a a
no_later-same a = inr (omega arith, omega arith)

pub no_later-trans : (a b c : Key) → IsNoLater a b → IsNoLater b c → IsNoLater a c
no_later-trans a b c p q = elim p [
  | inl l ↦ elim q [ inl m ↦ inl (omega arith) | inr m ↦ inl (omega (arith, m.0)) ]
  | inr l ↦ elim q [ inl m ↦ inl (omega (arith, l.0)) | inr m ↦ inr (l.0 ∙ m.0, omega (arith, l.1, m.1)) ]
]
