-- The messages of a member's steps, and whom they reach when.
use Rattle.std.specs.Prelude.{◌≡◌, ℕ, ◌+◌, Option, None, Some, List, ◌∷◌, [], ◌++◌, map, length, replicate, filter_map, slice_get}
use Rattle.std.specs.List.{flat_map}
use Rattle.sg_collectives.specs.declared.step.Step.{Step}
use Rattle.sg_collectives.specs.declared.step.Step.TheVariants.{Recv, Send, Compute, IRecv, ISend, Wait}

abbrev pub sender_in : Step → Option ℕ
sender_in (Recv peer) = Some peer
sender_in (Send peer bytes) = None
sender_in (Compute flops) = None
sender_in (IRecv peer) = Some peer
sender_in (ISend peer bytes) = None
sender_in Wait = None

abbrev pub receiver_in : Step → Option ℕ
receiver_in (Recv peer) = None
receiver_in (Send peer bytes) = Some peer
receiver_in (Compute flops) = None
receiver_in (IRecv peer) = None
receiver_in (ISend peer bytes) = Some peer
receiver_in Wait = None

-- from whom is received, and to whom is sent, in order
abbrev pub senders : List Step → List ℕ
senders steps = filter_map sender_in steps

abbrev pub receivers : List Step → List ℕ
receivers steps = filter_map receiver_in steps

-- ---- what a member does, whomever it does it with
-- it receives, and then sends so many bytes, to one after the other
abbrev pub HandsOn : ℕ → List Step → Type 0
HandsOn bytes steps =
    steps ≡ map (λ from. Recv from) (senders steps) ++ map (λ to. Send to bytes) (receivers steps)

-- it receives, and computes so many flops after each message; then it sends so many bytes
abbrev pub FoldsIn : ℕ → ℕ → List Step → Type 0
FoldsIn bytes flops steps =
    steps ≡ flat_map (λ from. Recv from ∷ Compute flops ∷ []) (senders steps)
    ++ map (λ to. Send to bytes) (receivers steps)

-- it asks for all that it receives, sends so many bytes to each, and waits for all of it
abbrev pub Exchanges : ℕ → List Step → Type 0
Exchanges bytes steps =
    steps ≡ (map (λ from. IRecv from) (senders steps) ++ map (λ to. ISend to bytes) (receivers steps))
    ++ replicate (length (senders steps) + length (receivers steps)) Wait

-- ---- how bytes spread
-- The member of a rank has the bytes after so many turns: rank 0 from the beginning on, and whoever was sent them by a
-- member that had them. A member sends to one after the other, a turn for each.
pub data HasBytes (receivers_of : ℕ → List ℕ) : ℕ → ℕ → Type 0 where
  begins : HasBytes receivers_of 0 0
  sent : (from to turn place : ℕ) → HasBytes receivers_of from turn → slice_get (receivers_of from) place ≡ Some to →
      HasBytes receivers_of to (turn + place + 1)
