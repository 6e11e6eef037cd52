-- What holds of the expansions of all ranks together.
use Rattle.std.specs.Prelude.{◌≡◌, ◌≢◌, ℕ, Bool, true, false, ◌+◌, ◌==◌, ◌<◌, List, [], All, count_by, ⊤}
use Rattle.sg_collectives.specs.declared.collective.Collective.{Collective}
use Rattle.sg_collectives.specs.declared.step.Step.{Step}
use Rattle.sg_collectives.specs.declared.step.Step.TheVariants.{Recv, Send, Compute, IRecv, ISend, Wait}
use Rattle.sg_collectives.specs.Expansion.{expansion}

-- ---- kinds of steps, by their peers
abbrev pub is_send : ℕ → Step → Bool
is_send to (Send peer bytes) = peer == to
is_send to other = false

abbrev pub is_isend : ℕ → Step → Bool
is_isend to (ISend peer bytes) = peer == to
is_isend to other = false

abbrev pub is_recv : ℕ → Step → Bool
is_recv from (Recv peer) = peer == from
is_recv from other = false

abbrev pub is_irecv : ℕ → Step → Bool
is_irecv from (IRecv peer) = peer == from
is_irecv from other = false

-- how often is sent to a rank, with or without waiting, and received from one
abbrev pub sends_to : ℕ → List Step → ℕ
sends_to rank steps = count_by (is_send rank) steps + count_by (is_isend rank) steps

abbrev pub receives_from : ℕ → List Step → ℕ
receives_from rank steps = count_by (is_recv rank) steps + count_by (is_irecv rank) steps

-- ---- laws
-- of every collective and every two ranks the one sends to the other as often as that one receives
-- from it
abbrev pub SendsAreReceived : Type 0
SendsAreReceived = (collective : Collective) (members a b : ℕ) → a < members → b < members →
    sends_to b (expansion collective a members) ≡ receives_from a (expansion collective b members)

-- and as often without waiting
abbrev pub KindsAgree : Type 0
KindsAgree = (collective : Collective) (members a b : ℕ) → a < members → b < members →
    count_by (is_isend b) (expansion collective a members)
    ≡ count_by (is_irecv a) (expansion collective b members)

abbrev pub IsOther : ℕ → ℕ → ℕ → Type 0
IsOther rank members peer = (peer < members) × (peer ≢ rank)

-- the peer of a step is a member, and another one
abbrev pub NamesOther : ℕ → ℕ → Step → Type 0
NamesOther rank members (Recv peer) = IsOther rank members peer
NamesOther rank members (Send peer bytes) = IsOther rank members peer
NamesOther rank members (Compute flops) = ⊤
NamesOther rank members (IRecv peer) = IsOther rank members peer
NamesOther rank members (ISend peer bytes) = IsOther rank members peer
NamesOther rank members Wait = ⊤

abbrev pub PeersAreOthers : Type 0
PeersAreOthers = (collective : Collective) (rank members : ℕ) → rank < members →
    All (NamesOther rank members) (expansion collective rank members)

-- a single member has nothing to do
abbrev pub AloneDoesNothing : Type 0
AloneDoesNothing = (collective : Collective) → expansion collective 0 1 ≡ []

-- ---- requests
abbrev pub makes_request : Step → Bool
makes_request (ISend peer bytes) = true
makes_request (IRecv peer) = true
makes_request other = false

abbrev pub is_wait : Step → Bool
is_wait Wait = true
is_wait other = false

-- a rank waits as often as it makes a request
abbrev pub RequestsAreAwaited : Type 0
RequestsAreAwaited = (collective : Collective) (rank members : ℕ) → rank < members →
    count_by is_wait (expansion collective rank members)
    ≡ count_by makes_request (expansion collective rank members)
