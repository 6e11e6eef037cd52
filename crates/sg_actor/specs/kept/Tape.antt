-- The mind that a flat list of words keeps.
use Rattle.std.specs.Prelude.{◌≡◌, ℕ, ◌+◌, ◌-◌, ◌^◌, ◌≤◌, ◌<◌, ◌==◌, if◌then◌else◌, Option, Some, None, List, [], ◌∷◌, length, slice_index, ⊤}
use Rattle.sg_base.specs.Mind.{Kind, Mind, mind, replay, worker, master, churn, ended}

-- the kind that a word stands for
abbrev pub kind_of : ℕ → Kind
kind_of word =
    if word == 0 then replay
    else if word == 1 then worker
    else if word == 2 then master
    else if word == 3 then churn
    else ended

-- a blank one has no word, any other that of its kind and then the numbers
abbrev pub tape_mind : List ℕ → Option Mind
tape_mind [] = None
tape_mind (kind ∷ numbers) = Some (mind (kind_of kind) numbers)

-- each word from this place on is small enough for the number of an actor
abbrev pub FitActorsFrom : ℕ → List ℕ → Type 0
FitActorsFrom at numbers = (k : ℕ) → at ≤ k → k < length numbers → slice_index numbers k < 2 ^ 32

-- A master has a worker, can count its messages, and has sent no more than it has to. One that churns is in one of four
-- phases; it has done no more steps than it has to, and not all of them in the midst of one.
abbrev pub IsTapeOf : Kind → List ℕ → Type 0
IsTapeOf replay numbers = (length numbers ≡ 1) × FitActorsFrom 0 numbers
IsTapeOf worker numbers = (length numbers ≡ 1) × FitActorsFrom 0 numbers
IsTapeOf master numbers =
    (4 < length numbers) × (slice_index numbers 0 + (length numbers - 4) < 2 ^ 64)
    × (slice_index numbers 3 ≤ slice_index numbers 0 + (length numbers - 4)) × FitActorsFrom 4 numbers
IsTapeOf churn numbers =
    (length numbers ≡ 7) × (slice_index numbers 1 ≤ slice_index numbers 3) × (slice_index numbers 3 < 2 ^ 32) × (slice_index numbers 2 ≤ 3)
    × (0 < slice_index numbers 2 → slice_index numbers 1 < slice_index numbers 3) × FitActorsFrom 4 numbers
IsTapeOf ended numbers = ⊤

abbrev pub IsTape : List ℕ → Type 0
IsTape [] = ⊤
IsTape (kind ∷ numbers) = (kind ≤ 4) × IsTapeOf (kind_of kind) numbers
