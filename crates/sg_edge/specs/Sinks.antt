-- What the streams hold.
use Rattle.std.specs.Prelude.{◌≡◌, ◌≢◌, ◌++◌, ℕ, Bool, true, false, List, Option, None, Some}
use Rattle.sg_edge.specs.declared.sinks.Stream.{Stream}

-- what is held, and then these bytes, if what is held is known
abbrev pub gain : Option (List ℕ) → List ℕ → Option (List ℕ)
gain None bytes = None
gain (Some held) bytes = Some (held ++ bytes)

-- no other stream changed
abbrev pub SameBut : Stream → (old new : Stream → Option (List ℕ)) → Type 0
SameBut to old new = (s : Stream) → s ≢ to → new s ≡ old s

-- of the text a front was appended, and this rest was not
pub record IsWritten (text rest : List ℕ) (old new : Option (List ℕ)) : Type 0 where
  pub done : List ℕ
  pub split : text ≡ done ++ rest
  pub held : new ≡ gain old done

-- a front of the text was appended
abbrev pub GainsFront : List ℕ → Option (List ℕ) → Option (List ℕ) → Type 0
GainsFront text old new = (rest : List ℕ) × IsWritten text rest old new

-- how many writes have failed if one has or none, since no write follows one that failed
abbrev pub one_if : Bool → ℕ
one_if false = 0
one_if true = 1
