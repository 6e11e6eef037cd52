-- Ledgers that count steps.
use Rattle.std.specs.Prelude.{◌≡◌, ◌<◌, ℕ}
use Rattle.std.specs.declared.sync.ledger.Blank.{Blank}

-- a new ledger of this name and these parts, of which there is one at least
pub record IsBlankOf (ledger parts : ℕ) (blank : Blank) : Type 0 where
  pub name : blank.name ≡ ledger
  pub all : blank.parts ≡ parts
  pub some : 0 < blank.parts
