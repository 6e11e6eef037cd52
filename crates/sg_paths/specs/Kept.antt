-- What a search leaves as it was.
use Rattle.std.specs.Prelude.{◌≡◌}
use Rattle.std.specs.Borrow.{MutBor, Fml}
use Rattle.std.specs.Io.BufRead.{Rests}
use Rattle.sg_paths.specs.Path.{Net}
use Rattle.sg_paths.specs.contracts.paths.Paths.{the_row}

-- the points and routes stay
abbrev pub KeepsNet : MutBor Net → Fml
KeepsNet paths = Rests the_row paths (λ new. new ≡ paths.now)
