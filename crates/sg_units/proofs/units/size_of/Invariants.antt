use Rattle.std.proofs.Common.{◌≡◌, length}
use Rattle.std.specs.Prelude.{IsTrue}
use Rattle.sg_units.specs.Units.{rows, size_of, are_sizes}
use Rattle.sg_units.proofs.units.size_of.Given as goal

abbrev pub invariant-loop-units : goal.invariant-loop-units
invariant-loop-units l = record {
  size : size_of (rows l.units) l.name ≡ size_of (rows l.initial.units) l.name;
  small : IsTrue (are_sizes (rows l.units));
}

abbrev pub decreases-loop-units : goal.decreases-loop-units
decreases-loop-units l = length l.units
