use Rattle.std.proofs.Common.{◌≡◌, ◌≤◌, ◌+◌, ◌*◌, ◌^◌, length, drop}
use Rattle.std.specs.Str.Parse.{AllDigits, digits_value_after}
use Rattle.sg_units.proofs.scale.read_few.Given as goal

abbrev pub invariant-loop-b : goal.invariant-loop-b
invariant-loop-b l = record {
  digits : AllDigits 10 (drop l.b-index l.digits);
  read : digits_value_after 10 l.value (drop l.b-index l.digits) ≡ digits_value_after 10 0 l.digits;
  bound : (l.value + 1) * 10 ^ length (drop l.b-index l.digits) ≤ 10 ^ length l.digits;
}
