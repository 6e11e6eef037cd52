use Rattle.std.proofs.Common.{◌≡◌, ◌≤◌, ◌<◌, ◌+◌, ◌*◌, ◌^◌, length, drop}
use Rattle.std.specs.Str.Parse.{AllDigits, digits_value_after}
use Rattle.sg_units.proofs.plain.plain_number.Given as goal

abbrev pub invariant-loop-b : goal.invariant-loop-b
invariant-loop-b l = record {
  some : 0 < length l.text;
  few : length l.text ≤ 18;
  digits : AllDigits 10 (drop l.b-index l.text) → AllDigits 10 l.text;
  read : digits_value_after 10 l.value (drop l.b-index l.text) ≡ digits_value_after 10 0 l.text;
  bound : (l.value + 1) * 10 ^ length (drop l.b-index l.text) ≤ 10 ^ length l.text;
}
