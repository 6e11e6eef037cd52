-- Values with units, if their reader takes the text, and whole numbers within bounds.
use Rattle.std.specs.Prelude.{ℕ, ℤ, pos, negsuc, ◌&&◌, nat_le, List, if◌then◌else◌, Option, Some, None, option_and_then}
use Rattle.std.specs.Result.{result_ok}
use Rattle.sg_toml_keys.specs.declared.units.Quantity.{Quantity}
use Rattle.sg_toml_keys.specs.declared.units.Quantity.TheVariants.{Time, Latency, Speed, Bandwidth, Factor, Amount}
use Rattle.sg_units.specs.Amount.{amount_of, bandwidth_of, factor_of, speed_of, time_of}

-- what a text gives, by the reader of what it is an amount of; a latency is at most 10^15 nanoseconds
unfoldable pub quantity_value : Quantity → List ℕ → Option ℕ
quantity_value Time text = result_ok (time_of text)
quantity_value Latency text = option_and_then (λ ns. if nat_le ns 1000000000000000 then Some ns else None) (result_ok (time_of text))
quantity_value Speed text = result_ok (speed_of text)
quantity_value Bandwidth text = result_ok (bandwidth_of text)
quantity_value Factor text = result_ok (factor_of text)
quantity_value Amount text = result_ok (amount_of text)

-- a whole number from the least to the greatest
abbrev pub whole_value : ℕ → ℕ → ℤ → Option ℕ
whole_value least greatest (pos n) = if nat_le least n && nat_le n greatest then Some n else None
whole_value least greatest (negsuc n) = None
