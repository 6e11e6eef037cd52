-- The greatest value of each reader.
use Rattle.std.proofs.Common.{◌≡◌, ℕ, ◌≤◌, ◌==◌, ◌&&◌, Bool, true, false, cond, nat_le, ℤ, pos, negsuc, List, length, Option, Some, None, IfSome, option_and_then, Result, Ok, Err, IfOk, inl, inr, arith}
use Rattle.std.proofs.lemmas.Bool.{cases_Bool}
use Rattle.std.proofs.lemmas.Bool.Decides.{nat_tests}
use Rattle.sg_toml_keys.specs.Units.{quantity_value, whole_value}
use Rattle.sg_toml_keys.specs.declared.units.Quantity.{Quantity}
use Rattle.sg_toml_keys.specs.declared.units.Quantity.TheVariants.{Time, Latency, Speed, Bandwidth, Factor, Amount}
use Rattle.std.specs.Result.{result_ok}
use Rattle.sg_units.specs.Amount.{up_to, value_in_unit, amount_of, bandwidth_of, factor_of, amount_by, speed_of, time_of, is_short, value_of as amount}
use Rattle.sg_units.specs.Number.{Number, number_of}
use Rattle.sg_units.specs.Units.{Units, amount_units, bandwidth_units, factor_units, size_of, speed_units, time_units}
use Rattle.sg_units.specs.declared.fault.AmountFault.{AmountFault}
use Rattle.sg_units.specs.declared.fault.AmountFault.TheVariants.{NotANumber, TooLarge}
use Rattle.sg_units.specs.declared.units.Ratio.{Ratio}

abbrev Within : ℕ → Result ℕ AmountFault → Type 0
Within greatest r = IfOk r (λ value. value ≤ greatest)

chosen : (b : Bool) (r s : Result ℕ AmountFault) (greatest : ℕ) → Within greatest r → Within greatest s → Within greatest (cond b r s)
chosen true r s greatest p q = p
chosen false r s greatest p q = q

within_up_to : (greatest value : ℕ) → Within greatest (up_to greatest value)
within_up_to greatest value =
    elim (cases_Bool (nat_le value greatest)) [
      | inl fits ↦ rw fits (let le : value ≤ greatest = grind (arith, nat_tests) in le)
      | inr over ↦ rw over tt
    ]

within_sized : (greatest : ℕ) (n : Number) (size : Option Ratio) → Within greatest (value_in_unit greatest n size)
within_sized greatest n None = tt
within_sized greatest n (Some size) = chosen (is_short n) (up_to greatest (amount n size)) (Err TooLarge) greatest (within_up_to greatest (amount n size)) tt

pub within_read : (units : Units) (greatest : ℕ) (text : List ℕ) → Within greatest (amount_by units greatest text)
within_read units greatest text =
    let n = number_of text in
    chosen (length n.whole == 0) (Err NotANumber) (value_in_unit greatest n (size_of units n.unit)) greatest tt (within_sized greatest n (size_of units n.unit))

pub value_within : (greatest : ℕ) (r : Result ℕ AmountFault) (n : ℕ) → Within greatest r → result_ok r ≡ Some n → n ≤ greatest
value_within greatest (Ok value) n within same = let e : value ≡ n = cc in omega (arith, within, e)
value_within greatest (Err fault) n within same = cc

latency_at_most : (o : Option ℕ) (n : ℕ) → option_and_then (λ ns. cond (nat_le ns 1000000000000000) (Some ns) None) o ≡ Some n → n ≤ 1000000000000000
latency_at_most None n same = cc
latency_at_most (Some ns) n same =
    elim (cases_Bool (nat_le ns 1000000000000000)) [
      | inl fits ↦
          let at : Some ns ≡ Some n = rw fits at same in
          let e : ns ≡ n = cc in
          let le : ns ≤ 1000000000000000 = grind (arith, nat_tests) in
          omega (arith, e, le)
      | inr over ↦ let none : None ≡ Some n = rw over at same in cc
    ]

-- the greatest amount of each kind
abbrev pub greatest : Quantity → ℕ
greatest Time = 1000000000000000000
greatest Factor = 1000000000
greatest _ = 1000000000000000

pub quantity_within : (quantity : Quantity) (text : List ℕ) (n : ℕ) → quantity_value quantity text ≡ Some n → n ≤ greatest quantity
unfolding quantity_value
quantity_within Time text n same = value_within 1000000000000000000 (time_of text) n (within_read time_units 1000000000000000000 text) same
quantity_within Latency text n same = latency_at_most (result_ok (time_of text)) n same
quantity_within Speed text n same = value_within 1000000000000000 (speed_of text) n (within_read speed_units 1000000000000000 text) same
quantity_within Bandwidth text n same = value_within 1000000000000000 (bandwidth_of text) n (within_read bandwidth_units 1000000000000000 text) same
quantity_within Factor text n same = value_within 1000000000 (factor_of text) n (within_read factor_units 1000000000 text) same
quantity_within Amount text n same = value_within 1000000000000000 (amount_of text) n (within_read amount_units 1000000000000000 text) same

-- a whole number keeps its bounds
pub whole_within : (least most : ℕ) (z : ℤ) → IfSome (whole_value least most z) (λ n. (least ≤ n) × (n ≤ most))
whole_within least most (negsuc n) = tt
whole_within least most (pos n) =
    elim (cases_Bool (nat_le least n && nat_le n most)) [
      | inl fits ↦ rw fits ((let low : least ≤ n = grind (arith, nat_tests) in low), (let high : n ≤ most = grind (arith, nat_tests) in high))
      | inr other ↦ rw other tt
    ]
