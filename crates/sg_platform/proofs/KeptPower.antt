-- What a host draws keeps to its limits.
use Rattle.std.proofs.Common.{ℕ, ◌≤◌, nat_le, ℤ, List, [], ◌∷◌, Option, Some, None, IfSome, option_and_then, option_map, unwrap_or, codes, inl, inr, arith}
use Rattle.std.proofs.lemmas.Bool.{cases_Bool}
use Rattle.std.proofs.lemmas.Bool.Decides.{nat_tests}
use Rattle.sg_platform.specs.Build.{host_power, whole_at, with_off}
use Rattle.sg_toml_keys.proofs.Greatest.{whole_within}
use Rattle.sg_toml_keys.specs.Units.{whole_value}
use Rattle.sg_platform_rows.specs.Platform.{IsPower}
use Rattle.sg_toml_rules.specs.Power.{milliwatts_in, powers_in, powers_of}
use Rattle.sg_toml_rules.specs.Profiles.{items_at}
use Rattle.toml.specs.Data.{Data, as_integer, get}

abbrev IsLow : ℕ → Type 0
IsLow n = n ≤ 1000000000

-- what holds of the default and of each whole number within the bounds
pub whole_holds : (P : ℕ → Type 0) (least most default : ℕ) → P default → ((n : ℕ) → least ≤ n → n ≤ most → P n) → (o : Option ℤ) → P (unwrap_or (option_and_then (whole_value least most) o) default)
whole_holds P least most default held within None = held
whole_holds P least most default held within (Some z) = at (whole_value least most z) (whole_within least most z)
  where
    at : (o : Option ℕ) → IfSome o (λ n. (least ≤ n) × (n ≤ most)) → P (unwrap_or o default)
    at None bounds = held
    at (Some n) bounds = within n bounds.0 bounds.1

off_small : (o : Option ℤ) → IsLow (unwrap_or (option_and_then (whole_value 0 1000000000) o) 0)
off_small o = whole_holds IsLow 0 1000000000 0 (omega arith) (λ n low high. high) o

item_small : (item : Data) → IfSome (milliwatts_in item) IsLow
item_small item = at (as_integer item)
  where
    low : (o : Option ℕ) → IfSome o (λ n. (0 ≤ n) × (n ≤ 1000000000)) → IfSome o IsLow
    low None bounds = tt
    low (Some n) bounds = bounds.1

    at : (o : Option ℤ) → IfSome (option_and_then (whole_value 0 1000000000) o) IsLow
    at None = tt
    at (Some z) = low (whole_value 0 1000000000 z) (whole_within 0 1000000000 z)

of_three : (off : ℕ) → IsLow off → (idle epsilon all : Option ℕ) → IfSome idle IsLow → IfSome epsilon IsLow → IfSome all IsLow
    → IfSome (option_map (with_off off) (powers_of idle epsilon all)) IsPower
of_three off low None epsilon all p q r = tt
of_three off low (Some idle) None all p q r = tt
of_three off low (Some idle) (Some epsilon) None p q r = tt
of_three off low (Some idle) (Some epsilon) (Some all) p q r =
    elim (cases_Bool (nat_le epsilon all)) [
      | inl fits ↦ rw fits (record { idle = p; epsilon = q; all = r; off = low; rising = grind (arith, nat_tests) })
      | inr other ↦ rw other tt
    ]

of_items : (off : ℕ) → IsLow off → (items : List Data) → IfSome (option_map (with_off off) (powers_in items)) IsPower
of_items off low [] = tt
of_items off low (idle ∷ []) = tt
of_items off low (idle ∷ (epsilon ∷ [])) = tt
of_items off low (idle ∷ (epsilon ∷ (all ∷ []))) = of_three off low _ _ _ (item_small idle) (item_small epsilon) (item_small all)
of_items off low (idle ∷ (epsilon ∷ (all ∷ (more ∷ rest)))) = tt

pub power_kept : (row : Data) → IfSome (host_power row) IsPower
power_kept row = of_items (whole_at 0 1000000000 0 (codes "power_off") row) (off_small (option_and_then as_integer (get (codes "power_off") row))) (items_at (codes "power") row)
