-- Dates that rise.
use Rattle.std.proofs.Common.{◌≡◌, ℕ, ◌+◌, ◌<◌, Bool, List, ◌∷◌, map, length, drop, get_or, Option, Some, None, ap, ◌∙◌, sym}
use Rattle.std.proofs.lemmas.List.{drop_more}
use Rattle.sg_toml_rules.specs.Profiles.{amount_in, are_rising}
use Rattle.sg_toml_keys.specs.declared.units.Quantity.TheVariants.{Time}
use Rattle.toml.specs.View.{view}
use Rattle.toml.specs.declared.value.Value.{Value}

-- those after the last one, if there is one, rise with it
abbrev pub rise_from : Option ℕ → List (Option ℕ) → Bool
rise_from None dates = are_rising dates
rise_from (Some last) dates = are_rising (Some last ∷ dates)

-- the dates from an item on
abbrev pub dates_from : List Value → ℕ → List (Option ℕ)
dates_from items i = map (amount_in Time) (map view (drop i items))

pub dates_step : (items : List Value) (i : ℕ) (item : Value) → i < length items → item ≡ get_or items i item → dates_from items i ≡ amount_in Time (view item) ∷ dates_from items (i + 1)
dates_step items i item within same =
    ap (λ vs. map (amount_in Time) (map view vs)) (drop_more items i item within) ∙ ap (λ v. amount_in Time (view v) ∷ dates_from items (i + 1)) (sym same)
