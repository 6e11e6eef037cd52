use Rattle.std.proofs.Common.{◌≡◌, map}
use Rattle.sg_toml_rules.proofs.DateLemmas.{dates_from, rise_from}
use Rattle.sg_toml_rules.specs.Profiles.{amount_in, are_rising}
use Rattle.sg_toml_keys.specs.declared.units.Quantity.TheVariants.{Time}
use Rattle.toml.specs.View.{view}
use Rattle.sg_toml_rules.proofs.profiles.are_rising.Given as goal

abbrev pub invariant-loop-item : goal.invariant-loop-item
invariant-loop-item l = rise_from l.last (dates_from l.items l.item-index) ≡ are_rising (map (amount_in Time) (map view l.items))
