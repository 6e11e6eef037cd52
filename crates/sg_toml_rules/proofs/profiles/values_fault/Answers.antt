use Rattle.std.proofs.Common.{ap, is_some, map, ◌∙◌}
use Rattle.std.specs.List.{list_all}
use Rattle.sg_toml_rules.specs.Profiles.{amount_in, each_date_kinds}
use Rattle.sg_toml_tree.specs.Along.{first}
use Rattle.toml.specs.View.{view}
use Rattle.sg_toml_rules.proofs.profiles.values_fault.Goals as goal

pub returns : goal.returns
returns c =
    let items = map view c.args.items.now in
    c.each_date_fault.ensures
    ∙ ap (λ fit. first (each_date_kinds (view c.args.row.now) items fit)) (c.are_amounts.ensures ∙ ap (λ quantity. list_all (λ item. is_some (amount_in quantity item)) items) c.quantity_of.ensures)
