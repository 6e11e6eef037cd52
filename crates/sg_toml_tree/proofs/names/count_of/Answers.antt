use Rattle.std.proofs.Common.{◌≡◌, ◌∙◌, IfOk, ap, length, subst, sym}
use Rattle.std.proofs.lemmas.List.{length-map}
use Rattle.toml.specs.View.{view}
use Rattle.sg_toml_tree.proofs.names.count_of.Goals as goal

pub returns : goal.returns
returns c =
    subst (λ n. IfOk c.small_number.result (λ count. count ≡ n)) (sym (length-map c.rows_at.result.now view) ∙ ap length c.rows_at.ensures) c.small_number.ensures
