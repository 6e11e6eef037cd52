-- Not TOML is reported exactly if the bytes have no tree.
use Rattle.std.proofs.Common.{◌≡◌, ◌↔◌, ℕ, ◌≤◌, false, List, length, Option, Some, None, Result, Ok, Err, refl, sym, ap, ◌∙◌, nat_lt, arith}
use Rattle.std.proofs.lemmas.Bool.Decides.{nat_tests}
use Rattle.std.specs.Option.{option_map_or}
use Rattle.sg_platform.specs.DeploymentOf.{deployment_of, deployment_rows, names_on}
use Rattle.sg_platform.specs.Laws.{BadTomlExactly}
use Rattle.sg_platform.specs.PlatformOf.{greatest_text, platform_of, platform_rows, text_by, tree_by}
use Rattle.sg_toml_rules.specs.Faults.{faults_of}
use Rattle.sg_toml_tree.specs.Names.{Known, platform_known}
use Rattle.sg_toml_keys.specs.Tables.{deployment_tables, platform_tables}
use Rattle.sg_toml_keys.specs.declared.tables.Table.{Table}
use Rattle.sg_toml_tree.specs.Along.{first}
use Rattle.sg_toml_tree.specs.Tree.{tree_of}
use Rattle.sg_toml_tree.specs.declared.fault.Fault.{Fault}
use Rattle.toml.specs.Data.{Members}

-- what is reported of a tree is a rule
rule_told : {R : Type 0} (o : Option Fault) (rows : R) → option_map_or (λ f. Err (Some f)) o (Ok rows) ≡ Err None → ⊥
rule_told None rows e = cc
rule_told (Some fault) rows e = cc

tree_told : {R : Type 0} (known : Members → Known) (tables : List Table) (rows : Known → Members → R) (tree : Members) → tree_by known tables rows tree ≡ Err None → ⊥
unfolding tree_by
tree_told known tables rows tree e = rule_told (first (faults_of (known tree) tables tree)) (rows (known tree) tree) e

no_tree : {R : Type 0} (given : Members → Result R (Option Fault)) → ((tree : Members) → given tree ≡ Err None → ⊥) → (o : Option Members) → option_map_or given o (Err None) ≡ Err None → o ≡ None
no_tree given told None e = refl
no_tree given told (Some tree) e = absurd (told tree e)

within : {R : Type 0} (given : Members → Result R (Option Fault)) (bytes : List ℕ) → length bytes ≤ greatest_text → text_by given bytes ≡ option_map_or given (tree_of bytes) (Err None)
within given bytes h =
    let fits : nat_lt greatest_text (length bytes) ≡ false = grind (arith, nat_tests) in
    rw fits

exactly : {R : Type 0} (given : Members → Result R (Option Fault)) → ((tree : Members) → given tree ≡ Err None → ⊥) → (bytes : List ℕ) → length bytes ≤ greatest_text → (text_by given bytes ≡ Err None) ↔ (tree_of bytes ≡ None)
exactly given told bytes h =
    (λ e. no_tree given told (tree_of bytes) (sym (within given bytes h) ∙ e), λ none. within given bytes h ∙ ap (λ o. option_map_or given o (Err None)) none)

pub bad_toml_exactly : BadTomlExactly
unfolding platform_of deployment_of
bad_toml_exactly = record {
  platform = λ bytes h. exactly (tree_by platform_known platform_tables platform_rows) (tree_told platform_known platform_tables platform_rows) bytes h;
  deployment = λ bytes p h. exactly (tree_by (names_on p) deployment_tables deployment_rows) (tree_told (names_on p) deployment_tables deployment_rows) bytes h;
}
