-- The rows of routes whose keys break no rule.
use Rattle.std.proofs.Common.{◌≡◌, ℕ, ◌≤◌, Bool, true, false, nat_le, List, [], ◌++◌, Option, Some, None, option_and_then, codes, refl, ◌∙◌}
use Rattle.std.specs.List.{list_any}
use Rattle.std.proofs.lemmas.Bool.{le-leb}
use Rattle.sg_toml_tree.specs.Names.{Known}
use Rattle.sg_toml_tree.specs.Pairs.{pairs_between, pairs_of, truth_at}
use Rattle.sg_toml_rules.proofs.FaultParts.{key_faults, kinds_at}
use Rattle.sg_toml_rules.specs.Plain.{IsPointAt, KeepsRules, Links, Serves}
use Rattle.sg_toml_rules.specs.Rules.{is_pair_taken, is_below, key_kinds, point_kinds, value_kinds}
use Rattle.sg_toml_keys.specs.Tables.{key, keys_of}
use Rattle.sg_toml_keys.specs.declared.tables.Key.{Key}
use Rattle.sg_toml_keys.specs.declared.tables.Need.TheVariants.{Required, Optional}
use Rattle.sg_toml_keys.specs.declared.tables.Rule.TheVariants.{Text, Truth, Texts}
use Rattle.sg_toml_keys.specs.declared.tables.Table.TheVariants.{Route}
use Rattle.sg_toml_keys.specs.declared.tables.TextRule.TheVariants.{PointName, RouteEnd}
use Rattle.sg_toml_keys.specs.declared.tables.TextsRule.TheVariants.{LinkList}
use Rattle.sg_toml_tree.proofs.Along.{first_append_none, first_at_none}
use Rattle.sg_toml_tree.specs.Along.{first}
use Rattle.sg_toml_tree.specs.Faults.{kind_if, of_type}
use Rattle.sg_toml_tree.specs.Tree.{text_at}
use Rattle.sg_toml_tree.specs.declared.fault.Kind.TheVariants.{Duplicate}
use Rattle.toml.specs.Data.{Data, as_bool, as_str, get}

-- ---- the four keys
abbrev src_key : Key (List ℕ)
src_key = key (codes "src") Required (Text PointName)

abbrev dst_key : Key (List ℕ)
dst_key = key (codes "dst") Required (Text RouteEnd)

abbrev links_key : Key (List ℕ)
links_key = key (codes "links") Required (Texts LinkList)

abbrev symmetrical_key : Key (List ℕ)
symmetrical_key = key (codes "symmetrical") Optional Truth

-- ---- both ends
named : (names : Known) (n : ℕ) (text : List ℕ) → names.points text ≡ Some n → names.zones ≤ n → first (point_kinds names text) ≡ None
unfolding point_kinds
named names n text is above =
    let enough : nat_le names.zones n ≡ true = le-leb names.zones n above in
    rw (is, enough)

end_text : (names : Known) (n : ℕ) (taken : Bool) (o : Option (List ℕ)) → taken ≡ false → option_and_then names.points o ≡ Some n → names.zones ≤ n
    → first (of_type (λ text. kind_if taken Duplicate ++ point_kinds names text) o) ≡ None
end_text names n true o free is above = cc
end_text names n false None free is above = cc
end_text names n false (Some text) free is above = named names n text is above

src_at : (names : Known) (number : ℕ) (row : Data) (n : ℕ) (o : Option Data) → option_and_then names.points (option_and_then as_str o) ≡ Some n → names.zones ≤ n
    → first (kinds_at names number row src_key o) ≡ None
unfolding value_kinds
src_at names number row n None is above = cc
src_at names number row n (Some d) is above = end_text names n false (as_str d) refl is above

dst_at : (names : Known) (number : ℕ) (row : Data) (n : ℕ) (o : Option Data) → is_pair_taken names.pairs names.points number row ≡ false → option_and_then names.points (option_and_then as_str o) ≡ Some n → names.zones ≤ n
    → first (kinds_at names number row dst_key o) ≡ None
unfolding value_kinds
dst_at names number row n None free is above = cc
dst_at names number row n (Some d) free is above = end_text names n (is_pair_taken names.pairs names.points number row) (as_str d) free is above

src_none : (names : Known) (number : ℕ) (row : Data) (n : ℕ) → IsPointAt names (codes "src") row n → first (key_kinds names number row src_key) ≡ None
unfolding key_kinds
src_none names number row n at = src_at names number row n (get (codes "src") row) at.found at.above

dst_none : (names : Known) (number : ℕ) (row : Data) (n : ℕ) → is_pair_taken names.pairs names.points number row ≡ false → IsPointAt names (codes "dst") row n → first (key_kinds names number row dst_key) ≡ None
unfolding key_kinds
dst_none names number row n free at = dst_at names number row n (get (codes "dst") row) free at.found at.above

-- the pair of the two ends, and that of the reverse route
untaken : (names : Known) (number : ℕ) (row : Data) (a b : ℕ) (both : Bool) → option_and_then names.points (text_at (codes "src") row) ≡ Some a → option_and_then names.points (text_at (codes "dst") row) ≡ Some b → truth_at (codes "symmetrical") row ≡ both
    → list_any (λ p. is_below (names.pairs p) number) (pairs_between (Some a) (Some b) both) ≡ false → is_pair_taken names.pairs names.points number row ≡ false
unfolding is_pair_taken pairs_of
untaken names number row a b both src dst said none = rw (src, dst, said) none

-- ---- the other keys
links_none : (names : Known) (number : ℕ) (row : Data) → Links names row → first (key_kinds names number row links_key) ≡ None
unfolding key_kinds value_kinds
links_none names number row links = rw links.found links.none

symmetrical_at : (names : Known) (number : ℕ) (row : Data) (both : Bool) (o : Option Data) → ((d : Data) → o ≡ Some d → as_bool d ≡ Some both) → first (kinds_at names number row symmetrical_key o) ≡ None
unfolding value_kinds
symmetrical_at names number row both None typed = refl
symmetrical_at names number row both (Some d) typed = rw (typed d refl)

symmetrical_none : (names : Known) (number : ℕ) (row : Data) (both : Bool) → Serves row both → first (key_kinds names number row symmetrical_key) ≡ None
unfolding key_kinds
symmetrical_none names number row both serves = symmetrical_at names number row both (get (codes "symmetrical") row) serves.typed

-- ---- the row
first_of_four : {B : Type 0} (a b c d : List B) → first a ≡ None → first b ≡ None → first c ≡ None → first d ≡ None → first (a ++ (b ++ (c ++ (d ++ [])))) ≡ None
first_of_four a b c d p q r s =
    first_append_none a (b ++ (c ++ (d ++ []))) p ∙ (first_append_none b (c ++ (d ++ [])) q ∙ (first_append_none c (d ++ []) r ∙ first_append_none d [] s))

pub plain_route : (names : Known) (number : ℕ) (row : Data) (a b : ℕ) (both : Bool) → IsPointAt names (codes "src") row a → IsPointAt names (codes "dst") row b → Serves row both
    → list_any (λ p. is_below (names.pairs p) number) (pairs_between (Some a) (Some b) both) ≡ false → Links names row → KeepsRules names (keys_of Route) number row
plain_route names number row a b both src dst serves none links =
    let free = untaken names number row a b both src.found dst.found serves.said none in
    record {
      none = λ t r. first_of_four (key_faults names number t r row 0 src_key) (key_faults names number t r row 1 dst_key) (key_faults names number t r row 2 links_key) (key_faults names number t r row 3 symmetrical_key)
          (first_at_none t r 1 (key_kinds names number row src_key) (src_none names number row a src))
          (first_at_none t r 2 (key_kinds names number row dst_key) (dst_none names number row b free dst))
          (first_at_none t r 3 (key_kinds names number row links_key) (links_none names number row links))
          (first_at_none t r 4 (key_kinds names number row symmetrical_key) (symmetrical_none names number row both serves));
    }
