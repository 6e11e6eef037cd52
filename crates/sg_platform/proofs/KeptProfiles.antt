-- What holds of the rows of profiles that break no rule.
use Rattle.std.proofs.Common.{◌≡◌, ℕ, zero, suc, ◌+◌, ◌<◌, ◌≤◌, ◌==◌, Bool, true, false, ◌&&◌, nat_lt, is_some, List, [], ◌∷◌, ◌++◌, map, length, get_or, Option, Some, None, IfSome, option_and_then, unwrap_or, codes, refl, sym, subst, ◌∙◌, inl, inr, arith}
use Rattle.std.proofs.lemmas.Bool.{cases_Bool}
use Rattle.std.proofs.lemmas.Bool.Decides.{nat_tests}
use Rattle.std.proofs.lemmas.List.{length-map}
use Rattle.std.proofs.lemmas.List.Elements.{All-map}
use Rattle.std.specs.List.{All}
use Rattle.std.specs.Option.{option_map_or}
use Rattle.std.specs.Prelude.{slice_index}
use Rattle.std.specs.List.Sorted.{IsStrictlyIncreasing}
use Rattle.sg_platform.proofs.KeptRows.{IsCounted, point_under}
use Rattle.sg_platform.proofs.LinkLists.{and_left, and_right}
use Rattle.sg_platform.specs.Build.{amounts_at, link_id, point_id, profile_row, state_profile_row}
use Rattle.sg_platform.specs.Functions.{amount_or_zero}
use Rattle.sg_platform_rows.specs.Platform.{Counts, HasDates, IsProfileRow, IsProfiled, IsStateProfileRow}
use Rattle.sg_platform_rows.specs.declared.rows.Profiled.{Profiled}
use Rattle.sg_platform_rows.specs.declared.rows.Profiled.TheVariants.{Host as OfHost, Link as OfLink}
use Rattle.sg_toml_keys.proofs.Greatest.{greatest, quantity_within}
use Rattle.sg_toml_rules.proofs.Kept.{KeysKept, host_there, not_false, optional_text, positive_there, required_at, required_items, some_there, unbroken}
use Rattle.sg_toml_tree.specs.Names.{Known}
use Rattle.sg_toml_rules.specs.Profiles.{amount_in, are_rising, dates_kinds, each_date_kinds, items_at, quantity_of, state_in}
use Rattle.sg_toml_rules.proofs.FaultParts.{kinds_at}
use Rattle.sg_toml_rules.specs.Rules.{host_kinds, is_below, key_kinds, profiled_link_kinds, text_kinds}
use Rattle.sg_toml_keys.specs.Tables.{key, keys_of}
use Rattle.sg_toml_keys.specs.declared.tables.Need.TheVariants.{Required, Optional, Unless}
use Rattle.sg_toml_keys.specs.Units.{quantity_value}
use Rattle.sg_toml_keys.specs.declared.tables.Rule.TheVariants as rule
use Rattle.sg_toml_keys.specs.declared.tables.TextRule.{TextRule}
use Rattle.sg_toml_keys.specs.declared.tables.TextRule.TheVariants as text_rule
use Rattle.sg_toml_keys.specs.declared.tables.TextsRule.TheVariants as texts_rule
use Rattle.sg_toml_keys.specs.declared.tables.Table.TheVariants.{Profile, StateProfile}
use Rattle.sg_toml_keys.specs.declared.units.Quantity.{Quantity}
use Rattle.sg_toml_keys.specs.declared.units.Quantity.TheVariants.{Time, Speed, Bandwidth}
use Rattle.sg_toml_tree.proofs.Kept.{empty_left, empty_right}
use Rattle.sg_toml_tree.specs.Faults.{kind_if}
use Rattle.sg_toml_tree.specs.NameSpaces.{Finds}
use Rattle.sg_toml_tree.specs.Tree.{text_at, text_or_empty}
use Rattle.sg_toml_tree.specs.declared.fault.Kind.TheVariants.{Duplicate}
use Rattle.toml.specs.Data.{Data, as_str, get}

-- ---- of what it is
link_below : (names : Known) (counts : Counts) (earlier : Finds) → IsCounted names counts → (number : ℕ) (row : Data) (name : List ℕ) → profiled_link_kinds names earlier number row name ≡ []
    → (link_id names name).0 + 1 < counts.links
unfolding profiled_link_kinds
link_below names counts earlier counted number row name empty =
    let there = some_there (names.links name) (unbroken _ _ (empty_right _ _ empty)) in
    let below = rw there.1 at (counted.declared name) in
    rw there.1 below

-- the host or link that a row names
abbrev subject_by : Known → Data → Option (List ℕ) → Profiled
subject_by names row host = option_map_or (λ name. OfHost (point_id names name)) host (OfLink (link_id names (text_or_empty (codes "link") row)))

host_below : (names : Known) (counts : Counts) → IsCounted names counts → (row : Data) (name : List ℕ) → host_kinds names name ≡ [] → IsProfiled counts (subject_by names row (Some name))
host_below names counts counted row name empty =
    let there = host_there names name empty in
    let below = point_under names.zones names.hosts there.0 there.2 there.3 in
    rw there.1 (omega (arith, below, counted.hosts))

-- These rules are those of what a profile is of, if its table has these hosts and links.
record AreOfSubjects (names : Known) (number : ℕ) (row : Data) (earlier_hosts earlier_links : Finds) (host link : TextRule) : Type 0 where
  hosts : (name : List ℕ) → text_kinds names number row host name ≡ kind_if (is_below (earlier_hosts name) number) Duplicate ++ host_kinds names name
  links : (name : List ℕ) → text_kinds names number row link name ≡ profiled_link_kinds names earlier_links number row name

profiled_kept : (names : Known) (counts : Counts) → IsCounted names counts → (number : ℕ) (row : Data) (earlier earlier_links : Finds) (hosts links : TextRule) → AreOfSubjects names number row earlier earlier_links hosts links
    → (host link : Option Data) → get (codes "link") row ≡ link
    → kinds_at names number row (key (codes "host") (Unless (codes "link")) (rule.Text hosts)) host ≡ [] → kinds_at names number row (key (codes "link") Optional (rule.Text links)) link ≡ []
    → IsProfiled counts (subject_by names row (option_and_then as_str host))
profiled_kept names counts counted number row earlier earlier_links hosts links rules (Some d) link link_is host_kept link_kept =
    let host = required_at names number row (codes "host") hosts (Some d) host_kept in
    rw host.1 (host_below names counts counted row host.0 (empty_right _ _ (sym (rules.hosts host.0) ∙ host.2)))
profiled_kept names counts counted number row earlier earlier_links hosts links rules None None link_is host_kept link_kept = let missing = rw link_is at host_kept in cc
profiled_kept names counts counted number row earlier earlier_links hosts links rules None (Some d) link_is host_kept link_kept =
    let link = required_at names number row (codes "link") links (Some d) link_kept in
    rw (link_is, link.1) (link_below names counts earlier_links counted number row link.0 (sym (rules.links link.0) ∙ link.2))

of_kept : (names : Known) (counts : Counts) → IsCounted names counts → (number : ℕ) (row : Data) (earlier earlier_links : Finds) (hosts links : TextRule) → AreOfSubjects names number row earlier earlier_links hosts links
    → key_kinds names number row (key (codes "host") (Unless (codes "link")) (rule.Text hosts)) ≡ [] → key_kinds names number row (key (codes "link") Optional (rule.Text links)) ≡ []
    → IsProfiled counts (subject_by names row (text_at (codes "host") row))
unfolding key_kinds
of_kept names counts counted number row earlier earlier_links hosts links rules host link = profiled_kept names counts counted number row earlier earlier_links hosts links rules (get (codes "host") row) (get (codes "link") row) refl host link

-- ---- its dates
later_less : (a b : Option ℕ) → option_map_or (λ d. option_map_or (nat_lt d) b false) a false ≡ true → unwrap_or a 0 < unwrap_or b 0
later_less None b later = cc
later_less (Some a) None later = cc
later_less (Some a) (Some b) later = grind (arith, nat_tests)

dates_rise : (items : List Data) → are_rising (map (amount_in Time) items) ≡ true → IsStrictlyIncreasing (map (amount_or_zero Time) items)
dates_rise [] rising k within = cc
dates_rise (a ∷ []) rising k within = absurd (omega arith)
dates_rise (a ∷ (b ∷ items)) rising zero within = later_less (amount_in Time a) (amount_in Time b) (and_left _ _ rising)
dates_rise (a ∷ (b ∷ items)) rising (suc k) within =
    let dates = map (amount_or_zero Time) (a ∷ (b ∷ items)) in
    let same : suc (k + 1) ≡ suc k + 1 = omega arith in
    subst (λ next. slice_index dates (suc k) < slice_index dates next) same (dates_rise (b ∷ items) (and_right _ _ rising) k (omega arith))

some_dates : (items : List Data) → are_rising (map (amount_in Time) items) ≡ true → 1 ≤ length items
some_dates [] rising = cc
some_dates (item ∷ items) rising = omega arith

few_items : (n : ℕ) → nat_lt 1024 n ≡ false → n ≤ 1024
few_items n within = grind (arith, nat_tests)

found_within : (found : Option ℕ) (most : ℕ) → ((n : ℕ) → found ≡ Some n → n ≤ most) → unwrap_or found 0 ≤ most
found_within None most within = omega arith
found_within (Some n) most within = within n refl

amounts_within : (quantity : Quantity) (items : List Data) → All (λ amount. amount ≤ greatest quantity) (map (amount_or_zero quantity) items)
amounts_within quantity items =
    All-map (λ amount. amount ≤ greatest quantity) (amount_or_zero quantity) items
    (λ k item within. found_within (amount_in quantity (get_or items k item)) (greatest quantity) (quantity_within quantity _))

rates_within : (row : Data) (items : List Data) → All (λ value. value ≤ 1000000000000000) (map (amount_or_zero (quantity_of row)) items)
rates_within row items =
    elim (cases_Bool (is_some (get (codes "host") row))) [
      | inl host ↦ rw host (amounts_within Speed items)
      | inr other ↦ rw other (amounts_within Bandwidth items)
    ]

record AreDates (dates : List ℕ) : Type 0 where
  some : 1 ≤ length dates
  few : length dates ≤ 1024
  rising : IsStrictlyIncreasing dates

dates_kept : (items : List Data) → dates_kinds items ≡ [] → AreDates (map (amount_or_zero Time) items)
unfolding dates_kinds
dates_kept items empty =
    let rising = not_false _ (unbroken _ _ (empty_left _ _ empty)) in
    let n = length-map items (amount_or_zero Time) in
    record {
      some = omega (arith, n, some_dates items rising);
      few = omega (arith, n, few_items (length items) (unbroken _ _ (empty_right _ _ empty)));
      rising = dates_rise items rising;
    }

-- ---- one item for each date, and its gap
same_count : (m n : ℕ) (b : Bool) → (m == n && b) ≡ true → m ≡ n
same_count m n b same = grind (arith, nat_tests)

each_kept : (row : Data) (items : List Data) (fit : Bool) → each_date_kinds row items fit ≡ [] → length items ≡ length (items_at (codes "dates") row)
unfolding each_date_kinds
each_kept row items fit empty = same_count _ _ _ (not_false _ (unbroken _ _ (empty_left _ _ empty)))

gap_kept : (o : Option (List ℕ)) → ((text : List ℕ) → o ≡ Some text → (n : ℕ) × (quantity_value Time text ≡ Some n) × (1 ≤ n)) → IfSome (option_and_then (quantity_value Time) o) (λ gap. (1 ≤ gap) × (gap ≤ 1000000000000000000))
gap_kept None kept = tt
gap_kept (Some text) kept = let there = kept text refl in rw there.1 (there.2, quantity_within Time text there.0 there.1)

-- What tables of profiles share: a row with so many items, one for each date.
turns_kept : (names : Known) (counts : Counts) (number : ℕ) (row : Data) (of : Profiled) (count : ℕ) → IsProfiled counts of → count ≡ length (items_at (codes "dates") row)
    → key_kinds names number row (key (codes "dates") Required (rule.Texts texts_rule.DateList)) ≡ [] → key_kinds names number row (key (codes "loop") Optional (rule.Text (text_rule.PositiveValue Time))) ≡ []
    → HasDates counts of (amounts_at Time (codes "dates") row) count (option_and_then (quantity_value Time) (text_at (codes "loop") row))
turns_kept names counts number row of count exists each dates_fine loop_fine =
    let items = items_at (codes "dates") row in
    let dates = dates_kept items (required_items names number row (codes "dates") texts_rule.DateList dates_fine) in
    record {
      exists = exists;
      some = dates.some;
      few = dates.few;
      each = omega (arith, each, length-map items (amount_or_zero Time));
      rising = dates.rising;
      soon = amounts_within Time items;
      wide = gap_kept (text_at (codes "loop") row) (λ text there. positive_there (quantity_value Time text) (optional_text names number row (codes "loop") (text_rule.PositiveValue Time) loop_fine text there));
    }

pub profile_kept : (names : Known) (counts : Counts) → IsCounted names counts → (number : ℕ) (row : Data) → KeysKept names number row (keys_of Profile) → IsProfileRow counts (profile_row names row)
unfolding profile_row
profile_kept names counts counted number row kept =
    let values = items_at (codes "values") row in
    let of = subject_by names row (text_at (codes "host") row) in
    let rules : AreOfSubjects names number row names.profiled_hosts names.profiled_links text_rule.ProfiledHost text_rule.ProfiledLink = record { hosts = λ name. refl; links = λ name. refl } in
    let exists = of_kept names counts counted number row names.profiled_hosts names.profiled_links text_rule.ProfiledHost text_rule.ProfiledLink rules kept.0 kept.1.0 in
    let each = each_kept row values _ (required_items names number row (codes "values") texts_rule.ValueList kept.1.1.1.0) in
    record {
      dates = turns_kept names counts number row of (length (amounts_at (quantity_of row) (codes "values") row)) exists (length-map values (amount_or_zero (quantity_of row)) ∙ each) kept.1.1.0 kept.1.1.1.1.0;
      values = rates_within row values;
    }

pub state_profile_kept : (names : Known) (counts : Counts) → IsCounted names counts → (number : ℕ) (row : Data) → KeysKept names number row (keys_of StateProfile)
    → IsStateProfileRow counts (state_profile_row names row)
unfolding state_profile_row
state_profile_kept names counts counted number row kept =
    let states = items_at (codes "states") row in
    let of = subject_by names row (text_at (codes "host") row) in
    let rules : AreOfSubjects names number row names.switched_hosts names.switched_links text_rule.SwitchedHost text_rule.SwitchedLink = record { hosts = λ name. refl; links = λ name. refl } in
    let exists = of_kept names counts counted number row names.switched_hosts names.switched_links text_rule.SwitchedHost text_rule.SwitchedLink rules kept.0 kept.1.0 in
    let each = each_kept row states _ (required_items names number row (codes "states") texts_rule.StateList kept.1.1.1.0) in
    turns_kept names counts number row of (length (map (λ item. unwrap_or (state_in item) false) states)) exists (length-map states (λ item. unwrap_or (state_in item) false) ∙ each) kept.1.1.0 kept.1.1.1.1.0
