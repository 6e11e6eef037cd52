-- The names of a deployment's actors stand for them in a script.
use Rattle.std.proofs.Common.{◌≡◌, ◌<◌, ◌+◌, ◌-◌, ◌∙◌, ◌==◌, ◌&&◌, ap, sym, refl, subst, ℕ, zero, suc, Bool, true, false, cond, if◌then◌else◌, not, List, [], ◌∷◌, ◌++◌, length, All, Option, None, Some, option_map, inl, inr, arith, ne_eqb, leb-true, nat_le}
use Rattle.std.specs.List.{list_all, slice_get}
use Rattle.std.specs.Map.{lookup}
use Rattle.std.specs.Prelude.{IsTrue, slice_index}
use Rattle.std.specs.Str.{bytes_eq}
use Rattle.std.proofs.lemmas.Bool.{and_parts, cases_Bool, eqb-false, not-true}
use Rattle.std.proofs.lemmas.Bool.Decides.{nat_tests}
use Rattle.std.proofs.lemmas.List.Elements.{All-head, All-tail, All-weaker}
use Rattle.std.proofs.lemmas.List.Sums.{AllPass-from_list_all}
use Rattle.std.proofs.lemmas.Option.{same_Some}
use Rattle.std.proofs.lemmas.Slice.Eq.{bytes_eq-Decides}
use Rattle.sg_base.specs.declared.ids.ActorId.{ActorId}
use Rattle.sg_platform_rows.specs.Deployment.{Deployed, extent_of, is_replay, members_among, replay_actor_named, replay_names}
use Rattle.sg_platform_rows.specs.Index.{number_by}
use Rattle.sg_platform_rows.specs.kept.Finds.{numbered_names}
use Rattle.sg_platform_rows.specs.declared.rows.ActorRow.{ActorRow}
use Rattle.sg_platform_rows.specs.declared.rows.Function.{Function}
use Rattle.sg_platform_rows.specs.declared.rows.Function.TheVariants.{Replay, Worker, Master, Churn}
use Rattle.sg_platform_rows.proofs.MemberIds.{members_exist}
use Rattle.sg_script.specs.Known.{known_in}
use Rattle.sg_toml_tree.specs.Along.{along}
use Rattle.sg_toml_tree.specs.NameSpaces.{with_number}
use Rattle.sg_toml_tree.specs.Spelling.{is_name, is_name_byte}
use Rattle.sg_collective_laws.specs.Expanded.{HasNames, name_of, row_name}
use Rattle.sg_collective_laws.proofs.Kept.{IsKnown}
use Rattle.sg_collective_laws.proofs.Reading.{AreNamed, IsNamed}
use Rattle.sg_collective_laws.proofs.Texts.{IsWord, is_word_byte}

-- ---- spelling
byte_in_word : (b : ℕ) → is_name_byte b ≡ true → is_word_byte b ≡ true
byte_in_word b is = grind (arith, nat_tests)

name_bytes : (text : List ℕ) → list_all is_name_byte text ≡ true → All (λ b. is_word_byte b ≡ true) text
name_bytes text all = All-weaker (λ b. is_name_byte b ≡ true) (λ b. is_word_byte b ≡ true) byte_in_word text (AllPass-from_list_all is_name_byte text all)

name_is_word : (text : List ℕ) → is_name text ≡ true → IsWord text
unfolding is_name
name_is_word text is =
    let both = and_parts (not (length text == 0) && nat_le (length text) 64) (list_all is_name_byte text) is in
    let lengths = and_parts (not (length text == 0)) (nat_le (length text) 64) both.0 in
    let some : length text ≡ 0 → ⊥ = eqb-false (length text) 0 (not-true (length text == 0) lengths.0) in
    record { some = positive (length text) some; short = leb-true (length text) 64 lengths.1; bytes = name_bytes text both.1 }
  where
    positive : (n : ℕ) → (n ≡ 0 → ⊥) → 0 < n
    positive zero isnt = absurd (isnt refl)
    positive (suc n) isnt = omega arith

name_is_clear : (text : List ℕ) → is_name text ≡ true → (slice_index text 0 == 35) ≡ false
unfolding is_name
name_is_clear [] is = refl
name_is_clear (b ∷ text) is =
    let all = (and_parts (not (length (b ∷ text) == 0) && nat_le (length (b ∷ text)) 64) (list_all is_name_byte (b ∷ text)) is).1 in
    let first : is_name_byte b ≡ true = (and_parts (is_name_byte b) (list_all is_name_byte text) all).0 in
    ne_eqb b 35 (λ e. let bad : false ≡ true = subst (λ (x : ℕ). is_name_byte x ≡ true) e first in absurd (cc bad))

-- ---- the row that a name finds
record Found (text : List ℕ) (rows : List ActorRow) (first found : ℕ) : Type 0 where
  place : ℕ
  is : found ≡ first + place
  row : ActorRow
  at : slice_get rows place ≡ Some row
  name : row.name ≡ text

further : (text : List ℕ) (row : ActorRow) (rows : List ActorRow) (first found : ℕ) → Found text rows (first + 1) found → Found text (row ∷ rows) first found
further text row rows first found there = record {
  place = suc there.place;
  is = omega (arith, there.is);
  row = there.row;
  at = there.at;
  name = there.name;
}

at_function : (text : List ℕ) (row : ActorRow) (rows : List ActorRow) (first found : ℕ) →
    (lookup (bytes_eq text) (along (numbered_names replay_names) (first + 1) rows) ≡ Some found → Found text rows (first + 1) found) → (function : Function) →
    lookup (bytes_eq text) (with_number first (if is_replay function then row.name ∷ [] else []) ++ along (numbered_names replay_names) (first + 1) rows) ≡ Some found → Found text (row ∷ rows) first found
at_function text row rows first found behind Replay e = elim (cases_Bool (bytes_eq text row.name)) [
  | inl is ↦
      let same : first ≡ found = same_Some first found (sym (ap (λ (b : Bool). cond b (Some first) (lookup (bytes_eq text) (along (numbered_names replay_names) (first + 1) rows))) is) ∙ e) in
      record { place = 0; is = omega arith; row = row; at = refl; name = sym ((bytes_eq-Decides text row.name).0 is) }
  | inr isnt ↦
      further text row rows first found
      (behind (sym (ap (λ (b : Bool). cond b (Some first) (lookup (bytes_eq text) (along (numbered_names replay_names) (first + 1) rows))) isnt) ∙ e))
]
at_function text row rows first found behind Worker e = further text row rows first found (behind e)
at_function text row rows first found behind (Master tasks flops bytes workers) e = further text row rows first found (behind e)
at_function text row rows first found behind (Churn seed next prev steps) e = further text row rows first found (behind e)

found_row : (text : List ℕ) (rows : List ActorRow) (first found : ℕ) → lookup (bytes_eq text) (along (numbered_names replay_names) first rows) ≡ Some found → Found text rows first found
found_row text [] first found e = absurd (cc e)
found_row text (row ∷ rows) first found e = at_function text row rows first found (λ e'. found_row text rows (first + 1) found e') row.function e

holds_at : (P : ActorRow → Type 0) (rows : List ActorRow) (place : ℕ) (row : ActorRow) → All P rows → slice_get rows place ≡ Some row → P row
holds_at P [] place row all at = absurd (cc at)
holds_at P (first ∷ rows) zero row all at = subst P (same_Some first row at) (All-head P first rows all)
holds_at P (first ∷ rows) (suc place) row all at = holds_at P rows place row (All-tail P first rows all) at

-- ---- a deployment's names
name_there : (rows : List ActorRow) (number place : ℕ) (row : ActorRow) (text : List ℕ) → number ≡ place → slice_get rows place ≡ Some row → row.name ≡ text →
    row_name (slice_get rows number) ≡ text
name_there rows number place row text same at named = ap (λ (n : ℕ). row_name (slice_get rows n)) same ∙ ap row_name at ∙ named

named_by : (deployed : Deployed) → HasNames deployed → (text : List ℕ) (actor : ActorId) (found : Option ℕ) → number_by replay_names deployed.actors text ≡ found →
    option_map (λ row. record { 0 = row + 1 }) found ≡ Some actor → IsNamed (known_in deployed) (name_of deployed actor) actor
named_by deployed has text actor None finds e = absurd (cc e)
named_by deployed has text actor (Some number) finds e =
    let there : Found text deployed.actors 0 number = found_row text deployed.actors 0 number finds in
    let numbered : number + 1 ≡ actor.0 = ap (λ (a : ActorId). a.0) (same_Some (record { 0 = number + 1 }) actor e) in
    let place : actor.0 - 1 ≡ there.place = omega (arith, there.is) in
    let name : name_of deployed actor ≡ text = name_there deployed.actors (actor.0 - 1) there.place there.row text place there.at there.name in
    let spelled : is_name text ≡ true = subst (λ (t : List ℕ). is_name t ≡ true) there.name (holds_at (λ row. IsTrue (is_name row.name)) deployed.actors there.place there.row has.spelled there.at) in
    let means : replay_actor_named deployed text ≡ Some actor = ap (option_map (λ row. record { 0 = row + 1 })) finds ∙ e in
    subst (λ (t : List ℕ). IsNamed (known_in deployed) t actor) (sym name)
    (record { word = name_is_word text spelled; clear = name_is_clear text spelled; means = means })

pub are_named : (deployed : Deployed) → HasNames deployed → AreNamed (known_in deployed) (name_of deployed)
are_named deployed has = record {
  named = λ actor known. named_by deployed has known.0 actor (number_by replay_names deployed.actors known.0) refl known.1;
  members = All-weaker (λ member. replay_actor_named deployed (name_of deployed member) ≡ Some member) (IsKnown (known_in deployed))
      (λ member is. (name_of deployed member, is)) (members_among deployed.actors) has.own;
  extent = extent_of deployed;
  exist = members_exist deployed;
}
