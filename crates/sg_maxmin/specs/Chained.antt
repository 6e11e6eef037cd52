-- What contracts see of `Chains`.
use Rattle.std.specs.Prelude.{◌≡◌, ℕ, ◌+◌, ◌≤◌, ◌==◌, if◌then◌else◌, Option, List, [], slice_index_or, count_by, refl}
use Rattle.std.specs.Coded.{Coded, code_by, coded×, coded_ℕ, coded_list, coded_option}
use Rattle.sg_maxmin.specs.declared.uses.Use.{Use}

-- the use or nothing under each number, the flows on each resource, and room for so many more uses
pub record Chained : Type 0 where
  pub uses : List (Option Use)
  pub users : List (List ℕ)
  pub room : ℕ

abbrev pub use_code : Coded Use
use_code = code_by (ℕ × (ℕ × (Option ℕ × Option ℕ))) (coded× coded_ℕ (coded× coded_ℕ (coded× (coded_option coded_ℕ) (coded_option coded_ℕ)))) (λ u. (u.flow, (u.resource, (u.next_of_flow, u.next_on)))) (λ p. record { flow = p.0; resource = p.1.0; next_of_flow = p.1.1.0; next_on = p.1.1.1 }) (λ _. refl)

abbrev pub chained_code : Coded Chained
chained_code = code_by (List (Option Use) × (List (List ℕ) × ℕ)) (coded× (coded_list (coded_option use_code)) (coded× (coded_list (coded_list coded_ℕ)) coded_ℕ)) (λ c. (c.uses, (c.users, c.room))) (λ p. record { uses = p.0; users = p.1.0; room = p.1.1 }) (λ _. refl)

-- only the room changes, and it doesn't shrink
pub record GainsRoom (old new : Chained) : Type 0 where
  pub grows : old.room ≤ new.room
  pub kept : new ≡ record old { room = new.room }

-- the flows on a resource, in the order in which `next_on` leads to them
abbrev pub users_on : List (List ℕ) → ℕ → List ℕ
users_on users resource = slice_index_or users resource []

-- how often a number stands in a list
abbrev pub times : ℕ → List ℕ → ℕ
times number list = count_by (λ other. other == number) list

-- on each resource the flow stands as many more times as the resource stands in the list, and each other flow as often as before
abbrev pub GainsUses : List (List ℕ) → List (List ℕ) → ℕ → List ℕ → Type 0
GainsUses fewer more flow uses = (other resource : ℕ) → times other (users_on more resource) ≡ times other (users_on fewer resource) + (if other == flow then times resource uses else 0)
