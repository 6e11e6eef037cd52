use Rattle.std.proofs.Common.{◌≡◌, ℕ, ◌<◌, ◌^◌, Option, None, IsSomeAnd, List, sym, ap, ap₂, subst, ◌∙◌}
use Rattle.std.proofs.lemmas.List.{with_items_is}
use Rattle.sg_heap.specs.Agenda.{key}
use Rattle.sg_profile.specs.declared.profile.Profile.{Profile}
use Rattle.sg_profile.specs.declared.turn.Turn.{Turn}
use Rattle.sg_profile.specs.Profiles.{Timetable, next_entry_date, next_date, past_next, profile_at, turns_after_row, turn_at}
use Rattle.sg_profile.specs.kept.Slots.{table_of}
use Rattle.sg_profile.proofs.Next.{least_is_next, none_is_next}
use Rattle.sg_profile.proofs.profiles.Profiles.step.Goals as goal

abbrev IsEarly : ℕ → Type 0
IsEarly date = date < 10 ^ 33

pub step_row-requires-clause-date : goal.step_row-requires-clause-date
step_row-requires-clause-date c =
    let profiles = c.self.inside.profiles.items in
    let turns = c.self.inside.turns.items in
    let next = least_is_next (table_of profiles turns) c.self.inside.agenda c.in-Some.row (key c.in-Some.field-0-1 c.in-Some.field-0-2) c.self.invariant c.in-Some.ensures.first in
    let early : IsSomeAnd (next_date profiles turns) IsEarly = subst (λ (table : Timetable). IsSomeAnd (next_date table.profiles table.turns) IsEarly) (sym c.self.view_is) c.requires in
    let same : next_entry_date (profile_at c.as_slice.result.now c.in-Some.row) (turn_at c.as_mut_slice.result.now c.in-Some.row) ≡ next_date profiles turns =
    ap₂ (λ (ps : List Profile) (ts : List Turn). next_entry_date (profile_at ps c.in-Some.row) (turn_at ts c.in-Some.row)) c.as_slice.ensures.value c.as_mut_slice.ensures.value ∙ next.dated ∙ sym next.date_is in
    subst (λ (o : Option ℕ). IsSomeAnd o IsEarly) (sym same) early

pub returns-in-Some : goal.returns-in-Some
returns-in-Some c =
    let profiles = c.self.inside.profiles.items in
    let turns = c.self.inside.turns.items in
    let next = least_is_next (table_of profiles turns) c.self.inside.agenda c.in-Some.row (key c.in-Some.field-0-1 c.in-Some.field-0-2) c.self.invariant c.in-Some.ensures.first in
    let now : c.step_row.new.turns ≡ turns_after_row profiles c.in-Some.row turns =
    c.step_row.ensures.turns ∙ ap₂ (λ (ps : List Profile) (ts : List Turn). turns_after_row ps c.in-Some.row ts) c.as_slice.ensures.value c.as_mut_slice.ensures.value in
    let written = with_items_is c.self.inside.turns c.step_row.new.turns (c.step_row.auto.turns ∙ c.as_mut_slice.ensures.len) in
    ap (λ (ts : List Turn). table_of profiles ts) (written ∙ now ∙ ap (λ (row : ℕ). turns_after_row profiles row turns) (sym next.row_is)) ∙ ap past_next c.self.view_is

pub returns-in_default : goal.returns-in_default
returns-in_default c =
    let none = none_is_next (table_of c.self.inside.profiles.items c.self.inside.turns.items) c.self.inside.agenda c.self.invariant c.in_default.ensures.none in
    let never = subst (λ (table : Timetable). next_date table.profiles table.turns ≡ None) c.self.view_is none in
    absurd (subst (λ (o : Option ℕ). IsSomeAnd o IsEarly) never c.requires)
