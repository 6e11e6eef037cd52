use Rattle.std.proofs.Common.{◌≡◌, ℕ, ◌<◌, None, Some, List, slice_get, length, get_or, sym, ap, subst, ◌∙◌, arith}
use Rattle.std.proofs.lemmas.List.{get_or_default}
use Rattle.sg_heap.specs.Agenda.{key}
use Rattle.sg_profile.specs.declared.turn.Turn.{Turn}
use Rattle.sg_profile.specs.Profiles.{IsNextEntry, Timetable, first_turn, next_date, next_row, turn_at}
use Rattle.sg_profile.specs.kept.Slots.{table_of}
use Rattle.sg_profile.proofs.Next.{IsFoundAt, next_entry, none_is_next, row_found}
use Rattle.sg_profile.proofs.Promises.{entries_exist}
use Rattle.sg_profile.proofs.profiles.Profiles.next.Goals as goal

found_at : (c : goal.After-entry_at) → IsFoundAt c.self.inside.profiles.items c.self.inside.turns.items c.in_ok-row.row c.in_ok-row.date c.index.result.now
found_at c =
    row_found c.self.inside.profiles.items c.self.inside.turns.items c.self.inside.agenda c.in_ok-row.row (key c.in_ok-row.date c.in_ok-row.field-0-2) c.index.result.now c.self.invariant c.in_ok-row.ensures.first c.index.ensures

-- the turn that was read
turn_is : (turns : List Turn) (row : ℕ) (turn : Turn) → row < length turns → turn ≡ get_or turns row turn → turn ≡ turn_at turns row
turn_is turns row turn within e = e ∙ get_or_default turns row turn first_turn within

pub entry_at-requires : goal.entry_at-requires
entry_at-requires c =
    let found = row_found c.self.inside.profiles.items c.self.inside.turns.items c.self.inside.agenda c.in_ok-row.row (key c.in_ok-row.date c.in_ok-row.field-0-2) c.index.result.now c.self.invariant c.in_ok-row.ensures.first c.index.ensures in
    let turn = turn_is c.self.inside.turns.items c.in_ok-row.row c.index-2.result.now found.turn_within c.index-2.ensures in
    omega (arith, found.entry_within, ap (λ (t : Turn). t.entry) turn)

pub returns-clause-next : goal.returns-clause-next
returns-clause-next c =
    let turn = turn_is c.self.inside.turns.items c.in_ok-row.row c.index-2.result.now (found_at c).turn_within c.index-2.ensures in
    let entry : slice_get c.index.result.now.entries (turn_at c.self.inside.turns.items c.in_ok-row.row).entry ≡ Some c.entry_at.result =
    ap (λ (t : Turn). slice_get c.index.result.now.entries t.entry) (sym turn) ∙ c.entry_at.ensures in
    subst (λ (table : Timetable). IsNextEntry table c.in_ok-row.date c.entry_at.result) c.self.view_is
    (next_entry c.self.inside.profiles.items c.self.inside.turns.items c.in_ok-row.row c.in_ok-row.date c.index.result.now c.entry_at.result (found_at c) entry)

pub returns-clause-exists : goal.returns-clause-exists
returns-clause-exists c hosts links are =
    let table = c.args.self.now in
    entries_exist hosts links table.profiles table.turns (next_row table.profiles table.turns) c.entry_at.result are (returns-clause-next c).entry_is

pub returns-in_err-row-clause-next : goal.returns-in_err-row-clause-next
returns-in_err-row-clause-next c =
    rw c.from_residual.ensures
    (subst (λ (table : Timetable). next_date table.profiles table.turns ≡ None) c.self.view_is
    (none_is_next (table_of c.self.inside.profiles.items c.self.inside.turns.items) c.self.inside.agenda c.self.invariant c.in_err-row.ensures.none))
