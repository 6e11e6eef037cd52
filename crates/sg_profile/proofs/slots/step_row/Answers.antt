use Rattle.std.proofs.Common.{◌≡◌, ℕ, ◌*◌, ◌<◌, ◌^◌, Option, set, sym, ap, ap₂, subst, ◌∙◌, arith}
use Rattle.sg_profile.specs.declared.turn.Turn.{Turn}
use Rattle.sg_profile.specs.declared.profile.Profile.{Profile}
use Rattle.sg_profile.specs.Profiles.{next_entry_date, profile_at, turn_after, turn_at, turn_time}
use Rattle.sg_profile.specs.kept.Slots.{IsKept, key_by, table_of}
use Rattle.sg_profile.proofs.Next.{profile_is}
use Rattle.sg_profile.proofs.Stepping.{after_small, some_and, step_kept}
use Rattle.sg_profile.proofs.slots.step_row.Goals as goal

pub date_of-requires-clause-small : goal.date_of-requires-clause-small
date_of-requires-clause-small c =
    let profiles = c.args.profiles.now in
    let row = c.args.row in
    let profile = profile_at profiles row in
    let turn = turn_at c.args.turns.now row in
    let before = profile_is profiles row c.index-profiles-row.result c.requires.row c.index-profiles-row.is in
    let behind = profile_is profiles row c.index-profiles-row-2.result c.requires.row c.index-profiles-row-2.is in
    let at = some_and (next_entry_date profile turn) (λ date. date < 10 ^ 33) c.requires.date in
    let small = after_small profile turn at.0 (c.requires.kept.schedules row _ c.requires.row) at.1 at.2 in
    let number : c.turn_after-turn.result.number ≡ (turn_after profile turn).number = ap (λ (t : Turn). t.number) (c.turn_after-turn.ensures ∙ ap (λ (p : Profile). turn_after p turn) (sym before)) in
    let time : turn_time c.index-profiles-row-2.result ≡ turn_time profile = ap turn_time (sym behind) in
    omega (arith, ap₂ ◌*◌ number time, small)

pub returns-clause-kept : goal.returns-clause-kept
returns-clause-kept c =
    let profiles = c.args.profiles.now in
    let row = c.args.row in
    let turn = c.turn_after-turn.result in
    let profile = profile_at profiles row in
    let is = profile_is profiles row c.index-profiles-row-2.result c.requires.row c.index-profiles-row-2.is in
    let date : c.date_of.result ≡ next_entry_date profile turn = c.date_of.ensures ∙ ap (λ (p : Profile). next_entry_date p turn) (sym is) in
    let now : c.enter.new.agenda ≡ set c.args.agenda.now row (key_by row (next_entry_date profile turn)) = c.enter.ensures ∙ ap (λ (o : Option ℕ). set c.args.agenda.now row (key_by row o)) date in
    subst (IsKept (table_of profiles (set c.args.turns.now row turn))) (sym now)
    (step_kept (table_of profiles c.args.turns.now) c.args.agenda.now row turn c.requires.kept c.requires.row)
