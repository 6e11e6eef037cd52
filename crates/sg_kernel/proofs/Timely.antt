-- Profiles, as the date moves.
use Rattle.std.proofs.Common.{◌≡◌, ◌≢◌, ℕ, ◌<◌, ◌≤◌, Option, None, Some, [], sym, subst, arith}
use Rattle.std.specs.Option.{IfSome}
use Rattle.sg_profile.specs.Ahead.{IsNear}
use Rattle.sg_profile.specs.Profiles.{next_date}
use Rattle.sg_profile.proofs.Ahead.{next_is_near, none_is_before, ahead_moves}
use Rattle.sg_kernel_calls.specs.declared.simulation_state.Fields.{Fields}
use Rattle.sg_kernel.specs.kept.Coming.{rows_now}
use Rattle.sg_kernel_calls.specs.kept.Sound.{IsTimely}
use Rattle.sg_kernel_calls.proofs.Timely.{IsTimelyAt}

-- the date of the next entry
abbrev pub next_entry : Fields → Option ℕ
next_entry fields = next_date fields.profiles.profiles fields.profiles.turns

pub entry_near : (fields : Fields) (next : ℕ) → IsTimely fields → next_entry fields ≡ Some next → IsNear fields.doing.under.date next
entry_near fields next was is =
    let date = fields.doing.under.date in
    subst (λ o. IfSome o (IsNear date)) is (next_is_near date fields.profiles.profiles fields.profiles.turns was.ahead)

-- ---- no row is of the date
pub none_left : (fields : Fields) → next_entry fields ≡ None → rows_now fields ≡ []
none_left fields none =
    let date = fields.doing.under.date in
    none_is_before date fields.profiles.profiles fields.profiles.turns (subst (λ o. IfSome o (λ next. date < next)) (sym none) tt)

pub none_now : (fields : Fields) (next : ℕ) → IsTimely fields → next_entry fields ≡ Some next → next ≢ fields.doing.under.date → rows_now fields ≡ []
none_now fields next was is apart =
    let date = fields.doing.under.date in
    let near = entry_near fields next was is in
    let less : date < next = omega (arith, near.from, apart) in
    none_is_before date fields.profiles.profiles fields.profiles.turns (subst (λ o. IfSome o (λ next. date < next)) (sym is) less)

-- the date moves, no further than to the next entry
pub timely_moved : (fields : Fields) (to : ℕ) → IsTimely fields → fields.doing.under.date ≤ to → IfSome (next_entry fields) (λ next. to ≤ next) → IsTimelyAt fields to
timely_moved fields to was from before = record {
  profiles = was.profiles;
  ahead = ahead_moves fields.doing.under.date to fields.profiles.profiles fields.profiles.turns was.ahead from before;
}
