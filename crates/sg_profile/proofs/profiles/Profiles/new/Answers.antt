use Rattle.std.proofs.Common.{◌≡◌, All, length, map, sym, ap, ap₂, subst, ◌∙◌, arith}
use Rattle.std.proofs.lemmas.List.{length-append, length-map}
use Rattle.std.proofs.lemmas.Result.{IfOk-weaker}
use Rattle.sg_platform_rows.specs.Platform.{counts_of}
use Rattle.sg_profile.specs.Profiles.{AreProfiles, IsSchedule, Timetable, first_table, profile_of, profiles_in, state_profile_of}
use Rattle.sg_profile.proofs.Cases.{profiles_of}
use Rattle.sg_profile.proofs.Promises.{platforms_promise}
use Rattle.sg_profile.proofs.profiles.Profiles.new.Goals as goal

pub with_profiles-requires-clause-few : goal.with_profiles-requires-clause-few
with_profiles-requires-clause-few c =
    let is : c.in_ok-profiles.profiles.items ≡ profiles_in c.args.platform.now = c.in_ok-profiles.ensures ∙ ap₂ profiles_of c.profiles.ensures.rows c.state_profiles.ensures.rows in
    let platform = c.args.platform.now in
    let rows = length-map platform.profiles profile_of in
    let states = length-map platform.state_profiles state_profile_of in
    let both = length-append (map profile_of platform.profiles) (map state_profile_of platform.state_profiles) in
    let n : length c.in_ok-profiles.profiles.items ≡ length (profiles_in platform) = ap length is in
    omega (arith, n, both, rows, states, c.rows_are_valid.ensures.few_profiles, c.rows_are_valid.ensures.few_state_profiles)

pub with_profiles-requires-clause-schedules : goal.with_profiles-requires-clause-schedules
with_profiles-requires-clause-schedules c =
    let is : c.in_ok-profiles.profiles.items ≡ profiles_in c.args.platform.now = c.in_ok-profiles.ensures ∙ ap₂ profiles_of c.profiles.ensures.rows c.state_profiles.ensures.rows in
    subst (All IsSchedule) (sym is)
    (λ row d within. (platforms_promise c.args.platform.now c.rows_are_valid.ensures row d within).schedule)

pub returns-clause-kept : goal.returns-clause-kept
returns-clause-kept c =
    let is : c.in_ok-profiles.profiles.items ≡ profiles_in c.args.platform.now = c.in_ok-profiles.ensures ∙ ap₂ profiles_of c.profiles.ensures.rows c.state_profiles.ensures.rows in
    let counts = counts_of c.args.platform.now in
    let profiles = c.in_ok-profiles.profiles.items in
    let kept = subst (AreProfiles counts.hosts counts.links) (sym is) (platforms_promise c.args.platform.now c.rows_are_valid.ensures) in
    IfOk-weaker c.with_profiles.result (λ table. table ≡ first_table profiles) (λ table. AreProfiles counts.hosts counts.links table.profiles)
    (λ table e. subst (λ (t : Timetable). AreProfiles counts.hosts counts.links t.profiles) (sym e) kept) c.with_profiles.ensures
