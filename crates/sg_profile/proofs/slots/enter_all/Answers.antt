use Rattle.std.proofs.Common.{◌≡◌, ℕ, Option, None, List, length, get_or, set, ap, ◌∙◌, arith}
use Rattle.std.proofs.lemmas.List.{length-replicate, length-set}
use Rattle.sg_heap.specs.Agenda.{Key, key_at}
use Rattle.sg_profile.specs.Profiles.{dates_of, first_turn}
use Rattle.sg_profile.specs.kept.Slots.{key_by}
use Rattle.sg_profile.proofs.Next.{row_date, schedule_of}
use Rattle.sg_profile.proofs.Stepping.{all_keys, keys_more}
use Rattle.sg_profile.proofs.slots.enter_all.Goals as goal

pub date_of-requires-clause-schedule : goal.date_of-requires-clause-schedule
date_of-requires-clause-schedule c =
    schedule_of c.args.profiles.now c.loop-row.row c.index-profiles-row.result c.requires.schedules (omega arith) c.index-profiles-row.is

pub loop-row-preserved : goal.loop-row-preserved
loop-row-preserved c =
    let profiles = c.args.profiles.now in
    let turns = c.args.turns.now in
    let row = c.loop-row.row in
    let keys = c.loop-row.agenda in
    let dates = dates_of profiles turns in
    let same : length turns ≡ length profiles = ap length c.requires.first ∙ length-replicate (length profiles) first_turn in
    let date : c.date_of.result ≡ get_or dates row None = row_date profiles turns row c.index-profiles-row.result c.date_of.result same (omega arith) c.index-profiles-row.is c.date_of.ensures in
    let now : c.enter.new.agenda ≡ set keys row (key_by row (get_or dates row None)) = c.enter.ensures ∙ ap (λ (o : Option ℕ). set keys row (key_by row o)) date in
    record {
      slots = ap length now ∙ length-set keys row (key_by row (get_or dates row None)) ∙ c.loop-row.invariant.slots;
      keys = λ i less. ap (λ (l : List (Option Key)). key_at l i) now ∙ keys_more dates keys row (omega (arith, c.loop-row.invariant.slots)) c.loop-row.invariant.keys i less;
    }

pub returns-clause-keys : goal.returns-clause-keys
returns-clause-keys c =
    let profiles = c.args.profiles.now in
    all_keys profiles c.args.turns.now c.loop-row.agenda (ap length c.requires.first ∙ length-replicate (length profiles) first_turn) c.loop-row.invariant.slots
    (λ row within. c.loop-row.invariant.keys row (omega (arith, within)))
