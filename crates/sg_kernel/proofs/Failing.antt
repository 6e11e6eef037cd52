-- An activity that uses something that is off fails.
use Rattle.std.proofs.Common.{◌≡◌, ◌≢◌, ℕ, ◌-◌, true≢false, None, Some, length, set, get_or, sym, ap, subst, ◌∙◌, arith}
use Rattle.std.specs.List.{All}
use Rattle.std.proofs.lemmas.List.{length-set}
use Rattle.std.proofs.lemmas.List.Elements.{All-set}
use Rattle.sg_activity.specs.Doing.{Doing, IsHit, gave_up}
use Rattle.sg_activity.specs.Task.{Task, task_at}
use Rattle.sg_kernel_calls.specs.declared.simulation_state.Fields.{Fields}
use Rattle.sg_mailbox.specs.declared.owners.How.TheVariants as how
use Rattle.sg_mailbox.specs.declared.owners.Whose.{Whose}
use Rattle.sg_mailbox.specs.declared.owners.Whose.TheVariants.{Over}
use Rattle.sg_kernel_calls.specs.World.{extent}
use Rattle.sg_mailbox.specs.Owners.{Owned}
use Rattle.sg_kernel_calls.specs.kept.Sound.{is_idle, AreMeeting, IsOwner}
use Rattle.sg_kernel_calls.specs.kept.Whole.{IsPassing}
use Rattle.sg_kernel_calls.proofs.Begins.{held_with, sound_with}
use Rattle.sg_kernel_calls.proofs.PostsKept.{meeting_gone, under_way}
use Rattle.sg_kernel_calls.proofs.Timely.{IsTimelyAt}

-- what is running hasn't ended
pub not_over : (fields : Fields) (serial : ℕ) (task : Task) → task_at fields.doing.under.tasks serial ≡ Some task → AreMeeting fields → get_or fields.whose.whose (serial - 1) (Over how.Done) ≢ Over how.Done
not_over fields serial task at meeting over = true≢false (sym (ap is_idle over) ∙ under_way fields.whose.whose fields.doing.under.tasks (serial - 1) task meeting.idle at)

pub failed_owner : (fields : Fields) (serial : ℕ) (whose : Whose) → whose ≡ get_or fields.whose.whose (serial - 1) (Over how.Done) → IsHit fields.doing serial → IsPassing fields → IsOwner (extent fields.setup) whose
failed_owner fields serial whose is hit passing =
    subst (IsOwner (extent fields.setup)) (sym is) (passing.limited (serial - 1) (Over how.Done) (omega (arith, hit.from, hit.to, passing.sound.numbered)))

-- all that holds in a time advance still holds
pub failed_passing : (fields : Fields) (serial : ℕ) (whose : Owned) (doing : Doing) → IsHit fields.doing serial → whose ≡ record fields.whose { whose = set fields.whose.whose (serial - 1) (Over how.Failed) } → doing ≡ gave_up serial fields.doing →
    IsPassing fields → IsPassing (record fields { whose = whose; doing = doing })
failed_passing fields serial whose doing hit owned gone was =
    let owners = ap (λ (o : Owned). o.whose) owned in
    let tasks = ap (λ (d : Doing). d.under.tasks) gone in
    let long = ap length tasks ∙ length-set fields.doing.under.tasks (serial - 1) None in
    let many = ap length owners ∙ length-set fields.whose.whose (serial - 1) (Over how.Failed) in
    let e = extent fields.setup in
    record {
      sound = sound_with fields doing whose fields.boxes (many ∙ was.sound.numbered ∙ sym long) (omega (arith, was.sound.few, long)) (ap (λ (d : Doing). d.under.capacities) gone) was.sound;
      roomy = record {
        starts = omega (arith, was.roomy.starts, ap (λ (d : Doing). d.room) gone);
        owners = omega (arith, was.roomy.owners, ap (λ (o : Owned). o.room) owned);
        mailboxes = was.roomy.mailboxes;
        requests = was.roomy.requests;
      };
      timely = subst (IsTimelyAt fields) (sym (ap (λ (d : Doing). d.under.date) gone)) was.timely;
      limited = subst (All (IsOwner e)) (sym owners) (All-set (IsOwner e) fields.whose.whose (serial - 1) (Over how.Failed) tt was.limited);
      meeting = meeting_gone fields whose doing how.Failed (serial - 1) hit.task hit.at owners tasks was.meeting;
      held = held_with fields doing whose fields.boxes was.held;
      passing = was.passing;
      small = omega (arith, was.small, ap (λ (d : Doing). d.under.date) gone);
    }
