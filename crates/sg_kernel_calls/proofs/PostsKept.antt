-- Mailboxes and requests, as activities begin and end that are in no mailbox.
use Rattle.std.proofs.Common.{◌≡◌, ◌≢◌, ℕ, Bool, true, false, true≢false, IsTrue, Option, None, Some, List, [], ◌∷◌, ◌++◌, length, set, get_or, inl, inr, refl, sym, subst, ap, ◌∙◌, arith}
use Rattle.std.specs.Prelude.{All}
use Rattle.std.proofs.lemmas.Bool.{cases_eq, cases_lt}
use Rattle.std.proofs.lemmas.List.{append-nil, get_or-set_same, get_or-set_other, get_or_past, length-set, length-append}
use Rattle.sg_base.specs.declared.ids.ActorId.{ActorId}
use Rattle.sg_activity.specs.Doing.{Doing}
use Rattle.sg_activity.specs.Task.{Task, next_phase}
use Rattle.sg_activity_table.specs.declared.kinds.PhaseKind.{PhaseKind}
use Rattle.sg_activity_table.specs.declared.kinds.PhaseKind.TheVariants as phase
use Rattle.sg_base.specs.declared.awaits.Await.{Await}
use Rattle.sg_kernel_calls.specs.declared.simulation_state.Fields.{Fields}
use Rattle.sg_mailbox.specs.declared.owners.How.{How}
use Rattle.sg_mailbox.specs.declared.owners.How.TheVariants as how
use Rattle.sg_mailbox.specs.declared.owners.Whose.{Whose}
use Rattle.sg_mailbox.specs.declared.owners.Whose.TheVariants.{Over, Alone, Posted, Pair}
use Rattle.sg_kernel_calls.specs.Meetings.{posts_from}
use Rattle.sg_mailbox.specs.Owners.{Owned}
use Rattle.sg_kernel_calls.specs.kept.Sound.{is_idle, is_posted, IsMade, AreMeeting}
use Rattle.sg_kernel_calls.proofs.Meets.{AreBusy, AreIdle, busy_gone, busy_more, idle_more}
use Rattle.sg_kernel_calls.proofs.Stated.{awaiting_more, AreAwaiting}
use Rattle.sg_kernel_calls.proofs.Postings.{posts-push, posts_kept}

posted_idle : (w : Whose) → IsTrue (is_posted w) → IsTrue (is_idle w)
posted_idle (Over before) e = refl
posted_idle (Alone actor) e = e
posted_idle (Posted mailbox sends side) e = refl
posted_idle (Pair sender receiver) e = e

-- what is running is neither posted nor ended
pub under_way : (whose : List Whose) (tasks : List (Option Task)) (place : ℕ) (task : Task) → AreIdle whose tasks → get_or tasks place None ≡ Some task → is_idle (get_or whose place (Over how.Done)) ≡ false
under_way whose tasks place task idle at = cases (is_idle (get_or whose place (Over how.Done))) (idle place)
  where
    cases : (b : Bool) → (IsTrue b → get_or tasks place None ≡ None) → b ≡ false
    cases true none = absurd (cc (at, none refl))
    cases false none = refl

unposted : (w : Whose) → is_idle w ≡ false → is_posted w ≡ false
unposted w e = cases (is_posted w) (posted_idle w)
  where
    cases : (b : Bool) → (IsTrue b → IsTrue (is_idle w)) → b ≡ false
    cases true idle = absurd (true≢false (sym (idle refl) ∙ e))
    cases false idle = refl

-- ---- an activity ends
none_there : (tasks : List (Option Task)) (place : ℕ) → get_or (set tasks place None) place None ≡ None
none_there tasks place = elim (cases_lt place (length tasks)) [
  | inl less ↦ get_or-set_same tasks place None None less
  | inr past ↦ get_or_past (set tasks place None) place None (omega (arith, past, length-set tasks place None))
]

idle_gone : (whose : List Whose) (tasks : List (Option Task)) (place : ℕ) (over : How) → AreIdle whose tasks → AreIdle (set whose place (Over over)) (set tasks place None)
idle_gone whose tasks place over idle other posted = elim (cases_eq other place) [
  | inl same ↦ ap (λ k. get_or (set tasks place None) k None) same ∙ none_there tasks place
  | inr apart ↦ get_or-set_other tasks place other None None apart ∙ idle other (subst (λ w. IsTrue (is_idle w)) (get_or-set_other whose place other (Over over) (Over how.Done) apart) posted)
]

-- nothing follows a phase except a latency
pub last_phase : (task : Task) → task.kind ≢ phase.Latency → next_phase task.kind task ≡ None
last_phase task last = cases task.kind last
  where
    cases : (kind : PhaseKind) → kind ≢ phase.Latency → next_phase kind task ≡ None
    cases phase.Latency isnt = absurd (isnt refl)
    cases phase.Flow isnt = refl
    cases phase.Exec isnt = refl
    cases phase.Timer isnt = refl
    cases phase.Kept isnt = refl

-- what was running has no waiter
pub meeting_gone : (fields : Fields) (whose : Owned) (doing : Doing) (over : How) (place : ℕ) (task : Task) → get_or fields.doing.under.tasks place None ≡ Some task → whose.whose ≡ set fields.whose.whose place (Over over) → doing.under.tasks ≡ set fields.doing.under.tasks place None → AreMeeting fields → AreMeeting (record fields { whose = whose; doing = doing })
meeting_gone fields whose doing over place task at owned gone old =
    let isnt = unposted _ (under_way fields.whose.whose fields.doing.under.tasks place task old.idle at) in
    record {
      posts = λ mailbox. old.posts mailbox ∙ sym (ap (posts_from mailbox 1) owned ∙ posts_kept mailbox place fields.whose.whose (Over over) isnt refl);
      idle = subst (λ w. AreIdle w doing.under.tasks) (sym owned) (subst (λ t. AreIdle (set fields.whose.whose place (Over over)) t) (sym gone) (idle_gone fields.whose.whose fields.doing.under.tasks place over old.idle));
      busy = subst (λ w. AreBusy w doing.under.tasks) (sym owned) (subst (λ t. AreBusy (set fields.whose.whose place (Over over)) t) (sym gone) (busy_gone fields.whose.whose fields.doing.under.tasks place over old.busy));
      asked = subst (λ n. All (λ (queue : List Await). All (IsMade n) queue) fields.requests.queues) (sym (ap length owned ∙ length-set fields.whose.whose place (Over over))) old.asked;
      awaited = subst (λ n. AreAwaiting n fields.states.actors) (sym (ap length owned ∙ length-set fields.whose.whose place (Over over))) old.awaited;
    }

-- ---- an activity begins
-- one more is running, with one actor
pub meeting_more : (fields : Fields) (whose : Owned) (doing : Doing) (actor : ActorId) (task : Task) → length fields.whose.whose ≡ length fields.doing.under.tasks → whose.whose ≡ fields.whose.whose ++ Alone actor ∷ [] → doing.under.tasks ≡ fields.doing.under.tasks ++ Some task ∷ [] → AreMeeting fields → AreMeeting (record fields { whose = whose; doing = doing })
meeting_more fields whose doing actor task numbered owned begun old =
    let more = ap length owned ∙ length-append fields.whose.whose (Alone actor ∷ []) in
    record {
      posts = λ mailbox. old.posts mailbox ∙ sym (ap (posts_from mailbox 1) owned ∙ posts-push mailbox 1 fields.whose.whose (Alone actor) ∙ append-nil (posts_from mailbox 1 fields.whose.whose));
      idle = subst (λ w. AreIdle w doing.under.tasks) (sym owned) (subst (λ t. AreIdle (fields.whose.whose ++ Alone actor ∷ []) t) (sym begun) (idle_more fields.whose.whose fields.doing.under.tasks (Alone actor) (Some task) numbered (λ e. absurd (true≢false (sym e))) old.idle));
      busy = subst (λ w. AreBusy w doing.under.tasks) (sym owned) (subst (λ t. AreBusy (fields.whose.whose ++ Alone actor ∷ []) t) (sym begun) (busy_more fields.whose.whose fields.doing.under.tasks (Alone actor) (Some task) numbered (λ e. refl) old.busy));
      asked = λ k d within j e inside. let made = old.asked k d within j e inside in record { from = made.from; to = omega (arith, made.to, more) };
      awaited = awaiting_more (length fields.whose.whose) (length whose.whose) fields.states.actors (omega (arith, more)) old.awaited;
    }
