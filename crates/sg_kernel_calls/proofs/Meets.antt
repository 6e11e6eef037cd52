-- What holds of mailboxes, activities and requests, as endpoints arrive and actors wait.
use Rattle.std.proofs.Common.{◌≡◌, ◌≢◌, ℕ, zero, suc, ◌+◌, ◌-◌, ◌<◌, ◌≤◌, ◌⊎◌, inl, inr, Bool, true, false, true≢false, IsTrue, Option, None, Some, List, [], ◌∷◌, ◌++◌, length, set, get_or, refl, sym, ap, ap₂, subst, ◌∙◌, arith}
use Rattle.std.specs.Prelude.{option_to_list, is_some, IsSome}
use Rattle.std.specs.List.{find, All}
use Rattle.std.proofs.lemmas.Bool.{cases_eq, cases_lt}
use Rattle.std.proofs.lemmas.List.{append-nil, get_or-set_same, get_or-set_other, get_or_past, length-set}
use Rattle.std.proofs.lemmas.List.Elements.{All-nil, All-head, All-tail, All-set, All-push, All-weaker}
use Rattle.sg_base.specs.declared.ids.BoxId.{BoxId}
use Rattle.sg_base.specs.declared.ids.Serial.{Serial}
use Rattle.sg_activity.specs.Task.{Task}
use Rattle.sg_mailbox.specs.declared.sides.Side.{Side}
use Rattle.sg_mailbox.proofs.Lists.{box_found}
use Rattle.sg_mailbox.specs.declared.sides.Post.{Post}
use Rattle.sg_mailbox.specs.Posts.{Posts, box_eq, is_other, without, waiters, partner, posts_after, posts_by_partner}
use Rattle.sg_base.specs.declared.awaits.Await.{Await}
use Rattle.sg_requests.specs.Requested.{queue_at, oldest, rest_of, queues_with_request, queues_without_oldest}
use Rattle.sg_mailbox.specs.declared.owners.How.{How}
use Rattle.sg_mailbox.specs.declared.owners.How.TheVariants as how
use Rattle.sg_mailbox.specs.declared.owners.Whose.{Whose}
use Rattle.sg_mailbox.specs.declared.owners.Whose.TheVariants.{Over, Posted}
use Rattle.sg_kernel_calls.specs.Meetings.{post_in, posts_from}
use Rattle.sg_kernel_calls.specs.kept.Sound.{is_idle, is_posted, IsMade}
use Rattle.sg_kernel_calls.proofs.Postings.{FoundAt, box_found_same, posts-push, posts-set, posted_elsewhere, posted_here, found_post, not_posted}

-- ---- requests are for communications that were made
abbrev pub AreMade : ℕ → List (List Await) → Type 0
AreMade made queues = All (λ (queue : List Await). All (IsMade made) queue) queues

pub made_more : (n m : ℕ) (queues : List (List Await)) → n ≤ m → AreMade n queues → AreMade m queues
made_more n m queues le are = All-weaker (λ (queue : List Await). All (IsMade n) queue) (λ (queue : List Await). All (IsMade m) queue) (λ queue is. All-weaker (IsMade n) (IsMade m) one queue is) queues are
  where
    one : (on : Await) → IsMade n on → IsMade m on
    one on is = record { from = is.from; to = omega (arith, is.to, le) }

pub made_at : (n : ℕ) (queues : List (List Await)) (i : ℕ) → AreMade n queues → All (IsMade n) (get_or queues i [])
made_at n [] i are = All-nil (IsMade n)
made_at n (queue ∷ queues) zero are = All-head (λ (queue : List Await). All (IsMade n) queue) queue queues are
made_at n (queue ∷ queues) (suc i) are = made_at n queues i (All-tail (λ (queue : List Await). All (IsMade n) queue) queue queues are)

pub made_queued : (n : ℕ) (queues : List (List Await)) (actor : ℕ) (on : Await) → IsMade n on → AreMade n queues → AreMade n (queues_with_request queues actor on)
made_queued n queues actor on is are = All-set (λ (queue : List Await). All (IsMade n) queue) queues (actor - 1) (queue_at queues actor ++ on ∷ []) (All-push (IsMade n) (queue_at queues actor) on (made_at n queues (actor - 1) are) is) are

pub made_taken : (n : ℕ) (queues : List (List Await)) (actor : ℕ) → AreMade n queues → AreMade n (queues_without_oldest queues actor)
made_taken n queues actor are = All-set (λ (queue : List Await). All (IsMade n) queue) queues (actor - 1) (rest_of (queue_at queues actor)) (rest (queue_at queues actor) (made_at n queues (actor - 1) are)) are
  where
    rest : (queue : List Await) → All (IsMade n) queue → All (IsMade n) (rest_of queue)
    rest [] is = All-nil (IsMade n)
    rest (first ∷ queue) is = All-tail (IsMade n) first queue is

pub made_oldest : (n : ℕ) (queues : List (List Await)) (actor : ℕ) (on : Await) → oldest (queue_at queues actor) ≡ Some on → AreMade n queues → IsMade n on
made_oldest n queues actor on e are = first (queue_at queues actor) e (made_at n queues (actor - 1) are)
  where
    first : (queue : List Await) → oldest queue ≡ Some on → All (IsMade n) queue → IsMade n on
    first [] e is = absurd (cc e)
    first (a ∷ queue) e is = (let same : a ≡ on = cc e in subst (IsMade n) same (All-head (IsMade n) a queue is))

-- ---- neither ended activities nor communications with one endpoint are running
abbrev pub AreIdle : List Whose → List (Option Task) → Type 0
AreIdle whose tasks = (place : ℕ) → IsTrue (is_idle (get_or whose place (Over how.Done))) → get_or tasks place None ≡ None

pub pushed_at : {X : Type 0} (xs : List X) (y d : X) (i : ℕ) → (get_or (xs ++ y ∷ []) i d ≡ get_or xs i d) ⊎ ((i ≡ length xs) × (get_or (xs ++ y ∷ []) i d ≡ y))
pushed_at [] y d zero = inr (refl, refl)
pushed_at [] y d (suc i) = inl refl
pushed_at (x ∷ xs) y d zero = inl refl
pushed_at (x ∷ xs) y d (suc i) = elim (pushed_at xs y d i) [ inl e ↦ inl e | inr r ↦ inr (ap (λ n. suc n) r.0, r.1) ]

at_end : {X : Type 0} (xs : List X) (y d : X) (i : ℕ) → i ≡ length xs → get_or (xs ++ y ∷ []) i d ≡ y
at_end [] y d zero e = refl
at_end [] y d (suc i) e = absurd (omega (arith, e))
at_end (x ∷ xs) y d zero e = absurd (omega (arith, e))
at_end (x ∷ xs) y d (suc i) e = at_end xs y d i (omega (arith, e))

-- one more activity is made; it isn't running if it is idle
pub idle_more : (whose : List Whose) (tasks : List (Option Task)) (w : Whose) (t : Option Task) → length whose ≡ length tasks → (IsTrue (is_idle w) → t ≡ None) → AreIdle whose tasks → AreIdle (whose ++ w ∷ []) (tasks ++ t ∷ [])
idle_more whose tasks w t same new old = λ place e. elim (pushed_at whose w (Over how.Done) place) [
  | inl k ↦ kept place k e (pushed_at tasks t None place)
  | inr r ↦ at_end tasks t None place (omega (arith, r.0, same)) ∙ new (sym (ap is_idle r.1) ∙ e)
]
  where
    kept : (place : ℕ) → get_or (whose ++ w ∷ []) place (Over how.Done) ≡ get_or whose place (Over how.Done) → IsTrue (is_idle (get_or (whose ++ w ∷ []) place (Over how.Done))) → (get_or (tasks ++ t ∷ []) place None ≡ get_or tasks place None) ⊎ ((place ≡ length tasks) × (get_or (tasks ++ t ∷ []) place None ≡ t)) → get_or (tasks ++ t ∷ []) place None ≡ None
    kept place k e (inl l) = l ∙ old place (sym (ap is_idle k) ∙ e)
    kept place k e (inr r) = r.1 ∙ new (sym (ap is_idle (at_end whose w (Over how.Done) place (omega (arith, r.0, same)))) ∙ e)

-- an activity becomes another's that isn't idle
pub idle_put : (whose : List Whose) (tasks : List (Option Task)) (i : ℕ) (w : Whose) (t : Option Task) → i < length whose → is_idle w ≡ false → AreIdle whose tasks → AreIdle (set whose i w) (set tasks i t)
idle_put whose tasks i w t within isnt old = λ place e. cases place (cases_eq place i) e
  where
    cases : (place : ℕ) → (place ≡ i) ⊎ (place ≢ i) → IsTrue (is_idle (get_or (set whose i w) place (Over how.Done))) → get_or (set tasks i t) place None ≡ None
    cases place (inl is) e = absurd (true≢false (sym e ∙ ap is_idle (ap (λ k. get_or (set whose i w) k (Over how.Done)) is ∙ get_or-set_same whose i w (Over how.Done) within) ∙ isnt))
    cases place (inr away) e = get_or-set_other tasks i place t None away ∙ old place (sym (ap is_idle (get_or-set_other whose i place w (Over how.Done) away)) ∙ e)

-- one that isn't running ends
pub idle_over : (whose : List Whose) (tasks : List (Option Task)) (i : ℕ) (w : Whose) → get_or tasks i None ≡ None → AreIdle whose tasks → AreIdle (set whose i w) tasks
idle_over whose tasks i w none old = λ place e. cases place (cases_eq place i) e
  where
    cases : (place : ℕ) → (place ≡ i) ⊎ (place ≢ i) → IsTrue (is_idle (get_or (set whose i w) place (Over how.Done))) → get_or tasks place None ≡ None
    cases place (inl is) e = ap (λ k. get_or tasks k None) is ∙ none
    cases place (inr away) e = old place (sym (ap is_idle (get_or-set_other whose i place w (Over how.Done) away)) ∙ e)

-- ---- all others are running
abbrev pub AreBusy : List Whose → List (Option Task) → Type 0
AreBusy whose tasks = (place : ℕ) → is_idle (get_or whose place (Over how.Done)) ≡ false → IsSome (get_or tasks place None)

pub busy_more : (whose : List Whose) (tasks : List (Option Task)) (w : Whose) (t : Option Task) → length whose ≡ length tasks → (is_idle w ≡ false → IsSome t) → AreBusy whose tasks → AreBusy (whose ++ w ∷ []) (tasks ++ t ∷ [])
busy_more whose tasks w t same new old = λ place e. elim (pushed_at whose w (Over how.Done) place) [
  | inl k ↦ kept place k e (pushed_at tasks t None place)
  | inr r ↦ ap is_some (at_end tasks t None place (omega (arith, r.0, same))) ∙ new (sym (ap is_idle r.1) ∙ e)
]
  where
    kept : (place : ℕ) → get_or (whose ++ w ∷ []) place (Over how.Done) ≡ get_or whose place (Over how.Done) → is_idle (get_or (whose ++ w ∷ []) place (Over how.Done)) ≡ false → (get_or (tasks ++ t ∷ []) place None ≡ get_or tasks place None) ⊎ ((place ≡ length tasks) × (get_or (tasks ++ t ∷ []) place None ≡ t)) → IsSome (get_or (tasks ++ t ∷ []) place None)
    kept place k e (inl l) = ap is_some l ∙ old place (sym (ap is_idle k) ∙ e)
    kept place k e (inr r) = ap is_some r.1 ∙ new (sym (ap is_idle (at_end whose w (Over how.Done) place (omega (arith, r.0, same)))) ∙ e)

pub busy_put : (whose : List Whose) (tasks : List (Option Task)) (i : ℕ) (w : Whose) (t : Task) → i < length tasks → AreBusy whose tasks → AreBusy (set whose i w) (set tasks i (Some t))
busy_put whose tasks i w t within old = λ place e. cases place (cases_eq place i) e
  where
    cases : (place : ℕ) → (place ≡ i) ⊎ (place ≢ i) → is_idle (get_or (set whose i w) place (Over how.Done)) ≡ false → IsSome (get_or (set tasks i (Some t)) place None)
    cases place (inl is) e = ap is_some (ap (λ k. get_or (set tasks i (Some t)) k None) is ∙ get_or-set_same tasks i (Some t) None within)
    cases place (inr away) e = ap is_some (get_or-set_other tasks i place (Some t) None away) ∙ old place (sym (ap is_idle (get_or-set_other whose i place w (Over how.Done) away)) ∙ e)

-- one phase follows another
pub busy_set : (whose : List Whose) (tasks : List (Option Task)) (i : ℕ) (t : Task) → i < length tasks → AreBusy whose tasks → AreBusy whose (set tasks i (Some t))
busy_set whose tasks i t within old = λ place e. cases place (cases_eq place i) e
  where
    cases : (place : ℕ) → (place ≡ i) ⊎ (place ≢ i) → is_idle (get_or whose place (Over how.Done)) ≡ false → IsSome (get_or (set tasks i (Some t)) place None)
    cases place (inl is) e = ap is_some (ap (λ k. get_or (set tasks i (Some t)) k None) is ∙ get_or-set_same tasks i (Some t) None within)
    cases place (inr away) e = ap is_some (get_or-set_other tasks i place (Some t) None away) ∙ old place e

-- one ends
pub over_idle : (whose : List Whose) (i : ℕ) (over : How) → is_idle (get_or (set whose i (Over over)) i (Over how.Done)) ≡ true
over_idle whose i over = elim (cases_lt i (length whose)) [
  | inl within ↦ ap is_idle (get_or-set_same whose i (Over over) (Over how.Done) within)
  | inr past ↦ ap is_idle (get_or_past (set whose i (Over over)) i (Over how.Done) (omega (arith, past, length-set whose i (Over over))))
]

pub busy_over : (whose : List Whose) (tasks : List (Option Task)) (i : ℕ) (over : How) → AreBusy whose tasks → AreBusy (set whose i (Over over)) tasks
busy_over whose tasks i over old = λ place e. cases place (cases_eq place i) e
  where
    cases : (place : ℕ) → (place ≡ i) ⊎ (place ≢ i) → is_idle (get_or (set whose i (Over over)) place (Over how.Done)) ≡ false → IsSome (get_or tasks place None)
    cases place (inl is) e = absurd (true≢false (sym (ap (λ k. is_idle (get_or (set whose i (Over over)) k (Over how.Done))) is ∙ over_idle whose i over) ∙ e))
    cases place (inr away) e = old place (sym (ap is_idle (get_or-set_other whose i place (Over over) (Over how.Done) away)) ∙ e)

pub busy_gone : (whose : List Whose) (tasks : List (Option Task)) (i : ℕ) (over : How) → AreBusy whose tasks → AreBusy (set whose i (Over over)) (set tasks i None)
busy_gone whose tasks i over old = λ place e. cases place (cases_eq place i) e
  where
    cases : (place : ℕ) → (place ≡ i) ⊎ (place ≢ i) → is_idle (get_or (set whose i (Over over)) place (Over how.Done)) ≡ false → IsSome (get_or (set tasks i None) place None)
    cases place (inl is) e = absurd (true≢false (sym (ap (λ k. is_idle (get_or (set whose i (Over over)) k (Over how.Done))) is ∙ over_idle whose i over) ∙ e))
    cases place (inr away) e = ap is_some (get_or-set_other tasks i place None None away) ∙ old place (sym (ap is_idle (get_or-set_other whose i place (Over over) (Over how.Done) away)) ∙ e)

-- ---- the mailboxes list who is posted
abbrev pub AreTold : Posts → List Whose → Type 0
AreTold boxes whose = (mailbox : BoxId) → waiters boxes mailbox ≡ posts_from mailbox 1 whose

-- an endpoint waits under the next id
pub told_posted : (old new : Posts) (mailbox : BoxId) (sends : Bool) (side : Side) (serial : Serial) (whose : List Whose) → serial.0 ≡ 1 + length whose → partner sends (waiters old mailbox) ≡ None
    → waiters new mailbox ≡ posts_after sends side serial (waiters old mailbox) → ((other : BoxId) → other ≢ mailbox → waiters new other ≡ waiters old other)
    → AreTold old whose → AreTold new (whose ++ Posted mailbox sends side ∷ [])
told_posted old new mailbox sends side serial whose next alone there elsewhere are = λ other. cases other (box_eq other mailbox) refl
  where
    p : ℕ → Post
    p n = record { serial = record { 0 = n }; sends = sends; side = side }

    cases : (other : BoxId) (b : Bool) → box_eq other mailbox ≡ b → waiters new other ≡ posts_from other 1 (whose ++ Posted mailbox sends side ∷ [])
    cases other true e =
        let here : waiters new mailbox ≡ posts_from mailbox 1 (whose ++ Posted mailbox sends side ∷ []) =
        there
        ∙ ap (λ o. posts_by_partner o sends side serial (waiters old mailbox)) alone
        ∙ ap₂ (λ l n. l ++ record { serial = record { 0 = n }; sends = sends; side = side } ∷ []) (are mailbox) next
        ∙ sym (posts-push mailbox 1 whose (Posted mailbox sends side) ∙ ap (λ o. posts_from mailbox 1 whose ++ option_to_list o) (posted_here mailbox (1 + length whose) sends side)) in
        subst (λ m. waiters new m ≡ posts_from m 1 (whose ++ Posted mailbox sends side ∷ [])) (sym (box_found other mailbox e)) here
    cases other false e =
        let away : other ≢ mailbox = λ is. absurd (true≢false (sym (box_found_same other mailbox is) ∙ e)) in
        elsewhere other away ∙ are other
        ∙ sym (posts-push other 1 whose (Posted mailbox sends side) ∙ ap (λ o. posts_from other 1 whose ++ option_to_list o) (posted_elsewhere other mailbox (1 + length whose) sends side away) ∙ append-nil (posts_from other 1 whose))

-- an endpoint takes its match away
pub told_met : (old new : Posts) (mailbox : BoxId) (sends : Bool) (side : Side) (serial : Serial) (whose : List Whose) (p : Post) (w : Whose) → partner sends (waiters old mailbox) ≡ Some p → is_posted w ≡ false
    → waiters new mailbox ≡ posts_after sends side serial (waiters old mailbox) → ((other : BoxId) → other ≢ mailbox → waiters new other ≡ waiters old other)
    → AreTold old whose → AreTold new (set whose (p.serial.0 - 1) w)
told_met old new mailbox sends side serial whose p w found isnt there elsewhere are = λ other. cases other (box_eq other mailbox) refl
  where
    at : FoundAt (is_other sends) mailbox 1 whose p
    at = found_post (is_other sends) mailbox 1 whose p (ap (find (is_other sends)) (sym (are mailbox)) ∙ found)

    cases : (other : BoxId) (b : Bool) → box_eq other mailbox ≡ b → waiters new other ≡ posts_from other 1 (set whose (p.serial.0 - 1) w)
    cases other true e =
        let here : waiters new mailbox ≡ posts_from mailbox 1 (set whose (p.serial.0 - 1) w) =
        there
        ∙ ap (λ o. posts_by_partner o sends side serial (waiters old mailbox)) found
        ∙ ap (without (is_other sends)) (are mailbox)
        ∙ at.taken w isnt in
        subst (λ m. waiters new m ≡ posts_from m 1 (set whose (p.serial.0 - 1) w)) (sym (box_found other mailbox e)) here
    cases other false e =
        let away : other ≢ mailbox = λ is. absurd (true≢false (sym (box_found_same other mailbox is) ∙ e)) in
        elsewhere other away ∙ are other
        ∙ sym (posts-set other 1 (p.serial.0 - 1) whose w (λ k. ap (post_in other k) at.is ∙ posted_elsewhere other mailbox k p.sends p.side away) (λ k. not_posted other k w isnt))
