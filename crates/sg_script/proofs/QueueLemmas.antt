-- One queue of a list of queues changes, and what is left of its lines.
use Rattle.std.proofs.Common.{◌≡◌, ◌≢◌, ◌<◌, ◌+◌, ◌∙◌, sym, subst, ap, eqb, ℕ, List, [], ◌∷◌, ◌++◌, length, get_or, drop, refl, zero, Option, None, Some, suc, arith, inl, inr}
use Rattle.std.specs.Prelude.{map, replicate, slice_get, slice_set}
use Rattle.std.specs.List.{All, flat_map}
use Rattle.std.proofs.Math.Seq.{map-set_same}
use Rattle.std.proofs.lemmas.Bool.{cases_Bool}
use Rattle.std.proofs.lemmas.Bool.Decides.{nat_tests}
use Rattle.std.proofs.lemmas.Grind.{flat_map-append}
use Rattle.std.proofs.lemmas.List.Concat.{flat_map-cons}
use Rattle.std.proofs.lemmas.List.{append-nil, drop_all, drop_more, length-map, map-set, get_or-map, get_or-set_other, get_or-set_same}
use Rattle.std.proofs.lemmas.List.Elements.{All-cons, All-drop, All-get_or, All-set, All-tail}
use Rattle.std.proofs.lemmas.Option.{get_or_from_slice_get, slice_get_cases, slice_get_within}
use Rattle.sg_base.specs.declared.call.Action.{Action}
use Rattle.sg_base.specs.declared.ids.ActorId.{ActorId}
use Rattle.sg_base.specs.Limits.{Extent, IsAction}
use Rattle.sg_script.specs.declared.line.Entry.{Entry}
use Rattle.sg_script.specs.declared.operation.Operation.{Operation}
use Rattle.sg_script.specs.declared.operation.Operation.TheVariants.{Alone}
use Rattle.sg_script.specs.declared.waiting.Waiting.{Waiting}
use Rattle.sg_script.specs.kept.Queues.{AreOperations, left_of, queue_at, waits, with_first}
use Rattle.sg_script.specs.kept.Steps.{HasQueue, queues_with}
use Rattle.sg_script.specs.Known.{ScriptNames}
use Rattle.sg_script.specs.Operation.{actions_for, IsOperation, line_actions}

-- ---- what is left of a line
taken_off : (actions : List Action) (place : ℕ) (action : Action) → Some action ≡ slice_get actions place → drop place actions ≡ action ∷ drop (place + 1) actions
taken_off actions place action at =
    drop_more actions place action (slice_get_within actions place action (sym at))
    ∙ ap (λ (a : Action). a ∷ drop (place + 1) actions) (get_or_from_slice_get actions place action action (sym at))

pub left_first : (members : List ActorId) (actor : ℕ) (line : Waiting) (action : Action) → Some action ≡ slice_get (actions_for members actor line.operation) line.place
    → left_of members actor line ≡ with_first (Some action) (left_of members actor (record line { place = line.place + 1 }))
left_first members actor line action at = taken_off (actions_for members actor line.operation) line.place action at

none_left : (actions : List Action) (place : ℕ) → None ≡ slice_get actions place → drop place actions ≡ []
none_left actions place at = elim (slice_get_cases actions place).1 [
  | inl within ↦ let is = at ∙ within.2 in cc
  | inr past ↦ drop_all place actions past.0
]

pub left_none : (members : List ActorId) (actor : ℕ) (line : Waiting) → None ≡ slice_get (actions_for members actor line.operation) line.place → left_of members actor line ≡ []
left_none members actor line at = none_left (actions_for members actor line.operation) line.place at

-- ---- the first line of a queue
-- what it was, and a line of the same operation in its place, keep to the limits
pub limited_front : (extent : Extent) (lines : List Waiting) (line : Waiting) → line ≡ get_or lines 0 line → 0 < length lines → AreOperations extent lines → IsOperation extent line.operation
limited_front extent lines line is some all =
    let it : IsOperation extent (get_or lines 0 line).operation = all 0 line some in
    subst (λ (l : Waiting). IsOperation extent l.operation) (sym is) it

pub limited_taken : (extent : Extent) (lines : List Waiting) (line new : Waiting) → line ≡ get_or lines 0 line → new.operation ≡ line.operation → AreOperations extent lines → AreOperations extent (slice_set lines 0 new)
limited_taken extent [] line new is same all = all
limited_taken extent (x ∷ lines) line new is same all =
    let first : IsOperation extent new.operation = subst (IsOperation extent) (sym (same ∙ ap (λ (l : Waiting). l.operation) is)) (all 0 x (omega arith)) in
    All-cons (λ (l : Waiting). IsOperation extent l.operation) new lines first (All-tail (λ (l : Waiting). IsOperation extent l.operation) x lines all)

pub limited_popped : (extent : Extent) (lines popped : List Waiting) (line new : Waiting) → line ≡ get_or lines 0 line → new.operation ≡ line.operation → popped ≡ drop 1 (slice_set lines 0 new) → AreOperations extent lines → AreOperations extent popped
limited_popped extent lines popped line new is same popped_is all =
    subst (AreOperations extent) (sym popped_is) (All-drop (λ (l : Waiting). IsOperation extent l.operation) 1 (slice_set lines 0 new) (limited_taken extent lines line new is same all))

-- it asks for an action alone, which is taken with it
pub alone_first : (members : List ActorId) (actor : ℕ) (lines left : List Waiting) (action : Action) → lines ≡ record { operation = Alone action; place = 0 } ∷ left
    → flat_map (left_of members actor) lines ≡ with_first (Some action) (flat_map (left_of members actor) left)
alone_first members actor lines left action is =
    ap (flat_map (left_of members actor)) is ∙ flat_map-cons (left_of members actor) (record { operation = Alone action; place = 0 }) left

pub limited_alone : (extent : Extent) (lines left : List Waiting) (action : Action) → lines ≡ record { operation = Alone action; place = 0 } ∷ left → AreOperations extent lines → IsAction extent action × AreOperations extent left
limited_alone extent lines left action is all =
    let alone : Waiting = record { operation = Alone action; place = 0 } in
    let now : AreOperations extent (alone ∷ left) = subst (AreOperations extent) is all in
    (now 0 alone (omega arith), All-tail (λ (l : Waiting). IsOperation extent l.operation) alone left now)

-- no action of it remains
pub left_popped : (members : List ActorId) (actor : ℕ) (lines popped : List Waiting) (line new : Waiting) → line ≡ get_or lines 0 line → left_of members actor line ≡ [] → popped ≡ drop 1 (slice_set lines 0 new) → flat_map (left_of members actor) popped ≡ flat_map (left_of members actor) lines
left_popped members actor [] popped line new is none popped_is = ap (flat_map (left_of members actor)) popped_is
left_popped members actor (x ∷ lines) popped line new is none popped_is =
    ap (flat_map (left_of members actor)) popped_is
    ∙ sym (flat_map-cons (left_of members actor) x lines ∙ ap (λ (l : List Action). l ++ flat_map (left_of members actor) lines) (ap (left_of members actor) (sym is) ∙ none))

-- ---- the queue of one actor
view_at : {D : Type 0} (f : D → List Waiting) (lists : List D) (i : ℕ) (old : D) → i < length lists → old ≡ get_or lists i old → queue_at (map f lists) i ≡ f old
view_at f lists i old below is = get_or-map f lists i old [] below ∙ sym (ap f is)

new_at : {D : Type 0} (f : D → List Waiting) (lists : List D) (i : ℕ) (new : D) → i < length lists → queue_at (map f (slice_set lists i new)) i ≡ f new
new_at f lists i new below =
    ap (λ (qs : List (List Waiting)). queue_at qs i) (map-set f lists i new) ∙ get_or-set_same (map f lists) i (f new) [] (omega (arith, below, length-map lists f))

inside : {D : Type 0} (f : D → List Waiting) (lists : List D) (i : ℕ) (view : List (List Waiting)) → view ≡ map f lists → i < length view → i < length lists
inside f lists i view is below = omega (arith, below, ap length is, length-map lists f)

-- the queues show as a view: a line goes into one, or none does
pub pushed_view : {D : Type 0} (f : D → List Waiting) (lists : List D) (view : List (List Waiting)) (i : ℕ) (old new : D) (line : Waiting) → view ≡ map f lists → i < length view → old ≡ get_or lists i old → f new ≡ f old ++ line ∷ []
    → map f (slice_set lists i new) ≡ slice_set view i (queue_at view i ++ line ∷ [])
pushed_view f lists view i old new line view_is below is made =
    rw view_is (map-set f lists i new ∙ ap (slice_set (map f lists) i) (made ∙ ap (λ (q : List Waiting). q ++ line ∷ []) (sym (view_at f lists i old (inside f lists i view view_is below) is))))

pub kept_view : {D : Type 0} (f : D → List Waiting) (lists : List D) (view : List (List Waiting)) (i : ℕ) (old new : D) → view ≡ map f lists → old ≡ get_or lists i old → f new ≡ f old → map f (slice_set lists i new) ≡ view
kept_view f lists view i old new view_is is same = map-set_same f lists i new old (same ∙ ap f is) ∙ sym view_is

-- one changes
pub old_view : {D : Type 0} (f : D → List Waiting) (lists : List D) (view : List (List Waiting)) (i : ℕ) (old : D) → view ≡ map f lists → i < length view → old ≡ get_or lists i old → queue_at view i ≡ f old
old_view f lists view i old view_is below is = rw view_is (view_at f lists i old (inside f lists i view view_is below) is)

pub new_view : {D : Type 0} (f : D → List Waiting) (lists : List D) (view : List (List Waiting)) (i : ℕ) (new : D) → view ≡ map f lists → i < length view → queue_at (map f (slice_set lists i new)) i ≡ f new
new_view f lists view i new view_is below = new_at f lists i new (inside f lists i view view_is below)

pub others_view : {D : Type 0} (f : D → List Waiting) (lists : List D) (view : List (List Waiting)) (i : ℕ) (new : D) → view ≡ map f lists → i < length view → map f (slice_set lists i new) ≡ slice_set view i (queue_at (map f (slice_set lists i new)) i)
others_view f lists view i new view_is below =
    rw view_is (map-set f lists i new ∙ ap (slice_set (map f lists) i) (sym (new_at f lists i new (inside f lists i view view_is below))))

-- what waits was taken off the queue
pub waits_first : (members : List ActorId) (actor : ℕ) (old new : List (List Waiting)) (before after : List Waiting) (first : Option Action) → queue_at old actor ≡ before → queue_at new actor ≡ after
    → flat_map (left_of members actor) before ≡ with_first first (flat_map (left_of members actor) after) → waits members old actor ≡ with_first first (waits members new actor)
waits_first members actor old new before after first old_is new_is taken =
    ap (flat_map (left_of members actor)) old_is ∙ taken ∙ ap (λ (q : List Waiting). with_first first (flat_map (left_of members actor) q)) (sym new_is)

-- the limits of one queue, and of all if one changed
pub limited_at : (extent : Extent) (queues : List (List Waiting)) (i : ℕ) → i < length queues → All (AreOperations extent) queues → AreOperations extent (queue_at queues i)
limited_at extent queues i below all = All-get_or (AreOperations extent) queues i [] below all

pub limited_with : (extent : Extent) (old new : List (List Waiting)) (i : ℕ) → new ≡ slice_set old i (queue_at new i) → AreOperations extent (queue_at new i) → All (AreOperations extent) old → All (AreOperations extent) new
limited_with extent old new i is one all =
    let it : All (AreOperations extent) (slice_set old i (queue_at new i)) = All-set (AreOperations extent) old i (queue_at new i) one all in
    rw is it

-- ---- a line more
one_more_line : (members : List ActorId) (actor : ℕ) (queue : List Waiting) (operation : Operation) → flat_map (left_of members actor) (queue ++ record { operation = operation; place = 0 } ∷ []) ≡ flat_map (left_of members actor) queue ++ actions_for members actor operation
one_more_line members actor queue operation =
    flat_map-append (left_of members actor) queue (record { operation = operation; place = 0 } ∷ [])
    ∙ ap (λ (l : List Action). flat_map (left_of members actor) queue ++ l) (append-nil (actions_for members actor operation))

entry_waits : (known : ScriptNames) (queues : List (List Waiting)) (entry : Entry) (x : ℕ) → entry.actor.0 < length queues → waits known.members (queues_with (Some entry) queues) x ≡ waits known.members queues x ++ line_actions known x (Some entry)
entry_waits known queues entry x below = elim (cases_Bool (eqb entry.actor.0 x)) [
  | inl is ↦
      let same : x ≡ entry.actor.0 = grind (arith, nat_tests) in
      rw is (rw same (ap (flat_map (left_of known.members entry.actor.0)) (get_or-set_same queues entry.actor.0 (queue_at queues entry.actor.0 ++ record { operation = entry.operation; place = 0 } ∷ []) [] below)
      ∙ one_more_line known.members entry.actor.0 (queue_at queues entry.actor.0) entry.operation))
  | inr isnt ↦
      let other : x ≢ entry.actor.0 = grind (arith, nat_tests) in
      rw isnt (ap (flat_map (left_of known.members x)) (get_or-set_other queues entry.actor.0 x (queue_at queues entry.actor.0 ++ record { operation = entry.operation; place = 0 } ∷ []) [] other)
      ∙ sym (append-nil (waits known.members queues x)))
]

-- what a line gives an actor waits after what waits already
pub said_waits : (known : ScriptNames) (queues : List (List Waiting)) (said : Option Entry) (x : ℕ) → HasQueue (length queues) said → waits known.members (queues_with said queues) x ≡ waits known.members queues x ++ line_actions known x said
said_waits known queues None x within = sym (append-nil (waits known.members queues x))
said_waits known queues (Some entry) x within = entry_waits known queues entry x within

-- ---- empty queues
pub no_queue : (n actor : ℕ) → queue_at (replicate n []) actor ≡ []
no_queue zero actor = refl
no_queue (suc n) zero = refl
no_queue (suc n) (suc actor) = no_queue n actor

pub none_wait : (members : List ActorId) (n actor : ℕ) → waits members (replicate n []) actor ≡ []
none_wait members n actor = ap (flat_map (left_of members actor)) (no_queue n actor)
