-- What a scheduling round does, slot by slot.
use Rattle.std.proofs.Common.{◌≡◌, ◌∙◌, sym, ap, ap₂, refl, ℕ, zero, suc, ◌<◌, Bool, true, false, cond, List, [], ◌∷◌, map, length, get_or, Option, None, Some, IsSome, IsTrue, arith, subst}
use Rattle.std.specs.Prelude.{All, IfSome, not, option_map, ◌&&◌}
use Rattle.std.specs.Option.{is_some}
use Rattle.std.proofs.lemmas.List.{get_or-map, length-map}
use Rattle.std.proofs.lemmas.List.Elements.{All-nil, All-cons, All-head, All-map, All-tail}
use Rattle.sg_base.specs.declared.call.Answer.{Answer}
use Rattle.sg_base.specs.declared.call.Call.{Call}
use Rattle.sg_base.specs.Limits.{Extent, IsAnswer}
use Rattle.sg_base.specs.Mind.{Mind}
use Rattle.sg_base.specs.Turn.{turn}
use Rattle.sg_actor.specs.Seats.{SeatView, after, with_turn, CanTurn, KeepsLimits}
use Rattle.sg_actor_states.specs.declared.state.Actor.{Actor}
use Rattle.sg_actor_states.specs.declared.state.State.{State}
use Rattle.sg_actor_states.specs.declared.state.State.TheVariants.{Unstarted, Ready, Blocked, Ended}
use Rattle.sg_actor_states.specs.Actors.{answer_in, inbox_of, is_answered, not_suspended}
use Rattle.sg_engine.specs.Run.{zip_with, mind_after, call_after}
use Rattle.sg_engine.specs.kept.SeatRules.{mind_in, minds_of, AreQueued, IsSeated, with_answer, call_in, at_rest}

pub length-zip_with : {X Y Z : Type 0} (f : X → Y → Z) (xs : List X) (ys : List Y) → length ys ≡ length xs → length (zip_with f xs ys) ≡ length xs
length-zip_with f [] ys same = refl
length-zip_with f (x ∷ xs) [] same = absurd (omega (arith, same))
length-zip_with f (x ∷ xs) (y ∷ ys) same = let less : length ys ≡ length xs = omega (arith, same) in omega (arith, length-zip_with f xs ys less)

pub zip_at : {X Y Z : Type 0} (f : X → Y → Z) (xs : List X) (ys : List Y) (i : ℕ) (d : X) (e : Y) (z : Z) → i < length xs → length ys ≡ length xs → get_or (zip_with f xs ys) i z ≡ f (get_or xs i d) (get_or ys i e)
zip_at f [] ys i d e z within same = absurd (omega (arith, within))
zip_at f (x ∷ xs) [] i d e z within same = absurd (omega (arith, same))
zip_at f (x ∷ xs) (y ∷ ys) zero d e z within same = refl
zip_at f (x ∷ xs) (y ∷ ys) (suc i) d e z within same = let less : length ys ≡ length xs = omega (arith, same) in zip_at f xs ys i d e z (omega (arith, within)) less

-- what is made of an element by the answer of its actor
pub inbox_at : {X Z : Type 0} (f : X → Option Answer → Z) (xs : List X) (actors : List Actor) (j : ℕ) (d : X) (z : Z) → length actors ≡ length xs → j < length actors → get_or (zip_with f xs (map inbox_of actors)) j z ≡ f (get_or xs j d) (inbox_of (get_or actors j (not_suspended Ended)))
inbox_at f xs actors j d z same within =
    let long : length (map inbox_of actors) ≡ length xs = length-map actors inbox_of ∙ same in
    zip_at f xs (map inbox_of actors) j d None z (omega (arith, within, same)) long
    ∙ ap (f (get_or xs j d)) (get_or-map inbox_of actors j (not_suspended Ended) None within)

-- ---- answers are offered
-- a place whose actor has begun, with the answer on which that is to take a turn
abbrev offered : SeatView → Answer → SeatView
offered place answer = record place { inbox = answer; ready = true }

not_ready : {P : Type 0} (place : SeatView) → place.ready ≡ false → IsTrue place.ready → P
not_ready place rests ready = absurd (let e : true ≡ false = sym ready ∙ rests in cc e)

pub offered_limited : (extent : Extent) (place : SeatView) (answer : Option Answer) → KeepsLimits extent place → IfSome answer (IsAnswer extent) → KeepsLimits extent (with_answer place answer)
offered_limited extent place None is limited = is
offered_limited extent place (Some answer) is limited =
    elim (is_some place.mind) as (λ (b : Bool). KeepsLimits extent (cond b (offered place answer) place)) [ true ↦ (is.0, limited, is.2) | false ↦ is ]

can_by : (place : SeatView) (answer : Answer) (m : Option Mind) → place.mind ≡ m → place.ready ≡ false → CanTurn (cond (is_some m) (offered place answer) place)
can_by place answer None is rests = λ ready. not_ready place rests ready
can_by place answer (Some m) is rests = λ ready. subst IsSome (sym is) refl

offered_can : (place : SeatView) (answer : Option Answer) → place.ready ≡ false → CanTurn (with_answer place answer)
offered_can place None rests = λ ready. not_ready place rests ready
offered_can place (Some answer) rests = can_by place answer place.mind refl rests

abbrev pub Rests : SeatView → Type 0
Rests place = place.ready ≡ false

all_offered_can : (places : List SeatView) (answers : List (Option Answer)) → All Rests places → All CanTurn (zip_with with_answer places answers)
all_offered_can [] answers rest = All-nil CanTurn
all_offered_can (place ∷ places) [] rest = All-nil CanTurn
all_offered_can (place ∷ places) (answer ∷ answers) rest =
    All-cons CanTurn (with_answer place answer) (zip_with with_answer places answers) (offered_can place answer (All-head Rests place places rest)) (all_offered_can places answers (All-tail Rests place places rest))

ready_by : (place : SeatView) (suspended : Bool) (state : State) → place.ready ≡ false → IsTrue (with_answer place (cond suspended None (answer_in state))).ready → IsTrue (is_answered state && not suspended)
ready_by place true state rests ready = not_ready place rests ready
ready_by place false Unstarted rests ready = not_ready place rests ready
ready_by place false (Ready answer) rests ready = refl
ready_by place false (Blocked what since on) rests ready = not_ready place rests ready
ready_by place false Ended rests ready = not_ready place rests ready

-- only whose actor is ready is ready then
all_offered_queued : (places : List SeatView) (actors : List Actor) → length actors ≡ length places → All Rests places → AreQueued (zip_with with_answer places (map inbox_of actors)) actors
all_offered_queued places actors same rest j place within ready =
    let long : length (zip_with with_answer places (map inbox_of actors)) ≡ length places = length-zip_with with_answer places (map inbox_of actors) (length-map actors inbox_of ∙ same) in
    let here : j < length actors = omega (arith, within, long, same) in
    let actor = get_or actors j (not_suspended Ended) in
    ready_by (get_or places j place) actor.suspended actor.state (rest j place (omega (arith, here, same)))
    (subst (λ (v : SeatView). IsTrue v.ready) (inbox_at with_answer places actors j place place same here) ready)

-- ---- turns are taken
turned_can : (place : SeatView) (m : Option Mind) → CanTurn place → CanTurn (with_turn place m)
turned_can place None can = can
turned_can place (Some m) can = λ ready. refl

after_can : (place : SeatView) → CanTurn place → CanTurn (after place)
after_can place can = elim place.ready as (λ (b : Bool). CanTurn (cond b (with_turn place place.mind) place)) [ true ↦ turned_can place place.mind can | false ↦ can ]

pub all_after_can : (places : List SeatView) → All CanTurn places → All CanTurn (map after places)
all_after_can places can = All-map CanTurn after places (λ k d within. after_can _ (can k d within))

turned_ready : (place : SeatView) (m : Option Mind) → (with_turn place m).ready ≡ place.ready
turned_ready place None = refl
turned_ready place (Some m) = refl

after_ready : (place : SeatView) → (after place).ready ≡ place.ready
after_ready place = elim place.ready as (λ (b : Bool). (cond b (with_turn place place.mind) place).ready ≡ place.ready) [ true ↦ turned_ready place place.mind | false ↦ refl ]

all_after_queued : (places : List SeatView) (actors : List Actor) → AreQueued places actors → AreQueued (map after places) actors
all_after_queued places actors queued j place within ready =
    let here : j < length places = omega (arith, within, length-map places after) in
    queued j place here (subst IsTrue (ap (λ (v : SeatView). v.ready) (get_or-map after places j place place here) ∙ after_ready (get_or places j place)) ready)

pub all_after_limited : (extent : Extent) (places : List SeatView) → ((place : SeatView) → KeepsLimits extent place → KeepsLimits extent (after place)) → All (KeepsLimits extent) places → All (KeepsLimits extent) (map after places)
all_after_limited extent places law limited = All-map (KeepsLimits extent) after places (λ k d within. law _ (limited k d within))

-- an actor that isn't ready stays as it is
pub idle_stays : (place : SeatView) → place.ready ≡ false → after place ≡ place
idle_stays place rests = ap (λ (b : Bool). cond b (with_turn place place.mind) place) rests

-- ---- calls are collected
pub idle_calls : (place : SeatView) → place.ready ≡ false → call_in place ≡ None
idle_calls place rests = ap (λ (b : Bool). cond b (Some place.outbox) None) rests

pub idle_rests : (place : SeatView) → place.ready ≡ false → at_rest place ≡ place
idle_rests place rests = ap (λ (b : Bool). record place { ready = b }) (sym rests)

-- ---- the whole of a scheduling round
turned_mind : (place : SeatView) (m : Option Mind) → place.mind ≡ m → (with_turn place m).mind ≡ option_map (λ mind. (turn mind place.inbox).mind) m
turned_mind place None is = is
turned_mind place (Some m) is = refl

mind_by : (place : SeatView) (answer : Answer) (m : Option Mind) → place.mind ≡ m → place.ready ≡ false → mind_in (at_rest (after (cond (is_some m) (offered place answer) place))) ≡ option_map (λ mind. (turn mind answer).mind) m
mind_by place answer None is rests = ap (λ (b : Bool). mind_in (at_rest (cond b (with_turn place place.mind) place))) rests ∙ is
mind_by place answer (Some m) is rests = turned_mind (offered place answer) place.mind refl ∙ ap (option_map (λ mind. (turn mind answer).mind)) is

mind_round : (place : SeatView) (answer : Option Answer) → place.ready ≡ false → mind_in (at_rest (after (with_answer place answer))) ≡ mind_after (mind_in place) answer
mind_round place None rests = ap (λ (b : Bool). mind_in (at_rest (cond b (with_turn place place.mind) place))) rests
mind_round place (Some answer) rests = mind_by place answer place.mind refl rests

idle_call : (place : SeatView) → place.ready ≡ false → call_in (after place) ≡ None
idle_call place rests = ap call_in (idle_stays place rests) ∙ idle_calls place rests

call_by : (place : SeatView) (answer : Answer) (m : Option Mind) → place.mind ≡ m → place.ready ≡ false → call_in (after (cond (is_some m) (offered place answer) place)) ≡ option_map (λ mind. (turn mind answer).call) m
call_by place answer None is rests = idle_call place rests
call_by place answer (Some m) is rests = ap (λ (o : Option Mind). call_in (with_turn (offered place answer) o)) is

call_round : (place : SeatView) (answer : Option Answer) → place.ready ≡ false → call_in (after (with_answer place answer)) ≡ call_after (mind_in place) answer
call_round place None rests = idle_call place rests
call_round place (Some answer) rests = call_by place answer place.mind refl rests

pub minds_round : (extent : Extent) (places : List SeatView) (answers : List (Option Answer)) → All (IsSeated extent) places → minds_of (map at_rest (map after (zip_with with_answer places answers))) ≡ zip_with mind_after (minds_of places) answers
minds_round extent [] answers seated = refl
minds_round extent (place ∷ places) [] seated = refl
minds_round extent (place ∷ places) (answer ∷ answers) seated =
    let here = All-head (IsSeated extent) place places seated in
    ap₂ (λ (m : Option Mind) (l : List (Option Mind)). m ∷ l) (mind_round place answer here.rests) (minds_round extent places answers (All-tail (IsSeated extent) place places seated))

pub calls_round : (extent : Extent) (places : List SeatView) (answers : List (Option Answer)) → All (IsSeated extent) places → map call_in (map after (zip_with with_answer places answers)) ≡ zip_with call_after (minds_of places) answers
calls_round extent [] answers seated = refl
calls_round extent (place ∷ places) [] seated = refl
calls_round extent (place ∷ places) (answer ∷ answers) seated =
    let here = All-head (IsSeated extent) place places seated in
    ap₂ (λ (c : Option Call) (l : List (Option Call)). c ∷ l) (call_round place answer here.rests) (calls_round extent places answers (All-tail (IsSeated extent) place places seated))

pub all_rested : (extent : Extent) (places : List SeatView) → All (KeepsLimits extent) places → All (IsSeated extent) (map at_rest places)
all_rested extent places limited = All-map (IsSeated extent) at_rest places (λ k d within. record { limited = limited k d within; rests = refl })

-- ---- its steps: the places at first, with answers offered, after the turns, and at rest
all_rest : (extent : Extent) (places : List SeatView) → All (IsSeated extent) places → All Rests places
all_rest extent places seated = λ k d within. (seated k d within).rests

pub can_offered : (extent : Extent) (p0 p1 : List SeatView) (answers : List (Option Answer)) → p1 ≡ zip_with with_answer p0 answers → All (IsSeated extent) p0 → All CanTurn p1
can_offered extent p0 p1 answers is seated = subst (All CanTurn) (sym is) (all_offered_can p0 answers (all_rest extent p0 seated))

pub queued_offered : (extent : Extent) (p0 p1 : List SeatView) (actors : List Actor) → p1 ≡ zip_with with_answer p0 (map inbox_of actors) → length actors ≡ length p0 → All (IsSeated extent) p0 → AreQueued p1 actors
queued_offered extent p0 p1 actors is number seated = subst (λ (l : List SeatView). AreQueued l actors) (sym is) (all_offered_queued p0 actors number (all_rest extent p0 seated))

pub queued_turned : (p1 p2 : List SeatView) (actors : List Actor) → p2 ≡ map after p1 → AreQueued p1 actors → AreQueued p2 actors
queued_turned p1 p2 actors turned queued = subst (λ (l : List SeatView). AreQueued l actors) (sym turned) (all_after_queued p1 actors queued)

pub limited_turned : (extent : Extent) (p1 p2 : List SeatView) → p2 ≡ map after p1 → ((place : SeatView) → KeepsLimits extent place → KeepsLimits extent (after place)) → All (KeepsLimits extent) p1 → All (KeepsLimits extent) p2
limited_turned extent p1 p2 turned law limited = subst (All (KeepsLimits extent)) (sym turned) (all_after_limited extent p1 law limited)

pub seated_again : (extent : Extent) (p2 p3 : List SeatView) → p3 ≡ map at_rest p2 → All (KeepsLimits extent) p2 → All (IsSeated extent) p3
seated_again extent p2 p3 rest limited = subst (All (IsSeated extent)) (sym rest) (all_rested extent p2 limited)

pub minds_turned : (extent : Extent) (p0 p1 p2 p3 : List SeatView) (answers : List (Option Answer)) → p1 ≡ zip_with with_answer p0 answers → p2 ≡ map after p1 → p3 ≡ map at_rest p2 → All (IsSeated extent) p0 → minds_of p3 ≡ zip_with mind_after (minds_of p0) answers
minds_turned extent p0 p1 p2 p3 answers is turned rest seated = ap minds_of (rest ∙ ap (map at_rest) (turned ∙ ap (map after) is)) ∙ minds_round extent p0 answers seated

pub calls_made : (extent : Extent) (p0 p1 p2 : List SeatView) (answers : List (Option Answer)) → p1 ≡ zip_with with_answer p0 answers → p2 ≡ map after p1 → All (IsSeated extent) p0 → map call_in p2 ≡ zip_with call_after (minds_of p0) answers
calls_made extent p0 p1 p2 answers is turned seated = ap (map call_in) (turned ∙ ap (map after) is) ∙ calls_round extent p0 answers seated
