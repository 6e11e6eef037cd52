-- Actors that take their slots.
use Rattle.std.proofs.Common.{◌≡◌, ◌∙◌, sym, ap, ap₂, subst, refl, ℕ, zero, suc, ◌+◌, ◌<◌, ◌≤◌, List, [], ◌∷◌, ◌++◌, length, map, take, get_or, Option, None, Some, Bool, true, false, cond, IsTrue, ◌-◌, arith, length-append}
use Rattle.std.specs.List.{count_by}
use Rattle.std.specs.Prelude.{All, IfSome}
use Rattle.std.proofs.lemmas.List.Sums.{count_by_more_no, count_by_more_yes, sum_by-take-drop}
use Rattle.std.proofs.lemmas.List.{get_or_append_left, map-append}
use Rattle.std.proofs.Math.Seq.{get_or-append_seam}
use Rattle.std.proofs.lemmas.List.Elements.{All-append, All-cons, All-nil}
use Rattle.sg_actor.specs.Seats.{SeatView}
use Rattle.sg_base.specs.Limits.{Extent}
use Rattle.sg_base.specs.Mind.{Mind, IsMind}
use Rattle.sg_base.specs.declared.call.Answer.TheVariants.{Start}
use Rattle.sg_base.specs.declared.call.Call.TheVariants.{Ask}
use Rattle.sg_actor.specs.Roles.{CanCast, IsRole}
use Rattle.sg_platform_rows.specs.Deployment.{IsFunction, starts}
use Rattle.sg_platform_rows.specs.declared.rows.ActorRow.{ActorRow}
use Rattle.sg_platform_rows.specs.declared.rows.Function.{Function}
use Rattle.sg_platform_rows.specs.declared.rows.Function.TheVariants.{Replay, Worker, Master, Churn}
use Rattle.sg_engine.specs.Roles.{mind_at, role_of}
use Rattle.sg_engine.specs.kept.Listed.{first_mind, minds_from}
use Rattle.sg_engine.specs.kept.SeatRules.{mind_in, minds_of, IsSeated}

pub seated_first : (extent : Extent) (o : Option Mind) → IfSome o (IsMind extent) → IsSeated extent (record { mind = o; inbox = Start; outbox = Ask; ready = false })
seated_first extent o limited = record { limited = (limited, tt, tt); rests = refl }

-- a mind at first, if the actor starts
pub first_limited : (extent : Extent) (me : ℕ) (row : ActorRow) → IsMind extent (mind_at me row) → IfSome (first_mind me row) (IsMind extent)
first_limited extent me row limited = elim row.start as (λ (b : Bool). IfSome (cond b (Some (mind_at me row)) None) (IsMind extent)) [ true ↦ limited | false ↦ tt ]

-- the function of a row can be played
pub function_can : (extent : Extent) (me : ℕ) (function : Function) → IsFunction extent function → CanCast (role_of me function)
function_can extent me Replay is = tt
function_can extent me Worker is = tt
function_can extent me (Master tasks flops bytes workers) is = (is.3, omega (arith, is.0, is.4))
function_can extent me (Churn seed next prev steps) is = tt

pub function_is : (extent : Extent) (me : ℕ) (function : Function) → 0 < me → me ≤ extent.actors → IsFunction extent function → IsRole extent (role_of me function)
function_is extent me Replay from to is = (from, to)
function_is extent me Worker from to is = (from, to)
function_is extent me (Master tasks flops bytes workers) from to is = (is.1, is.2, is.3, is.5)
function_is extent me (Churn seed next prev steps) from to is = ((from, to), is.1, is.2)

minds_next : (me : ℕ) (rows : List ActorRow) (i : ℕ) (d : ActorRow) → i < length rows → minds_from me (take (suc i) rows) ≡ minds_from me (take i rows) ++ first_mind (me + i) (get_or rows i d) ∷ []
minds_next me [] i d within = absurd (omega (arith, within))
minds_next me (row ∷ rows) zero d within = let same : me ≡ me + 0 = omega arith in ap (λ (n : ℕ). first_mind n row ∷ []) same
minds_next me (row ∷ rows) (suc i) d within =
    let same : me + 1 + i ≡ me + suc i = omega arith in
    ap (λ (l : List (Option Mind)). first_mind me row ∷ l) (minds_next (me + 1) rows i d (omega (arith, within)) ∙ ap (λ (n : ℕ). minds_from (me + 1) (take i rows) ++ first_mind n (get_or rows i d) ∷ []) same)

-- one actor more
pub minds_more : (rows : List ActorRow) (i : ℕ) (row : ActorRow) → i < length rows → row ≡ get_or rows i row → minds_from 1 (take (i + 1) rows) ≡ minds_from 1 (take i rows) ++ first_mind (i + 1) row ∷ []
minds_more rows i row within is =
    let next : i + 1 ≡ suc i = omega arith in
    let me : 1 + i ≡ i + 1 = omega arith in
    ap (λ (n : ℕ). minds_from 1 (take n rows)) next
    ∙ minds_next 1 rows i row within
    ∙ ap₂ (λ (n : ℕ) (r : ActorRow). minds_from 1 (take i rows) ++ first_mind n r ∷ []) me (sym is)

-- how many start of one row more
starts_by : (rows : List ActorRow) (i : ℕ) (row : ActorRow) (b : Bool) → row.start ≡ b → i < length rows → row ≡ get_or rows i row → count_by starts (take (i + 1) rows) ≡ count_by starts (take i rows) + cond b 1 0
starts_by rows i row true start within is = count_by_more_yes starts rows i row within (ap (λ (r : ActorRow). r.start) (sym is) ∙ start)
starts_by rows i row false start within is = omega (arith, count_by_more_no starts rows i row within (ap (λ (r : ActorRow). r.start) (sym is) ∙ start))

pub starts_more : (rows : List ActorRow) (i : ℕ) (row : ActorRow) → i < length rows → row ≡ get_or rows i row → count_by starts (take (i + 1) rows) ≡ count_by starts (take i rows) + cond row.start 1 0
starts_more rows i row within is = starts_by rows i row row.start refl within is

pub starts_within : (rows : List ActorRow) (i : ℕ) → count_by starts (take i rows) ≤ count_by starts rows
starts_within rows i = omega (arith, sum_by-take-drop (λ (r : ActorRow). cond (starts r) 1 0) rows i)

-- so a context is left for one that starts
pub left_some : (rows : List ActorRow) (i : ℕ) (row : ActorRow) (crew left : ℕ) → i < length rows → row ≡ get_or rows i row → count_by starts rows ≤ crew → left + count_by starts (take i rows) ≡ crew → IsTrue row.start → 0 < left
left_some rows i row crew left within is enough taken start =
    let one : ◌≡◌ {A = ℕ} (cond row.start 1 0) 1 = ap {B = ℕ} (λ (b : Bool). cond b 1 0) start in
    omega (arith, starts_within rows (i + 1), starts_more rows i row within is, one, enough, taken)

pub taken_more : (b : Bool) (new left t s crew : ℕ) → (IsTrue b → 0 < left) → left + s ≡ crew → new ≡ left - cond b 1 0 → t ≡ s + cond b 1 0 → new + t ≡ crew
taken_more true new left t s crew some taken less more = omega (arith, some refl, taken, less, more)
taken_more false new left t s crew some taken less more = omega (arith, taken, less, more)

pub function_of : (extent : Extent) (actors rows : List ActorRow) (i : ℕ) (row : ActorRow) → i < length rows → row ≡ get_or rows i row → rows ≡ actors → All (λ actor. IsFunction extent actor.function) actors → IsFunction extent row.function
function_of extent actors rows i row within is same all =
    subst (λ (r : ActorRow). IsFunction extent r.function) (ap (λ (l : List ActorRow). get_or l i row) (sym same) ∙ sym is) (all i row (omega (arith, within, ap length same)))

-- ---- one more
pub all_but_last : {X : Type 0} (P : X → Type 0) (all front : List X) (last : X) → all ≡ front ++ last ∷ [] → All P all → All P front
all_but_last P all front last is each = λ k d within.
    subst P (get_or_append_left front (last ∷ []) d k within) (subst (All P) is each k d (omega (arith, within, length-append front (last ∷ []))))

pub the_last : {X : Type 0} (P : X → Type 0) (all front : List X) (last : X) → all ≡ front ++ last ∷ [] → All P all → P last
the_last P all front last is each =
    subst P (get_or-append_seam front last [] last) (subst (All P) is each (length front) last (omega (arith, length-append front (last ∷ []))))

pub seats_more : {S : Type 0} (see : S → SeatView) (items items' : List S) (s : S) (minds : List (Option Mind)) (m : Option Mind) → items' ≡ items ++ s ∷ [] → minds_of (map see items) ≡ minds → mind_in (see s) ≡ m → minds_of (map see items') ≡ minds ++ m ∷ []
seats_more {S} see items items' s minds m is before mine =
    ap (λ (l : List S). minds_of (map see l)) is
    ∙ ap minds_of (map-append see items (s ∷ []))
    ∙ map-append mind_in (map see items) (see s ∷ [])
    ∙ ap₂ (λ (l : List (Option Mind)) (n : Option Mind). l ++ n ∷ []) before mine

pub all_seated_more : {S : Type 0} (see : S → SeatView) (extent : Extent) (items items' : List S) (s : S) → items' ≡ items ++ s ∷ [] → All (IsSeated extent) (map see items) → IsSeated extent (see s) → All (IsSeated extent) (map see items')
all_seated_more see extent items items' s is before mine =
    subst (All (IsSeated extent)) (sym (ap (map see) is ∙ map-append see items (s ∷ [])))
    (All-append (IsSeated extent) (map see items) (see s ∷ []) before (All-cons (IsSeated extent) (see s) [] mine (All-nil (IsSeated extent))))
