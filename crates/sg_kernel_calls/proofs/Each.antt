-- Steps one after another.
use Rattle.std.proofs.Common.{◌≡◌, ◌≢◌, ℕ, ◌-◌, ◌==◌, true, false, Option, None, Some, Result, Ok, Err, List, [], ◌∷◌, refl, sym, ap, ap₂, ◌∙◌, arith, append_assoc, append-nil}
use Rattle.std.specs.Prelude.{OnOk}
use Rattle.sg_base.specs.declared.trace_record.Record.{Record}
use Rattle.sg_kernel_calls.specs.declared.stop.Stop.{Stop}
use Rattle.sg_kernel_calls.specs.declared.stop.Stop.TheVariants.{Budget}
use Rattle.sg_kernel_calls.specs.World.{Core}
use Rattle.sg_kernel_calls.specs.Steps.{Step, goes_on, stops, result_of, follows, and_then, each, all_of}
use Rattle.sg_kernel_calls.specs.Known.{Known, after, after_call}

pub eq_no : (a b : ℕ) → a ≢ b → (a == b) ≡ false
eq_no a b h = grind (arith, h)

pub eq_yes : (a b : ℕ) → a ≡ b → (a == b) ≡ true
eq_yes a b h = grind (arith, h)

-- ---- if the first of two steps continues, the second one follows
pub then_after : (first : Step) (next : Core → Step) (known : Known) → first.stop ≡ None → after (next first.core) (after first known) ≡ after (and_then first next) known
then_after first next known on =
    ap (λ r. record known { core = (next first.core).core; records = r }) (append_assoc known.records first.made (next first.core).made)
    ∙ ap (λ o. after (follows o first (next first.core)) known) (sym on)

pub then_stops : (first : Step) (next : Core → Step) → first.stop ≡ None → (and_then first next).stop ≡ (next first.core).stop
then_stops first next on = ap (λ o. (follows o first (next first.core)).stop) on

pub both_on : (first : Step) (next : Core → Step) → first.stop ≡ None → ((core : Core) → (next core).stop ≡ None) → (and_then first next).stop ≡ None
both_on first next one two = then_stops first next one ∙ two first.core

-- if the first one stops, nothing follows
pub then_none : (first : Step) (next : Core → Step) (why : Stop) → first.stop ≡ Some why → and_then first next ≡ first
then_none first next why e = ap (λ o. follows o first (next first.core)) e

-- what a result says of the step
pub on_ok : (o : Option Stop) → result_of o ≡ Ok tt → o ≡ None
on_ok None e = refl
on_ok (Some why) e = absurd (cc e)

pub on_err : (o : Option Stop) (why : Stop) → result_of o ≡ Err why → o ≡ Some why
on_err None why e = absurd (cc e)
on_err (Some other) why e = cc e

-- what holds anyway holds if it went well
pub ok_anyway : {P : Type 0} (result : Result Unit Stop) → P → OnOk result P
ok_anyway (Ok u) p = p
ok_anyway (Err why) p = tt

-- a stop makes nothing, and changes nothing
pub after_stop : (known : Known) (why : Stop) → after (stops known.core [] why) known ≡ known
after_stop known why = ap (λ r. record known { records = r }) (append-nil known.records)

-- so it is if a call isn't answered
pub refused : (known : Known) (why : Stop) → known ≡ after_call false (stops known.core [] why) known
refused known why = (let same : known.room ≡ known.room - 0 = omega arith in ap₂ (λ (r : List Record) (n : ℕ). record known { records = r; room = n }) (sym (append-nil known.records)) same)

-- a call that makes no record
pub called_alone : (known : Known) (core : Core) → record known { core = core; room = known.room - 1 } ≡ after_call true (goes_on core []) known
called_alone known core = ap (λ r. record known { core = core; records = r; room = known.room - 1 }) (sym (append-nil known.records))

-- ---- one after another
-- what is known after what the definition still says, and why it stops then
abbrev pub still : {X : Type 0} → (X → Core → Step) → List X → Known → Known
still does left known = after (each does left known.core) known

abbrev pub still_stops : {X : Type 0} → (X → Core → Step) → List X → Known → Option Stop
still_stops does left known = (each does left known.core).stop

pub still_none : {X : Type 0} (does : X → Core → Step) (known : Known) → still does [] known ≡ known
unfolding each
still_none does known = ap (λ r. record known { records = r }) (append-nil known.records)

pub stops_none : {X : Type 0} (does : X → Core → Step) (known : Known) → still_stops does [] known ≡ None
unfolding each
stops_none does known = refl

pub still_one : {X : Type 0} (does : X → Core → Step) (x : X) (left : List X) (known : Known) → (does x known.core).stop ≡ None → still does left (after (does x known.core) known) ≡ still does (x ∷ left) known
unfolding each
still_one does x left known on = then_after (does x known.core) (each does left) known on

pub stops_one : {X : Type 0} (does : X → Core → Step) (x : X) (left : List X) (known : Known) → (does x known.core).stop ≡ None → still_stops does left (after (does x known.core) known) ≡ still_stops does (x ∷ left) known
unfolding each
stops_one does x left known on = sym (then_stops (does x known.core) (each does left) on)

-- if one stops, nothing follows
pub each_stops : {X : Type 0} (does : X → Core → Step) (x : X) (left : List X) (core : Core) (why : Stop) → (does x core).stop ≡ Some why → each does (x ∷ left) core ≡ does x core
unfolding each
each_stops does x left core why e = ap (λ o. follows o (does x core) (each does left (does x core).core)) e

-- one that continues, and then the others
pub still_next : {X : Type 0} (does : X → Core → Step) (x : X) (left : List X) (known next : Known) → next ≡ after (does x known.core) known → (does x known.core).stop ≡ None →
    (still does left next ≡ still does (x ∷ left) known) × (still_stops does left next ≡ still_stops does (x ∷ left) known)
still_next does x left known next is on = (
  ap (still does left) is ∙ still_one does x left known on,
  ap (still_stops does left) is ∙ stops_one does x left known on,
)

-- or one that stops
pub still_last : {X : Type 0} (does : X → Core → Step) (x : X) (left : List X) (known next : Known) (why : Stop) → next ≡ after (does x known.core) known → (does x known.core).stop ≡ Some why →
    (next ≡ still does (x ∷ left) known) × (still_stops does (x ∷ left) known ≡ Some why)
still_last does x left known next why is e =
    let all = each_stops does x left known.core why e in
    (is ∙ ap (λ s. after s known) (sym all), ap (λ (s : Step). s.stop) all ∙ e)

-- or one that the budget stops before it begins
pub still_used_up : {X : Type 0} (does : X → Core → Step) (x : X) (left : List X) (known : Known) → does x known.core ≡ stops known.core [] Budget →
    (still does (x ∷ left) known ≡ known) × (still_stops does (x ∷ left) known ≡ Some Budget)
still_used_up does x left known stopped =
    let all : each does (x ∷ left) known.core ≡ stops known.core [] Budget = each_stops does x left known.core Budget (ap (λ (s : Step). s.stop) stopped) ∙ stopped in
    (ap (λ s. after s known) all ∙ after_stop known Budget, ap (λ (s : Step). s.stop) all)

pub each_on : {X : Type 0} (does : X → Core → Step) → ((x : X) (core : Core) → (does x core).stop ≡ None) → (xs : List X) (core : Core) → (each does xs core).stop ≡ None
unfolding each
each_on does on [] core = refl
each_on does on (x ∷ xs) core = then_stops (does x core) (each does xs) (on x core) ∙ each_on does on xs (does x core).core

-- ---- stretches
-- one stretch alone
pub all_of-one : (step : Core → Step) (core : Core) → all_of (step ∷ []) core ≡ step core
unfolding all_of
all_of-one step core = cases (step core).stop refl
  where
    cases : (o : Option Stop) → (step core).stop ≡ o → all_of (step ∷ []) core ≡ step core
    cases None e = ap (λ o. follows o (step core) (all_of [] (step core).core)) e ∙ ap (λ (m : List Record). record { core = (step core).core; made = m; stop = None }) (append-nil (step core).made) ∙ ap (λ o. record { core = (step core).core; made = (step core).made; stop = o }) (sym e)
    cases (Some why) e = ap (λ o. follows o (step core) (all_of [] (step core).core)) e

-- two stretches
pub all_of-two : (one two : Core → Step) (core : Core) → all_of (one ∷ two ∷ []) core ≡ and_then (one core) two
unfolding all_of
all_of-two one two core = ap (follows (one core).stop (one core)) (all_of-one two (one core).core)
