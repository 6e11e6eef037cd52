-- An amount and its completion date, computed at a stamp.
use Rattle.std.proofs.Common.{◌≡◌, ℕ, ◌+◌, ◌-◌, ◌*◌, ◌<◌, ◌≤◌, ◌⊎◌, inl, inr, cond, eqb, eq-eqb, ne_eqb, Option, None, Some, option_map, refl, sym, ap, subst, ◌∙◌, arith}
use Rattle.std.specs.Int.{div_ceil}
use Rattle.std.specs.Option.{IfSome}
use Rattle.std.proofs.Math.Nat.{mul-le-mul_left}
use Rattle.std.proofs.lemmas.Grind.{div_ceil_times}
use Rattle.sg_activity_table.specs.declared.kinds.PhaseKind.{PhaseKind}
use Rattle.sg_activity_table.specs.declared.kinds.PhaseKind.TheVariants as phase
use Rattle.sg_activity_table.specs.Kinds.{is_held}
use Rattle.sg_activity.specs.Underway.{wait}
use Rattle.sg_activity.specs.kept.Stamps.{left_at, due_of, LeftSteps, StampMoves, DueStays}

spread : (a b c : ℕ) → a * (b + c) ≡ a * b + a * c
spread a b c = omega arith

split : (rate stamp now later : ℕ) → stamp ≤ now → now ≤ later → rate * (later - stamp) ≡ rate * (now - stamp) + rate * (later - now)
split rate stamp now later h k = let e : later - stamp ≡ (now - stamp) + (later - now) = omega arith in ap (λ n. rate * n) e ∙ spread rate (now - stamp) (later - now)

pub left_steps_lem : LeftSteps
left_steps_lem kept rate stamp now later h k = omega (arith, split rate stamp now later h k)

pub stamp_moves_lem : StampMoves
stamp_moves_lem kept rate stamp now later h k = sym (left_steps_lem kept rate stamp now later h k)

zero_or : (n : ℕ) → (n ≡ 0) ⊎ (0 < n)
zero_or n = grind arith

wait_zero : (rate left : ℕ) → left ≡ 0 → wait rate left ≡ Some 0
wait_zero rate left e = ap (λ b. cond b (Some 0) (cond (eqb rate 0) None (Some (div_ceil left rate)))) (eq-eqb left 0 e)

pub wait_never : (rate left : ℕ) → 0 < left → rate ≡ 0 → wait rate left ≡ None
wait_never rate left some e =
    ap (λ b. cond b (Some 0) (cond (eqb rate 0) None (Some (div_ceil left rate)))) (ne_eqb left 0 (λ q. omega (arith, q, some)))
    ∙ ap (λ b. cond b None (Some (div_ceil left rate))) (eq-eqb rate 0 e)

wait_span : (rate left : ℕ) → 0 < left → 0 < rate → wait rate left ≡ Some (div_ceil left rate)
wait_span rate left some pos =
    ap (λ b. cond b (Some 0) (cond (eqb rate 0) None (Some (div_ceil left rate)))) (ne_eqb left 0 (λ q. omega (arith, q, some)))
    ∙ ap (λ b. cond b None (Some (div_ceil left rate))) (ne_eqb rate 0 (λ q. omega (arith, q, pos)))

-- In this time the rate takes what is left, and in no shorter one.
pub record IsWait (rate left span : ℕ) : Type 0 where
  pub enough : left ≤ rate * span
  pub short : (before : ℕ) → before < span → rate * before < left

some_is : {X : Type 0} {x y : X} → Some x ≡ Some y → x ≡ y
some_is e = cc e

turn_round : (a b : ℕ) → a * b ≡ b * a
turn_round a b = omega arith

next_times : (a b : ℕ) → a * (b + 1) ≡ a * b + a
next_times a b = omega arith

ceil_waits : (rate left : ℕ) → 0 < rate → IsWait rate left (div_ceil left rate)
ceil_waits rate left pos = at (div_ceil left rate) (div_ceil_times left rate pos)
  where
    at : (q : ℕ) → (left ≤ q * rate) × (q * rate < left + rate) → IsWait rate left q
    at q h = record {
      enough = omega (arith, h.0, turn_round q rate);
      short = λ before less. omega (arith, h.1, turn_round q rate, next_times rate before, times rate (before + 1) q (omega (arith, less)));
    }
      where
        times : (a b c : ℕ) → b ≤ c → a * b ≤ a * c
        times a b c le = mul-le-mul_left a le

pub is_wait : (rate left span : ℕ) → wait rate left ≡ Some span → IsWait rate left span
is_wait rate left span e = elim (zero_or left) [
  | inl none ↦ subst (IsWait rate left) (some_is (sym (wait_zero rate left none) ∙ e)) (record { enough = omega (arith, none); short = λ before less. absurd (omega (arith, less)) })
  | inr some ↦ elim (zero_or rate) [
    | inl stops ↦ absurd (cc (sym (wait_never rate left some stops) ∙ e))
    | inr pos ↦ subst (IsWait rate left) (some_is (sym (wait_span rate left some pos) ∙ e)) (ceil_waits rate left pos)
  ]
]

order : (a b : ℕ) → (a < b) ⊎ ((a ≡ b) ⊎ (b < a))
order a b = grind arith

same_wait : (rate left a b : ℕ) → IsWait rate left a → IsWait rate left b → a ≡ b
same_wait rate left a b h k = elim (order a b) [
  | inl less ↦ absurd (omega (arith, h.enough, k.short a less))
  | inr (inl e) ↦ e
  | inr (inr more) ↦ absurd (omega (arith, k.enough, h.short b more))
]

pub wait_is : (rate left span : ℕ) → IsWait rate left span → wait rate left ≡ Some span
wait_is rate left span h = elim (zero_or left) [
  | inl none ↦ wait_zero rate left none ∙ ap Some (same_wait rate left 0 span (record { enough = omega (arith, none); short = λ before less. absurd (omega (arith, less)) }) h)
  | inr some ↦ elim (zero_or rate) [
    | inl stops ↦ absurd (omega (arith, subst (λ r. left ≤ r * span) stops h.enough, some))
    | inr pos ↦ wait_span rate left some pos ∙ ap Some (same_wait rate left (div_ceil left rate) span (ceil_waits rate left pos) h)
  ]
]

pub never_is : (rate left : ℕ) → wait rate left ≡ None → (rate ≡ 0) × (0 < left)
never_is rate left e = elim (zero_or left) [
  | inl none ↦ absurd (cc (sym e ∙ wait_zero rate left none))
  | inr some ↦ elim (zero_or rate) [
    | inl stops ↦ (stops, some)
    | inr pos ↦ absurd (cc (sym e ∙ wait_span rate left some pos))
  ]
]

-- so much later the wait is so much shorter
pub wait_shorter : (rate left span time : ℕ) → IsWait rate left span → time ≤ span → IsWait rate (left - rate * time) (span - time)
wait_shorter rate left span time h le =
    let whole : rate * span ≡ rate * time + rate * (span - time) = (let e : span ≡ time + (span - time) = omega arith in ap (λ n. rate * n) e ∙ spread rate time (span - time)) in
    record {
      enough = omega (arith, h.enough, whole);
      short = λ before less. omega (arith, h.short (before + time) (omega (arith, less)), spread rate before time);
    }

pub due_stays_lem : DueStays
due_stays_lem kept rate stamp now h before = go (wait rate kept) refl before
  where
    go : (o : Option ℕ) → wait rate kept ≡ o → IfSome (option_map (λ span. stamp + span) o) (λ due. now ≤ due) → due_of now (left_at kept rate stamp now) rate ≡ option_map (λ span. stamp + span) o
    go None e _ =
        let is = never_is rate kept e in
        ap (option_map (λ span. now + span)) (wait_never rate (left_at kept rate stamp now) (subst (λ r. 0 < kept - r * (now - stamp)) (sym is.0) (omega (arith, is.1))) is.0)
    go (Some span) e le =
        let less : now - stamp ≤ span = omega (arith, le) in
        let sum : now + (span - (now - stamp)) ≡ stamp + span = omega (arith, less, h) in
        ap (option_map (λ s. now + s)) (wait_is rate (left_at kept rate stamp now) (span - (now - stamp)) (wait_shorter rate kept span (now - stamp) (is_wait rate kept span e) less)) ∙ ap Some sum

-- ---- by kind
-- the completion date of a phase of any kind, computed at a date that isn't after it
pub due_stays_by : (kind : PhaseKind) (kept rate stamp now : ℕ) → stamp ≤ now → IfSome (cond (is_held kind) None (due_of stamp kept rate)) (λ due. now ≤ due) → cond (is_held kind) None (due_of stamp kept rate) ≡ option_map (λ span. now + span) (cond (is_held kind) None (wait rate (left_at kept rate stamp now)))
due_stays_by phase.Latency kept rate stamp now h before = sym (due_stays_lem kept rate stamp now h before)
due_stays_by phase.Flow kept rate stamp now h before = sym (due_stays_lem kept rate stamp now h before)
due_stays_by phase.Exec kept rate stamp now h before = sym (due_stays_lem kept rate stamp now h before)
due_stays_by phase.Timer kept rate stamp now h before = sym (due_stays_lem kept rate stamp now h before)
due_stays_by phase.Kept kept rate stamp now h before = refl

pub wait_by_some : (kind : PhaseKind) (time : Option ℕ) (n : ℕ) → cond (is_held kind) None time ≡ Some n → time ≡ Some n
wait_by_some phase.Latency time n e = e
wait_by_some phase.Flow time n e = e
wait_by_some phase.Exec time n e = e
wait_by_some phase.Timer time n e = e
wait_by_some phase.Kept time n e = absurd (cc e)

-- what begins now isn't over yet
pub fresh_in_time : (kind : PhaseKind) (date rate kept : ℕ) → IfSome (cond (is_held kind) None (due_of date kept rate)) (λ due. date ≤ due)
fresh_in_time kind date rate kept = by_kind kind
  where
    go : (o : Option ℕ) → IfSome (option_map (λ span. date + span) o) (λ due. date ≤ due)
    go None = tt
    go (Some span) = omega arith

    by_kind : (kind : PhaseKind) → IfSome (cond (is_held kind) None (due_of date kept rate)) (λ due. date ≤ due)
    by_kind phase.Latency = go (wait rate kept)
    by_kind phase.Flow = go (wait rate kept)
    by_kind phase.Exec = go (wait rate kept)
    by_kind phase.Timer = go (wait rate kept)
    by_kind phase.Kept = tt
