-- Amounts that are kept as they were at a stamp, and when they end.
use Rattle.std.specs.Prelude.{◌≡◌, ℕ, ◌+◌, ◌-◌, ◌*◌, ◌≤◌, Option, option_map, IfSome}
use Rattle.sg_activity.specs.Underway.{wait}

-- the remaining work now, from that at the stamp and this rate
abbrev pub left_at : ℕ → ℕ → ℕ → ℕ → ℕ
left_at kept rate stamp now = kept - rate * (now - stamp)

-- the date at which an amount is used up, of which so much remains now; none: never
abbrev pub due_of : ℕ → ℕ → ℕ → Option ℕ
due_of now left rate = option_map (λ span. now + span) (wait rate left)

-- Going to a date in two steps takes what going there in one takes.
abbrev pub LeftSteps : Type 0
LeftSteps = (kept rate stamp now later : ℕ) → stamp ≤ now → now ≤ later → left_at kept rate stamp later ≡ left_at kept rate stamp now - rate * (later - now)

-- A stamp may be moved to now, with the remaining work now.
abbrev pub StampMoves : Type 0
StampMoves = (kept rate stamp now later : ℕ) → stamp ≤ now → now ≤ later → left_at (left_at kept rate stamp now) rate now later ≡ left_at kept rate stamp later

-- The completion date computed at the stamp is that of now, as long as now isn't after it.
abbrev pub DueStays : Type 0
DueStays = (kept rate stamp now : ℕ) → stamp ≤ now → IfSome (due_of stamp kept rate) (λ due. now ≤ due) → due_of now (left_at kept rate stamp now) rate ≡ due_of stamp kept rate
