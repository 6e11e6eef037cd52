-- The generator, draw by draw.
use Rattle.std.proofs.Common.{◌≡◌, ℕ, zero, suc, ◌+◌, ◌*◌, ◌%◌, codes, None, ap, ◌∙◌, refl, arith, add-one}
use Rattle.std.specs.Fn.{iterate}
use Rattle.sg_base.specs.Draw.{drawn, next_state}
use Rattle.sg_platform_churn.specs.Generated.{drawn_after, churn_host, link_of, link_with, churn_name}
use Rattle.sg_platform_rows.specs.declared.rows.HostRow.{HostRow}
use Rattle.sg_platform_rows.specs.declared.rows.LinkRow.{LinkRow}

-- the state after one draw more is that after as many from the next state
drawn_first : (draws seed : ℕ) → next_state (iterate next_state draws seed) ≡ iterate next_state draws (next_state seed)
drawn_first zero seed = refl
drawn_first (suc draws) seed = drawn_first draws (next_state seed)

more_draws : (seed draws : ℕ) → next_state (iterate next_state draws seed) ≡ iterate next_state (draws + 1) seed
more_draws seed draws = rw (add-one draws) (drawn_first draws seed)

-- the state after one draw more
pub next_drawn : (seed draws more state next : ℕ) → more ≡ draws + 1 → state ≡ iterate next_state draws seed → next ≡ next_state state → next ≡ iterate next_state more seed
next_drawn seed draws more state next one here made =
    let same : draws + 1 ≡ more = omega arith in
    made ∙ ap next_state here ∙ more_draws seed draws ∙ ap (λ (n : ℕ). iterate next_state n seed) same

-- what is drawn in this state
pub drawn_here : (seed draws most state n : ℕ) → state ≡ iterate next_state draws seed → n ≡ 1 + drawn state % most → n ≡ drawn_after seed draws most
unfolding drawn_after
drawn_here seed draws most state n here drawn_now = drawn_now ∙ ap (λ s. 1 + drawn s % most) here

abbrev host_with : ℕ → ℕ → HostRow
host_with row speed = record { id = churn_name (codes "h") row; zone = record { 0 = 0 }; speed = speed; cores = 1; power = None }

pub host_drawn : (seed row speed : ℕ) (host : HostRow) → host ≡ host_with row (speed * 100000000) → speed ≡ drawn_after seed (3 * row) 8 → host ≡ churn_host seed row
host_drawn seed row speed host made drawn = made ∙ ap (λ s. host_with row (s * 100000000)) drawn

pub link_drawn : (seed row bandwidth latency : ℕ) (made : LinkRow) → made ≡ link_with (churn_name (codes "l") row) (bandwidth * 1000000) (latency * 1000)
    → bandwidth ≡ drawn_after seed (3 * row + 1) 8 → latency ≡ drawn_after seed (3 * row + 2) 100 → made ≡ link_of seed row
link_drawn seed row bandwidth latency made is first second =
    is ∙ ap (λ b. link_with (churn_name (codes "l") row) (b * 1000000) (latency * 1000)) first
    ∙ ap (λ l. link_with (churn_name (codes "l") row) (drawn_after seed (3 * row + 1) 8 * 1000000) (l * 1000)) second
