-- More scheduling rounds and time advances than a run needs.
use Rattle.std.proofs.Common.{◌≡◌, ◌∙◌, ap, refl, ℕ, zero, suc, ◌+◌, Bool, true, false, cond, Option, None, Some, arith}
use Rattle.std.specs.Prelude.{IsSome}
use Rattle.sg_engine.specs.World.{World}
use Rattle.sg_engine.specs.declared.ended.Ended.{Ended}
use Rattle.sg_engine.specs.declared.ended.Ended.TheVariants as ended
use Rattle.sg_engine.specs.Fuel.{parts_from, MoreChangesNothing}
use Rattle.sg_engine.specs.Run.{Progress, are_completed, at_world, with_front, and_then_by, round_or_pass, run_from}

after_first : (how : Option Ended) (first : Progress) (f g : World → Progress) → (IsSome (g first.world).ended → f first.world ≡ g first.world) → IsSome (and_then_by how first g).ended → and_then_by how first f ≡ and_then_by how first g
after_first None first f g same some = ap (with_front first.made) (same some)
after_first (Some how) first f g same some = refl

unless_over : (b : Bool) (over x y : Progress) → (IsSome y.ended → x ≡ y) → IsSome (cond b over y).ended → cond b over x ≡ cond b over y
unless_over true over x y same some = refl
unless_over false over x y same some = same some

pub more_same : MoreChangesNothing
unfolding parts_from run_from
more_same zero more at answers world some = absurd (cc some)
more_same (suc n) more at answers world some =
    let e : suc n + more ≡ suc (n + more) = omega arith in
    let first = round_or_pass at answers world in
    ap (λ (k : ℕ). run_from k at answers world) e
    ∙ unless_over (are_completed world.core) (at_world (Some ended.Completed) world) (and_then_by first.ended first (run_from (n + more) at answers)) (and_then_by first.ended first (parts_from n at answers))
    (after_first first.ended first (run_from (n + more) at answers) (parts_from n at answers) (more_same n more at answers first.world)) some
