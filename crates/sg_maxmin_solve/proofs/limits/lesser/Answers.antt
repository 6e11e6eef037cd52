use Rattle.std.proofs.Common.{◌≡◌, ◌++◌, ℕ, Option, List, [], Some, sym, subst, append-nil}
use Rattle.sg_maxmin.specs.Step.{IsLeast}
use Rattle.sg_maxmin_solve.specs.Filling.{IsLow}
use Rattle.sg_maxmin.proofs.Least.{least_join}
use Rattle.sg_maxmin_solve.proofs.limits.lesser.Goals as goal

pub returns-in-Some-clause-low : goal.returns-in-Some-clause-low
returns-in-Some-clause-low c = λ levels bounds h k.
    let least : IsLeast (Some c.in-Some.bound) bounds = subst (λ (o : Option ℕ). IsLeast o bounds) c.in-Some.is k in (
      subst (λ (n : ℕ). IsLeast (Some n) (levels ++ bounds)) (sym c.lesser_of.ensures.lesser) (least_join c.args.least.level levels bounds c.in-Some.bound h least),
      least.1,
    )

pub returns-in-None-clause-low : goal.returns-in-None-clause-low
returns-in-None-clause-low c = λ levels bounds h k.
    let none : bounds ≡ [] = subst (λ (o : Option ℕ). IsLeast o bounds) c.in-None.is k in
    subst (λ (bs : List ℕ). IsLow c.unbounded.result (levels ++ bs) bs) (sym none) (subst (λ (xs : List ℕ). IsLow c.unbounded.result xs []) (sym (append-nil levels)) (c.unbounded.ensures.low levels h))
