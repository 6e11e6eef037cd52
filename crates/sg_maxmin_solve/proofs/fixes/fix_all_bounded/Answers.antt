use Rattle.std.proofs.Common.{◌≡◌, ◌∙◌, zero, suc, inl, inr, Option, List, ◌<◌, ℕ, true, IsSome, Some, None, length, [], ◌∷◌, get_or, below_more, refl, sym, subst, arith}
use Rattle.std.proofs.lemmas.List.Elements.{All-get_or}
use Rattle.sg_base.specs.MarkSet.{is_in}
use Rattle.sg_maxmin.specs.Sharing.{flow_at}
use Rattle.sg_maxmin.specs.Step.{IsLeast}
use Rattle.sg_maxmin_solve.specs.Filling.{fixed_at, limits_at}
use Rattle.sg_maxmin_solve.proofs.Fixing.{above_still, count_same, in_one, partly_on, partly_same, some_stays}
use Rattle.sg_maxmin_solve.proofs.Floors.{over_bound}
use Rattle.sg_maxmin.proofs.Members.{In}
use Rattle.sg_maxmin.proofs.Listed.{in_at}
use Rattle.sg_maxmin_solve.proofs.fixes.fix_all_bounded.Goals as goal

unfixed_or : (o : Option ℕ) → (o ≡ None → ⊥) → IsSome o
unfixed_or None h = absurd (h refl)
unfixed_or (Some x) h = refl

in_index : (xs : List ℕ) (i : ℕ) → i < length xs → In (get_or xs i 0) xs
in_index [] i h = absurd (omega arith)
in_index (x ∷ xs) zero h = inl refl
in_index (x ∷ xs) (suc i) h = inr (in_index xs i (omega arith))

pub loop-flow-init : goal.loop-flow-init
loop-flow-init g c = record {
  partly = partly_same c.args.system.now c.args.low c.args.filling.now c.requires.places;
  agenda = refl;
  holds = refl;
  bounds = λ i h. absurd (omega (arith, h));
  count = count_same c.args.system.now c.args.touched.now c.args.filling.now c.args.steps.now;
}

pub fix_bounded-requires-clause-above : goal.fix_bounded-requires-clause-above
fix_bounded-requires-clause-above g c =
    let s = c.args.system.now in
    let touched = c.args.touched.now in
    let f = get_or touched c.loop-flow.flow-index 0 in
    above_still s touched (f ∷ []) c.args.low c.args.filling.now c.loop-flow.filling c.loop-flow.invariant.partly
    (λ id i. subst (λ n. is_in n touched ≡ true) (sym (in_one id f i)) (in_at f touched c.loop-flow.flow-index c.loop-flow-test.true refl)) c.requires.above

pub loop-flow-preserved : goal.loop-flow-preserved
loop-flow-preserved g c =
    let s = c.args.system.now in
    let touched = c.args.touched.now in
    let k = c.loop-flow.flow-index in
    let f = get_or touched k 0 in
    let inv = c.loop-flow.invariant in
    let out = c.fix_bounded.ensures in
    let first = c.args.filling.now in
    let old = c.loop-flow.filling in
    let new = c.fix_bounded.new.filling in
    let a = inv.count in
    let b = out.fixes.count touched c.requires.once (in_at f touched k c.loop-flow-test.true refl) in
    record {
      partly = partly_on s c.args.low first old new inv.partly out.fixes.fixes.partly;
      agenda = out.fixes.fixes.agenda ∙ inv.agenda;
      holds = out.fixes.fixes.holds ∙ inv.holds;
      bounds = below_more _ _
          (λ i h e. let id = get_or touched i 0 in some_stays c.args.low (IsLeast (Some c.args.low) (limits_at s.slots old.levels.items id)) (fixed_at old.fixed.items id) (fixed_at new.fixed.items id) (out.fixes.fixes.partly.flows id) (inv.bounds i h e))
          out.done;
      count = record { counted = λ r h. b.counted r (a.counted r h); looks = omega (arith, a.looks, b.looks) };
    }

pub returns-then-is_over-clause-fixes : goal.returns-then-is_over-clause-fixes
returns-then-is_over-clause-fixes g c = record { partly = partly_same c.args.system.now c.args.low c.args.filling.now c.requires.places; agenda = refl; holds = refl }

pub returns-then-is_over-clause-bounds : goal.returns-then-is_over-clause-bounds
returns-then-is_over-clause-bounds g c = λ i h at.
    let s = c.args.system.now in
    let fixed = c.args.filling.now.fixed.items in
    let touched = c.args.touched.now in
    let id = get_or touched i 0 in
    unfixed_or (fixed_at fixed id) (λ none. over_bound s fixed touched c.args.floor c.args.low c.requires.floor_is (c.is_over.ensures c.if-is_over.true) id (in_index touched i h) none at)

pub returns-then-is_over-clause-count : goal.returns-then-is_over-clause-count
returns-then-is_over-clause-count g c = count_same c.args.system.now c.args.touched.now c.args.filling.now c.args.steps.now

pub returns-clause-fixes : goal.returns-clause-fixes
returns-clause-fixes g c = let inv = c.loop-flow.invariant in record { partly = inv.partly; agenda = inv.agenda; holds = inv.holds }

pub fix_bounded-requires-clause-of : goal.fix_bounded-requires-clause-of
fix_bounded-requires-clause-of g c = record { places = c.loop-flow.invariant.partly.places; held = All-get_or (λ id. IsSome (flow_at c.args.system.now.slots id)) c.args.touched.now c.loop-flow.flow-index 0 c.loop-flow-test.true c.requires.part.held }
