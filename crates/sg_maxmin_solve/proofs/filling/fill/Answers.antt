use Rattle.std.proofs.Common.{◌≡◌, ◌+◌, ◌^◌, ◌/◌, ◌<◌, inl, ℕ, List, Option, get_or, sym, ap, subst, arith, ◌∙◌}
use Rattle.std.specs.Vec.{with_items}
use Rattle.std.proofs.lemmas.List.{with_items_is}
use Rattle.sg_base.specs.MarkSet.{is_in}
use Rattle.sg_maxmin_solve.specs.Filling.{AreCounted, fixed_at, weight_of}
use Rattle.sg_maxmin_solve.proofs.Starts.{fits, nowhere, starts}
use Rattle.sg_maxmin.proofs.Listed.{at_in}
use Rattle.sg_maxmin_solve.proofs.filling.fill.Goals as goal

pub unfix-requires-clause-fits : goal.unfix-requires-clause-fits
unfix-requires-clause-fits g c = λ x.
    let s = c.args.system.now in
    let touched = c.args.touched.now in
    let waiting = c.args.filling.now.waiting.items in
    let idle = c.requires.idle in
    let small : get_or waiting x 0 < 2 ^ 64 = omega (arith, idle.waiting x) in
    subst (λ (xs : List ℕ). get_or xs x 0 + weight_of s.slots touched x < 2 ^ 64) (sym c.deref_mut-4.ensures.value)
    (fits s touched c.args.reached.now c.requires.joined.part c.requires.joined.closed.covers waiting c.requires.joined.once x (λ i h. idle.waiting (get_or c.args.reached.now i 0)) small)

pub fill_steps-requires-clause-begun : goal.fill_steps-requires-clause-begun
fill_steps-requires-clause-begun g c =
    let s = c.args.system.now in
    let f = c.args.filling.now in
    let touched = c.args.touched.now in
    let reached = c.args.reached.now in
    let joined = c.requires.joined in
    let idle = c.requires.idle in
    let fixed : (with_items f.fixed c.unfix.new.fixed).items ≡ c.unfix.new.fixed = with_items_is f.fixed c.unfix.new.fixed (c.unfix.auto.fixed ∙ c.deref_mut-3.ensures.len) in
    let holds : (with_items f.holds c.reset.new.holds).items ≡ c.reset.new.holds = with_items_is f.holds c.reset.new.holds (c.reset.auto.holds ∙ c.deref_mut-2.ensures.len) in
    let left : (with_items f.left c.reset.new.left).items ≡ c.reset.new.left = with_items_is f.left c.reset.new.left (c.reset.auto.left ∙ c.deref_mut.ensures.len) in
    let waiting : (with_items f.waiting c.unfix.new.waiting).items ≡ c.unfix.new.waiting = with_items_is f.waiting c.unfix.new.waiting (c.unfix.auto.waiting ∙ c.deref_mut-4.ensures.len) in
    let levels : (with_items f.levels c.set_levels.new.levels).items ≡ c.set_levels.new.levels = with_items_is f.levels c.set_levels.new.levels (c.set_levels.auto.levels ∙ c.deref_mut-5.ensures.len) in
    let before = λ (x : ℕ). ap (λ (xs : List ℕ). get_or xs x 0) c.deref_mut-4.ensures.value in
    let out = starts s touched reached joined.part joined.closed.covers c.reset.new.left f.waiting.items c.unfix.new.waiting c.unfix.new.fixed c.reset.ensures.left (λ i h. idle.waiting (get_or reached i 0)) c.unfix.ensures.fixed
    (λ x. c.unfix.ensures.waiting x ∙ ap (λ n. n + weight_of s.slots touched x) (before x)) in
    record {
      unfixed = λ i h. ap (λ xs. fixed_at xs (get_or touched i 0)) fixed ∙ c.unfix.ensures.fixed i h;
      unnoted = λ i h. ap (λ xs. fixed_at xs (get_or reached i 0)) holds ∙ c.reset.ensures.holds i h;
      counted =
          subst (λ xs. AreCounted s xs touched (with_items f.left c.reset.new.left).items (with_items f.waiting c.unfix.new.waiting).items (λ x. is_in x reached)) (sym fixed)
          (subst (λ (xs : List ℕ). AreCounted s c.unfix.new.fixed touched xs (with_items f.waiting c.unfix.new.waiting).items (λ x. is_in x reached)) (sym left)
          (subst (λ (xs : List ℕ). AreCounted s c.unfix.new.fixed touched c.reset.new.left xs (λ x. is_in x reached)) (sym waiting) out));
      levels = λ x r.
          let at = at_in x reached r in
          let n = get_or reached at.0 0 in
          subst (λ n. get_or (with_items f.levels c.set_levels.new.levels).items n 0 ≡ get_or (with_items f.left c.reset.new.left).items n 0 / get_or (with_items f.waiting c.unfix.new.waiting).items n 0) at.2
          (ap (λ xs. get_or xs n 0) levels ∙ c.set_levels.ensures.listed at.0 at.1 ∙ ap (λ (xs : List ℕ). get_or xs n 0 / get_or c.deref-2.result.now n 0) c.deref.ensures.value
          ∙ ap (λ (xs : List ℕ). get_or (with_items f.left c.reset.new.left).items n 0 / get_or xs n 0) c.deref-2.ensures.value);
      dated = record {
        quiet = λ x off. omega (arith, ap (λ xs. get_or xs x 0) waiting, c.unfix.ensures.waiting x, before x, idle.waiting x, nowhere s touched reached joined.part joined.closed.covers x off);
        keys = inl idle.keys;
      };
    }

pub returns-clause-ended : goal.returns-clause-ended
returns-clause-ended g c =
    let f = c.args.filling.now in
    let out = c.fill_steps.ensures in
    let fixed : (with_items f.fixed c.unfix.new.fixed).items ≡ c.unfix.new.fixed = with_items_is f.fixed c.unfix.new.fixed (c.unfix.auto.fixed ∙ c.deref_mut-3.ensures.len) in
    let holds : (with_items f.holds c.reset.new.holds).items ≡ c.reset.new.holds = with_items_is f.holds c.reset.new.holds (c.reset.auto.holds ∙ c.deref_mut-2.ensures.len) in
    record {
      places = out.places;
      idle = out.idle;
      kept = λ id x off e.
          out.kept id x (ap (λ xs. fixed_at xs id) fixed ∙ c.unfix.ensures.others id off ∙ ap (λ (xs : List (Option ℕ)). fixed_at xs id) c.deref_mut-3.ensures.value ∙ e);
      holds_kept = λ x off.
          out.holds_kept x off ∙ ap (λ xs. fixed_at xs x) holds ∙ c.reset.ensures.holds_kept x off ∙ ap (λ (xs : List (Option ℕ)). fixed_at xs x) c.deref_mut-2.ensures.value;
      fixed = out.fixed;
      noted = out.noted;
    }
