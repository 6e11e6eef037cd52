use Rattle.std.proofs.Common.{◌≡◌, ℕ, inl, inr, List, Option, Some, length, get_or, sym, ap, subst, ◌∙◌, arith}
use Rattle.std.specs.Vec.{with_items}
use Rattle.std.proofs.lemmas.List.{with_items_is}
use Rattle.sg_base.specs.MarkSet.{is_in}
use Rattle.sg_maxmin_solve.specs.Filling.{fixed_at}
use Rattle.sg_maxmin_solve.specs.Holds.{MayHold}
use Rattle.sg_maxmin.proofs.Listed.{at_in, bool_cases, none_some}
use Rattle.sg_maxmin_solve.proofs.last_step.fix_rest.Goals as goal

pub returns : goal.returns
returns c =
    let f = c.args.filling.now in
    let touched = c.args.touched.now in
    let reached = c.args.reached.now in
    let low = c.args.low in
    let last = c.requires in
    let p = last.places in
    let flows = c.fix_touched in
    let out = c.note_reached in
    let fixed : (with_items f.fixed flows.new.fixed).items ≡ flows.new.fixed = with_items_is f.fixed flows.new.fixed (flows.auto.fixed ∙ c.deref_mut.ensures.len) in
    let holds : (with_items f.holds out.new.holds).items ≡ out.new.holds = with_items_is f.holds out.new.holds (out.auto.holds ∙ c.deref_mut-2.ensures.len) in
    let waiting : (with_items f.waiting out.new.waiting).items ≡ out.new.waiting = with_items_is f.waiting out.new.waiting (out.auto.waiting ∙ c.deref_mut-3.ensures.len) in
    record {
      places = record {
        sound = p.sound;
        fixed_len = omega (arith, p.fixed_len, ap length fixed, flows.auto.fixed, c.deref_mut.ensures.len);
        holds_len = omega (arith, ap length holds, out.auto.holds, c.deref_mut-2.ensures.len, p.holds_len);
        left_len = p.left_len;
        waiting_len = omega (arith, ap length waiting, out.auto.waiting, c.deref_mut-3.ensures.len, p.waiting_len);
        levels_len = p.levels_len;
        stale_room = p.stale_room;
        slots = p.slots;
      };
      idle = record {
        waiting = λ x. elim (bool_cases (is_in x reached)) [
          | inl r ↦ let i = at_in x reached r in ap (λ xs. get_or xs x 0) waiting ∙ subst (λ n. get_or out.new.waiting n 0 ≡ 0) i.2 (out.ensures.gone i.0 i.1)
          | inr off ↦ ap (λ xs. get_or xs x 0) waiting ∙ out.ensures.kept x off ∙ ap (λ (xs : List ℕ). get_or xs x 0) c.deref_mut-3.ensures.value ∙ last.quiet x off
        ];
        keys = last.keys;
      };
      fixed = λ id t. let i = at_in id touched t in ap (λ xs. fixed_at xs id) fixed ∙ subst (λ n. fixed_at flows.new.fixed n ≡ Some low) i.2 (flows.ensures.fixed i.0 i.1);
      kept = λ id x e. elim (bool_cases (is_in id touched)) [
        | inl t ↦ absurd (none_some (sym (last.unfixed id t) ∙ e))
        | inr off ↦ ap (λ xs. fixed_at xs id) fixed ∙ flows.ensures.others id off ∙ ap (λ (xs : List (Option ℕ)). fixed_at xs id) c.deref_mut.ensures.value ∙ e
      ];
      noted = record {
        others = λ x off. ap (λ xs. fixed_at xs x) holds ∙ out.ensures.others x off ∙ ap (λ (xs : List (Option ℕ)). fixed_at xs x) c.deref_mut-2.ensures.value;
        may = λ x.
            subst (λ hs. MayHold low (get_or f.levels.items x 0) (fixed_at f.holds.items x) (fixed_at hs x)) (sym holds)
            (subst (λ hs. MayHold low (get_or f.levels.items x 0) (fixed_at hs x) (fixed_at out.new.holds x)) c.deref_mut-2.ensures.value
            (subst (λ ls. MayHold low (get_or ls x 0) (fixed_at c.deref_mut-2.result.now x) (fixed_at out.new.holds x)) c.deref.ensures.value (out.ensures.may x)));
        taken = λ x r at some.
            let i = at_in x reached r in
            let n = get_or reached i.0 0 in
            ap (λ xs. fixed_at xs x) holds ∙ subst (λ n. fixed_at out.new.holds n ≡ Some low) i.2 (out.ensures.noted i.0 i.1 (ap (λ (ls : List ℕ). get_or ls n 0) c.deref.ensures.value ∙ ap (λ n. get_or f.levels.items n 0) i.2 ∙ at));
      };
    }
