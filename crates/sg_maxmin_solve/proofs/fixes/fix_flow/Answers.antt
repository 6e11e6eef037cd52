use Rattle.std.proofs.Common.{◌≡◌, ◌+◌, ◌*◌, ◌<◌, ◌≤◌, ℕ, inl, inr, Option, None, Some, IsSome, is_some, not, true, false, true≢false, List, refl, length, get_or, get_or-set_same, sym, ap, subst, ◌∙◌, arith}
use Rattle.sg_base.specs.MarkSet.{is_in}
use Rattle.sg_heap.specs.Agenda.{key_at}
use Rattle.sg_maxmin.specs.Fill.{share_at}
use Rattle.sg_maxmin.specs.Sharing.{uses_at}
use Rattle.sg_maxmin.specs.Numbered.{flow_in, weight_at}
use Rattle.sg_maxmin.specs.Step.{IsLeast}
use Rattle.sg_maxmin_solve.specs.Filling.{AreCounted, MayStep, fixed_at, limits_at, unfixed_uses}
use Rattle.sg_maxmin_solve.proofs.Growing.{stays}
use Rattle.sg_maxmin_solve.proofs.Rows.{any_default}
use Rattle.sg_maxmin_solve.proofs.Fixing.{counted_one, fixes_same, off_stays, one_steps, unfixed_one}
use Rattle.sg_maxmin.proofs.Listed.{bool_cases}
use Rattle.sg_maxmin.proofs.Users.{held_below, is_in_In}
use Rattle.sg_maxmin_solve.proofs.fixes.fix_flow.Goals as goal

none_if : (o : Option ℕ) → is_some o ≡ false → o ≡ None
none_if None e = refl
none_if (Some x) e = absurd (true≢false e)

none_read : (fixed : List (Option ℕ)) (flow : ℕ) (x : Option ℕ) → flow < length fixed → x ≡ get_or fixed flow x → is_some x ≡ false → fixed_at fixed flow ≡ None
none_read fixed flow x h e none = sym (e ∙ any_default fixed flow x None h) ∙ none_if x none

some_read : (fixed : List (Option ℕ)) (flow : ℕ) (x : Option ℕ) → flow < length fixed → x ≡ get_or fixed flow x → is_some x ≡ true → IsSome (fixed_at fixed flow)
some_read fixed flow x h e some = subst IsSome (e ∙ any_default fixed flow x None h) some

pub returns-then-is_none-clause-fixes : goal.returns-then-is_none-clause-fixes
returns-then-is_none-clause-fixes g c =
    let s = c.args.system.now in
    let f = c.args.filling.now in
    let flow = c.args.flow in
    let low = c.args.low in
    let new = c.fix.new.filling in
    let out = c.fix.ensures in
    let below : flow < length f.fixed.items = omega (arith, held_below s.slots flow c.requires.of.held, c.requires.of.places.fixed_len) in
    let none = none_read f.fixed.items flow c.index.result.now below c.index.ensures (c.is_none.ensures ∙ ap not c.if-is_none.true) in
    record {
      fixes = record {
        partly = record {
          places = out.places;
          levels = out.levels;
          flows = subst (λ (xs : List (Option ℕ)). (id : ℕ) → MayStep low (IsLeast (Some low) (limits_at s.slots f.levels.items id)) (fixed_at f.fixed.items id) (fixed_at xs id)) (sym out.fixed) (one_steps s f.fixed.items flow low below none f.levels.items (c.requires.at none));
          stays = λ n h. record {
            fresh = elim (bool_cases (is_in n f.stale.members)) [ inr e ↦ e | inl e ↦ absurd (true≢false (sym (stays n f.stale.members new.stale.members out.stale.grows e) ∙ h)) ];
            left = off_stays f.left.items new.left.items (uses_at s.slots flow) new.stale.members (share_at (flow_in s.slots flow) low) n (out.left n) out.stale.marked h;
            waiting = off_stays f.waiting.items new.waiting.items (uses_at s.slots flow) new.stale.members (weight_at s.slots flow) n (out.waiting n) out.stale.marked h;
            key = ap (λ ks. key_at ks n) out.agenda;
          };
          fewer = λ n. omega (arith, out.waiting n);
          gone = λ n e. ap (λ ks. key_at ks n) out.agenda ∙ e;
        };
        agenda = out.agenda;
        holds = out.holds;
      };
      count = λ touched once there.
          let i = is_in_In flow touched there in
          record {
            counted = λ reached h. subst (λ (xs : List (Option ℕ)). AreCounted s xs touched new.left.items new.waiting.items reached) (sym out.fixed)
                (counted_one s f.fixed.items flow low below none touched once i f.left.items new.left.items f.waiting.items new.waiting.items reached out.left out.waiting h);
            looks = subst (λ (xs : List (Option ℕ)). c.fix.new.steps + 2 * unfixed_uses s.slots xs touched ≤ c.args.steps.now + 2 * unfixed_uses s.slots f.fixed.items touched) (sym out.fixed)
                (omega (arith, c.fix.ensures.looks, unfixed_one s f.fixed.items flow low below none touched once i));
          };
    }

pub returns-then-is_none-clause-done : goal.returns-then-is_none-clause-done
returns-then-is_none-clause-done g c =
    let s = c.args.system.now in
    let f = c.args.filling.now in
    let flow = c.args.flow in
    let below : flow < length f.fixed.items = omega (arith, held_below s.slots flow c.requires.of.held, c.requires.of.places.fixed_len) in
    subst (λ (xs : List (Option ℕ)). IsSome (fixed_at xs flow)) (sym c.fix.ensures.fixed) (subst IsSome (sym (get_or-set_same f.fixed.items flow (Some c.args.low) None below)) refl)

pub returns-else-is_none-clause-fixes : goal.returns-else-is_none-clause-fixes
returns-else-is_none-clause-fixes g c = fixes_same c.args.system.now c.args.flow c.args.low c.args.filling.now c.args.steps.now c.requires.of.places

pub returns-else-is_none-clause-done : goal.returns-else-is_none-clause-done
returns-else-is_none-clause-done g c =
    let s = c.args.system.now in
    let f = c.args.filling.now in
    let below : c.args.flow < length f.fixed.items = omega (arith, held_below s.slots c.args.flow c.requires.of.held, c.requires.of.places.fixed_len) in
    some_read f.fixed.items c.args.flow c.index.result.now below c.index.ensures (c.is_none.ensures ∙ ap not c.if-is_none.false)
