use Rattle.std.proofs.Common.{◌≡◌, ◌<◌, ℕ, true≢false, is_some, IsSome, inl, inr, None, Some, List, Option, length, get_or, set, get_or-set_same, get_or-set_other, refl, sym, ap, subst, ◌∙◌, arith}
use Rattle.sg_maxmin.specs.Chained.{users_on}
use Rattle.sg_heap.specs.Agenda.{Key, key_at}
use Rattle.sg_maxmin_solve.specs.declared.filling.Filling.{Filling}
use Rattle.sg_base.specs.MarkSet.{is_in}
use Rattle.sg_maxmin_solve.specs.Filling.{AreFixed, StepsPartly, fixed_at}
use Rattle.sg_maxmin_solve.specs.Holds.{MayHold, noted_at}
use Rattle.sg_maxmin_solve.proofs.Rows.{into}
use Rattle.sg_maxmin_solve.proofs.Fixing.{above_still, fixed_stay, partly_on, partly_same}
use Rattle.sg_maxmin_solve.proofs.Keyed.{are_right, has_key, key_is, key_left, key_within, nobody_waits, none_of, partly_cleared}
use Rattle.sg_maxmin_solve.proofs.Notes.{may_keep, may_on, noted_here, noted_may, noted_other, taken_less}
use Rattle.sg_maxmin.proofs.Listed.{eq_cases, in_at, some_of}
use Rattle.sg_maxmin_solve.proofs.fixes.fix_due.Goals as goal

pub loop-c-init : goal.loop-c-init
loop-c-init g c = record {
  partly = partly_same c.args.system.now c.args.low.level c.args.filling.now c.requires.at.places;
  keys = λ n. inl refl;
  others = λ n off. refl;
  may = λ n. inl refl;
  held = λ n some. refl;
  count = record { counted = λ reached h. h; looks = omega arith };
}

pub fix_on-requires : goal.fix_on-requires
fix_on-requires g c =
    let s = c.args.system.now in
    let first = c.args.filling.now in
    let f = c.loop-c.filling in
    let n = c.in-Some.c in
    let row = users_on s.users n in
    let key = some_of (key_at f.agenda n) c.in-Some.ensures.first in
    let its = key_is c.args.reached.now first c.requires.at.dated.quiet (are_right c.args.reached.now first c.requires.at.dated c.requires.keys) n key.0 (key_left (key_at f.agenda n) (key_at first.agenda n) key.0 (c.loop-c.invariant.keys n) key.1) in
    let partly = c.loop-c.invariant.partly in
    record {
      places = partly.places;
      exists = omega (arith, key_within f.agenda n c.in-Some.ensures.first, partly.places.slots);
      above = above_still s c.args.touched.now row c.args.low.level first f partly (λ id i. into row c.args.touched.now id (c.requires.at.joined.closed.covered n its.0) i) c.requires.at.above;
    }

pub loop-c-preserved : goal.loop-c-preserved
loop-c-preserved g c =
    let s = c.args.system.now in
    let touched = c.args.touched.now in
    let reached = c.args.reached.now in
    let low = c.args.low.level in
    let first = c.args.filling.now in
    let f = c.loop-c.filling in
    let inv = c.loop-c.invariant in
    let n = c.in-Some.c in
    let rows = users_on s.users in
    let key = some_of (key_at f.agenda n) c.in-Some.ensures.first in
    let its = key_is reached first c.requires.at.dated.quiet (are_right reached first c.requires.at.dated c.requires.keys) n key.0 (key_left (key_at f.agenda n) (key_at first.agenda n) key.0 (inv.keys n) key.1) in
    let below : n < length f.agenda = key_within f.agenda n c.in-Some.ensures.first in
    let out = c.fix_on.ensures in
    let mid : Filling = c.fix_on.new.filling in
    let new : Filling = record { fixed = mid.fixed; holds = mid.holds; left = mid.left; waiting = mid.waiting; levels = mid.levels; stale = c.insert.new.self; agenda = c.clear.new.self } in
    let agenda : c.clear.new.self ≡ set f.agenda n None = c.clear.ensures ∙ ap (λ (ks : List (Option Key)). set ks n None) out.agenda in
    let cleared : StepsPartly s low mid new = partly_cleared s low n mid new out.partly.places (omega (arith, below, ap length out.agenda)) refl refl refl refl refl c.insert.ensures c.clear.ensures in
    let p = partly_on s low f mid new out.partly cleared in
    let held : n < length f.holds.items = omega (arith, below, inv.partly.places.slots, inv.partly.places.holds_len) in
    let level = λ (x : ℕ). ap (λ xs. get_or xs x 0) inv.partly.levels in
    let noted = λ (x : ℕ). ap (λ hs. fixed_at hs x) out.noted in
    let next = λ (x : ℕ). subst (λ o. MayHold low (get_or first.levels.items x 0) (fixed_at f.holds.items x) o) (sym (noted x)) (subst (λ y. MayHold low y (fixed_at f.holds.items x) (fixed_at (noted_at low n f) x)) (level x) (noted_may low n f held x)) in
    let less = taken_less s reached low n f mid held c.requires.at.joined.distinct its.0 (λ e. inv.held n c.in-Some.ensures.first ∙ c.requires.at.fresh n its.0 (sym (level n) ∙ e)) out.noted in
    let b = out.count touched c.requires.at.joined.once (c.requires.at.joined.closed.covered n its.0) in
    record {
      partly = partly_on s low first f new inv.partly p;
      keys = λ x. elim (eq_cases x n) [
        | inl e ↦ inr (
          ap (λ (ks : List (Option Key)). key_at ks x) agenda ∙ ap (key_at (set f.agenda n None)) e ∙ get_or-set_same f.agenda n None None below,
          λ at.
              let here = ap (λ xs. get_or xs n 0) inv.partly.levels ∙ ap (λ m. get_or first.levels.items m 0) (sym e) ∙ at in
              subst (λ m. AreFixed (rows m) mid × (fixed_at mid.holds.items m ≡ Some low)) (sym e) (out.done here, noted n ∙ noted_here low n f held here),
        )
        | inr ne ↦
            let same : key_at c.clear.new.self x ≡ key_at f.agenda x = ap (λ (ks : List (Option Key)). key_at ks x) agenda ∙ get_or-set_other f.agenda n x None None ne in
            elim (inv.keys x) [
              | inl k ↦ inl (same ∙ k)
              | inr k ↦ inr (same ∙ k.0, λ at. (fixed_stay s low (rows x) f new p (k.1 at).0, may_keep low (get_or first.levels.items x 0) (fixed_at f.holds.items x) (fixed_at mid.holds.items x) (next x) (k.1 at).1))
            ]
      ];
      others = λ x off. noted x ∙ noted_other low n f held x (λ e. true≢false (sym (ap (λ m. is_in m reached) e ∙ its.0) ∙ off)) ∙ inv.others x off;
      may = λ x. may_on low (get_or first.levels.items x 0) (fixed_at first.holds.items x) (fixed_at f.holds.items x) (fixed_at mid.holds.items x) (inv.may x) (next x);
      held = λ x some. elim (eq_cases x n) [
        | inl e ↦ absurd (true≢false (sym some ∙ ap is_some (ap (λ (ks : List (Option Key)). key_at ks x) agenda ∙ ap (key_at (set f.agenda n None)) e ∙ get_or-set_same f.agenda n None None below)))
        | inr ne ↦ noted x ∙ noted_other low n f held x ne ∙ inv.held x (subst (λ (o : Option Key). IsSome o) (ap (λ (ks : List (Option Key)). key_at ks x) agenda ∙ get_or-set_other f.agenda n x None None ne) some)
      ];
      count = record { counted = λ r h. b.counted r (inv.count.counted r h); looks = omega (arith, inv.count.looks, b.looks, less) };
    }

pub returns : goal.returns
returns g c = record {
  partly = c.loop-c.invariant.partly;
  noted =
      let reached = c.args.reached.now in
      let first = c.args.filling.now in
      let inv = c.loop-c.invariant in
      let later = none_of c.due.result c.in_default.not-Some c.due.ensures.none in
      record {
        others = inv.others;
        may = inv.may;
        taken = λ n r e pos.
            let some : get_or first.waiting.items n 0 ≡ 0 → ⊥ = λ z. omega (arith, z, pos) in
            elim (inv.keys n) [
              | inl same ↦ absurd (omega (arith, later n (record { date = get_or first.levels.items n 0; serial = 0 }) (same ∙ has_key reached first c.requires.at.dated.quiet (are_right reached first c.requires.at.dated c.requires.keys) n some), e))
              | inr gone ↦ (gone.1 e).1
            ];
      };
  on = λ i h e.
      let s = c.args.system.now in
      let touched = c.args.touched.now in
      let reached = c.args.reached.now in
      let first = c.args.filling.now in
      let f = c.loop-c.filling in
      let inv = c.loop-c.invariant in
      let n = get_or reached i 0 in
      let r = in_at n reached i h refl in
      let later = none_of c.due.result c.in_default.not-Some c.due.ensures.none in
      elim (eq_cases (get_or first.waiting.items n 0) 0) [
        | inl z ↦ fixed_stay s c.args.low.level (users_on s.users n) first f inv.partly (nobody_waits s touched reached first c.requires.at.joined c.requires.at.counted n r z)
        | inr some ↦
            elim (inv.keys n) [
              | inl same ↦ absurd (omega (arith, later n (record { date = get_or first.levels.items n 0; serial = 0 }) (same ∙ has_key reached first c.requires.at.dated.quiet (are_right reached first c.requires.at.dated c.requires.keys) n some), e))
              | inr gone ↦ (gone.1 e).0
            ]
      ];
  count = c.loop-c.invariant.count;
}
