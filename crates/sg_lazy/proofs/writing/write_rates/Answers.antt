use Rattle.std.proofs.Common.{◌≡◌, ◌≢◌, ℕ, Bool, true, false, true≢false, not, eqb, cond, ◌&&◌, ◌||◌, ◌+◌, ◌<◌, inl, inr, List, length, get_or, take, below_more, AllPairs, refl, ap, ◌∙◌, subst, sym, arith}
use Rattle.sg_base.specs.MarkSet.{MarkSet, is_in, with_mark}
use Rattle.sg_maxmin_solve.proofs.Listing.{is_in_other}
use Rattle.sg_lazy.specs.kept.Changes.{WritesRate, is_changed}
use Rattle.sg_lazy.specs.kept.Leveled.{rate_at}
use Rattle.sg_lazy.proofs.Taking.{in_take_self, in_take_other, not_before, mark_once}
use Rattle.sg_maxmin.proofs.Listed.{at_in, in_at, mark_there, eq_cases, take_all}
use Rattle.sg_lazy.proofs.writing.write_rates.Goals as goal

-- a flow was marked if it changed
at_flow : (d : Bool) (flow : ℕ) (old : List ℕ) → is_in flow old ≡ false → is_in flow (cond d (with_mark flow old) old) ≡ d
at_flow true flow old off = mark_there flow old
at_flow false flow old off = off

at_other : (d : Bool) (id flow : ℕ) (old : List ℕ) → id ≢ flow → is_in id (cond d (with_mark flow old) old) ≡ is_in id old
at_other true id flow old ne = is_in_other id flow old ne
at_other false id flow old ne = refl

still_once : (d : Bool) (flow : ℕ) (old : List ℕ) → AllPairs (λ a b. a ≢ b) old → AllPairs (λ a b. a ≢ b) (cond d (with_mark flow old) old)
still_once true flow old once = mark_once flow old once
still_once false flow old once = once

pub loop-flow-preserved : goal.loop-flow-preserved
loop-flow-preserved c =
    let s = c.args.system.now in
    let inv = c.loop-flow.invariant in
    let k = c.loop-flow.flow-index in
    let list = c.moved-flow-items.result.now in
    let moved = c.args.levels.now.moved.members in
    let e : list ≡ moved = c.moved-flow-items.ensures.members in
    let began = c.args.pending.now.began.members in
    let ended = c.args.pending.now.ended.members in
    let given : ℕ → ℕ = rate_at s.slots c.args.levels.now.levels.items in
    let first = c.args.rates.now in
    let rates = c.loop-flow.rates in
    let flow = get_or moved k 0 in
    let less : k < length moved = subst (λ (xs : List ℕ). k < length xs) e c.loop-flow-test.true in
    let once : AllPairs (λ a b. a ≢ b) moved = subst (AllPairs (λ a b. a ≢ b)) e c.moved-flow-items.ensures.once in
    let out : WritesRate began ended flow given rates c.rate_flow.new.rates c.loop-flow.changed c.rate_flow.new.changed = subst (λ (xs : List ℕ). WritesRate began ended (get_or xs k 0) given rates c.rate_flow.new.rates c.loop-flow.changed c.rate_flow.new.changed) e c.rate_flow.ensures in
    let before = not_before moved k less once in
    let old = c.loop-flow.changed.members in
    let d = is_changed began ended rates given flow in
    let same : d ≡ is_changed began ended first given flow = ap (λ r. not (is_in flow ended) && (is_in flow began || not (eqb r (given flow)))) (inv.others flow before) in
    let off : is_in flow old ≡ false = inv.changed_are flow ∙ ap (λ b. b && is_changed began ended first given flow) before in
    let members = ap (λ (m : MarkSet). m.members) out.changed in
    record {
      rates_are = below_more (λ i. is_in (get_or moved i 0) ended ≡ false → get_or c.rate_flow.new.rates (get_or moved i 0) 0 ≡ given (get_or moved i 0)) k (λ i h on. out.others (get_or moved i 0) (once i k 0 h less) ∙ inv.rates_are i h on) out.rate;
      others = λ other e.
          let ne : other ≢ flow = λ q. true≢false (sym (in_take_self moved k less) ∙ ap (λ n. is_in n (take (k + 1) moved)) (sym q) ∙ e) in
          out.others other ne ∙ inv.others other (sym (in_take_other other moved k less ne) ∙ e);
      room = ap (λ (m : MarkSet). m.room) out.changed ∙ inv.room;
      changed_are = λ id. ap (is_in id) members ∙ elim (eq_cases id flow) [
        | inl q ↦ ap (λ n. is_in n (cond d (with_mark flow old) old)) q ∙ at_flow d flow old off ∙ same ∙ sym (ap (λ n. is_in n (take (k + 1) moved) && is_changed began ended first given n) q ∙ ap (λ b. b && is_changed began ended first given flow) (in_take_self moved k less))
        | inr ne ↦ at_other d id flow old ne ∙ inv.changed_are id ∙ ap (λ b. b && is_changed began ended first given id) (sym (in_take_other id moved k less ne))
      ];
      once = subst (AllPairs (λ a b. a ≢ b)) (sym members) (still_once d flow old inv.once);
    }

pub rate_flow-requires-clause-ratable : goal.rate_flow-requires-clause-ratable
rate_flow-requires-clause-ratable c =
    let k = c.loop-flow.flow-index in
    let list = c.moved-flow-items.result.now in
    c.requires.ratable (get_or list k 0) (subst (λ xs. is_in (get_or list k 0) xs ≡ true) c.moved-flow-items.ensures.members (in_at (get_or list k 0) list k c.loop-flow-test.true refl))

pub rate_flow-requires-clause-rates : goal.rate_flow-requires-clause-rates
rate_flow-requires-clause-rates c =
    let k = c.loop-flow.flow-index in
    let list = c.moved-flow-items.result.now in
    let here = c.requires.ratable (get_or list k 0) (subst (λ xs. is_in (get_or list k 0) xs ≡ true) c.moved-flow-items.ensures.members (in_at (get_or list k 0) list k c.loop-flow-test.true refl)) in
    omega (arith, here.below, c.requires.rates, c.loop-flow.auto.rates)

pub rate_flow-requires-clause-changed : goal.rate_flow-requires-clause-changed
rate_flow-requires-clause-changed c =
    let k = c.loop-flow.flow-index in
    let list = c.moved-flow-items.result.now in
    let here = c.requires.ratable (get_or list k 0) (subst (λ xs. is_in (get_or list k 0) xs ≡ true) c.moved-flow-items.ensures.members (in_at (get_or list k 0) list k c.loop-flow-test.true refl)) in
    omega (arith, here.below, c.requires.changed, c.loop-flow.invariant.room)

pub returns-clause-written : goal.returns-clause-written
returns-clause-written c =
    let inv = c.loop-flow.invariant in
    let moved = c.args.levels.now.moved.members in
    let s = c.args.system.now in
    let began = c.args.pending.now.began.members in
    let ended = c.args.pending.now.ended.members in
    let given : ℕ → ℕ = rate_at s.slots c.args.levels.now.levels.items in
    let end : c.loop-flow.flow-index ≡ length moved = omega (arith, c.loop-flow-test.false, c.loop-flow.auto.flow-index-end, ap length c.moved-flow-items.ensures.members) in
    let all : take c.loop-flow.flow-index moved ≡ moved = take_all moved c.loop-flow.flow-index end in
    record {
      rates = λ id on off.
          let at = at_in id moved on in
          subst (λ n. is_in n ended ≡ false → get_or c.loop-flow.rates n 0 ≡ given n) at.2 (inv.rates_are at.0 (omega (arith, at.1, end))) off;
      others = λ other e. inv.others other (ap (is_in other) all ∙ e);
      changed_are = λ id. inv.changed_are id ∙ ap (λ xs. is_in id xs && is_changed began ended c.args.rates.now given id) all;
      once = inv.once;
    }
