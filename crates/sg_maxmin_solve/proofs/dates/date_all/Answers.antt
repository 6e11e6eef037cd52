use Rattle.std.proofs.Common.{◌≡◌, ◌<◌, ℕ, None, Option, true≢false, below_more, length, get_or, length-set, get_or-set_same, get_or-set_other, sym, ap, subst, ◌∙◌, arith}
use Rattle.std.proofs.lemmas.List.Elements.{All-get_or}
use Rattle.sg_heap.specs.Agenda.{Key, key_at}
use Rattle.sg_maxmin_solve.specs.Dates.{key_where}
use Rattle.sg_maxmin_solve.proofs.Keyed.{set_right}
use Rattle.sg_maxmin.proofs.Listed.{at_in, in_at}
use Rattle.sg_maxmin_solve.proofs.dates.date_all.Goals as goal

pub loop-c-preserved : goal.loop-c-preserved
loop-c-preserved c =
    let listed = c.args.listed.now in
    let k = c.loop-c.c-index in
    let n = get_or listed k 0 in
    let keys = c.loop-c.agenda in
    let inv = c.loop-c.invariant in
    let its : ℕ → Option Key = λ x. key_where (get_or c.args.waiting.now x 0) (get_or c.args.levels.now x 0) in
    let below : n < length keys = omega (arith, All-get_or (λ x. x < length c.args.agenda.now) listed k 0 c.loop-c-test.true c.requires.slots, inv.slots) in
    record {
      slots = ap length c.date_anew.ensures ∙ length-set keys n (its n) ∙ inv.slots;
      listed = below_more _ _ (λ i h. let x = get_or listed i 0 in ap (λ ks. key_at ks x) c.date_anew.ensures ∙ set_right its keys n x below (inv.listed i h))
          (ap (λ ks. key_at ks n) c.date_anew.ensures ∙ get_or-set_same keys n (its n) None below);
      others = λ x off. ap (λ ks. key_at ks x) c.date_anew.ensures ∙ get_or-set_other keys n x (its n) None (λ e. true≢false (sym (in_at x listed k c.loop-c-test.true (sym e)) ∙ off)) ∙ inv.others x off;
    }

pub returns-clause-listed : goal.returns-clause-listed
returns-clause-listed c = λ large x r.
    let at = at_in x c.args.listed.now r in
    subst (λ n. key_at c.loop-c.agenda n ≡ key_where (get_or c.args.waiting.now n 0) (get_or c.args.levels.now n 0)) at.2 (c.loop-c.invariant.listed at.0 (omega (arith, at.1, c.loop-c-test.false)))
