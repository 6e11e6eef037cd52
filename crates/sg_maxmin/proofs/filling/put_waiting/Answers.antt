use Rattle.std.proofs.Common.{◌≡◌, ℕ, ◌+◌, ◌-◌, ◌*◌, ◌^◌, ◌<◌, [], ◌∷◌, length, length-set, get_or, sym, ap, ◌∙◌, arith}
use Rattle.std.proofs.lemmas.List.Elements.{All-same, All-tail, All-head}
use Rattle.sg_maxmin.specs.Chain.{resources}
use Rattle.sg_maxmin.specs.Chained.{times}
use Rattle.sg_maxmin.proofs.ChainLemmas.{resources_none}
use Rattle.sg_maxmin.proofs.Counts.{put_more, put_fits}
use Rattle.sg_maxmin.proofs.filling.put_waiting.Goals as goal

pub loop-done-preserved : goal.loop-done-preserved
loop-done-preserved g c =
    let slots = c.args.uses.now.uses in
    let n = c.args.row.count - c.loop-done.done in
    let w = c.loop-done.waiting in
    let slot = c.look-slot.result in
    let out = c.look-slot.ensures in
    let inv = c.loop-done.invariant in
    let e : c.args.row.count - (c.loop-done.done + 1) ≡ n - 1 = omega arith in
    let rest = resources (n - 1) slots slot.next_of_flow in
    let all = All-same (λ r. r < length w) (slot.resource ∷ rest) (resources n slots c.loop-done.at) (sym out.list) inv.exist in
    let here : slot.resource < length w = All-head (λ r. r < length w) slot.resource rest all in
    record {
      chain = rw e out.chain;
      exist = rw (e, length-set w slot.resource (get_or w slot.resource 0 + c.from.result)) (All-tail (λ r. r < length w) slot.resource rest all);
      counts = λ r. rw (e, c.from.ensures) (put_more w slot.resource c.args.row.weight rest r here ∙ ap (λ list. get_or w r 0 + times r list * c.args.row.weight) (sym out.list) ∙ inv.counts r);
      looks = omega (arith, inv.looks, c.look-slot.ensures.looks);
    }

pub bounds-waiting-slot-in-loop-done : goal.bounds-waiting-slot-in-loop-done
bounds-waiting-slot-in-loop-done g c =
    let slots = c.args.uses.now.uses in
    let n = c.args.row.count - c.loop-done.done in
    let slot = c.look-slot.result in
    let rest = resources (n - 1) slots slot.next_of_flow in
    All-head (λ r. r < length c.loop-done.waiting) slot.resource rest
    (All-same (λ r. r < length c.loop-done.waiting) (slot.resource ∷ rest) (resources n slots c.loop-done.at) (sym c.look-slot.ensures.list) c.loop-done.invariant.exist)

pub overflow_add-waiting : goal.overflow_add-waiting
overflow_add-waiting g c =
    let slots = c.args.uses.now.uses in
    let n = c.args.row.count - c.loop-done.done in
    let slot = c.look-slot.result in
    let r = slot.resource in
    let fits : get_or c.loop-done.waiting r 0 + c.args.row.weight < 2 ^ 64 =
    put_fits c.loop-done.waiting r c.args.row.weight (get_or c.args.waiting.now r 0 + times r (resources c.args.row.count slots c.args.row.first) * c.args.row.weight)
    (resources (n - 1) slots slot.next_of_flow) (resources n slots c.loop-done.at) c.look-slot.ensures.list (c.loop-done.invariant.counts r) (c.requires.fits r) in
    omega (arith, fits, c.from.ensures)

pub returns-clause-counts : goal.returns-clause-counts
returns-clause-counts g c = λ r.
    let none : resources (c.args.row.count - c.loop-done.done) c.args.uses.now.uses c.loop-done.at ≡ [] = resources_none (c.args.row.count - c.loop-done.done) c.args.uses.now.uses c.loop-done.at (omega arith) in
    omega (arith, c.loop-done.invariant.counts r, ap (λ list. times r list * c.args.row.weight) none ∙ no_times c.args.row.weight)
  where
    no_times : (n : ℕ) → 0 * n ≡ 0
    no_times n = omega arith
