-- One blank hop more.
use Rattle.std.proofs.Common.{[], ◌∷◌, List, length, sym, subst, ap, ◌∙◌, arith, length-append}
use Rattle.sg_paths.specs.declared.trees.Hop.{Hop}
use Rattle.sg_paths.specs.Trees.{StayOnward}
use Rattle.sg_paths.proofs.TreeLemmas.{blank, one_blank}
use Rattle.sg_paths.proofs.trees.add_row.Goals as goal

pub adding-preserved : goal.adding-preserved
adding-preserved c =
    let P : List Hop → Type 0 = λ l. StayOnward c.args.hops.now.items l in
    let count = c.adding.invariant.count in
    record {
      stay = subst P (sym c.push_reserved.ensures.items) (λ routes old. one_blank c.adding.hops.items routes (c.adding.invariant.stay routes old));
      count = ap (length {A = Hop}) c.push_reserved.ensures.items ∙ length-append c.adding.hops.items (blank ∷ []) ∙ omega (arith, count);
      capacity = c.push_reserved.ensures.capacity ∙ c.adding.invariant.capacity;
    }
