-- Another free place.
use Rattle.std.proofs.Common.{List, Option, sym, subst}
use Rattle.sg_paths.specs.declared.asked.Asked.{Asked}
use Rattle.sg_paths.specs.Asked.{AreFree}
use Rattle.sg_paths.proofs.AskedLemmas.{none_free, one_free}
use Rattle.sg_paths.proofs.asked.room_for.Goals as goal

pub filling-init : goal.filling-init
filling-init c = let P : List (Option Asked) → Type 0 = AreFree in subst P (sym c.new-asked.ensures.items) none_free

pub filling-preserved : goal.filling-preserved
filling-preserved c =
    let P : List (Option Asked) → Type 0 = AreFree in
    subst P (sym c.in_ok-push.ensures.items) (one_free c.filling.asked.items c.filling.invariant)
