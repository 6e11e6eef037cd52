-- What stands under the child is its first row.
use Rattle.std.proofs.Common.{◌≡◌, Some, sym, ◌∙◌, ap}
use Rattle.std.specs.Option.{option_copied}
use Rattle.std.specs.List.{slice_get}
use Rattle.sg_route.specs.Local.{spoke_at}
use Rattle.sg_route.specs.Equal.{child_eq}
use Rattle.sg_route.specs.kept.Index.{row_of}
use Rattle.sg_route.proofs.IndexLemmas.{found_at, found_nowhere, item_at}
use Rattle.sg_route.proofs.spokes.Spokes.of.Goals as goal

pub returns-in-Some : goal.returns-in-Some
returns-in-Some c =
    let e : c.deref.result.now ≡ c.self.inside.rows.items = c.deref.ensures.value in
    let g : option_copied c.get.result ≡ slice_get c.deref.result.now c.in-Some.at = item_at c.deref.result.now c.in-Some.at c.get.result c.get.ensures.lookup in
    let s : row_of c.self.inside.at c.args.child ≡ Some c.in-Some.at = sym c.of.ensures ∙ c.in-Some.is in
    g ∙ ap (λ xs. slice_get xs c.in-Some.at) e
    ∙ sym (found_at (λ x. child_eq c.args.child x.child) c.self.inside.rows.items c.in-Some.at (row_of c.self.inside.at c.args.child) (c.self.invariant c.args.child) s)
    ∙ ap (λ xs. spoke_at xs c.args.child) c.self.view_is

pub returns-in-None : goal.returns-in-None
returns-in-None c =
    let s = sym c.of.ensures ∙ c.in-None.is in
    sym (found_nowhere (λ x. child_eq c.args.child x.child) c.self.inside.rows.items (row_of c.self.inside.at c.args.child) (c.self.invariant c.args.child) s)
    ∙ ap (λ xs. spoke_at xs c.args.child) c.self.view_is
