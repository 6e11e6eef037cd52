-- What the map finds is the first row of the pair.
use Rattle.std.specs.Prelude.{◌&&◌}
use Rattle.std.proofs.Common.{◌≡◌, Some, sym, ◌∙◌, ap}
use Rattle.std.specs.Option.{option_copied}
use Rattle.std.specs.List.{slice_get}
use Rattle.std.specs.HashMap.{get}
use Rattle.sg_route.specs.Local.{declared_route}
use Rattle.sg_route.specs.Equal.{child_eq}
use Rattle.sg_route.specs.kept.Index.{pair_key, pair_key_eq}
use Rattle.sg_route.proofs.IndexLemmas.{found_at, found_nowhere, item_at}
use Rattle.sg_route.proofs.locals.Locals.of.Goals as goal

pub returns-in-Some : goal.returns-in-Some
returns-in-Some c =
    let e : c.deref.result.now ≡ c.self.inside.rows.items = c.deref.ensures.value in
    let g : option_copied c.get-in-Some.result ≡ slice_get c.deref.result.now c.in-Some.at.now = item_at c.deref.result.now c.in-Some.at.now c.get-in-Some.result c.get-in-Some.ensures.lookup in
    let s : get pair_key_eq c.self.inside.at (pair_key c.args.pair) ≡ Some c.in-Some.at.now = ap (get pair_key_eq c.self.inside.at) (sym c.pair_key.ensures) ∙ sym c.get.ensures.value ∙ ap option_copied c.in-Some.is in
    g ∙ ap (λ xs. slice_get xs c.in-Some.at.now) e
    ∙ sym (found_at (λ x. child_eq c.args.pair.from x.pair.from && child_eq c.args.pair.to x.pair.to) c.self.inside.rows.items c.in-Some.at.now (get pair_key_eq c.self.inside.at (pair_key c.args.pair)) (c.self.invariant c.args.pair) s)
    ∙ ap (λ xs. declared_route xs c.args.pair) c.self.view_is

pub returns-in-None : goal.returns-in-None
returns-in-None c =
    let s = ap (get pair_key_eq c.self.inside.at) (sym c.pair_key.ensures) ∙ sym c.get.ensures.value ∙ ap option_copied c.in-None.is in
    sym (found_nowhere (λ x. child_eq c.args.pair.from x.pair.from && child_eq c.args.pair.to x.pair.to) c.self.inside.rows.items (get pair_key_eq c.self.inside.at (pair_key c.args.pair)) (c.self.invariant c.args.pair) s)
    ∙ ap (λ xs. declared_route xs c.args.pair) c.self.view_is
