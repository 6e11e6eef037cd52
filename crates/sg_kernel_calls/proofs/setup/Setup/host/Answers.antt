use Rattle.std.proofs.Common.{◌≡◌, ◌<◌, length, map, get_or, sym, ap, arith, ◌∙◌}
use Rattle.std.proofs.lemmas.List.{get_or-map, length-map}
use Rattle.sg_kernel_calls.specs.Setup.{Setup}
use Rattle.sg_kernel_calls.specs.kept.Constants.{point_number}
use Rattle.sg_kernel_calls.proofs.setup.Setup.host.Goals as goal

pub returns-clause-exists : goal.returns-clause-exists
returns-clause-exists c =
    let items = c.self.inside.homes.items in
    let place = c.index.result in
    let long = length-map items point_number in
    let many = ap (λ (s : Setup). s.hosts) c.self.view_is in
    let within : place < length items = omega (arith, c.index.ensures, c.requires.0, c.requires.1, long, ap (λ (s : Setup). length s.homes) c.self.view_is) in
    let is : c.index-2.result.now.0 ≡ get_or (map point_number items) place 0 = ap point_number c.index-2.ensures ∙ sym (get_or-map point_number items place c.index-2.result.now 0 within) in
    omega (arith, is, many, c.self.invariant.homes place 0 (omega (arith, within, long)))
