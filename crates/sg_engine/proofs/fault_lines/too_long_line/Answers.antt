use Rattle.std.proofs.Common.{◌≡◌, ◌∙◌, ap, ap₂, ℕ, List, ◌++◌, append_assoc}
use Rattle.std.specs.Prelude.{codes}
use Rattle.sg_engine.specs.FaultLines.{point_name}
use Rattle.sg_engine.proofs.fault_lines.too_long_line.Goals as goal

pair_then : (head from to sep tail : List ℕ) → (head ++ (from ++ (sep ++ to))) ++ tail ≡ head ++ (from ++ (sep ++ (to ++ tail)))
pair_then head from to sep tail =
    append_assoc head (from ++ (sep ++ to)) tail
    ∙ ap (λ (l : List ℕ). head ++ l) (append_assoc from (sep ++ to) tail ∙ ap (λ (l : List ℕ). from ++ l) (append_assoc sep to tail))

pub returns : goal.returns
returns c =
    let head : List ℕ = codes "route from " in
    let sep : List ℕ = codes " to " in
    let tail : List ℕ = codes ": more than 64 links\n" in
    let from : List ℕ = point_name c.args.platform.now c.args.from in
    let to : List ℕ = point_name c.args.platform.now c.args.to in
    let begun : c.push_str.new.self.bytes ≡ head = c.push_str.ensures.bytes ∙ ap (λ (l : List ℕ). l ++ head) c.new-line.ensures in
    let pair : c.push_pair.new.line.bytes ≡ head ++ (from ++ (sep ++ to)) =
    c.push_pair.ensures.bytes
    ∙ ap (λ (l : List ℕ). l ++ (c.point_name.result.text.now ++ (sep ++ c.point_name-2.result.text.now))) begun
    ∙ ap₂ (λ (a b : List ℕ). head ++ (a ++ (sep ++ b))) c.point_name.ensures c.point_name-2.ensures in
    c.push_str-2.ensures.bytes ∙ ap (λ (l : List ℕ). l ++ tail) pair ∙ pair_then head from to sep tail
