use Rattle.std.proofs.Common.{◌≡◌, true, not, cond, ◌++◌, [], ◌∷◌, None, subst, sym, ap, ◌∙◌, arith, set, ◌+◌}
use Rattle.std.specs.Result.{is_ok}
use Rattle.std.proofs.lemmas.List.{length-map}
use Rattle.sg_maxmin.specs.kept.Cells.{row_in, rows_in}
use Rattle.sg_maxmin.specs.kept.Numbers.{AreFree}
use Rattle.sg_maxmin.proofs.FreeNumbers.{free_grown, rows_push}
use Rattle.sg_maxmin.proofs.numbered_rows.Rows.grow.Goals as goal

pub invariant_of-self-2 : goal.invariant_of-self-2
invariant_of-self-2 c =
    let cells = c.self.inside.rows.items in
    let free = c.self.inside.free.items in
    let number = c.len-number.result in
    let made : c.push.new.self.items ≡ free ++ number ∷ [] = c.in_ok-push.ensures.items in
    let ok : is_ok c.push-2.result ≡ true = c.is_err.ensures.negation ∙ ap not c.if-is_err.false in
    let grown : c.push-2.new.self.items ≡ cells ++ c.free_cell.result ∷ [] = subst (λ b. c.push-2.new.self.items ≡ cond b (cells ++ c.free_cell.result ∷ []) cells) ok c.push-2.ensures.items in
    let rows : rows_in c.push-2.new.self.items ≡ rows_in cells ++ None ∷ [] = ap rows_in grown ∙ rows_push cells c.free_cell.result None c.free_cell.ensures in
    subst (λ xs. AreFree xs (set c.push.new.self.items c.self.inside.count number) (c.self.inside.count + 1)) (sym rows)
    (subst (λ xs. AreFree (rows_in cells ++ None ∷ []) (set xs c.self.inside.count number) (c.self.inside.count + 1)) (sym made)
    (free_grown (rows_in cells) free c.self.inside.count number c.self.invariant (omega (arith, c.len-number.ensures, c.self.inside.rows.ok.0, length-map cells row_in)) (omega arith)))
