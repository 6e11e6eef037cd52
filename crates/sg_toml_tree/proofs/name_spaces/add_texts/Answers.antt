use Rattle.std.proofs.Common.{◌+◌, ℕ, List}
use Rattle.std.specs.Str.{bytes_eq}
use Rattle.sg_toml_tree.proofs.NameSpaceLemmas.{along_front}
use Rattle.sg_toml_tree.specs.NameSpaces.{with_number, texts_at}
use Rattle.toml.specs.View.{view}
use Rattle.toml.specs.declared.value.Value.{Value}
use Rattle.sg_toml_tree.proofs.name_spaces.add_texts.Goals as goal

pub loop-i-preserved : goal.loop-i-preserved
loop-i-preserved c = λ q.
    let row = c.index-rows-i.result in
    let f : ℕ → Value → List (List ℕ × ℕ) = λ i r. with_number (c.args.before + i) (texts_at c.args.key.now (view r)) in
    along_front (bytes_eq q) f c.args.rows.now c.loop-i.i row _ _ _ c.loop-i-test.true c.index-rows-i.is (c.loop-i.invariant q) (c.in_ok-add_text.ensures.added q)
