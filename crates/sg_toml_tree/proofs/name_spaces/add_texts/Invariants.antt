use Rattle.std.proofs.Common.{◌+◌, take}
use Rattle.std.specs.HashMap.{get_by_text}
use Rattle.sg_toml_tree.specs.Along.{along}
use Rattle.sg_toml_tree.specs.NameSpaces.{Adds, with_number, texts_at}
use Rattle.toml.specs.View.{view}
use Rattle.sg_toml_tree.proofs.name_spaces.add_texts.Given as goal

abbrev pub invariant-loop-i : goal.invariant-loop-i
invariant-loop-i l =
    Adds (along (λ i row. with_number (l.before + i) (texts_at l.key (view row))) 0 (take l.i l.rows)) (get_by_text l.initial.space) (get_by_text l.space)
