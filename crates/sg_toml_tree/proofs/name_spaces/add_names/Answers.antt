use Rattle.std.proofs.Common.{◌≤◌, ◌∙◌, sym, ap, subst, map, take}
use Rattle.std.proofs.lemmas.List.{length-map, take-map}
use Rattle.std.specs.HashMap.{get_by_text}
use Rattle.sg_toml_tree.proofs.NameSpaceLemmas.{numbered_from, on_err}
use Rattle.sg_toml_tree.specs.NameSpaces.{AddsFront, found_in, numbered, or_else, texts_at}
use Rattle.toml.specs.View.{view}
use Rattle.sg_toml_tree.proofs.name_spaces.add_names.Goals as goal

pub returns-clause-added : goal.returns-clause-added
returns-clause-added c = λ q.
    c.in_ok-add_texts.ensures.added q ∙ ap (λ given. or_else (get_by_text c.args.space.now q) (found_in given q)) (numbered_from view (texts_at c.args.key.now) c.args.before c.args.rows.now)

pub returns-in_err-add_texts-clause-memory : goal.returns-in_err-add_texts-clause-memory
returns-in_err-add_texts-clause-memory c =
    let some = c.in_err-add_texts.ensures.memory in
    on_err c.from_residual.result (AddsFront c.args.key.now c.args.before (map view c.args.rows.now) (get_by_text c.args.space.now) (get_by_text c.add_texts.new.space)) (record {
      done = some.0;
      within = subst (λ n. some.0 ≤ n) (sym (length-map c.args.rows.now view)) some.1;
      adds = λ q. some.2 q
          ∙ ap (λ given. or_else (get_by_text c.args.space.now q) (found_in given q))
          (numbered_from view (texts_at c.args.key.now) c.args.before (take some.0 c.args.rows.now) ∙ sym (ap (numbered (texts_at c.args.key.now) c.args.before) (take-map view some.0 c.args.rows.now)));
    })
