use Rattle.std.proofs.Common.{◌≡◌, ℕ, Option, None, Some, List, rules}
use Rattle.std.specs.Option.{IfSome}
use Rattle.sg_base.specs.declared.ids.BoxId.{BoxId}
use Rattle.sg_mailbox.specs.declared.sides.Post.{Post}
use Rattle.sg_mailbox.specs.declared.sides.Place.{Place}
use Rattle.sg_mailbox.specs.kept.Queues.{IsPlace}
use Rattle.sg_mailbox.proofs.box_queues.first.Goals as goal

none_held : (number : BoxId → Option ℕ) (queues : List (List (ℕ × Post))) (place : Option Place) → place ≡ None → IfSome place (IsPlace number queues)
none_held number queues None h = tt
none_held number queues (Some place) h = cc h

pub returns-clause-kept : goal.returns-clause-kept
returns-clause-kept c = record {
  roomy = search rules;
  numbered = search rules;
  placed = record { told = search rules; held = λ serial. none_held _ c.in_ok-new.field-0.queues _ (c.new-4.ensures serial) };
  slots = search rules;
  ordered = search rules;
  filled = search rules;
}
