-- A level that takes its words, and the subcommand that it enters.
use Rattle.std.proofs.Common.{◌≡◌, ◌&&◌, ◌⊎◌, inl, inr, List, [], ◌∷◌, Bool, true, false, Option, Some, None, refl, ap, not, cond}
use Rattle.std.specs.Prelude.{find, is_some, option_map}
use Rattle.std.specs.List.{list_all, list_any}
use Rattle.std.specs.Option.{option_map_or}
use Rattle.clap.specs.Words.{Rule, Text, Kinds, App, Shape, first_of}
use Rattle.clap.specs.Takes.{is_given}
use Rattle.clap.specs.Walk.{Names, arg_by_id, rows_after, settled, walk, walk_from, nothing_held, answers_to}
use Rattle.clap.specs.Simple.{entered, label_of, rows_at}
use Rattle.clap.specs.Faults.{level_fault, entered_fault}
use Rattle.sg_words.proofs.Accepted.{passes_id, all_good, Owns, nil_both, walk_good, settle_good}
use Rattle.sg_words.proofs.Ends.{default_ok, defaults_good, check_parts, required_given, given_row, first_good, has_default_of, default_present}

-- what holds at the end of a level that takes its words
pub record Taken (s : Shape) (names : Names) (words : List Text) (has : Bool) (below : Kinds) : Type 0 where
  pub good : all_good s.rules (rows_after s.rules names words) ≡ true
  pub entered : below ≡ []
  pub wanted : (not has && s.subcommand_required) ≡ false
  pub given : (not (s.subcommand_negates_reqs && has) && list_any (λ a. a.required && not (is_given a.id (rows_after s.rules names words))) s.rules) ≡ false

pub level_taken : (s : Shape) (o : Owns s.rules) (names : Names) (words : List Text) (has : Bool) (below : Kinds)
    → list_all (default_ok s.rules) s.rules ≡ true → level_fault s names nothing_held words has below ≡ [] → Taken s names words has below
level_taken s o names words has below ok f =
    let end = (walk s.rules names nothing_held words).held in
    let one = nil_both _ _ f in
    let two = nil_both below _ one.1 in
    let three = nil_both _ _ two.1 in
    let four = nil_both _ _ three.1 in
    let walked = walk_good s o names (walk_from nothing_held) words one.0 refl in
    let set = settle_good s.rules o s.args_override_self end three.0 walked in
    let check = check_parts _ _ _ four.1 in
    record {
      good = defaults_good s.rules s.rules (settled s.rules end).rows ok set;
      entered = two.0;
      wanted = check.0;
      given = check.1;
    }

-- the level that a command enters takes its words
pub record Enters (a : App) (stop : Option (Text × List Text)) : Type 0 where
  pub word : Text
  pub words : List Text
  pub sub : Shape
  pub stops : stop ≡ Some (word, words)
  pub found : find (λ s. answers_to word (label_of s)) a.subs ≡ Some sub
  pub is : entered a stop ≡ Some (sub.name, rows_after sub.rules [] words)
  pub fault : level_fault sub [] nothing_held words false [] ≡ []

pub entered_level : (a : App) (stop : Option (Text × List Text)) → is_some (entered a stop) ≡ true → entered_fault a stop ≡ [] → Enters a stop
entered_level a None some f = cc
entered_level a (Some p) some f = go (find (λ s. answers_to p.0 (label_of s)) a.subs) refl some f
  where
    go : (r : Option Shape) → find (λ s. answers_to p.0 (label_of s)) a.subs ≡ r → is_some (option_map (λ s. rows_at s p.1) r) ≡ true
        → option_map_or (λ s. level_fault s [] nothing_held p.1 false []) r [] ≡ [] → Enters a (Some p)
    go None e some f = cc
    go (Some s) e some f = record {
      word = p.0;
      words = p.1;
      sub = s;
      stops = refl;
      found = e;
      is = ap (option_map (λ s. rows_at s p.1)) e;
      fault = f;
    }

-- a required argument has a first value that passed its parser
pub required_first : (s : Shape) (names : Names) (words : List Text) (below : Kinds) (a : Rule) → Taken s names words false below
    → arg_by_id s.rules a.id ≡ Some a → a.required ≡ true
    → (v : Text) × (first_of a.id (rows_after s.rules names words) ≡ Some v) × (passes_id s.rules a.id v ≡ true)
required_first s names words below a t found r =
    let none = no_negation s.subcommand_negates_reqs _ t.given in
    first_good s.rules a.id (rows_after s.rules names words)
    (given_row a.id _ (required_given (rows_after s.rules names words) _ s.rules a none found r)) t.good
  where
    no_negation : (n x : Bool) → (not (n && false) && x) ≡ false → x ≡ false
    no_negation true x h = h
    no_negation false x h = h

-- so has an argument with a default
pub default_first : (s : Shape) (names : Names) (words : List Text) (has : Bool) (below : Kinds) (id : Text) → Taken s names words has below
    → has_default_of id s.rules ≡ true
    → (v : Text) × (first_of id (rows_after s.rules names words) ≡ Some v) × (passes_id s.rules id v ≡ true)
default_first s names words has below id t d =
    first_good s.rules id (rows_after s.rules names words) (default_present id s.rules _ d) t.good

-- what is found among four is one of the first three, or the fourth, which then passes
pub find_four : (q : Shape → Bool) (w x y z s : Shape) → find q (w ∷ x ∷ y ∷ z ∷ []) ≡ Some s → (((s ≡ w) ⊎ (s ≡ x)) ⊎ (s ≡ y)) ⊎ (q z ≡ true)
find_four q w x y z s f = go (q w) (q x) (q y) (q z) f
  where
    go : (a b d e : Bool) → cond a (Some w) (cond b (Some x) (cond d (Some y) (cond e (Some z) None))) ≡ Some s → (((s ≡ w) ⊎ (s ≡ x)) ⊎ (s ≡ y)) ⊎ (e ≡ true)
    go true b d e f = inl (inl (inl cc))
    go false true d e f = inl (inl (inr cc))
    go false false true e f = inl (inr cc)
    go false false false true f = inr refl
    go false false false false f = cc
