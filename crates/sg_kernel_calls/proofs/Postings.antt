-- Who waits in the mailboxes, as communications come and begin.
use Rattle.std.proofs.Common.{◌≡◌, ◌≢◌, ℕ, zero, suc, ◌+◌, ◌-◌, ◌<◌, ◌≤◌, Bool, true, false, cond, true≢false, Option, None, Some, List, [], ◌∷◌, ◌++◌, length, set, get_or, append_assoc, refl, sym, ap, ap₂, subst, ◌∙◌, arith}
use Rattle.std.specs.Prelude.{option_to_list}
use Rattle.std.specs.List.{find, All}
use Rattle.std.proofs.lemmas.List.{append-nil}
use Rattle.std.proofs.lemmas.List.Elements.{All-nil, All-cons, All-append}
use Rattle.sg_base.specs.declared.ids.BoxId.{BoxId}
use Rattle.sg_mailbox.specs.declared.sides.Side.{Side}
use Rattle.sg_mailbox.specs.declared.sides.Post.{Post}
use Rattle.sg_mailbox.specs.Posts.{box_eq, without}
use Rattle.sg_mailbox.proofs.Lists.{box_found, box_same}
use Rattle.sg_mailbox.specs.declared.owners.How.TheVariants as how
use Rattle.sg_mailbox.specs.declared.owners.Whose.{Whose}
use Rattle.sg_mailbox.specs.declared.owners.Whose.TheVariants.{Over, Alone, Posted, Pair}
use Rattle.sg_kernel_calls.specs.Meetings.{post_in, posts_from}
use Rattle.sg_kernel_calls.specs.kept.Sound.{is_posted}

-- ---- mailboxes
pub box_found_same : (a b : BoxId) → a ≡ b → box_eq a b ≡ true
box_found_same a b is = ap (box_eq a) (sym is) ∙ box_same a

pub box_apart : (a b : BoxId) → a ≢ b → box_eq a b ≡ false
box_apart a b apart = cases (box_eq a b) refl
  where
    cases : (t : Bool) → box_eq a b ≡ t → t ≡ false
    cases true e = absurd (apart (box_found a b e))
    cases false e = refl

-- ---- the post of one activity
pub not_posted : (mailbox : BoxId) (n : ℕ) (w : Whose) → is_posted w ≡ false → post_in mailbox n w ≡ None
not_posted mailbox n (Over over) e = refl
not_posted mailbox n (Alone a) e = refl
not_posted mailbox n (Posted m s d) e = absurd (true≢false e)
not_posted mailbox n (Pair s r) e = refl

pub posted_elsewhere : (mailbox m : BoxId) (n : ℕ) (s : Bool) (d : Side) → mailbox ≢ m → post_in mailbox n (Posted m s d) ≡ None
posted_elsewhere mailbox m n s d apart = ap (λ b. cond b (Some (record { serial = record { 0 = n }; sends = s; side = d })) None) (box_apart mailbox m apart)

pub posted_here : (mailbox : BoxId) (n : ℕ) (s : Bool) (d : Side) → post_in mailbox n (Posted mailbox s d) ≡ Some (record { serial = record { 0 = n }; sends = s; side = d })
posted_here mailbox n s d = ap (λ b. cond b (Some (record { serial = record { 0 = n }; sends = s; side = d })) None) (box_same mailbox)

-- what a post says of its activity
post_told : (mailbox : BoxId) (n : ℕ) (w : Whose) (q : Post) → post_in mailbox n w ≡ Some q → (q.serial.0 ≡ n) × (w ≡ Posted mailbox q.sends q.side)
post_told mailbox n (Over over) q e = absurd (cc e)
post_told mailbox n (Alone a) q e = absurd (cc e)
post_told mailbox n (Pair s r) q e = absurd (cc e)
post_told mailbox n (Posted m s d) q e = cases (box_eq mailbox m) refl e
  where
    cases : (b : Bool) → box_eq mailbox m ≡ b → cond b (Some (record { serial = record { 0 = n }; sends = s; side = d })) None ≡ Some q → (q.serial.0 ≡ n) × (Posted m s d ≡ Posted mailbox q.sends q.side)
    cases true is k =
        let same : record { serial = record { 0 = n }; sends = s; side = d } ≡ q = cc k in
        (sym (ap (λ (p : Post). p.serial.0) same), ap₂ (λ there (p : Post). Posted there p.sends p.side) (sym (box_found mailbox m is)) same)
    cases false is k = absurd (cc k)

-- ---- lists of activities
pub posts-push : (mailbox : BoxId) (n : ℕ) (whose : List Whose) (w : Whose) → posts_from mailbox n (whose ++ w ∷ []) ≡ posts_from mailbox n whose ++ option_to_list (post_in mailbox (n + length whose) w)
unfolding posts_from
posts-push mailbox n [] w =
    let at : n ≡ n + 0 = omega arith in
    append-nil (option_to_list (post_in mailbox n w)) ∙ ap (λ k. option_to_list (post_in mailbox k w)) at
posts-push mailbox n (x ∷ whose) w =
    let at : n + 1 + length whose ≡ n + suc (length whose) = omega arith in
    let first = option_to_list (post_in mailbox n x) in
    let rest = posts_from mailbox (n + 1) whose in
    ap (λ l. first ++ l) (posts-push mailbox (n + 1) whose w ∙ ap (λ k. rest ++ option_to_list (post_in mailbox k w)) at)
    ∙ sym (append_assoc first rest (option_to_list (post_in mailbox (n + suc (length whose)) w)))

pub posts-set : (mailbox : BoxId) (n i : ℕ) (whose : List Whose) (w : Whose) → ((k : ℕ) → post_in mailbox k (get_or whose i (Over how.Done)) ≡ None) → ((k : ℕ) → post_in mailbox k w ≡ None) → posts_from mailbox n (set whose i w) ≡ posts_from mailbox n whose
unfolding posts_from
posts-set mailbox n i [] w old new = refl
posts-set mailbox n zero (x ∷ whose) w old new = ap (λ o. option_to_list o ++ posts_from mailbox (n + 1) whose) (new n ∙ sym (old n))
posts-set mailbox n (suc i) (x ∷ whose) w old new = ap (λ l. option_to_list (post_in mailbox n x) ++ l) (posts-set mailbox (n + 1) i whose w old new)

-- an activity that isn't posted becomes another's that isn't
pub posts_kept : (mailbox : BoxId) (i : ℕ) (whose : List Whose) (w : Whose) → is_posted (get_or whose i (Over how.Done)) ≡ false → is_posted w ≡ false → posts_from mailbox 1 (set whose i w) ≡ posts_from mailbox 1 whose
posts_kept mailbox i whose w old new = posts-set mailbox 1 i whose w (λ k. not_posted mailbox k (get_or whose i (Over how.Done)) old) (λ k. not_posted mailbox k w new)

pub posts_below : (mailbox : BoxId) (n : ℕ) (whose : List Whose) → All (λ (p : Post). p.serial.0 < n + length whose) (posts_from mailbox n whose)
unfolding posts_from
posts_below mailbox n [] = All-nil (λ (p : Post). p.serial.0 < n + 0)
posts_below mailbox n (x ∷ whose) =
    All-append (λ (p : Post). p.serial.0 < n + suc (length whose)) (option_to_list (post_in mailbox n x)) (posts_from mailbox (n + 1) whose) (one (post_in mailbox n x) refl) (λ k d lt. rest (posts_below mailbox (n + 1) whose) k d lt)
  where
    one : (o : Option Post) → post_in mailbox n x ≡ o → All (λ (p : Post). p.serial.0 < n + suc (length whose)) (option_to_list o)
    one None e = All-nil (λ (p : Post). p.serial.0 < n + suc (length whose))
    one (Some q) e = All-cons (λ (p : Post). p.serial.0 < n + suc (length whose)) q [] (omega (arith, (post_told mailbox n x q e).0)) (All-nil (λ (p : Post). p.serial.0 < n + suc (length whose)))

    rest : All (λ (p : Post). p.serial.0 < n + 1 + length whose) (posts_from mailbox (n + 1) whose) → All (λ (p : Post). p.serial.0 < n + suc (length whose)) (posts_from mailbox (n + 1) whose)
    rest below k d lt = let h = below k d lt in omega (arith, h)

-- ---- a post that is met
pub record FoundAt (test : Post → Bool) (mailbox : BoxId) (n : ℕ) (whose : List Whose) (p : Post) : Type 0 where
  pub from : n ≤ p.serial.0
  pub to : p.serial.0 < n + length whose
  pub is : get_or whose (p.serial.0 - n) (Over how.Done) ≡ Posted mailbox p.sends p.side
  pub taken : (w : Whose) → is_posted w ≡ false → without test (posts_from mailbox n whose) ≡ posts_from mailbox n (set whose (p.serial.0 - n) w)

found_later : (test : Post → Bool) (mailbox : BoxId) (n : ℕ) (x : Whose) (whose : List Whose) (p : Post) → FoundAt test mailbox (n + 1) whose p
    → ((w : Whose) → is_posted w ≡ false → without test (posts_from mailbox n (x ∷ whose)) ≡ option_to_list (post_in mailbox n x) ++ posts_from mailbox (n + 1) (set whose (p.serial.0 - (n + 1)) w))
    → FoundAt test mailbox n (x ∷ whose) p
unfolding posts_from
found_later test mailbox n x whose p f taken =
    let step : p.serial.0 - n ≡ suc (p.serial.0 - (n + 1)) = omega (arith, f.from) in
    record {
      from = omega (arith, f.from);
      to = omega (arith, f.to);
      is = ap (λ k. get_or (x ∷ whose) k (Over how.Done)) step ∙ f.is;
      taken = λ w e. taken w e ∙ sym (ap (λ k. posts_from mailbox n (set (x ∷ whose) k w)) step);
    }

found_here : (test : Post → Bool) (mailbox : BoxId) (n : ℕ) (x : Whose) (whose : List Whose) (q : Post) → post_in mailbox n x ≡ Some q → test q ≡ true → FoundAt test mailbox n (x ∷ whose) q
unfolding posts_from without
found_here test mailbox n x whose q is passes =
    let told = post_told mailbox n x q is in
    let first : q.serial.0 - n ≡ 0 = omega (arith, told.0) in
    record {
      from = omega (arith, told.0);
      to = omega (arith, told.0);
      is = ap (λ k. get_or (x ∷ whose) k (Over how.Done)) first ∙ told.1;
      taken = λ w e.
          ap (λ o. without test (option_to_list o ++ posts_from mailbox (n + 1) whose)) is
          ∙ ap (λ b. cond b (posts_from mailbox (n + 1) whose) (q ∷ without test (posts_from mailbox (n + 1) whose))) passes
          ∙ sym (ap (λ o. option_to_list o ++ posts_from mailbox (n + 1) whose) (not_posted mailbox n w e))
          ∙ sym (ap (λ k. posts_from mailbox n (set (x ∷ whose) k w)) first);
    }

some_same : {X : Type 0} {x y : X} → Some x ≡ Some y → x ≡ y
some_same e = cc e

pub found_post : (test : Post → Bool) (mailbox : BoxId) (n : ℕ) (whose : List Whose) (p : Post) → find test (posts_from mailbox n whose) ≡ Some p → FoundAt test mailbox n whose p
unfolding posts_from without
found_post test mailbox n [] p e = absurd (cc e)
found_post test mailbox n (x ∷ whose) p e = cases (post_in mailbox n x) refl e (λ k. found_post test mailbox (n + 1) whose p k)
  where
    tested : (q : Post) (b : Bool) → post_in mailbox n x ≡ Some q → test q ≡ b → cond b (Some q) (find test (posts_from mailbox (n + 1) whose)) ≡ Some p → (find test (posts_from mailbox (n + 1) whose) ≡ Some p → FoundAt test mailbox (n + 1) whose p) → FoundAt test mailbox n (x ∷ whose) p
    tested q true is passes k later = subst (λ r. FoundAt test mailbox n (x ∷ whose) r) (some_same k) (found_here test mailbox n x whose q is passes)
    tested q false is passes k later =
        let f = later k in
        found_later test mailbox n x whose p f (λ w z.
        ap (λ o. without test (option_to_list o ++ posts_from mailbox (n + 1) whose)) is
        ∙ ap (λ b. cond b (posts_from mailbox (n + 1) whose) (q ∷ without test (posts_from mailbox (n + 1) whose))) passes
        ∙ ap (λ l. q ∷ l) (f.taken w z)
        ∙ sym (ap (λ o. option_to_list o ++ posts_from mailbox (n + 1) (set whose (p.serial.0 - (n + 1)) w)) is))

    cases : (o : Option Post) → post_in mailbox n x ≡ o → find test (option_to_list o ++ posts_from mailbox (n + 1) whose) ≡ Some p → (find test (posts_from mailbox (n + 1) whose) ≡ Some p → FoundAt test mailbox (n + 1) whose p) → FoundAt test mailbox n (x ∷ whose) p
    cases None is k later =
        let f = later k in
        found_later test mailbox n x whose p f (λ w z.
        ap (λ o. without test (option_to_list o ++ posts_from mailbox (n + 1) whose)) is
        ∙ f.taken w z
        ∙ sym (ap (λ o. option_to_list o ++ posts_from mailbox (n + 1) (set whose (p.serial.0 - (n + 1)) w)) is))
    cases (Some q) is k later = tested q (test q) is refl k later
