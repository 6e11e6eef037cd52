-- What parts of a step note, one after the other.
use Rattle.std.proofs.Common.{◌≡◌, ◌≢◌, ℕ, suc, ◌+◌, ◌*◌, ◌<◌, ◌≤◌, inl, inr, Bool, true, false, cond, eq-eqb, ne_eqb, is_none, Option, None, Some, List, [], ◌∷◌, length, get_or, set, sum_by, AllPairs, get_or-set_same, get_or-set_other, sym, ap, subst, ◌∙◌, arith}
use Rattle.std.proofs.lemmas.List.Sums.{sum_by-cons}
use Rattle.sg_base.specs.MarkSet.{is_in}
use Rattle.sg_maxmin.specs.Chained.{users_on}
use Rattle.sg_maxmin.specs.Sharing.{Sharing}
use Rattle.sg_maxmin_solve.specs.declared.filling.Filling.{Filling}
use Rattle.sg_maxmin_solve.specs.Filling.{fixed_at}
use Rattle.sg_maxmin_solve.specs.Component.{lengths}
use Rattle.sg_maxmin_solve.specs.Holds.{MayHold, NotesHolds, noted_at, untaken, users_at}
use Rattle.sg_maxmin_solve.proofs.Fixing.{sum_one}
use Rattle.sg_maxmin.proofs.Listed.{eq_cases}
use Rattle.sg_maxmin.proofs.Users.{is_in_In}

pub may_on : (low level : ℕ) (a b c : Option ℕ) → MayHold low level a b → MayHold low level b c → MayHold low level a c
may_on low level a b c p (inr q) = inr q
may_on low level a b c (inl e) (inl q) = inl (q ∙ e)
may_on low level a b c (inr p) (inl q) = inr (p.0, q ∙ p.1)

pub may_keep : (low level : ℕ) (a b : Option ℕ) → MayHold low level a b → a ≡ Some low → b ≡ Some low
may_keep low level a b (inl q) e = q ∙ e
may_keep low level a b (inr q) e = q.1

-- ---- one resource
module _ (low n : ℕ) (f : Filling) (below : n < length f.holds.items) where
  abbrev marked : List (Option ℕ)
  marked = set f.holds.items n (Some low)

  yes : get_or f.levels.items n 0 ≡ low → noted_at low n f ≡ set f.holds.items n (Some low)
  yes e = ap (λ b. cond b marked f.holds.items) (eq-eqb (get_or f.levels.items n 0) low e)

  no_ : (get_or f.levels.items n 0 ≡ low → ⊥) → noted_at low n f ≡ f.holds.items
  no_ ne = ap (λ b. cond b marked f.holds.items) (ne_eqb (get_or f.levels.items n 0) low ne)

  pub noted_here : get_or f.levels.items n 0 ≡ low → fixed_at (noted_at low n f) n ≡ Some low
  noted_here e = ap (λ hs. fixed_at hs n) (yes e) ∙ get_or-set_same f.holds.items n (Some low) None below

  pub noted_other : (c : ℕ) → c ≢ n → fixed_at (noted_at low n f) c ≡ fixed_at f.holds.items c
  noted_other c ne = elim (eq_cases (get_or f.levels.items n 0) low) [
    | inl e ↦ ap (λ hs. fixed_at hs c) (yes e) ∙ get_or-set_other f.holds.items n c (Some low) None ne
    | inr off ↦ ap (λ hs. fixed_at hs c) (no_ off)
  ]

  pub noted_may : (c : ℕ) → MayHold low (get_or f.levels.items c 0) (fixed_at f.holds.items c) (fixed_at (noted_at low n f) c)
  noted_may c = elim (eq_cases c n) [
    | inr ne ↦ inl (noted_other c ne)
    | inl same ↦ elim (eq_cases (get_or f.levels.items n 0) low) [
      | inl e ↦ inr (ap (λ m. get_or f.levels.items m 0) same ∙ e, ap (fixed_at (noted_at low n f)) same ∙ noted_here e)
      | inr off ↦ inl (ap (λ hs. fixed_at hs c) (no_ off))
    ]
  ]

-- what follows notes no more
pub notes_kept : (reached : List ℕ) (low : ℕ) (a b d : Filling) → NotesHolds reached low a b → d.holds.items ≡ b.holds.items → NotesHolds reached low a d
notes_kept reached low a b d p e = record {
  others = λ c off. ap (λ hs. fixed_at hs c) e ∙ p.others c off;
  may = λ c. subst (λ hs. MayHold low (get_or a.levels.items c 0) (fixed_at a.holds.items c) (fixed_at hs c)) (sym e) (p.may c);
  taken = λ c r at some. ap (λ hs. fixed_at hs c) e ∙ p.taken c r at some;
}

-- ---- visits
-- a resource that is noted for the first time is untaken no more
pub taken_less : (s : Sharing) (reached : List ℕ) (low n : ℕ) (f new : Filling) → n < length f.holds.items → AllPairs (λ a b. a ≢ b) reached → is_in n reached ≡ true → (get_or f.levels.items n 0 ≡ low → fixed_at f.holds.items n ≡ None) →
    new.holds.items ≡ noted_at low n f → untaken s reached new + users_at s low n f ≡ untaken s reached f
taken_less s reached low n f new below once r fresh e =
    let rows : ℕ → ℕ = λ c. length (users_on s.users c) in
    let part : Option ℕ → ℕ → ℕ = λ o c. cond (is_none o) (rows c) 0 in
    let sums = sum_one (λ c. part (fixed_at f.holds.items c) c) (λ c. part (fixed_at new.holds.items c) c) n reached once (is_in_In n reached r) (λ c ne. ap (λ o. part o c) (ap (λ hs. fixed_at hs c) e ∙ noted_other low n f below c ne)) in
    elim (eq_cases (get_or f.levels.items n 0) low) [
      | inl at ↦
          let now = ap (λ o. part o n) (ap (λ hs. fixed_at hs n) e ∙ noted_here low n f below at) in
          let was = ap (λ o. part o n) (fresh at) in
          let cost = ap (λ b. cond b (rows n) 0) (eq-eqb (get_or f.levels.items n 0) low at) in
          omega (arith, sums, now, was, cost)
      | inr off ↦
          let same = ap (λ o. part o n) (ap (λ hs. fixed_at hs n) (e ∙ no_ low n f below off)) in
          let cost = ap (λ b. cond b (rows n) 0) (ne_eqb (get_or f.levels.items n 0) low off) in
          omega (arith, sums, same, cost)
    ]

-- what notes no more takes no more
pub untaken_same : (s : Sharing) (reached : List ℕ) (a b : Filling) → b.holds.items ≡ a.holds.items → untaken s reached b ≡ untaken s reached a
untaken_same s reached a b e = ap (λ (hs : List (Option ℕ)). sum_by (λ c. cond (is_none (fixed_at hs c)) (length (users_on s.users c)) 0) reached) e

pub untaken_few : (s : Sharing) (reached : List ℕ) (f : Filling) → untaken s reached f ≤ lengths (users_on s.users) reached
untaken_few s [] f = omega arith
untaken_few s (x ∷ xs) f = omega (arith, sum_by-cons (λ c. cond (is_none (fixed_at f.holds.items c)) (length (users_on s.users c)) 0) x xs, sum_by-cons (λ c. length (users_on s.users c)) x xs, untaken_few s xs f, at_most (is_none (fixed_at f.holds.items x)) (length (users_on s.users x)))
  where
    at_most : (b : Bool) (n : ℕ) → cond b n 0 ≤ n
    at_most true n = omega arith
    at_most false n = omega arith

-- six visits to each use are no more than three and three a step
pub few_looks : (rows : ℕ → List ℕ) (xs : List ℕ) → 6 * lengths rows xs ≤ 3 * lengths rows xs + length xs * (3 * lengths rows xs)
few_looks rows [] = omega arith
few_looks rows (x ∷ xs) = more (length xs) (lengths rows (x ∷ xs))
  where
    more : (n u : ℕ) → 6 * u ≤ 3 * u + suc n * (3 * u)
    more n u = omega arith
