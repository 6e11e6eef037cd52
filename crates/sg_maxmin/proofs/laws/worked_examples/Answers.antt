use Rattle.std.proofs.Common.{◌≡◌, ℕ, ◌<◌, ◌==◌, ◌||◌, true, false, [], ◌∷◌, refl, arith, slice_index, ◌-◌, zero, suc}
use Rattle.sg_maxmin.specs.Fill.{level_of, level_from, next, is_at, lowest, least, limits, level, bound_level, share_at}
use Rattle.sg_maxmin.specs.Relisted.{AreRelisted}
use Rattle.sg_maxmin.specs.Worked.{behind, before}
use Rattle.std.proofs.lemmas.List.Sorted.{IsPermutation-refl, IsPermutation-reverse}
use Rattle.sg_maxmin.proofs.laws.worked_examples.Goals as goal

one_of_two : (n : ℕ) → (((0 == n) || ((1 == n) || false)) || (((1 == n) || false) || (((1 == n) || false) || false))) ≡ true → n < 2
one_of_two n e = grind arith

at : (n : ℕ) → n < 2 → slice_index (10 ∷ 2 ∷ []) (1 - n) ≡ slice_index (2 ∷ 10 ∷ []) n
at zero h = refl
at (suc zero) h = refl
at (suc (suc n)) h = absurd (omega (arith, h))

moved : AreRelisted (λ resource. 1 - resource) (2 ∷ 10 ∷ []) (10 ∷ 2 ∷ []) behind before
moved = record {
  own = λ one other u v e. omega (arith, one_of_two one u, one_of_two other v, e);
  capacity = λ n u. at n (one_of_two n u);
  each = (
    record { uses = IsPermutation-reverse (1 ∷ 0 ∷ []); weight = refl; bound = refl },
    (record { uses = IsPermutation-refl (0 ∷ []); weight = refl; bound = refl }, (record { uses = IsPermutation-refl (0 ∷ []); weight = refl; bound = refl }, tt)),
  );
}

pub returns : goal.returns
unfolding level_of level_from next is_at lowest least limits level bound_level share_at
returns c = record {
  alike = refl;
  two_links = refl;
  left_by_a_bound = refl;
  left_by_a_link = refl;
  relisted = moved;
  links_exchanged = refl;
  bounds_alone = refl;
  nothing = refl;
  priorities = refl;
  weights_leave = refl;
  bound_rounded_up = refl;
  bound_within = refl;
}
