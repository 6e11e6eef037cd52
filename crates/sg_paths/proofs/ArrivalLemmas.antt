-- The last route to each point.
use Rattle.std.proofs.Common.{◌≡◌, ◌≢◌, ◌+◌, ◌-◌, ◌<◌, ◌≤◌, ◌⊎◌, ℕ, zero, suc, List, [], ◌∷◌, ◌++◌, length, get_or, set, inl, inr, refl, sym, subst, ap, ◌∙◌, arith}
use Rattle.std.proofs.lemmas.List.{get_or-set_same, get_or-set_other}
use Rattle.std.proofs.lemmas.Option.{slice_get-get_or}
use Rattle.sg_paths.specs.declared.route.PathRoute.{PathRoute}
use Rattle.sg_paths.specs.Arrivals.{IsLast, to_at, to_in}
use Rattle.sg_paths.proofs.AheadLemmas.{eq_or}
use Rattle.sg_paths.proofs.KeyLemmas.{tri}

pub leads_to : (routes : List PathRoute) (i : ℕ) (d : PathRoute) → i < length routes → to_at routes i ≡ (get_or routes i d).to
leads_to routes i d few = ap to_in (slice_get-get_or routes i d few)

pub last_here : (routes : List PathRoute) (i point : ℕ) → to_at routes i ≡ point → IsLast routes point (i + 1) (i + 1)
last_here routes i point leads = record {
  within = omega arith;
  none = λ k from few is. omega arith;
  here = λ some. let e : i + 1 - 1 ≡ i = omega arith in ap (to_at routes) e ∙ leads;
}

pub last_still : (routes : List PathRoute) (i point n : ℕ) → to_at routes i ≢ point → IsLast routes point i n → IsLast routes point (i + 1) n
last_still routes i point n away last = record {
  within = let w = last.within in omega (arith, w);
  none = λ k from few. none k from (tri k i) few;
  here = last.here;
}
  where
    none : (k : ℕ) → n ≤ k → ((k < i) ⊎ ((k ≡ i) ⊎ (i < k))) → k < i + 1 → to_at routes k ≢ point
    none k from (inl less) few is = last.none k from less is
    none k from (inr (inl e)) few is = away (ap (to_at routes) (sym e) ∙ is)
    none k from (inr (inr more)) few is = omega arith

-- the last routes once one more was noted
pub lasts_more : (routes : List PathRoute) (lasts : List ℕ) (i to point : ℕ) → to_at routes i ≡ to → point < length lasts → IsLast routes point i (get_or lasts point 0)
    → IsLast routes point (i + 1) (get_or (set lasts to (i + 1)) point 0)
lasts_more routes lasts i to point leads inside last = go (eq_or point to)
  where
    P : ℕ → Type 0
    P n = IsLast routes point (i + 1) n

    go : (point ≡ to) ⊎ (point ≢ to) → IsLast routes point (i + 1) (get_or (set lasts to (i + 1)) point 0)
    go (inl e) =
        let at : get_or (set lasts to (i + 1)) point 0 ≡ i + 1 = ap (λ k. get_or (set lasts to (i + 1)) k 0) e ∙ get_or-set_same lasts to (i + 1) 0 (omega arith) in
        subst P (sym at) (last_here routes i point (leads ∙ sym e))
    go (inr far) =
        let at : get_or (set lasts to (i + 1)) point 0 ≡ get_or lasts point 0 = get_or-set_other lasts to point (i + 1) 0 far in
        subst P (sym at) (last_still routes i point (get_or lasts point 0) (λ is. far (sym is ∙ leads)) last)

-- and those before each route
push_at : (xs : List ℕ) (x k : ℕ) → k < length xs → get_or (xs ++ x ∷ []) k 0 ≡ get_or xs k 0
push_at [] x k few = absurd (omega arith)
push_at (y ∷ xs) x zero few = refl
push_at (y ∷ xs) x (suc k) few = push_at xs x k (omega arith)

push_last : (xs : List ℕ) (x k : ℕ) → k ≡ length xs → get_or (xs ++ x ∷ []) k 0 ≡ x
push_last [] x zero e = refl
push_last [] x (suc k) e = absurd (omega arith)
push_last (y ∷ xs) x zero e = absurd (omega arith)
push_last (y ∷ xs) x (suc k) e = push_last xs x k (omega arith)

pub befores_more : (routes : List PathRoute) (befores : List ℕ) (i n k : ℕ) → length befores ≡ i → ((j : ℕ) → j < i → IsLast routes (to_at routes j) j (get_or befores j 0)) → IsLast routes (to_at routes i) i n → k < i + 1
    → IsLast routes (to_at routes k) k (get_or (befores ++ n ∷ []) k 0)
befores_more routes befores i n k count old new few = go (tri k i)
  where
    P : ℕ → Type 0
    P m = IsLast routes (to_at routes k) k m

    go : ((k < i) ⊎ ((k ≡ i) ⊎ (i < k))) → IsLast routes (to_at routes k) k (get_or (befores ++ n ∷ []) k 0)
    go (inl less) = subst P (sym (push_at befores n k (omega arith))) (old k less)
    go (inr (inl e)) =
        let at : get_or (befores ++ n ∷ []) k 0 ≡ n = push_last befores n k (e ∙ sym count) in
        let Q : ℕ → Type 0 = λ j. IsLast routes (to_at routes j) j n in
        subst P (sym at) (subst Q (sym e) new)
    go (inr (inr more)) = absurd (omega arith)
