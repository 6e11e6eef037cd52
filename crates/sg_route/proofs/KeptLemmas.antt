-- Links that are kept once.
use Rattle.std.proofs.Common.{◌≡◌, ◌≤◌, Bool, true, false, cond, List, [], ◌∷◌, ◌++◌, length, arith, refl, sym, ◌∙◌, ap, append_assoc, length-append}
use Rattle.std.proofs.lemmas.List.{append-nil}
use Rattle.std.proofs.lemmas.Bool.Decides.{nat_tests}
use Rattle.std.specs.Prelude.{nat_lt, ◌==◌}
use Rattle.sg_base.specs.declared.ids.LinkId.{LinkId}
use Rattle.sg_route.specs.DistinctLinks.{is_among, distinct_links}
use Rattle.sg_route.specs.kept.Kept.{Kept, keep_one, keep_all}

-- links in two parts
pub keep_all-append : (kept : Kept) (xs ys : List LinkId) → keep_all kept (xs ++ ys) ≡ keep_all (keep_all kept xs) ys
keep_all-append kept [] ys = refl
keep_all-append kept (x ∷ xs) ys = keep_all-append (keep_one kept x) xs ys

-- once a link was too many, this stays so
keep_all-over : (kept : Kept) (xs : List LinkId) → kept.over ≡ true → (keep_all kept xs).over ≡ true
keep_all-over kept [] over = over
keep_all-over kept (x ∷ xs) over = keep_all-over (keep_one kept x) xs (go (is_among x kept.links) (length kept.links == 64))
  where
    go : (b full : Bool) → (cond b kept (cond full (record { links = kept.links; over = true }) (record { links = kept.links ++ x ∷ []; over = kept.over }))).over ≡ true
    go true full = over
    go false true = refl
    go false false = over

pub record IsKept (seen rest : List LinkId) (kept : Kept) : Type 0 where
  pub over : kept.over ≡ nat_lt 64 (length (seen ++ distinct_links seen rest))
  pub links : kept.over ≡ false → kept.links ≡ seen ++ distinct_links seen rest

-- at most 64 links are kept, the first places of those that came
pub keep_all_is : (seen rest : List LinkId) → length seen ≤ 64 → IsKept seen rest (keep_all (record { links = seen; over = false }) rest)
keep_all_is seen [] few = record {
  over = sym (rw append-nil (grind (arith, nat_tests)));
  links = λ _. sym (append-nil seen);
}
keep_all_is seen (x ∷ rest) few =
    let r = kept_with (is_among x seen) (length seen == 64) refl (keep_all_is seen rest few) (λ room. keep_all_is (seen ++ x ∷ []) rest room) in
    record { over = r.0; links = r.1 }
  where
    -- what is kept of x and the rest; b says whether x is there, and full whether there is no room
    kept_with : (b full : Bool) → full ≡ (length seen == 64) → IsKept seen rest (keep_all (record { links = seen; over = false }) rest)
        → (length (seen ++ x ∷ []) ≤ 64 → IsKept (seen ++ x ∷ []) rest (keep_all (record { links = seen ++ x ∷ []; over = false }) rest))
        → (let kept : Kept = keep_all (cond b (record { links = seen; over = false }) (cond full (record { links = seen; over = true }) (record { links = seen ++ x ∷ []; over = false }))) rest in
        let all : List LinkId = cond b (distinct_links seen rest) (x ∷ distinct_links (seen ++ x ∷ []) rest) in
        (kept.over ≡ nat_lt 64 (length (seen ++ all))) × (kept.over ≡ false → kept.links ≡ seen ++ all))
    kept_with true full e there more = (there.over, there.links)
    kept_with false true e there more =
        let o = keep_all-over (record { links = seen; over = true }) rest refl in
        (o ∙ rw length-append (grind (arith, nat_tests)), λ none. absurd (cc))
    kept_with false false e there more =
        let m = more (rw length-append (grind (arith, nat_tests))) in
        let a = append_assoc seen (x ∷ []) (distinct_links (seen ++ x ∷ []) rest) in
        (m.over ∙ ap (λ xs. nat_lt 64 (length xs)) a, λ none. m.links none ∙ a)
