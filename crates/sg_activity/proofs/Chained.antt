-- Rows of uses in chains.
use Rattle.std.proofs.Common.{◌≡◌, ◌≢◌, ℕ, zero, suc, ◌+◌, ◌<◌, ◌≤◌, ◌^◌, inl, inr, cond, eq-eqb, ne_eqb, Option, None, List, [], ◌∷◌, length, length-set, map, set, get_or-set_same, get_or-set_other, refl, sym, ap, ap₂, subst, ◌∙◌, arith}
use Rattle.std.proofs.lemmas.List.{length-map}
use Rattle.sg_maxmin.specs.declared.uses.Use.{Use}
use Rattle.sg_maxmin.specs.Chain.{IsChain, IsSameChain, KeepsChains, resources}
use Rattle.sg_maxmin.specs.Chained.{Chained, GainsUses, times, users_on}
use Rattle.sg_activity.specs.declared.index.Uses.{Uses}
use Rattle.sg_activity.specs.kept.Rows.{IsIndex, IsRow, IsWider, row_at, things_of, uses_at}
use Rattle.sg_activity.proofs.Listing.{eq_cases}

abbrev pub no_uses : Uses
no_uses = record { first = None; count = 0 }

pub nothing_of : (uses : List (Option Use)) → things_of uses no_uses ≡ []
unfolding resources
nothing_of uses = refl

pub no_chain : (key : ℕ) (uses : List (Option Use)) → IsChain key 0 uses None
unfolding IsChain
no_chain key uses = refl

pub row_mapped : (uses : List (Option Use)) (rows : List Uses) (key : ℕ) → row_at (map (things_of uses) rows) key ≡ things_of uses (uses_at rows key)
row_mapped uses [] key = sym (nothing_of uses)
row_mapped uses (r ∷ rows) zero = refl
row_mapped uses (r ∷ rows) (suc key) = row_mapped uses rows key

-- nobody uses anything
pub none_indexed : (rows : List Uses) (chains : Chained) → rows ≡ [] → ((thing : ℕ) → users_on chains.users thing ≡ []) → IsIndex rows chains
none_indexed rows chains none nobody = subst (λ l. IsIndex l chains) (sym none) (record {
  chained = λ key. no_chain key chains.uses;
  both = λ key thing. ap (times key) (nobody thing) ∙ ap (times thing) (sym (nothing_of chains.uses));
  few = omega arith;
})

-- rows without uses at the end don't matter
pub rows_indexed : (rows more : List Uses) (chains : Chained) → ((key : ℕ) → uses_at more key ≡ uses_at rows key) → length more ≤ 2 ^ 32 → IsIndex rows chains → IsIndex more chains
rows_indexed rows more chains same few is = record {
  chained = λ key. subst (λ (r : Uses). IsChain key r.count chains.uses r.first) (sym (same key)) (is.chained key);
  both = λ key thing. is.both key thing ∙ ap (λ r. times thing (things_of chains.uses r)) (sym (same key));
  few = few;
}

-- there is room for more
pub rows_wider : (rows more : List Uses) (old new : Chained) → ((key : ℕ) → uses_at more key ≡ uses_at rows key) → length rows ≤ length more → new ≡ record old { room = new.room } → old.room ≤ new.room →
    IsWider (record { rows = map (things_of old.uses) rows; uses = old.uses; users = old.users; room = old.room }) (record { rows = map (things_of new.uses) more; uses = new.uses; users = new.users; room = new.room })
rows_wider rows more old new same longer rest room = record {
  rows = λ key. row_mapped new.uses more key ∙ ap₂ things_of (ap (λ (c : Chained). c.uses) rest) (same key) ∙ sym (row_mapped old.uses rows key);
  longer = omega (arith, longer, length-map rows (things_of old.uses), length-map more (things_of new.uses));
  users = ap (λ (c : Chained). c.users) rest;
  room = room;
}

module _ (fewer more : List (List ℕ)) (key : ℕ) (uses : List ℕ) (gains : GainsUses fewer more key uses) where
  pub gained_here : (thing : ℕ) → times key (users_on more thing) ≡ times key (users_on fewer thing) + times thing uses
  gained_here thing = gains key thing ∙ ap (λ b. times key (users_on fewer thing) + cond b (times thing uses) 0) (eq-eqb key key refl)

  pub gained_other : (k thing : ℕ) → k ≢ key → times k (users_on more thing) ≡ times k (users_on fewer thing)
  gained_other k thing ne = gains k thing ∙ ap (λ b. times k (users_on fewer thing) + cond b (times thing uses) 0) (ne_eqb k key ne) ∙ same (times k (users_on fewer thing))
    where
      same : (n : ℕ) → n + 0 ≡ n
      same n = omega arith

-- Under one key are other uses now.
module _ (rows : List Uses) (old new : Chained) (key : ℕ) (row : Uses) (is : IsIndex rows old) (within : key < length rows) (kept : KeepsChains old.uses new.uses key) where
  here : uses_at (set rows key row) key ≡ row
  here = get_or-set_same rows key row no_uses within

  other : (k : ℕ) → k ≢ key → uses_at (set rows key row) k ≡ uses_at rows k
  other k ne = get_or-set_other rows key k row no_uses ne

  same : (k : ℕ) → k ≢ key → IsSameChain old.uses new.uses k (uses_at rows k).count (uses_at rows k).first
  same k ne = kept k (uses_at rows k).count (uses_at rows k).first ne (is.chained k)

  pub put_indexed : IsChain key row.count new.uses row.first → ((thing : ℕ) → times key (users_on new.users thing) ≡ times thing (things_of new.uses row)) → ((k thing : ℕ) → k ≢ key → times k (users_on new.users thing) ≡ times k (users_on old.users thing)) → IsIndex (set rows key row) new
  put_indexed chain counts elsewhere = record {
    chained = λ k. elim (eq_cases k key) [
      | inl e ↦ subst (λ n. IsChain n (uses_at (set rows key row) n).count new.uses (uses_at (set rows key row) n).first) (sym e) (subst (λ (r : Uses). IsChain key r.count new.uses r.first) (sym here) chain)
      | inr ne ↦ subst (λ (r : Uses). IsChain k r.count new.uses r.first) (sym (other k ne)) (same k ne).chain
    ];
    both = λ k thing. elim (eq_cases k key) [
      | inl e ↦ subst (λ n. times n (users_on new.users thing) ≡ times thing (things_of new.uses (uses_at (set rows key row) n))) (sym e) (counts thing ∙ ap (λ r. times thing (things_of new.uses r)) (sym here))
      | inr ne ↦ elsewhere k thing ne ∙ is.both k thing ∙ ap (times thing) (sym (same k ne).over ∙ ap (things_of new.uses) (sym (other k ne)))
    ];
    few = omega (arith, is.few, length-set rows key row);
  }

  pub put_row : (things : List ℕ) → things_of new.uses row ≡ things → IsRow (map (things_of old.uses) rows) (map (things_of new.uses) (set rows key row)) key things
  put_row things are = record {
    here = row_mapped new.uses (set rows key row) key ∙ ap (things_of new.uses) here ∙ are;
    others = λ k ne. row_mapped new.uses (set rows key row) k ∙ ap (things_of new.uses) (other k ne) ∙ (same k ne).over ∙ sym (row_mapped old.uses rows k);
    long = length-map (set rows key row) (things_of new.uses) ∙ length-set rows key row ∙ sym (length-map rows (things_of old.uses));
  }

  -- a key that had no uses gets some
  pub enter_indexed : (things : List ℕ) → IsChain key row.count new.uses row.first → things_of new.uses row ≡ things → GainsUses old.users new.users key things → row_at (map (things_of old.uses) rows) key ≡ [] → IsIndex (set rows key row) new
  enter_indexed things chain are gains idle =
      let none : things_of old.uses (uses_at rows key) ≡ [] = sym (row_mapped old.uses rows key) ∙ idle in
      put_indexed chain
      (λ thing. let zero_uses : times key (users_on old.users thing) ≡ 0 = is.both key thing ∙ ap (times thing) none in
      gained_here old.users new.users key things gains thing ∙ ap (λ n. n + times thing things) zero_uses ∙ left (times thing things) ∙ ap (times thing) (sym are))
      (gained_other old.users new.users key things gains)
    where
      left : (n : ℕ) → 0 + n ≡ n
      left n = omega arith

  -- the uses of a key go
  pub leave_indexed : row ≡ no_uses → GainsUses new.users old.users key (things_of old.uses (uses_at rows key)) → IsIndex (set rows key row) new
  leave_indexed none gains =
      put_indexed (subst (λ (r : Uses). IsChain key r.count new.uses r.first) (sym none) (no_chain key new.uses))
      (λ thing. gone (times key (users_on new.users thing)) (times key (users_on old.users thing)) (times thing (things_of old.uses (uses_at rows key))) (gained_here new.users old.users key (things_of old.uses (uses_at rows key)) gains thing) (is.both key thing)
      ∙ ap (times thing) (sym (ap (things_of new.uses) none ∙ nothing_of new.uses)))
      (λ k thing ne. sym (gained_other new.users old.users key (things_of old.uses (uses_at rows key)) gains k thing ne))
    where
      gone : (a b n : ℕ) → b ≡ a + n → b ≡ n → a ≡ 0
      gone a b n e f = omega (arith, e, f)
