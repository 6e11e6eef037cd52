-- Rows of flows, as one comes or goes.
use Rattle.std.proofs.Common.{◌≡◌, ◌≢◌, ℕ, zero, suc, ◌+◌, ◌<◌, ◌≤◌, ◌^◌, ◌==◌, true, false, cond, length, length-set, IfSome, ◌⊎◌, inl, inr, Option, None, Some, List, [], ◌∷◌, All, map, get_or, get_or-set_same, get_or-set_other, set, option_map, replicate, refl, sym, ap, subst, ◌∙◌, arith}
use Rattle.sg_maxmin.specs.declared.uses.Use.{Use}
use Rattle.sg_maxmin.specs.Walk.{Leads, next_of_flow, resource_of, user_of}
use Rattle.sg_maxmin.proofs.ChainLemmas.{chain_few, chain_leads, chain_own, length-resources}
use Rattle.sg_maxmin.specs.declared.flow_row.FlowRow.{FlowRow}
use Rattle.std.proofs.lemmas.List.{length-map, map-set}
use Rattle.std.proofs.Math.Seq.{map-set_same}
use Rattle.sg_maxmin.specs.Fill.{Flow, flow}
use Rattle.sg_maxmin.proofs.FreeNumbers.{in_rows}
use Rattle.sg_maxmin.specs.Sharing.{flow_at, IsFlow, Changes, IsExtended, uses_in, uses_at, AreBothWays}
use Rattle.sg_maxmin.specs.Chain.{IsChain, IsSameChain, KeepsChains}
use Rattle.sg_maxmin.specs.Chained.{Chained, times, users_on, GainsUses}
use Rattle.sg_maxmin.specs.kept.Uses.{flow_of, flows_of, share_in, AreRows, IsKept}
use Rattle.std.proofs.Math.ListN.{get_or-map}

get_or-map_none : {X Y : Type 0} (f : X → Y) (xs : List (Option X)) (k : ℕ) → get_or (map (option_map f) xs) k None ≡ option_map f (get_or xs k None)
get_or-map_none f [] k = refl
get_or-map_none f (x ∷ xs) zero = refl
get_or-map_none f (x ∷ xs) (suc k) = get_or-map_none f xs k

pub flow_at-flows_of : (rows : List (Option FlowRow)) (uses : List (Option Use)) (id : ℕ) → flow_at (flows_of rows uses) id ≡ option_map (flow_of uses) (get_or rows id None)
flow_at-flows_of rows uses id = get_or-map_none (flow_of uses) rows id

-- a row's flow, if its own chain stays
flow_of_kept : (id : ℕ) (old new : List (Option Use)) (row : FlowRow) → IsSameChain old new id row.count row.first → flow_of new row ≡ flow_of old row
unfolding flow_of
flow_of_kept id old new row h = ap (λ us. flow us row.weight row.bound) h.over

pub some_row : (a b : FlowRow) → Some a ≡ Some b → a ≡ b
some_row a b e = cc e

eq_cases : (a b : ℕ) → (a ≡ b) ⊎ (a ≢ b)
eq_cases a b = grind arith

-- if the chain of each row except one stays, and the other rows are as they were
pub others_kept : (caps : List ℕ) (rows : List (Option FlowRow)) (uses uses' : List (Option Use)) (id : ℕ) → AreRows caps rows uses → KeepsChains uses uses' id →
    (other : ℕ) → other ≢ id → (row : FlowRow) → get_or rows other None ≡ Some row → IsChain other row.count uses' row.first × (flow_of uses' row ≡ flow_of uses row)
others_kept caps rows uses uses' id are kept other away row e =
    let same = kept other row.count row.first away (are.chains other row e) in
    (same.chain, flow_of_kept other uses uses' row same)

-- what is to hold of a row that is new
pub record IsNewRow (caps : List ℕ) (uses : List (Option Use)) (id : ℕ) (row : FlowRow) : Type 0 where
  pub chain : IsChain id row.count uses row.first
  pub is_flow : IsFlow caps (flow_of uses row)
  pub bound_fits : IfSome row.bound (λ bound. bound < 2 ^ 64)

pub rows_changed : (caps : List ℕ) (rows rows' : List (Option FlowRow)) (uses uses' : List (Option Use)) (id : ℕ) (slot : Option FlowRow) → AreRows caps rows uses → KeepsChains uses uses' id →
    get_or rows' id None ≡ slot → ((other : ℕ) → other ≢ id → get_or rows' other None ≡ get_or rows other None) →
    ((row : FlowRow) → slot ≡ Some row → IsNewRow caps uses' id row) →
    AreRows caps rows' uses' × Changes (flows_of rows uses) (flows_of rows' uses') id (option_map (flow_of uses') slot)
rows_changed caps rows rows' uses uses' id slot are kept changed others new =
    let other = others_kept caps rows uses uses' id are kept in (
      record {
        chains = λ k row e. elim (eq_cases k id) [
          | inl z ↦ subst (λ w. IsChain w row.count uses' row.first) (sym z) (new row (sym changed ∙ ap (λ w. get_or rows' w None) (sym z) ∙ e)).chain
          | inr away ↦ (other k away row (sym (others k away) ∙ e)).0
        ];
        flows = λ k row e. elim (eq_cases k id) [
          | inl z ↦ (new row (sym changed ∙ ap (λ w. get_or rows' w None) (sym z) ∙ e)).is_flow
          | inr away ↦ subst (λ w. IsFlow caps w) (sym (other k away row (sym (others k away) ∙ e)).1) (are.flows k row (sym (others k away) ∙ e))
        ];
        bounds_fit = λ k row e. elim (eq_cases k id) [
          | inl z ↦ (new row (sym changed ∙ ap (λ w. get_or rows' w None) (sym z) ∙ e)).bound_fits
          | inr away ↦ are.bounds_fit k row (sym (others k away) ∙ e)
        ];
      },
      record {
        changed = flow_at-flows_of rows' uses' id ∙ ap (option_map (flow_of uses')) changed;
        others = λ k away.
            flow_at-flows_of rows' uses' k ∙ ap (option_map (flow_of uses')) (others k away)
            ∙ same_map (get_or rows k None) (λ row e. (other k away row e).1)
            ∙ sym (flow_at-flows_of rows uses k);
      },
    )
  where
    same_map : (o : Option FlowRow) → ((row : FlowRow) → o ≡ Some row → flow_of uses' row ≡ flow_of uses row) → option_map (flow_of uses') o ≡ option_map (flow_of uses) o
    same_map None h = refl
    same_map (Some row) h = ap (λ w. Some w) (h row refl)

-- if a row stays, so does its share
pub share_kept : (old new : List (Option FlowRow)) (id : ℕ) → get_or new id None ≡ get_or old id None → get_or (map share_in new) id 0 ≡ get_or (map share_in old) id 0
share_kept old new id e = get_or-map share_in new id None ∙ ap share_in e ∙ sym (get_or-map share_in old id None)

-- more numbers, and nothing under them
pub extended : (rows rows' : List (Option FlowRow)) (uses : List (Option Use)) (more : ℕ) → ((id : ℕ) → get_or rows' id None ≡ get_or rows id None) → length rows ≤ length rows' → length rows' ≤ length rows + more →
    IsExtended (flows_of rows uses) (flows_of rows' uses) more
extended rows rows' uses more kept longer few = record {
  same = λ id. flow_at-flows_of rows' uses id ∙ ap (option_map (flow_of uses)) (kept id) ∙ sym (flow_at-flows_of rows uses id);
  longer = omega (arith, longer, length-map rows (option_map (flow_of uses)), length-map rows' (option_map (flow_of uses)));
  few = omega (arith, few, length-map rows (option_map (flow_of uses)), length-map rows' (option_map (flow_of uses)));
}

-- a row that no `solve` has seen has no share
pub share_none : (rows : List (Option FlowRow)) (id : ℕ) (row : FlowRow) → get_or rows id None ≡ Some row → row.share ≡ 0 → get_or (map share_in rows) id 0 ≡ 0
share_none rows id row there none = get_or-map share_in rows id None ∙ ap share_in there ∙ none

-- ---- the chains agree, as a flow comes or goes
same_test : (a : ℕ) → (a == a) ≡ true
same_test a = grind arith

other_test : (a b : ℕ) → a ≢ b → (a == b) ≡ false
other_test a b ne = grind arith

plus_none : (n : ℕ) → n + 0 ≡ n
plus_none n = omega arith

pub both_with : (old new : List (Option Flow)) (users users' : List (List ℕ)) (id : ℕ) (added : Flow) → AreBothWays old users → flow_at old id ≡ None → Changes old new id (Some added) → GainsUses users users' id added.uses → AreBothWays new users'
both_with old new users users' id added both free ch gains = λ other r. elim (eq_cases other id) [
  | inl e ↦ subst (λ k. times k (users_on users' r) ≡ times r (uses_at new k)) (sym e)
      (gains id r ∙ ap (λ b. times id (users_on users r) + cond b (times r added.uses) 0) (same_test id)
      ∙ ap (λ n. n + times r added.uses) (both id r ∙ ap (λ o. times r (uses_in o)) free) ∙ none_plus (times r added.uses) ∙ sym (ap (λ o. times r (uses_in o)) ch.changed))
  | inr ne ↦ gains other r ∙ ap (λ b. times other (users_on users r) + cond b (times r added.uses) 0) (other_test other id ne) ∙ plus_none (times other (users_on users r))
      ∙ both other r ∙ sym (ap (λ o. times r (uses_in o)) (ch.others other ne))
]
  where
    none_plus : (n : ℕ) → 0 + n ≡ n
    none_plus n = omega arith

pub both_without : (old new : List (Option Flow)) (users users' : List (List ℕ)) (id : ℕ) (gone : Flow) → AreBothWays old users → flow_at old id ≡ Some gone → Changes old new id None → GainsUses users' users id gone.uses → AreBothWays new users'
both_without old new users users' id gone both there ch gains = λ other r. elim (eq_cases other id) [
  | inl e ↦ subst (λ k. times k (users_on users' r) ≡ times r (uses_at new k)) (sym e)
      (none (times id (users_on users' r)) (times r gone.uses) (sym (both id r ∙ ap (λ o. times r (uses_in o)) there) ∙ gains id r ∙ ap (λ b. times id (users_on users' r) + cond b (times r gone.uses) 0) (same_test id))
      ∙ sym (ap (λ o. times r (uses_in o)) ch.changed))
  | inr ne ↦ sym (gains other r ∙ ap (λ b. times other (users_on users' r) + cond b (times r gone.uses) 0) (other_test other id ne) ∙ plus_none (times other (users_on users' r)))
      ∙ both other r ∙ sym (ap (λ o. times r (uses_in o)) (ch.others other ne))
]
  where
    none : (n t : ℕ) → t ≡ n + t → n ≡ 0
    none n t e = omega (arith, e)

pub both_same : (old new : List (Option Flow)) (users : List (List ℕ)) → ((id : ℕ) → flow_at new id ≡ flow_at old id) → AreBothWays old users → AreBothWays new users
both_same old new users same both = λ id r. both id r ∙ sym (ap (λ o. times r (uses_in o)) (same id))

-- ---- what is read of a flow
pub flow_held : (rows : List (Option FlowRow)) (uses : List (Option Use)) (id : ℕ) (row : FlowRow) → get_or rows id None ≡ Some row → flow_at (flows_of rows uses) id ≡ Some (flow_of uses row)
flow_held rows uses id row e = flow_at-flows_of rows uses id ∙ ap (option_map (flow_of uses)) e

pub flow_none : (rows : List (Option FlowRow)) (uses : List (Option Use)) (id : ℕ) → get_or rows id None ≡ None → flow_at (flows_of rows uses) id ≡ None
flow_none rows uses id e = flow_at-flows_of rows uses id ∙ ap (option_map (flow_of uses)) e

-- the first use of a flow leads to each of its resources
pub record IsLed (uses : List (Option Use)) (at : Option ℕ) (list : List ℕ) : Type 0 where
  pub leads : Leads next_of_flow resource_of uses at list
  pub few : length list ≤ length uses

pub first_leads : (caps : List ℕ) (rows : List (Option FlowRow)) (uses : List (Option Use)) (id : ℕ) (row : FlowRow) → AreRows caps rows uses → get_or rows id None ≡ Some row → IsLed uses row.first (uses_at (flows_of rows uses) id)
unfolding flow_of
first_leads caps rows uses id row are e =
    let chain = are.chains id row e in
    subst (λ o. IsLed uses row.first (uses_in o)) (sym (flow_held rows uses id row e)) (record {
      leads = chain_leads id row.count uses row.first chain;
      few = omega (arith, length-resources id row.count uses row.first chain, chain_few id row.count uses row.first chain);
    })

pub first_none : (rows : List (Option FlowRow)) (uses : List (Option Use)) (id : ℕ) → get_or rows id None ≡ None → IsLed uses None (uses_at (flows_of rows uses) id)
unfolding Leads
first_none rows uses id e = subst (λ o. IsLed uses None (uses_in o)) (sym (flow_none rows uses id e)) (record { leads = refl; few = omega arith })

-- and each use that it leads to is the flow's own
pub first_own : (caps : List ℕ) (rows : List (Option FlowRow)) (uses : List (Option Use)) (id : ℕ) (row : FlowRow) → AreRows caps rows uses → get_or rows id None ≡ Some row →
    Leads next_of_flow user_of uses row.first (replicate (length (uses_at (flows_of rows uses) id)) id)
unfolding flow_of
first_own caps rows uses id row are e =
    let chain = are.chains id row e in
    subst (λ o. Leads next_of_flow user_of uses row.first (replicate (length (uses_in o)) id)) (sym (flow_held rows uses id row e))
    (subst (λ n. Leads next_of_flow user_of uses row.first (replicate n id)) (sym (length-resources id row.count uses row.first chain)) (chain_own id row.count uses row.first chain))

pub none_own : (rows : List (Option FlowRow)) (uses : List (Option Use)) (id : ℕ) → get_or rows id None ≡ None → Leads next_of_flow user_of uses None (replicate (length (uses_at (flows_of rows uses) id)) id)
unfolding Leads
none_own rows uses id e = subst (λ o. Leads next_of_flow user_of uses None (replicate (length (uses_in o)) id)) (sym (flow_none rows uses id e)) refl

pub flows_are : (caps : List ℕ) (rows : List (Option FlowRow)) (uses : List (Option Use)) → AreRows caps rows uses → (id : ℕ) (held : Flow) → flow_at (flows_of rows uses) id ≡ Some held → IsFlow caps held
flows_are caps rows uses are id held e = at (get_or rows id None) refl
  where
    some_flow : {a b : Flow} → Some a ≡ Some b → a ≡ b
    some_flow h = cc

    at : (o : Option FlowRow) → get_or rows id None ≡ o → IsFlow caps held
    at None there = absurd (cc (sym (flow_none rows uses id there) ∙ e))
    at (Some row) there = subst (λ f. IsFlow caps f) (some_flow (sym (flow_held rows uses id row there) ∙ e)) (are.flows id row there)

-- ---- what is kept stays so with more numbers and more room
pub kept_extended : (caps : List ℕ) (rows rows' : List (Option FlowRow)) (chains : Chained) (left waiting : List ℕ) → IsKept caps rows chains left waiting → ((id : ℕ) → get_or rows' id None ≡ get_or rows id None) → IsKept caps rows' chains left waiting
kept_extended caps rows rows' chains left waiting k same = record {
  are_rows = record {
    chains = λ id row e. k.are_rows.chains id row (sym (same id) ∙ e);
    flows = λ id row e. k.are_rows.flows id row (sym (same id) ∙ e);
    bounds_fit = λ id row e. k.are_rows.bounds_fit id row (sym (same id) ∙ e);
  };
  both = both_same (flows_of rows chains.uses) (flows_of rows' chains.uses) chains.users
      (λ id. flow_at-flows_of rows' chains.uses id ∙ ap (option_map (flow_of chains.uses)) (same id) ∙ sym (flow_at-flows_of rows chains.uses id)) k.both;
  users_len = k.users_len;
  left_len = k.left_len;
  waiting_len = k.waiting_len;
}

pub kept_room : (caps : List ℕ) (rows : List (Option FlowRow)) (chains : Chained) (room : ℕ) (left waiting : List ℕ) → IsKept caps rows chains left waiting → IsKept caps rows (record chains { room = room }) left waiting
kept_room caps rows chains room left waiting k = record { are_rows = k.are_rows; both = k.both; users_len = k.users_len; left_len = k.left_len; waiting_len = k.waiting_len }

-- ---- what is kept stays so if a capacity, or the bound of a flow, is another
pub kept_capacity : (caps : List ℕ) (resource capacity : ℕ) (rows : List (Option FlowRow)) (chains : Chained) (left waiting : List ℕ) → IsKept caps rows chains left waiting → IsKept (set caps resource capacity) rows chains left waiting
kept_capacity caps resource capacity rows chains left waiting k =
    let len : length caps ≡ length (set caps resource capacity) = sym (length-set caps resource capacity) in
    record {
      are_rows = record {
        chains = k.are_rows.chains;
        flows = λ id row e. let f = k.are_rows.flows id row e in record { exist = subst (λ n. All (λ r. r < n) (flow_of chains.uses row).uses) len f.exist; once = f.once; light = f.light; limit = f.limit };
        bounds_fit = k.are_rows.bounds_fit;
      };
      both = k.both;
      users_len = k.users_len ∙ len;
      left_len = k.left_len ∙ len;
      waiting_len = k.waiting_len ∙ len;
    }

-- the row with this bound
abbrev pub with_bound : ℕ → FlowRow → FlowRow
with_bound bound row = record row { bound = Some bound }

rows_bound : (caps : List ℕ) (rows : List (Option FlowRow)) (uses : List (Option Use)) (id bound : ℕ) (row : FlowRow) → AreRows caps rows uses → get_or rows id None ≡ Some row → bound < 2 ^ 64 →
    AreRows caps (set rows id (Some (with_bound bound row))) uses × Changes (flows_of rows uses) (flows_of (set rows id (Some (with_bound bound row))) uses) id (Some (flow_of uses (with_bound bound row)))
unfolding flow_of
rows_bound caps rows uses id bound row are there fits =
    let row' = with_bound bound row in
    let f = are.flows id row there in
    let new : IsNewRow caps uses id row' = record {
      chain = are.chains id row there;
      is_flow = record { exist = f.exist; once = f.once; light = f.light; limit = record { weighs = f.limit.weighs; bounds = λ none. refl } };
      bound_fits = fits;
    } in
    rows_changed caps rows (set rows id (Some row')) uses uses id (Some row') are (λ other n at ne chain. record { chain = chain; over = refl })
    (get_or-set_same rows id (Some row') None (in_rows rows id row there)) (λ other ne. get_or-set_other rows id other (Some row') None ne) (λ r e. subst (λ w. IsNewRow caps uses id w) (some_row row' r e) new)

both_bound : (old new : List (Option Flow)) (users : List (List ℕ)) (id : ℕ) (before after : Flow) → AreBothWays old users → flow_at old id ≡ Some before → Changes old new id (Some after) → after.uses ≡ before.uses → AreBothWays new users
both_bound old new users id before after both there ch same = λ other r. elim (eq_cases other id) [
  | inl e ↦ both other r ∙ ap (λ us. times r us) (subst (λ k. uses_at old k ≡ uses_at new k) (sym e) (ap uses_in there ∙ sym same ∙ sym (ap uses_in ch.changed)))
  | inr ne ↦ both other r ∙ sym (ap (λ o. times r (uses_in o)) (ch.others other ne))
]

pub kept_bound : (caps : List ℕ) (rows : List (Option FlowRow)) (chains : Chained) (left waiting : List ℕ) (id bound : ℕ) (row : FlowRow) → IsKept caps rows chains left waiting → get_or rows id None ≡ Some row → bound < 2 ^ 64 →
    IsKept caps (set rows id (Some (with_bound bound row))) chains left waiting
unfolding flow_of
kept_bound caps rows chains left waiting id bound row k there fits =
    let out = rows_bound caps rows chains.uses id bound row k.are_rows there fits in
    record {
      are_rows = out.0;
      both = both_bound (flows_of rows chains.uses) (flows_of (set rows id (Some (with_bound bound row))) chains.uses) chains.users id (flow_of chains.uses row) (flow_of chains.uses (with_bound bound row)) k.both (flow_held rows chains.uses id row there) out.1 refl;
      users_len = k.users_len;
      left_len = k.left_len;
      waiting_len = k.waiting_len;
    }

-- the flow has the bound as well, and its share stays
pub flows_bound : (rows : List (Option FlowRow)) (uses : List (Option Use)) (id bound : ℕ) (row : FlowRow) → flows_of (set rows id (Some (with_bound bound row))) uses ≡ set (flows_of rows uses) id (Some (record (flow_of uses row) { bound = Some bound }))
unfolding flow_of
flows_bound rows uses id bound row = map-set (option_map (flow_of uses)) rows id (Some (with_bound bound row))

pub shares_bound : (rows : List (Option FlowRow)) (id bound : ℕ) (row : FlowRow) → get_or rows id None ≡ Some row → map share_in (set rows id (Some (with_bound bound row))) ≡ map share_in rows
shares_bound rows id bound row there = map-set_same share_in rows id (Some (with_bound bound row)) None (sym (ap share_in there))
