-- What happens to the rows of slots as one leaves or joins.
use Rattle.std.proofs.Common.{◌≡◌, ◌≢◌, ◌<◌, ◌≤◌, ◌+◌, ◌∙◌, ◌⊎◌, inl, inr, sym, ap, refl, ℕ, Bool, true, false, not, ◌&&◌, ◌||◌, cond, eqb, List, [], ◌∷◌, ◌++◌, length, arith}
use Rattle.std.specs.Prelude.{AllPairs}
use Rattle.std.proofs.lemmas.Bool.{cases_eq, cases_order, eq-eqb, ne_eqb, eqb-true, eqb-false, or_cases, or_parts, and_parts, false≢true, false_from_ne_true}
use Rattle.std.proofs.lemmas.Bool.Decides.{Decides-eqb}
use Rattle.std.proofs.lemmas.List.{append-nil, length-map, length-set, length_push, get_or-set_same, get_or-set_other}
use Rattle.std.proofs.lemmas.List.Kept.{AllPairs-filter}
use Rattle.std.proofs.lemmas.List.Quantifiers.{all_pairs_push}
use Rattle.std.proofs.lemmas.List.Folds.{list_any-append, list_any_at}
use Rattle.std.proofs.lemmas.Map.Made.{IsDistinct-from_AllPairs}
use Rattle.std.proofs.lemmas.Map.Steps.{length-le_from_distinct_below}
use Rattle.sg_queues.specs.Rings.{is_in, queue_at, joined, left, without, IsAlone, IsSlot, AreApart}
use Rattle.sg_queues.specs.kept.Links.{head_at}
use Rattle.sg_queues.proofs.Lists.{read_grown, map_at, none_of}
use Rattle.sg_queues.proofs.Paths.{in_without}

-- who is in a list that grew
in_push : (node n : ℕ) (nodes : List ℕ) → is_in node (nodes ++ n ∷ []) ≡ true → (node ≡ n) ⊎ (is_in node nodes ≡ true)
in_push node n nodes is = elim (or_cases (is_in node nodes) (is_in node (n ∷ [])) (sym (list_any-append (eqb node) nodes (n ∷ [])) ∙ is)) [
  | inl there ↦ inr there
  | inr new ↦ elim (or_cases (eqb node n) false new) [ inl same ↦ inl (eqb-true node n same) | inr never ↦ absurd (false≢true never) ]
]

-- who is in a row that a slot has left at any place
in_left : (node slot row : ℕ) (rows : List (List ℕ)) → is_in node (queue_at (left slot rows) row) ≡ (not (eqb node slot) && is_in node (queue_at rows row))
in_left node slot row rows = ap (is_in node) (map_at (without slot) [] rows row) ∙ in_without node slot (queue_at rows row)

pub left_alone : (slot : ℕ) (rows : List (List ℕ)) → IsAlone slot (left slot rows)
left_alone slot rows row = in_left slot slot row rows ∙ ap (λ b. not b && is_in slot (queue_at rows row)) (eq-eqb slot slot refl)

pub alone_left : (node slot : ℕ) (rows : List (List ℕ)) → node ≢ slot → IsAlone node (left slot rows) → IsAlone node rows
alone_left node slot rows other alone row = ap (λ b. not b && is_in node (queue_at rows row)) (sym (ne_eqb node slot other)) ∙ sym (in_left node slot row rows) ∙ alone row

pub joined_at : (slot row : ℕ) (rows : List (List ℕ)) (r : ℕ) → row < length rows → queue_at (joined slot row rows) r ≡ queue_at rows r ++ cond (eqb r row) (slot ∷ []) []
joined_at slot row rows r below =
    let longer : List ℕ = queue_at rows row ++ slot ∷ [] in
    elim (cases_eq r row) [
      | inl same ↦ rw (same, eq-eqb row row refl) (get_or-set_same rows row longer [] below)
      | inr other ↦ rw (ne_eqb r row other, append-nil (queue_at rows r)) (get_or-set_other rows row r longer [] other)
    ]

in_joined : (node slot row : ℕ) (rows : List (List ℕ)) (r : ℕ) → row < length rows → is_in node (queue_at (joined slot row rows) r) ≡ (is_in node (queue_at rows r) || is_in node (cond (eqb r row) (slot ∷ []) []))
in_joined node slot row rows r below = ap (is_in node) (joined_at slot row rows r below) ∙ list_any-append (eqb node) (queue_at rows r) (cond (eqb r row) (slot ∷ []) [])

in_one : (node slot : ℕ) (here : Bool) → is_in node (cond here (slot ∷ []) []) ≡ true → (node ≡ slot) × (here ≡ true)
in_one node slot false is = absurd (false≢true is)
in_one node slot true is = elim (or_cases (eqb node slot) false is) [ inl same ↦ (eqb-true node slot same, refl) | inr never ↦ absurd (false≢true never) ]

pub alone_joined : (node slot row : ℕ) (rows : List (List ℕ)) → row < length rows → IsAlone node (joined slot row rows) → (node ≢ slot) × IsAlone node rows
alone_joined node slot row rows below alone =
    let parts : (r : ℕ) → (is_in node (queue_at rows r) ≡ false) × (is_in node (cond (eqb r row) (slot ∷ []) []) ≡ false) =
    λ r. or_parts (is_in node (queue_at rows r)) (is_in node (cond (eqb r row) (slot ∷ []) [])) (sym (in_joined node slot row rows r below) ∙ alone r) in
    (eqb-false node slot (or_parts (eqb node slot) false (ap (λ b. is_in node (cond b (slot ∷ []) [])) (sym (eq-eqb row row refl)) ∙ (parts row).1)).0, λ r. (parts r).0)

once_joined : (slot : ℕ) (here : Bool) (row : List ℕ) → is_in slot row ≡ false → AllPairs (λ a b. a ≢ b) row → AllPairs (λ a b. a ≢ b) (row ++ cond here (slot ∷ []) [])
once_joined slot false row absent once = rw (append-nil row) once
once_joined slot true row absent once = all_pairs_push (λ a b. a ≢ b) row slot once (none_of slot row absent)

pub is_head : (heads : List ℕ) (row : ℕ) → row < length heads → is_in (head_at heads row) heads ≡ true
is_head heads row below = list_any_at (eqb (head_at heads row)) heads row 0 below (eq-eqb (head_at heads row) (head_at heads row) refl)

-- a head is that of one row
pub one_row : (heads : List ℕ) (p q : ℕ) → AllPairs (λ a b. a ≢ b) heads → p < length heads → q < length heads → eqb (head_at heads p) (head_at heads q) ≡ eqb p q
one_row heads p q distinct p_below q_below = elim (cases_order p q) [
  | inl is ↦ eq-eqb (head_at heads p) (head_at heads q) (ap (head_at heads) is) ∙ sym (eq-eqb p q is)
  | inr apart ↦ elim apart [
    | inl less ↦ ne_eqb (head_at heads p) (head_at heads q) (λ same. distinct p q 0 less q_below same) ∙ sym (ne_eqb p q (λ is. omega (arith, is, less)))
    | inr more ↦ ne_eqb (head_at heads p) (head_at heads q) (λ same. distinct q p 0 more p_below (sym same)) ∙ sym (ne_eqb p q (λ is. omega (arith, is, more)))
  ]
]

module _ {nodes : ℕ} {heads : List ℕ} {rows : List (List ℕ)} (kept : AreApart nodes heads rows) where
  pub short : (row : ℕ) → length (queue_at rows row) ≤ nodes
  short row = length-le_from_distinct_below (queue_at rows row) nodes (IsDistinct-from_AllPairs Decides-eqb (queue_at rows row) (kept.once row)) (λ slot there. (kept.slots row slot there).within)

  -- a slot is in one row, and no head is in any
  pub absent_from : (p q slot : ℕ) → is_in slot (queue_at rows p) ≡ true → p ≢ q → is_in slot (queue_at rows q) ≡ false
  absent_from p q slot there other = false_from_ne_true (is_in slot (queue_at rows q)) (λ too. other (kept.apart p q slot there too))

  pub head_apart : (row head : ℕ) → is_in head heads ≡ true → is_in head (queue_at rows row) ≡ false
  head_apart row head is = false_from_ne_true (is_in head (queue_at rows row)) (λ there. false≢true (sym ((kept.slots row head there).moves) ∙ is))

  pub new_apart : (row : ℕ) → is_in nodes (queue_at rows row) ≡ false
  new_apart row = false_from_ne_true (is_in nodes (queue_at rows row)) (λ there. omega (arith, (kept.slots row nodes there).within))

  -- one more node is a slot
  pub new_slot : IsSlot (nodes + 1) heads nodes
  new_slot = record { within = omega arith; moves = false_from_ne_true (is_in nodes heads) (λ is. omega (arith, kept.below nodes is)) }

  pub apart_grown : AreApart (nodes + 1) heads rows
  apart_grown = record {
    count = kept.count;
    below = λ head is. omega (arith, kept.below head is);
    distinct = kept.distinct;
    slots = λ row slot there. record { within = omega (arith, (kept.slots row slot there).within); moves = (kept.slots row slot there).moves };
    once = kept.once;
    apart = kept.apart;
  }

  -- one more node is the head of one more row
  pub apart_headed : AreApart (nodes + 1) (heads ++ nodes ∷ []) (rows ++ [] ∷ [])
  apart_headed =
      let at : (row : ℕ) → queue_at (rows ++ [] ∷ []) row ≡ queue_at rows row = λ row. read_grown rows [] [] row (λ is. refl) in
      record {
        count = omega (arith, kept.count, length_push rows [], length_push heads nodes);
        below = λ head is. elim (in_push head nodes heads is) [ inl new ↦ omega (arith, new) | inr old ↦ omega (arith, kept.below head old) ];
        distinct = all_pairs_push (λ a b. a ≢ b) heads nodes kept.distinct (none_of nodes heads new_slot.moves);
        slots = λ row slot there.
            let was : IsSlot nodes heads slot = kept.slots row slot (ap (is_in slot) (sym (at row)) ∙ there) in
            record {
              within = omega (arith, was.within);
              moves = false_from_ne_true (is_in slot (heads ++ nodes ∷ [])) (λ is. elim (in_push slot nodes heads is) [ inl new ↦ omega (arith, new, was.within) | inr old ↦ false≢true (sym was.moves ∙ old) ]);
            };
        once = λ row. rw (at row) (kept.once row);
        apart = λ p q slot p_in q_in. kept.apart p q slot (ap (is_in slot) (sym (at p)) ∙ p_in) (ap (is_in slot) (sym (at q)) ∙ q_in);
      }

  pub apart_left : (slot : ℕ) → AreApart nodes heads (left slot rows)
  apart_left slot =
      let still : (r s : ℕ) → is_in s (queue_at (left slot rows) r) ≡ true → is_in s (queue_at rows r) ≡ true = λ r s there. (and_parts (not (eqb s slot)) (is_in s (queue_at rows r)) (sym (in_left s slot r rows) ∙ there)).1 in
      record {
        count = length-map rows (without slot) ∙ kept.count;
        below = kept.below;
        distinct = kept.distinct;
        slots = λ r s there. kept.slots r s (still r s there);
        once = λ r. rw (map_at (without slot) [] rows r) (AllPairs-filter (λ a b. a ≢ b) (λ other. not (eqb other slot)) (queue_at rows r) (kept.once r));
        apart = λ p q s p_in q_in. kept.apart p q s (still p s p_in) (still q s q_in);
      }

  pub apart_joined : (slot row : ℕ) → IsSlot nodes heads slot → IsAlone slot rows → row < length rows → AreApart nodes heads (joined slot row rows)
  apart_joined slot row slot_is alone below =
      let in_it : (s r : ℕ) → is_in s (queue_at (joined slot row rows) r) ≡ true → (is_in s (queue_at rows r) ≡ true) ⊎ ((s ≡ slot) × (eqb r row ≡ true)) =
      λ s r there. elim (or_cases (is_in s (queue_at rows r)) (is_in s (cond (eqb r row) (slot ∷ []) [])) (sym (in_joined s slot row rows r below) ∙ there)) [ inl old ↦ inl old | inr new ↦ inr (in_one s slot (eqb r row) new) ] in
      let never : (s r : ℕ) → s ≡ slot → is_in s (queue_at rows r) ≡ true → ⊥ = λ s r same there. false≢true (sym (alone r) ∙ ap (λ n. is_in n (queue_at rows r)) (sym same) ∙ there) in
      record {
        count = length-set rows row (queue_at rows row ++ slot ∷ []) ∙ kept.count;
        below = kept.below;
        distinct = kept.distinct;
        slots = λ r s there. elim (in_it s r there) [ inl old ↦ kept.slots r s old | inr new ↦ rw new.0 slot_is ];
        once = λ r. rw (joined_at slot row rows r below) (once_joined slot (eqb r row) (queue_at rows r) (alone r) (kept.once r));
        apart = λ p q s p_in q_in. elim (in_it s p p_in) [
          | inl old ↦ elim (in_it s q q_in) [ inl too ↦ kept.apart p q s old too | inr new ↦ absurd (never s p new.0 old) ]
          | inr new ↦ elim (in_it s q q_in) [ inl old ↦ absurd (never s q new.0 old) | inr too ↦ eqb-true p row new.1 ∙ sym (eqb-true q row too.1) ]
        ];
      }
