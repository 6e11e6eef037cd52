-- What happens to the places of values as a node is added, and as a value is written.
use Rattle.std.proofs.Common.{◌≡◌, ◌≢◌, ◌<◌, ◌≤◌, ◌+◌, ◌∙◌, inl, inr, sym, ap, refl, ℕ, true, eqb, List, [], ◌∷◌, ◌++◌, length, get_or, set, arith}
use Rattle.std.specs.Prelude.{map}
use Rattle.std.proofs.Math.Path.{fun_ext}
use Rattle.std.proofs.lemmas.Bool.{cases_eq, eq-eqb, or_parts, false≢true}
use Rattle.std.proofs.lemmas.List.{length-map, length-set, map_push, get_or-map, get_or-set_same, get_or-set_other, get_or_push, get_or_past, ext_get_or}
use Rattle.std.proofs.lemmas.List.Folds.{list_any-append}
use Rattle.sg_queues.specs.Rings.{Rings, is_in}
use Rattle.sg_queues.specs.kept.Entries.{AreHomes, by_node, home, nowhere, value_in}
use Rattle.sg_queues.proofs.Lists.{read_grown}

-- moves of slots change no place
pub homes_stay : {old new : Rings} {homes : List ℕ} {places : ℕ} → new.nodes ≡ old.nodes → new.heads ≡ old.heads → AreHomes old homes places → AreHomes new homes places
homes_stay {old = old} {new = new} nodes heads are = record {
  few = are.few;
  there = λ slot is. are.there slot (record { within = omega (arith, is.within, nodes); moves = ap (is_in slot) (sym heads) ∙ is.moves });
  once = are.once;
  others = are.others;
}

other_home : (homes : List ℕ) (place node : ℕ) → node ≢ length homes → home (homes ++ place ∷ []) node ≡ home homes node
other_home homes place node other = read_grown homes place nowhere node (λ is. absurd (other is))

pub no_homes : {rings : Rings} → rings.nodes ≡ 1 → rings.heads ≡ 0 ∷ [] → AreHomes rings (nowhere ∷ []) 0
no_homes {rings = rings} nodes heads = record {
  few = omega arith;
  there = λ slot is.
      let zero : slot ≡ 0 = omega (arith, is.within, nodes) in
      absurd (false≢true (sym is.moves ∙ ap (is_in slot) heads ∙ ap (λ n. is_in n (0 ∷ [])) zero));
  once = λ a b below same. absurd (omega (arith, below));
  others = λ node past. read_grown [] nowhere nowhere node (λ is. refl) ∙ get_or_past [] node nowhere (omega arith);
}

-- one more head
pub homes_headed : {old new : Rings} {homes : List ℕ} {places : ℕ} → new.nodes ≡ old.nodes + 1 → new.heads ≡ old.heads ++ old.nodes ∷ [] → length homes ≡ old.nodes → AreHomes old homes places → AreHomes new (homes ++ nowhere ∷ []) places
homes_headed {old = old} {new = new} {homes = homes} {places = places} nodes heads len are =
    let same : (node : ℕ) → home (homes ++ nowhere ∷ []) node ≡ home homes node = λ node. read_grown homes nowhere nowhere node (λ is. refl) in
    record {
      few = are.few;
      there = λ slot is.
          let parts = or_parts (is_in slot old.heads) (is_in slot (old.nodes ∷ [])) (sym (list_any-append (eqb slot) old.heads (old.nodes ∷ [])) ∙ ap (is_in slot) (sym heads) ∙ is.moves) in
          let other : slot ≢ old.nodes = λ e. false≢true (sym parts.1 ∙ last slot old.nodes e) in
          let below = are.there slot (record { within = omega (arith, is.within, nodes, other); moves = parts.0 }) in
          omega (arith, below, same slot);
      once = λ a b below eq. are.once a b (omega (arith, below, same a)) (sym (same b) ∙ eq ∙ same a);
      others = λ node past. same node ∙ are.others node (omega (arith, past, same node));
    }
  where
    last : (slot n : ℕ) → slot ≡ n → is_in slot (n ∷ []) ≡ true
    last slot n e = rw (eq-eqb slot n e) refl

-- one more slot, with a place of its own
pub homes_grown : {old new : Rings} {homes : List ℕ} {places : ℕ} → new.nodes ≡ old.nodes + 1 → new.heads ≡ old.heads → length homes ≡ old.nodes → places < nowhere → AreHomes old homes places → AreHomes new (homes ++ places ∷ []) (places + 1)
homes_grown {old = old} {new = new} {homes = homes} {places = places} nodes heads len room are =
    let mine : home (homes ++ places ∷ []) (length homes) ≡ places = get_or_push homes places nowhere (length homes) refl in
    let same = other_home homes places in
    let elsewhere : (node : ℕ) → home homes node ≡ places → ⊥ = λ node e. omega (arith, are.others node (omega (arith, e)), e, room) in
    record {
      few = omega (arith, room);
      there = λ slot is. elim (cases_eq slot (length homes)) [
        | inl e ↦ omega (arith, ap (home (homes ++ places ∷ [])) e, mine)
        | inr other ↦
            let below = are.there slot (record { within = omega (arith, is.within, nodes, len, other); moves = ap (is_in slot) (sym heads) ∙ is.moves }) in
            omega (arith, below, same slot other)
      ];
      once = λ a b below eq. elim (cases_eq a (length homes)) [
        | inl at_a ↦ elim (cases_eq b (length homes)) [
          | inl at_b ↦ at_b ∙ sym at_a
          | inr b_other ↦ absurd (elsewhere b (sym (same b b_other) ∙ eq ∙ ap (home (homes ++ places ∷ [])) at_a ∙ mine))
        ]
        | inr a_other ↦ elim (cases_eq b (length homes)) [
          | inl at_b ↦ absurd (elsewhere a (sym (same a a_other) ∙ sym eq ∙ ap (home (homes ++ places ∷ [])) at_b ∙ mine))
          | inr b_other ↦
              let was : home homes a ≢ places = elsewhere a in
              are.once a b (omega (arith, below, same a a_other, was)) (sym (same b b_other) ∙ eq ∙ same a a_other)
        ]
      ];
      others = λ node past. elim (cases_eq node (length homes)) [
        | inl e ↦ absurd (omega (arith, past, ap (home (homes ++ places ∷ [])) e, mine))
        | inr other ↦ same node other ∙ are.others node (omega (arith, past, same node other))
      ];
    }

module _ {T : Type 0} (blank : T) where
  -- one more head has no value
  pub nodes_headed : (values : List T) (homes : List ℕ) → length values ≤ nowhere → by_node blank values (homes ++ nowhere ∷ []) ≡ by_node blank values homes ++ blank ∷ []
  nodes_headed values homes few = map_push (value_in blank values) homes nowhere ∙ ap (λ v. by_node blank values homes ++ v ∷ []) (get_or_past values nowhere blank few)

  -- one more slot has none yet
  pub nodes_grown : (values : List T) (homes : List ℕ) → by_node blank (values ++ blank ∷ []) (homes ++ length values ∷ []) ≡ by_node blank values homes ++ blank ∷ []
  nodes_grown values homes =
      let same : value_in blank (values ++ blank ∷ []) ≡ value_in blank values = fun_ext (λ place. read_grown values blank blank place (λ is. refl)) in
      ap (λ (f : ℕ → T). map f (homes ++ length values ∷ [])) same
      ∙ map_push (value_in blank values) homes (length values)
      ∙ ap (λ v. by_node blank values homes ++ v ∷ []) (get_or_past values (length values) blank (omega arith))

  -- the value of a node is read
  pub node_read : (values : List T) (homes : List ℕ) (slot : ℕ) → slot < length homes → get_or (by_node blank values homes) slot blank ≡ value_in blank values (home homes slot)
  node_read values homes slot below = get_or-map (value_in blank values) homes slot nowhere blank below

  -- the value of a node is written
  pub node_set : {rings : Rings} (values : List T) (homes : List ℕ) (slot : ℕ) (value : T) → AreHomes rings homes (length values) → slot < length homes → home homes slot < length values
      → by_node blank (set values (home homes slot) value) homes ≡ set (by_node blank values homes) slot value
  node_set values homes slot value are below there =
      let old = by_node blank values homes in
      let new = by_node blank (set values (home homes slot) value) homes in
      let len : length old ≡ length homes = length-map homes (value_in blank values) in
      let len' : length new ≡ length homes = length-map homes (value_in blank (set values (home homes slot) value)) in
      ext_get_or blank new (set old slot value) (len' ∙ sym len ∙ sym (length-set old slot value))
      (λ i i_below. node_read (set values (home homes slot) value) homes i (omega (arith, i_below, len')) ∙ elim (cases_eq i slot) [
        | inl e ↦ ap (λ n. value_in blank (set values (home homes slot) value) (home homes n)) e ∙ get_or-set_same values (home homes slot) value blank there
            ∙ sym (get_or-set_same old slot value blank (omega (arith, below, len))) ∙ ap (λ n. get_or (set old slot value) n blank) (sym e)
        | inr other ↦
            let apart : home homes i ≢ home homes slot = λ e. other (are.once slot i there e) in
            get_or-set_other values (home homes slot) (home homes i) value blank apart
            ∙ sym (node_read values homes i (omega (arith, i_below, len')))
            ∙ sym (get_or-set_other old slot i value blank other)
      ])
