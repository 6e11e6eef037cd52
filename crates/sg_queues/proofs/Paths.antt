-- What an exchange does to the rings.
use Rattle.std.proofs.Common.{◌≡◌, ◌≢◌, ◌≤◌, ◌∙◌, inl, inr, sym, ap, refl, ℕ, zero, suc, false, not, ◌&&◌, cond, eqb, List, [], ◌∷◌, ◌++◌, length, arith}
use Rattle.std.proofs.lemmas.Bool.{cases_eq, eq-eqb, ne_eqb, eqb-true, or_parts, false≢true}
use Rattle.std.proofs.lemmas.Map.Views.{any-filter_same}
use Rattle.sg_queues.specs.Rings.{is_in, without}
use Rattle.sg_queues.specs.kept.Links.{at, Path, walk, AreLinked, IsExchanged}

pub in_without : (node slot : ℕ) (queue : List ℕ) → is_in node (without slot queue) ≡ (not (eqb node slot) && is_in node queue)
in_without node slot queue = any-filter_same (eqb node) (λ other. not (eqb other slot)) (not (eqb node slot)) (λ other same. ap (λ k. not (eqb k slot)) (sym (eqb-true node other same))) queue

pub without_it : (slot : ℕ) (queue : List ℕ) → is_in slot (without slot queue) ≡ false
without_it slot queue = in_without slot slot queue ∙ ap (λ b. not b && is_in slot queue) (eq-eqb slot slot refl)

differs : (a b : ℕ) → eqb a b ≡ false → b ≢ a
differs a b isnt is = false≢true (sym isnt ∙ eq-eqb a b (sym is))

module _ {old prev : List ℕ} (linked : AreLinked old prev) where
  -- one node alone leads to this one
  only : (node to : ℕ) → at old node ≡ to → node ≡ at prev to
  only node to is = sym (linked.inverse.back node) ∙ ap (at prev) is

  -- except for two, each node leads to where it led
  pub stays : {new : List ℕ} (a b node : ℕ) → IsExchanged old new (at prev a) b → at old node ≢ a → node ≢ b → at new node ≡ at old node
  stays a b node ex other = ex.others node (λ is. other (ap (at old) is ∙ linked.inverse.forth a))

  -- a slot leaves the ring in which it is
  pub taken_out : {new : List ℕ} (slot : ℕ) → IsExchanged old new (at prev slot) slot → (from : ℕ) (nodes : List ℕ) (to : ℕ) → from ≢ slot → to ≢ slot → Path (at old) from nodes to → Path (at new) from (without slot nodes) to
  taken_out {new = new} slot ex from [] to from_not to_not path = stays slot slot from ex (λ is. to_not (sym path ∙ is)) from_not ∙ path
  taken_out {new = new} slot ex from (node ∷ []) to from_not to_not path = elim (cases_eq node slot) [
    | inl is ↦ rw (eq-eqb node slot is) (ap (at new) (only from slot (path.0 ∙ is)) ∙ ex.at_a ∙ ap (at old) (sym is) ∙ path.1)
    | inr isnt ↦ rw (ne_eqb node slot isnt) (stays slot slot from ex (λ is. isnt (sym path.0 ∙ is)) from_not ∙ path.0, taken_out slot ex node [] to isnt to_not path.1)
  ]
  taken_out {new = new} slot ex from (node ∷ other ∷ nodes) to from_not to_not path = elim (cases_eq node slot) [
    | inl is ↦
        let behind : at old slot ≡ other = ap (at old) (sym is) ∙ path.1.0 in
        let other_not : other ≢ slot = λ same. from_not (only from slot (path.0 ∙ is) ∙ sym (only slot slot (behind ∙ same))) in
        rw (eq-eqb node slot is, ne_eqb other slot other_not) (ap (at new) (only from slot (path.0 ∙ is)) ∙ ex.at_a ∙ behind, taken_out slot ex other nodes to other_not to_not path.1.1)
    | inr isnt ↦ rw (ne_eqb node slot isnt) (stays slot slot from ex (λ is. isnt (sym path.0 ∙ is)) from_not ∙ path.0, taken_out slot ex node (other ∷ nodes) to isnt to_not path.1)
  ]

  -- a slot that is alone comes in front of a head
  pub put_in : {new : List ℕ} (slot head : ℕ) → IsExchanged old new (at prev head) slot → at old slot ≡ slot → (from : ℕ) (nodes : List ℕ) (to : ℕ) → from ≢ slot → is_in slot nodes ≡ false → is_in head nodes ≡ false
      → Path (at old) from nodes to → Path (at new) from (nodes ++ cond (eqb to head) (slot ∷ []) []) to
  put_in {new = new} slot head ex alone from [] to from_not slot_not head_not path = elim (cases_eq to head) [
    | inl is ↦ rw (eq-eqb to head is) (ap (at new) (only from head (path ∙ is)) ∙ ex.at_a ∙ alone, ex.at_b ∙ linked.inverse.forth head ∙ sym is)
    | inr isnt ↦ rw (ne_eqb to head isnt) (stays head slot from ex (λ is. isnt (sym path ∙ is)) from_not ∙ path)
  ]
  put_in {new = new} slot head ex alone from (node ∷ nodes) to from_not slot_not head_not path =
      let slots = or_parts (eqb slot node) (is_in slot nodes) slot_not in
      let heads = or_parts (eqb head node) (is_in head nodes) head_not in (
        stays head slot from ex (λ is. differs head node heads.0 (sym path.0 ∙ is)) from_not ∙ path.0,
        put_in slot head ex alone node nodes to (differs slot node slots.0) slots.1 heads.1 path.1,
      )

-- a walk follows a path to its end
pub walked : (next : ℕ → ℕ) (from : ℕ) (nodes : List ℕ) (to most : ℕ) → Path next from nodes to → is_in to nodes ≡ false → length nodes ≤ most → walk next to most (next from) ≡ nodes
walked next from [] to zero path not_in few = refl
walked next from [] to (suc most) path not_in few = rw (eq-eqb (next from) to path) refl
walked next from (node ∷ nodes) to zero path not_in few = absurd (omega (arith, few))
walked next from (node ∷ nodes) to (suc most) path not_in few =
    let parts = or_parts (eqb to node) (is_in to nodes) not_in in
    rw (path.0, ne_eqb node to (differs to node parts.0)) (ap (λ (l : List ℕ). node ∷ l) (walked next node nodes to most path.1 parts.1 (omega (arith, few))))
