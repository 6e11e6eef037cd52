-- Two nodes exchange what they lead to.
use Rattle.std.proofs.Common.{◌≡◌, ◌≢◌, ◌<◌, ◌∙◌, inl, inr, sym, ap, subst, ℕ, List, length, set, arith}
use Rattle.std.proofs.lemmas.Bool.{cases_eq, cases_lt}
use Rattle.std.proofs.lemmas.List.{length-set, get_or-set_same, get_or-set_other, get_or_past}
use Rattle.sg_queues.specs.kept.Links.{at, AreLinked, IsExchanged}

module _ {next prev : List ℕ} (linked : AreLinked next prev) where
  pub turned : AreLinked prev next
  turned = record { len = sym linked.len; few = omega (arith, linked.len, linked.few); inverse = record { forth = linked.inverse.back; back = linked.inverse.forth } }

  -- a link of a node is one
  pub within : (node : ℕ) → node < length next → at next node < length next
  within node below = elim (cases_lt (at next node) (length next)) [
    | inl is ↦ is
    | inr past ↦ absurd (omega (arith, past, below, linked.inverse.back node, get_or_past prev (at next node) (at next node) (omega (arith, past, linked.len))))
  ]

-- by cases: the one node, the other, or neither
three : (P : ℕ → Type 0) (a b node : ℕ) → P a → P b → (node ≢ a → node ≢ b → P node) → P node
three P a b node at_a at_b others = elim (cases_eq node a) [
  | inl is ↦ subst P (sym is) at_a
  | inr differs ↦ elim (cases_eq node b) [ inl is ↦ subst P (sym is) at_b | inr differs' ↦ others differs differs' ]
]

-- what the code writes into the links of one way
is_exchanged : (links : List ℕ) (a b at_a at_b : ℕ) → a < length links → b < length links → at_a ≡ at links a → at_b ≡ at links b → IsExchanged links (set (set links a at_b) b at_a) a b
is_exchanged links a b at_a at_b a_below b_below a_is b_is =
    let one : List ℕ = set links a at_b in
    let second : at (set one b at_a) b ≡ at links a = get_or-set_same one b at_a b (omega (arith, b_below, length-set links a at_b)) ∙ a_is in
    record {
      len = length-set one b at_a ∙ length-set links a at_b;
      at_a = elim (cases_eq a b) [
        | inl same ↦ ap (at (set one b at_a)) same ∙ second ∙ ap (at links) same
        | inr differs ↦ get_or-set_other one b a at_a a differs ∙ get_or-set_same links a at_b a a_below ∙ b_is
      ];
      at_b = second;
      others = λ node a_not b_not. get_or-set_other one b node at_a node b_not ∙ get_or-set_other links a node at_b node a_not;
    }

-- the links back exchange, too
still_linked : {next prev next' prev' : List ℕ} {a b after_a after_b : ℕ} → AreLinked next prev → after_a ≡ at next a → after_b ≡ at next b → IsExchanged next next' a b → IsExchanged prev prev' after_b after_a → AreLinked next' prev'
still_linked {next = next} {prev = prev} {next' = next'} {prev' = prev'} {a = a} {b = b} linked a_is b_is there changed =
    let back : IsExchanged prev prev' (at next b) (at next a) = rw (← a_is, ← b_is) changed in
    let forth : (node : ℕ) → at next (at prev node) ≡ node = linked.inverse.forth in
    let home : (node : ℕ) → at prev (at next node) ≡ node = linked.inverse.back in
    let from_a : at prev' (at next a) ≡ b = back.at_b ∙ home b in
    let from_b : at prev' (at next b) ≡ a = back.at_a ∙ home a in
    record {
      len = back.len ∙ linked.len ∙ sym there.len;
      few = omega (arith, there.len, linked.few);
      inverse = record {
        forth = λ node. three (λ n. at next' (at prev' n) ≡ n) (at next b) (at next a) node (ap (at next') from_b ∙ there.at_a) (ap (at next') from_a ∙ there.at_b)
            (λ b_not a_not. ap (at next') (back.others node b_not a_not)
            ∙ there.others (at prev node) (λ is. a_not (sym (forth node) ∙ ap (at next) is)) (λ is. b_not (sym (forth node) ∙ ap (at next) is)) ∙ forth node);
        back = λ node. three (λ n. at prev' (at next' n) ≡ n) a b node (ap (at prev') there.at_a ∙ from_b) (ap (at prev') there.at_b ∙ from_a)
            (λ a_not b_not. ap (at prev') (there.others node a_not b_not)
            ∙ back.others (at next node) (λ is. b_not (sym (home node) ∙ ap (at prev) is ∙ home b)) (λ is. a_not (sym (home node) ∙ ap (at prev) is ∙ home a)) ∙ home node);
      };
    }

-- a slot, and the node that leads to this one, exchange what they lead to
pub exchanged_before : {next prev : List ℕ} (node slot before after : ℕ) → AreLinked next prev → node < length next → slot < length next → before ≡ at prev node → after ≡ at next slot
    → IsExchanged next (set (set next before after) slot node) before slot × AreLinked (set (set next before after) slot node) (set (set prev after before) node slot)
exchanged_before {next = next} {prev = prev} node slot before after linked node_below slot_below before_is after_is =
    let leads : node ≡ at next before = sym (ap (at next) before_is ∙ linked.inverse.forth node) in
    let there = is_exchanged next before slot node after (omega (arith, before_is, within (turned linked) node (omega (arith, node_below, linked.len)), linked.len)) slot_below leads after_is in
    let back = is_exchanged prev after node slot before (omega (arith, after_is, within linked slot slot_below, linked.len)) (omega (arith, node_below, linked.len)) (sym (ap (at prev) after_is ∙ linked.inverse.back slot)) before_is in
    (there, still_linked linked leads after_is there back)
