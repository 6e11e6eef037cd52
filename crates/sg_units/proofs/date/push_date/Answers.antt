use Rattle.std.proofs.Common.{rules, ◌≡◌, ◌∙◌, ◌≤◌, ◌<◌, ◌^◌, ◌+◌, ◌-◌, ◌++◌, ◌∷◌, [], ℕ, List, length, take, drop, arith, ap, append_assoc, length-append}
use Rattle.std.specs.Prelude.{decimal}
use Rattle.std.proofs.lemmas.Fmt.{length-decimal-le_wide}
use Rattle.std.proofs.lemmas.Str.{IsCharBoundary-from_ascii}
use Rattle.sg_units.specs.Date.{date_of, nine_digits}
use Rattle.sg_units.proofs.DateDigits.{below_second, date_length, date_parts, pointed, second_more}
use Rattle.sg_units.proofs.DateValue.{nine_length}
use Rattle.sg_units.proofs.date.push_date.Goals as goal

ten : (bs : List ℕ) (ns : ℕ) → bs ≡ decimal (1000000000 + ns) → ns < 10 ^ 9 → length bs ≡ 10
ten bs ns is h =
    let all : length bs ≡ length (49 ∷ nine_digits ns) = ap length (is ∙ second_more ns h) in
    let nine = nine_length ns h in
    omega arith

below_text : (old mid new res digits : List ℕ) (ns : ℕ) → mid ≡ old ++ 48 ∷ 46 ∷ [] → res ≡ drop 1 digits → new ≡ mid ++ res → digits ≡ decimal (1000000000 + ns) → ns < 10 ^ 9 → new ≡ old ++ date_of ns
below_text old mid new res digits ns m r n d h =
    let rest : res ≡ nine_digits ns = r ∙ ap (λ l. drop 1 l) (d ∙ second_more ns h) in
    n ∙ ap (λ l. l ++ res) m ∙ append_assoc old (48 ∷ 46 ∷ []) res ∙ ap (λ l. old ++ 48 ∷ 46 ∷ l) rest ∙ ap (λ l. old ++ l) (below_second ns h)

above_text : (old new digits : List ℕ) (ns : ℕ) → new ≡ old ++ (take (length digits - 9) digits ++ 46 ∷ drop (length digits - 9) digits) → digits ≡ decimal ns → 10 ^ 9 ≤ ns → ns < 10 ^ 33 → new ≡ old ++ date_of ns
above_text old new digits ns n d long h =
    n ∙ ap (λ l. old ++ (take (length l - 9) l ++ 46 ∷ drop (length l - 9) l)) d ∙ ap (λ l. old ++ l) (pointed ns long h).1

longer : (old new : List ℕ) (ns : ℕ) → new ≡ old ++ date_of ns → ns < 10 ^ 33 → length new ≤ length old + 34
longer old new ns is h =
    let all : length new ≡ length old + length (date_of ns) = ap length is ∙ length-append old (date_of ns) in
    let few = date_length ns h in
    omega arith

pub range_from-requires : goal.range_from-requires
range_from-requires g c =
    λ _. IsCharBoundary-from_ascii c.format-digits.result.now 1 c.format-digits.ensures.ascii (let all = ten c.format-digits.result.now c.args.ns c.format-digits.ensures.text c.if-ns-lt-NANOSECONDS.true in omega arith)

pub push_str-requires-then-ns-lt-NANOSECONDS : goal.push_str-requires-then-ns-lt-NANOSECONDS
push_str-requires-then-ns-lt-NANOSECONDS g c =
    let all = ten c.format-digits.result.now c.args.ns c.format-digits.ensures.text c.if-ns-lt-NANOSECONDS.true in
    let before = c.push_str.ensures.len in
    let rest = c.range_from.ensures.len in
    (search rules, omega (arith, c.requires.room))

pub returns-then-ns-lt-NANOSECONDS-clause-text : goal.returns-then-ns-lt-NANOSECONDS-clause-text
returns-then-ns-lt-NANOSECONDS-clause-text g c =
    below_text c.args.text.now.bytes c.push_str.new.self.bytes c.push_str-then-ns-lt-NANOSECONDS.new.self.bytes c.range_from.result.now c.format-digits.result.now c.args.ns
    c.push_str.ensures.bytes c.range_from.ensures.value c.push_str-then-ns-lt-NANOSECONDS.ensures.bytes c.format-digits.ensures.text c.if-ns-lt-NANOSECONDS.true

pub returns-then-ns-lt-NANOSECONDS-clause-len : goal.returns-then-ns-lt-NANOSECONDS-clause-len
returns-then-ns-lt-NANOSECONDS-clause-len g c = longer c.args.text.now.bytes _ c.args.ns (returns-then-ns-lt-NANOSECONDS-clause-text g c) c.requires.ns

pub returns-then-ns-lt-NANOSECONDS-clause-value : goal.returns-then-ns-lt-NANOSECONDS-clause-value
returns-then-ns-lt-NANOSECONDS-clause-value g c = date_parts c.args.ns c.args.text.now.bytes _ c.requires.ns (returns-then-ns-lt-NANOSECONDS-clause-text g c)

pub push_pointed-requires : goal.push_pointed-requires
push_pointed-requires g c =
    let p = pointed c.args.ns c.if-ns-lt-NANOSECONDS.false c.requires.ns in
    let long : 9 ≤ length c.format.result.now = rw c.format.ensures.text p.0 in
    let short : length c.format.result.now ≤ 33 = rw c.format.ensures.text (length-decimal-le_wide 33 c.args.ns (omega arith) c.requires.ns (omega (arith, c.requires.ns))) in
    (search rules, (c.format.ensures.ascii, (long, omega (arith, c.requires.room))))

pub returns-clause-text : goal.returns-clause-text
returns-clause-text g c =
    above_text c.args.text.now.bytes c.push_pointed.new.text.bytes c.format.result.now c.args.ns c.push_pointed.ensures c.format.ensures.text c.if-ns-lt-NANOSECONDS.false c.requires.ns

pub returns-clause-len : goal.returns-clause-len
returns-clause-len g c = longer c.args.text.now.bytes _ c.args.ns (returns-clause-text g c) c.requires.ns

pub returns-clause-value : goal.returns-clause-value
returns-clause-value g c = date_parts c.args.ns c.args.text.now.bytes _ c.requires.ns (returns-clause-text g c)
