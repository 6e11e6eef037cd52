-- One link less lies ahead, or none did.
use Rattle.std.proofs.Common.{◌≡◌, ◌-◌, ◌+◌, ◌*◌, ◌/◌, ◌<◌, ◌++◌, ◌∷◌, suc, ℕ, List, length, drop, get_or, set, refl, sym, subst, ap, ◌∙◌, arith, drop-cons}
use Rattle.sg_base.specs.declared.ids.LinkId.{LinkId}
use Rattle.sg_heap.specs.Agenda.{Key}
use Rattle.sg_paths.specs.Ahead.{IsKeyOf, key_of}
use Rattle.sg_paths.specs.Trail.{links_at}
use Rattle.sg_paths.proofs.KeyLemmas.{key_with}
use Rattle.sg_paths.proofs.ahead.go_back.Goals as goal

pub returns-then-left-eq0 : goal.returns-then-left-eq0
returns-then-left-eq0 c =
    let none : c.args.left ≡ 0 = c.if-left-eq0.true in
    let same : c.args.left ≡ c.args.left - 1 = omega arith in
    let zero_left : 0 ≡ c.args.left - 1 = omega arith in
    record {
      key = key_of c.args.mark;
      keys = c.set.ensures;
      lefts = ap (set c.args.ahead.now.left.items c.args.i) zero_left;
      is = λ order ranks rest marked.
          let P : ℕ → Type 0 = λ n. IsKeyOf order ranks (key_of c.args.mark) (drop n (links_at c.args.routes.now c.args.i) ++ rest) in
          subst P same marked.key;
    }

pub returns-else-left-eq0 : goal.returns-else-left-eq0
returns-else-left-eq0 c =
    let links : List LinkId = links_at c.args.routes.now c.args.i in
    let none : LinkId = record { 0 = 0 } in
    let link : LinkId = get_or links (c.args.left - 1) none in
    let here : get_or c.links_at.result.now (c.args.left - 1) none ≡ link = ap (λ (l : List LinkId). get_or l (c.args.left - 1) none) c.links_at.ensures in
    let number : (get_or c.links_at.result.now (c.args.left - 1) none).0 ≡ link.0 = ap (λ (l : LinkId). l.0) here in
    let date : c.date_with-date.result ≡ (c.args.mark.date / 4294967296 + 1) * 4294967296 + link.0 = c.date_with-date.ensures.date ∙ ap (λ n. (c.args.mark.date / 4294967296 + 1) * 4294967296 + n) number in
    let fits : link.0 < 4294967296 = let f = c.date_with-date.ensures.fits in omega (arith, f, number) in
    let inside : c.args.left - 1 < length links = let l = c.requires.left in let some = c.if-left-eq0.false in omega (arith, l, some) in
    let one : suc (c.args.left - 1) ≡ c.args.left = let some = c.if-left-eq0.false in omega (arith, some) in
    let front : drop (c.args.left - 1) links ≡ link ∷ drop c.args.left links = drop-cons links (c.args.left - 1) none inside ∙ ap (λ n. link ∷ drop n links) one in
    record {
      key = record { date = c.date_with-date.result; serial = c.args.mark.rank };
      keys = c.set-else-left-eq0.ensures;
      lefts = refl;
      is = λ order ranks rest marked.
          let made = key_with order ranks c.args.mark (drop c.args.left links ++ rest) link marked fits in
          let P : ℕ → Type 0 = λ d. let k : Key = record { date = d; serial = c.args.mark.rank } in IsKeyOf order ranks k (link ∷ (drop c.args.left links ++ rest)) in
          let k : Key = record { date = c.date_with-date.result; serial = c.args.mark.rank } in
          let Q : List LinkId → Type 0 = λ l. IsKeyOf order ranks k (l ++ rest) in
          subst Q (sym front) (subst P (sym date) made);
    }
