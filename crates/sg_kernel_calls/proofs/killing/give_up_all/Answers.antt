use Rattle.std.proofs.Common.{◌≡◌, ◌<◌, [], ℕ, List, length, drop, get_or, arith, refl, ap, sym, ◌∙◌, rules}
use Rattle.std.proofs.lemmas.List.{drop_all}
use Rattle.sg_requests.specs.Requested.{Requested}
use Rattle.sg_kernel_calls.specs.Kills.{gives_up}
use Rattle.sg_kernel_calls.specs.Known.{after}
use Rattle.sg_kernel_calls.specs.Steps.{each}
use Rattle.sg_kernel_calls.specs.kept.Sound.{core_of, known_of}
use Rattle.sg_kernel_calls.proofs.Killed.{gives_up_more, gives_up_none, serial_at}
use Rattle.sg_kernel_calls.proofs.killing.give_up_all.Goals as goal

pub bounds-awaited-i : goal.bounds-awaited-i
bounds-awaited-i c =
    let serials = c.args.fields.now.requests.awaited in
    let same : c.awaited.result.now ≡ serials = c.awaited.ensures ∙ ap (λ (r : Requested). r.awaited) c.loop-i.invariant.requests in
    omega (arith, c.loop-i-test.true, ap length c.awaited-i-end.ensures, ap length same)

pub give_up-requires : goal.give_up-requires
give_up-requires c = record {
  from =
      let serials = c.args.fields.now.requests.awaited in
      let same : c.awaited.result.now ≡ serials = c.awaited.ensures ∙ ap (λ (r : Requested). r.awaited) c.loop-i.invariant.requests in
      let within : c.loop-i.i < length serials = omega (arith, c.loop-i-test.true, ap length c.awaited-i-end.ensures) in
      (serial_at (length c.args.fields.now.whose.whose) serials c.awaited.result.now c.loop-i.i same within c.requires.made).0;
  to =
      let serials = c.args.fields.now.requests.awaited in
      let same : c.awaited.result.now ≡ serials = c.awaited.ensures ∙ ap (λ (r : Requested). r.awaited) c.loop-i.invariant.requests in
      let within : c.loop-i.i < length serials = omega (arith, c.loop-i-test.true, ap length c.awaited-i-end.ensures) in
      let to = (serial_at (length c.args.fields.now.whose.whose) serials c.awaited.result.now c.loop-i.i same within c.requires.made).1 in
      omega (arith, to, c.loop-i.invariant.many);
  whole = search rules;
}

pub loop-i-preserved : goal.loop-i-preserved
loop-i-preserved c =
    let serials = c.args.fields.now.requests.awaited in
    let same : c.awaited.result.now ≡ serials = c.awaited.ensures ∙ ap (λ (r : Requested). r.awaited) c.loop-i.invariant.requests in
    let within : c.loop-i.i < length serials = omega (arith, c.loop-i-test.true, ap length c.awaited-i-end.ensures) in
    record {
      known = gives_up_more serials c.awaited.result.now c.loop-i.i (get_or c.awaited.result.now c.loop-i.i 0) (known_of c.loop-i.fields) (known_of c.give_up.new.fields) same within refl c.give_up.ensures.known ∙ c.loop-i.invariant.known;
      requests = c.give_up.ensures.requests ∙ c.loop-i.invariant.requests;
      many = c.give_up.ensures.many ∙ c.loop-i.invariant.many;
      whole = c.give_up.ensures.whole;
    }

pub returns : goal.returns
returns c = record {
  known =
      let serials = c.args.fields.now.requests.awaited in
      let past : drop c.loop-i.i serials ≡ [] = drop_all c.loop-i.i serials (omega (arith, c.loop-i-test.false, ap length c.awaited-i-end.ensures)) in
      sym (gives_up_none (known_of c.loop-i.fields)) ∙ ap (λ (l : List ℕ). after (each gives_up l (core_of c.loop-i.fields)) (known_of c.loop-i.fields)) (sym past) ∙ c.loop-i.invariant.known;
  whole = search rules;
}
