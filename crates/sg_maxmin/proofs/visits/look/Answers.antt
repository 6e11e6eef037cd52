use Rattle.std.proofs.Common.{◌≡◌, ◌-◌, Some, is_some, ◌∷◌, sym, ap, subst, ◌∙◌}
use Rattle.sg_maxmin.specs.declared.uses.Use.{Use}
use Rattle.sg_maxmin.specs.Chain.{IsChain, resources}
use Rattle.sg_maxmin.proofs.ChainLemmas.{front_of, no_front}
use Rattle.sg_maxmin.proofs.visits.look.Goals as goal

pub unreachable-requires : goal.unreachable-requires
unreachable-requires g c = no_front c.requires.chain.0 c.args.count c.args.chains.now.uses c.requires.some (subst (λ o. IsChain c.requires.chain.0 c.args.count c.args.chains.now.uses o) c.in_default.is c.requires.chain.1)

pub look-requires : goal.look-requires
look-requires g c =
    let front = front_of c.requires.chain.0 c.args.count c.args.chains.now.uses c.in-Some.i c.requires.some (subst (λ o. IsChain c.requires.chain.0 c.args.count c.args.chains.now.uses o) c.in-Some.is c.requires.chain.1) in
    ap is_some front.there

some_same : (a b : Use) → Some a ≡ Some b → a ≡ b
some_same a b e = cc e

pub returns : goal.returns
returns g c =
    let uses = c.args.chains.now.uses in
    let n = c.args.count in
    let front = front_of c.requires.chain.0 n uses c.in-Some.i c.requires.some (subst (λ o. IsChain c.requires.chain.0 n uses o) c.in-Some.is c.requires.chain.1) in
    let same = some_same front.one c.look.result (sym front.there ∙ c.look.ensures.there) in
    record {
      chain = (c.requires.chain.0, subst (λ u. IsChain c.requires.chain.0 (n - 1) uses u.next_of_flow) same front.rest);
      list = ap (λ o. resources n uses o) c.in-Some.is ∙ subst (λ u. resources n uses (Some c.in-Some.i) ≡ u.resource ∷ resources (n - 1) uses u.next_of_flow) same front.what;
      looks = c.look.ensures.looks;
    }
