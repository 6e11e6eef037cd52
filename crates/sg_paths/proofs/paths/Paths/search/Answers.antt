use Rattle.std.proofs.Common.{◌≡◌, ◌≤◌, ◌⊎◌, List, inl, inr, refl, subst, ap, sym, ◌∙◌, arith}
use Rattle.sg_base.specs.declared.ids.LinkId.{LinkId}
use Rattle.sg_paths.specs.declared.route.PathRoute.{PathRoute}
use Rattle.sg_paths.specs.Path.{Net, HasPath, IsLeastPath}
use Rattle.sg_paths.proofs.PathLemmas.{no_path_outside}
use Rattle.sg_paths.proofs.ReachLemmas.{can_find, whole_on}
use Rattle.sg_paths.proofs.paths.Paths.search.Goals as goal
use Rattle.sg_paths.proofs.paths.Paths.search.Goals.{then-from-self-via-then-from-self, then-from-self-via-else-from-self+then-to-self}

pub find_or_recall-requires-clause-ready : goal.find_or_recall-requires-clause-ready
find_or_recall-requires-clause-ready c =
    can_find c.self.inside.points c.as_slice.result.now c.self.inside.routes.items c.self.inside.arrivals c.self.inside.reach c.args.from c.args.to
    c.as_slice.ensures.value c.self.invariant.ready (omega arith) (omega arith) c.requires

pub returns-then-find_or_recall : goal.returns-then-find_or_recall
returns-then-find_or_recall c =
    let same : c.as_slice.result.now ≡ c.args.self.now.routes = cc (c.as_slice.ensures.value, ap (λ (n : Net). n.routes) c.self.view_is) in
    let path : IsLeastPath c.args.self.now.routes c.args.from c.args.to c.as_slice-then-find_or_recall.result.now =
    subst (λ (routes : List PathRoute). IsLeastPath routes c.args.from c.args.to c.as_slice-then-find_or_recall.result.now) same
    (subst (λ (links : List LinkId). IsLeastPath c.as_slice.result.now c.args.from c.args.to links) (sym c.as_slice-then-find_or_recall.ensures.value) c.if-find_or_recall.ensures.path.yes) in (
      (refl, λ _. tt, c.self.view_is),
      record {
        reached = path.reached;
        least = path.least;
        kept = tt;
        none = λ e. cc;
      },
    )

pub returns-else-find_or_recall : goal.returns-else-find_or_recall
returns-else-find_or_recall c =
    let same : c.as_slice.result.now ≡ c.args.self.now.routes = cc (c.as_slice.ensures.value, ap (λ (n : Net). n.routes) c.self.view_is) in (
      (refl, λ _. tt, c.self.view_is),
      record {
        reached = tt;
        least = tt;
        kept = tt;
        none = λ e links has. c.if-find_or_recall.ensures.path.no links (subst (λ (routes : List PathRoute). HasPath routes c.args.from c.args.to links) (sym same) has);
      },
    )

pub returns-then-from-self : goal.returns-then-from-self
returns-then-from-self c =
    let routes : c.self.inside.routes.items ≡ c.args.self.now.routes = ap (λ (n : Net). n.routes) c.self.view_is in
    let far : (c.self.inside.points ≤ c.args.from) ⊎ (c.self.inside.points ≤ c.args.to) =
    elim c.then-from-self.branch [ then-from-self-via-then-from-self w ↦ inl w.if-from-self.true | then-from-self-via-else-from-self+then-to-self w ↦ inr w.if-to-self.true ] in
    let stays : c.then-from-self.self.0 ≡ c.args.self.now =
    elim c.then-from-self.branch [ then-from-self-via-then-from-self w ↦ let e = w.self-is in ap (λ p. p.0) e ∙ c.self.view_is | then-from-self-via-else-from-self+then-to-self w ↦ let e = w.self-is in ap (λ p. p.0) e ∙ c.self.view_is ] in (
      (refl, λ _. tt, stays),
      record {
        reached = tt;
        least = tt;
        kept = tt;
        none = λ e links has. no_path_outside c.self.inside.points c.self.inside.routes.items c.self.invariant.ready.search.within c.args.from c.args.to c.requires far links
            (subst (λ (rs : List PathRoute). HasPath rs c.args.from c.args.to links) (sym routes) has);
      },
    )

pub invariant_of-self-then-find_or_recall : goal.invariant_of-self-then-find_or_recall
invariant_of-self-then-find_or_recall c =
    let inv = c.self.invariant in
    whole_on c.self.inside.points c.as_slice.result.now c.self.inside.routes.items c.self.inside.arrivals c.self.inside.reach c.find_or_recall.new.reach c.find_or_recall.new.found
    c.as_slice.ensures.value inv.ready c.find_or_recall.ensures.path.roomy c.find_or_recall.ensures.right c.find_or_recall.ensures.onward

pub invariant_of-self-else-find_or_recall : goal.invariant_of-self-else-find_or_recall
invariant_of-self-else-find_or_recall c =
    let inv = c.self.invariant in
    whole_on c.self.inside.points c.as_slice.result.now c.self.inside.routes.items c.self.inside.arrivals c.self.inside.reach c.find_or_recall.new.reach c.find_or_recall.new.found
    c.as_slice.ensures.value inv.ready c.find_or_recall.ensures.path.roomy c.find_or_recall.ensures.right c.find_or_recall.ensures.onward
