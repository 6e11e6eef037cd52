-- The search begins, makes a step, and ends.
use Rattle.std.proofs.Common.{◌≡◌, ◌≤◌, ◌<◌, ◌+◌, ◌++◌, [], ◌∷◌, ℕ, List, length, get_or, vec_len, refl, sym, subst, ap, ◌∙◌, arith}
use Rattle.std.proofs.lemmas.Option.{slice_get_within}
use Rattle.sg_heap.specs.Agenda.{Key, key}
use Rattle.sg_paths.specs.declared.trail.Settled.{Settled}
use Rattle.sg_paths.specs.declared.ahead.Ahead.{Ahead}
use Rattle.sg_paths.specs.declared.route.PathRoute.{PathRoute}
use Rattle.sg_paths.specs.Ahead.{EntersFrom, GoesBack}
use Rattle.std.proofs.lemmas.Bool.{OnFalse_at, OnFalse_from, OnTrue_at, OnTrue_from}
use Rattle.sg_paths.specs.Path.{HasNoPath, IsLeastPath}
use Rattle.sg_paths.specs.Trail.{first_settled, IsNew, IsSettledAt, LeadsBack}
use Rattle.sg_paths.specs.Trees.{IsTree}
use Rattle.sg_paths.proofs.AheadLemmas.{back_places, got}
use Rattle.sg_paths.proofs.AtHand.{at_hand, left_read, next_read}
use Rattle.sg_paths.proofs.StateLemmas.{IsFirst, IsUnderWay, Leaves, begins, few_left, first_mark, first_of, goes_back, inside_left, is_left, key_small, ranks_left, same_route, settles}
use Rattle.sg_paths.proofs.PathLemmas.{no_path}
use Rattle.sg_paths.proofs.ReachLemmas.{room_on}
use Rattle.sg_paths.proofs.SearchLemmas.{none_crosses}
use Rattle.sg_paths.proofs.WorkLemmas.{work}
use Rattle.sg_paths.proofs.TrailLemmas.{leads_back, leads_first, root_still}
use Rattle.sg_paths.proofs.TreeLemmas.{apart_first, tree_known, written_least}
use Rattle.sg_paths.proofs.least.find.Goals as goal

pub settling-init : goal.settling-init
settling-init c =
    let start : Settled = first_settled c.args.to in
    let settled : c.begin.new.settled.items ≡ start ∷ [] = c.begin.ensures.settled in
    let E : List Settled → Type 0 = λ l. EntersFrom c.args.routes.now l c.args.to 0 first_mark c.clear.new.ahead c.enter.new.ahead in
    let state : IsUnderWay c.args.routes.now c.args.to (start ∷ []) c.enter.new.ahead 1 = begins c.args.routes.now start c.clear.new.ahead c.enter.new.ahead c.clear.ensures.keys (subst E settled c.enter.ensures) in
    record {
      state = subst (λ (l : List Settled). IsUnderWay c.args.routes.now c.args.to l c.enter.new.ahead 1) (sym settled) state;
      root = subst (λ (l : List Settled). IsSettledAt l 0 c.args.to) (sym settled) (start, refl, refl);
      back = subst (λ (l : List Settled). LeadsBack l) (sym settled) (leads_first start);
      places = c.begin.ensures.places;
      fits = c.begin.ensures.fits;
      roomy = record {
        places = c.begin.ensures.count;
        settled = omega (arith, c.requires.roomy.settled, c.begin.ensures.capacity);
        ahead = c.enter.ensures.places;
        short = c.requires.roomy.short;
        best = c.requires.roomy.best;
        held = c.requires.roomy.held;
      };
    }

pub go_back-requires-clause-left : goal.go_back-requires-clause-left
go_back-requires-clause-left c =
    let k : Key = key c.in-Some.date c.in-Some.serial in
    let state = c.settling.invariant.state in
    let first : IsFirst c.settling.reach.ahead c.in-Some.i k = first_of c.settling.reach.ahead c.in-Some.i k c.in-Some.ensures.first in
    let at : c.index-left.result.now ≡ get_or c.settling.reach.ahead.left.items c.in-Some.i 0 =
    c.index-left.ensures ∙ got c.settling.reach.ahead.left.items c.in-Some.i _ 0 (inside_left c.args.routes.now c.args.to c.settling.reach.settled.items c.settling.reach.ahead (c.settling.rank + 1) c.in-Some.i k state first) in
    let few = few_left c.args.routes.now c.args.to c.settling.reach.settled.items c.settling.reach.ahead (c.settling.rank + 1) c.in-Some.i k state first in
    omega (arith, at, few)

pub go_back-requires-clause-small : goal.go_back-requires-clause-small
go_back-requires-clause-small c =
    let k : Key = key c.in-Some.date c.in-Some.serial in
    let first : IsFirst c.settling.reach.ahead c.in-Some.i k = first_of c.settling.reach.ahead c.in-Some.i k c.in-Some.ensures.first in
    let state = c.settling.invariant.state in
    let fit : c.settling.rank + 1 ≤ 18446744073709551616 = let r = ranks_left c.args.routes.now c.args.to c.settling.reach.settled.items c.settling.reach.ahead (c.settling.rank + 1) c.in-Some.i k state first in let s = c.requires.search.steps in omega (arith, r, s) in
    key_small c.args.routes.now c.args.to c.settling.reach.settled.items c.settling.reach.ahead (c.settling.rank + 1) c.in-Some.i k state first fit

pub settling-smaller-then-left-gt0 : goal.settling-smaller-then-left-gt0
settling-smaller-then-left-gt0 c =
    let k : Key = key c.in-Some.date c.in-Some.serial in
    let routes = c.args.routes.now in
    let old = c.settling.reach.ahead in
    let new = c.go_back.new.ahead in
    let state = c.settling.invariant.state in
    let first : IsFirst old c.in-Some.i k = first_of old c.in-Some.i k c.in-Some.ensures.first in
    let at : c.index-left.result.now ≡ get_or old.left.items c.in-Some.i 0 =
    c.index-left.ensures ∙ got old.left.items c.in-Some.i _ 0 (inside_left routes c.args.to c.settling.reach.settled.items old (c.settling.rank + 1) c.in-Some.i k state first) in
    let P : ℕ → Type 0 = λ n. GoesBack routes c.in-Some.i n (record { date = k.date; serial = k.serial; rank = c.settling.rank + 1 }) old new in
    let goes = subst P at c.go_back.ensures in
    let some : 0 < get_or old.left.items c.in-Some.i 0 = let s = c.if-left-gt0.true in omega (arith, at, s) in
    let places = back_places routes c.in-Some.i (get_or old.left.items c.in-Some.i 0) (record { date = k.date; serial = k.serial; rank = c.settling.rank + 1 }) old new state.places goes in
    (goes_back routes c.args.to c.settling.reach.settled.items (c.settling.rank + 1) c.in-Some.i k old new state first some goes places).less

pub settling-preserved-then-left-gt0 : goal.settling-preserved-then-left-gt0
settling-preserved-then-left-gt0 c =
    let k : Key = key c.in-Some.date c.in-Some.serial in
    let routes = c.args.routes.now in
    let old = c.settling.reach.ahead in
    let new = c.go_back.new.ahead in
    let inv = c.settling.invariant in
    let first : IsFirst old c.in-Some.i k = first_of old c.in-Some.i k c.in-Some.ensures.first in
    let at : c.index-left.result.now ≡ get_or old.left.items c.in-Some.i 0 =
    c.index-left.ensures ∙ got old.left.items c.in-Some.i _ 0 (inside_left routes c.args.to c.settling.reach.settled.items old (c.settling.rank + 1) c.in-Some.i k inv.state first) in
    let P : ℕ → Type 0 = λ n. GoesBack routes c.in-Some.i n (record { date = k.date; serial = k.serial; rank = c.settling.rank + 1 }) old new in
    let goes = subst P at c.go_back.ensures in
    let some : 0 < get_or old.left.items c.in-Some.i 0 = let s = c.if-left-gt0.true in omega (arith, at, s) in
    let places = back_places routes c.in-Some.i (get_or old.left.items c.in-Some.i 0) (record { date = k.date; serial = k.serial; rank = c.settling.rank + 1 }) old new (inv.state).places goes in
    record {
      state = (goes_back routes c.args.to c.settling.reach.settled.items (c.settling.rank + 1) c.in-Some.i k old new inv.state first some goes places).state;
      root = inv.root;
      back = inv.back;
      places = inv.places;
      fits = inv.fits;
      roomy = record { places = inv.roomy.places; settled = inv.roomy.settled; ahead = places; short = inv.roomy.short; best = inv.roomy.best; held = inv.roomy.held };
    }

pub place_of-requires-clause-point : goal.place_of-requires-clause-point
place_of-requires-clause-point c =
    let k : Key = key c.in-Some.date c.in-Some.serial in
    let routes = c.args.routes.now in
    let to = c.args.to in
    let old = c.settling.reach.ahead in
    let settled = c.settling.reach.settled.items in
    let places = c.settling.reach.places.items in
    let i = c.in-Some.i in
    let ranks = c.settling.rank + 1 in
    let inv = c.settling.invariant in
    let d : PathRoute = c.index-routes-i.result in
    let at = at_hand routes (length c.args.reach.now.places.items) to settled places old ranks i k d c.requires.search.within inv.roomy.places inv.state c.in-Some.ensures.first in
    let same : length c.as_slice-in-Some.result.now ≡ length places = ap (length {A = ℕ}) c.as_slice-in-Some.ensures.value in
    let w = at.from in
    omega (arith, w, same)

pub settling-smaller-in-Some-place_of : goal.settling-smaller-in-Some-place_of
settling-smaller-in-Some-place_of c =
    let k : Key = key c.in-Some.date c.in-Some.serial in
    let routes = c.args.routes.now in
    let to = c.args.to in
    let old = c.settling.reach.ahead in
    let settled = c.settling.reach.settled.items in
    let places = c.settling.reach.places.items in
    let i = c.in-Some.i in
    let ranks = c.settling.rank + 1 in
    let inv = c.settling.invariant in
    let d : PathRoute = c.index-routes-i.result in
    let route : PathRoute = get_or routes i d in
    let at = at_hand routes (length c.args.reach.now.places.items) to settled places old ranks i k d c.requires.search.within inv.roomy.places inv.state c.in-Some.ensures.first in
    let mid : Ahead = record { agenda = c.clear-in-Some.new.self; left = c.settling.reach.ahead.left } in
    let leaves : Leaves i old mid = record { keys = c.clear-in-Some.ensures; lefts = refl } in
    let P : List Settled → Type 0 = λ l. IsSettledAt l c.in-Some-place_of._known route.from in
    let from : IsSettledAt settled c.in-Some-place_of._known route.from = subst P c.as_slice.ensures.value c.in-Some-place_of.ensures.some in
    (is_left routes to settled ranks i c.in-Some-place_of._known k route old mid inv.state at.first at.there from leaves).less

pub settling-preserved-in-Some-place_of : goal.settling-preserved-in-Some-place_of
settling-preserved-in-Some-place_of c =
    let k : Key = key c.in-Some.date c.in-Some.serial in
    let routes = c.args.routes.now in
    let to = c.args.to in
    let old = c.settling.reach.ahead in
    let settled = c.settling.reach.settled.items in
    let places = c.settling.reach.places.items in
    let i = c.in-Some.i in
    let ranks = c.settling.rank + 1 in
    let inv = c.settling.invariant in
    let d : PathRoute = c.index-routes-i.result in
    let route : PathRoute = get_or routes i d in
    let at = at_hand routes (length c.args.reach.now.places.items) to settled places old ranks i k d c.requires.search.within inv.roomy.places inv.state c.in-Some.ensures.first in
    let mid : Ahead = record { agenda = c.clear-in-Some.new.self; left = c.settling.reach.ahead.left } in
    let leaves : Leaves i old mid = record { keys = c.clear-in-Some.ensures; lefts = refl } in
    let P : List Settled → Type 0 = λ l. IsSettledAt l c.in-Some-place_of._known route.from in
    let from : IsSettledAt settled c.in-Some-place_of._known route.from = subst P c.as_slice.ensures.value c.in-Some-place_of.ensures.some in
    let on = is_left routes to settled ranks i c.in-Some-place_of._known k route old mid inv.state at.first at.there from leaves in
    record {
      state = on.state;
      root = inv.root;
      back = inv.back;
      places = inv.places;
      fits = inv.fits;
      roomy = record { places = inv.roomy.places; settled = inv.roomy.settled; ahead = (on.state).places; short = inv.roomy.short; best = inv.roomy.best; held = inv.roomy.held };
    }

pub index-requires : goal.index-requires
index-requires c =
    let k : Key = key c.in-Some.date c.in-Some.serial in
    let routes = c.args.routes.now in
    let to = c.args.to in
    let old = c.settling.reach.ahead in
    let settled = c.settling.reach.settled.items in
    let places = c.settling.reach.places.items in
    let i = c.in-Some.i in
    let ranks = c.settling.rank + 1 in
    let inv = c.settling.invariant in
    let d : PathRoute = c.index-routes-i.result in
    let route : PathRoute = get_or routes i d in
    let at = at_hand routes (length c.args.reach.now.places.items) to settled places old ranks i k d c.requires.search.within inv.roomy.places inv.state c.in-Some.ensures.first in
    let other_to : (get_or routes i c.index-routes-i-in-Some.result).to ≡ route.to = ap (λ (r : PathRoute). r.to) (same_route routes i c.index-routes-i-in-Some.result d at.few) in
    let w = at.end in
    let n : vec_len c.settling.reach.places ≡ length places = c.settling.reach.places.ok.0 in
    omega (arith, w, other_to, n)

pub settle-requires-clause-point : goal.settle-requires-clause-point
settle-requires-clause-point c =
    let k : Key = key c.in-Some.date c.in-Some.serial in
    let routes = c.args.routes.now in
    let to = c.args.to in
    let old = c.settling.reach.ahead in
    let settled = c.settling.reach.settled.items in
    let places = c.settling.reach.places.items in
    let i = c.in-Some.i in
    let ranks = c.settling.rank + 1 in
    let inv = c.settling.invariant in
    let d : PathRoute = c.index-routes-i.result in
    let at = at_hand routes (length c.args.reach.now.places.items) to settled places old ranks i k d c.requires.search.within inv.roomy.places inv.state c.in-Some.ensures.first in
    at.from

pub enter-requires-in-Some-clause-point : goal.enter-requires-in-Some-clause-point
enter-requires-in-Some-clause-point c =
    let k : Key = key c.in-Some.date c.in-Some.serial in
    let routes = c.args.routes.now in
    let to = c.args.to in
    let old = c.settling.reach.ahead in
    let settled = c.settling.reach.settled.items in
    let places = c.settling.reach.places.items in
    let i = c.in-Some.i in
    let ranks = c.settling.rank + 1 in
    let inv = c.settling.invariant in
    let d : PathRoute = c.index-routes-i.result in
    let at = at_hand routes (length c.args.reach.now.places.items) to settled places old ranks i k d c.requires.search.within inv.roomy.places inv.state c.in-Some.ensures.first in
    let w = at.from in
    let count = inv.roomy.places in
    let n = c.requires.search.arrive.lasts in
    omega (arith, w, count, n)

pub enter-requires-in-Some-clause-small : goal.enter-requires-in-Some-clause-small
enter-requires-in-Some-clause-small c =
    let k : Key = key c.in-Some.date c.in-Some.serial in
    let routes = c.args.routes.now in
    let to = c.args.to in
    let old = c.settling.reach.ahead in
    let settled = c.settling.reach.settled.items in
    let places = c.settling.reach.places.items in
    let i = c.in-Some.i in
    let ranks = c.settling.rank + 1 in
    let inv = c.settling.invariant in
    let d : PathRoute = c.index-routes-i.result in
    let at = at_hand routes (length c.args.reach.now.places.items) to settled places old ranks i k d c.requires.search.within inv.roomy.places inv.state c.in-Some.ensures.first in
    let fit : ranks ≤ 18446744073709551616 = let r = ranks_left routes to settled old ranks i k inv.state at.first in let s = c.requires.search.steps in omega (arith, r, s) in
    key_small routes to settled old ranks i k inv.state at.first fit

pub settling-smaller : goal.settling-smaller
settling-smaller c =
    let k : Key = key c.in-Some.date c.in-Some.serial in
    let routes = c.args.routes.now in
    let to = c.args.to in
    let old = c.settling.reach.ahead in
    let settled = c.settling.reach.settled.items in
    let places = c.settling.reach.places.items in
    let i = c.in-Some.i in
    let ranks = c.settling.rank + 1 in
    let inv = c.settling.invariant in
    let d : PathRoute = c.index-routes-i.result in
    let route : PathRoute = get_or routes i d in
    let at = at_hand routes (length c.args.reach.now.places.items) to settled places old ranks i k d c.requires.search.within inv.roomy.places inv.state c.in-Some.ensures.first in
    let read : c.index-left.result.now ≡ get_or old.left.items i 0 = left_read routes to settled old ranks i k c.index-left.result.now _ inv.state at.first c.index-left.ensures in
    let back : get_or old.left.items i 0 ≡ 0 = let z = c.if-left-gt0.false in omega (arith, read, z) in
    let next : IsSettledAt settled c.index.result.now route.to = next_read routes to settled places old ranks i k d c.index-routes-i-in-Some.result c.index.result.now _ inv.state inv.places at c.index.ensures in
    let hop : Settled = record { point = route.from; route = i; next = c.index.result.now } in
    let Q : List Settled → Type 0 = λ l. IsNew l route.from in
    let new_point : IsNew settled route.from = subst Q c.as_slice.ensures.value (c.in_default-place_of.ensures.none refl) in
    let mid : Ahead = record { agenda = c.clear-in-Some.new.self; left = c.settling.reach.ahead.left } in
    let leaves : Leaves i old mid = record { keys = c.clear-in-Some.ensures; lefts = refl } in
    let E : List Settled → Type 0 = λ l. EntersFrom routes l hop.point 0 (record { date = k.date; serial = k.serial; rank = ranks }) mid c.enter-in-Some.new.ahead in
    let on = settles routes to settled places ranks i k hop route old mid c.enter-in-Some.new.ahead inv.state at.first inv.root inv.back inv.places back at.there refl refl next new_point leaves (subst E c.settle.ensures.settled c.enter-in-Some.ensures) in
    let R : List Settled → Type 0 = λ l. work routes l c.enter-in-Some.new.ahead < work routes settled old in
    subst R (sym c.settle.ensures.settled) on.less

pub settling-preserved : goal.settling-preserved
settling-preserved c =
    let k : Key = key c.in-Some.date c.in-Some.serial in
    let routes = c.args.routes.now in
    let to = c.args.to in
    let old = c.settling.reach.ahead in
    let settled = c.settling.reach.settled.items in
    let places = c.settling.reach.places.items in
    let i = c.in-Some.i in
    let ranks = c.settling.rank + 1 in
    let inv = c.settling.invariant in
    let d : PathRoute = c.index-routes-i.result in
    let route : PathRoute = get_or routes i d in
    let at = at_hand routes (length c.args.reach.now.places.items) to settled places old ranks i k d c.requires.search.within inv.roomy.places inv.state c.in-Some.ensures.first in
    let read : c.index-left.result.now ≡ get_or old.left.items i 0 = left_read routes to settled old ranks i k c.index-left.result.now _ inv.state at.first c.index-left.ensures in
    let back : get_or old.left.items i 0 ≡ 0 = let z = c.if-left-gt0.false in omega (arith, read, z) in
    let next : IsSettledAt settled c.index.result.now route.to = next_read routes to settled places old ranks i k d c.index-routes-i-in-Some.result c.index.result.now _ inv.state inv.places at c.index.ensures in
    let hop : Settled = record { point = route.from; route = i; next = c.index.result.now } in
    let Q : List Settled → Type 0 = λ l. IsNew l route.from in
    let new_point : IsNew settled route.from = subst Q c.as_slice.ensures.value (c.in_default-place_of.ensures.none refl) in
    let below_next : c.index.result.now < length settled = slice_get_within settled c.index.result.now next.0 next.1 in
    let mid : Ahead = record { agenda = c.clear-in-Some.new.self; left = c.settling.reach.ahead.left } in
    let leaves : Leaves i old mid = record { keys = c.clear-in-Some.ensures; lefts = refl } in
    let E : List Settled → Type 0 = λ l. EntersFrom routes l hop.point 0 (record { date = k.date; serial = k.serial; rank = ranks }) mid c.enter-in-Some.new.ahead in
    let on = settles routes to settled places ranks i k hop route old mid c.enter-in-Some.new.ahead inv.state at.first inv.root inv.back inv.places back at.there refl refl next new_point leaves (subst E c.settle.ensures.settled c.enter-in-Some.ensures) in
    let same : settled ++ hop ∷ [] ≡ c.settle.new.settled.items = sym c.settle.ensures.settled in
    record {
      state = subst (λ (l : List Settled). IsUnderWay routes to l c.enter-in-Some.new.ahead (ranks + 1)) same on.state;
      root = subst (λ (l : List Settled). IsSettledAt l 0 to) same (root_still settled hop to inv.root);
      back = subst (λ (l : List Settled). LeadsBack l) same (leads_back settled hop inv.back below_next);
      places = c.settle.ensures.places;
      fits = c.settle.ensures.fits;
      roomy = record {
        places = c.settle.ensures.count ∙ inv.roomy.places;
        settled = omega (arith, inv.roomy.settled, c.settle.ensures.capacity);
        ahead = (on.state).places;
        short = inv.roomy.short;
        best = inv.roomy.best;
        held = inv.roomy.held;
      };
    }

pub write_path-requires-clause-from : goal.write_path-requires-clause-from
write_path-requires-clause-from c = let n = c.settling.invariant.roomy.places in omega (arith, c.requires.begins, n)

pub write_path-requires-clause-apart : goal.write_path-requires-clause-apart
write_path-requires-clause-apart c = apart_first c.settling.reach.settled.items c.args.from c.args.to c.requires.apart c.settling.invariant.root

pub returns-then-is_enough-clause-path : goal.returns-then-is_enough-clause-path
returns-then-is_enough-clause-path c =
    let state = c.settling.invariant.state in
    let there = c.if-is_enough.ensures in
    record {
      yes = OnTrue_from c.write_path.result (IsLeastPath c.args.routes.now c.args.from c.args.to c.write_path.new.reach.best.items)
          (λ e. written_least c.args.routes.now c.args.from c.args.to c.settling.reach.settled.items state.label c.write_path.new.reach.best.items state.known (OnTrue_at e c.write_path.ensures.yes));
      no = OnFalse_from c.write_path.result (HasNoPath c.args.routes.now c.args.from c.args.to)
          (λ e. absurd (OnFalse_at e c.write_path.ensures.no there.0 (there.1).0 (there.1).1 (there.1).2));
      roomy = room_on c.args.routes.now c.args.reach.now c.settling.reach c.write_path.new.reach c.settling.invariant.roomy c.write_path.ensures.roomy;
    }

pub returns-then-is_enough-clause-tree : goal.returns-then-is_enough-clause-tree
returns-then-is_enough-clause-tree c =
    let state = c.settling.invariant.state in
    let same : c.settling.reach.settled.items ≡ c.write_path.new.reach.settled.items = sym c.write_path.ensures.settled in
    subst (λ (l : List Settled). IsTree c.args.routes.now c.args.to l) same (tree_known c.args.routes.now c.args.to c.settling.reach.settled.items state.label state.known)

pub returns-clause-path : goal.returns-clause-path
returns-clause-path c =
    let inv = c.settling.invariant in
    let state = inv.state in
    record {
      yes = OnTrue_from c.write_path-2.result (IsLeastPath c.args.routes.now c.args.from c.args.to c.write_path-2.new.reach.best.items)
          (λ e. written_least c.args.routes.now c.args.from c.args.to c.settling.reach.settled.items state.label c.write_path-2.new.reach.best.items state.known (OnTrue_at e c.write_path-2.ensures.yes));
      no = OnFalse_from c.write_path-2.result (HasNoPath c.args.routes.now c.args.from c.args.to)
          (λ e. no_path c.args.routes.now c.settling.reach.settled.items c.args.to (inv.state).label (inv.state).known inv.root c.args.from (OnFalse_at e c.write_path-2.ensures.no)
          (λ hop crossing. none_crosses c.args.routes.now c.settling.reach.settled.items c.settling.reach.ahead (inv.state).begun c.in_default.ensures.none hop crossing));
      roomy = room_on c.args.routes.now c.args.reach.now c.settling.reach c.write_path-2.new.reach inv.roomy c.write_path-2.ensures.roomy;
    }

pub returns-clause-tree : goal.returns-clause-tree
returns-clause-tree c =
    let state = c.settling.invariant.state in
    let same : c.settling.reach.settled.items ≡ c.write_path-2.new.reach.settled.items = sym c.write_path-2.ensures.settled in
    subst (λ (l : List Settled). IsTree c.args.routes.now c.args.to l) same (tree_known c.args.routes.now c.args.to c.settling.reach.settled.items state.label state.known)
