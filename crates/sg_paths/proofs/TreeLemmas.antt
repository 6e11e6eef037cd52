-- Trees of shortest paths, and the hops that are stored of them.
use Rattle.std.proofs.Common.{◌≡◌, ℕ, zero, suc, ◌+◌, ◌-◌, ◌*◌, ◌<◌, ◌≤◌, ◌⊎◌, Bor, Some, List, [], ◌∷◌, ◌++◌, length, get_or, inl, inr, refl, sym, subst, ap, ◌∙◌, arith, append_assoc}
use Rattle.std.specs.Prelude.{slice_get}
use Rattle.std.specs.Slice.{IsItemAt}
use Rattle.std.proofs.lemmas.Bool.Decides.{nat_tests}
use Rattle.std.proofs.lemmas.Option.{slice_get-get_or, slice_get_read, slice_get_within}
use Rattle.std.proofs.Math.Nat.{mul-le-mul_right}
use Rattle.sg_base.specs.declared.ids.LinkId.{LinkId}
use Rattle.sg_paths.specs.declared.route.PathRoute.{PathRoute}
use Rattle.sg_paths.specs.declared.trail.Settled.{Settled}
use Rattle.sg_paths.specs.declared.trees.Hop.{Hop}
use Rattle.sg_paths.specs.Arrivals.{to_at}
use Rattle.sg_paths.specs.Least.{least_path}
use Rattle.sg_paths.specs.Path.{IsLeastPath}
use Rattle.sg_paths.specs.Trail.{IsSettledAt, IsWritten, LeadsBack, links_at, links_in}
use Rattle.sg_paths.specs.Trees.{AreEmpty, AreOnward, GoesOver, IsOnward, IsTree, MayWrite, StayOnward, TakeTree}
use Rattle.sg_paths.proofs.AskedLemmas.{at_set}
use Rattle.sg_paths.proofs.LeastLemmas.{least_found, least_path_is}
use Rattle.sg_paths.proofs.OrderLemmas.{nothing_before}
use Rattle.sg_paths.proofs.PathLemmas.{IsKnown}
use Rattle.sg_paths.proofs.TrailLemmas.{pushed}

-- what is known of finalized points is a tree
pub tree_known : (routes : List PathRoute) (to : ℕ) (settled : List Settled) (label : ℕ → List LinkId) → IsKnown routes settled to label → IsTree routes to settled
tree_known routes to settled label known k s above there =
    let j = known.joined k s above there in
    let next : least_path routes ((j.next).0).point to ≡ Some (label s.next) = least_path_is routes ((j.next).0).point to (label s.next) (known.least s.next (j.next).0 (j.next).1) in
    let own : least_path routes s.point to ≡ Some (links_at routes s.route ++ label s.next) =
    least_path_is routes s.point to (label k) (known.least k s there) ∙ ap (λ (l : List LinkId). Some l) ((known.trail).each k s above there) in record {
      few = j.few;
      rest = label s.next;
      next = subst (λ (p : ℕ). least_path routes p to ≡ Some (label s.next)) (j.next).2 next;
      is = subst (λ (p : ℕ). least_path routes p to ≡ Some (links_at routes s.route ++ label s.next)) (sym j.from) own;
    }

-- the links that are written from a finalized point on are least
pub written_least : (routes : List PathRoute) (from to : ℕ) (settled : List Settled) (label : ℕ → List LinkId) (links : List LinkId) → IsKnown routes settled to label → IsWritten routes settled from links → IsLeastPath routes from to links
written_least routes from to settled label links known is =
    let same : links ≡ label is.place = is.are label known.trail ∙ sym ((known.trail).each is.place is.hop is.above is.there) in
    let least : IsLeastPath routes (is.hop).point to links = subst (λ (l : List LinkId). IsLeastPath routes (is.hop).point to l) (sym same) (known.least is.place is.hop is.there) in
    subst (λ (p : ℕ). IsLeastPath routes p to links) is.point least

-- a point other than the first
pub apart_first : (settled : List Settled) (from to : ℕ) → (from ≡ to → ⊥) → IsSettledAt settled 0 to → IsSettledAt settled 0 from → ⊥
apart_first settled from to apart (s, at, is) (t, there, same) =
    let both : Some s ≡ Some t = sym at ∙ there in
    let one : s ≡ t = cc in
    apart (sym same ∙ ap (λ (x : Settled). x.point) (sym one) ∙ is)

pub above_first : (settled : List Settled) (place from : ℕ) → (IsSettledAt settled 0 from → ⊥) → IsSettledAt settled place from → 0 < place
above_first settled zero from apart at = absurd (apart at)
above_first settled (suc place) from apart at = omega arith

-- a finalized point that isn't the first, and leads to one before it
pub record IsPlaced (settled : List Settled) (place from : ℕ) (hop : Settled) : Type 0 where
  pub above : 0 < place
  pub there : slice_get settled place ≡ Some hop
  pub point : hop.point ≡ from
  pub next : hop.next < length settled

pub placed : (settled read : List Settled) (place from : ℕ) (d : Settled) → read ≡ settled → LeadsBack settled → (IsSettledAt settled 0 from → ⊥) → IsSettledAt read place from → IsPlaced settled place from (get_or read place d)
placed settled read place from d same leads apart found = record {
  above = above;
  there = there;
  point = ap (λ (x : Settled). x.point) (sym one) ∙ at.2;
  next = let back : (get_or read place d).next < place = leads.back place (get_or read place d) above there in let w = within in omega (arith, back, w);
}
  where
    at : IsSettledAt settled place from
    at = subst (λ (l : List Settled). IsSettledAt l place from) same found

    above : 0 < place
    above = above_first settled place from apart at

    within : place < length settled
    within = slice_get_within settled place at.0 at.1

    there : slice_get settled place ≡ Some (get_or read place d)
    there = slice_get-get_or settled place d within ∙ ap (λ (l : List Settled). Some (get_or l place d)) (sym same)

    one : at.0 ≡ get_or read place d
    one = let both : Some at.0 ≡ Some (get_or read place d) = sym at.1 ∙ there in cc

-- what a list's `get` returned stands there
pub item_there : {X : Type 0} (xs : List X) (i : ℕ) (x : Bor X) → IsItemAt xs i (Some x) → slice_get xs i ≡ Some x.now
item_there xs i x h = let is = h.0 in slice_get_read xs (length xs) i x.now refl (grind (arith, nat_tests)) h.1

-- the links of a route, as they were read
pub links_read : (routes : List PathRoute) (i : ℕ) (d : PathRoute) → i < length routes → (get_or routes i d).links ≡ links_at routes i
links_read routes i d few = sym (ap links_in (slice_get-get_or routes i d few))

-- from a point to itself leads the path of no route
pub nothing_left : (routes : List PathRoute) (to : ℕ) → least_path routes to to ≡ Some []
nothing_left routes to = least_path_is routes to to [] (record { reached = ([], refl, refl); least = λ other has. nothing_before other })

-- links up to a point, with which those from there on are the shortest path
pub IsBegun : List PathRoute → ℕ → ℕ → ℕ → List LinkId → Type 0
IsBegun routes from at to out = (rest : List LinkId) → least_path routes at to ≡ Some rest → least_path routes from to ≡ Some (out ++ rest)

pub begun : (routes : List PathRoute) (from to : ℕ) → IsBegun routes from from to []
unfolding IsBegun
begun routes from to rest is = is

pub one_more : (routes : List PathRoute) (from at to i : ℕ) (out : List LinkId) → IsBegun routes from at to out → GoesOver routes at to i → IsBegun routes from (to_at routes i) to (out ++ links_at routes i)
unfolding IsBegun
one_more routes from at to i out begun over rest is =
    let on = over.onward in
    let same : on.rest ≡ rest = let both : Some on.rest ≡ Some rest = sym on.next ∙ is in cc in
    let own : least_path routes at to ≡ Some (links_at routes i ++ rest) =
    subst (λ (p : ℕ). least_path routes p to ≡ Some (links_at routes i ++ rest)) over.begins (on.is ∙ ap (λ (l : List LinkId). Some (links_at routes i ++ l)) same) in
    begun (links_at routes i ++ rest) own ∙ ap (λ (l : List LinkId). Some l) (sym (append_assoc out (links_at routes i) rest))

pub all_begun : (routes : List PathRoute) (from to : ℕ) (out : List LinkId) → IsBegun routes from to to out → IsLeastPath routes from to out
unfolding IsBegun
all_begun routes from to out begun = least_found routes from to out (begun [] (nothing_left routes to) ∙ ap (λ (l : List LinkId). Some l) (append_none out))
  where
    append_none : (xs : List LinkId) → xs ++ [] ≡ xs
    append_none [] = refl
    append_none (x ∷ xs) = ap (λ (l : List LinkId). x ∷ l) (append_none xs)

-- room for one route's links more
pub room_for_one : (out links at points most room : ℕ) → out ≤ at * most → links ≤ most → at < points → points * most ≤ room → (out + links ≤ room) × (out + links ≤ (at + 1) * most)
room_for_one out links at points most room few short below fits =
    let less : (at + 1) * most ≤ points * most = mul-le-mul_right most (omega arith) in
    let more : out + links ≤ (at + 1) * most = omega arith in (omega arith, more)

-- ---- what is stored

pub none_onward : (routes : List PathRoute) (hops : List Hop) → AreEmpty hops → AreOnward routes hops
none_onward routes hops empty k hop there some = absurd (empty k hop there)

abbrev pub blank : Hop
blank = record { to = 0; route = 0 }

pub one_blank : (hops : List Hop) → StayOnward hops (hops ++ blank ∷ [])
one_blank hops routes old k hop there some = go (pushed hops blank k hop there)
  where
    go : ((k < length hops) × (slice_get hops k ≡ Some hop)) ⊎ ((k ≡ length hops) × (blank ≡ hop)) → IsOnward routes hop.to (hop.route - 1)
    go (inl l) = old k hop l.1 some
    go (inr l) = let none : 0 ≡ hop.route = ap (λ (h : Hop). h.route) l.1 in absurd (omega arith)

pub one_written : (settled : List Settled) (old new : List Hop) (to j : ℕ) (hop : Hop) (s : Settled) → 0 < j → slice_get settled j ≡ Some s → hop.to ≡ to → (0 < hop.route → hop.route ≡ s.route + 1)
    → MayWrite old new hop → TakeTree settled to old new
one_written settled old new to j hop s above at leads numbered (inl same) routes tree before = subst (λ (l : List Hop). AreOnward routes l) (sym same) before
one_written settled old new to j hop s above at leads numbered (inr (place, is)) routes tree before = subst (λ (l : List Hop). AreOnward routes l) (sym is) (λ k other there some. go k other some (at_set old place k hop other there))
  where
    own : 0 < hop.route → IsOnward routes hop.to (hop.route - 1)
    own more =
        let number : s.route ≡ hop.route - 1 = let r = numbered more in omega (arith, r) in
        let there : IsOnward routes to (hop.route - 1) = subst (λ (n : ℕ). IsOnward routes to n) number (tree j s above at) in
        subst (λ (n : ℕ). IsOnward routes n (hop.route - 1)) (sym leads) there

    go : (k : ℕ) (other : Hop) → 0 < other.route → (hop ≡ other) ⊎ (slice_get old k ≡ Some other) → IsOnward routes other.to (other.route - 1)
    go k other some (inl same) =
        let more : 0 < hop.route = let r : hop.route ≡ other.route = ap (λ (h : Hop). h.route) same in omega arith in
        subst (λ (h : Hop). IsOnward routes h.to (h.route - 1)) same (own more)
    go k other some (inr there) = before k other there some
