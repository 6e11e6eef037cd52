-- Paths that are stored.
use Rattle.std.proofs.Common.{◌≡◌, ◌<◌, ◌⊎◌, ℕ, zero, suc, List, [], ◌∷◌, ◌++◌, Option, None, Some, length, inl, inr, sym, subst, ap, ◌∙◌}
use Rattle.std.specs.Prelude.{slice_get, slice_set}
use Rattle.sg_paths.specs.declared.asked.Asked.{Asked}
use Rattle.sg_paths.specs.declared.route.PathRoute.{PathRoute}
use Rattle.sg_paths.specs.Asked.{AreFree, AreHeld, AreRight, MayHoldMore}
use Rattle.sg_base.specs.declared.ids.LinkId.{LinkId}
use Rattle.sg_paths.specs.Least.{least_path}
use Rattle.sg_paths.specs.Path.{IsLeastPath}
use Rattle.sg_paths.proofs.LeastLemmas.{least_found, least_path_is}
use Rattle.sg_paths.proofs.TrailLemmas.{pushed}

pub none_free : AreFree []
none_free k one there = absurd (cc)

pub one_free : (asked : List (Option Asked)) → AreFree asked → AreFree (asked ++ None ∷ [])
one_free asked free k one there = go (pushed asked None k (Some one) there)
  where
    go : ((k < length asked) × (slice_get asked k ≡ Some (Some one))) ⊎ ((k ≡ length asked) × (None ≡ Some one)) → ⊥
    go (inl l) = free k one l.1
    go (inr l) = let e : None ≡ Some one = l.1 in cc

-- what is stored is shortest
pub held_least : (routes : List PathRoute) (asked : List (Option Asked)) (from to : ℕ) (links : List LinkId) → AreRight routes asked → AreHeld asked from to links → IsLeastPath routes from to links
held_least routes asked from to links right held =
    let one : Asked = held.one in
    let e : least_path routes from to ≡ Some links =
    sym (ap (λ n. least_path routes n to) held.from) ∙ sym (ap (λ n. least_path routes one.from n) held.to) ∙ right held.place one held.there ∙ ap (λ xs. Some xs) held.links in
    least_found routes from to links e

-- what stands at a place once a place was written
pub at_set : {X : Type 0} (xs : List X) (i k : ℕ) (x y : X) → slice_get (slice_set xs i x) k ≡ Some y → (x ≡ y) ⊎ (slice_get xs k ≡ Some y)
at_set [] i k x y h = inr h
at_set (z ∷ xs) zero zero x y h = inl (cc)
at_set (z ∷ xs) zero (suc k) x y h = inr h
at_set (z ∷ xs) (suc i) zero x y h = inr h
at_set (z ∷ xs) (suc i) (suc k) x y h = at_set xs i k x y h

-- and stays right if a shortest path is stored
pub more_right : (routes : List PathRoute) (old new : List (Option Asked)) (from to : ℕ) (links : List LinkId) → AreRight routes old → MayHoldMore old new from to links → IsLeastPath routes from to links → AreRight routes new
more_right routes old new from to links right (inl same) least = let P : List (Option Asked) → Type 0 = AreRight routes in subst P (sym same) right
more_right routes old new from to links right (inr more) least =
    let P : List (Option Asked) → Type 0 = AreRight routes in
    subst P (sym more.is) (λ k one there. go k one (at_set old more.place k (Some more.one) (Some one) there))
  where
    own : least_path routes (more.one).from (more.one).to ≡ Some (more.one).links.items
    own = ap (λ n. least_path routes n (more.one).to) more.from ∙ ap (λ n. least_path routes from n) more.to ∙ least_path_is routes from to links least ∙ ap (λ xs. Some xs) (sym more.links)

    go : (k : ℕ) (one : Asked) → (Some more.one ≡ Some one) ⊎ (slice_get old k ≡ Some (Some one)) → least_path routes one.from one.to ≡ Some one.links.items
    go k one (inr there) = right k one there
    go k one (inl e) =
        let same : more.one ≡ one = cc in
        let Q : Asked → Type 0 = λ x. least_path routes x.from x.to ≡ Some x.links.items in
        subst Q same own
