-- The table of shortest paths has the least of all paths of at most so many routes.
use Rattle.std.proofs.Common.{◌≡◌, ℕ, zero, suc, Bool, true, false, cond, Option, Some, None, List, [], ◌∷◌, ◌++◌, length, refl, sym, ap, ◌∙◌, arith}
use Rattle.std.specs.Prelude.{◌==◌, map, option_map}
use Rattle.std.specs.List.{cons_option, filter_map, flat_map}
use Rattle.std.proofs.lemmas.Bool.Decides.{nat_tests}
use Rattle.sg_base.specs.declared.ids.LinkId.{LinkId}
use Rattle.sg_paths.specs.declared.route.PathRoute.{PathRoute}
use Rattle.sg_paths.specs.Order.{IsNotAfter, not_after}
use Rattle.sg_paths.specs.Least.{empty_path, least_from, least_path, lesser, path_over, path_table}
use Rattle.sg_paths.specs.AllPaths.{LeastPathIsLeastOfAll, TableHasLeastOfAll, all_links, least_of, paths_starting_with, trivial_path}
use Rattle.sg_paths.proofs.OrderLemmas.{not_after_behind, not_after_both, not_after_false, not_after_through, not_after_true}

-- ---- the lesser of two lists

lesser_first : (a b : List LinkId) → IsNotAfter a b → lesser a (Some b) ≡ a
lesser_first a b before = go (not_after a b) refl
  where
    go : (t : Bool) → not_after a b ≡ t → cond t a b ≡ a
    go true e = refl
    go false e = not_after_both b a (not_after_false a b e) before

lesser_second : (a b : List LinkId) → IsNotAfter b a → lesser a (Some b) ≡ b
lesser_second a b before = go (not_after a b) refl
  where
    go : (t : Bool) → not_after a b ≡ t → cond t a b ≡ b
    go true e = not_after_both a b (not_after_true a b e) before
    go false e = refl

-- the lesser of two, if there are any
abbrev either : Option (List LinkId) → Option (List LinkId) → Option (List LinkId)
either None other = other
either (Some links) other = Some (lesser links other)

-- of three lists it doesn't matter which two are compared first
lesser_of_three : (x : List LinkId) (a b : Option (List LinkId)) → lesser x (either a b) ≡ lesser (lesser x a) b
lesser_of_three x None b = refl
lesser_of_three x (Some a) None = refl
lesser_of_three x (Some a) (Some b) = go (not_after a b) refl (not_after x a) refl
  where
    go : (s : Bool) → not_after a b ≡ s → (t : Bool) → not_after x a ≡ t → lesser x (Some (cond s a b)) ≡ lesser (cond t x a) (Some b)
    go true e true f = lesser_first x a (not_after_true x a f) ∙ sym (lesser_first x b (not_after_through x a b (not_after_true x a f) (not_after_true a b e)))
    go true e false f = lesser_second x a (not_after_false x a f) ∙ sym (lesser_first a b (not_after_true a b e))
    go false e true f = refl
    go false e false f = lesser_second x b (not_after_through b a x (not_after_false a b e) (not_after_false x a f)) ∙ sym (lesser_second a b (not_after_false a b e))

least_append : (xs ys : List (List LinkId)) → least_of (xs ++ ys) ≡ either (least_of xs) (least_of ys)
least_append [] ys = refl
least_append (x ∷ xs) ys = ap (λ o. Some (lesser x o)) (least_append xs ys) ∙ ap Some (lesser_of_three x (least_of xs) (least_of ys))

-- ---- lists after the same links

lesser_behind : (front x : List LinkId) (o : Option (List LinkId)) → lesser (front ++ x) (option_map (λ rest. front ++ rest) o) ≡ front ++ lesser x o
lesser_behind front x None = refl
lesser_behind front x (Some y) = go (not_after x y) refl
  where
    go : (t : Bool) → not_after x y ≡ t → lesser (front ++ x) (Some (front ++ y)) ≡ front ++ cond t x y
    go true e = lesser_first (front ++ x) (front ++ y) (not_after_behind front x y (not_after_true x y e))
    go false e = lesser_second (front ++ x) (front ++ y) (not_after_behind front y x (not_after_false x y e))

least_behind : (front : List LinkId) (xs : List (List LinkId)) → least_of (map (λ rest. front ++ rest) xs) ≡ option_map (λ rest. front ++ rest) (least_of xs)
least_behind front [] = refl
least_behind front (x ∷ xs) = ap (λ o. Some (lesser (front ++ x) o)) (least_behind front xs) ∙ ap Some (lesser_behind front x (least_of xs))

-- ---- the rows of the table

-- one route more: the list over the row has the links of the route, and the least from its end
over_one : (from to : ℕ) (route : PathRoute) (o : Option (List LinkId)) (xs : List (List LinkId)) → o ≡ least_of xs
    → (rows : List PathRoute) (w : Option (List LinkId)) → least_from from rows ≡ w
    → least_from from (cons_option (option_map (λ links. record route { to = to; links = route.links ++ links }) o) rows)
    ≡ either (least_of (cond (route.from == from) (map (λ links. route.links ++ links) xs) [])) w
over_one from to route None xs is rows w rest = go (route.from == from)
  where
    go : (t : Bool) → least_from from rows ≡ either (least_of (cond t (map (λ links. route.links ++ links) xs) [])) w
    go true = rest ∙ ap (λ p. either p w) (sym (least_behind route.links xs ∙ ap (λ p. option_map (λ links. route.links ++ links) p) (sym is)))
    go false = rest
over_one from to route (Some l) xs is rows w rest = go (route.from == from)
  where
    go : (t : Bool) → cond t (Some (lesser (route.links ++ l) (least_from from rows))) (least_from from rows)
        ≡ either (least_of (cond t (map (λ links. route.links ++ links) xs) [])) w
    go true =
        ap (λ q. Some (lesser (route.links ++ l) q)) rest
        ∙ ap (λ p. either p w) (sym (least_behind route.links xs ∙ ap (λ p. option_map (λ links. route.links ++ links) p) (sym is)))
    go false = rest

over_routes : (from to : ℕ) (table : List PathRoute) (onward : ℕ → List (List LinkId)) → ((next : ℕ) → least_from next table ≡ least_of (onward next))
    → (routes : List PathRoute) → least_from from (filter_map (path_over to table) routes) ≡ least_of (flat_map (paths_starting_with from onward) routes)
over_routes from to table onward same [] = refl
over_routes from to table onward same (route ∷ routes) =
    over_one from to route (least_from route.to table) (onward route.to) (same route.to) (filter_map (path_over to table) routes)
    (least_of (flat_map (paths_starting_with from onward) routes)) (over_routes from to table onward same routes)
    ∙ sym (least_append (paths_starting_with from onward route) (flat_map (paths_starting_with from onward) routes))

-- the path of no route besides
with_empty : (from to : ℕ) (rows : List PathRoute) (w : Option (List LinkId)) → least_from from rows ≡ w
    → least_from from (empty_path to ∷ rows) ≡ either (least_of (trivial_path from to)) w
with_empty from to rows w rest = go (to == from) (from == to) (grind (arith, nat_tests))
  where
    go : (s t : Bool) → s ≡ t → cond s (Some (lesser [] (least_from from rows))) (least_from from rows) ≡ either (least_of (cond t ([] ∷ []) [])) w
    go true true e = ap (λ q. Some (lesser [] q)) rest
    go true false e = absurd (cc)
    go false true e = absurd (cc)
    go false false e = rest

either_none : (o : Option (List LinkId)) → either o None ≡ o
either_none None = refl
either_none (Some links) = refl

-- ---- the table

pub table_is : (routes : List PathRoute) → TableHasLeastOfAll routes
unfolding all_links path_table
table_is routes zero from to = with_empty from to [] None refl ∙ either_none (least_of (trivial_path from to))
table_is routes (suc most) from to =
    let onward : ℕ → List (List LinkId) = λ next. all_links most routes next to in
    let rows = filter_map (path_over to (path_table most routes to)) routes in
    let rest = over_routes from to (path_table most routes to) onward (λ next. table_is routes most next to) routes in
    with_empty from to rows (least_of (flat_map (paths_starting_with from onward) routes)) rest
    ∙ sym (least_append (trivial_path from to) (flat_map (paths_starting_with from onward) routes))

pub least_path_is_least_of_all : (routes : List PathRoute) → LeastPathIsLeastOfAll routes
unfolding least_path
least_path_is_least_of_all routes from to = table_is routes (length routes) from to
