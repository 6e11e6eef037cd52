-- Lemmas on what is known of names.
use Rattle.std.proofs.Common.{◌≡◌, ◌∙◌, ◌+◌, ◌++◌, ap, refl, sym, ℕ, List, length, length-append, arith}
use Rattle.std.specs.HashMap.{get_by_text}
use Rattle.sg_toml_tree.specs.Names.{Known, known_by}
use Rattle.sg_toml_tree.specs.kept.Parts.{AreActors, AreLinks, AreLocks, AreProfiled, AreRoutes, parts_view}
use Rattle.sg_toml_tree.specs.declared.names.Actors.{Actors}
use Rattle.sg_toml_tree.specs.declared.names.Links.{Links}
use Rattle.sg_toml_tree.specs.declared.names.Locks.{Locks}
use Rattle.sg_toml_tree.specs.declared.names.Points.{Points}
use Rattle.sg_toml_tree.specs.declared.names.Profiled.{Profiled}
use Rattle.sg_toml_tree.specs.declared.names.Routes.{Routes}
use Rattle.sg_toml_tree.proofs.NameSpaceLemmas.{along_append}
use Rattle.sg_toml_tree.specs.Along.{along}
use Rattle.sg_toml_tree.specs.NameSpaces.{SameNames, SamePairs, numbered, with_number}
use Rattle.toml.specs.Data.{Data, Members}

-- the two find the same
record FindsSame (a b : Known) : Type 0 where
  pub zones : a.zones ≡ b.zones
  pub hosts : a.hosts ≡ b.hosts
  pub points : SameNames a.points b.points
  pub taken : SameNames a.taken b.taken
  pub links : SameNames a.links b.links
  pub pairs : SamePairs a.pairs b.pairs
  pub zone_pairs : SamePairs a.zone_pairs b.zone_pairs
  pub children : SameNames a.children b.children
  pub profiled_hosts : SameNames a.profiled_hosts b.profiled_hosts
  pub profiled_links : SameNames a.profiled_links b.profiled_links
  pub switched_hosts : SameNames a.switched_hosts b.switched_hosts
  pub switched_links : SameNames a.switched_links b.switched_links
  pub actors : SameNames a.actors b.actors
  pub workers : SameNames a.workers b.workers
  pub mutexes : SameNames a.mutexes b.mutexes
  pub semaphores : SameNames a.semaphores b.semaphores

known_same : (a b : Known) → FindsSame a b → a ≡ b
known_same a b s = λ i. record {
  zones = s.zones i;
  hosts = s.hosts i;
  points = λ q. s.points q i;
  taken = λ q. s.taken q i;
  links = λ q. s.links q i;
  pairs = λ q. s.pairs q i;
  zone_pairs = λ q. s.zone_pairs q i;
  children = λ q. s.children q i;
  profiled_hosts = λ q. s.profiled_hosts q i;
  profiled_links = λ q. s.profiled_links q i;
  switched_hosts = λ q. s.switched_hosts q i;
  switched_links = λ q. s.switched_links q i;
  actors = λ q. s.actors q i;
  workers = λ q. s.workers q i;
  mutexes = λ q. s.mutexes q i;
  semaphores = λ q. s.semaphores q i;
}

-- what is collected from all rows of a tree
pub record Collects (tree : Members) (points : Points) (links : Links) (routes : Routes) (profiled : Profiled) (actors : Actors) (locks : Locks) : Type 0 where
  pub of_links : AreLinks tree links
  pub of_routes : AreRoutes tree (λ q. get_by_text points.numbers q) routes
  pub of_profiled : AreProfiled tree profiled
  pub of_actors : AreActors tree actors
  pub of_locks : AreLocks tree locks

-- are its names
pub collected : (tree : Members) (points : Points) (links : Links) (routes : Routes) (profiled : Profiled) (actors : Actors) (locks : Locks) → Collects tree points links routes profiled actors locks
    → parts_view points links routes profiled actors locks ≡ known_by points.zones points.hosts (λ q. get_by_text points.numbers q) tree
unfolding known_by
collected tree points links routes profiled actors locks s =
    known_same (parts_view points links routes profiled actors locks) (known_by points.zones points.hosts (λ q. get_by_text points.numbers q) tree) (record {
      zones = refl;
      hosts = refl;
      points = λ q. refl;
      taken = s.of_links.taken;
      links = s.of_links.declared;
      pairs = s.of_routes.pairs;
      zone_pairs = s.of_routes.zone_pairs;
      children = s.of_routes.children;
      profiled_hosts = s.of_profiled.speeds.hosts;
      profiled_links = s.of_profiled.speeds.links;
      switched_hosts = s.of_profiled.states.hosts;
      switched_links = s.of_profiled.states.links;
      actors = s.of_actors.actors;
      workers = s.of_actors.workers;
      mutexes = s.of_locks.mutexes;
      semaphores = s.of_locks.semaphores;
    })

-- three lists of rows that are numbered one after the other
pub three_numbered : (keys : Data → List (List ℕ)) (xs ys zs : List Data)
    → numbered keys 0 xs ++ numbered keys (length xs) ys ++ numbered keys (length xs + length ys) zs ≡ numbered keys 0 (xs ++ ys ++ zs)
three_numbered keys xs ys zs =
    let f : ℕ → Data → List (List ℕ × ℕ) = λ i row. with_number i (keys row) in
    let two : 0 + length xs ≡ length xs = omega arith in
    let three : 0 + length (xs ++ ys) ≡ length xs + length ys = omega (arith, length-append xs ys) in
    sym (along_append f 0 (xs ++ ys) zs ∙ ap (λ front. front ++ along f (0 + length (xs ++ ys)) zs) (along_append f 0 xs ys)
    ∙ ap (λ n. along f 0 xs ++ along f n ys ++ along f (0 + length (xs ++ ys)) zs) two ∙ ap (λ n. along f 0 xs ++ along f (length xs) ys ++ along f n zs) three)
