use Rattle.std.proofs.Common.{◌≡◌, ◌<◌, ℕ, Bool, List, [], ◌∷◌, length, map, refl, sym, ap, subst, ◌∙◌, arith}
use Rattle.std.specs.Prelude.{All}
use Rattle.std.specs.List.{count_by}
use Rattle.std.proofs.lemmas.List.{length-map}
use Rattle.std.proofs.lemmas.List.Elements.{All-map}
use Rattle.sg_platform_rows.specs.declared.network.Network.{Network}
use Rattle.sg_platform_rows.specs.declared.rows.ActorRow.{ActorRow}
use Rattle.sg_platform_rows.specs.declared.rows.LinkRow.{LinkRow}
use Rattle.sg_platform_rows.specs.Deployment.{starts}
use Rattle.sg_platform_rows.specs.Ends.{link_ends}
use Rattle.sg_platform_rows.specs.Network.{IsNetwork}
use Rattle.sg_kernel_calls.specs.Setup.{Setup, capacity_of, home_of, replays}
use Rattle.sg_kernel_calls.specs.kept.Constants.{point_number}
use Rattle.sg_kernel.proofs.setup.make_setup.Goals as goal

homes_first : (actors : List ActorRow) → map point_number (map (λ (actor : ActorRow). actor.host) actors) ≡ map home_of actors
homes_first [] = refl
homes_first (actor ∷ rest) = ap (λ l. actor.host.0 ∷ l) (homes_first rest)

pub invariant_of-result : goal.invariant_of-result
invariant_of-result c =
    let deployed = c.args.deployment.now in
    let homes = ap (map point_number) c.in_ok-homes.ensures ∙ homes_first c.actors-rows.result.now ∙ ap (map home_of) c.actors-rows.ensures.rows in
    let hosts = ap length c.hosts.ensures.rows in
    record {
      homes =
          subst (All (λ home. home < length c.hosts.result.now)) (sym homes)
          (All-map (λ home. home < length c.hosts.result.now) home_of deployed.actors (λ k d within. omega (arith, c.requires k d within, hosts)));
      network = subst IsNetwork (sym c.network.ensures.value) c.rows_are_valid.ensures.network;
      few_actors = omega (arith, ap length homes, length-map deployed.actors home_of, c.actors-rows.ensures.kept.few_actors);
      few_mutexes = omega (arith, ap length c.mutexes.ensures.rows, c.mutexes.ensures.kept.few_mutexes);
    }

abbrev made : ℕ → ℕ → Network → List ℕ → List Bool → ℕ → List ℕ → ℕ → ℕ → Setup
made hosts links network homes starting mutexes semaphores members budget =
    record { hosts = hosts; links = links; network = network; profiles = []; homes = homes; starts = starting; mutexes = mutexes; semaphores = semaphores; members = members; budget = budget }

pub returns : goal.returns
returns c =
    let platform = c.args.platform.now in
    let deployed = c.args.deployment.now in
    let b = c.args.budget in
    let rows = c.actors-rows.ensures.rows in
    let homes = map point_number c.in_ok-homes.homes.items in
    let starting = c.in_ok-starts.starts.items in
    let capacities = c.in_ok-semaphores.semaphores.items in
    let mutexes = length c.mutexes.result.now in
    let h = length platform.hosts in
    let l = length (link_ends platform.links) in
    let w = platform.network in
    let a = map home_of deployed.actors in
    let q = map starts deployed.actors in
    let m = length deployed.mutexes in
    let s = map capacity_of deployed.semaphores in
    let links : c.len-links.result ≡ l = omega (arith, c.len-links.ensures, c.in_ok-link_ends.field-0.ok.0, ap length c.in_ok-link_ends.ensures, ap (λ (r : List LinkRow). length (link_ends r)) c.links.ensures.rows) in
    ap (λ v. made v c.len-links.result c.network.result homes starting mutexes capacities c.members.result b) (ap length c.hosts.ensures.rows)
    ∙ ap (λ v. made h v c.network.result homes starting mutexes capacities c.members.result b) links
    ∙ ap (λ v. made h l v homes starting mutexes capacities c.members.result b) c.network.ensures.value
    ∙ ap (λ v. made h l w v starting mutexes capacities c.members.result b) (ap (map point_number) c.in_ok-homes.ensures ∙ homes_first c.actors-rows.result.now ∙ ap (map home_of) rows)
    ∙ ap (λ v. made h l w a v mutexes capacities c.members.result b) (c.in_ok-starts.ensures ∙ ap (map starts) rows)
    ∙ ap (λ v. made h l w a q v capacities c.members.result b) (ap length c.mutexes.ensures.rows)
    ∙ ap (λ v. made h l w a q m v c.members.result b) (c.in_ok-semaphores.ensures ∙ ap (map capacity_of) c.semaphores.ensures.rows)
    ∙ ap (λ v. made h l w a q m s v b) (c.members.ensures ∙ ap (count_by replays) rows)

pub link_ends-requires : goal.link_ends-requires
link_ends-requires c = omega (arith, c.rows_are_valid.ensures.few_links, ap length c.links.ensures.rows)
