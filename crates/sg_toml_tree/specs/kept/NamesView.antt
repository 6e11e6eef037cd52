-- What the code has collected of the names of a tree.
use Rattle.std.specs.HashMap.{get_by, get_by_text}
use Rattle.sg_toml_tree.specs.Names.{Known}
use Rattle.sg_toml_tree.specs.declared.names.Names.{Names}
use Rattle.sg_toml_tree.specs.NameSpaces.{pair_eq}

-- what the code has collected
abbrev pub names_view : Names → Known
names_view names = record {
  zones = names.zones;
  hosts = names.hosts;
  points = λ q. get_by_text names.points q;
  taken = λ q. get_by_text names.taken q;
  links = λ q. get_by_text names.links q;
  pairs = λ q. get_by (pair_eq q) names.pairs;
  zone_pairs = λ q. get_by (pair_eq q) names.zone_pairs;
  children = λ q. get_by_text names.children q;
  profiled_hosts = λ q. get_by_text names.profiles.hosts q;
  profiled_links = λ q. get_by_text names.profiles.links q;
  switched_hosts = λ q. get_by_text names.state_profiles.hosts q;
  switched_links = λ q. get_by_text names.state_profiles.links q;
  actors = λ q. get_by_text names.actors q;
  workers = λ q. get_by_text names.workers q;
  mutexes = λ q. get_by_text names.mutexes q;
  semaphores = λ q. get_by_text names.semaphores q;
}
