-- The lines of the end, as the definition lists them and as the code puts them.
use Rattle.std.proofs.Common.{◌≡◌, ◌∙◌, ap, ap₂, refl, ℕ, ◌+◌, ◌++◌, Bool, true, false, cond, List, [], ◌∷◌, Option, None, Some}
use Rattle.std.specs.Prelude.{filter_map, slice_index_or}
use Rattle.std.specs.List.{cons_option, enumerate_from, flat_map}
use Rattle.std.proofs.lemmas.Grind.{flat_map-append}
use Rattle.std.proofs.lemmas.List.{append-nil}
use Rattle.sg_kernel_calls.specs.World.{Core}
use Rattle.sg_platform_rows.specs.Deployment.{Deployed}
use Rattle.sg_platform_rows.specs.Platform.{Platform}
use Rattle.sg_platform_rows.specs.declared.rows.HostRow.{HostRow}
use Rattle.sg_actor_states.specs.declared.state.Actor.{Actor}
use Rattle.sg_trace.specs.Ending.{ending_of}
use Rattle.sg_trace.specs.declared.last.Last.{Last}
use Rattle.sg_engine.specs.Output.{lasts, energies_used, energy_last, last_lines, stuck, stuck_last}
use Rattle.sg_engine.specs.declared.report.Lasts.{Lasts}
use Rattle.sg_engine.specs.kept.Listed.{all_energy, energy_lines, how_lines, lasts_of, line_if, listed, stuck_lines}

module _ (platform : Platform) (deployed : Deployed) where
  lines : List Last → List ℕ
  lines told = flat_map (λ what. ending_of what platform deployed) told

  line_then : (told : Option Last) (rest : List Last) → lines (cons_option told rest) ≡ line_if platform deployed told ++ lines rest
  unfolding lines
  line_then None rest = refl
  line_then (Some what) rest = refl

  stuck_same : (id : ℕ) (actors : List Actor) → lines (filter_map (λ p. stuck_last p.0 p.1) (enumerate_from id actors)) ≡ stuck_lines platform deployed id actors
  unfolding lines
  stuck_same id [] = refl
  stuck_same id (actor ∷ more) =
      line_then (stuck_last id actor) (filter_map (λ p. stuck_last p.0 p.1) (enumerate_from (id + 1) more))
      ∙ ap (λ l. line_if platform deployed (stuck_last id actor) ++ l) (stuck_same (id + 1) more)

  energy_same : (energies : List ℕ) (host : ℕ) (rows : List HostRow) →
      lines (filter_map (λ p. energy_last p.0 p.1 (slice_index_or energies p.0 0)) (enumerate_from host rows)) ≡ energy_lines platform deployed energies host rows
  unfolding lines
  energy_same energies host [] = refl
  energy_same energies host (row ∷ rows) =
      line_then (energy_last host row (slice_index_or energies host 0)) (filter_map (λ p. energy_last p.0 p.1 (slice_index_or energies p.0 0)) (enumerate_from (host + 1) rows))
      ∙ ap (λ l. line_if platform deployed (energy_last host row (slice_index_or energies host 0)) ++ l) (energy_same energies (host + 1) rows)

  listed_same : (told : Option Last) → lines (listed told) ≡ line_if platform deployed told
  unfolding lines
  listed_same None = refl
  listed_same (Some what) = append-nil (ending_of what platform deployed)

  lines-append : (front back : List Last) → lines (front ++ back) ≡ lines front ++ lines back
  unfolding lines
  lines-append front back = flat_map-append (λ what. ending_of what platform deployed) front back

  stuck_if : (told : Bool) (actors : List Actor) → lines (cond told (stuck actors) []) ≡ cond told (stuck_lines platform deployed 1 actors) []
  unfolding lines
  stuck_if true actors = stuck_same 1 actors
  stuck_if false actors = refl

  last_then : (what : Last) (more : List Last) → lines (what ∷ more) ≡ ending_of what platform deployed ++ lines more
  unfolding lines
  last_then what more = refl

  how_same : (core : Core) (told : Lasts) → lines (lasts_of core told) ≡ how_lines platform deployed core told
  how_same core told =
      lines-append (listed told.ahead) (told.last ∷ cond told.stuck (stuck core.actors) [])
      ∙ ap₂ (λ a b. a ++ b) (listed_same told.ahead)
      (last_then told.last (cond told.stuck (stuck core.actors) []) ∙ ap (λ l. ending_of told.last platform deployed ++ l) (stuck_if told.stuck core.actors))

  -- how a run has ended, and then the energies
  pub last_parts : (core : Core) (told : Lasts) → last_lines platform deployed core (lasts (lasts_of core told)) ≡ how_lines platform deployed core told ++ all_energy platform deployed core
  unfolding lines
  last_parts core told =
      lines-append (lasts_of core told) (energies_used core.under.energy platform.hosts)
      ∙ ap₂ (λ a b. a ++ b) (how_same core told) (energy_same core.under.energy 0 platform.hosts)
