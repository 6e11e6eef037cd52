-- What happens to the rings as a node is added, and as a slot leaves or joins.
use Rattle.std.proofs.Common.{◌≡◌, ◌≢◌, ◌<◌, ◌+◌, ◌^◌, ◌∙◌, inl, inr, sym, ap, subst, subst₂, refl, ℕ, true, cond, eqb, List, [], ◌∷◌, ◌++◌, length, Some, arith}
use Rattle.std.proofs.Math.Path.{fun_ext}
use Rattle.std.proofs.lemmas.Bool.{cases_eq, cases_lt, or_parts, false≢true}
use Rattle.std.proofs.lemmas.List.{length-map, length_push, get_or-map, get_or_append_left, get_or_push, ext_get_or}
use Rattle.std.proofs.lemmas.List.Folds.{list_any-append}
use Rattle.sg_queues.specs.Rings.{Rings, is_in, queue_at, front, behind, joined, left, rows_of, without, IsAlone, IsSlot}
use Rattle.sg_queues.specs.kept.Links.{at, head_at, Path, ring, queues_of, AreInverse, AreLinked, IsExchanged, AreRings}
use Rattle.sg_queues.proofs.Lists.{map_at, read_grown}
use Rattle.sg_queues.proofs.Paths.{put_in, stays, taken_out, walked}
use Rattle.sg_queues.proofs.Rows.{alone_joined, alone_left, joined_at, is_head, one_row, short, head_apart, apart_grown, apart_headed, apart_joined, apart_left}

-- what contracts see
abbrev seen : ℕ → List ℕ → List (List ℕ) → Rings
seen nodes heads rows = record { nodes = nodes; heads = heads; idle = queue_at rows 0; queues = behind rows }

-- one more node, which leads to itself, changes no link
at_grown : (links : List ℕ) (n : ℕ) → length links ≡ n → at (links ++ n ∷ []) ≡ at links
at_grown links n len = fun_ext (λ node. read_grown links n node node (λ is. sym len ∙ sym is))

pub none : AreRings [] [] [] []
none = record {
  links = record { len = refl; few = omega arith; inverse = record { forth = λ node. refl; back = λ node. refl } };
  paths = λ row below. absurd (omega (arith, below));
  alone = λ slot no_head absent. refl;
  apart = record {
    count = refl;
    below = λ head is. absurd (false≢true is);
    distinct = λ i j d less below. absurd (omega (arith, below));
    slots = λ row slot there. absurd (false≢true there);
    once = λ row i j d less below. absurd (omega (arith, below));
    apart = λ p q slot p_in q_in. absurd (false≢true p_in);
  };
}

first_of : (next : ℕ → ℕ) (head : ℕ) (nodes : List ℕ) → Path next head nodes head → next head ≢ head → front nodes ≡ Some (next head)
first_of next head [] path other = absurd (other path)
first_of next head (node ∷ nodes) path other = ap (λ n. Some n) (sym path.0)

module _ {next prev heads : List ℕ} {rows : List (List ℕ)} (kept : AreRings next prev heads rows) where
  -- what is walked are the rows
  pub walked_are : queues_of next heads ≡ rows
  walked_are =
      ext_get_or [] (queues_of next heads) rows (length-map heads (ring next) ∙ sym kept.apart.count)
      (λ row below.
      let within : row < length heads = omega (arith, below, length-map heads (ring next)) in
      let head : ℕ = head_at heads row in
      get_or-map (ring next) heads row 0 [] within
      ∙ walked (at next) head (queue_at rows row) head (length next) (kept.paths row within) (head_apart kept.apart row head (is_head heads row within)) (short kept.apart row))

  pub as_walked : AreRings next prev heads (queues_of next heads)
  as_walked = subst (AreRings next prev heads) (sym walked_are) kept

  pub seen_is : {nodes : ℕ} → length next ≡ nodes → seen (length next) heads (queues_of next heads) ≡ seen nodes heads rows
  seen_is {nodes = nodes} count = ap (λ n. seen n heads (queues_of next heads)) count ∙ ap (seen nodes heads) walked_are

  pub head_within : (row head : ℕ) → row < length heads → head ≡ head_at heads row → head < length next
  head_within row head below head_is = kept.apart.below head (ap (λ h. is_in h heads) head_is ∙ is_head heads row below)

  -- the first of a row is where its head leads to
  pub first_is : (row first head : ℕ) → row < length heads → head ≡ head_at heads row → first ≡ at next head → first ≢ head → Some first ≡ front (queue_at rows row)
  first_is row first head below head_is first_at other =
      let path : Path (at next) head (queue_at rows row) head = rw head_is (kept.paths row below) in
      ap (λ n. Some n) first_at ∙ sym (first_of (at next) head (queue_at rows row) path (λ e. other (first_at ∙ e)))

  pub links_grown : length next < 2 ^ 32 → AreLinked (next ++ length next ∷ []) (prev ++ length next ∷ [])
  links_grown few = record {
    len = length_push prev (length next) ∙ ap (λ m. m + 1) kept.links.len ∙ sym (length_push next (length next));
    few = omega (arith, few, length_push next (length next));
    inverse = subst₂ AreInverse (sym (at_grown next (length next) refl)) (sym (at_grown prev (length next) kept.links.len)) kept.links.inverse;
  }

  with_slot : length next < 2 ^ 32 → AreRings (next ++ length next ∷ []) (prev ++ length next ∷ []) heads rows
  with_slot few = record {
    links = links_grown few;
    paths = subst (λ (f : ℕ → ℕ). (row : ℕ) → row < length heads → Path f (head_at heads row) (queue_at rows row) (head_at heads row)) (sym (at_grown next (length next) refl)) kept.paths;
    alone = λ slot no_head absent. ap (λ f. f slot) (at_grown next (length next) refl) ∙ kept.alone slot no_head absent;
    apart = rw (length_push next (length next)) (apart_grown kept.apart);
  }

  pub with_queue : length next < 2 ^ 32 → AreRings (next ++ length next ∷ []) (prev ++ length next ∷ []) (heads ++ length next ∷ []) (rows ++ [] ∷ [])
  with_queue few = record {
    links = links_grown few;
    paths = λ row below. elim (cases_lt row (length heads)) [
      | inl within ↦ rw (get_or_append_left heads (length next ∷ []) 0 row within, get_or_append_left rows ([] ∷ []) [] row (omega (arith, within, kept.apart.count))) ((with_slot few).paths row within)
      | inr past ↦
          let last : length heads ≡ row = omega (arith, below, past, length_push heads (length next)) in
          rw (get_or_push heads (length next) 0 row last, get_or_push rows [] [] row (kept.apart.count ∙ last)) (get_or_push next (length next) (length next) (length next) refl)
    ];
    alone = λ slot no_head absent.
        (with_slot few).alone slot (or_parts (is_in slot heads) (is_in slot (length next ∷ [])) (sym (list_any-append (eqb slot) heads (length next ∷ [])) ∙ no_head)).0 (λ row. ap (is_in slot) (sym (read_grown rows [] [] row (λ is. refl))) ∙ absent row);
    apart = rw (length_push next (length next)) (apart_headed kept.apart);
  }

  pub with_node : {next' prev' : List ℕ} → length next < 2 ^ 32 → next' ≡ next ++ length next ∷ [] → prev' ≡ prev ++ length next ∷ [] → AreRings next' prev' heads rows
  with_node few next_is prev_is = rw (next_is, prev_is) (with_slot few)

  pub with_head : {next' prev' heads' : List ℕ} → length next < 2 ^ 32 → next' ≡ next ++ length next ∷ [] → prev' ≡ prev ++ length next ∷ [] → heads' ≡ heads ++ length next ∷ [] → AreRings next' prev' heads' (rows ++ [] ∷ [])
  with_head few next_is prev_is heads_is = rw (next_is, prev_is, heads_is) (with_queue few)

  pub with_left : {next' prev' : List ℕ} (slot : ℕ) → IsSlot (length next) heads slot → AreLinked next' prev' → IsExchanged next next' (at prev slot) slot → AreRings next' prev' heads (left slot rows)
  with_left {next' = next'} slot slot_is links ex = record {
    links = links;
    paths = λ r below.
        let from : ℕ = head_at heads r in
        let apart : from ≢ slot = λ same. false≢true (sym slot_is.moves ∙ ap (λ h. is_in h heads) (sym same) ∙ is_head heads r below) in
        subst (λ (l : List ℕ). Path (at next') from l from) (sym (map_at (without slot) [] rows r)) (taken_out kept.links slot ex from (queue_at rows r) from apart apart (kept.paths r below));
    alone = λ node no_head absent. elim (cases_eq node slot) [
      | inl is ↦ ap (at next') is ∙ ex.at_b ∙ kept.links.inverse.forth slot ∙ sym is
      | inr other ↦
          let was : at next node ≡ node = kept.alone node no_head (alone_left node slot rows other absent) in
          stays kept.links slot slot node ex (λ leads. other (sym was ∙ leads)) other ∙ was
    ];
    apart = rw ex.len (apart_left kept.apart slot);
  }

  pub with_joined : {next' prev' : List ℕ} (slot row head : ℕ) → IsSlot (length next) heads slot → IsAlone slot rows → row < length heads → head ≡ head_at heads row → AreLinked next' prev' → IsExchanged next next' (at prev head) slot
      → AreRings next' prev' heads (joined slot row rows)
  with_joined {next' = next'} slot row head slot_is alone below head_is links ex =
      let in_rows : row < length rows = omega (arith, below, kept.apart.count) in
      let is : is_in head heads ≡ true = ap (λ h. is_in h heads) head_is ∙ is_head heads row below in
      record {
        links = links;
        paths = λ r r_below.
            let from : ℕ = head_at heads r in
            subst (λ (l : List ℕ). Path (at next') from l from)
            (ap (λ b. queue_at rows r ++ cond b (slot ∷ []) []) (ap (eqb from) head_is ∙ one_row heads r row kept.apart.distinct r_below below) ∙ sym (joined_at slot row rows r in_rows))
            (put_in kept.links slot head ex (kept.alone slot slot_is.moves alone) from (queue_at rows r) from (λ same. false≢true (sym slot_is.moves ∙ ap (λ h. is_in h heads) (sym same) ∙ is_head heads r r_below))
            (alone r) (head_apart kept.apart r head is) (kept.paths r r_below));
        alone = λ node no_head absent.
            let old = alone_joined node slot row rows in_rows absent in
            let was : at next node ≡ node = kept.alone node no_head old.1 in
            stays kept.links head slot node ex (λ leads. false≢true (sym no_head ∙ ap (λ h. is_in h heads) (sym was ∙ leads) ∙ is)) old.0 ∙ was;
        apart = rw ex.len (apart_joined kept.apart slot row slot_is alone in_rows);
      }

-- the number of a queue has its head
pub head_below : (next heads : List ℕ) (now : Rings) (queue : ℕ) → seen (length next) (0 ∷ heads) (queues_of next (0 ∷ heads)) ≡ now → queue < length now.queues → queue < length heads
head_below next heads now queue is below = omega (arith, below, ap (λ (r : Rings). length r.queues) is, length-map heads (ring next))

pub alone_as : {now then : Rings} (slot : ℕ) → now ≡ then → IsAlone slot (rows_of then) → IsAlone slot (rows_of now)
alone_as slot is = subst (λ (r : Rings). IsAlone slot (rows_of r)) (sym is)
