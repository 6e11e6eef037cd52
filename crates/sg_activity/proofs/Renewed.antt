-- One more activity is restamped, or dated anew.
use Rattle.std.proofs.Common.{◌≡◌, ◌≢◌, ℕ, ◌+◌, ◌-◌, ◌*◌, ◌^◌, ◌<◌, ◌≤◌, inl, inr, Bool, true, false, not, cond, ◌||◌, ◌&&◌, Option, None, Some, option_map, List, length, get_or, set, take, slice_index, IsTrue, refl, sym, ap, ap₂, ◌∙◌, arith}
use Rattle.std.proofs.lemmas.List.{take_more}
use Rattle.sg_base.specs.MarkSet.{MarkSet, is_in}
use Rattle.sg_heap.specs.Agenda.{Key, key_at}
use Rattle.sg_lazy.specs.Lazily.{Lazily}
use Rattle.sg_lazy.specs.RunningFlow.{RunningFlow, running_at}
use Rattle.sg_activity_table.specs.declared.lives.Live.{Live}
use Rattle.sg_activity_table.specs.Kinds.{takes_share}
use Rattle.sg_activity_table.specs.Pool.{Pool, slot_at}
use Rattle.sg_activity.specs.kept.Stamps.{left_at}
use Rattle.sg_activity.specs.kept.Renewal.{IsKeyed, rate_in, is_among, restamped, is_renewed, AreUnmarked, AreSmall, date_in, AreRenewed, AreRedated}
use Rattle.sg_activity.specs.kept.State.{date_of}
use Rattle.sg_activity.proofs.Listing.{eq_cases, some_same}
use Rattle.sg_activity.proofs.Pairing.{there_within}
use Rattle.sg_activity.proofs.Starts.{set_here, set_there}
use Rattle.sg_activity.proofs.Told.{in_more, in_last}

pub take_self : (xs : List ℕ) (k : ℕ) → k < length xs → is_in (get_or xs k 0) (take (k + 1) xs) ≡ true
take_self xs k h = ap (is_in (get_or xs k 0)) (take_more xs k 0 h) ∙ in_last (get_or xs k 0) (take k xs)

pub take_other : (id : ℕ) (xs : List ℕ) (k : ℕ) → k < length xs → id ≢ get_or xs k 0 → is_in id (take (k + 1) xs) ≡ is_in id (take k xs)
take_other id xs k h ne = ap (is_in id) (take_more xs k 0 h) ∙ in_more (get_or xs k 0) id (take k xs) ne

-- ---- restamped
abbrev stamped_at : List (Option RunningFlow) → ℕ → Live → Live
stamped_at runs date live = record live { kept = left_at live.kept live.rate live.stamp date; stamp = date; rate = rate_in (running_at runs live.flow) }

among_same : (flows others : List ℕ) (live : Live) → (IsTrue (takes_share live.kind) → is_in live.flow flows ≡ is_in live.flow others) → is_among flows live ≡ is_among others live
among_same flows others live same = go (takes_share live.kind) same
  where
    go : (b : Bool) → (IsTrue b → is_in live.flow flows ≡ is_in live.flow others) → (b && is_in live.flow flows) ≡ (b && is_in live.flow others)
    go true h = h refl
    go false h = refl

restamp_same : (flows others : List ℕ) (runs : List (Option RunningFlow)) (date : ℕ) (live : Live) → is_among flows live ≡ is_among others live → restamped flows runs date live ≡ restamped others runs date live
restamp_same flows others runs date live e = ap (λ b. cond b (stamped_at runs date live) live) e

none_gone : (left rate date : ℕ) → left - rate * (date - date) ≡ left
none_gone left rate date = let e : date - date ≡ 0 = omega arith in ap (λ n. left - rate * n) e ∙ none rate
  where
    none : (rate : ℕ) → left - rate * 0 ≡ left
    none rate = omega arith

module _ (changed by_flow : List ℕ) (lazy : Lazily) (date : ℕ) (slots now : List (Option Live)) (i : ℕ) (within : i < length changed) (keyed : IsKeyed slots by_flow lazy date (get_or changed i 0))
    (before : (k : ℕ) → slot_at now k ≡ option_map (restamped (take i changed) lazy.slots date) (slot_at slots k)) where
  abbrev id : ℕ
  id = get_or changed i 0

  abbrev key : ℕ
  key = slice_index by_flow (get_or changed i 0)

  -- the activity of a flow that changed
  pub there_before : slot_at now (slice_index by_flow (get_or changed i 0)) ≡ Some (restamped (take i changed) lazy.slots date keyed.live)
  there_before = before (slice_index by_flow (get_or changed i 0)) ∙ ap (option_map (restamped (take i changed) lazy.slots date)) keyed.there

  pub stamp_before : (restamped (take i changed) lazy.slots date keyed.live).stamp ≤ date
  stamp_before = go (is_among (take i changed) keyed.live)
    where
      go : (b : Bool) → (cond b (stamped_at lazy.slots date keyed.live) keyed.live).stamp ≤ date
      go true = omega arith
      go false = keyed.stamped

  among_now : is_among (take (i + 1) changed) keyed.live ≡ true
  among_now = ap₂ (λ a n. a && is_in n (take (i + 1) changed)) keyed.full keyed.is ∙ take_self changed i within

  again : (rate : ℕ) → rate ≡ rate_in (running_at lazy.slots id) → (b : Bool) → (cur : Live) → cur ≡ cond b (stamped_at lazy.slots date keyed.live) keyed.live →
      record cur { kept = left_at cur.kept cur.rate cur.stamp date; stamp = date; rate = rate } ≡ stamped_at lazy.slots date keyed.live
  again rate is true cur e =
      ap (λ (l : Live). record l { kept = left_at l.kept l.rate l.stamp date; stamp = date; rate = rate }) e
      ∙ ap₂ (λ n r. record keyed.live { kept = n; stamp = date; rate = r }) (none_gone (left_at keyed.live.kept keyed.live.rate keyed.live.stamp date) (rate_in (running_at lazy.slots keyed.live.flow)) date) (is ∙ ap (λ n. rate_in (running_at lazy.slots n)) (sym keyed.is))
  again rate is false cur e =
      ap (λ (l : Live). record l { kept = left_at l.kept l.rate l.stamp date; stamp = date; rate = rate }) e
      ∙ ap (λ r. stamped_with r) (is ∙ ap (λ n. rate_in (running_at lazy.slots n)) (sym keyed.is))
    where
      stamped_with : ℕ → Live
      stamped_with r = record keyed.live { kept = left_at keyed.live.kept keyed.live.rate keyed.live.stamp date; stamp = date; rate = r }

  not_other : (k : ℕ) (other : Live) → k ≢ key → slot_at slots k ≡ Some other → is_among (take (i + 1) changed) other ≡ is_among (take i changed) other
  not_other k other ne at = among_same (take (i + 1) changed) (take i changed) other (λ full. take_other other.flow changed i within (λ e. ne (keyed.alone k other at full e)))

  pub restamped_next : (cur : Live) (rate : ℕ) → slot_at now (slice_index by_flow (get_or changed i 0)) ≡ Some cur → rate ≡ rate_in (running_at lazy.slots (get_or changed i 0)) →
      (k : ℕ) → slot_at (set now (slice_index by_flow (get_or changed i 0)) (Some (record cur { kept = left_at cur.kept cur.rate cur.stamp date; stamp = date; rate = rate }))) k ≡ option_map (restamped (take (i + 1) changed) lazy.slots date) (slot_at slots k)
  restamped_next cur rate at is k = elim (eq_cases k key) [
    | inl e ↦
        ap (slot_at (set now key (Some (record cur { kept = left_at cur.kept cur.rate cur.stamp date; stamp = date; rate = rate })))) e
        ∙ set_here now key (Some (record cur { kept = left_at cur.kept cur.rate cur.stamp date; stamp = date; rate = rate })) (there_within now key cur at)
        ∙ ap Some (again rate is (is_among (take i changed) keyed.live) cur (some_same (sym at ∙ there_before)) ∙ sym (ap (λ b. cond b (stamped_at lazy.slots date keyed.live) keyed.live) among_now))
        ∙ sym (ap (λ n. option_map (restamped (take (i + 1) changed) lazy.slots date) (slot_at slots n)) e ∙ ap (option_map (restamped (take (i + 1) changed) lazy.slots date)) keyed.there)
    | inr ne ↦ set_there now key k (Some (record cur { kept = left_at cur.kept cur.rate cur.stamp date; stamp = date; rate = rate })) ne ∙ before k ∙ others k ne (slot_at slots k) refl
  ]
    where
      others : (k : ℕ) → k ≢ key → (o : Option Live) → slot_at slots k ≡ o → option_map (restamped (take i changed) lazy.slots date) o ≡ option_map (restamped (take (i + 1) changed) lazy.slots date) o
      others k ne None e = refl
      others k ne (Some other) e = ap Some (sym (restamp_same (take (i + 1) changed) (take i changed) lazy.slots date other (not_other k other ne e)))

  renewed_here : (k : ℕ) → k ≡ key → is_renewed (take (i + 1) changed) (slot_at slots k) ≡ true
  renewed_here k e = ap (λ n. is_renewed (take (i + 1) changed) (slot_at slots n)) e ∙ ap (is_renewed (take (i + 1) changed)) keyed.there ∙ among_now

  renewed_there : (k : ℕ) → k ≢ key → is_renewed (take i changed) (slot_at slots k) ≡ is_renewed (take (i + 1) changed) (slot_at slots k)
  renewed_there k ne = go (slot_at slots k) refl
    where
      go : (o : Option Live) → slot_at slots k ≡ o → is_renewed (take i changed) o ≡ is_renewed (take (i + 1) changed) o
      go None e = refl
      go (Some other) e = sym (not_other k other ne e)

  -- its key isn't marked any more
  pub unmarked_next : (old marks less : List ℕ) → ((k : ℕ) → is_in k marks ≡ (is_in k old && not (is_renewed (take i changed) (slot_at slots k)))) →
      is_in (slice_index by_flow (get_or changed i 0)) less ≡ false → ((k : ℕ) → k ≢ slice_index by_flow (get_or changed i 0) → is_in k less ≡ is_in k marks) →
      (k : ℕ) → is_in k less ≡ (is_in k old && not (is_renewed (take (i + 1) changed) (slot_at slots k)))
  unmarked_next old marks less h gone others k = elim (eq_cases k key) [
    | inl e ↦ ap (λ n. is_in n less) e ∙ gone ∙ sym (and_false (is_in k old)) ∙ ap (λ b. is_in k old && not b) (sym (renewed_here k e))
    | inr ne ↦ others k ne ∙ h k ∙ ap (λ b. is_in k old && not b) (renewed_there k ne)
  ]
    where
      and_false : (b : Bool) → (b && false) ≡ false
      and_false true = refl
      and_false false = refl

  -- it has its date
  pub redated_next : (old dates : List (Option Key)) (live : Live) → slice_index by_flow (get_or changed i 0) < length dates →
      ((k : ℕ) → key_at dates k ≡ cond (is_renewed (take i changed) (slot_at slots k)) (date_in (slot_at now k)) (key_at old k)) →
      (k : ℕ) → key_at (set dates (slice_index by_flow (get_or changed i 0)) (date_of live)) k ≡ cond (is_renewed (take (i + 1) changed) (slot_at slots k)) (date_in (slot_at (set now (slice_index by_flow (get_or changed i 0)) (Some live)) k)) (key_at old k)
  redated_next old dates live long h k = elim (eq_cases k key) [
    | inl e ↦
        ap (key_at (set dates key (date_of live))) e ∙ set_here dates key (date_of live) long
        ∙ sym (ap date_in (ap (slot_at (set now key (Some live))) e ∙ set_here now key (Some live) (there_within now key (restamped (take i changed) lazy.slots date keyed.live) there_before)))
        ∙ ap (λ b. cond b (date_in (slot_at (set now key (Some live)) k)) (key_at old k)) (sym (renewed_here k e))
    | inr ne ↦
        set_there dates key k (date_of live) ne ∙ h k
        ∙ ap (λ o. cond (is_renewed (take i changed) (slot_at slots k)) (date_in o) (key_at old k)) (sym (set_there now key k (Some live) ne))
        ∙ ap (λ b. cond b (date_in (slot_at (set now key (Some live)) k)) (key_at old k)) (renewed_there k ne)
  ]

  -- what is left of it is small
  pub left_small : (cur : Live) → slot_at now (slice_index by_flow (get_or changed i 0)) ≡ Some cur → AreSmall slots → left_at cur.kept cur.rate cur.stamp date ≤ 10 ^ 24
  left_small cur at small =
      let less = go (is_among (take i changed) keyed.live) in
      let same : cur.kept ≡ (restamped (take i changed) lazy.slots date keyed.live).kept = ap (λ (l : Live). l.kept) (some_same (sym at ∙ there_before)) in
      omega (arith, less, same, (small key keyed.live keyed.there).amount)
    where
      go : (b : Bool) → (cond b (stamped_at lazy.slots date keyed.live) keyed.live).kept ≤ keyed.live.kept
      go true = omega arith
      go false = omega arith

-- ---- dated anew
pub dated_next : (old now : List (Option Key)) (slots : List (Option Live)) (keys : List ℕ) (i : ℕ) (date : Option Key) → i < length keys → get_or keys i 0 < length now → date ≡ date_in (slot_at slots (get_or keys i 0)) →
    ((k : ℕ) → key_at now k ≡ cond (is_in k (take i keys)) (date_in (slot_at slots k)) (key_at old k)) → (k : ℕ) → key_at (set now (get_or keys i 0) date) k ≡ cond (is_in k (take (i + 1) keys)) (date_in (slot_at slots k)) (key_at old k)
dated_next old now slots keys i date within long is h k = elim (eq_cases k (get_or keys i 0)) [
  | inl e ↦
      ap (key_at (set now (get_or keys i 0) date)) e ∙ set_here now (get_or keys i 0) date long ∙ is
      ∙ sym (ap (λ n. cond (is_in n (take (i + 1) keys)) (date_in (slot_at slots n)) (key_at old n)) e ∙ ap (λ b. cond b (date_in (slot_at slots (get_or keys i 0))) (key_at old (get_or keys i 0))) (take_self keys i within))
  | inr ne ↦ set_there now (get_or keys i 0) k date ne ∙ h k ∙ ap (λ b. cond b (date_in (slot_at slots k)) (key_at old k)) (sym (take_other k keys i within ne))
]

-- those that were marked and those whose flows changed have their dates now
pub all_dated : (old mid new : List (Option Key)) (was now : Pool) (marks less : MarkSet) (lazy : Lazily) → AreRedated old mid was now lazy → AreUnmarked was marks less lazy → AreRenewed mid new now.slots less.members →
    (k : ℕ) → key_at new k ≡ cond (is_in k marks.members || is_renewed lazy.changed (slot_at was.slots k)) (date_in (slot_at now.slots k)) (key_at old k)
all_dated old mid new was now marks less lazy redated unmarked renewed k =
    renewed k ∙ ap₂ (λ b o. cond b (date_in (slot_at now.slots k)) o) (unmarked.members k) (redated.dates k)
    ∙ go (is_in k marks.members) (is_renewed lazy.changed (slot_at was.slots k)) (date_in (slot_at now.slots k)) (key_at old k)
  where
    go : (a b : Bool) (x y : Option Key) → cond (a && not b) x (cond b x y) ≡ cond (a || b) x y
    go true true x y = refl
    go true false x y = refl
    go false true x y = refl
    go false false x y = refl
