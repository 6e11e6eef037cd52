-- What the fetches of a run need in all.
use Rattle.std.proofs.Common.{◌≡◌, ◌<◌, ◌≤◌, ◌∙◌, zero, suc, ap, subst, refl, ℕ, List, [], ◌++◌, length, inl, inr, arith, append_assoc, length-append}
use Rattle.std.proofs.lemmas.Bool.{cases_lt}
use Rattle.sg_edge.specs.Sources.{Source}
use Rattle.sg_edge.specs.declared.files.Stage.{Stage}
use Rattle.sg_script.specs.Fetched.{fetches_of, one_more}
use Rattle.sg_script.specs.Known.{ScriptNames}
use Rattle.sg_script.specs.Laws.{NeedIsMost, NeedsAddUp}
use Rattle.sg_script.specs.Needed.{greatest, need_of, needed_by}
use Rattle.sg_script.specs.Rest.{GoesOn}
use Rattle.sg_script.specs.Stands.{AreNeeded, IsWithinNeed}
use Rattle.sg_script.proofs.Chains.{may_back}
use Rattle.sg_script.proofs.Counting.{has_fetched, one_more_made, one_more_rises}

greatest_at : (n : ℕ) (value : ℕ → ℕ) (i : ℕ) → i < n → value i ≤ greatest n value
greatest_at zero value i below = absurd (omega (arith, below))
greatest_at (suc n) value i below = elim (cases_lt i n) [
  | inl lt ↦ omega (arith, greatest_at n value i lt)
  | inr le ↦
      let same : i ≡ n = omega (arith, below, le) in
      omega (arith, ap value same)
]

-- each fetch needs no more than all of them
pub one_needs : (known : ScriptNames) (source : Source) (fetched : List ℕ) (actor earlier : ℕ) → earlier < fetches_of fetched actor → need_of known source actor earlier ≤ needed_by known source fetched
one_needs known source fetched actor earlier made =
    omega (
      arith,
      greatest_at (fetches_of fetched actor) (λ i. need_of known source actor i) earlier made,
      greatest_at (length fetched) (λ a. greatest (fetches_of fetched a) (λ i. need_of known source a i)) actor (has_fetched fetched actor earlier made),
    )

pub most : NeedIsMost
most known source fetched count (inl nothing) = omega (arith, nothing)
most known source fetched count (inr needs) = omega (arith, needs.few, one_needs known source fetched needs.actor needs.earlier needs.made)

-- more fetches need no less
pub within_more : (known : ScriptNames) (source : Source) (fetched more : List ℕ) (count : ℕ) → ((x : ℕ) → fetches_of fetched x ≤ fetches_of more x) → IsWithinNeed known source fetched count → IsWithinNeed known source more count
within_more known source fetched more count each (inl nothing) = inl nothing
within_more known source fetched more count each (inr needs) = inr (record {
  actor = needs.actor;
  earlier = needs.earlier;
  made = omega (arith, needs.made, each needs.actor);
  few = needs.few;
})

pub add_up : NeedsAddUp
add_up known taken piece fetched actor old new reads needed near source goes = elim (near source goes) [
  | inl none ↦
      let before : GoesOn taken old.stage source = record {
        rest = piece ++ goes.rest;
        bytes = goes.bytes ∙ append_assoc taken piece goes.rest;
        may = may_back old.stage new.stage piece goes.rest source.broken reads.stayed goes.may;
      } in
      let same : length taken ≡ length (taken ++ piece) = omega (arith, length-append taken piece, ap length none) in
      subst (IsWithinNeed known source (one_more actor fetched)) same (within_more known source fetched (one_more actor fetched) (length taken) (one_more_rises actor fetched) (needed source before))
  | inr few ↦ inr (record { actor = actor; earlier = fetches_of fetched actor; made = one_more_made actor fetched; few = few })
]

-- nothing was taken
pub needed_none : (known : ScriptNames) (stage : Stage) (fetched : List ℕ) → AreNeeded known [] stage fetched
needed_none known stage fetched source goes = inl refl
