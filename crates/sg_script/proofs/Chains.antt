-- Pieces that are read, one after the other.
use Rattle.std.proofs.Common.{◌≡◌, ◌≢◌, ◌∙◌, sym, ap, refl, ℕ, Bool, true, false, List, [], ◌++◌, inl, inr, arith}
use Rattle.sg_edge.specs.Files.{PartView, before}
use Rattle.sg_edge.proofs.Reading.{before-before, before-nil}
use Rattle.sg_edge.specs.declared.files.Stage.{Stage}
use Rattle.sg_edge.specs.declared.files.Stage.TheVariants.{Fresh, Begun, Over, Broken}
use Rattle.sg_script.specs.Rest.{May}
use Rattle.sg_script.specs.Stands.{Reads}

-- what may still come after a piece may have come before it, with it first
pub may_back : (s t : Stage) (piece rest : List ℕ) (broken : Bool) → (s ≢ Begun → (piece ≡ []) × (t ≡ s)) → May t rest broken → May s (piece ++ rest) broken
may_back Fresh t piece rest broken stayed may = tt
may_back Begun t piece rest broken stayed may = tt
may_back Over t piece rest broken stayed may =
    let (none, same) = stayed (λ e. cc) in
    let may' : (rest ≡ []) × (broken ≡ false) = rw same at may in
    rw none may'
may_back Broken t piece rest broken stayed may =
    let (none, same) = stayed (λ e. cc) in
    let may' : (rest ≡ []) × (broken ≡ true) = rw same at may in
    rw none may'

not_both : (s : Stage) → s ≡ Broken → s ≡ Begun → ⊥
not_both s a b = cc

pub reads_then : (p q : List ℕ) (u v w : PartView) → Reads p u v → Reads q v w → Reads (p ++ q) u w
reads_then p q u v w first second = record {
  name = second.name ∙ first.name;
  left = first.left ∙ ap (before p) second.left ∙ before-before p q w.left;
  broke = λ is. elim (second.broke is) [
    | inl was ↦ elim (first.broke was) [
      | inl at_first ↦ inl at_first
      | inr rose ↦ inr (omega (arith, rose, second.rising))
    ]
    | inr rose ↦ inr (omega (arith, rose, first.rising))
  ];
  sound = λ isnt. second.sound isnt ∙ first.sound (λ was. isnt ((second.stayed (λ (e : v.stage ≡ Begun). not_both v.stage was e)).1 ∙ was));
  rising = omega (arith, first.rising, second.rising);
  stayed = λ isnt.
      let (none, same) = first.stayed isnt in
      let (none', same') = second.stayed (λ e. isnt (sym same ∙ e)) in
      (rw (none, none') refl, same' ∙ same);
  begun = second.begun;
}

-- nothing was read
pub reads_none : (v : PartView) → v.stage ≢ Fresh → Reads [] v v
reads_none v begun = record {
  name = refl;
  left = sym (before-nil v.left);
  broke = λ is. inl is;
  sound = λ isnt. refl;
  rising = omega arith;
  stayed = λ isnt. (refl, refl);
  begun = begun;
}
