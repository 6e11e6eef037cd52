-- Records keep to their limits as one more is made.
use Rattle.std.proofs.Common.{◌≡◌, ℕ, ◌-◌, ◌<◌, ◌^◌, List, [], ◌∷◌, ◌++◌, subst, sym, arith}
use Rattle.std.proofs.lemmas.List.Elements.{All-push, All-same}
use Rattle.sg_base.specs.declared.call.Answer.{Answer}
use Rattle.sg_base.specs.declared.call.Answer.TheVariants as answer
use Rattle.sg_base.specs.declared.call.Call.{Call}
use Rattle.sg_base.specs.declared.ids.ActorId.{ActorId}
use Rattle.sg_base.specs.declared.trace_record.Record.{Record}
use Rattle.sg_base.specs.Limits.{Extent, IsActorIn, IsAmount, IsEnd}
use Rattle.sg_actor_states.specs.Records.{end_by, record_of, IsRecord, IsTellable, AreRecords}

end_limited : (a : Answer) (n : ℕ) → n < 10 ^ 33 → IsEnd (end_by a n)
end_limited answer.Start n h = h
end_limited (answer.Act action) n h = h
end_limited answer.NoMore n h = h
end_limited answer.Done n h = h
end_limited (answer.Got message) n h = h
end_limited answer.Refused n h = tt
end_limited answer.Failed n h = tt

-- the record of a call that is answered now
pub record_limited : (extent : Extent) (actor : ActorId) (what : Call) (since bytes : ℕ) (a : Answer) (date : ℕ) → IsActorIn extent actor → IsTellable extent what → IsAmount bytes → date < 10 ^ 33 → IsRecord extent (record_of actor.0 what since bytes a date)
record_limited extent actor what since bytes a date is told few below = record {
  actor = is;
  what = told;
  date = below;
  bytes = few;
  end = end_limited a (date - since) (omega (arith, below));
}

-- one more record is made
pub records_more : (extent : Extent) (records more : List Record) (r made : Record) → more ≡ records ++ r ∷ [] → r ≡ made → IsRecord extent made → AreRecords extent records → AreRecords extent more
records_more extent records more r made all is limited old =
    All-same (IsRecord extent) more (records ++ r ∷ []) all (All-push (IsRecord extent) records r old (subst (IsRecord extent) (sym is) limited))
