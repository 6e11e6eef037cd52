-- The lines of an expansion are read as its actions.
use Rattle.std.proofs.Common.{◌≡◌, ◌<◌, ◌≤◌, ◌*◌, ◌∙◌, ap, refl, ℕ, Bool, true, false, cond, List, [], ◌∷◌, length, map, get_or, filter, All, Option, None, Some, Ok, Err, codes, decimal, arith, le-ltb}
use Rattle.std.specs.Option.{option_map_or}
use Rattle.std.specs.List.{join_with_byte, list_all, slice_get, slice_split}
use Rattle.std.specs.Prelude.{◌==◌, ok_or, slice_index}
use Rattle.std.proofs.lemmas.List.Elements.{All-cons, All-get_or, All-head, All-map, All-nil, All-tail, All-weaker}
use Rattle.std.proofs.lemmas.List.Sums.{AllPass-from_list_all}
use Rattle.std.proofs.lemmas.Option.{slice_get-get_or}
use Rattle.sg_base.specs.declared.call.Action.{Action}
use Rattle.sg_base.specs.declared.ids.ActorId.{ActorId}
use Rattle.sg_base.specs.Limits.{Extent, IsAction, IsActorIn}
use Rattle.sg_collectives.specs.Actions.{NamesMember, action_of, member}
use Rattle.sg_collectives.specs.Expansion.{expansion}
use Rattle.sg_collectives.specs.Members.{HasAmounts, actions_of as collective_actions, rank_of}
use Rattle.sg_collectives.specs.declared.collective.Collective.{Collective}
use Rattle.sg_collectives.specs.declared.step.Step.{Step}
use Rattle.sg_collectives.specs.declared.step.Step.TheVariants.{Recv, Send, Compute, IRecv, ISend, Wait}
use Rattle.sg_collectives.proofs.Limited.{step_keeps_limits}
use Rattle.sg_collectives.proofs.MemberLemmas.{rank_below, step_names_member}
use Rattle.sg_script.specs.Answer.{is_newline}
use Rattle.sg_script.specs.Known.{ScriptNames}
use Rattle.sg_script.specs.Line.{Judgement, entry_of, is_plain, line_judgement, of_words, text_judgement, then_go, with_action, without_return}
use Rattle.sg_script.specs.Words.{is_blank, words}
use Rattle.sg_script.proofs.WordLemmas.{is_some_word}
use Rattle.sg_script.specs.declared.fault.LineFault.TheVariants as fault
use Rattle.sg_script.specs.declared.operation.Operation.TheVariants.{Alone}
use Rattle.sg_collective_laws.specs.Written.{Naming, expansion_lines, lines_at, step_line, step_words}
use Rattle.sg_collective_laws.proofs.Amounts.{decimal_is_word, reads_decimal}
use Rattle.sg_collective_laws.proofs.Kept.{IsKnown}
use Rattle.sg_collective_laws.proofs.Texts.{IsWord, Lacks, all_joined, is_word_byte, kept_words, no_return, passes_all, plain_is_no_newline, short_joined, split_joined, word_plain, word_whole}

-- ---- a line of words
-- plain words with spaces between them, of which the first begins no comment, are read as these words
pub reads_words : (known : ScriptNames) (word : List ℕ) (more : List (List ℕ)) → All IsWord (word ∷ more) → length more ≤ 3 → (slice_index word 0 == 35) ≡ false →
    line_judgement known (join_with_byte 32 (word ∷ more)) ≡ entry_of known word more
reads_words known word more all few clear =
    let text : List ℕ = join_with_byte 32 (word ∷ more) in
    let plain : All (λ b. is_plain b ≡ true) text =
    all_joined (λ b. is_plain b ≡ true) 32 refl (word ∷ more) (All-weaker IsWord (All (λ b. is_plain b ≡ true)) word_plain (word ∷ more) all) in
    let short : length text ≤ 65 * length (word ∷ more) = short_joined 32 (word ∷ more) (All-weaker IsWord (λ w. length w ≤ 64) (λ w is. is.short) (word ∷ more) all) in
    let cut : slice_split is_blank text ≡ word ∷ more = split_joined is_blank 32 refl word more (All-weaker IsWord (Lacks is_blank) word_whole (word ∷ more) all) in
    let whole : words text ≡ word ∷ more =
    ap (filter is_some_word) cut ∙ kept_words (word ∷ more) (All-weaker IsWord (λ w. 0 < length w) (λ w is. is.some) (word ∷ more) all) in
    ap (λ (b : Bool). cond b (Err fault.TooLong) (text_judgement known (without_return text))) (le-ltb 4096 (length text) (omega arith))
    ∙ ap (text_judgement known) (no_return text plain)
    ∙ (λ i. of_words known (passes_all is_plain text plain i) (whole i))
    ∙ ap (λ (b : Bool). cond b (Ok None) (entry_of known word more)) clear

-- ---- names
-- the name is a word that stands for the actor at the front of a line and later in it
pub record IsNamed (known : ScriptNames) (name : List ℕ) (actor : ActorId) : Type 0 where
  pub word : IsWord name
  pub clear : (slice_index name 0 == 35) ≡ false
  pub means : known.actor name ≡ Some actor

-- every actor that can be named has a name, and each member can be; they exist
pub record AreNamed (known : ScriptNames) (name : Naming) : Type 0 where
  pub named : (actor : ActorId) → IsKnown known actor → IsNamed known (name actor) actor
  pub members : All (IsKnown known) known.members
  pub extent : Extent
  pub exist : All (IsActorIn extent) known.members

-- ---- steps
-- what is read of an action of an actor
abbrev pub entry_for : ActorId → Action → Judgement
entry_for actor action = Ok (Some (record { actor = actor; operation = Alone action }))

verb_is_word : (word : List ℕ) → 0 < length word → length word ≤ 64 → list_all is_word_byte word ≡ true → IsWord word
verb_is_word word some short bytes = record { some = some; short = short; bytes = AllPass-from_list_all is_word_byte word bytes }

one : (a : List ℕ) → IsWord a → All IsWord (a ∷ [])
one a is = All-cons IsWord a [] is (All-nil IsWord)

two : (a b : List ℕ) → IsWord a → IsWord b → All IsWord (a ∷ b ∷ [])
two a b is is' = All-cons IsWord a (b ∷ []) is (one b is')

three : (a b c : List ℕ) → IsWord a → IsWord b → IsWord c → All IsWord (a ∷ b ∷ c ∷ [])
three a b c is is' is'' = All-cons IsWord a (b ∷ c ∷ []) is (two b c is' is'')

recv_word : IsWord (codes "recv")
recv_word = verb_is_word (codes "recv") (omega arith) (omega arith) refl

send_word : IsWord (codes "send")
send_word = verb_is_word (codes "send") (omega arith) (omega arith) refl

compute_word : IsWord (codes "compute")
compute_word = verb_is_word (codes "compute") (omega arith) (omega arith) refl

irecv_word : IsWord (codes "irecv")
irecv_word = verb_is_word (codes "irecv") (omega arith) (omega arith) refl

isend_word : IsWord (codes "isend")
isend_word = verb_is_word (codes "isend") (omega arith) (omega arith) refl

wait_word : IsWord (codes "wait")
wait_word = verb_is_word (codes "wait") (omega arith) (omega arith) refl

module _ (known : ScriptNames) (name : Naming) (are : AreNamed known name) where
  peer_named : (peer : ℕ) → peer < length known.members → IsNamed known (name (member known.members peer)) (member known.members peer)
  peer_named peer below = are.named (member known.members peer) (All-get_or (IsKnown known) known.members peer (record { 0 = 0 }) below are.members)

  step_are_words : (extent : Extent) (step : Step) → NamesMember (length known.members) step → IsAction extent (action_of known.members step) →
      All IsWord (step_words (λ rank. name (member known.members rank)) step)
  step_are_words extent (Recv peer) names limited = two (codes "recv") (name (member known.members peer)) recv_word (peer_named peer names).word
  step_are_words extent (Send peer bytes) names limited =
      three (codes "send") (name (member known.members peer)) (decimal bytes) send_word (peer_named peer names).word (decimal_is_word bytes limited.1)
  step_are_words extent (Compute flops) names limited = two (codes "compute") (decimal flops) compute_word (decimal_is_word flops limited.0)
  step_are_words extent (IRecv peer) names limited = two (codes "irecv") (name (member known.members peer)) irecv_word (peer_named peer names).word
  step_are_words extent (ISend peer bytes) names limited =
      three (codes "isend") (name (member known.members peer)) (decimal bytes) isend_word (peer_named peer names).word (decimal_is_word bytes limited.1)
  step_are_words extent Wait names limited = one (codes "wait") wait_word

  few_words : (step : Step) → length (step_words (λ rank. name (member known.members rank)) step) ≤ 3
  few_words (Recv peer) = omega arith
  few_words (Send peer bytes) = omega arith
  few_words (Compute flops) = omega arith
  few_words (IRecv peer) = omega arith
  few_words (ISend peer bytes) = omega arith
  few_words Wait = omega arith

  -- the words after the actor's name say the action
  words_say : (extent : Extent) (actor : ActorId) (step : Step) → NamesMember (length known.members) step → IsAction extent (action_of known.members step) →
      with_action known actor (step_words (λ rank. name (member known.members rank)) step) ≡ entry_for actor (action_of known.members step)
  words_say extent actor (Recv peer) names limited = let means = (peer_named peer names).means in rw means refl
  words_say extent actor (Send peer bytes) names limited =
      let means = (peer_named peer names).means in let amount = reads_decimal bytes limited.1 in rw (means, amount) refl
  words_say extent actor (Compute flops) names limited = let amount = reads_decimal flops limited.0 in rw amount refl
  words_say extent actor (IRecv peer) names limited = let means = (peer_named peer names).means in rw means refl
  words_say extent actor (ISend peer bytes) names limited =
      let means = (peer_named peer names).means in let amount = reads_decimal bytes limited.1 in rw (means, amount) refl
  words_say extent actor Wait names limited = refl

  -- ---- whole lines
  abbrev IsRead : ActorId → Step → Type 0
  IsRead actor step = line_judgement known (step_line name known.members actor step) ≡ entry_for actor (action_of known.members step)

  abbrev IsPlain : ActorId → Step → Type 0
  IsPlain actor step = Lacks is_newline (step_line name known.members actor step)

  step_read : (extent : Extent) (actor : ActorId) (step : Step) → IsKnown known actor → NamesMember (length known.members) step → IsAction extent (action_of known.members step) →
      IsRead actor step
  step_read extent actor step is names limited =
      let own = are.named actor is in
      let rest : List (List ℕ) = step_words (λ rank. name (member known.members rank)) step in
      let all : All IsWord rest = step_are_words extent step names limited in
      reads_words known (name actor) rest (All-cons IsWord (name actor) rest own.word all) (few_words step) own.clear
      ∙ ap (λ (found : Option ActorId). then_go (ok_or found fault.UnknownActor) (λ a. with_action known a rest)) own.means
      ∙ words_say extent actor step names limited

  step_plain : (extent : Extent) (actor : ActorId) (step : Step) → IsKnown known actor → NamesMember (length known.members) step → IsAction extent (action_of known.members step) →
      IsPlain actor step
  step_plain extent actor step is names limited =
      let rest : List (List ℕ) = step_words (λ rank. name (member known.members rank)) step in
      let all : All IsWord (name actor ∷ rest) = All-cons IsWord (name actor) rest (are.named actor is).word (step_are_words extent step names limited) in
      All-weaker (λ b. is_plain b ≡ true) (λ b. is_newline b ≡ false) plain_is_no_newline (step_line name known.members actor step)
      (all_joined (λ b. is_plain b ≡ true) 32 refl (name actor ∷ rest) (All-weaker IsWord (All (λ b. is_plain b ≡ true)) word_plain (name actor ∷ rest) all))

  -- ---- whole expansions
  all_read : (actor : ActorId) (steps : List Step) → All (IsRead actor) steps →
      map (line_judgement known) (map (step_line name known.members actor) steps) ≡ map (entry_for actor) (map (action_of known.members) steps)
  all_read actor [] all = refl
  all_read actor (step ∷ steps) all =
      let first : line_judgement known (step_line name known.members actor step) ≡ entry_for actor (action_of known.members step) = All-head (IsRead actor) step steps all in
      let behind : map (line_judgement known) (map (step_line name known.members actor) steps) ≡ map (entry_for actor) (map (action_of known.members) steps) = all_read actor steps (All-tail (IsRead actor) step steps all) in
      λ i. first i ∷ behind i

  module _ (actor : ActorId) (is : IsKnown known actor) (collective : Collective) (has : HasAmounts collective) where
    each_step : (P : Step → Type 0) → ((step : Step) → NamesMember (length known.members) step → IsAction are.extent (action_of known.members step) → P step) →
        (rank : ℕ) → rank < length known.members → All P (expansion collective rank (length known.members))
    each_step P holds rank below k d less =
        let steps : List Step = expansion collective rank (length known.members) in
        let at : slice_get steps k ≡ Some (get_or steps k d) = slice_get-get_or steps k d less in
        holds (get_or steps k d) (step_names_member collective rank (length known.members) k (get_or steps k d) below at)
        (step_keeps_limits are.extent known.members collective rank k (get_or steps k d) below at are.exist has)

    at_rank : (rank : Option ℕ) → ((r : ℕ) → rank ≡ Some r → r < length known.members) →
        map (line_judgement known) (lines_at name known.members actor collective rank) ≡ map (entry_for actor) (option_map_or (λ r. map (action_of known.members) (expansion collective r (length known.members))) rank [])
    at_rank None within = refl
    at_rank (Some rank) within =
        all_read actor (expansion collective rank (length known.members))
        (each_step (IsRead actor) (λ step names limited. step_read are.extent actor step is names limited) rank (within rank refl))

    -- the lines of an expansion say its actions
    pub expansion_read : map (line_judgement known) (expansion_lines name known.members actor collective)
        ≡ map (entry_for actor) (collective_actions known.members actor.0 collective)
    unfolding collective_actions
    expansion_read = at_rank (rank_of known.members actor.0) (λ r e. rank_below known.members actor.0 r e)

    plain_at : (rank : Option ℕ) → ((r : ℕ) → rank ≡ Some r → r < length known.members) → All (Lacks is_newline) (lines_at name known.members actor collective rank)
    plain_at None within = All-nil (Lacks is_newline)
    plain_at (Some rank) within =
        All-map (Lacks is_newline) (step_line name known.members actor) (expansion collective rank (length known.members))
        (each_step (IsPlain actor) (λ step names limited. step_plain are.extent actor step is names limited) rank (within rank refl))

    -- and have no newline in them
    pub expansion_plain : All (Lacks is_newline) (expansion_lines name known.members actor collective)
    expansion_plain = plain_at (rank_of known.members actor.0) (λ r e. rank_below known.members actor.0 r e)
