-- Lists that elements leave, each of which has a number.
use Rattle.std.proofs.Common.{◌≡◌, ◌≢◌, ◌<◌, ◌∙◌, inl, inr, sym, ap, refl, ℕ, zero, suc, Bool, true, false, not, ◌||◌, eqb, List, [], ◌∷◌, ◌++◌, length, get_or, set, Some, arith}
use Rattle.std.specs.Prelude.{All, AllPairs, map, filter}
use Rattle.std.specs.List.{list_any}
use Rattle.std.proofs.lemmas.Bool.{cases_eq, cases_Bool, cases_order, eq-eqb, ne_eqb, false≢true}
use Rattle.std.proofs.lemmas.List.{length-append, length-map, length-set, get_or-set_same, get_or-set_other, get_or_push, get_or_append_left, get_or_past, map-set, map_push, ext_get_or}
use Rattle.std.proofs.lemmas.List.Elements.{All-head, All-tail, All-from_get_or}
use Rattle.std.proofs.lemmas.List.Folds.{list_any_at, map_fixed}
use Rattle.sg_queues.specs.Rings.{is_in, queue_at, front, behind, joined, left, without, IsAlone}

-- a list that its default makes longer reads the same
pub read_grown : {X : Type 0} (xs : List X) (y d : X) (i : ℕ) → (i ≡ length xs → y ≡ d) → get_or (xs ++ y ∷ []) i d ≡ get_or xs i d
read_grown xs y d i default = elim (cases_order i (length xs)) [
  | inl is ↦ get_or_push xs y d i (sym is) ∙ default is ∙ sym (get_or_past xs i d (omega (arith, is)))
  | inr apart ↦ elim apart [
    | inl below ↦ get_or_append_left xs (y ∷ []) d i below
    | inr past ↦ get_or_past (xs ++ y ∷ []) i d (omega (arith, past, length-append xs (y ∷ []))) ∙ sym (get_or_past xs i d (omega (arith, past)))
  ]
]

module _ {X : Type 0} where
  pub from_front : (queue : List X) (first : X) → front queue ≡ Some first → queue ≡ first ∷ behind queue
  from_front [] first is = absurd (cc)
  from_front (x ∷ xs) first is = let same : x ≡ first = cc in ap (λ y. y ∷ xs) same

  -- what is so of the first is so of one
  pub front_any : (test : X → Bool) (queue : List X) (first : X) → front queue ≡ Some first → test first ≡ true → list_any test queue ≡ true
  front_any test queue first is passes = rw (from_front queue first is) (ap (λ b. b || list_any test (behind queue)) passes)

  -- if nobody has a number, nobody leaves by it
  pub without_none : (number : X → ℕ) (n : ℕ) (xs : List X) → All (λ x. number x ≢ n) xs → filter (λ x. not (eqb (number x) n)) xs ≡ xs
  without_none number n [] none = refl
  without_none number n (x ∷ xs) none =
      rw (ne_eqb (number x) n (All-head (λ y. number y ≢ n) x xs none)) (ap (λ l. x ∷ l) (without_none number n xs (All-tail (λ y. number y ≢ n) x xs none)))

  -- if numbers differ, the first alone leaves by its number
  pub without_first : (number : X → ℕ) (xs : List X) (first : X) → AllPairs (λ a b. number a ≢ number b) xs → front xs ≡ Some first → filter (λ x. not (eqb (number x) (number first))) xs ≡ behind xs
  without_first number [] first once is = absurd (cc)
  without_first number (x ∷ xs) first once is =
      let same : x ≡ first = cc in
      rw (eq-eqb (number x) (number first) (ap number same))
      (without_none number (number first) xs (λ k d below e. once zero (suc k) d (omega arith) (omega (arith, below)) (ap number same ∙ sym e)))

module _ {X Y : Type 0} where
  -- a list of lists, seen by each of its elements
  pub map_at : (f : X → Y) (d : X) (xs : List X) (p : ℕ) → get_or (map f xs) p (f d) ≡ f (get_or xs p d)
  map_at f d [] p = refl
  map_at f d (x ∷ xs) zero = refl
  map_at f d (x ∷ xs) (suc p) = map_at f d xs p

  pub map_alike : (f g : X → Y) (xs : List X) → All (λ x. f x ≡ g x) xs → map f xs ≡ map g xs
  map_alike f g [] same = refl
  map_alike f g (x ∷ xs) same = ap (λ y. y ∷ map f xs) (All-head (λ y. f y ≡ g y) x xs same) ∙ ap (λ l. g x ∷ l) (map_alike f g xs (All-tail (λ y. f y ≡ g y) x xs same))

  pub filter_map_of : (f : X → Y) (keep : Y → Bool) (xs : List X) → map f (filter (λ x. keep (f x)) xs) ≡ filter keep (map f xs)
  filter_map_of f keep [] = refl
  filter_map_of f keep (x ∷ xs) = elim (cases_Bool (keep (f x))) [
    | inl is ↦ rw is (ap (λ l. f x ∷ l) (filter_map_of f keep xs))
    | inr isnt ↦ rw isnt (filter_map_of f keep xs)
  ]

  -- who leaves all queues leaves what is made of them
  pub left_of : (f : X → Y) (keep : Y → Bool) (queues : List (List X)) → map (map f) (map (filter (λ x. keep (f x))) queues) ≡ map (filter keep) (map (map f) queues)
  left_of f keep [] = refl
  left_of f keep (queue ∷ queues) =
      ap (λ q. q ∷ map (map f) (map (filter (λ x. keep (f x))) queues)) (filter_map_of f keep queue) ∙ ap (λ l. filter keep (map f queue) ∷ l) (left_of f keep queues)

-- the first of a queue, whose number nobody else has, leaves all queues
pub popped : {X : Type 0} (number : X → ℕ) (queues : List (List X)) (queue : ℕ) (first : X) → queue < length queues → front (queue_at queues queue) ≡ Some first
    → AllPairs (λ a b. number a ≢ number b) (queue_at queues queue) → ((other : ℕ) → other ≢ queue → All (λ x. number x ≢ number first) (queue_at queues other))
    → map (filter (λ x. not (eqb (number x) (number first)))) queues ≡ set queues queue (behind (queue_at queues queue))
popped {X} number queues queue first below is once apart =
    let keep : X → Bool = λ x. not (eqb (number x) (number first)) in
    let rest : List X = behind (queue_at queues queue) in
    ext_get_or [] (map (filter keep) queues) (set queues queue rest) (length-map queues (filter keep) ∙ sym (length-set queues queue rest))
    (λ p p_below. map_at (filter keep) [] queues p ∙ elim (cases_eq p queue) [
      | inl same ↦ rw (same, get_or-set_same queues queue rest [] below) (without_first number (queue_at queues queue) first once is)
      | inr other ↦ rw (get_or-set_other queues queue p rest [] other) (without_none number (number first) (queue_at queues p) (apart p other))
    ])

-- ---- a slot that is in no queue
pub none_of : (slot : ℕ) (queue : List ℕ) → is_in slot queue ≡ false → All (λ x. x ≢ slot) queue
none_of slot queue absent k d below same = false≢true (sym absent ∙ list_any_at (eqb slot) queue k d below (eq-eqb slot (get_or queue k d) (sym same)))

pub left_none : (slot : ℕ) (queues : List (List ℕ)) → IsAlone slot queues → left slot queues ≡ queues
left_none slot queues absent =
    map_fixed (without slot) queues (All-from_get_or (λ q. without slot q ≡ q) queues [] (λ q below. without_none (λ x. x) slot (queue_at queues q) (none_of slot (queue_at queues q) (absent q))))

-- a slot comes to the end of a queue, and what is made of it to what is made of the queue
pub joined_of : {Y : Type 0} (f : ℕ → Y) (slot queue : ℕ) (queues : List (List ℕ)) → map (map f) (joined slot queue queues) ≡ set (map (map f) queues) queue (queue_at (map (map f) queues) queue ++ f slot ∷ [])
joined_of f slot queue queues =
    map-set (map f) queues queue (queue_at queues queue ++ slot ∷ [])
    ∙ ap (set (map (map f) queues) queue) (map_push f (queue_at queues queue) slot ∙ ap (λ l. l ++ f slot ∷ []) (sym (map_at (map f) [] queues queue)))
