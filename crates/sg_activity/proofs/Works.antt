-- The work of bringing rates up to date, whatever the order of the flows.
use Rattle.std.proofs.Common.{◌≡◌, ℕ, zero, suc, ◌+◌, ◌*◌, ◌==◌, Bool, true, false, cond, not, ◌&&◌, ◌||◌, List, [], ◌∷◌, map, length, sum_by, refl, sym, ap, ◌∙◌, arith}
use Rattle.std.specs.List.{list_any}
use Rattle.std.proofs.lemmas.List.Sums.{sum_by-cons}
use Rattle.sg_base.specs.MarkSet.{is_in}
use Rattle.sg_maxmin.specs.Fill.{Flow, is_on}
use Rattle.sg_lazy.specs.Touch.{touches, reach, spread}
use Rattle.sg_lazy.specs.RunningFlow.{RunningFlow}
use Rattle.sg_lazy.specs.Work.{is_marked, is_joined, touched_count, touched_uses, work}

-- whatever is summed up over the flows, and whether they are marked, it is as much
abbrev pub SameRunning : List RunningFlow → List RunningFlow → Type 0
SameRunning running others = (amount : Flow → Bool → ℕ) → sum_by (λ (r : RunningFlow). amount r.flow r.marked) running ≡ sum_by (λ (r : RunningFlow). amount r.flow r.marked) others

one : Bool → ℕ
one b = cond b 1 0

pub any_counts : {X : Type 0} (p : X → Bool) (xs : List X) → list_any p xs ≡ not (sum_by (λ x. cond (p x) 1 0) xs == 0)
any_counts p [] = refl
any_counts p (x ∷ xs) = any_more (p x) (list_any p xs) (sum_by (λ z. cond (p z) 1 0) xs) (sum_by (λ z. cond (p z) 1 0) (x ∷ xs)) (any_counts p xs) (sum_by-cons (λ z. cond (p z) 1 0) x xs)
  where
    any_more : (b c : Bool) (n m : ℕ) → c ≡ not (n == 0) → m ≡ cond b 1 0 + n → (b || c) ≡ not (m == 0)
    any_more true c n m e f = grind arith
    any_more false c n m e f = e ∙ ap (λ k. not (k == 0)) (let g : n ≡ m = omega (arith, f) in g)

pub any_same : {X : Type 0} (p q : X → Bool) (xs : List X) → ((x : X) → p x ≡ q x) → list_any p xs ≡ list_any q xs
any_same p q [] e = refl
any_same p q (x ∷ xs) e = ap (λ b. b || list_any p xs) (e x) ∙ ap (λ b. q x || b) (any_same p q xs e)

sum_same : {X : Type 0} (f h : X → ℕ) (xs : List X) → ((x : X) → f x ≡ h x) → sum_by f xs ≡ sum_by h xs
sum_same f h [] e = refl
sum_same f h (x ∷ xs) e = omega (arith, sum_by-cons f x xs, sum_by-cons h x xs, e x, sum_same f h xs e)

pub any_mapped : {X Y : Type 0} (p : Y → Bool) (f : X → Y) (xs : List X) → list_any p (map f xs) ≡ list_any (λ x. p (f x)) xs
any_mapped p f [] = refl
any_mapped p f (x ∷ xs) = ap (λ b. p (f x) || b) (any_mapped p f xs)

ones : {X : Type 0} (xs : List X) → sum_by (λ x. 1) xs ≡ length xs
ones [] = refl
ones (x ∷ xs) = omega (arith, sum_by-cons (λ z. 1) x xs, ones xs)

abbrev flows_of : List RunningFlow → List Flow
flows_of running = map (λ (r : RunningFlow). r.flow) running

module _ (running others : List RunningFlow) (same : SameRunning running others) where
  any_alike : (t : Flow → Bool → Bool) → list_any (λ (r : RunningFlow). t r.flow r.marked) running ≡ list_any (λ (r : RunningFlow). t r.flow r.marked) others
  any_alike t =
      any_counts (λ (r : RunningFlow). t r.flow r.marked) running
      ∙ ap (λ n. not (n == 0)) (same (λ f b. cond (t f b) 1 0))
      ∙ sym (any_counts (λ (r : RunningFlow). t r.flow r.marked) others)

  reach_same : (n : ℕ) (first first' : ℕ → Bool) → ((c : ℕ) → first c ≡ first' c) → (c : ℕ) → reach n (flows_of running) first c ≡ reach n (flows_of others) first' c
  unfolding reach spread
  reach_same zero first first' e c = e c
  reach_same (suc n) first first' e c =
      let flows = flows_of running in
      let flows' = flows_of others in
      let rest = reach_same n first first' e in
      ap (λ b. b || list_any (λ f. is_on c f && touches (reach n flows first) f) flows) (rest c)
      ∙ ap (λ b. reach n flows' first' c || b)
      (any_mapped (λ f. is_on c f && touches (reach n flows first) f) (λ (r : RunningFlow). r.flow) running
      ∙ any_alike (λ f b. is_on c f && touches (reach n flows first) f)
      ∙ any_same (λ (r : RunningFlow). is_on c r.flow && touches (reach n flows first) r.flow) (λ (r : RunningFlow). is_on c r.flow && touches (reach n flows' first') r.flow) others (λ r. ap (λ b. is_on c r.flow && b) (any_same (reach n flows first) (reach n flows' first') r.flow.uses rest))
      ∙ sym (any_mapped (λ f. is_on c f && touches (reach n flows' first') f) (λ (r : RunningFlow). r.flow) others))

  lengths : length running ≡ length others
  lengths = sym (ones running) ∙ same (λ f b. 1) ∙ ones others

  joined : (ended : List Flow) (resources : List ℕ) (f : Flow) → touches (reach (length running) (flows_of running) (is_marked running ended resources)) f ≡ touches (reach (length others) (flows_of others) (is_marked others ended resources)) f
  joined ended resources f =
      ap (λ n. touches (reach n (flows_of running) (is_marked running ended resources)) f) lengths
      ∙ any_same (reach (length others) (flows_of running) (is_marked running ended resources)) (reach (length others) (flows_of others) (is_marked others ended resources)) f.uses
      (reach_same (length others) (is_marked running ended resources) (is_marked others ended resources) (λ c. ap (λ b. b || (list_any (is_on c) ended || is_in c resources)) (any_alike (λ g b. b && is_on c g))))

  sums_alike : (ended : List Flow) (resources : List ℕ) (amount : Flow → Bool → ℕ) → sum_by (λ r. amount r.flow (is_joined running ended resources r)) running ≡ sum_by (λ r. amount r.flow (is_joined others ended resources r)) others
  unfolding is_joined
  sums_alike ended resources amount =
      same (λ f b. amount f (b || touches (reach (length running) (flows_of running) (is_marked running ended resources)) f))
      ∙ sum_same (λ (r : RunningFlow). amount r.flow (r.marked || touches (reach (length running) (flows_of running) (is_marked running ended resources)) r.flow)) (λ (r : RunningFlow). amount r.flow (r.marked || touches (reach (length others) (flows_of others) (is_marked others ended resources)) r.flow)) others
      (λ r. ap (λ b. amount r.flow (r.marked || b)) (joined ended resources r.flow))

  pub work_same : (ended : List Flow) (resources : List ℕ) → work running ended resources ≡ work others ended resources
  unfolding work
  work_same ended resources =
      let count : touched_count running ended resources ≡ touched_count others ended resources = ap (λ n. length ended + n) (sums_alike ended resources (λ f b. cond b 1 0)) in
      let uses : touched_uses running ended resources ≡ touched_uses others ended resources = ap (λ n. sum_by (λ flow. length flow.uses) ended + n) (sums_alike ended resources (λ f b. cond b (length f.uses) 0)) in
      ap (λ n. 4 * (n + 1) * (n + touched_uses running ended resources)) count ∙ ap (λ n. 4 * (touched_count others ended resources + 1) * (touched_count others ended resources + n)) uses
