-- The messages after two lists of commits: one message, and lists of ids.
use Rattle.std.proofs.Common.{◌≡◌, ℕ, ◌+◌, ◌≤◌, ◌<◌, Bool, true, false, cond, not, ◌&&◌, ◌||◌, List, [], ◌∷◌, ◌++◌, length, map, filter, Option, Some, None, refl, sym, ap, ◌∙◌, arith, add_assoc, zero-add, add-zero}
use Rattle.std.specs.Prelude.{count_by, nat_le, ◌==◌}
use Rattle.std.specs.Bool.{then_some}
use Rattle.std.specs.List.{list_any}
use Rattle.std.specs.Option.{option_or, option_map_or}
use Rattle.std.proofs.lemmas.List.Folds.{list_any-append}
use Rattle.std.proofs.lemmas.List.Sums.{sum_by-append, sum_by-cons}
use Rattle.std.proofs.lemmas.Bool.{leb-true, le-leb, ne_eqb, and_left, or_from, false≢true}
use Rattle.dkv_base.specs.declared.types.Commit.{Commit}
use Rattle.dkv_base.specs.declared.types.Message.{Message}
use Rattle.dkv_base.specs.declared.types.MsgId.{MsgId}
use Rattle.dkv_base.specs.declared.types.Enqueue.{Enqueue}
use Rattle.dkv_base.specs.State.{State, same_id}
use Rattle.dkv_base.specs.Messages.{fails, acks, moment_of, last_failure, fails_after, due_after, as_after, interval, is_pending, pending, made_from, made_by, enqueues_of}
use Rattle.dkv_base.specs.declared.types.Commit.TheVariants as commit

-- ---- one message over two lists

count-append : (id : MsgId) (xs ys : List Commit) → count_by (fails id) (xs ++ ys) ≡ count_by (fails id) xs + count_by (fails id) ys
count-append id xs ys = sum_by-append (λ c. cond (fails id c) 1 0) xs ys

or_none : (o : Option ℕ) → option_or None o ≡ o
or_none o = refl

or-none : (o : Option ℕ) → option_or o None ≡ o
or-none None = refl
or-none (Some x) = refl

or_assoc : (o p q : Option ℕ) → option_or (option_or o p) q ≡ option_or o (option_or p q)
or_assoc None p q = refl
or_assoc (Some x) p q = refl

last-append : (id : MsgId) (xs ys : List Commit) → last_failure id (xs ++ ys) ≡ option_or (last_failure id ys) (last_failure id xs)
last-append id [] ys = sym (or-none _)
last-append id (x ∷ xs) ys =
    ap (λ o. option_or o (then_some (fails id x) (moment_of x))) (last-append id xs ys)
    ∙ or_assoc (last_failure id ys) (last_failure id xs) (then_some (fails id x) (moment_of x))

-- with no last failure there is none
no_last_step : (o : Option ℕ) (b : Bool) (at : ℕ) → option_or o (then_some b at) ≡ None → (o ≡ None) × (b ≡ false)
no_last_step None true at e = absurd (cc)
no_last_step None false at e = (refl, refl)
no_last_step (Some x) b at e = absurd (cc)

no_last : (id : MsgId) (xs : List Commit) → last_failure id xs ≡ None → count_by (fails id) xs ≡ 0
no_last id [] e = refl
no_last id (x ∷ xs) e =
    let parts = no_last_step (last_failure id xs) (fails id x) (moment_of x) e in
    sum_by-cons (λ c. cond (fails id c) 1 0) x xs
    ∙ ap (λ b. cond b 1 0 + count_by (fails id) xs) parts.1
    ∙ zero-add _
    ∙ no_last id xs parts.0

pub fails_after-append : (m : Message) (xs ys : List Commit) → fails_after m (xs ++ ys) ≡ fails_after (as_after m xs) ys
fails_after-append m xs ys = ap (λ k. m.fails + k) (count-append m.id xs ys) ∙ sym (add_assoc m.fails (count_by (fails m.id) xs) (count_by (fails m.id) ys))

due_cases : (o p : Option ℕ) (b : List ℕ) (x y d : ℕ) → (o ≡ None → x ≡ y)
    → option_map_or (λ at. at + interval b x) (option_or o p) d ≡ option_map_or (λ at. at + interval b x) o (option_map_or (λ at. at + interval b y) p d)
due_cases None p b x y d h = ap (λ k. option_map_or (λ at. at + interval b k) p d) (h refl)
due_cases (Some at) p b x y d h = refl

no_more : (m : Message) (xs ys : List Commit) → last_failure m.id ys ≡ None → fails_after (as_after m xs) ys ≡ fails_after m xs
no_more m xs ys e = ap (λ k. fails_after m xs + k) (no_last m.id ys e) ∙ add-zero _

pub due_after-append : (m : Message) (xs ys : List Commit) → due_after m (xs ++ ys) ≡ due_after (as_after m xs) ys
due_after-append m xs ys =
    ap (λ k. option_map_or (λ at. at + interval m.backoff k) (last_failure m.id (xs ++ ys)) m.due) (fails_after-append m xs ys)
    ∙ ap (λ o. option_map_or (λ at. at + interval m.backoff (fails_after (as_after m xs) ys)) o m.due) (last-append m.id xs ys)
    ∙ due_cases (last_failure m.id ys) (last_failure m.id xs) m.backoff _ _ m.due (no_more m xs ys)

pub as_after-append : (m : Message) (xs ys : List Commit) → as_after m (xs ++ ys) ≡ as_after (as_after m xs) ys
as_after-append m xs ys = λ i. record m { fails = fails_after-append m xs ys i; due = due_after-append m xs ys i }

both_tests : (a b p q : Bool) → (q ≡ true → p ≡ true) → (not (a || b) && q) ≡ ((not a && p) && (not b && q))
both_tests true b p q h = refl
both_tests false true true q h = refl
both_tests false true false q h = refl
both_tests false false true q h = refl
both_tests false false false true h = absurd (false≢true (h refl))
both_tests false false false false h = refl

fewer : (m : Message) (xs ys : List Commit) (n : ℕ) → nat_le (fails_after (as_after m xs) ys) n ≡ true → nat_le (fails_after m xs) n ≡ true
fewer m xs ys n e = le-leb _ _ (omega (arith, leb-true (fails_after (as_after m xs) ys) n e))

pub is_pending-append : (m : Message) (xs ys : List Commit) → is_pending (xs ++ ys) m ≡ (is_pending xs m && is_pending ys (as_after m xs))
is_pending-append m xs ys =
    ap (λ k. not (list_any (acks m.id) (xs ++ ys)) && nat_le k (length m.backoff)) (fails_after-append m xs ys)
    ∙ ap (λ b. not b && nat_le (fails_after (as_after m xs) ys) (length m.backoff)) (list_any-append (acks m.id) xs ys)
    ∙ both_tests (list_any (acks m.id) xs) (list_any (acks m.id) ys) _ _ (fewer m xs ys (length m.backoff))

-- ---- lists of messages

-- two passes over a list are one
kept_head : {X : Type 0} (q r : Bool) (y z : X) (ys zs : List X) → y ≡ z → ys ≡ zs → cond (q && r) (y ∷ ys) ys ≡ cond q (cond r (z ∷ zs) zs) zs
kept_head true true y z ys zs e es = λ i. e i ∷ es i
kept_head true false y z ys zs e es = es
kept_head false r y z ys zs e es = es

module _ {X : Type 0} where
  map-cond : {Y : Type 0} (f : X → Y) (b : Bool) (x : X) (xs : List X) → map f (cond b (x ∷ xs) xs) ≡ cond b (f x ∷ map f xs) (map f xs)
  map-cond f true x xs = refl
  map-cond f false x xs = refl

  filter-cond : (r : X → Bool) (b : Bool) (x : X) (xs : List X) → filter r (cond b (x ∷ xs) xs) ≡ cond b (cond (r x) (x ∷ filter r xs) (filter r xs)) (filter r xs)
  filter-cond r true x xs = refl
  filter-cond r false x xs = refl

  pub two_passes : (p q r : X → Bool) (f g h : X → X) → ((x : X) → p x ≡ (q x && r (f x))) → ((x : X) → h x ≡ g (f x))
      → (xs : List X) → map h (filter p xs) ≡ map g (filter r (map f (filter q xs)))
  two_passes p q r f g h tests values [] = refl
  two_passes p q r f g h tests values (x ∷ xs) =
      map-cond h (p x) x (filter p xs)
      ∙ ap (λ b. cond b (h x ∷ map h (filter p xs)) (map h (filter p xs))) (tests x)
      ∙ one_step (q x) (two_passes p q r f g h tests values xs)
    where
      one_step : (b : Bool) → map h (filter p xs) ≡ map g (filter r (map f (filter q xs)))
          → cond (b && r (f x)) (h x ∷ map h (filter p xs)) (map h (filter p xs)) ≡ map g (filter r (map f (cond b (x ∷ filter q xs) (filter q xs))))
      one_step true e = kept_head true (r (f x)) (h x) (g (f x)) _ _ (values x) e ∙ sym (map-cond g (r (f x)) (f x) (filter r (map f (filter q xs))))
      one_step false e = e

-- ---- commits that leave later messages alone

-- a settlement is of a message of a commit up to n
abbrev pub SettleUpTo : ℕ → Commit → Type 0
SettleUpTo n (commit.Wrote who at w) = Unit {0}
SettleUpTo n (commit.Acked who at id) = id.commit ≤ n
SettleUpTo n (commit.Failed who at id) = id.commit ≤ n

abbrev pub SettlesUpTo : ℕ → List Commit → Type 0
SettlesUpTo n [] = Unit {0}
SettlesUpTo n (c ∷ cs) = SettleUpTo n c × SettlesUpTo n cs

other_id : (n : ℕ) (a b : MsgId) → n < a.commit → b.commit ≤ n → same_id a b ≡ false
other_id n a b above below = and_left (a.commit == b.commit) (a.index == b.index) (ne_eqb a.commit b.commit (λ e. omega (arith, above, below, e)))

no_ack : (n : ℕ) (id : MsgId) (c : Commit) → n < id.commit → SettleUpTo n c → acks id c ≡ false
no_ack n id (commit.Wrote who at w) above s = refl
no_ack n id (commit.Acked who at other) above s = other_id n id other above s
no_ack n id (commit.Failed who at other) above s = refl

no_fail : (n : ℕ) (id : MsgId) (c : Commit) → n < id.commit → SettleUpTo n c → fails id c ≡ false
no_fail n id (commit.Wrote who at w) above s = refl
no_fail n id (commit.Acked who at other) above s = refl
no_fail n id (commit.Failed who at other) above s = other_id n id other above s

no_acks : (n : ℕ) (id : MsgId) (cs : List Commit) → n < id.commit → SettlesUpTo n cs → list_any (acks id) cs ≡ false
no_acks n id [] above s = refl
no_acks n id (c ∷ cs) above s = or_from _ _ (no_ack n id c above s.0) (no_acks n id cs above s.1)

no_fails : (n : ℕ) (id : MsgId) (cs : List Commit) → n < id.commit → SettlesUpTo n cs → last_failure id cs ≡ None
no_fails n id [] above s = refl
no_fails n id (c ∷ cs) above s =
    ap (λ o. option_or o (then_some (fails id c) (moment_of c))) (no_fails n id cs above s.1)
    ∙ ap (λ b. then_some b (moment_of c)) (no_fail n id c above s.0)

-- a message that no commit touches stays as it was
untouched : (n : ℕ) (m : Message) (cs : List Commit) → n < m.id.commit → SettlesUpTo n cs → as_after m cs ≡ m
untouched n m cs above s =
    let none = no_fails n m.id cs above s in
    λ i. record m {
      fails = (ap (λ k. m.fails + k) (no_last m.id cs none) ∙ add-zero m.fails) i;
      due = ap (λ o. option_map_or (λ at. at + interval m.backoff (fails_after m cs)) o m.due) none i;
    }

untouched_test : (n : ℕ) (m : Message) (cs ds : List Commit) → n < m.id.commit → SettlesUpTo n cs → is_pending (cs ++ ds) m ≡ is_pending ds m
untouched_test n m cs ds above s =
    let none = no_fails n m.id cs above s in
    ap (λ b. not b && nat_le (fails_after m (cs ++ ds)) (length m.backoff)) (list_any-append (acks m.id) cs ds)
    ∙ ap (λ b. not (b || list_any (acks m.id) ds) && nat_le (fails_after m (cs ++ ds)) (length m.backoff)) (no_acks n m.id cs above s)
    ∙ ap (λ k. not (list_any (acks m.id) ds) && nat_le k (length m.backoff)) (fails_after-append m cs ds ∙ ap (λ k. fails_after k ds) (untouched n m cs above s))

-- the ids of a list are of commits above n, or up to n
abbrev pub IdsAbove : ℕ → List Message → Type 0
IdsAbove n [] = Unit {0}
IdsAbove n (m ∷ ms) = (n < m.id.commit) × IdsAbove n ms

abbrev pub IdsUpTo : ℕ → List Message → Type 0
IdsUpTo n [] = Unit {0}
IdsUpTo n (m ∷ ms) = (m.id.commit ≤ n) × IdsUpTo n ms

pub untouched_list : (n : ℕ) (cs ds : List Commit) → SettlesUpTo n cs → (ms : List Message) → IdsAbove n ms
    → map (λ m. as_after m (cs ++ ds)) (filter (is_pending (cs ++ ds)) ms) ≡ map (λ m. as_after m ds) (filter (is_pending ds) ms)
untouched_list n cs ds s [] above = refl
untouched_list n cs ds s (m ∷ ms) above =
    ap (λ b. map (λ k. as_after k (cs ++ ds)) (cond b (m ∷ filter (is_pending (cs ++ ds)) ms) (filter (is_pending (cs ++ ds)) ms))) (untouched_test n m cs ds above.0 s)
    ∙ map-cond (λ k. as_after k (cs ++ ds)) (is_pending ds m) m _
    ∙ (λ i. cond (is_pending ds m) ((as_after-append m cs ds ∙ ap (λ k. as_after k ds) (untouched n m cs above.0 s)) i ∷ untouched_list n cs ds s ms above.1 i) (untouched_list n cs ds s ms above.1 i))
    ∙ sym (map-cond (λ k. as_after k ds) (is_pending ds m) m _)

pub IdsAbove-append : (n : ℕ) (ms ks : List Message) → IdsAbove n ms → IdsAbove n ks → IdsAbove n (ms ++ ks)
IdsAbove-append n [] ks a b = b
IdsAbove-append n (m ∷ ms) ks a b = (a.0, IdsAbove-append n ms ks a.1 b)

IdsUpTo-append : (n : ℕ) (ms ks : List Message) → IdsUpTo n ms → IdsUpTo n ks → IdsUpTo n (ms ++ ks)
IdsUpTo-append n [] ks a b = b
IdsUpTo-append n (m ∷ ms) ks a b = (a.0, IdsUpTo-append n ms ks a.1 b)

IdsAbove-made_from : (n k i : ℕ) (qs : List Enqueue) → n < k → IdsAbove n (made_from k i qs)
IdsAbove-made_from n k i [] above = tt
IdsAbove-made_from n k i (q ∷ qs) above = (above, IdsAbove-made_from n k (i + 1) qs above)

IdsUpTo-made_from : (n k i : ℕ) (qs : List Enqueue) → k ≤ n → IdsUpTo n (made_from k i qs)
IdsUpTo-made_from n k i [] below = tt
IdsUpTo-made_from n k i (q ∷ qs) below = (below, IdsUpTo-made_from n k (i + 1) qs below)

pub IdsAbove-made_by : (n k : ℕ) (cs : List Commit) → n < k → IdsAbove n (made_by k cs)
IdsAbove-made_by n k [] above = tt
IdsAbove-made_by n k (c ∷ cs) above = IdsAbove-append n _ _ (IdsAbove-made_from n k 0 (enqueues_of c) above) (IdsAbove-made_by n (k + 1) cs (omega (arith, above)))

IdsUpTo-made_by : (n k : ℕ) (cs : List Commit) → k + length cs ≤ n + 1 → IdsUpTo n (made_by k cs)
IdsUpTo-made_by n k [] below = tt
IdsUpTo-made_by n k (c ∷ cs) below =
    IdsUpTo-append n _ _ (IdsUpTo-made_from n k 0 (enqueues_of c) (omega (arith, below))) (IdsUpTo-made_by n (k + 1) cs (omega (arith, below)))

pub IdsUpTo-more : (n k : ℕ) → n ≤ k → (ms : List Message) → IdsUpTo n ms → IdsUpTo k ms
IdsUpTo-more n k le [] a = tt
IdsUpTo-more n k le (m ∷ ms) a = (omega (arith, le, a.0), IdsUpTo-more n k le ms a.1)

IdsUpTo-cond : (n : ℕ) (b : Bool) (m : Message) (ms : List Message) → m.id.commit ≤ n → IdsUpTo n ms → IdsUpTo n (cond b (m ∷ ms) ms)
IdsUpTo-cond n true m ms le a = (le, a)
IdsUpTo-cond n false m ms le a = a

IdsUpTo-filter : (n : ℕ) (p : Message → Bool) (ms : List Message) → IdsUpTo n ms → IdsUpTo n (filter p ms)
IdsUpTo-filter n p [] a = tt
IdsUpTo-filter n p (m ∷ ms) a = IdsUpTo-cond n (p m) m _ a.0 (IdsUpTo-filter n p ms a.1)

IdsUpTo-map : (n : ℕ) (cs : List Commit) (ms : List Message) → IdsUpTo n ms → IdsUpTo n (map (λ m. as_after m cs) ms)
IdsUpTo-map n cs [] a = tt
IdsUpTo-map n cs (m ∷ ms) a = (a.0, IdsUpTo-map n cs ms a.1)

pub IdsUpTo-pending : (base : State) (cs : List Commit) → IdsUpTo base.number base.messages → IdsUpTo (base.number + length cs) (pending base cs)
IdsUpTo-pending base cs a =
    IdsUpTo-map _ cs _ (IdsUpTo-filter _ (is_pending cs) _ (IdsUpTo-append _ base.messages _
    (IdsUpTo-more _ _ (omega arith) _ a) (IdsUpTo-made_by _ (base.number + 1) cs (omega arith))))
