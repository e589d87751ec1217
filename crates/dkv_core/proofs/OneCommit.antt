-- What one commit makes of the messages and of the entries of a state.
use Rattle.std.proofs.Common.{◌≡◌, ℕ, ◌+◌, ◌≤◌, Bool, true, false, cond, not, ◌&&◌, ◌||◌, List, [], ◌∷◌, ◌++◌, length, map, filter, refl, sym, ap, ◌∙◌, arith, add-zero}
use Rattle.std.specs.Prelude.{nat_le, ◌==◌}
use Rattle.std.specs.Bool.{then_some}
use Rattle.std.specs.Cmp.{both_ways}
use Rattle.std.specs.Option.{option_map_or}
use Rattle.std.proofs.lemmas.Bool.{leb-true, le-leb, eqb-true, eq-eqb, false≢true}
use Rattle.std.proofs.lemmas.List.{append-nil}
use Rattle.dkv_base.specs.declared.types.AtomicWrite.{AtomicWrite}
use Rattle.dkv_base.specs.declared.types.Commit.{Commit}
use Rattle.dkv_base.specs.declared.types.Commit.TheVariants.{Wrote, Acked, Failed}
use Rattle.dkv_base.specs.declared.types.Enqueue.{Enqueue}
use Rattle.dkv_base.specs.declared.types.Message.{Message}
use Rattle.dkv_base.specs.declared.types.MsgId.{MsgId}
use Rattle.dkv_base.specs.State.{State, same_id, visible}
use Rattle.dkv_base.specs.Messages.{interval, as_after, is_pending, pending, made_from, moment_of, schedule_of}
use Rattle.dkv_base.specs.After.{changed, entries_after}
use Rattle.dkv_base.proofs.AfterNothing.{FailsFit}
use Rattle.dkv_queue.specs.Rows.{with_failure}
use Rattle.dkv_core.specs.Settling.{is_last_failure, after_ack, after_failure}

same_number : (a b : ℕ) → (a == b) ≡ (b == a)
same_number a b = both_ways (a == b) (b == a) (λ e. eq-eqb b a (sym (eqb-true a b e))) (λ e. eq-eqb a b (sym (eqb-true b a e)))

pub same_id-turned : (a b : MsgId) → same_id a b ≡ same_id b a
same_id-turned a b = λ i. same_number a.commit b.commit i && same_number a.index b.index i

-- a pass over messages that keeps some and changes them is told by what it does to each
module _ (p q : Message → Bool) (f g : Message → Message) where
  abbrev Alike : List Message → Type 0
  Alike [] = Unit {0}
  Alike (m ∷ ms) = ((p m ≡ q m) × (f m ≡ g m)) × Alike ms

  alike_passes : (ms : List Message) → Alike ms → map f (filter p ms) ≡ map g (filter q ms)
  alike_passes [] a = refl
  alike_passes (m ∷ ms) a =
      let rest = alike_passes ms a.1 in
      ap (λ b. map f (cond b (m ∷ filter p ms) (filter p ms))) a.0.0
      ∙ elim (q m) as (λ b. map f (cond b (m ∷ filter p ms) (filter p ms)) ≡ map g (cond b (m ∷ filter q ms) (filter q ms))) [
        | true ↦ λ i. a.0.1 i ∷ rest i
        | false ↦ rest
      ]

or_false : (b : Bool) → (b || false) ≡ b
or_false true = refl
or_false false = refl

map_same : (ms : List Message) → map (λ m. m) ms ≡ ms
map_same [] = refl
map_same (m ∷ ms) = ap (λ ks. m ∷ ks) (map_same ms)

filter_all : (ms : List Message) → filter (λ m. true) ms ≡ ms
filter_all [] = refl
filter_all (m ∷ ms) = ap (λ ks. m ∷ ks) (filter_all ms)

-- a message that a commit leaves alone
left_alone : (m : Message) → record m { fails = m.fails + 0 } ≡ m
left_alone m = λ i. record m { fails = add-zero m.fails i }

still_fits : (m : Message) → nat_le m.fails (length m.backoff) ≡ true → nat_le (m.fails + 0) (length m.backoff) ≡ true
still_fits m fits = ap (λ k. nat_le k (length m.backoff)) (add-zero m.fails) ∙ fits

-- ---- a write

module _ (who at : ℕ) (w : AtomicWrite) where
  abbrev wrote : List Commit
  wrote = Wrote who at w ∷ []

  write_leaves : (ms : List Message) → FailsFit ms → Alike (is_pending wrote) (λ m. true) (λ m. as_after m wrote) (λ m. m) ms
  write_leaves [] fit = tt
  write_leaves (m ∷ ms) fit = ((still_fits m fit.0, left_alone m), write_leaves ms fit.1)

  new_fit : (n i : ℕ) (qs : List Enqueue) → FailsFit (made_from n i qs)
  new_fit n i [] = tt
  new_fit n i (q ∷ qs) = (le-leb 0 (length (schedule_of q.backoff)) (omega arith), new_fit n (i + 1) qs)

  pass_all : (ms : List Message) → FailsFit ms → map (λ m. as_after m wrote) (filter (is_pending wrote) ms) ≡ ms
  pass_all ms fit =
      alike_passes (is_pending wrote) (λ m. true) (λ m. as_after m wrote) (λ m. m) ms (write_leaves ms fit) ∙ map_same (filter (λ m. true) ms) ∙ filter_all ms

  fit_both : (ms ks : List Message) → FailsFit ms → FailsFit ks → FailsFit (ms ++ ks)
  fit_both [] ks a b = b
  fit_both (m ∷ ms) ks a b = (a.0, fit_both ms ks a.1 b)

  -- those that waited, and then those of its enqueues
  pub pending-wrote : (s : State) → FailsFit s.messages → pending s wrote ≡ s.messages ++ made_from (s.number + 1) 0 w.enqueues
  pending-wrote s fit =
      let made = made_from (s.number + 1) 0 w.enqueues in
      ap (λ ms. map (λ m. as_after m wrote) (filter (is_pending wrote) (s.messages ++ ms))) (append-nil made)
      ∙ pass_all (s.messages ++ made) (fit_both s.messages made fit (new_fit (s.number + 1) 0 w.enqueues))

-- ---- an acknowledgement

module _ (who at : ℕ) (id : MsgId) where
  abbrev acked : List Commit
  acked = Acked who at id ∷ []

  ack_test : (m : Message) → nat_le m.fails (length m.backoff) ≡ true → is_pending acked m ≡ not (same_id id m.id)
  ack_test m fits =
      ap (λ b. not b && nat_le (m.fails + 0) (length m.backoff)) (or_false (same_id m.id id) ∙ same_id-turned m.id id)
      ∙ ap (λ b. not (same_id id m.id) && b) (still_fits m fits)
      ∙ and_true (not (same_id id m.id))
    where
      and_true : (b : Bool) → (b && true) ≡ b
      and_true true = refl
      and_true false = refl

  ack_leaves : (ms : List Message) → FailsFit ms → Alike (is_pending acked) (λ m. not (same_id id m.id)) (λ m. as_after m acked) (λ m. m) ms
  ack_leaves [] fit = tt
  ack_leaves (m ∷ ms) fit = ((ack_test m fit.0, left_alone m), ack_leaves ms fit.1)

  -- those that waited, without the one
  pub pending-acked : (s : State) → FailsFit s.messages → pending s acked ≡ after_ack id s.messages
  pending-acked s fit =
      ap (λ ms. map (λ m. as_after m acked) (filter (is_pending acked) ms)) (append-nil s.messages)
      ∙ alike_passes (is_pending acked) (λ m. not (same_id id m.id)) (λ m. as_after m acked) (λ m. m) s.messages (ack_leaves s.messages fit)
      ∙ map_same (after_ack id s.messages)

-- ---- a failure

module _ (who at : ℕ) (id : MsgId) where
  abbrev failed : List Commit
  failed = Failed who at id ∷ []

  rise : (k n : ℕ) → k ≤ n → (k ≡ n → ⊥) → k + (0 + 1) ≤ n
  rise k n le other = omega (arith, le, other)

  -- whether it waits after one failure more
  one_more : (k n : ℕ) → nat_le k n ≡ true → nat_le (k + (0 + 1)) n ≡ not (k == n)
  one_more k n fits =
      elim (k == n) as (λ b. (k == n) ≡ b → nat_le (k + (0 + 1)) n ≡ not b) [
        | true ↦ λ e. both_ways (nat_le (k + (0 + 1)) n) false (λ h. absurd (omega (arith, leb-true (k + (0 + 1)) n h, eqb-true k n e))) (λ h. absurd (cc h))
        | false ↦ λ e. le-leb (k + (0 + 1)) n (rise k n (leb-true k n fits) (λ same. false≢true (sym e ∙ eq-eqb k n same)))
      ] refl

  fail_test : (m : Message) → nat_le m.fails (length m.backoff) ≡ true → is_pending failed m ≡ not (is_last_failure id m)
  fail_test m fits =
      ap (λ b. nat_le (m.fails + (0 + cond b 1 0)) (length m.backoff)) (same_id-turned m.id id)
      ∙ elim (same_id id m.id) as (λ b. nat_le (m.fails + (0 + cond b 1 0)) (length m.backoff) ≡ not (b && (m.fails == length m.backoff))) [
        | true ↦ one_more m.fails (length m.backoff) fits
        | false ↦ still_fits m fits
      ]

  fail_value : (m : Message) → as_after m failed ≡ cond (same_id id m.id) (with_failure at m) m
  fail_value m =
      ap (λ b. record m {
        fails = m.fails + (0 + cond b 1 0);
        due = option_map_or (λ t. t + interval m.backoff (m.fails + (0 + cond b 1 0))) (then_some b at) m.due;
      }) (same_id-turned m.id id)
      ∙ elim (same_id id m.id) as (λ b. record m {
        fails = m.fails + (0 + cond b 1 0);
        due = option_map_or (λ t. t + interval m.backoff (m.fails + (0 + cond b 1 0))) (then_some b at) m.due;
      } ≡ cond b (with_failure at m) m) [ true ↦ refl | false ↦ left_alone m ]

  fail_leaves : (ms : List Message) → FailsFit ms → Alike (is_pending failed) (λ m. not (is_last_failure id m)) (λ m. as_after m failed) (λ m. cond (same_id id m.id) (with_failure at m) m) ms
  fail_leaves [] fit = tt
  fail_leaves (m ∷ ms) fit = ((fail_test m fit.0, fail_value m), fail_leaves ms fit.1)

  -- those that waited, where the one waits again or is gone
  pub pending-failed : (s : State) → FailsFit s.messages → pending s failed ≡ after_failure id at s.messages
  pending-failed s fit =
      ap (λ ms. map (λ m. as_after m failed) (filter (is_pending failed) ms)) (append-nil s.messages)
      ∙ alike_passes (is_pending failed) (λ m. not (is_last_failure id m)) (λ m. as_after m failed) (λ m. cond (same_id id m.id) (with_failure at m) m) s.messages (fail_leaves s.messages fit)

-- ---- the entries

nothing_leaves : (ms : List Message) → FailsFit ms → Alike (is_pending []) (λ m. true) (λ m. as_after m []) (λ m. m) ms
nothing_leaves [] fit = tt
nothing_leaves (m ∷ ms) fit = ((still_fits m fit.0, left_alone m), nothing_leaves ms fit.1)

pending-nothing : (s : State) → FailsFit s.messages → pending s [] ≡ s.messages
pending-nothing s fit =
    ap (λ ms. map (λ m. as_after m []) (filter (is_pending []) ms)) (append-nil s.messages)
    ∙ alike_passes (is_pending []) (λ m. true) (λ m. as_after m []) (λ m. m) s.messages (nothing_leaves s.messages fit)
    ∙ map_same (filter (λ m. true) s.messages) ∙ filter_all s.messages

-- what the commit makes of those that can be seen at its moment, while the state's messages wait
pub entries-one : (s : State) (c : Commit) → FailsFit s.messages → entries_after s (c ∷ []) ≡ changed (s.number + 1) s.messages c (visible (moment_of c) s.entries)
entries-one s c fit = λ i. changed (numbered i) (pending-nothing s fit i) c (visible (moment_of c) s.entries)
  where
    numbered : s.number + 0 + 1 ≡ s.number + 1
    numbered = omega arith
