-- A call of which nothing fails makes the state that the definitions say.
use Rattle.std.proofs.Common.{◌≡◌, ℕ, ◌+◌, ◌≤◌, true, ◌&&◌, List, [], ◌∷◌, ◌++◌, length, Option, None, Result, refl, sym, ap, ◌∙◌, arith}
use Rattle.std.specs.Prelude.{nat_le, ◌==◌, is_ok, is_none, count_by}
use Rattle.std.specs.Result.{result_unwrap_or}
use Rattle.std.specs.List.{list_all}
use Rattle.std.proofs.lemmas.Bool.{and_parts, and_from, le-leb, eq-eqb}
use Rattle.dkv_base.specs.declared.types.AtomicWrite.{AtomicWrite}
use Rattle.dkv_base.specs.declared.types.Call.TheVariants.{Write}
use Rattle.dkv_base.specs.declared.types.Commit.TheVariants.{Wrote}
use Rattle.dkv_base.specs.declared.types.Enqueue.{Enqueue}
use Rattle.dkv_base.specs.declared.types.Entry.{Entry}
use Rattle.dkv_base.specs.declared.codes.Limit.{Limit}
use Rattle.dkv_base.specs.declared.types.Profile.TheVariants.{Narrow}
use Rattle.dkv_base.specs.Limits.{write_limit, enqueue_limit}
use Rattle.dkv_base.specs.Messages.{made, made_from}
use Rattle.dkv_base.specs.Sound.{is_schedule}
use Rattle.dkv_base.specs.State.{is_empty, seen, visible}
use Rattle.dkv_base.specs.declared.moments.TheConstants.{MAX_MOMENT}
use Rattle.dkv_base.specs.Writes.{failing, mutated_all}
use Rattle.dkv_base.specs.After.{after, entries_after, is_legal_in}
use Rattle.dkv_base.proofs.WithinLimits.{NoneOf, within}
use Rattle.dkv_base.proofs.SoundMessages.{payload_made}
use Rattle.dkv_base.proofs.SoundIds.{order_made_from}
use Rattle.dkv_base.proofs.AfterNothing.{FailsFit}
use Rattle.dkv_atomic.specs.declared.decision.Effects.{Effects}
use Rattle.dkv_atomic.specs.Decisions.{IsEffects, effected}
use Rattle.dkv_hub.specs.Frames.{are_committed}
use Rattle.dkv_core.specs.Cores.{Database, Change, IsEffective, applied, is_made_by, ends}
use Rattle.dkv_core.specs.Decisions.{Goes}
use Rattle.dkv_core.proofs.Committed.{committed-applied}
use Rattle.dkv_core.proofs.OneCommit.{pending-wrote, entries-one}

-- ---- a write

-- the messages of its enqueues are its own
made_by_write : (n i : ℕ) (qs : List Enqueue) → NoneOf (enqueue_limit Narrow) qs → list_all (is_made_by n) (made_from n i qs) ≡ true
made_by_write n i [] free = refl
made_by_write n i (q ∷ qs) free =
    let payload = and_parts _ (is_schedule (made n i q).backoff) (payload_made n i q free.0) in
    and_from (is_made_by n (made n i q)) _
    (and_from ((n == n) && is_schedule (made n i q).backoff) _ (and_from (n == n) _ (eq-eqb n n refl) payload.1) (le-leb 0 (length (made n i q).backoff) (omega arith)))
    (made_by_write n (i + 1) qs free.1)

-- what the write does, as a change
abbrev pub change_of : ℕ → ℕ → AtomicWrite → Effects → Change
change_of n at w e = record { number = n; moment = at; puts = e.puts; removed = e.removed; added = made_from n 0 w.enqueues; settled = None }

module _ (c : Database) (who at n : ℕ) (w : AtomicWrite) (e : Effects) (fit : FailsFit c.state.messages) (next : n ≡ c.state.number + 1) (does : IsEffects c.state.entries w at n e) where
  entries_made : effected e (visible at c.state.entries) ≡ entries_after c.state (Wrote who at w ∷ [])
  entries_made =
      let es = visible at c.state.entries in
      ap (λ (r : Result (List Entry) ℕ). result_unwrap_or r es) (sym does.entries)
      ∙ ap (λ (k : ℕ). result_unwrap_or (mutated_all w k at es) es) next
      ∙ sym (entries-one c.state (Wrote who at w) fit)

  write_makes : applied (change_of n at w e) c.state ≡ after c.state (Wrote who at w ∷ [])
  write_makes = λ i. record {
    number = next i;
    moment = at;
    entries = entries_made i;
    messages = (ap (λ (k : ℕ). c.state.messages ++ made_from k 0 w.enqueues) next ∙ sym (pending-wrote who at w c.state fit)) i;
  }

  write_legal : c.state.moment ≤ at → at ≤ MAX_MOMENT → write_limit w ≡ None → is_legal_in c.state (Wrote who at w) ≡ true
  write_legal late latest free =
      and_from (nat_le c.state.moment at && nat_le at MAX_MOMENT) _
      (and_from (nat_le c.state.moment at) _ (le-leb c.state.moment at late) (le-leb at MAX_MOMENT latest))
      (and_from (is_none (write_limit w) && is_empty (failing w (seen c.state at))) _
      (and_from (is_none (write_limit w)) _ (ap (λ (o : Option Limit). is_none o) free) (ap (λ (places : List ℕ). is_empty places) does.holds))
      (ap (λ (k : ℕ). is_ok (mutated_all w k at (seen c.state at))) (sym next) ∙ ap (λ (r : Result (List Entry) ℕ). is_ok r) does.entries))

  pub write_goes : c.state.moment ≤ c.greatest → are_committed c.state.entries ≡ true → IsEffective c at → write_limit w ≡ None → length e.puts ≤ c.room.entries → count_by ends e.puts ≤ c.room.endings → length (made_from n 0 w.enqueues) ≤ c.room.messages
      → Goes c who at (Write w) (change_of n at w e)
  write_goes late kept effective free entries endings messages = record {
    legal = write_legal (omega (arith, late, effective.late)) effective.within free;
    makes = write_makes;
    settles = refl;
    moment = refl;
    ready = record {
      number = next;
      moment = effective;
      entries = entries;
      endings = endings;
      messages = messages;
      made = made_by_write n 0 w.enqueues (within w free).enqueues;
      order = order_made_from n 0 w.enqueues;
      settles = refl;
      committed = committed-applied (change_of n at w e) c.state (Wrote who at w) fit kept write_makes;
    };
  }
