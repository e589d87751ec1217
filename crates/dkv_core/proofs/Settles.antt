-- A settlement of a message that is out makes the state that the definitions say.
use Rattle.std.proofs.Common.{◌≡◌, ℕ, ◌+◌, ◌≤◌, true, false, ◌&&◌, List, [], ◌∷◌, length, map, Option, Some, None, refl, sym, ap, ◌∙◌, arith}
use Rattle.std.specs.Prelude.{nat_le, fold, count_by}
use Rattle.std.specs.Option.{option_map_or}
use Rattle.std.proofs.lemmas.Bool.{and_from, le-leb}
use Rattle.std.proofs.lemmas.List.{append-nil}
use Rattle.dkv_base.specs.declared.types.Call.TheVariants.{Ack, Fail}
use Rattle.dkv_base.specs.declared.types.Commit.{Commit}
use Rattle.dkv_base.specs.declared.types.Commit.TheVariants.{Acked, Failed}
use Rattle.dkv_base.specs.declared.types.Entry.{Entry}
use Rattle.dkv_base.specs.declared.types.Message.{Message}
use Rattle.dkv_base.specs.declared.types.MsgId.{MsgId}
use Rattle.dkv_base.specs.Messages.{exhausted, is_out}
use Rattle.dkv_base.specs.State.{State, put, visible}
use Rattle.dkv_base.specs.declared.moments.TheConstants.{MAX_MOMENT}
use Rattle.dkv_base.specs.After.{after, is_pending_id, payload_entry, undelivered}
use Rattle.dkv_base.proofs.AfterNothing.{FailsFit}
use Rattle.dkv_hub.specs.Frames.{are_committed}
use Rattle.dkv_core.specs.Cores.{Database, Change, IsEffective, applied, put_all, ends}
use Rattle.dkv_core.specs.Settling.{payloads}
use Rattle.dkv_core.specs.Decisions.{Goes}
use Rattle.dkv_core.proofs.Committed.{committed-applied}
use Rattle.dkv_core.proofs.OneCommit.{pending-acked, pending-failed, entries-one}

in_time : (s : State) (at : ℕ) → s.moment ≤ at → at ≤ MAX_MOMENT → (nat_le s.moment at && nat_le at MAX_MOMENT) ≡ true
in_time s at late latest = and_from (nat_le s.moment at) _ (le-leb s.moment at late) (le-leb at MAX_MOMENT latest)

-- an undelivered payload is put under its keys in order
undelivered-puts : (m : Message) (n : ℕ) (keys : List (List ℕ)) (es : List Entry) → put_all (map (payload_entry m n) keys) es ≡ fold (λ left key. put (payload_entry m n key) left) es keys
undelivered-puts m n [] es = refl
undelivered-puts m n (key ∷ keys) es = undelivered-puts m n keys (put (payload_entry m n key) es)

payloads-put : (n : ℕ) (o : Option Message) (es : List Entry) → put_all (payloads n o) es ≡ option_map_or (λ m. undelivered m n es) o es
payloads-put n None es = refl
payloads-put n (Some m) es = undelivered-puts m n m.undelivered es

-- a payload never ends
none_end : (m : Message) (n : ℕ) (keys : List (List ℕ)) → count_by ends (map (payload_entry m n) keys) ≡ 0
none_end m n [] = refl
none_end m n (key ∷ keys) = none_end m n keys

no_endings : (n : ℕ) (o : Option Message) → count_by ends (payloads n o) ≡ 0
no_endings n None = refl
no_endings n (Some m) = none_end m n m.undelivered

module _ (c : Database) (who at n : ℕ) (id : MsgId) (fit : FailsFit c.state.messages) (next : n ≡ c.state.number + 1) (late : c.state.moment ≤ c.greatest) (effective : IsEffective c at) (out : is_out id c.out ≡ true) (pending_id : is_pending_id c.state id ≡ true) (kept : are_committed c.state.entries ≡ true) where
  legal : (made : Commit) → (nat_le c.state.moment at && nat_le at MAX_MOMENT) ≡ true
  legal made = in_time c.state at (omega (arith, late, effective.late)) effective.within

  abbrev acking : Change
  acking = record { number = n; moment = at; puts = []; removed = []; added = []; settled = Some (record { id = id; done = true }) }

  ack_makes : applied acking c.state ≡ after c.state (Acked who at id ∷ [])
  ack_makes = λ i. record {
    number = next i;
    moment = at;
    entries = sym (entries-one c.state (Acked who at id) fit) i;
    messages = (append-nil _ ∙ sym (pending-acked who at id c.state fit)) i;
  }

  pub ack_goes : Goes c who at (Ack id) (record { number = n; moment = at; puts = []; removed = []; added = []; settled = Some (record { id = id; done = true }) })
  ack_goes = record {
    legal = and_from _ _ (legal (Acked who at id)) pending_id;
    makes = ack_makes;
    settles = refl;
    moment = refl;
    ready = record {
      number = next;
      moment = effective;
      entries = omega arith;
      endings = omega arith;
      messages = omega arith;
      made = refl;
      order = refl;
      settles = out;
      committed = committed-applied acking c.state (Acked who at id) fit kept ack_makes;
    };
  }

  abbrev failing_by : List Entry → Change
  failing_by puts = record { number = n; moment = at; puts = puts; removed = []; added = []; settled = Some (record { id = id; done = false }) }

  fail_makes : (puts : List Entry) → puts ≡ payloads n (exhausted id c.state.messages) → applied (failing_by puts) c.state ≡ after c.state (Failed who at id ∷ [])
  fail_makes puts is = λ i. record {
    number = next i;
    moment = at;
    entries = (ap (λ (ps : List Entry). put_all ps es) is ∙ payloads-put n found es ∙ ap (λ (k : ℕ). option_map_or (λ m. undelivered m k es) found es) next ∙ sym (entries-one c.state (Failed who at id) fit)) i;
    messages = (append-nil _ ∙ sym (pending-failed who at id c.state fit)) i;
  }
    where
      es : List Entry
      es = visible at c.state.entries

      found : Option Message
      found = exhausted id c.state.messages

  pub fail_goes : (puts : List Entry) → puts ≡ payloads n (exhausted id c.state.messages) → length puts ≤ c.room.entries
      → Goes c who at (Fail id) (record { number = n; moment = at; puts = puts; removed = []; added = []; settled = Some (record { id = id; done = false }) })
  fail_goes puts is room = record {
    legal = and_from _ _ (legal (Failed who at id)) pending_id;
    makes = fail_makes puts is;
    settles = refl;
    moment = refl;
    ready = record {
      number = next;
      moment = effective;
      entries = room;
      endings = omega (arith, ap (λ (ps : List Entry). count_by ends ps) is ∙ no_endings n (exhausted id c.state.messages));
      messages = omega arith;
      made = refl;
      order = refl;
      settles = out;
      committed = committed-applied (failing_by puts) c.state (Failed who at id) fit kept (fail_makes puts is);
    };
  }
