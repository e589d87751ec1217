-- A message that is out for the time of its settlement.
use Rattle.std.proofs.Common.{◌≡◌, refl, sym, ◌∙◌, ap, ℕ, Bool, true, false, not, List, [], ◌∷◌, Some}
use Rattle.std.specs.Prelude.{◌||◌, is_some, option_map, if◌then◌else◌}
use Rattle.std.specs.List.{list_any}
use Rattle.std.proofs.lemmas.Bool.{or_left, or_right}
use Rattle.dkv_base.specs.declared.types.Call.{Call}
use Rattle.dkv_base.specs.declared.types.Call.TheVariants as call
use Rattle.dkv_base.specs.declared.types.MsgId.{MsgId}
use Rattle.dkv_base.specs.Messages.{moment_of, is_out}
use Rattle.dkv_base.specs.State.{same_id}
use Rattle.dkv_base.proofs.NamedMessages.{same_id_self}
use Rattle.dkv_core.specs.Cores.{Database}
use Rattle.dkv_core.specs.Decisions.{commit_of, settled_by}
use Rattle.dkv_core.specs.Settling.{out_after, without_id}
use Rattle.dkv_queue.specs.declared.row.Row.{Row}
use Rattle.dkv_queue.specs.Rows.{messages_of, message_at, row_at, is_row_of}
use Rattle.dkv_store.specs.Making.{IsLeasedFor}

found_step : (id : MsgId) (r : Row) (rows : List Row) (b : Bool) → is_some (message_at id rows) ≡ list_any (λ m. same_id id m.id) (messages_of rows)
    → is_some (option_map (λ (x : Row). x.message) (if b then Some r else row_at id rows)) ≡ (b || list_any (λ m. same_id id m.id) (messages_of rows))
found_step id r rows true again = refl
found_step id r rows false again = again

-- a message that is found waits
pub found_any : (id : MsgId) (rows : List Row) → is_some (message_at id rows) ≡ list_any (λ m. same_id id m.id) (messages_of rows)
found_any id [] = refl
found_any id (r ∷ rows) = found_step id r rows (is_row_of id r) (found_any id rows)

gone_step : (id x : MsgId) (xs : List MsgId) (b : Bool) → not (same_id x id) ≡ b → same_id x id ≡ true → without_id id xs ≡ [] → (if b then x ∷ without_id id xs else without_id id xs) ≡ []
gone_step id x xs true is same again = absurd (cc (is, same))
gone_step id x xs false is same again = again

all_gone : (id : MsgId) (ids : List MsgId) → ((k : MsgId) → is_out k ids ≡ true → same_id k id ≡ true) → without_id id ids ≡ []
all_gone id [] only = refl
all_gone id (x ∷ xs) only =
    gone_step id x xs (not (same_id x id)) refl (only x (or_left (same_id x x) (is_out x xs) (same_id_self x))) (all_gone id xs (λ k is. only k (or_right (same_id k x) (is_out k xs) is)))

-- after the settlement none is out
pub emptied : (a : Call) (c : Database) → IsLeasedFor a c → out_after (settled_by a) c.out ≡ []
emptied (call.Write w) c is = is
emptied (call.Ack id) c is = all_gone id c.out (λ k out. sym (is k) ∙ out)
emptied (call.Fail id) c is = all_gone id c.out (λ k out. sym (is k) ∙ out)

pub made_at : (who t : ℕ) (a : Call) → moment_of (commit_of who t a) ≡ t
made_at who t (call.Write w) = refl
made_at who t (call.Ack id) = refl
made_at who t (call.Fail id) = refl

-- the same of a core with the same messages out
pub leased_still : (a : Call) (c d : Database) → d.out ≡ c.out → IsLeasedFor a c → IsLeasedFor a d
leased_still (call.Write w) c d same is = same ∙ is
leased_still (call.Ack id) c d same is = λ k. ap (is_out k) same ∙ is k
leased_still (call.Fail id) c d same is = λ k. ap (is_out k) same ∙ is k
