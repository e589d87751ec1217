-- A row whose message failed once more.
use Rattle.std.proofs.Common.{◌≡◌, ℕ, ◌+◌, ◌<◌, true, false, cond, ◌&&◌, nat_le, ◌==◌, List, length, Some, None, sym, ap, ◌∙◌, arith}
use Rattle.std.specs.Prelude.{option_map, option_and_then, if◌then◌else◌}
use Rattle.std.proofs.lemmas.Bool.{and_parts, and_from, le-leb, eq-eqb, ne_eqb}
use Rattle.dkv_base.specs.declared.types.Message.{Message}
use Rattle.dkv_base.specs.declared.types.MsgId.{MsgId}
use Rattle.dkv_base.specs.State.{same_id}
use Rattle.dkv_base.specs.Messages.{exhausted}
use Rattle.dkv_base.specs.Ordered.{put_in, is_rising}
use Rattle.dkv_base.specs.Sound.{is_schedule}
use Rattle.dkv_queue.specs.declared.row.Row.{Row}
use Rattle.dkv_queue.specs.Rows.{row_cmp, row_at, message_at, messages_of, has_schedule, with_failure, after_failure}
use Rattle.dkv_base.proofs.NamedMessages.{same_id_self}
use Rattle.dkv_queue.proofs.Looks.{exhausted-at, exhausted_row, row_at-put_in}

-- one that may fail once more still has its schedule
pub schedule-failed : (at : ℕ) (m : Message) → has_schedule m ≡ true → m.fails < length m.backoff → has_schedule (with_failure at m) ≡ true
schedule-failed at m schedule left = and_from _ _ (and_parts (is_schedule m.backoff) _ schedule).0 (le-leb (m.fails + 1) (length m.backoff) (omega arith))

pub fails-again : (at : ℕ) (r : Row) → r.message.fails < length r.message.backoff → after_failure at r ≡ Some (record { message = with_failure at r.message; out = false })
fails-again at r left =
    let more : (r.message.fails == length r.message.backoff) ≡ false = ne_eqb r.message.fails (length r.message.backoff) (λ same. omega arith) in
    λ i. if more i then None else Some (record { message = with_failure at r.message; out = false })

pub fails-last : (at : ℕ) (r : Row) → r.message.fails ≡ length r.message.backoff → after_failure at r ≡ None
fails-last at r last i = if eq-eqb r.message.fails (length r.message.backoff) last i then None else Some (record { message = with_failure at r.message; out = false })

pub not_exhausted : (id : MsgId) (rows : List Row) (r : Row) → is_rising row_cmp rows ≡ true → row_at id rows ≡ Some r → r.message.fails < length r.message.backoff → exhausted id (messages_of rows) ≡ None
not_exhausted id rows r rising is left =
    let more : (r.message.fails == length r.message.backoff) ≡ false = ne_eqb r.message.fails (length r.message.backoff) (λ same. omega arith) in
    exhausted-at id rows rising ∙ ap (λ o. option_and_then exhausted_row o) is ∙ (λ i. cond (more i) (Some r.message) None)

pub now_exhausted : (id : MsgId) (rows : List Row) (r : Row) → is_rising row_cmp rows ≡ true → row_at id rows ≡ Some r → r.message.fails ≡ length r.message.backoff → exhausted id (messages_of rows) ≡ Some r.message
now_exhausted id rows r rising is last =
    exhausted-at id rows rising ∙ ap (λ o. option_and_then exhausted_row o) is ∙ (λ i. cond (eq-eqb r.message.fails (length r.message.backoff) last i) (Some r.message) None)

-- the message that was put in is the message of its id
pub message_at-put_in : (id : MsgId) (r : Row) (rows : List Row) → r.message.id ≡ id → message_at id (put_in row_cmp r rows) ≡ Some r.message
message_at-put_in id r rows own =
    ap (option_map (λ s. s.message)) (row_at-put_in id r rows ∙ (λ i. cond ((ap (λ x. same_id x r.message.id) (sym own) ∙ same_id_self r.message.id) i) (Some r) (row_at id rows)))
