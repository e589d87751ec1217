-- What rows say of the database that they speak of: the layer above cites these.
use Rattle.std.proofs.Common.{◌≡◌, ℕ, Bool, true, false, cond, not, ◌&&◌, ◌||◌, List, [], ◌∷◌, map, filter, Option, refl, sym, ap, ◌∙◌}
use Rattle.std.specs.Prelude.{nat_le}
use Rattle.dkv_base.specs.declared.types.Message.{Message}
use Rattle.dkv_base.specs.declared.types.MsgId.{MsgId}
use Rattle.dkv_base.specs.Messages.{first_due, is_out, waiting, next}
use Rattle.dkv_base.specs.State.{State}
use Rattle.dkv_queue.specs.declared.row.Row.{Row}
use Rattle.dkv_queue.specs.Rows.{messages_of, is_row_of, is_row_out, out_rows, out_of, waiting_of, due_at}

-- an id is among those that are out where its row says so
pub out-rows : (id : MsgId) (rows : List Row) → is_out id (out_of rows) ≡ is_row_out id rows
out-rows id [] = refl
out-rows id (r ∷ rows) =
    elim r.out as (λ b. is_out id (map (λ s. s.message.id) (cond b (r ∷ out_rows rows) (out_rows rows))) ≡ ((is_row_of id r && b) || is_row_out id rows)) [
      | true ↦ (λ i. sym (and_true (is_row_of id r)) i || out-rows id rows i)
      | false ↦ out-rows id rows ∙ (λ i. sym (and_false (is_row_of id r)) i || is_row_out id rows)
    ]
  where
    and_true : (b : Bool) → (b && true) ≡ b
    and_true true = refl
    and_true false = refl

    and_false : (b : Bool) → (b && false) ≡ false
    and_false true = refl
    and_false false = refl

-- the messages that wait are those of each state with the rows' messages
pub waiting-rows : (s : State) (rows : List Row) → s.messages ≡ messages_of rows → waiting s (out_of rows) ≡ waiting_of rows
waiting-rows s rows is = ap (λ ms. filter (λ (m : Message). not (is_out m.id (out_of rows))) ms) is

-- and so is the one that is due first
pub next-rows : (s : State) (rows : List Row) (at : ℕ) → s.messages ≡ messages_of rows → next s (out_of rows) at ≡ due_at at rows
next-rows s rows at is = ap (λ ms. first_due (filter (λ m. nat_le m.due at) ms)) (waiting-rows s rows is)
