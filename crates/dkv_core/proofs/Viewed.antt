-- What a core's queue says is due, of the core.
use Rattle.std.proofs.Common.{◌≡◌, ℕ, Bool, true, false, not, List, Option, Some, None, refl, sym, ap, ◌∙◌}
use Rattle.std.specs.Prelude.{option_map}
use Rattle.std.proofs.lemmas.Bool.{and_from, and_parts}
use Rattle.dkv_base.specs.declared.types.Message.{Message}
use Rattle.dkv_base.specs.declared.types.MsgId.{MsgId}
use Rattle.dkv_base.specs.State.{is_in_id_order}
use Rattle.dkv_base.specs.After.{is_pending_id}
use Rattle.dkv_base.specs.Messages.{is_out, next, waiting, first_due}
use Rattle.dkv_queue.specs.declared.row.Row.{Row}
use Rattle.dkv_queue.specs.Rows.{messages_of, message_at, out_of}
use Rattle.dkv_queue.specs.Rows as queue
use Rattle.dkv_queue.specs.Answers.{IsDueNow, IsNoneDue}
use Rattle.dkv_core.specs.Cores.{Database}
use Rattle.dkv_core.specs.Takes.{waits, IsFirst, IsNone}
use Rattle.dkv_queue.proofs.Laws.{out-rows, waiting-rows, next-rows}
use Rattle.dkv_core.proofs.Rows.{waits_free, waits_there, there_waits}

-- the core has these rows
pub record HasRows (c : Database) (rows : List Row) : Type 0 where
  pub messages : c.state.messages ≡ messages_of rows
  pub out : c.out ≡ out_of rows

same_message : (m k : Message) → Some m ≡ Some k → m ≡ k
same_message m k e = cc e

module _ (c : Database) (rows : List Row) (has : HasRows c rows) where
  pub first_of_rows : (at : ℕ) (id : MsgId) (m : Message) → is_in_id_order (messages_of rows) ≡ true → IsDueNow at rows id → Some m ≡ message_at id rows → IsFirst c at m
  first_of_rows at id m order is found =
      let same : m ≡ is.message = same_message m is.message (found ∙ is.found) in
      let named : m.id ≡ id = ap (λ (k : Message). k.id) same ∙ is.named in
      let there : is_pending_id c.state m.id ≡ true = (λ i. is_pending_id (record c.state { messages = has.messages i }) (named i)) ∙ waits_there id rows is.waits in
      let free : is_out m.id c.out ≡ false = (λ i. is_out (named i) (has.out i)) ∙ out-rows id rows ∙ waits_free id rows order is.waits in
      record {
        first = (λ i. next c.state (has.out i) at) ∙ next-rows c.state rows at has.messages ∙ is.first ∙ ap Some (sym same);
        waits = and_from (is_pending_id c.state m.id) _ there (ap not free);
      }

  pub none_of_rows : (at : ℕ) (moment : Option ℕ) → IsNoneDue at rows moment → IsNone c at moment
  none_of_rows at moment is = record {
    none = (λ i. next c.state (has.out i) at) ∙ next-rows c.state rows at has.messages ∙ is.none;
    told = is.next ∙ ap (λ ms. option_map (λ (m : Message). m.due) (first_due ms)) (sym ((λ i. waiting c.state (has.out i)) ∙ waiting-rows c.state rows has.messages));
  }

  pub no_message : (at : ℕ) (id : MsgId) → is_in_id_order (messages_of rows) ≡ true → IsDueNow at rows id → None ≡ message_at id rows → ⊥
  no_message at id order is none =
      let e : None ≡ Some is.message = none ∙ is.found in
      cc e

  pub waits_row : (id : MsgId) → waits c id ≡ true → queue.waits id rows ≡ true
  waits_row id w =
      let parts = and_parts (is_pending_id c.state id) _ w in
      there_waits id rows (sym (ap (λ ms. is_pending_id (record c.state { messages = ms }) id) has.messages) ∙ parts.0)
      (sym (out-rows id rows) ∙ sym (ap (λ ids. is_out id ids) has.out) ∙ off (is_out id c.out) parts.1)
    where
      off : (b : Bool) → not b ≡ true → b ≡ false
      off true h = absurd (cc h)
      off false h = refl
