-- What the rows of a queue say of the messages, and of those that are out.
use Rattle.std.proofs.Common.{◌≡◌, ℕ, Bool, true, false, cond, not, ◌&&◌, ◌||◌, List, [], ◌∷◌, length, map, filter, Option, Some, None, refl, sym, ap, ◌∙◌}
use Rattle.std.specs.Prelude.{◌==◌, find, option_map}
use Rattle.std.specs.List.{list_any, list_all, cons_option}
use Rattle.std.specs.Option.{option_map_or}
use Rattle.std.specs.Ordering.{is_lt}
use Rattle.std.proofs.lemmas.Bool.{and_parts, false≢true}
use Rattle.dkv_base.specs.declared.types.Message.{Message}
use Rattle.dkv_base.specs.declared.types.MsgId.{MsgId}
use Rattle.dkv_base.specs.Messages.{exhausted, is_out}
use Rattle.dkv_base.specs.State.{same_id, id_cmp, is_in_id_order}
use Rattle.dkv_base.proofs.IdOrder.{id_above}
use Rattle.dkv_base.proofs.NamedMessages.{same_id-true}
use Rattle.dkv_queue.specs.declared.row.Row.{Row}
use Rattle.dkv_queue.specs.Rows.{messages_of, is_row_of, is_row_out, waits, message_at, handed_out, rows_without, failed, after_failure as row_after_failure, with_failure, out_of}
use Rattle.dkv_queue.proofs.Laws.{out-rows}
use Rattle.dkv_core.specs.Settling.{without_id, is_last_failure, after_ack, after_failure, after_settlement, out_after}
use Rattle.dkv_core.specs.Rows.{settled_rows}
use Rattle.dkv_core.specs.declared.prepared.Settled.{Settled}
use Rattle.dkv_core.proofs.OneCommit.{same_id-turned}

-- ---- what is out

-- the message of what is out is there
pub taken_there : (id : MsgId) (rows : List Row) → is_row_out id rows ≡ true → list_any (λ m. same_id id m.id) (messages_of rows) ≡ true
taken_there id [] h = h
taken_there id (r ∷ rows) h = by (is_row_of id r) r.out (is_row_out id rows) (taken_there id rows) h
  where
    by : (a b t : Bool) → (t ≡ true → list_any (λ m. same_id id m.id) (messages_of rows) ≡ true) → (a && b || t) ≡ true → (a || list_any (λ m. same_id id m.id) (messages_of rows)) ≡ true
    by true b t rest h = refl
    by false b t rest h = rest h

-- a message that is there and not out waits
pub there_waits : (id : MsgId) (rows : List Row) → list_any (λ m. same_id id m.id) (messages_of rows) ≡ true → is_row_out id rows ≡ false → waits id rows ≡ true
there_waits id [] h out = h
there_waits id (r ∷ rows) h out = by (is_row_of id r) r.out (is_row_out id rows) (list_any (λ m. same_id id m.id) (messages_of rows)) (there_waits id rows) h out
  where
    by : (a b t here : Bool) → (here ≡ true → t ≡ false → waits id rows ≡ true) → (a || here) ≡ true → (a && b || t) ≡ false → (a && not b || waits id rows) ≡ true
    by true true t here rest h out = absurd (false≢true (sym out))
    by true false t here rest h out = refl
    by false b t here rest h out = rest h out

-- ---- a message that is taken

pub messages-taken : (id : MsgId) (rows : List Row) → messages_of (handed_out id rows) ≡ messages_of rows
messages-taken id [] = refl
messages-taken id (r ∷ rows) =
    elim (is_row_of id r) as (λ b. (let s : Row = cond b (record r { out = true }) r in s.message ∷ messages_of (handed_out id rows)) ≡ r.message ∷ messages_of rows) [
      | true ↦ ap (λ ms. r.message ∷ ms) (messages-taken id rows)
      | false ↦ ap (λ ms. r.message ∷ ms) (messages-taken id rows)
    ]

taken_other : (id k : MsgId) (rows : List Row) → same_id k id ≡ false → is_row_out k (handed_out id rows) ≡ is_row_out k rows
taken_other id k [] other = refl
taken_other id k (r ∷ rows) other =
    elim (is_row_of id r) as (λ b. is_row_of id r ≡ b → (let s : Row = cond b (record r { out = true }) r in is_row_of k s && s.out || is_row_out k (handed_out id rows)) ≡ (is_row_of k r && r.out || is_row_out k rows)) [
      | true ↦ λ is.
          let off : is_row_of k r ≡ false = ap (λ x. same_id k x) (sym (same_id-true id r.message.id is)) ∙ other in
          (λ i. off i && true || taken_other id k rows other i) ∙ (λ i. sym off i && r.out || is_row_out k rows)
      | false ↦ λ is. ap (λ t. is_row_of k r && r.out || t) (taken_other id k rows other)
    ] refl

taken_itself : (id : MsgId) (rows : List Row) → waits id rows ≡ true → is_row_out id (handed_out id rows) ≡ true
taken_itself id [] h = h
taken_itself id (r ∷ rows) h =
    elim (is_row_of id r) as (λ b. is_row_of id r ≡ b → (b && not r.out || waits id rows) ≡ true → (let s : Row = cond b (record r { out = true }) r in is_row_of id s && s.out || is_row_out id (handed_out id rows)) ≡ true) [
      | true ↦ λ is w. ap (λ t. t && true || is_row_out id (handed_out id rows)) is
      | false ↦ λ is w. ap (λ t. t && r.out || is_row_out id (handed_out id rows)) is ∙ taken_itself id rows w
    ] refl h

-- it is out, beside those that were
pub out-more_taken : (id k : MsgId) (rows : List Row) → waits id rows ≡ true → is_out k (out_of (handed_out id rows)) ≡ (is_out k (out_of rows) || same_id k id)
out-more_taken id k rows w =
    out-rows k (handed_out id rows)
    ∙ elim (same_id k id) as (λ b. same_id k id ≡ b → is_row_out k (handed_out id rows) ≡ (is_row_out k rows || b)) [
      | true ↦ λ same. ap (λ x. is_row_out x (handed_out id rows)) (same_id-true k id same) ∙ taken_itself id rows w ∙ sym (or_true (is_row_out k rows))
      | false ↦ λ other. taken_other id k rows other ∙ sym (or_false (is_row_out k rows))
    ] refl
    ∙ ap (λ t. t || same_id k id) (sym (out-rows k rows))
  where
    or_true : (b : Bool) → (b || true) ≡ true
    or_true true = refl
    or_true false = refl

    or_false : (b : Bool) → (b || false) ≡ b
    or_false true = refl
    or_false false = refl

-- ---- a message that is settled

messages-settled : (id : MsgId) (rows : List Row) → messages_of (rows_without id rows) ≡ after_ack id (messages_of rows)
messages-settled id [] = refl
messages-settled id (r ∷ rows) =
    elim (is_row_of id r) as (λ b. messages_of (cond (not b) (r ∷ rows_without id rows) (rows_without id rows)) ≡ cond (not b) (r.message ∷ after_ack id (messages_of rows)) (after_ack id (messages_of rows))) [
      | true ↦ messages-settled id rows
      | false ↦ ap (λ ms. r.message ∷ ms) (messages-settled id rows)
    ]

messages-failed : (id : MsgId) (at : ℕ) (rows : List Row) → messages_of (failed id at rows) ≡ after_failure id at (messages_of rows)
messages-failed id at [] = refl
messages-failed id at (r ∷ rows) =
    let ms = messages_of rows in
    let rest = messages-failed id at rows in
    elim (is_row_of id r) as (λ b. is_row_of id r ≡ b
    → messages_of (cons_option (cond b (row_after_failure at r) (Some r)) (failed id at rows))
    ≡ map (λ m. cond (same_id id m.id) (with_failure at m) m) (cond (not (b && (r.message.fails == length r.message.backoff))) (r.message ∷ filter (λ m. not (is_last_failure id m)) ms) (filter (λ m. not (is_last_failure id m)) ms))) [
      | true ↦ λ is. elim (r.message.fails == length r.message.backoff) as (λ t. messages_of (cons_option (cond t None (Some (record { message = with_failure at r.message; out = false }))) (failed id at rows))
          ≡ map (λ m. cond (same_id id m.id) (with_failure at m) m) (cond (not t) (r.message ∷ filter (λ m. not (is_last_failure id m)) ms) (filter (λ m. not (is_last_failure id m)) ms))) [
            | true ↦ rest
            | false ↦ λ i. sym (ap (λ t. cond t (with_failure at r.message) r.message) is) i ∷ rest i
          ]
      | false ↦ λ is. λ i. sym (ap (λ t. cond t (with_failure at r.message) r.message) is) i ∷ rest i
    ] refl

-- what settles a message does to the messages what it does to the rows
pub messages-after : (t : Option Settled) (at : ℕ) (rows : List Row) → messages_of (settled_rows t at rows) ≡ after_settlement t at (messages_of rows)
messages-after None at rows = refl
messages-after (Some t) at rows =
    elim t.done as (λ b. messages_of (cond b (rows_without t.id rows) (failed t.id at rows)) ≡ cond b (after_ack t.id (messages_of rows)) (after_failure t.id at (messages_of rows))) [
      | true ↦ messages-settled t.id rows
      | false ↦ messages-failed t.id at rows
    ]

abbrev ids : List Row → List MsgId
ids rows = map (λ r. r.message.id) rows

abbrev outs : List Row → List Row
outs rows = filter (λ r. r.out) rows

out-settled : (id : MsgId) (rows : List Row) → out_of (rows_without id rows) ≡ without_id id (out_of rows)
out-settled id [] = refl
out-settled id (r ∷ rows) =
    let rest = out-settled id rows in
    elim (is_row_of id r) as (λ b. is_row_of id r ≡ b → ids (outs (cond (not b) (r ∷ rows_without id rows) (rows_without id rows))) ≡ without_id id (ids (cond r.out (r ∷ outs rows) (outs rows)))) [
      | true ↦ λ is. rest ∙ elim r.out as (λ t. without_id id (out_of rows) ≡ without_id id (ids (cond t (r ∷ outs rows) (outs rows)))) [
        | true ↦ λ i. cond (not (sym (same_id-turned r.message.id id ∙ is) i)) (r.message.id ∷ without_id id (out_of rows)) (without_id id (out_of rows))
        | false ↦ refl
      ]
      | false ↦ λ is. elim r.out as (λ t. ids (cond t (r ∷ outs (rows_without id rows)) (outs (rows_without id rows))) ≡ without_id id (ids (cond t (r ∷ outs rows) (outs rows)))) [
        | true ↦ ap (λ ks. r.message.id ∷ ks) rest ∙ (λ i. cond (not (sym (same_id-turned r.message.id id ∙ is) i)) (r.message.id ∷ without_id id (out_of rows)) (without_id id (out_of rows)))
        | false ↦ rest
      ]
    ] refl

out-failed : (id : MsgId) (at : ℕ) (rows : List Row) → out_of (failed id at rows) ≡ without_id id (out_of rows)
out-failed id at [] = refl
out-failed id at (r ∷ rows) =
    let rest = out-failed id at rows in
    let back = failed id at rows in
    elim (is_row_of id r) as (λ b. is_row_of id r ≡ b → ids (outs (cons_option (cond b (row_after_failure at r) (Some r)) back)) ≡ without_id id (ids (cond r.out (r ∷ outs rows) (outs rows)))) [
      | true ↦ λ is.
          elim (r.message.fails == length r.message.backoff) as (λ t. ids (outs (cons_option (cond t None (Some (record { message = with_failure at r.message; out = false }))) back)) ≡ without_id id (out_of rows)) [ true ↦ rest | false ↦ rest ]
          ∙ elim r.out as (λ t. without_id id (out_of rows) ≡ without_id id (ids (cond t (r ∷ outs rows) (outs rows)))) [
            | true ↦ λ i. cond (not (sym (same_id-turned r.message.id id ∙ is) i)) (r.message.id ∷ without_id id (out_of rows)) (without_id id (out_of rows))
            | false ↦ refl
          ]
      | false ↦ λ is. elim r.out as (λ t. ids (cond t (r ∷ outs back) (outs back)) ≡ without_id id (ids (cond t (r ∷ outs rows) (outs rows)))) [
        | true ↦ ap (λ ks. r.message.id ∷ ks) rest ∙ (λ i. cond (not (sym (same_id-turned r.message.id id ∙ is) i)) (r.message.id ∷ without_id id (out_of rows)) (without_id id (out_of rows)))
        | false ↦ rest
      ]
    ] refl

-- and it is out no more
pub out-after : (t : Option Settled) (at : ℕ) (rows : List Row) → out_of (settled_rows t at rows) ≡ out_after t (out_of rows)
out-after None at rows = refl
out-after (Some t) at rows =
    elim t.done as (λ b. out_of (cond b (rows_without t.id rows) (failed t.id at rows)) ≡ without_id t.id (out_of rows)) [
      | true ↦ out-settled t.id rows
      | false ↦ out-failed t.id at rows
    ]

-- ---- what is due

-- ---- messages in the order of their ids

find-message : (id : MsgId) (rows : List Row) → message_at id rows ≡ find (λ m. same_id id m.id) (messages_of rows)
find-message id [] = refl
find-message id (r ∷ rows) = elim (is_row_of id r) as (λ b. option_map (λ s. s.message) (cond b (Some r) (find (is_row_of id) rows)) ≡ cond b (Some r.message) (find (λ m. same_id id m.id) (messages_of rows))) [
  | true ↦ refl
  | false ↦ find-message id rows
]

-- behind a message no other has its id
none_behind : (m : Message) (t : Message → Bool) (ms : List Message) → list_all (λ k. is_lt (id_cmp m.id k.id)) ms ≡ true → find (λ k. same_id m.id k.id && t k) ms ≡ None
none_behind m t [] above = refl
none_behind m t (k ∷ ms) above =
    let parts = and_parts (is_lt (id_cmp m.id k.id)) _ above in
    (λ i. cond (id_above m.id k.id parts.0 i && t k) (Some k) (find (λ x. same_id m.id x.id && t x) ms)) ∙ none_behind m t ms parts.1

abbrev if_so : (Message → Bool) → Option Message → Option Message
if_so t None = None
if_so t (Some m) = cond (t m) (Some m) None

-- a test beside the id is one of the message of the id
find-one : (id : MsgId) (t : Message → Bool) (ms : List Message) → is_in_id_order ms ≡ true → find (λ m. same_id id m.id && t m) ms ≡ if_so t (find (λ m. same_id id m.id) ms)
find-one id t [] order = refl
find-one id t (m ∷ ms) order =
    let parts = and_parts (list_all (λ k. is_lt (id_cmp m.id k.id)) ms) (is_in_id_order ms) order in
    elim (same_id id m.id) as (λ b. same_id id m.id ≡ b → cond (b && t m) (Some m) (find (λ k. same_id id k.id && t k) ms) ≡ if_so t (cond b (Some m) (find (λ k. same_id id k.id) ms))) [
      | true ↦ λ same. elim (t m) as (λ b. cond b (Some m) (find (λ k. same_id id k.id && t k) ms) ≡ cond b (Some m) None) [
        | true ↦ refl
        | false ↦ ap (λ x. find (λ k. same_id x k.id && t k) ms) (same_id-true id m.id same) ∙ none_behind m t ms parts.0
      ]
      | false ↦ λ other. find-one id t ms parts.1
    ] refl

-- one failure more is the last of the message of the id, or of none
pub last-of : (id : MsgId) (rows : List Row) (m : Message) → is_in_id_order (messages_of rows) ≡ true → Some m ≡ message_at id rows → exhausted id (messages_of rows) ≡ cond (m.fails == length m.backoff) (Some m) None
last-of id rows m order is =
    find-one id (λ k. k.fails == length k.backoff) (messages_of rows) order
    ∙ ap (if_so (λ k. k.fails == length k.backoff)) (sym (find-message id rows) ∙ sym is)

pub none-last : (id : MsgId) (rows : List Row) → is_in_id_order (messages_of rows) ≡ true → None ≡ message_at id rows → exhausted id (messages_of rows) ≡ None
none-last id rows order is =
    find-one id (λ k. k.fails == length k.backoff) (messages_of rows) order
    ∙ ap (if_so (λ k. k.fails == length k.backoff)) (sym (find-message id rows) ∙ sym is)

-- ---- what waits is not out

none_taken : (m : Message) (rows : List Row) → list_all (λ k. is_lt (id_cmp m.id k.id)) (messages_of rows) ≡ true → is_row_out m.id rows ≡ false
none_taken m [] above = refl
none_taken m (r ∷ rows) above =
    let parts = and_parts (is_lt (id_cmp m.id r.message.id)) _ above in
    (λ i. id_above m.id r.message.id parts.0 i && r.out || is_row_out m.id rows) ∙ none_taken m rows parts.1

pub waits_free : (id : MsgId) (rows : List Row) → is_in_id_order (messages_of rows) ≡ true → waits id rows ≡ true → is_row_out id rows ≡ false
waits_free id [] order w = refl
waits_free id (r ∷ rows) order w =
    let parts = and_parts (list_all (λ k. is_lt (id_cmp r.message.id k.id)) (messages_of rows)) _ order in
    elim (is_row_of id r) as (λ b. is_row_of id r ≡ b → (b && not r.out || waits id rows) ≡ true → (b && r.out || is_row_out id rows) ≡ false) [
      | true ↦ λ is here.
          let none : is_row_out id rows ≡ false = ap (λ x. is_row_out x rows) (same_id-true id r.message.id is) ∙ none_taken r.message rows parts.0 in
          let rest : waits id rows ≡ false = no_waits id rows (ap (λ x. x) none) is parts.0 in
          (λ i. r.out || none i) ∙ free r.out (sym (ap (λ b. not r.out || b) rest) ∙ here)
      | false ↦ λ is later. waits_free id rows parts.1 later
    ] refl w
  where
    free : (b : Bool) → (not b || false) ≡ true → (b || false) ≡ false
    free true h = absurd (false≢true h)
    free false h = refl

    no_waits : (x : MsgId) (rs : List Row) → is_row_out x rs ≡ false → same_id x r.message.id ≡ true → list_all (λ k. is_lt (id_cmp r.message.id k.id)) (messages_of rs) ≡ true → waits x rs ≡ false
    no_waits x [] h same above = refl
    no_waits x (s ∷ rs) h same above =
        let ps = and_parts (is_lt (id_cmp r.message.id s.message.id)) _ above in
        let off : is_row_of x s ≡ false = ap (λ y. same_id y s.message.id) (same_id-true x r.message.id same) ∙ id_above r.message.id s.message.id ps.0 in
        (λ i. off i && not s.out || waits x rs) ∙ no_waits x rs ((λ i. sym off i && s.out || is_row_out x rs) ∙ h) same ps.1

pub waits_there : (id : MsgId) (rows : List Row) → waits id rows ≡ true → list_any (λ m. same_id id m.id) (messages_of rows) ≡ true
waits_there id [] w = w
waits_there id (r ∷ rows) w = by (is_row_of id r) r.out (waits id rows) (waits_there id rows) w
  where
    by : (a b t : Bool) → (t ≡ true → list_any (λ m. same_id id m.id) (messages_of rows) ≡ true) → (a && not b || t) ≡ true → (a || list_any (λ m. same_id id m.id) (messages_of rows)) ≡ true
    by true b t rest h = refl
    by false b t rest h = rest h

-- what a settlement may be of, from the rows and from the ids that are out
pub may_settle : (t : Option Settled) (rows : List Row) → option_map_or (λ s. is_out s.id (out_of rows)) t true ≡ option_map_or (λ s. is_row_out s.id rows) t true
may_settle None rows = refl
may_settle (Some t) rows = out-rows t.id rows
