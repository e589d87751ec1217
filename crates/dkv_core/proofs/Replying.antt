-- What the calls of a core answer is what the definitions answer in each situation of the core.
use Rattle.std.proofs.Common.{◌≡◌, ◌≢◌, ℕ, ◌+◌, ◌-◌, ◌^◌, min, Bool, true, false, cond, not, ◌||◌, filter, List, [], ◌∷◌, ◌++◌, Option, Some, None, Result, Ok, Err, refl, sym, ap, ◌∙◌, arith}
use Rattle.std.specs.Prelude.{nat_lt, nat_le, is_ok, is_none, ◌&&◌, option_map, unwrap_or, sum_by}
use Rattle.std.specs.Bool.{then_some}
use Rattle.std.specs.Option.{option_map_or}
use Rattle.std.specs.Result.{result_err}
use Rattle.std.specs.List.{position_from}
use Rattle.std.proofs.lemmas.Bool.{and_parts, le-ltb, false≢true}
use Rattle.dkv_base.specs.declared.types.Answer.{Answer}
use Rattle.dkv_base.specs.declared.types.Answer.TheVariants as answer
use Rattle.dkv_base.specs.declared.types.Ask.{Ask}
use Rattle.dkv_base.specs.declared.types.Ask.TheVariants as ask
use Rattle.dkv_base.specs.declared.types.AtomicWrite.{AtomicWrite}
use Rattle.dkv_base.specs.declared.types.Call.TheVariants as call
use Rattle.dkv_base.specs.declared.types.Commit.TheVariants.{Wrote}
use Rattle.dkv_base.specs.declared.types.Entry.{Entry}
use Rattle.dkv_base.specs.declared.types.Item.{Item}
use Rattle.dkv_base.specs.declared.types.Item.TheVariants as item
use Rattle.dkv_base.specs.declared.codes.Limit.{Limit}
use Rattle.dkv_base.specs.declared.types.Message.{Message}
use Rattle.dkv_base.specs.declared.types.MsgId.{MsgId}
use Rattle.dkv_base.specs.declared.types.ReadRange.{ReadRange}
use Rattle.dkv_base.specs.Limits.{write_limit, read_limit, first_some}
use Rattle.dkv_base.specs.State.{State, is_empty, same_id, seen}
use Rattle.dkv_base.specs.declared.moments.TheConstants.{MAX_MOMENT}
use Rattle.dkv_base.specs.Writes.{failing, mutated_all}
use Rattle.dkv_base.specs.After.{after, is_legal_in}
use Rattle.dkv_base.specs.Trails.{weight, item_weight, is_stop}
use Rattle.dkv_base.specs.Messages.{is_out, waiting, next, first_due}
use Rattle.dkv_base.specs.Replies.{Reply, said, stopped, full, limited, fails_reply, read_reply}
use Rattle.dkv_base.specs.Steps.{Situation, reply_to, raised, settlement, lease_reply, take_reply}
use Rattle.dkv_base.proofs.Lists.{or_false}
use Rattle.dkv_base.proofs.NamedMessages.{same_id-true}
use Rattle.dkv_core.specs.Cores.{Database, Change, SameContent, applied}
use Rattle.dkv_core.specs.Settling.{without_id, out_after}
use Rattle.dkv_core.specs.Decisions.{Goes, commit_of, settled_by, settling}
use Rattle.dkv_core.specs.Takes.{IsFirst, IsNone, IsOutToo, IsRaised}
use Rattle.dkv_core.specs.declared.prepared.Settled.{Settled}
use Rattle.dkv_core.specs.Runs.{StandsFor, IsAnswered, no_limit}

-- a situation of the core stays one
pub stays : (s : Situation) (c d : Database) → SameContent c d → StandsFor s c → StandsFor s d
stays s c d same stands = record {
  state = stands.state ∙ sym same.state;
  out = λ id. stands.out id ∙ ap (λ (ids : List MsgId). is_out id ids) (sym same.out);
  greatest = stands.greatest ∙ sym same.greatest;
  unstopped = stands.unstopped;
  unlimited = stands.unlimited;
}

-- the core was raised, and nothing else
pub record SameAt (c : Database) (t : ℕ) (d : Database) : Type 0 where
  pub state : d.state ≡ c.state
  pub out : d.out ≡ c.out
  pub greatest : d.greatest ≡ t

-- and one of the core that was raised, where it is raised
pub rises : (s : Situation) (c d : Database) (t : ℕ) → SameAt c t d → StandsFor s c → StandsFor (raised t s) d
rises s c d t same stands = record {
  state = stands.state ∙ sym same.state;
  out = λ id. stands.out id ∙ ap (λ (ids : List MsgId). is_out id ids) (sym same.out);
  greatest = sym same.greatest;
  unstopped = stands.unstopped;
  unlimited = stands.unlimited;
}

-- the prepared commit was made
pub record Made (c : Database) (p : Change) (d : Database) : Type 0 where
  pub state : d.state ≡ applied p c.state
  pub out : d.out ≡ out_after p.settled c.out
  pub greatest : d.greatest ≡ p.moment

-- cores of one content answer alike
pub same_answers : (c d e : Database) (who t : ℕ) (a : Ask) (r : Answer) → SameContent c d → IsAnswered d who t a r e → IsAnswered c who t a r e
same_answers c d e who t a r same is = λ s stands. is s (stays s c d same stands)

pub read_limited : (c : Database) (who t : ℕ) (ranges : List ReadRange) (passed : Limit) → read_limit ranges ≡ Some passed → IsAnswered c who t (ask.Read ranges) (answer.Limit passed) c
read_limited c who t ranges passed is = λ s stands.
    (ap (λ (o : Option Limit). option_map_or limited o (said (answer.Entries (read_reply s.state t ranges)))) is, stands)

pub read_given : (c d : Database) (who t : ℕ) (ranges : List ReadRange) (given : List (List Entry)) → read_limit ranges ≡ None → given ≡ read_reply c.state t ranges
    → SameAt c t d → IsAnswered c who t (ask.Read ranges) (answer.Entries given) d
read_given c d who t ranges given free is same = λ s stands. (
  ap (λ (o : Option Limit). option_map_or limited o (said (answer.Entries (read_reply s.state t ranges)))) free
      ∙ ap (λ (x : State). said (answer.Entries (read_reply x t ranges))) stands.state ∙ ap (λ (es : List (List Entry)). said (answer.Entries es)) (sym is),
  rises s c d t same stands,
)

-- the rows of a reply to a write
abbrev pub rows : Option Limit → Option ℕ → List ℕ → Option ℕ → Bool → Reply → ℕ → Reply
rows passed stop places bad over heavy n = unwrap_or (first_some (
    option_map limited passed
    ∷ option_map stopped stop
    ∷ fails_reply places
    ∷ option_map (λ place. said (answer.NotU64 place)) bad
    ∷ then_some over heavy
    ∷ [])) (said (answer.Written n))

never_over : (x limit : ℕ) → limit ≡ no_limit → nat_lt limit (min x (2 ^ 64 - 1)) ≡ false
never_over x limit is = le-ltb limit (min x (2 ^ 64 - 1)) (omega (arith, is))

-- those of a write, where nothing stops and no weight passes the limit
pub in_rows : (s : Situation) (c : Database) (who t : ℕ) (w : AtomicWrite) → StandsFor s c
    → reply_to s who t (ask.Write w)
    ≡ rows (write_limit w) None (failing w (seen c.state t)) (result_err (mutated_all w (c.state.number + 1) t (seen c.state t))) false (full (weight s.trail) s.limit) (c.state.number + 1)
in_rows s c who t w stands =
    let room = never_over (sum_by item_weight (s.trail ++ item.Made (Wrote who t w) ∷ [])) s.limit stands.unlimited in
    λ i. rows (write_limit w) (stands.unstopped i) (failing w (seen (stands.state i) t)) (result_err (mutated_all w ((stands.state i).number + 1) t (seen (stands.state i) t))) (room i) (full (weight s.trail) s.limit) ((stands.state i).number + 1)

pub write_limited : (c d : Database) (who t : ℕ) (w : AtomicWrite) (passed : Limit) → write_limit w ≡ Some passed → SameContent c d → IsAnswered c who t (ask.Write w) (answer.Limit passed) d
write_limited c d who t w passed is same = λ s stands. (
  in_rows s c who t w stands
      ∙ ap (λ (o : Option Limit). rows o None (failing w (seen c.state t)) (result_err (mutated_all w (c.state.number + 1) t (seen c.state t))) false (full (weight s.trail) s.limit) (c.state.number + 1)) is,
  stays s c d same stands,
)

fails_row : (places : List ℕ) (bad : Option ℕ) (heavy : Reply) (n : ℕ) → places ≢ [] → rows None None places bad false heavy n ≡ said (answer.Fails places)
fails_row [] bad heavy n some = absurd (some refl)
fails_row (place ∷ places) bad heavy n some = refl

pub write_fails : (c d : Database) (who t : ℕ) (w : AtomicWrite) (places : List ℕ) → (write_limit w ≡ None) × (failing w (seen c.state t) ≡ places) × (places ≢ [])
    → SameAt c t d → IsAnswered c who t (ask.Write w) (answer.Fails places) d
write_fails c d who t w places is same = λ s stands. (
  in_rows s c who t w stands
      ∙ (λ i. rows (is.0 i) None (is.1 i) (result_err (mutated_all w (c.state.number + 1) t (seen c.state t))) false (full (weight s.trail) s.limit) (c.state.number + 1))
      ∙ fails_row places (result_err (mutated_all w (c.state.number + 1) t (seen c.state t))) (full (weight s.trail) s.limit) (c.state.number + 1) is.2,
  rises s c d t same stands,
)

pub write_not_u64 : (c d : Database) (who t : ℕ) (w : AtomicWrite) (index : ℕ)
    → (write_limit w ≡ None) × (failing w (seen c.state t) ≡ []) × (mutated_all w (c.state.number + 1) t (seen c.state t) ≡ Err index)
    → SameAt c t d → IsAnswered c who t (ask.Write w) (answer.NotU64 index) d
write_not_u64 c d who t w index is same = λ s stands. (
  in_rows s c who t w stands
      ∙ (λ i. rows (is.0 i) None (is.1 i) (result_err (is.2 i)) false (full (weight s.trail) s.limit) (c.state.number + 1)),
  rises s c d t same stands,
)

no_items : {X : Type 0} (xs : List X) → is_empty xs ≡ true → xs ≡ []
no_items [] h = refl
no_items (x ∷ xs) h = absurd (cc h)

none_is : {X : Type 0} (o : Option X) → is_none o ≡ true → o ≡ None
none_is None h = refl
none_is (Some x) h = absurd (cc h)

no_error : {X : Type 0} (r : Result X ℕ) → is_ok r ≡ true → result_err r ≡ None
no_error (Ok x) h = refl
no_error (Err k) h = absurd (cc h)

-- what is no stop stops nothing
still_none : (i : ℕ) (xs : List Item) (y : Item) → is_stop y ≡ false → position_from is_stop i xs ≡ None → position_from is_stop i (xs ++ y ∷ []) ≡ None
still_none i [] y other none = ap (λ b. cond b (Some i) None) other
still_none i (x ∷ xs) y other none =
    elim (is_stop x) as (λ b. cond b (Some i) (position_from is_stop (i + 1) xs) ≡ None → cond b (Some i) (position_from is_stop (i + 1) (xs ++ y ∷ [])) ≡ None) [
      | true ↦ λ is. is
      | false ↦ λ is. still_none (i + 1) xs y other is
    ] none

-- what a write that goes passes
pub record Free (c : Database) (t : ℕ) (w : AtomicWrite) : Type 0 where
  pub limits : write_limit w ≡ None
  pub checks : failing w (seen c.state t) ≡ []
  pub numbers : result_err (mutated_all w (c.state.number + 1) t (seen c.state t)) ≡ None

pub free : (c : Database) (who t : ℕ) (w : AtomicWrite) → is_legal_in c.state (Wrote who t w) ≡ true → Free c t w
free c who t w legal =
    let may = (and_parts (nat_le c.state.moment t && nat_le t MAX_MOMENT) _ legal).1 in
    let parts = and_parts (is_none (write_limit w) && is_empty (failing w (seen c.state t))) _ may in
    let first = and_parts (is_none (write_limit w)) _ parts.0 in
    record {
      limits = none_is (write_limit w) first.0;
      checks = no_items (failing w (seen c.state t)) first.1;
      numbers = no_error (mutated_all w (c.state.number + 1) t (seen c.state t)) parts.1;
    }

pub write_goes : (c d : Database) (who t : ℕ) (w : AtomicWrite) (p : Change) → Goes c who t (call.Write w) p → Made c p d → IsAnswered c who t (ask.Write w) (answer.Written p.number) d
write_goes c d who t w p is made = λ s stands.
    let passes = free c who t w is.legal in (
      in_rows s c who t w stands
          ∙ (λ i. rows (passes.limits i) None (passes.checks i) (passes.numbers i) false (full (weight s.trail) s.limit) (c.state.number + 1))
          ∙ ap (λ (n : ℕ). said (answer.Written n)) (sym is.ready.number),
      record {
        state = ap (λ (x : State). after x (Wrote who t w ∷ [])) stands.state ∙ sym is.makes ∙ sym made.state;
        out = λ id. stands.out id ∙ ap (λ (ids : List MsgId). is_out id ids) (sym (made.out ∙ ap (λ (o : Option Settled). out_after o c.out) is.settles));
        greatest = sym (made.greatest ∙ is.moment);
        unstopped = still_none 0 s.trail (item.Made (Wrote who t w)) refl stands.unstopped;
        unlimited = stands.unlimited;
      },
    )

-- ---- settlements

pub settles_commit : (done : Bool) (who t : ℕ) (id : MsgId) → commit_of who t (settling done id) ≡ settlement done who t id
settles_commit true who t id = refl
settles_commit false who t id = refl

settles_out : (done : Bool) (id : MsgId) (ids : List MsgId) → out_after (settled_by (settling done id)) ids ≡ without_id id ids
settles_out true id ids = refl
settles_out false id ids = refl

-- ids that are the same tell the same when one is taken away
pub out-without : (id k : MsgId) (ids : List MsgId) → is_out k (without_id id ids) ≡ (not (same_id k id) && is_out k ids)
out-without id k [] = false_right (not (same_id k id))
  where
    false_right : (b : Bool) → false ≡ (b && false)
    false_right true = refl
    false_right false = refl
out-without id k (x ∷ ids) =
    elim (same_id x id) as (λ b. same_id x id ≡ b → is_out k (cond (not b) (x ∷ without_id id ids) (without_id id ids)) ≡ (not (same_id k id) && (same_id k x || is_out k ids))) [
      | true ↦ λ e. out-without id k ids ∙ gone (same_id k id) (same_id k x) (is_out k ids) (λ h. ap (λ y. same_id k y) (sym (same_id-true x id e)) ∙ h)
      | false ↦ λ e. ap (λ b. same_id k x || b) (out-without id k ids) ∙ kept (same_id k id) (same_id k x) (is_out k ids) (λ h. ap (λ y. same_id y id) (same_id-true k x h) ∙ e)
    ] refl
  where
    gone : (same here rest : Bool) → (here ≡ true → same ≡ true) → (not same && rest) ≡ (not same && (here || rest))
    gone true here rest h = refl
    gone false true rest h = absurd (false≢true (h refl))
    gone false false rest h = refl

    kept : (same here rest : Bool) → (here ≡ true → same ≡ false) → (here || (not same && rest)) ≡ (not same && (here || rest))
    kept same true rest h = sym (ap (λ b. not b && true) (h refl))
    kept same false rest h = refl

pub settle_none : (c d : Database) (who t : ℕ) (id : MsgId) (done : Bool) → is_out id c.out ≡ false → SameContent c d → IsAnswered c who t (ask.Settle id done) answer.NoLease d
settle_none c d who t id done none same = λ s stands. (
  ap (λ b. cond b (said (answer.Settled (s.state.number + 1))) (said answer.NoLease)) (stands.out id ∙ none),
  stays s c d same stands,
)

pub settle_made : (c d : Database) (who t : ℕ) (id : MsgId) (done : Bool) (p : Change) → is_out id c.out ≡ true → Goes c who t (settling done id) p → Made c p d
    → IsAnswered c who t (ask.Settle id done) (answer.Settled p.number) d
settle_made c d who t id done p out is made = λ s stands. (
  ap (λ b. cond b (said (answer.Settled (s.state.number + 1))) (said answer.NoLease)) (stands.out id ∙ out)
      ∙ ap (λ (n : ℕ). said (answer.Settled n)) (ap (λ (x : State). x.number + 1) stands.state ∙ sym is.ready.number),
  record {
    state = (λ i. after (stands.state i) (sym (settles_commit done who t id) i ∷ [])) ∙ sym is.makes ∙ sym made.state;
    out = λ k. out-without id k s.out ∙ ap (λ b. not (same_id k id) && b) (stands.out k) ∙ sym (out-without id k c.out)
        ∙ ap (λ (ids : List MsgId). is_out k ids) (sym (made.out ∙ ap (λ (o : Option Settled). out_after o c.out) is.settles ∙ settles_out done id c.out));
    greatest = sym (made.greatest ∙ is.moment);
    unstopped = still_none 0 s.trail (item.Made (settlement done who t id)) refl stands.unstopped;
    unlimited = stands.unlimited;
  },
)

-- ---- takes

waiting-alike : (s : Situation) (c : Database) → StandsFor s c → waiting s.state s.out ≡ waiting c.state c.out
waiting-alike s c stands = λ i. filter (λ m. not (stands.out m.id i)) (stands.state i).messages

-- the reply to a take, where nothing stops and no weight passes the limit
take_rows : (s : Situation) (c : Database) (who t : ℕ) → StandsFor s c
    → take_reply s who t ≡ option_map_or (λ m. said (answer.Leased m)) (next c.state c.out t) (said (answer.Nothing (option_map (λ m. m.due) (first_due (waiting c.state c.out)))))
take_rows s c who t stands =
    (λ i. unwrap_or (first_some (option_map stopped (stands.unstopped i) ∷ option_map (lease_reply s who t) (first_due (filter (λ m. nat_le m.due t) (waiting-alike s c stands i))) ∷ []))
    (said (answer.Nothing (option_map (λ m. m.due) (first_due (waiting-alike s c stands i))))))
    ∙ leased (next c.state c.out t)
  where
    leased : (o : Option Message) → unwrap_or (first_some (None ∷ option_map (lease_reply s who t) o ∷ [])) (said (answer.Nothing (option_map (λ m. m.due) (first_due (waiting c.state c.out)))))
        ≡ option_map_or (λ m. said (answer.Leased m)) o (said (answer.Nothing (option_map (λ m. m.due) (first_due (waiting c.state c.out)))))
    leased None = refl
    leased (Some m) = ap (λ b. cond b (full (weight s.trail) s.limit) (said (answer.Leased m))) (never_over (sum_by item_weight (s.trail ++ item.Took who t m.id ∷ [])) s.limit stands.unlimited)

out-more : (k : MsgId) (ids : List MsgId) (id : MsgId) → is_out k (ids ++ id ∷ []) ≡ (is_out k ids || same_id k id)
out-more k [] id = or_false (same_id k id)
out-more k (x ∷ ids) id = ap (λ b. same_id k x || b) (out-more k ids id) ∙ sym (or_assoc (same_id k x) (is_out k ids) (same_id k id))
  where
    or_assoc : (a b c : Bool) → ((a || b) || c) ≡ (a || (b || c))
    or_assoc true b c = refl
    or_assoc false b c = refl

pub take_leased : (c d : Database) (who t : ℕ) (m : Message) → IsFirst c t m → IsOutToo c m.id d → IsRaised c t d → IsAnswered c who t ask.Take (answer.Leased m) d
take_leased c d who t m is out raised = λ s stands. (
  take_rows s c who t stands ∙ ap (λ o. option_map_or (λ k. said (answer.Leased k)) o (said (answer.Nothing (option_map (λ k. k.due) (first_due (waiting c.state c.out)))))) is.first,
  record {
    state = stands.state ∙ sym raised.state;
    out = λ k. out-more k s.out m.id ∙ ap (λ b. b || same_id k m.id) (stands.out k) ∙ sym (out k);
    greatest = sym raised.greatest;
    unstopped = still_none 0 s.trail (item.Took who t m.id) refl stands.unstopped;
    unlimited = stands.unlimited;
  },
)

pub take_nothing : (c d : Database) (who t : ℕ) (moment : Option ℕ) → IsNone c t moment → d.out ≡ c.out → IsRaised c t d → IsAnswered c who t ask.Take (answer.Nothing moment) d
take_nothing c d who t moment is out raised = λ s stands. (
  take_rows s c who t stands
      ∙ ap (λ o. option_map_or (λ k. said (answer.Leased k)) o (said (answer.Nothing (option_map (λ k. k.due) (first_due (waiting c.state c.out)))))) is.none
      ∙ ap (λ o. said (answer.Nothing o)) (sym is.told),
  rises s c d t (record { state = raised.state; out = out; greatest = raised.greatest }) stands,
)
