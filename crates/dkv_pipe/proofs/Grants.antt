-- Grants that leave no mark, and wishes that are refused before the store is asked.
use Rattle.std.proofs.Common.{◌≡◌, refl, sym, ap, subst, ◌∙◌, ℕ, ◌+◌, ◌≤◌, true, false, cond, List, [], Option, Some, None, Result, Ok, arith}
use Rattle.std.specs.Option.{option_map_or}
use Rattle.dkv_base.specs.declared.types.Answer.{Answer}
use Rattle.dkv_base.specs.declared.types.Answer.TheVariants as answer
use Rattle.dkv_base.specs.declared.types.Ask.{Ask}
use Rattle.dkv_base.specs.declared.types.Ask.TheVariants as ask
use Rattle.dkv_base.specs.declared.types.AtomicWrite.{AtomicWrite}
use Rattle.dkv_base.specs.declared.types.Call.{Call}
use Rattle.dkv_base.specs.declared.types.Call.TheVariants as call
use Rattle.dkv_base.specs.declared.codes.Limit.{Limit}
use Rattle.dkv_base.specs.declared.types.Profile.{Profile}
use Rattle.dkv_base.specs.declared.types.Profile.TheVariants.{Narrow}
use Rattle.dkv_base.specs.declared.types.ReadRange.{ReadRange}
use Rattle.dkv_base.specs.Limits.{read_limit, write_limit_at}
use Rattle.dkv_base.specs.Replies.{Reply, said, limited, read_reply}
use Rattle.dkv_base.specs.declared.types.Commit.TheVariants as commit
use Rattle.dkv_base.specs.Steps.{Situation, effective, reply_to, answered, leaves_moment, is_commit, raised, change, settlement}
use Rattle.dkv_base.specs.Trails.{first_stop}
use Rattle.dkv_core.specs.Decisions.{may_ask}
use Rattle.dkv_msgs.specs.Readings.{reads_atomic_write}
use Rattle.dkv_store.specs.Attempts.{Attempt}
use Rattle.dkv_store.specs.Stores.{Contents}
use Rattle.dkv_store.specs.Situations as situations
use Rattle.dkv_store.specs.Situations.{StandsFor, ask_of}
use Rattle.dkv_store.specs.Terms.{Leads}
use Rattle.dkv_store.proofs.Answering.{limit_reply}
use Rattle.dkv_pipe.specs.Wishes.{Wish, asks, malformed, readings, wish_of_read}
use Rattle.dkv_pipe.specs.ReplyFrames.{bytes_of_reply, answer_bytes, limit_bytes, malformed_bytes}
use Rattle.dkv_pipe.specs.Pipe.{grant}
use Rattle.dkv_pipe.specs.Attempts.{tried, ask_attempts, wish_attempts}
use Rattle.dkv_pipe.specs.Grants.{Grants}
use Rattle.dkv_pipe.proofs.Reaching.{leads_none}

-- what is answered without a commit tries none
pub nothing_tried : (s : Situation) (a : Ask) (who t : ℕ) → is_commit (reply_to s who t a) ≡ false → ask_attempts s a who t false ≡ []
nothing_tried s (ask.Read ranges) who t is = refl
nothing_tried s (ask.Write w) who t is = ap (λ b. tried false b (commit.Wrote who t w)) is
nothing_tried s (ask.Watch keys) who t is = refl
nothing_tried s ask.Poll who t is = refl
nothing_tried s ask.Take who t is = refl
nothing_tried s (ask.Settle id done) who t is = ap (λ b. tried false b (settlement done who t id)) is

module _ {D : Type 0} (seen : D → Option (List ℕ)) (images : D → List ℕ → Type 0) (faults moment : D → ℕ) (since : D → ℕ → List ℕ → Type 0) where
  -- without a mark
  pub unmarked : (old new : Contents D) (w : Wish) (who at : ℕ) (out : List ℕ)
      → ((s : Situation) → StandsFor s old → ((grant w who at false s).0 ≡ out) × StandsFor (grant w who at false s).1 new)
      → ((s : Situation) → StandsFor s old → Leads seen images moment since (wish_attempts s w who at false) old new)
      → faults old.a ≤ faults new.a → faults old.b ≤ faults new.b → new.core.state.number ≤ old.core.state.number + 1
      → Grants seen images faults moment since old w who at out new
  unmarked old new w who at out steps leads later_a later_b number = record {
    mark = false;
    steps = steps;
    marked = tt;
    reaches = record { marked = λ low_a low_b. omega (arith, later_a, later_b); later_a = later_a; later_b = later_b; number = number };
    leads = leads;
  }

  -- what a store answers is granted
  pub answered_granted : (old new : Contents D) (a : Ask) (who at : ℕ) (r : Reply) (out : List ℕ) → situations.Answers old who at a false r new → out ≡ bytes_of_reply r
      → ((s : Situation) → StandsFor s old → Leads seen images moment since (ask_attempts s a who (effective s at) false) old new)
      → faults old.a ≤ faults new.a → faults old.b ≤ faults new.b → new.core.state.number ≤ old.core.state.number + 1
      → Grants seen images faults moment since old (asks a) who at out new
  answered_granted old new a who at r out is told leads later_a later_b number =
      unmarked old new (asks a) who at out (λ s stands. let here = is s stands in (ap bytes_of_reply here.0 ∙ sym told, here.1)) leads later_a later_b number

  -- a call that changes nothing
  pub stays_granted : (s : Contents D) (w : Wish) (who at : ℕ) (out : List ℕ)
      → ((t : Situation) → StandsFor t s → ((grant w who at false t).0 ≡ out) × StandsFor (grant w who at false t).1 s)
      → ((t : Situation) → StandsFor t s → wish_attempts t w who at false ≡ []) → Grants seen images faults moment since s w who at out s
  stays_granted s w who at out steps none = unmarked s s w who at out steps
      (λ t stands. subst (λ (l : List Attempt). Leads seen images moment since l s s) (sym (none t stands)) (leads_none seen images moment since s)) (omega arith) (omega arith) (omega arith)

  pub malformed_granted : (s : Contents D) (place who at : ℕ) (out : List ℕ) → out ≡ malformed_bytes place → Grants seen images faults moment since s (malformed place) who at out s
  malformed_granted s place who at out told = stays_granted s (malformed place) who at out (λ t stands. (sym told, stands)) (λ t stands. refl)

  -- an answer that leaves the moment as it is
  pub refused_granted : (s : Contents D) (a : Ask) (who at : ℕ) (r : Answer) (out : List ℕ) → leaves_moment (said r) ≡ true → is_commit (said r) ≡ false
      → ((t : Situation) → StandsFor t s → reply_to t who (effective t at) a ≡ said r) → out ≡ answer_bytes r → Grants seen images faults moment since s (asks a) who at out s
  refused_granted s a who at r out leaves no_commit is told = stays_granted s (asks a) who at out (λ t stands.
      let here = is t stands in (
        ap bytes_of_reply here ∙ sym told,
        subst (λ (q : Reply). StandsFor (answered who (effective t at) a q t) s) (sym here)
            (subst (λ (u : Situation). StandsFor u s) (sym (ap (λ b. cond b t (raised (effective t at) (change who (effective t at) a (said r) t))) leaves)) stands),
      ))
      (λ t stands. nothing_tried t a who (effective t at) (ap is_commit (is t stands) ∙ no_commit))

  -- a settlement of what isn't out
  pub lost_granted : (s : Contents D) (who at : ℕ) (a : Call) (out : List ℕ) → may_ask s.core a ≡ false → out ≡ answer_bytes answer.NoLease → Grants seen images faults moment since s (asks (ask_of a)) who at out s
  lost_granted s who at (call.Write w) out may told = absurd (cc may)
  lost_granted s who at (call.Ack id) out may told =
      refused_granted s (ask.Settle id true) who at answer.NoLease out refl refl
      (λ t stands. ap (λ b. cond b (said (answer.Settled (t.state.number + 1))) (said answer.NoLease)) (stands.out id ∙ may)) told
  lost_granted s who at (call.Fail id) out may told =
      refused_granted s (ask.Settle id false) who at answer.NoLease out refl refl
      (λ t stands. ap (λ b. cond b (said (answer.Settled (t.state.number + 1))) (said answer.NoLease)) (stands.out id ∙ may)) told

  -- a read that passes a limit
  pub read_limited_granted : (s : Contents D) (who at : ℕ) (ranges : List ReadRange) (passed : Limit) (out : List ℕ) → read_limit ranges ≡ Some passed → out ≡ limit_bytes passed
      → Grants seen images faults moment since s (asks (ask.Read ranges)) who at out s
  read_limited_granted s who at ranges passed out is told =
      refused_granted s (ask.Read ranges) who at (answer.Limit passed) out refl refl
      (λ t stands. ap (λ (o : Option Limit). option_map_or limited o (said (answer.Entries (read_reply t.state (effective t at) ranges)))) is) told

  -- a write that passes a limit on counts, at any profile
  pub write_limited_granted : (s : Contents D) (who at : ℕ) (w : AtomicWrite) (passed : Limit) (out : List ℕ) → first_stop s.trail ≡ None → ((p : Profile) → write_limit_at p w ≡ Some passed) → out ≡ limit_bytes passed
      → Grants seen images faults moment since s (asks (ask.Write w)) who at out s
  write_limited_granted s who at w passed out none is told =
      refused_granted s (ask.Write w) who at (answer.Limit passed) out refl refl
      (λ t stands. limit_reply s s t who (effective t at) w passed (is Narrow) stands) told

  -- the same of a body that was read
  pub write_refused : (s : Contents D) (body : List ℕ) (who at : ℕ) (passed : Limit) (out : List ℕ) → first_stop s.trail ≡ None
      → (w : AtomicWrite) × (reads_atomic_write body ≡ Ok w) × ((p : Profile) → write_limit_at p w ≡ Some passed) → out ≡ limit_bytes passed
      → Grants seen images faults moment since s (wish_of_read ask.Write (readings.write_of body)) who at out s
  write_refused s body who at passed out none (w, is, limit) told =
      subst (λ (r : Result AtomicWrite ℕ). Grants seen images faults moment since s (wish_of_read ask.Write r) who at out s) (sym is) (write_limited_granted s who at w passed out none limit told)
