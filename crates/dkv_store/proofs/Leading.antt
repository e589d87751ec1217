-- Each call of a store leads on.
use Rattle.std.proofs.Common.{◌≡◌, Bool, Result, Ok, Err, inl, inr, ℕ, List, [], ◌∷◌, ◌++◌, Option, Some, refl, sym, ap, subst}
use Rattle.std.specs.Prelude.{MatchResult, IfOk, IfErr, OnOk, OnErr}
use Rattle.std.proofs.lemmas.List.{append-nil}
use Rattle.dkv_base.specs.declared.types.Call.{Call}
use Rattle.dkv_base.specs.declared.types.Commit.{Commit}
use Rattle.dkv_io.specs.Disks.{Told, AnyBytes}
use Rattle.dkv_io.proofs.Seen.{told_same}
use Rattle.dkv_core.specs.Decisions.{commit_of}
use Rattle.dkv_core.specs.declared.takes.Taken.{Taken}
use Rattle.dkv_core.specs.declared.takes.Taken.TheVariants as taken
use Rattle.dkv_store.specs.declared.answers.Done.{Done}
use Rattle.dkv_store.specs.declared.answers.Done.TheVariants as done
use Rattle.dkv_store.specs.declared.answers.Refusal.{Refusal}
use Rattle.dkv_store.specs.declared.answers.Refusal.TheVariants as refusal
use Rattle.dkv_store.specs.Attempts.{Attempt, made, left, attempted}
use Rattle.dkv_store.specs.Renewing.{IsNextTerm}
use Rattle.dkv_store.specs.Stores.{Contents, IsDone, IsHeldBack, IsRefused, IsMade, IsDoubtful, IsRaised, IsRaisedTo, IsOldOrNew, IsNotTaken, IsStopped, IsTake, SameDisks}
use Rattle.dkv_store.specs.Terms.{CommitLeaves, GoesOn, Leads}
use Rattle.dkv_hub.specs.Rows.{Watch, WatchRow, new_row}
use Rattle.dkv_core.specs.Cores.{Database}
use Rattle.dkv_store.specs.Watches.{with_watches, raised_to}
use Rattle.dkv_store.proofs.Answering.{raised_alone}
use Rattle.dkv_store.proofs.Watched.{moved}
use Rattle.dkv_store.proofs.Going.{goes_made, goes_doubt, goes_on}

module _ {D : Type 0} (seen : D → Option (List ℕ)) (images : D → List ℕ → Type 0) (moment : D → ℕ) (since : D → ℕ → List ℕ → Type 0) where
  module _ (old new : Contents D) where
    -- a call that makes no commit and leaves the files
    pub rests_leads : new.core.state ≡ old.core.state → new.who ≡ old.who → new.doubt ≡ old.doubt → new.a ≡ old.a → new.b ≡ old.b → Leads seen images moment since [] old new
    rests_leads state who doubt a b start attempts g =
        subst (λ (l : List Attempt). GoesOn seen images moment since l start new) (sym (append-nil attempts))
        (goes_on seen images moment since start old new attempts g (record {
          who = who;
          told_a = told_same (seen old.a) (seen new.a) (ap seen a);
          told_b = told_same (seen old.b) (seen new.b) (ap seen b);
        }) state doubt a b)

    -- so does one that leaves all but the greatest moment
    pub raised_leads : (t : ℕ) → IsRaisedTo t old new → Leads seen images moment since [] old new
    raised_leads t is = rests_leads is.state is.who is.doubt is.a is.b

    may_rise_leads : (t : ℕ) → IsRaised t old new → Leads seen images moment since [] old new
    may_rise_leads t (inl is) = raised_leads old.core.greatest is
    may_rise_leads t (inr is) = raised_leads t is

    module _ (who t : ℕ) (a : Call)
        (moves : CommitLeaves seen images moment since old (commit_of who t a) new)
        (told : Told AnyBytes (seen old.a) (seen new.a) × Told AnyBytes (seen old.b) (seen new.b)) where
      made_leads : (n : ℕ) → IsMade t (commit_of who t a) n old new → Leads seen images moment since (made (commit_of who t a) ∷ []) old new
      made_leads n is start attempts g = goes_made seen images moment since start old new attempts g t n (commit_of who t a) (record { who = is.who; told_a = told.0; told_b = told.1 }) is moves

      doubt_leads : IsDoubtful who t old new → IsOldOrNew old.doubt (commit_of who t a) new.doubt → Leads seen images moment since (left (commit_of who t a) ∷ []) old new
      doubt_leads is doubted start attempts g =
          goes_doubt seen images moment since start old new attempts g who t (commit_of who t a) (record { who = is.identity; told_a = told.0; told_b = told.1 }) is doubted moves

      pub commit_leads : (result : Result Done Refusal) → MatchResult result (λ d. IsDone old who t a d new) (λ e. IsRefused old who t a e new)
          → (result ≡ Err refusal.DiskFault → IsOldOrNew old.doubt (commit_of who t a) new.doubt)
          → Leads seen images moment since (attempted result (commit_of who t a)) old new
      commit_leads (Ok (done.Committed n)) is doubted = made_leads n is
      commit_leads (Ok (done.Fails places)) is doubted = raised_leads t is.1
      commit_leads (Ok (done.NotU64 index)) is doubted = raised_leads t is.1
      commit_leads (Ok (done.Limit passed)) is doubted = raised_leads old.core.greatest is.1
      commit_leads (Err refusal.DiskFault) is doubted = doubt_leads is.1 (doubted refl)
      commit_leads (Err (refusal.Stopped place)) is doubted = raised_leads t is.1
      commit_leads (Err (refusal.Full bytes limit)) is doubted = raised_leads t is.3
      commit_leads (Err refusal.NoMemory) is doubted = may_rise_leads t is

    -- a take adds the message that it gives to what is out
    module _ (same : SameDisks old new) where
      took_leads : (who t : ℕ) (result : Taken) → IsTake old who t result new → Leads seen images moment since [] old new
      took_leads who t (taken.Leased m) is = rests_leads is.0.2.state same.who same.doubt same.a same.b
      took_leads who t (taken.Nothing next) is = rests_leads is.0.2.state same.who same.doubt same.a same.b

      pub take_leads : (who t : ℕ) (result : Result Taken Refusal) → IfOk result (λ r. IsTake old who t r new) → IfErr result (λ e. IsNotTaken old who t e new) → Leads seen images moment since [] old new
      take_leads who t (Ok r) is short = took_leads who t r is
      take_leads who t (Err refusal.DiskFault) is short = absurd short
      take_leads who t (Err (refusal.Stopped place)) is short = raised_leads t short.1
      take_leads who t (Err (refusal.Full bytes limit)) is short = raised_leads t short.5
      take_leads who t (Err refusal.NoMemory) is short = raised_leads old.core.greatest short

    -- a further term begins on the state and the files as they stand
    pub term_leads : (limit : ℕ) → IsNextTerm old limit new → Leads seen images moment since [] old new
    term_leads limit is = rests_leads is.core.state is.who is.doubt is.a is.b

    -- a stop joins the trail, or nothing does
    pub stop_leads : {T E : Type 0} (who t : ℕ) (last : Bool) (result : Result T E) → OnOk result (IsStopped who t last old new) → OnErr result (IsRaisedTo old.core.greatest old new)
        → Leads seen images moment since [] old new
    stop_leads who t last (Ok x) is short = rests_leads (ap (λ (d : Database). d.state) is.core) is.disks.who is.disks.doubt is.disks.a is.disks.b
    stop_leads who t last (Err e) is short = raised_leads old.core.greatest short

    -- a write behind a stop
    pub held_leads : (t : ℕ) (a : Call) (c : Commit) (result : Result Done Refusal) → IsHeldBack old t a result new → Leads seen images moment since (attempted result c) old new
    held_leads t a c (Ok (done.Limit passed)) is = raised_leads old.core.greatest is.1
    held_leads t a c (Err (refusal.Stopped place)) is = raised_leads t is.1
    held_leads t a c (Ok (done.Committed n)) is = absurd is
    held_leads t a c (Ok (done.Fails places)) is = absurd is
    held_leads t a c (Ok (done.NotU64 index)) is = absurd is
    held_leads t a c (Err refusal.DiskFault) is = absurd is
    held_leads t a c (Err (refusal.Full bytes limit)) is = absurd is
    held_leads t a c (Err refusal.NoMemory) is = absurd is

  -- a read changes the greatest moment alone
  pub read_leads : (old new : Contents D) (t : ℕ) → new ≡ record old { core = record old.core { greatest = t } } → Leads seen images moment since [] old new
  read_leads old new t is = raised_leads old new t (raised_alone old new t is)

  -- a watch changes the greatest moment and the rows of those who watch alone
  pub watch_leads : (old new : Contents D) (t : ℕ) (rows : List WatchRow) → new ≡ with_watches rows (raised_to t old) → Leads seen images moment since [] old new
  watch_leads old new t rows is = raised_leads old new t (moved old new t rows is)

  -- a watch that began, or none
  pub began_leads : {E : Type 0} (old new : Contents D) (keys : List (List ℕ)) (r : Result Watch E) → IfOk r (λ w. new ≡ with_watches (old.core.watches ++ new_row w.number keys ∷ []) old) → OnErr r (new ≡ old)
      → Leads seen images moment since [] old new
  began_leads old new keys (Ok w) began same = watch_leads old new old.core.greatest (old.core.watches ++ new_row w.number keys ∷ []) began
  began_leads old new keys (Err e) began same = watch_leads old new old.core.greatest old.core.watches same
