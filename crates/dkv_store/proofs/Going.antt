-- A store goes on by each of its calls.
use Rattle.std.proofs.Common.{◌≡◌, ◌⊎◌, inl, inr, append_assoc, ℕ, Bool, true, List, [], ◌∷◌, ◌++◌, Option, Some, None, refl, sym, ap, subst, ◌∙◌}
use Rattle.std.proofs.lemmas.List.{append-nil}
use Rattle.dkv_base.specs.declared.types.Commit.{Commit}
use Rattle.dkv_base.specs.State.{State}
use Rattle.dkv_base.specs.Sound.{IsSound}
use Rattle.dkv_base.specs.After.{after, is_legal, is_legal_in}
use Rattle.dkv_base.proofs.AfterNothing.{after_nothing}
use Rattle.dkv_io.specs.Disks.{Moves, stays, Told, AnyBytes}
use Rattle.dkv_io.proofs.Moves.{joined, weaker}
use Rattle.dkv_io.proofs.Seen.{still_told, told_on, told_same}
use Rattle.dkv_files.specs.Crashes.{Identity, IsState, IsOneOf, StatesMove, read, with_doubt, and_then}
use Rattle.dkv_store.specs.Attempts.{Attempt, made, left, made_of, IsLeft, IsPrefix, IsPrefixInDoubt, RunLeaves}
use Rattle.dkv_store.specs.Held.{CommitMoves, picked, read_in}
use Rattle.dkv_store.specs.Stores.{Contents, IsMade, IsDoubtful, IsOldOrNew, used_of, other_of}
use Rattle.dkv_store.specs.Terms.{CommitLeaves, GoesOn}
use Rattle.dkv_store.proofs.Holding.{legal_more, after_more}
use Rattle.dkv_store.proofs.Turning.{picked_told, states_turned, moves_again}

-- the commits that were made, of two lists of attempts
pub made-append : (xs ys : List Attempt) → made_of (xs ++ ys) ≡ made_of xs ++ made_of ys
made-append [] ys = refl
made-append (made c ∷ xs) ys = ap (λ (cs : List Commit). c ∷ cs) (made-append xs ys)
made-append (left c ∷ xs) ys = made-append xs ys

-- what was left in doubt stays so, until a commit is made
pub still_left : (attempts more : List Attempt) (c : Commit) → made_of more ≡ [] → IsLeft attempts c → IsLeft (attempts ++ more) c
still_left attempts more c none is = record {
  before = is.before;
  rest = is.rest ++ more;
  parts = ap (λ (l : List Attempt). l ++ more) is.parts ∙ append_assoc is.before (left c ∷ is.rest) more;
  last = made-append is.rest more ∙ ap (λ (cs : List Commit). cs ++ made_of more) is.last ∙ none;
}

-- what a run leaves, a longer one leaves too
module _ (A B : List ℕ → Type 0) (who : Identity) (base : State) (attempts : List Attempt) where
  prefix_more : (more : List Attempt) (s : State) → IsPrefix base attempts s → IsPrefix base (attempts ++ more) s
  prefix_more more s is = record {
    before = is.before;
    rest = is.rest ++ more;
    parts = ap (λ (l : List Attempt). l ++ more) is.parts ∙ append_assoc is.before is.rest more;
    state = is.state;
  }

  in_doubt_more : (more : List Attempt) (s : State) → IsPrefixInDoubt base attempts s → IsPrefixInDoubt base (attempts ++ more) s
  in_doubt_more more s is = record {
    before = is.before;
    commit = is.commit;
    rest = is.rest ++ more;
    parts = ap (λ (l : List Attempt). l ++ more) is.parts ∙ append_assoc is.before (left is.commit ∷ is.rest) more;
    state = is.state;
  }

  leaves_more : (more : List Attempt) (x y : List ℕ) → RunLeaves A B read who base attempts x y → RunLeaves A B read who base (attempts ++ more) x y
  leaves_more more x y (inl start) = inl start
  leaves_more more x y (inr (inl found)) = inr (inl (found.0, prefix_more more found.0 found.1, found.2))
  leaves_more more x y (inr (inr found)) = inr (inr (found.0, in_doubt_more more found.0 found.1, found.2))

  -- the state after all of the commits, and that with a commit which is in doubt there
  leaves_now : (s : State) (x y : List ℕ) → s ≡ after base (made_of attempts) → IsState (read x y) s who → RunLeaves A B read who base attempts x y
  leaves_now s x y same is = inr (inl (s, record { before = attempts; rest = []; parts = sym (append-nil attempts); state = same }, is))

  leaves_doubt : (s : State) (c : Commit) (x y : List ℕ) → s ≡ after base (made_of attempts) → IsLeft attempts c → IsState (read x y) (and_then s c) who → RunLeaves A B read who base attempts x y
  leaves_doubt s c x y same at is = inr (inr (
    and_then s c,
    record {
      before = at.before;
      commit = c;
      rest = at.rest;
      parts = at.parts;
      state = ap (λ (u : State). and_then u c) (same ∙ ap (after base) (all_before at));
    },
    is,
  ))
    where
      all_before : (at : IsLeft attempts c) → made_of attempts ≡ made_of at.before
      all_before at =
          ap made_of at.parts ∙ made-append at.before (left c ∷ at.rest) ∙ ap (λ (cs : List Commit). made_of at.before ++ cs) at.last ∙ append-nil (made_of at.before)

-- the state or one with a commit in doubt, of which each is left
with_doubt_leaves : (s : State) (doubt : Option Commit) (who : Identity) (x y : List ℕ) (Q : Type 0) → (IsState (read x y) s who → Q)
    → ((c : Commit) → doubt ≡ Some c → IsState (read x y) (and_then s c) who → Q) → IsOneOf (read x y) (with_doubt s doubt) who → Q
with_doubt_leaves s None who x y Q now more (inl is) = now is
with_doubt_leaves s None who x y Q now more (inr none) = absurd none
with_doubt_leaves s (Some c) who x y Q now more (inl is) = now is
with_doubt_leaves s (Some c) who x y Q now more (inr (inl is)) = more c refl is
with_doubt_leaves s (Some c) who x y Q now more (inr (inr none)) = absurd none

-- the images of a commit, of which each is left
module _ {D : Type 0} (images : D → List ℕ → Type 0) (moment : D → ℕ) (since : D → ℕ → List ℕ → Type 0) (v : Bool) (who : Identity) (s : State) (doubt : Option Commit) (c : Commit) (P : List ℕ → List ℕ → Type 0)
    (now : (x y : List ℕ) → IsState (read x y) s who → P x y)
    (old : (x y : List ℕ) (d : Commit) → doubt ≡ Some d → IsState (read x y) (and_then s d) who → P x y)
    (new : (x y : List ℕ) → IsState (read x y) (and_then s c) who → P x y) where
  abbrev Turned : D → D → D → D → Type 0
  Turned used other used_end other_end = Moves images moment since P (picked v used other) (picked v other used) (picked v used_end other_end) (picked v other_end used_end)

  states_leave : (states : List State) → ((x y : List ℕ) → IsOneOf (read x y) states who → P x y) → (used other used_end other_end : D)
      → StatesMove images moment since (read_in v) who states used other used_end other_end → Turned used other used_end other_end
  states_leave states each used other used_end other_end moves =
      weaker images moment since (λ x y. IsOneOf (read x y) states who) P each (picked v used other) (picked v other used) (picked v used_end other_end) (picked v other_end used_end)
      (states_turned images moment since v who states used other used_end other_end moves)

  mending_leaves : (used other used_end other_end : D) → StatesMove images moment since (read_in v) who (with_doubt s doubt) used other used_end other_end → Turned used other used_end other_end
  mending_leaves = states_leave (with_doubt s doubt) (λ x y. with_doubt_leaves s doubt who x y (P x y) (now x y) (old x y))

  one : (x y : List ℕ) → IsOneOf (read x y) (s ∷ []) who → P x y
  one x y (inl is) = now x y is
  one x y (inr none) = absurd none

  two : (x y : List ℕ) → IsOneOf (read x y) (s ∷ and_then s c ∷ []) who → P x y
  two x y (inl is) = now x y is
  two x y (inr (inl is)) = new x y is
  two x y (inr (inr none)) = absurd none

  followed : (a b c d e f : D) → Turned a b c d → Turned c d e f → Turned a b e f
  followed a b c d e f = joined images moment since P (picked v a b) (picked v b a) (picked v c d) (picked v d c) (picked v e f) (picked v f e)

  commit_leaves : (used other used_end other_end : D) → CommitMoves images moment since v who s doubt c used other used_end other_end → Turned used other used_end other_end
  commit_leaves used other used_end other_end (inl all) =
      let adding = all.adding in
      followed used other all.used_mended all.other_mended used_end other_end
      (mending_leaves used other all.used_mended all.other_mended all.mending)
      (followed all.used_mended all.other_mended adding.laid all.other_mended used_end other_end
      (states_leave (s ∷ []) one all.used_mended all.other_mended adding.laid all.other_mended adding.laying)
      (states_leave (s ∷ and_then s c ∷ []) two adding.laid all.other_mended used_end other_end adding.opening))
  commit_leaves used other used_end other_end (inr mending) = mending_leaves used other used_end other_end mending

module _ {D : Type 0} (seen : D → Option (List ℕ)) (images : D → List ℕ → Type 0) (moment : D → ℕ) (since : D → ℕ → List ℕ → Type 0) where
  -- a store at its start
  pub goes_start : (s : Contents D) → IsSound s.core.state → s.doubt ≡ None → GoesOn seen images moment since [] s s
  goes_start s sound sure = record {
    sound = sound;
    legal = refl;
    state = sym (after_nothing s.core.state sound);
    who = refl;
    named = λ c is. absurd (cc (sure, is));
    told_a = told_same (seen s.a) (seen s.a) refl;
    told_b = told_same (seen s.b) (seen s.b) refl;
    moves = λ fa fb told_a told_b. stays s.a s.b (λ x y has_x has_y. inl (has_x, has_y));
  }

  module _ (start old new : Contents D) (attempts : List Attempt) (g : GoesOn seen images moment since attempts start old) where
    -- no call has another identity, and what the files tell stays told
    pub record Stays : Type 0 where
      pub who : new.who ≡ old.who
      pub told_a : Told AnyBytes (seen old.a) (seen new.a)
      pub told_b : Told AnyBytes (seen old.b) (seen new.b)

    module _ (c : Commit) (more : List Attempt) (same : Stays)
        (moves : CommitLeaves seen images moment since old c new)
        (leaves : (x y : List ℕ) → IsState (read x y) (and_then old.core.state c) start.who → RunLeaves (images start.a) (images start.b) read start.who start.core.state (attempts ++ more) x y) where
      abbrev P : List ℕ → List ℕ → Type 0
      P = RunLeaves (images start.a) (images start.b) read start.who start.core.state (attempts ++ more)

      here : (x y : List ℕ) → RunLeaves (images start.a) (images start.b) read start.who start.core.state attempts x y → P x y
      here = leaves_more (images start.a) (images start.b) start.who start.core.state attempts more

      as_start : (x y : List ℕ) (s : State) → IsState (read x y) s old.who → IsState (read x y) s start.who
      as_start x y s is = subst (λ (w : Identity). IsState (read x y) s w) g.who is

      commit_moves : (fa fb : List ℕ) → seen start.a ≡ Some fa → seen start.b ≡ Some fb → Moves images moment since P start.a start.b new.a new.b
      commit_moves fa fb told_a told_b =
          let at_a = still_told AnyBytes (seen start.a) (seen old.a) fa told_a g.told_a in
          let at_b = still_told AnyBytes (seen start.b) (seen old.b) fb told_b g.told_b in
          let v = old.in_use.second in
          joined images moment since P start.a start.b old.a old.b new.a new.b
          (weaker images moment since (RunLeaves (images start.a) (images start.b) read start.who start.core.state attempts) P here start.a start.b old.a old.b (g.moves fa fb told_a told_b))
          (moves_again images moment since v P old.a old.b new.a new.b
          (commit_leaves images moment since v old.who old.core.state old.doubt c P
          (λ x y is. here x y (leaves_now (images start.a) (images start.b) start.who start.core.state attempts old.core.state x y g.state (as_start x y old.core.state is)))
          (λ x y d doubt is. here x y (leaves_doubt (images start.a) (images start.b) start.who start.core.state attempts old.core.state d x y g.state (g.named d doubt) (as_start x y (and_then old.core.state d) is)))
          (λ x y is. leaves x y (as_start x y (and_then old.core.state c) is))
          (used_of old) (other_of old) (picked v new.a new.b) (picked v new.b new.a)
          (moves (picked v at_a.file at_b.file) (picked v at_b.file at_a.file)
          (picked_told seen v old.a old.b at_a.file at_b.file at_a.seen at_b.seen) (picked_told seen v old.b old.a at_b.file at_a.file at_b.seen at_a.seen))))

      -- a call that writes a commit
      writes : is_legal start.core.state (made_of (attempts ++ more)) ≡ true → new.core.state ≡ after start.core.state (made_of (attempts ++ more))
          → ((d : Commit) → new.doubt ≡ Some d → IsLeft (attempts ++ more) d) → GoesOn seen images moment since (attempts ++ more) start new
      writes legal state named = record {
        sound = g.sound;
        legal = legal;
        state = state;
        who = same.who ∙ g.who;
        named = named;
        told_a = told_on (seen start.a) (seen old.a) (seen new.a) g.told_a same.told_a;
        told_b = told_on (seen start.b) (seen old.b) (seen new.b) g.told_b same.told_b;
        moves = commit_moves;
      }

    -- a commit that was made
    pub goes_made : (t n : ℕ) (c : Commit) → Stays → IsMade t c n old new
        → CommitLeaves seen images moment since old c new → GoesOn seen images moment since (attempts ++ made c ∷ []) start new
    goes_made t n c same is moves =
        let all : made_of (attempts ++ made c ∷ []) ≡ made_of attempts ++ c ∷ [] = made-append attempts (made c ∷ []) in
        let legal_here : is_legal_in (after start.core.state (made_of attempts)) c ≡ true = ap (λ (s : State). is_legal_in s c) (sym g.state) ∙ is.legal in
        let legal_all = ap (is_legal start.core.state) all ∙ legal_more start.core.state (made_of attempts) c g.sound g.legal legal_here in
        let next : and_then old.core.state c ≡ after start.core.state (made_of (attempts ++ made c ∷ [])) =
        ap (λ (s : State). and_then s c) g.state ∙ sym (after_more start.core.state (made_of attempts) c g.sound g.legal legal_here) ∙ ap (after start.core.state) (sym all) in
        writes c (made c ∷ []) same moves
        (λ x y has. leaves_now (images start.a) (images start.b) start.who start.core.state (attempts ++ made c ∷ []) (and_then old.core.state c) x y next has)
        legal_all (is.state ∙ next) (λ d doubt. absurd (cc (is.sure, doubt)))

    -- a commit that is left in doubt
    pub goes_doubt : (who t : ℕ) (c : Commit) → Stays → IsDoubtful who t old new → IsOldOrNew old.doubt c new.doubt
        → CommitLeaves seen images moment since old c new → GoesOn seen images moment since (attempts ++ left c ∷ []) start new
    goes_doubt who t c same is doubted moves =
        let all : made_of attempts ≡ made_of (attempts ++ left c ∷ []) = sym (made-append attempts (left c ∷ []) ∙ append-nil (made_of attempts)) in
        let last : IsLeft (attempts ++ left c ∷ []) c = record { before = attempts; rest = []; parts = refl; last = refl } in
        let state = g.state ∙ ap (after start.core.state) all in
        writes c (left c ∷ []) same moves
        (λ x y has. leaves_doubt (images start.a) (images start.b) start.who start.core.state (attempts ++ left c ∷ []) old.core.state c x y state last has)
        (ap (is_legal start.core.state) (sym all) ∙ g.legal) (is.state ∙ state)
        (λ d doubt. named_on d doubt doubted last)
      where
        named_on : (d : Commit) → new.doubt ≡ Some d → IsOldOrNew old.doubt c new.doubt → IsLeft (attempts ++ left c ∷ []) c → IsLeft (attempts ++ left c ∷ []) d
        named_on d doubt (inl sure) last = absurd (cc (sure, doubt))
        named_on d doubt (inr (inl was)) last = still_left attempts (left c ∷ []) d refl (g.named d (sym was ∙ doubt))
        named_on d doubt (inr (inr is)) last =
            let one : c ≡ d = cc (is, doubt) in
            subst (λ (x : Commit). IsLeft (attempts ++ left c ∷ []) x) one last

    -- a call that makes no commit and leaves the files
    pub goes_on : Stays → new.core.state ≡ old.core.state → new.doubt ≡ old.doubt → new.a ≡ old.a → new.b ≡ old.b → GoesOn seen images moment since attempts start new
    goes_on same state doubt a b = record {
      sound = g.sound;
      legal = g.legal;
      state = state ∙ g.state;
      who = same.who ∙ g.who;
      named = λ d is. g.named d (sym doubt ∙ is);
      told_a = told_on (seen start.a) (seen old.a) (seen new.a) g.told_a same.told_a;
      told_b = told_on (seen start.b) (seen old.b) (seen new.b) g.told_b same.told_b;
      moves = λ fa fb told_a told_b.
          subst (λ (x : D). Moves images moment since (RunLeaves (images start.a) (images start.b) read start.who start.core.state attempts) start.a start.b x new.b) (sym a)
          (subst (λ (y : D). Moves images moment since (RunLeaves (images start.a) (images start.b) read start.who start.core.state attempts) start.a start.b old.a y) (sym b) (g.moves fa fb told_a told_b));
    }
