-- The commits of bodies are made again one after the other.
use Rattle.std.proofs.Common.{◌≡◌, refl, sym, ◌∙◌, ap, subst, ℕ, suc, ◌+◌, ◌<◌, ◌≤◌, Bool, true, false, List, [], ◌∷◌, ◌++◌, length, drop, get_or, Option, Some, None, Ok, Err, Result, arith, IsTrue, length-append}
use Rattle.std.specs.Prelude.{if◌then◌else◌}
use Rattle.std.specs.Option.{option_map_or, option_and_then}
use Rattle.dkv_base.specs.declared.types.Commit.{Commit}
use Rattle.dkv_base.specs.declared.types.Profile.TheVariants.{Narrow}
use Rattle.std.proofs.Math.Seq.{drop-cons}
use Rattle.dkv_base.specs.declared.run.NoMemory.{NoMemory}
use Rattle.dkv_base.specs.State.{State, empty_state}
use Rattle.dkv_base.specs.Sound.{IsSound}
use Rattle.dkv_base.specs.After.{after, is_legal, is_legal_in}
use Rattle.dkv_core.specs.Cores.{Database}
use Rattle.dkv_journal.specs.Records.{first_layout, record_size, place_after}
use Rattle.dkv_journal.proofs.Ends.{not_before}
use Rattle.dkv_msgs.specs.Readings.{reads_atomic_write}
use Rattle.dkv_record.specs.Records.{commit_of}
use Rattle.dkv_files.specs.Recovered.{next_commit, if_legal}
use Rattle.dkv_store.specs.Making.{IsBetween, IsRemade}
use Rattle.dkv_store.specs.Opening.{first_place, replay, IsAfter}
use Rattle.dkv_store.proofs.Holding.{after_more, legal_more}

-- where the bodies up to this one were made again, and the next gate is at this place
pub record Replaying (all : List (List ℕ)) (index at : ℕ) (core : Database) : Type 0 where
  pub cs : List Commit
  pub on : replay [] first_place all ≡ replay cs at (drop index all)
  pub made : IsAfter cs core
  pub count : length cs ≡ index
  pub place : place_after first_layout at (drop index all) ≡ place_after first_layout first_place all

pub empty_is_sound : IsSound empty_state
empty_is_sound = record { moment = omega arith; key_order = refl; entries = refl; visible = refl; id_order = refl; messages = refl }

few : (p : ℕ) (bodies : List (List ℕ)) → p + length bodies ≤ place_after first_layout p bodies
few p [] = omega arith
few p (body ∷ bodies) = omega (arith, few (p + record_size first_layout body) bodies)

-- the body at an index, and those behind it
pub split_at : (all : List (List ℕ)) (index : ℕ) (body : List ℕ) → index < length all → body ≡ get_or all index body → drop index all ≡ body ∷ drop (index + 1) all
split_at all index body lt is =
    let next : suc index ≡ index + 1 = omega arith in
    drop-cons all index body lt ∙ (λ i. sym is i ∷ drop (next i) all)

-- before the first
pub none_made : (all : List (List ℕ)) (core empty : Database) (r : Result Database NoMemory) → r ≡ Ok core → r ≡ Ok empty → empty.state ≡ empty_state → IsBetween empty → Replaying all 0 first_place core
none_made all core empty r is also state between =
    let same : core ≡ empty = cc in
    subst (Replaying all 0 first_place) (sym same) (record {
      cs = [];
      on = refl;
      made = record { state = state; legal = refl; between = between };
      count = refl;
      place = refl;
    })

module _ (all : List (List ℕ)) (index at : ℕ) (core : Database) (so_far : Replaying all index at core) where
  -- after the last
  pub all_made : index ≡ length all → replay [] first_place all ≡ Ok so_far.cs
  all_made is = so_far.on ∙ ap (λ (l : List (List ℕ)). replay so_far.cs at l) (ap (λ (n : ℕ). drop n all) is ∙ drop_all all)
    where
      drop_all : (l : List (List ℕ)) → drop (length l) l ≡ []
      drop_all [] = refl
      drop_all (x ∷ l) = drop_all l

  module _ (body : List ℕ) (rest : List (List ℕ)) (split : drop index all ≡ body ∷ rest) where
    here : replay [] first_place all ≡ replay so_far.cs at (body ∷ rest)
    here = so_far.on ∙ ap (λ (l : List (List ℕ)). replay so_far.cs at l) split

    total : place_after first_layout (at + record_size first_layout body) rest ≡ place_after first_layout first_place all
    total = ap (λ (l : List (List ℕ)). place_after first_layout at l) (sym split) ∙ so_far.place

    -- the next gate, and the number of commits, are below the last gate's place
    pub within : at + record_size first_layout body ≤ place_after first_layout first_place all
    within = subst (λ (n : ℕ). at + record_size first_layout body ≤ n) total (not_before first_layout (at + record_size first_layout body) rest)

    legal_now : (c : Commit) → is_legal_in core.state c ≡ is_legal_in (after empty_state so_far.cs) c
    legal_now c = ap (λ (s : State). is_legal_in s c) so_far.made.state

    pub one_made : (new : Database) → IsRemade core body new true → (next : ℕ) → next ≡ at + record_size first_layout body → drop (index + 1) all ≡ rest → Replaying all (index + 1) next new
    one_made new made next place more =
        let c = made.0 in
        let legal = sym (legal_now c) ∙ made.2.0 in
        let commit : next_commit reads_atomic_write Narrow empty_state so_far.cs body ≡ Some c =
        ap (λ (o : Option Commit). option_and_then (if_legal Narrow (after empty_state so_far.cs)) o) made.1 ∙ ap (λ (v : Bool). if v then Some c else None) legal in
        record {
          cs = so_far.cs ++ c ∷ [];
          on = here
              ∙ ap (λ (o : Option Commit). option_map_or (λ x. replay (so_far.cs ++ x ∷ []) (at + record_size first_layout body) rest) o (Err at)) commit
              ∙ (λ i. replay (so_far.cs ++ c ∷ []) (sym place i) (sym more i));
          made = record {
            state = made.2.1 ∙ ap (λ (s : State). after s (c ∷ [])) so_far.made.state ∙ sym (after_more empty_state so_far.cs c empty_is_sound so_far.made.legal legal);
            legal = legal_more empty_state so_far.cs c empty_is_sound so_far.made.legal legal;
            between = made.2.2;
          };
          count = length-append so_far.cs (c ∷ []) ∙ ap (λ (n : ℕ). n + 1) so_far.count;
          place = (λ i. place_after first_layout (place i) (more i)) ∙ total;
        }

    pub not_made : (new : Database) → IsRemade core body new false → replay [] first_place all ≡ Err at
    not_made new denied = here ∙ by (commit_of reads_atomic_write body) denied
      where
        by : (o : Option Commit) → ((c : Commit) → o ≡ Some c → is_legal_in core.state c ≡ false)
            → option_map_or (λ x. replay (so_far.cs ++ x ∷ []) (at + record_size first_layout body) rest) (option_and_then (if_legal Narrow (after empty_state so_far.cs)) o) (Err at) ≡ Err at
        by None free = refl
        by (Some c) free = ap (λ (v : Bool). option_map_or (λ x. replay (so_far.cs ++ x ∷ []) (at + record_size first_layout body) rest) (if v then Some c else None) (Err at)) (sym (legal_now c) ∙ free c refl)

-- so many commits as bodies
pub counted : (all : List (List ℕ)) (index at : ℕ) (core : Database) → Replaying all index at core → core.state.number ≡ index
counted all index at core so_far = let same = ap (λ (s : State). s.number) so_far.made.state in omega (arith, same, so_far.count)

pub few_bodies : (all : List (List ℕ)) → first_place + length all ≤ place_after first_layout first_place all
few_bodies all = few first_place all
