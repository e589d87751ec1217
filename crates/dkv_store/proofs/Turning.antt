-- What is so of the used disk and the other one is so of the first and the second.
use Rattle.std.proofs.Common.{◌≡◌, ◌⊎◌, inl, inr, refl, subst, ℕ, ◌≤◌, Bool, true, false, List, Option, Some, None}
use Rattle.dkv_base.specs.declared.types.Commit.{Commit}
use Rattle.dkv_base.specs.State.{State}
use Rattle.dkv_io.specs.Disks.{Moves, stays, a_moves, b_moves, Told, AnyBytes}
use Rattle.dkv_files.specs.Crashes.{Identity, IsOneOf, StatesMove, StandsOrDoubtful, read}
use Rattle.dkv_io.specs.Causes.{Rose}
use Rattle.dkv_store.specs.Held.{picked, read_in}
use Rattle.dkv_store.specs.Stores.{Contents, used_of, other_of}

-- picked twice, each is what it was
pub picked_again : {X : Type 0} (v : Bool) (x y : X) → picked v (picked v x y) (picked v y x) ≡ x
picked_again false x y = refl
picked_again true x y = refl

-- ---- what is told

module _ {D : Type 0} (seen : D → Option (List ℕ)) where
  pub picked_told : (v : Bool) (a b : D) (fa fb : List ℕ) → seen a ≡ Some fa → seen b ≡ Some fb → seen (picked v a b) ≡ Some (picked v fa fb)
  picked_told false a b fa fb told_a told_b = told_a
  picked_told true a b fa fb told_a told_b = told_b

  pub used_told : (v : Bool) (used other : D) (fa fb : List ℕ) → seen (picked v used other) ≡ Some fa → seen (picked v other used) ≡ Some fb → seen used ≡ Some (picked v fa fb)
  used_told false used other fa fb told_a told_b = told_a
  used_told true used other fa fb told_a told_b = told_b

-- ---- from one store to the next

module _ {D : Type 0} (seen : D → Option (List ℕ)) (faults : D → ℕ) (v : Bool) (a b c d : D) where
  abbrev Tells : D → D → Type 0
  Tells x y = Told AnyBytes (seen x) (seen y)

  abbrev Rises : D → D → Type 0
  Rises x y = Rose (faults x) (faults y)

  pub told_turned : Tells (picked v a b) (picked v c d) → Tells (picked v b a) (picked v d c) → Tells a c × Tells b d
  told_turned = elim v as (λ w. Tells (picked w a b) (picked w c d) → Tells (picked w b a) (picked w d c) → Tells a c × Tells b d) [
    | false ↦ λ used other. (used, other)
    | true ↦ λ used other. (other, used)
  ]

  pub later_turned : faults (picked v a b) ≤ faults (picked v c d) → faults (picked v b a) ≤ faults (picked v d c) → (faults a ≤ faults c) × (faults b ≤ faults d)
  later_turned = elim v as (λ w. faults (picked w a b) ≤ faults (picked w c d) → faults (picked w b a) ≤ faults (picked w d c) → (faults a ≤ faults c) × (faults b ≤ faults d)) [
    | false ↦ λ used other. (used, other)
    | true ↦ λ used other. (other, used)
  ]

  pub rose_turned : Rises (picked v a b) (picked v c d) → Rises a c ⊎ Rises b d
  rose_turned = elim v as (λ w. Rises (picked w a b) (picked w c d) → Rises a c ⊎ Rises b d) [
    | false ↦ λ rose. inl rose
    | true ↦ λ rose. inr rose
  ]

module _ {D : Type 0} (seen : D → Option (List ℕ)) (faults : D → ℕ) (old new : Contents D) (same : new.in_use.second ≡ old.in_use.second) where
  pub told_both : Told AnyBytes (seen (used_of old)) (seen (used_of new)) → Told AnyBytes (seen (other_of old)) (seen (other_of new)) → Told AnyBytes (seen old.a) (seen new.a) × Told AnyBytes (seen old.b) (seen new.b)
  told_both used other =
      told_turned seen faults old.in_use.second old.a old.b new.a new.b
      (subst (λ (v : Bool). Told AnyBytes (seen (used_of old)) (seen (picked v new.a new.b))) same used) (subst (λ (v : Bool). Told AnyBytes (seen (other_of old)) (seen (picked v new.b new.a))) same other)

  pub later_both : faults (used_of old) ≤ faults (used_of new) → faults (other_of old) ≤ faults (other_of new) → (faults old.a ≤ faults new.a) × (faults old.b ≤ faults new.b)
  later_both used other =
      later_turned seen faults old.in_use.second old.a old.b new.a new.b
      (subst (λ (v : Bool). faults (used_of old) ≤ faults (picked v new.a new.b)) same used) (subst (λ (v : Bool). faults (other_of old) ≤ faults (picked v new.b new.a)) same other)

  -- where the count of the used disk rose, that of one of the two did
  pub rose_either : Rose (faults (used_of old)) (faults (used_of new)) → Rose (faults old.a) (faults new.a) ⊎ Rose (faults old.b) (faults new.b)
  rose_either rose = rose_turned seen faults old.in_use.second old.a old.b new.a new.b (subst (λ (v : Bool). Rose (faults (used_of old)) (faults (picked v new.a new.b))) same rose)

-- ---- images

module _ {D : Type 0} (images : D → List ℕ → Type 0) where
  pub stands_turned : (v : Bool) (used other : D) (s : State) (doubt : Option Commit) (who : Identity) → StandsOrDoubtful (read_in v) (images used) (images other) s doubt who
      → StandsOrDoubtful read (images (picked v used other)) (images (picked v other used)) s doubt who
  stands_turned false used other s doubt who stands = stands
  stands_turned true used other s None who stands = λ x y has_x has_y. stands y x has_y has_x
  stands_turned true used other s (Some c) who stands = record { legal = stands.legal; each = λ x y has_x has_y. stands.each y x has_y has_x }

module _ {D : Type 0} (images : D → List ℕ → Type 0) (moment : D → ℕ) (since : D → ℕ → List ℕ → Type 0) where
  swapped : (P : List ℕ → List ℕ → Type 0) (a b c d : D) → Moves images moment since (λ x y. P y x) b a d c → Moves images moment since P a b c d
  swapped P a b c d (stays x y each) = stays y x (λ u v has_u has_v. each v u has_v has_u)
  swapped P a b c d (a_moves x y z u v leaves rest) = b_moves y x z v u leaves (swapped P y z v u rest)
  swapped P a b c d (b_moves x y z u v leaves rest) = a_moves y x z v u leaves (swapped P z x v u rest)

  pub states_turned : (v : Bool) (who : Identity) (states : List State) (used other used_end other_end : D) → StatesMove images moment since (read_in v) who states used other used_end other_end
      → StatesMove images moment since read who states (picked v used other) (picked v other used) (picked v used_end other_end) (picked v other_end used_end)
  states_turned false who states used other used_end other_end moves = moves
  states_turned true who states used other used_end other_end moves = swapped (λ x y. IsOneOf (read x y) states who) other used other_end used_end moves

  -- as the first and the second
  pub moves_again : (v : Bool) (P : List ℕ → List ℕ → Type 0) (a b c d : D)
      → Moves images moment since P (picked v (picked v a b) (picked v b a)) (picked v (picked v b a) (picked v a b)) (picked v (picked v c d) (picked v d c)) (picked v (picked v d c) (picked v c d))
      → Moves images moment since P a b c d
  moves_again false P a b c d moves = moves
  moves_again true P a b c d moves = moves
