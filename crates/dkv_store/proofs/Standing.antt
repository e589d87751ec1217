-- A store's pair stands for its state, or is in doubt by the one commit that the store names.
use Rattle.std.proofs.Common.{◌≡◌, ◌∙◌, refl, sym, ap, subst, inl, inr, ℕ, List, [], ◌∷◌, Bool, true, ◌&&◌, Option, Some, None}
use Rattle.dkv_base.specs.declared.types.Commit.{Commit}
use Rattle.dkv_base.specs.declared.types.Profile.{Profile}
use Rattle.dkv_base.specs.declared.types.Profile.TheVariants.{Narrow}
use Rattle.dkv_base.specs.State.{State}
use Rattle.dkv_base.specs.Sound.{IsSound}
use Rattle.dkv_base.specs.After.{is_legal_in, is_legal_at}
use Rattle.dkv_base.proofs.StaysSound.{after_is_sound}
use Rattle.dkv_base.proofs.AfterNothing.{after_nothing}
use Rattle.dkv_journal.specs.declared.journal.Journal.{Journal}
use Rattle.dkv_io.specs.Disks.{EachPair, stays}
use Rattle.dkv_files.specs.Crashes.{Identity, StandsOrDoubtful, IsOneOf, with_doubt}
use Rattle.dkv_store.specs.declared.held.InUse.{InUse}
use Rattle.dkv_store.specs.Held.{Hold, Guarded, CommitMoves, picked, read_in}
use Rattle.dkv_files.specs.Crashes.{read}
use Rattle.dkv_store.specs.Stores.{Contents, Keeps, used_of, other_of}
use Rattle.dkv_store.proofs.Holding.{is_state, doubt_is}
use Rattle.dkv_store.proofs.Moving.{told_is}
use Rattle.dkv_store.proofs.Turning.{picked_again, used_told, stands_turned}

module _ (A B images : List ℕ → Type 0) (opens : (y : List ℕ) → images y → B y) (j : Journal) (u : InUse) (s : State) (who : Identity) where
  one_legal : (c : Commit) → Hold A B j u (Some c) s who → is_legal_at who.profile s (c ∷ []) ≡ true
  one_legal c hold =
      let sound : IsSound s = subst IsSound hold.state (after_is_sound hold.found.base hold.found.commits hold.sound hold.legal) in
      let same = after_nothing s sound in
      let profile : who.profile ≡ Narrow = sym (ap (λ (w : Identity). w.profile) hold.identity) ∙ ap (λ l. l.profile) hold.layout in
      ap (λ (p : Profile). is_legal_at p s (c ∷ [])) profile ∙ ap (λ (x : State). is_legal_in x c && true) same ∙ ap (λ (v : Bool). v && true) hold.doubted.legal

  pub hold_stands : (doubt : Option Commit) → Hold A B j u doubt s who → StandsOrDoubtful (read_in u.second) A images s doubt who
  hold_stands None hold = λ x y has_x has_y. is_state hold.found u.generation j.place s who x y (hold.used x has_x) (hold.other y (opens y has_y)) hold.state hold.identity u.second
  hold_stands (Some c) hold = record {
    legal = one_legal c hold;
    each = λ x y has_x has_y.
        let h = hold.used x has_x in
        doubt_is hold.found u.generation j.place c s hold.sound hold.legal hold.layout hold.state hold.doubted u.second who h.0 x y h.1 h.2 (hold.other y (opens y has_y)) hold.identity;
  }

-- ---- while nothing moves

hold_each : (A B images : List ℕ → Type 0) → ((y : List ℕ) → images y → B y) → (j : Journal) (u : InUse) (s : State) (who : Identity) (doubt : Option Commit) → Hold A B j u doubt s who
    → EachPair A images (λ x y. IsOneOf (read_in u.second x y) (with_doubt s doubt) who)
hold_each A B images opens j u s who None hold x y has_x has_y = inl (hold_stands A B images opens j u s who None hold x y has_x has_y)
hold_each A B images opens j u s who (Some c) hold x y has_x has_y = (hold_stands A B images opens j u s who (Some c) hold).each x y has_x has_y

module _ {D : Type 0} (sees : D → Option (List ℕ)) (images : D → List ℕ → Type 0) (faults : D → ℕ) (j : Journal) (used other : D) (s : Contents D) (kept : Keeps sees images faults j used other s) where
  abbrev v : Bool
  v = s.in_use.second

  pub used_is : used_of s ≡ used
  used_is = (λ i. picked v (kept.a_is i) (kept.b_is i)) ∙ picked_again v used other

  pub other_is : other_of s ≡ other
  other_is = (λ i. picked v (kept.b_is i) (kept.a_is i)) ∙ picked_again v other used

  pub keeps_stand : (fa fb : List ℕ) → sees s.a ≡ Some fa → sees s.b ≡ Some fb → StandsOrDoubtful read (images s.a) (images s.b) s.core.state s.doubt s.who
  keeps_stand fa fb told_a told_b =
      let told_used = used_told sees v used other fa fb (ap sees (sym kept.a_is) ∙ told_a) (ap sees (sym kept.b_is) ∙ told_b) in
      let told_other = used_told sees v other used fb fa (ap sees (sym kept.b_is) ∙ told_b) (ap sees (sym kept.a_is) ∙ told_a) in
      subst (λ (x : D). StandsOrDoubtful read (images x) (images s.b) s.core.state s.doubt s.who) (sym kept.a_is)
      (subst (λ (y : D). StandsOrDoubtful read (images (picked v used other)) (images y) s.core.state s.doubt s.who) (sym kept.b_is)
      (stands_turned images v used other s.core.state s.doubt s.who
      (hold_stands (images used) (Guarded (sees other) (images other)) (images other) (λ y has. (told_is (sees other) _ told_other, has)) j s.in_use s.core.state s.who s.doubt (kept.stands _ told_used))))

  -- a commit that was written, or a call that wrote nothing
  module _ (moment : D → ℕ) (since : D → ℕ → List ℕ → Type 0) (c d : Commit) (same : c ≡ d) (used_end other_end a b : D) (a_is : a ≡ picked v used_end other_end) (b_is : b ≡ picked v other_end used_end) where
    abbrev Moves : Commit → D → D → D → D → Type 0
    Moves = CommitMoves images moment since v s.who s.core.state s.doubt

    first_end : picked v a b ≡ used_end
    first_end = (λ i. picked v (a_is i) (b_is i)) ∙ picked_again v used_end other_end

    second_end : picked v b a ≡ other_end
    second_end = (λ i. picked v (b_is i) (a_is i)) ∙ picked_again v other_end used_end

    pub went_leaves : ((file beside : List ℕ) → sees used ≡ Some file → sees other ≡ Some beside → Moves c used other used_end other_end)
        → (file beside : List ℕ) → sees (used_of s) ≡ Some file → sees (other_of s) ≡ Some beside → Moves d (used_of s) (other_of s) (picked v a b) (picked v b a)
    went_leaves moves file beside told told_beside =
        subst (λ (x : Commit). Moves x (used_of s) (other_of s) (picked v a b) (picked v b a)) same
        (subst (λ (x : D). Moves c x (other_of s) (picked v a b) (picked v b a)) (sym used_is)
        (subst (λ (x : D). Moves c used x (picked v a b) (picked v b a)) (sym other_is)
        (subst (λ (x : D). Moves c used other x (picked v b a)) (sym first_end)
        (subst (λ (x : D). Moves c used other used_end x) (sym second_end)
        (moves file beside (ap sees (sym used_is) ∙ told) (ap sees (sym other_is) ∙ told_beside))))))

  pub keeps_still : (moment : D → ℕ) (since : D → ℕ → List ℕ → Type 0) (c : Commit) (a b : D) → a ≡ s.a → b ≡ s.b
      → (file beside : List ℕ) → sees (used_of s) ≡ Some file → sees (other_of s) ≡ Some beside
      → CommitMoves images moment since v s.who s.core.state s.doubt c (used_of s) (other_of s) (picked v a b) (picked v b a)
  keeps_still moment since c a b same_a same_b =
      went_leaves moment since c c refl used other a b (same_a ∙ kept.a_is) (same_b ∙ kept.b_is)
      (λ file beside told told_beside. inr (stays used other
      (hold_each (images used) (Guarded (sees other) (images other)) (images other) (λ y has. (told_is (sees other) beside told_beside, has)) j s.in_use s.core.state s.who s.doubt (kept.stands file told))))
