-- The file that a create writes is read as the empty database.
use Rattle.std.proofs.Common.{◌≡◌, inl, refl, sym, ◌∙◌, ap, subst, ℕ, false, List, [], ◌∷◌, ◌++◌, length, drop, arith}
use Rattle.std.proofs.lemmas.List.{append-nil}
use Rattle.dkv_base.specs.Profiles.{known_first}
use Rattle.dkv_base.specs.State.{empty_state}
use Rattle.dkv_journal.specs.Records.{first_layout}
use Rattle.dkv_journal.specs.declared.gates.TheConstants.{OPEN_GATE, CLOSED_GATE}
use Rattle.dkv_msgs.specs.Readings.{reads_atomic_write}
use Rattle.dkv_record.proofs.Fitting.{reads_writes}
use Rattle.dkv_files.specs.Crashes.{IsState, read}
use Rattle.dkv_files.specs.Creating.{new_head, new_identity}
use Rattle.dkv_files.specs.Files.{filled, file_of, is_open}
use Rattle.dkv_files.specs.Laws.{IsFile}
use Rattle.dkv_files.specs.Recovered.{Recovery}
use Rattle.dkv_files.proofs.Used.{first}
use Rattle.dkv_files.proofs.Written.{file_is_read}

module _ (id secret : List ℕ) (long_id : length id ≡ 16) (long_secret : length secret ≡ 32) where
  is_file : IsFile known_first first_layout (new_head id secret) [] [] []
  is_file = record {
    format = refl;
    profile = refl;
    numbers = record { first = omega arith; last = omega arith; n = omega arith; now = omega arith };
    id = long_id;
    secret = long_secret;
    stands = refl;
    fits = record { entry_count = omega arith; message_count = omega arith; entries = tt; messages = tt };
    long = omega arith;
    legal = refl;
    commits = tt;
    bodies = tt;
  }

  -- with an open gate, beside a file that isn't open
  pub is_new : (bytes x y : List ℕ) → CLOSED_GATE ∷ bytes ≡ filled first_layout (new_head id secret) [] [] → x ≡ OPEN_GATE ∷ bytes → is_open y ≡ false
      → IsState (read x y) empty_state (new_identity id secret)
  is_new bytes x y spelled is shut =
      let file = file_of first_layout OPEN_GATE (new_head id secret) [] [] [] in
      let same : x ≡ file ++ [] = is ∙ ap (λ (l : List ℕ). OPEN_GATE ∷ drop 1 l) spelled ∙ sym (append-nil file) in
      let stands = file_is_read known_first reads_atomic_write reads_writes 0 first_layout (new_head id secret) [] [] [] [] is_file in
      let used : read (file ++ []) y ≡ _ = first known_first reads_atomic_write (file ++ []) y stands.0 (inl shut) ∙ stands.1 in
      subst (λ (r : Recovery). IsState r empty_state (new_identity id secret)) (sym (ap (λ (l : List ℕ). read l y) same ∙ used)) (refl, refl)
