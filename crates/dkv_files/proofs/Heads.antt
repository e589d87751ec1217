-- What a read of a file's first bytes tells of its header.
use Rattle.std.proofs.Common.{◌≡◌, sym, ◌∙◌, ap, subst, ℕ, ◌+◌, ◌-◌, ◌≤◌, Bool, true, false, ◌&&◌, ◌==◌, nat_le, List, length, take, drop, Option, None, Some, IsTrue, arith}
use Rattle.std.specs.Prelude.{slice_get, slice_range}
use Rattle.std.specs.List.{list_all}
use Rattle.std.proofs.lemmas.Bool.{le-leb}
use Rattle.std.proofs.lemmas.List.{take-take}
use Rattle.dkv_base.specs.Profiles.{known_first}
use Rattle.dkv_journal.specs.Records.{shows_open, is_open_at}
use Rattle.dkv_files.specs.declared.head.FileHead.{FileHead}
use Rattle.dkv_files.specs.declared.header.HeadState.{HeadState}
use Rattle.dkv_files.specs.declared.header.HeadState.TheVariants as state
use Rattle.dkv_files.specs.Files.{is_open, head_of, generation_of, id_of, secret_of, number_of, moment_in}
use Rattle.dkv_files.specs.Reading.{IsHeadState}
use Rattle.dkv_files.specs.Recovered.{is_new}
use Rattle.dkv_files.proofs.Fronts.{byte_of_front, part_of_take, same_generation, same_id, same_secret, same_n, same_now, same_long, same_fault}

module _ (front file : List ℕ) (agree : take 96 front ≡ take 96 file) (long_front : 96 ≤ length front) (long : 96 ≤ length file) where
  same_open : is_open front ≡ is_open file
  same_open =
      let first : slice_get front 0 ≡ slice_get file 0 = sym (byte_of_front 96 0 front (omega arith)) ∙ ap (λ (x : List ℕ). slice_get x 0) agree ∙ byte_of_front 96 0 file (omega arith) in
      (λ i. le-leb 96 (length front) long_front i && shows_open (first i)) ∙ sym (ap (λ (v : Bool). v && is_open_at 0 file) (le-leb 96 (length file) long))

  same_head : head_of front ≡ head_of file
  same_head i = record {
    generation = same_generation 96 front file agree (omega arith) i;
    id = same_id 96 front file agree (omega arith) i;
    secret = same_secret 96 front file agree (omega arith) i;
    n = same_n 96 front file agree (omega arith) i;
    now = same_now 96 front file agree (omega arith) i;
  }

  -- what the front tells is so of the file
  pub told_head : (r : HeadState) → IsHeadState front r → IsHeadState file r
  told_head state.Shut is = sym same_open ∙ is
  told_head (state.Stands head image) is = (sym same_open ∙ is.0, sym (same_fault 96 front file agree (omega arith) known_first) ∙ is.1, is.2 ∙ same_head, is.3 ∙ same_long 96 front file agree (omega arith))
  told_head (state.Bad at) is = (sym same_open ∙ is.0, sym (same_fault 96 front file agree (omega arith) known_first) ∙ is.1)

-- what 33 bytes behind the moment's place tell
pub told_new : (part file : List ℕ) → take 33 part ≡ take 33 (drop 80 file) → list_all (λ byte. byte == 0) (take 32 part) ≡ is_new file
told_new part file same =
    let front : take 32 part ≡ take 32 (drop 80 file) = sym (part_of_take 0 32 33 part (omega arith)) ∙ ap (λ (x : List ℕ). take 32 x) same ∙ part_of_take 0 32 33 (drop 80 file) (omega arith) in
    ap (list_all (λ byte. byte == 0)) front
