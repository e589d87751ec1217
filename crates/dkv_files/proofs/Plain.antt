-- What a file that goes on from the empty image is read as, and the answers of the first opening.
use Rattle.std.proofs.Common.{◌≡◌, ◌≢◌, refl, sym, ◌∙◌, ap, inl, ℕ, zero, suc, ◌+◌, ◌<◌, ◌≤◌, Bool, true, false, not, ◌&&◌, ◌||◌, ◌==◌, nat_lt, List, [], ◌∷◌, length, take, drop, Option, Some, None, Ok, Err, Result, arith, length-take, length-drop}
use Rattle.std.specs.Prelude.{bytes_eq, slice_range, unwrap_or, option_map, if◌then◌else◌}
use Rattle.std.specs.Bool.{then_some}
use Rattle.std.specs.Option.{option_or}
use Rattle.std.specs.List.{list_all}
use Rattle.std.specs.Int.{w64, from_le_bytes}
use Rattle.std.proofs.lemmas.Bool.{le-leb, lt-ltb, eqb-true, and_parts}
use Rattle.std.proofs.lemmas.List.{drop-drop}
use Rattle.dkv_base.specs.declared.types.Commit.{Commit}
use Rattle.dkv_base.specs.declared.types.Entry.{Entry}
use Rattle.dkv_base.specs.declared.types.Layout.{Layout}
use Rattle.dkv_base.specs.declared.types.Message.{Message}
use Rattle.dkv_base.specs.declared.types.Profile.{Profile}
use Rattle.dkv_base.specs.declared.types.Profile.TheVariants.{Narrow}
use Rattle.dkv_base.specs.Limits.{first_some}
use Rattle.dkv_base.specs.Profiles.{Known, known_first, is_known_format, is_known_profile, profile_at}
use Rattle.dkv_base.specs.State.{State, empty_state}
use Rattle.dkv_journal.specs.Records.{first_layout, has_digests}
use Rattle.dkv_image.specs.Image.{Bounds, image_of}
use Rattle.dkv_msgs.specs.Readings.{reads_atomic_write}
use Rattle.dkv_files.specs.Files.{is_open, number_fault, head_fault, format_of, profile_of, layout_of, bounds_of, image_length, image_end, first_gate, number_of, moment_in, front_digest, unless}
use Rattle.dkv_files.specs.Recovered.{Recovery, Stands, damaged, no_database, first_opening, recovered, is_new, from_file, from_image, from_records, has_its_digest, base_of, commits_in, FirstOpening}
use Rattle.dkv_files.proofs.Fronts.{part_of_take}
use Rattle.dkv_files.proofs.Used.{first}

-- ---- the header

tests : (t1 t2 t3 t4 t5 t6 : Bool) → first_some (unless t1 1 ∷ unless t2 8 ∷ unless t3 12 ∷ unless t4 16 ∷ unless t5 80 ∷ unless t6 88 ∷ []) ≡ None → (t2 ≡ true) × (t3 ≡ true)
tests true true true t4 t5 t6 is = (refl, refl)
tests false t2 t3 t4 t5 t6 is = absurd (cc is)
tests true false t3 t4 t5 t6 is = absurd (cc is)
tests true true false t4 t5 t6 is = absurd (cc is)

or_not : (v : Bool) → (v || false) ≡ true → v ≡ true
or_not true is = refl
or_not false is = absurd (cc is)

-- ---- zeros

abbrev zeros : ℕ → List ℕ
zeros zero = []
zeros (suc n) = 0 ∷ zeros n

all_zeros : (n : ℕ) (bytes : List ℕ) → length bytes ≡ n → list_all (λ byte. byte == 0) bytes ≡ true → bytes ≡ zeros n
all_zeros zero [] long all = refl
all_zeros zero (x ∷ bytes) long all = absurd (omega (arith, long))
all_zeros (suc n) [] long all = absurd (omega (arith, long))
all_zeros (suc n) (x ∷ bytes) long all =
    let parts = and_parts (x == 0) (list_all (λ byte. byte == 0) bytes) all in
    let here : x ≡ 0 = eqb-true x 0 parts.0 in
    let rest = all_zeros n bytes (omega (arith, long)) parts.1 in
    (λ i. here i ∷ rest i)

length_part : (n : ℕ) (bytes : List ℕ) → n ≤ length bytes → length (take n bytes) ≡ n
length_part n bytes le = omega (arith, length-take n bytes, le)

-- ---- a file that goes on from the empty image

module _ (file : List ℕ) (opened : is_open file ≡ true) (stands : number_fault known_first file ≡ None) (long : 113 ≤ length file) (image : image_length file ≡ 16) (new : is_new file ≡ true) where
  abbrev behind : List ℕ
  behind = drop 80 file

  blank : take 32 behind ≡ zeros 32
  blank = all_zeros 32 (take 32 behind) (length_part 32 behind (omega (arith, length-drop 80 file, long))) new

  part_blank : (i j : ℕ) → i + j ≤ 32 → take j (drop i behind) ≡ take j (drop i (zeros 32))
  part_blank i j le = sym (part_of_take i j 32 behind le) ∙ ap (λ (b : List ℕ). take j (drop i b)) blank

  known : (is_known_format known_first (format_of file) ≡ true) × (is_known_profile known_first (profile_of file) ≡ true)
  known = tests _ (is_known_format known_first (format_of file)) (is_known_profile known_first (profile_of file)) _ _ _ stands

  format_is : format_of file ≡ 1
  format_is = eqb-true (format_of file) 1 (or_not (format_of file == 1) known.0)

  profile_is : profile_of file ≡ 0
  profile_is = eqb-true (profile_of file) 0 (or_not (profile_of file == 0) known.1)

  pub layout_is : layout_of file ≡ first_layout
  layout_is i = record { format = format_is i; profile = profile_at (profile_is i) }

  number_is : number_of file ≡ 0
  number_is = ap (λ (b : List ℕ). from_le_bytes w64 b) (part_blank 0 8 (omega arith))

  moment_is : moment_in file ≡ 0
  moment_is = ap (λ (b : List ℕ). from_le_bytes w64 b) (ap (λ (b : List ℕ). take 8 b) (sym (drop-drop 8 80 file)) ∙ part_blank 8 8 (omega arith))

  end_is : image_end file ≡ 112
  end_is = ap (λ (n : ℕ). 96 + n) image

  pub gate_is : first_gate file ≡ 112
  gate_is = (λ i. if has_digests (layout_is i) then end_is i + 32 else end_is i)

  -- its header stands
  pub header_stands : Stands known_first file
  header_stands =
      let room : nat_lt (first_gate file) (length file) ≡ true = lt-ltb (first_gate file) (length file) (omega (arith, gate_is, long)) in
      let none : head_fault known_first file ≡ None = (λ i. option_or (stands i) (unless (room i) 72)) in
      (opened, ap (λ (v : Bool). if v then head_fault known_first file else None) opened ∙ none)

  its : has_its_digest file ≡ true
  its = (λ i. bytes_eq (slice_range file (end_is i) (gate_is i)) (front_digest (layout_is i) (slice_range file 1 (image_end file))))

  image_part : slice_range file 96 (image_end file) ≡ zeros 16
  image_part = ap (λ (n : ℕ). slice_range file 96 n) end_is ∙ ap (λ (b : List ℕ). take 16 b) (sym (drop-drop 16 80 file)) ∙ part_blank 16 16 (omega arith)

  image_read : image_of (bounds_of file) (slice_range file 96 (image_end file)) ≡ Ok ([], [])
  image_read = (λ i. image_of (record { profile = profile_at (profile_is i); n = number_is i; now = moment_is i }) (image_part i))

  base_is : base_of file [] [] ≡ empty_state
  base_is i = record { number = number_is i; moment = moment_is i; entries = []; messages = [] }

  -- it is read as the commits of its records on the new database
  pub plain_read : (which : ℕ) → from_file reads_atomic_write which file ≡ from_records which file empty_state (commits_in reads_atomic_write first_layout empty_state 112 file)
  plain_read which =
      ap (λ (v : Bool). if not v then damaged which (image_end file) else from_image reads_atomic_write which file (image_of (bounds_of file) (slice_range file 96 (image_end file)))) its
      ∙ ap (λ (r : Result (List Entry × List Message) ℕ). from_image reads_atomic_write which file r) image_read
      ∙ (λ i. from_records which file (base_is i) (commits_in reads_atomic_write (layout_is i) (base_is i) (gate_is i) file))

-- ---- the answers of the first opening

abbrev by : Option ℕ → Bool → Bool → Bool → Bool → Bool → Recovery → FirstOpening
by fault opened other empty cut new found = unwrap_or (first_some (
    option_map (λ place. Ok (damaged 0 place)) (if opened then fault else None)
    ∷ then_some other (Err 0)
    ∷ then_some (not opened) (Ok no_database)
    ∷ then_some (not empty) (Err 72)
    ∷ then_some cut (Ok (damaged 0 72))
    ∷ then_some (not new) (Err 80)
    ∷ [])) (Ok found)

module _ (fa fb : List ℕ) where
  abbrev answer : FirstOpening
  answer = first_opening reads_atomic_write fa fb

  abbrev all : Recovery
  all = recovered reads_atomic_write fa fb

  pub bad_header : (at : ℕ) → is_open fa ≡ true → number_fault known_first fa ≡ Some at → answer ≡ Ok (damaged 0 at)
  bad_header at opened fault i = by (fault i) (opened i) (is_open fb) (image_length fa == 16) (nat_lt (length fa) 113) (is_new fa) all

  pub other_beside_shut : is_open fa ≡ false → is_open fb ≡ true → answer ≡ Err 0
  other_beside_shut shut other i = by (number_fault known_first fa) (shut i) (other i) (image_length fa == 16) (nat_lt (length fa) 113) (is_new fa) all

  pub none_open : is_open fa ≡ false → is_open fb ≡ false → answer ≡ Ok no_database
  none_open shut other i = by (number_fault known_first fa) (shut i) (other i) (image_length fa == 16) (nat_lt (length fa) 113) (is_new fa) all

  module _ (opened : is_open fa ≡ true) (stands : number_fault known_first fa ≡ None) where
    pub other_open : is_open fb ≡ true → answer ≡ Err 0
    other_open other i = by (stands i) (opened i) (other i) (image_length fa == 16) (nat_lt (length fa) 113) (is_new fa) all

    pub has_image : is_open fb ≡ false → (image_length fa == 16) ≡ false → answer ≡ Err 72
    has_image other empty i = by (stands i) (opened i) (other i) (empty i) (nat_lt (length fa) 113) (is_new fa) all

    pub is_cut : is_open fb ≡ false → (image_length fa == 16) ≡ true → nat_lt (length fa) 113 ≡ true → answer ≡ Ok (damaged 0 72)
    is_cut other empty cut i = by (stands i) (opened i) (other i) (empty i) (cut i) (is_new fa) all

    pub is_no_new : is_open fb ≡ false → (image_length fa == 16) ≡ true → nat_lt (length fa) 113 ≡ false → is_new fa ≡ false → answer ≡ Err 80
    is_no_new other empty cut new i = by (stands i) (opened i) (other i) (empty i) (cut i) (new i) all

    -- else what both files recover to
    pub is_plain : is_open fb ≡ false → (image_length fa == 16) ≡ true → nat_lt (length fa) 113 ≡ false → is_new fa ≡ true → answer ≡ Ok all
    is_plain other empty cut new i = by (stands i) (opened i) (other i) (empty i) (cut i) (new i) all
