-- Which of two files is used.
use Rattle.std.proofs.Common.{◌≡◌, inl, inr, ap, ℕ, ◌<◌, Bool, false, not, ◌&&◌, ◌||◌, nat_lt, ◌==◌, if◌then◌else◌, List, [], ◌∷◌, Option, None, arith}
use Rattle.std.specs.Prelude.{option_map, unwrap_or}
use Rattle.std.specs.Bool.{then_some}
use Rattle.std.proofs.lemmas.Bool.{lt-ltb}
use Rattle.std.proofs.lemmas.Bool.Decides.{nat_tests}
use Rattle.dkv_base.specs.Limits.{first_some}
use Rattle.dkv_base.specs.Profiles.{Known}
use Rattle.dkv_files.specs.Files.{is_open, generation_of, head_fault}
use Rattle.dkv_record.specs.Records.{WriteOf}
use Rattle.dkv_files.specs.Recovered.{Recovery, no_database, damaged, open_fault, from_file, recovered_by}
use Rattle.dkv_files.specs.Laws.{FirstIsUsed, SecondIsUsed}

abbrev answer : Option ℕ → Option ℕ → Bool → Bool → Bool → Bool → Recovery → Recovery → Recovery
answer fault_a fault_b open_a open_b same lower x y = unwrap_or (first_some (
    option_map (damaged 0) fault_a
    ∷ option_map (damaged 1) fault_b
    ∷ then_some (not (open_a || open_b)) no_database
    ∷ then_some (open_a && open_b && same) (damaged 1 16)
    ∷ [])) (if open_b && (not open_a || lower) then y else x)

shut_fault : (k : Known) (file : List ℕ) → is_open file ≡ false → open_fault k file ≡ None
shut_fault k file shut = ap (λ (v : Bool). if v then head_fault k file else None) shut

apart : (m n : ℕ) → m < n → (m == n) ≡ false
apart m n lt = grind (arith, nat_tests)

apart_above : (m n : ℕ) → n < m → (m == n) ≡ false
apart_above m n lt = grind (arith, nat_tests)

not_lower : (m n : ℕ) → n < m → nat_lt m n ≡ false
not_lower m n lt = grind (arith, nat_tests)

pub first : (k : Known) (write_of : WriteOf) → FirstIsUsed k write_of
first k write_of a b stands (inl shut) =
    let fault_b = shut_fault k b shut in
    λ i. answer (stands.1 i) (fault_b i) (stands.0 i) (shut i) (generation_of a == generation_of b) (nat_lt (generation_of a) (generation_of b)) (from_file write_of 0 a) (from_file write_of 1 b)
first k write_of a b stands (inr beside) =
    let same = apart_above (generation_of a) (generation_of b) beside.1 in
    let lower = not_lower (generation_of a) (generation_of b) beside.1 in
    let other = beside.0 in
    λ i. answer (stands.1 i) (other.1 i) (stands.0 i) (other.0 i) (same i) (lower i) (from_file write_of 0 a) (from_file write_of 1 b)

-- where neither is open there is no database
pub neither : (k : Known) (write_of : WriteOf) (a b : List ℕ) → is_open a ≡ false → is_open b ≡ false → recovered_by k write_of a b ≡ no_database
neither k write_of a b shut_a shut_b =
    let fault_a = shut_fault k a shut_a in
    let fault_b = shut_fault k b shut_b in
    λ i. answer (fault_a i) (fault_b i) (shut_a i) (shut_b i) (generation_of a == generation_of b) (nat_lt (generation_of a) (generation_of b)) (from_file write_of 0 a) (from_file write_of 1 b)

pub second : (k : Known) (write_of : WriteOf) → SecondIsUsed k write_of
second k write_of a b stands (inl shut) =
    let fault_a = shut_fault k a shut in
    λ i. answer (fault_a i) (stands.1 i) (shut i) (stands.0 i) (generation_of a == generation_of b) (nat_lt (generation_of a) (generation_of b)) (from_file write_of 0 a) (from_file write_of 1 b)
second k write_of a b stands (inr beside) =
    let same = apart (generation_of a) (generation_of b) beside.1 in
    let lower = lt-ltb (generation_of a) (generation_of b) beside.1 in
    let other = beside.0 in
    λ i. answer (other.1 i) (stands.1 i) (other.0 i) (stands.0 i) (same i) (lower i) (from_file write_of 0 a) (from_file write_of 1 b)
