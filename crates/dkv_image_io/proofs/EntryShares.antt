-- An entry takes its bytes from the front.
use Rattle.std.proofs.Common.{◌≡◌, ap, ℕ, ◌+◌, ◌≤◌, List, length, Option, Some, arith}
use Rattle.std.specs.Prelude.{pos, true}
use Rattle.std.specs.Int.{w8, w32, w64}
use Rattle.std.proofs.lemmas.Bool.{and_parts}
use Rattle.dkv_base.specs.declared.types.Entry.{Entry}
use Rattle.dkv_image.specs.Image.{◌>>=◌, bytes_at, number_at, sized_at, entry_at_front, may_follow_entry}
use Rattle.dkv_image_io.specs.Reading.{narrow}
use Rattle.dkv_image_io.proofs.Shares.{Reads, resized, reads_on, reads_none, reads_bytes, reads_number}
use Rattle.dkv_image_io.proofs.Within.{entry_within}

pub reads_sized : Reads sized_at (λ x k. k ≡ 4 + length x)
reads_sized =
    resized sized_at _ (λ x k. k ≡ 4 + length x) (λ x k s. omega (arith, s.3, s.4.0, s.4.1, s.5))
    (reads_on (number_at w32) (λ n. bytes_at n) (λ _ n. n ≡ 4) (λ n x k. (k ≡ n) × (length x ≡ n)) (reads_number w32) (λ n. reads_bytes n))

abbrev pub entry_size : Entry → ℕ → Type 0
entry_size e n = n ≡ 25 + length e.key + length e.bytes

abbrev made : List ℕ → ℕ → List ℕ → ℕ → ℕ → Entry
made key encoding bytes commit expire = record { key = key; bytes = bytes; encoding = pos encoding; commit = commit; expire = expire }

pub reads_entry : Reads entry_at_front entry_size
reads_entry =
    resized entry_at_front _ entry_size (λ e n s.
    let encoding = s.4 in
    let value = encoding.4 in
    let commit = value.4 in
    let expire = commit.4 in
    let last = expire.4 in
    omega (arith, s.3, s.5, encoding.3, encoding.5, value.3, value.5, commit.3, commit.5, expire.3, expire.5, last.1, ap (λ (x : Entry). length x.key) last.0, ap (λ (x : Entry). length x.bytes) last.0))
    (reads_on sized_at (λ key p. number_at w8 p >>= λ encoding. sized_at encoding.1 >>= λ value. number_at w64 value.1 >>= λ commit. number_at w64 commit.1 >>= λ expire. Some (made key encoding.0 value.0 commit.0 expire.0, expire.1)) _ _ reads_sized (λ key.
    reads_on (number_at w8) (λ encoding p. sized_at p >>= λ value. number_at w64 value.1 >>= λ commit. number_at w64 commit.1 >>= λ expire. Some (made key encoding value.0 commit.0 expire.0, expire.1)) _ _ (reads_number w8) (λ encoding.
    reads_on sized_at (λ value p. number_at w64 p >>= λ commit. number_at w64 commit.1 >>= λ expire. Some (made key encoding value commit.0 expire.0, expire.1)) _ _ reads_sized (λ value.
    reads_on (number_at w64) (λ commit p. number_at w64 p >>= λ expire. Some (made key encoding value commit expire.0, expire.1)) _ _ (reads_number w64) (λ commit.
    reads_on (number_at w64) (λ expire p. Some (made key encoding value commit expire, p)) _ _ (reads_number w64) (λ expire.
    reads_none (made key encoding value commit expire)))))))

pub entry_small : (n now : ℕ) (before : Option Entry) (e : Entry) (k : ℕ) → entry_size e k → may_follow_entry (narrow n now) before e ≡ true → k ≤ 131072
entry_small n now before e k size follows =
    let w = entry_within (narrow n now) e (and_parts _ _ follows).0 in
    omega (arith, size, w.key, w.value)
