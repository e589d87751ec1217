-- A message takes its bytes from the front.
use Rattle.std.proofs.Common.{◌≡◌, sym, ◌∙◌, ap, ℕ, zero, suc, ◌+◌, ◌*◌, ◌≤◌, List, [], ◌∷◌, length, flat_map, Option, Some, arith, length-append}
use Rattle.std.specs.Prelude.{true}
use Rattle.std.specs.Int.{w32, w64, to_le_bytes}
use Rattle.std.specs.List.{AllByRecursion}
use Rattle.std.proofs.lemmas.Bool.{and_parts}
use Rattle.dkv_base.specs.declared.types.Message.{Message}
use Rattle.dkv_image.specs.Image.{◌>>=◌, number_at, sized, sized_at, many_at, counted_at, message_at_front, may_follow_message}
use Rattle.dkv_image_io.specs.Reading.{narrow}
use Rattle.dkv_image_io.proofs.Shares.{Reads, resized, reads_on, reads_none, reads_number}
use Rattle.dkv_image_io.proofs.EntryShares.{reads_sized}
use Rattle.dkv_image_io.proofs.Sizes.{four_each}
use Rattle.dkv_image_io.proofs.Within.{message_within}

module _ {X : Type 0} (one : List ℕ → Option (X × List ℕ)) (f : X → List ℕ) (reads : Reads one (λ x n. n ≡ length (f x))) where
  pub reads_many : (k : ℕ) → Reads (many_at one k) (λ xs n. n ≡ length (flat_map f xs))
  reads_many zero = resized (λ p. Some ([], p)) _ (λ xs n. n ≡ length (flat_map f xs)) (λ xs n s. s.1 ∙ ap (λ (l : List X). length (flat_map f l)) (sym s.0)) (reads_none [])
  reads_many (suc k) =
      resized (many_at one (suc k)) _ (λ xs n. n ≡ length (flat_map f xs)) (λ xs n s.
      let others = s.4 in
      let last = others.4 in
      omega (arith, s.3, s.5, others.3, others.5, last.1, ap (λ (l : List X). length (flat_map f l)) last.0, length-append (f s.0) (flat_map f others.0)))
      (reads_on one (λ x p. many_at one k p >>= λ others. Some (x ∷ others.0, others.1)) _ _ reads (λ x.
      reads_on (many_at one k) (λ others p. Some (x ∷ others, p)) _ _ (reads_many k) (λ others. reads_none (x ∷ others))))

  pub reads_counted : Reads (counted_at one) (λ xs n. n ≡ 4 + length (flat_map f xs))
  reads_counted =
      resized (counted_at one) _ (λ xs n. n ≡ 4 + length (flat_map f xs)) (λ xs n s. omega (arith, s.3, s.4, s.5))
      (reads_on (number_at w32) (λ k. many_at one k) _ _ (reads_number w32) (λ k. reads_many k))

sized_long : (xs : List ℕ) (n : ℕ) → n ≡ 4 + length xs → n ≡ length (sized xs)
sized_long xs n is = is ∙ sym (length-append (to_le_bytes w32 (length xs)) xs)

reads_keys : Reads (counted_at sized_at) (λ xs n. n ≡ 4 + length (flat_map sized xs))
reads_keys = reads_counted sized_at sized (resized sized_at (λ x k. k ≡ 4 + length x) (λ x n. n ≡ length (sized x)) sized_long reads_sized)

reads_intervals : Reads (counted_at (number_at w32)) (λ xs n. n ≡ 4 + length (flat_map (to_le_bytes w32) xs))
reads_intervals = reads_counted (number_at w32) (to_le_bytes w32) (resized (number_at w32) (λ _ n. n ≡ 4) (λ x n. n ≡ length (to_le_bytes w32 x)) (λ x n is. is) (reads_number w32))

abbrev pub message_length : Message → ℕ → Type 0
message_length m n = n ≡ 36 + length m.payload + length (flat_map sized m.undelivered) + 4 * length m.backoff

abbrev made : ℕ → ℕ → ℕ → ℕ → List ℕ → List (List ℕ) → List ℕ → Message
made commit index due fails payload undelivered backoff = record {
  id = record { commit = commit; index = index };
  payload = payload;
  due = due;
  fails = fails;
  undelivered = undelivered;
  backoff = backoff;
}

pub reads_message : Reads message_at_front message_length
reads_message =
    resized message_at_front _ message_length (λ m n s.
    let index = s.4 in
    let due = index.4 in
    let fails = due.4 in
    let payload = fails.4 in
    let keys = payload.4 in
    let intervals = keys.4 in
    let last = intervals.4 in
    omega (
      arith,
      s.3,
      s.5,
      index.3,
      index.5,
      due.3,
      due.5,
      fails.3,
      fails.5,
      payload.3,
      payload.5,
      keys.3,
      keys.5,
      intervals.3,
      intervals.5,
      last.1,
      ap (λ (x : Message). length x.payload) last.0,
      ap (λ (x : Message). length (flat_map sized x.undelivered)) last.0,
      ap (λ (x : Message). length x.backoff) last.0,
      four_each intervals.0,
    ))
    (reads_on (number_at w64) (λ commit p. number_at w32 p >>= λ index. number_at w64 index.1 >>= λ due. number_at w32 due.1 >>= λ fails. sized_at fails.1 >>= λ payload. counted_at sized_at payload.1 >>= λ undelivered. counted_at (number_at w32) undelivered.1 >>= λ backoff. Some (made commit index.0 due.0 fails.0 payload.0 undelivered.0 backoff.0, backoff.1)) _ _ (reads_number w64) (λ commit.
    reads_on (number_at w32) (λ index p. number_at w64 p >>= λ due. number_at w32 due.1 >>= λ fails. sized_at fails.1 >>= λ payload. counted_at sized_at payload.1 >>= λ undelivered. counted_at (number_at w32) undelivered.1 >>= λ backoff. Some (made commit index due.0 fails.0 payload.0 undelivered.0 backoff.0, backoff.1)) _ _ (reads_number w32) (λ index.
    reads_on (number_at w64) (λ due p. number_at w32 p >>= λ fails. sized_at fails.1 >>= λ payload. counted_at sized_at payload.1 >>= λ undelivered. counted_at (number_at w32) undelivered.1 >>= λ backoff. Some (made commit index due fails.0 payload.0 undelivered.0 backoff.0, backoff.1)) _ _ (reads_number w64) (λ due.
    reads_on (number_at w32) (λ fails p. sized_at p >>= λ payload. counted_at sized_at payload.1 >>= λ undelivered. counted_at (number_at w32) undelivered.1 >>= λ backoff. Some (made commit index due fails payload.0 undelivered.0 backoff.0, backoff.1)) _ _ (reads_number w32) (λ fails.
    reads_on sized_at (λ payload p. counted_at sized_at p >>= λ undelivered. counted_at (number_at w32) undelivered.1 >>= λ backoff. Some (made commit index due fails payload undelivered.0 backoff.0, backoff.1)) _ _ reads_sized (λ payload.
    reads_on (counted_at sized_at) (λ undelivered p. counted_at (number_at w32) p >>= λ backoff. Some (made commit index due fails payload undelivered backoff.0, backoff.1)) _ _ reads_keys (λ undelivered.
    reads_on (counted_at (number_at w32)) (λ backoff p. Some (made commit index due fails payload undelivered backoff, p)) _ _ reads_intervals (λ backoff.
    reads_none (made commit index due fails payload undelivered backoff)))))))))

keys_size : (xs : List (List ℕ)) → AllByRecursion (λ key. length key ≤ 2048) xs → length (flat_map sized xs) ≤ 2052 * length xs
keys_size [] each = omega arith
keys_size (x ∷ xs) each = omega (arith, each.0, keys_size xs each.1, length-append (sized x) (flat_map sized xs), length-append (to_le_bytes w32 (length x)) x)

pub message_small : (n now : ℕ) (before : Option Message) (m : Message) (k : ℕ) → message_length m k → may_follow_message (narrow n now) before m ≡ true → k ≤ 131072
message_small n now before m k size follows =
    let w = message_within (narrow n now) m (and_parts _ _ follows).0 in
    omega (arith, size, w.payload, w.key_count, w.interval_count, keys_size m.undelivered w.keys)
