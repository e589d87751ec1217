-- The limits and their order, by the codes under which they are told; 0 is none.
use Rattle.std.proofs.Common.{ℕ, ◌≡◌, refl, List, [], ◌∷◌, ◌++◌, Option, Some, None, false}
use Rattle.std.specs.Prelude.{ℤ, pos, negsuc, replicate, map}
use Rattle.dkv_base.specs.declared.types.Check.{Check}
use Rattle.dkv_base.specs.declared.types.Enqueue.{Enqueue}
use Rattle.dkv_base.specs.declared.types.Mutation.{Mutation}
use Rattle.dkv_base.specs.declared.types.ReadRange.{ReadRange}
use Rattle.dkv_base.specs.declared.codes.Limit.{Limit}
use Rattle.dkv_base.specs.Limits.{write_limit, read_limit, watch_limit, limit_code}

abbrev bytes : ℕ → List ℕ
bytes n = replicate n 1

abbrev check : ℕ → ℕ → Check
check key stamp = record { key = bytes key; versionstamp = bytes stamp }

abbrev mutation : ℤ → ℕ → ℤ → ℕ → Mutation
mutation kind key encoding n = record {
  key = bytes key;
  value = Some (record { bytes = bytes n; encoding = encoding });
  kind = kind;
  expire_at_ms = pos 0;
}

abbrev without_value : ℤ → ℕ → Mutation
without_value kind key = record { key = bytes key; value = None; kind = kind; expire_at_ms = pos 0 }

abbrev enqueue : ℕ → List ℕ → List (List ℕ) → Enqueue
enqueue payload backoff undelivered = record {
  payload = bytes payload;
  deadline_ms = pos 0;
  undelivered = undelivered;
  backoff = backoff;
}

-- the code of the limit that the write passes, or 0
abbrev code : Option Limit → ℕ
code None = 0
code (Some l) = limit_code l

abbrev of_write : List Check → List Mutation → List Enqueue → ℕ
of_write cs ms qs = code (write_limit (record { checks = cs; mutations = ms; enqueues = qs }))

abbrev of_mutation : Mutation → ℕ
of_mutation m = of_write [] (m ∷ []) []

abbrev set_1 : Mutation
set_1 = mutation (pos 1) 1 (pos 3) 1

most_checks : of_write (replicate 100 (check 1 0)) [] [] ∷ of_write (replicate 101 (check 0 1)) [] [] ∷ [] ≡ 0 ∷ 1 ∷ []
most_checks = refl

most_changes : of_write [] (replicate 1000 set_1) [] ∷ of_write (check 0 0 ∷ []) (replicate 1000 set_1) (enqueue 0 [] [] ∷ []) ∷ [] ≡ 0 ∷ 2 ∷ []
most_changes = refl

limits_of_checks : map (λ c. of_write (c ∷ []) (without_value (pos 0) 0 ∷ []) [])
    (check 0 1 ∷ check 2049 0 ∷ check 2048 1 ∷ check 1 9 ∷ check 1 11 ∷ check 1 10 ∷ check 1 0 ∷ []) ≡ 3 ∷ 3 ∷ 4 ∷ 4 ∷ 4 ∷ 5 ∷ 5 ∷ []
limits_of_checks = refl

kinds_of_mutation : map (λ k. of_mutation (without_value k 0)) (pos 0 ∷ pos 1 ∷ pos 2 ∷ pos 3 ∷ pos 4 ∷ pos 5 ∷ pos 6 ∷ pos 7 ∷ pos 8 ∷ pos 9 ∷ pos 10 ∷ negsuc 0 ∷ []) ≡
    5 ∷ 6 ∷ 6 ∷ 6 ∷ 6 ∷ 6 ∷ 5 ∷ 5 ∷ 5 ∷ 7 ∷ 5 ∷ 5 ∷ []
kinds_of_mutation = refl

missing_values : map (λ k. of_mutation (without_value k 1)) (pos 1 ∷ pos 2 ∷ pos 3 ∷ pos 4 ∷ pos 5 ∷ pos 9 ∷ []) ≡ 7 ∷ 0 ∷ 7 ∷ 7 ∷ 7 ∷ 7 ∷ []
missing_values = refl

-- a DELETE's value is not looked at
encodings_of_values : map (λ m. of_mutation m) (
    mutation (pos 1) 1 (pos 0) 1 ∷ mutation (pos 1) 1 (pos 4) 1 ∷ mutation (pos 1) 1 (negsuc 0) 1 ∷ mutation (pos 2) 1 (pos 4) 70000
    ∷ mutation (pos 1) 1 (pos 2) 7 ∷ mutation (pos 1) 1 (pos 2) 8 ∷ mutation (pos 3) 1 (pos 2) 9 ∷ mutation (pos 3) 1 (pos 1) 1
    ∷ mutation (pos 4) 1 (pos 3) 1 ∷ mutation (pos 5) 1 (pos 3) 8 ∷ mutation (pos 5) 1 (pos 2) 8 ∷ []) ≡
    8 ∷ 8 ∷ 8 ∷ 0 ∷ 9 ∷ 0 ∷ 9 ∷ 10 ∷ 11 ∷ 11 ∷ 0 ∷ []
encodings_of_values = refl

longest_value : map (λ n. of_mutation (mutation (pos 1) 1 (pos 3) n)) (65536 ∷ 65537 ∷ []) ≡ 0 ∷ 12 ∷ []
longest_value = refl

limits_of_enqueues : map (λ q. of_write [] [] (q ∷ [])) (
    enqueue 65536 [] [] ∷ enqueue 65537 (bytes 11) [] ∷ enqueue 1 (bytes 11) [] ∷ enqueue 1 (bytes 9 ++ 3600000 ∷ []) (replicate 10 (bytes 2048))
    ∷ enqueue 1 (1 ∷ 3600001 ∷ []) (replicate 11 []) ∷ enqueue 1 [] (replicate 11 []) ∷ enqueue 1 [] (bytes 1 ∷ [] ∷ []) ∷ enqueue 1 [] (bytes 2049 ∷ []) ∷ []) ≡
    0 ∷ 13 ∷ 14 ∷ 0 ∷ 15 ∷ 16 ∷ 17 ∷ 17 ∷ []
limits_of_enqueues = refl

-- twelve values of 65,536 bytes and one more, each under a key of 3
most_bytes_of_a_write : map (λ n. of_write [] (replicate 12 (mutation (pos 1) 3 (pos 3) 65536) ++ mutation (pos 1) 3 (pos 3) n ∷ []) []) (32729 ∷ 32730 ∷ []) ≡ 0 ∷ 18 ∷ []
most_bytes_of_a_write = refl

most_key_bytes_of_a_write : map (λ ms. of_write [] (replicate 40 (without_value (pos 2) 2048) ++ ms) []) ([] ∷ (without_value (pos 2) 1 ∷ []) ∷ []) ≡ 0 ∷ 19 ∷ []
most_key_bytes_of_a_write = refl

abbrev range : ℕ → ℕ → ℤ → ReadRange
range start end limit = record { start = bytes start; end = bytes end; limit = limit; reverse = false }

limits_of_reads : map (λ rs. code (read_limit rs)) (
    [] ∷ replicate 10 (range 0 2049 (pos 100)) ∷ replicate 11 (range 2050 0 (pos 0))
    ∷ (range 2050 0 (pos 0) ∷ []) ∷ (range 0 2050 (pos 0) ∷ []) ∷ (range 0 0 (pos 0) ∷ range 2050 0 (pos 1) ∷ []) ∷ (range 0 0 (negsuc 4) ∷ [])
    ∷ (range 0 0 (pos 500) ∷ range 0 0 (pos 501) ∷ []) ∷ []) ≡
    0 ∷ 0 ∷ 20 ∷ 21 ∷ 21 ∷ 22 ∷ 22 ∷ 23 ∷ []
limits_of_reads = refl

limits_of_watches : map (λ ks. code (watch_limit ks)) ([] ∷ replicate 11 [] ∷ replicate 10 (bytes 2048) ∷ (bytes 1 ∷ [] ∷ []) ∷ (bytes 2049 ∷ []) ∷ []) ≡
    24 ∷ 24 ∷ 0 ∷ 25 ∷ 25 ∷ []
limits_of_watches = refl
