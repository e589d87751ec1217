-- Two files with one front read alike there.
use Rattle.std.proofs.Common.{◌≡◌, refl, sym, ◌∙◌, ap, ℕ, zero, suc, ◌+◌, ◌-◌, ◌^◌, ◌<◌, ◌≤◌, Bool, true, false, ◌&&◌, nat_le, nat_lt, List, [], ◌∷◌, length, take, drop, Option, Some, None, arith}
use Rattle.std.specs.Prelude.{bytes_eq, slice_get, slice_range, if◌then◌else◌}
use Rattle.std.specs.Option.{option_or}
use Rattle.std.specs.Int.{w32, w64, from_le_bytes}
use Rattle.std.proofs.lemmas.Bool.{le-leb, lt-ltb, and_parts}
use Rattle.std.proofs.lemmas.List.{take-take}
use Rattle.dkv_base.specs.declared.types.Entry.{Entry}
use Rattle.dkv_base.specs.declared.types.Message.{Message}
use Rattle.dkv_base.specs.Limits.{first_some}
use Rattle.dkv_base.specs.declared.moments.TheConstants.{MAX_MOMENT}
use Rattle.dkv_base.specs.Profiles.{Known, profile_at, is_known_format, is_known_profile}
use Rattle.dkv_journal.specs.Records.{shows_open, is_open_at, has_digests}
use Rattle.dkv_files.specs.Files.{mark, number_in, format_of, profile_of, generation_of, id_of, secret_of, image_length, number_of, moment_in, layout_of, bounds_of, image_end, first_gate, front_digest, is_open, unless, number_fault, head_fault}
use Rattle.dkv_files.specs.Recovered.{Stands, base_of, has_its_digest}

pub part_of_take : (i j q : ℕ) (a : List ℕ) → i + j ≤ q → take j (drop i (take q a)) ≡ take j (drop i a)
part_of_take zero j q a le = take-take j q a (omega (arith, le))
part_of_take (suc i) j zero a le = absurd (omega (arith, le))
part_of_take (suc i) j (suc q) [] le = refl
part_of_take (suc i) j (suc q) (x ∷ a) le = part_of_take i j q a (omega (arith, le))

pub part_same : (i j q : ℕ) (a b : List ℕ) → take q a ≡ take q b → i + j ≤ q → take j (drop i a) ≡ take j (drop i b)
part_same i j q a b agree le = sym (part_of_take i j q a le) ∙ ap (λ (x : List ℕ). take j (drop i x)) agree ∙ part_of_take i j q b le

pub byte_of_front : (n p : ℕ) (c : List ℕ) → p < n → slice_get (take n c) p ≡ slice_get c p
byte_of_front zero p c lt = absurd (omega (arith, lt))
byte_of_front (suc n) p [] lt = refl
byte_of_front (suc n) zero (x ∷ c) lt = refl
byte_of_front (suc n) (suc p) (x ∷ c) lt = byte_of_front n p c (omega (arith, lt))

gate_least : (h : Bool) (end : ℕ) → end ≤ (if h then end + 32 else end)
gate_least true end = omega arith
gate_least false end = omega arith

module _ (q : ℕ) (left file : List ℕ) (agree : take q left ≡ take q file) (near : 96 ≤ q) where
  same_4 : (at : ℕ) → at + 4 ≤ 96 → number_in w32 at left ≡ number_in w32 at file
  same_4 at le = ap (λ (b : List ℕ). from_le_bytes w32 b) (part_same at 4 q left file agree (omega (arith, le, near)))

  same_8 : (at : ℕ) → at + 8 ≤ 96 → number_in w64 at left ≡ number_in w64 at file
  same_8 at le = ap (λ (b : List ℕ). from_le_bytes w64 b) (part_same at 8 q left file agree (omega (arith, le, near)))

  same_format : format_of left ≡ format_of file
  same_format = same_4 8 (omega arith)

  same_profile : profile_of left ≡ profile_of file
  same_profile = same_4 12 (omega arith)

  pub same_generation : generation_of left ≡ generation_of file
  same_generation = same_8 16 (omega arith)

  pub same_long : image_length left ≡ image_length file
  same_long = same_8 72 (omega arith)

  pub same_n : number_of left ≡ number_of file
  same_n = same_8 80 (omega arith)

  pub same_now : moment_in left ≡ moment_in file
  same_now = same_8 88 (omega arith)

  same_mark : slice_range left 1 8 ≡ slice_range file 1 8
  same_mark = part_same 1 7 q left file agree (omega (arith, near))

  pub same_id : id_of left ≡ id_of file
  same_id = part_same 24 16 q left file agree (omega (arith, near))

  pub same_secret : secret_of left ≡ secret_of file
  same_secret = part_same 40 32 q left file agree (omega (arith, near))

  pub same_layout : layout_of left ≡ layout_of file
  same_layout i = record { format = same_format i; profile = profile_at (same_profile i) }

  pub same_bounds : bounds_of left ≡ bounds_of file
  same_bounds i = record { profile = profile_at (same_profile i); n = same_n i; now = same_now i }

  pub same_end : image_end left ≡ image_end file
  same_end i = 96 + same_long i

  pub same_gate : first_gate left ≡ first_gate file
  same_gate i = if has_digests (same_layout i) then same_end i + 32 else same_end i

  pub same_base : (es : List Entry) (ms : List Message) → base_of left es ms ≡ base_of file es ms
  same_base es ms i = record { number = same_n i; moment = same_now i; entries = es; messages = ms }

  pub same_fault : (k : Known) → number_fault k left ≡ number_fault k file
  same_fault k i = first_some (
      unless (bytes_eq (same_mark i) mark) 1
      ∷ unless (is_known_format k (same_format i)) 8
      ∷ unless (is_known_profile k (same_profile i)) 12
      ∷ unless (nat_le 1 (same_generation i) && nat_lt (same_generation i) (2 ^ 63)) 16
      ∷ unless (nat_lt (same_n i) (2 ^ 63)) 80
      ∷ unless (nat_le (same_now i) MAX_MOMENT) 88
      ∷ [])

module _ (q : ℕ) (left file : List ℕ) (agree : take q left ≡ take q file) (far : first_gate file ≤ q) where
  end_near : image_end file ≤ q
  end_near = omega (arith, far, gate_least (has_digests (layout_of file)) (image_end file))

  -- a file has its header before its first gate
  pub head_near : 96 ≤ q
  head_near = omega (arith, end_near)

  pub same_image : slice_range left 96 (image_end left) ≡ slice_range file 96 (image_end file)
  same_image = ap (λ (n : ℕ). slice_range left 96 n) (same_end q left file agree head_near) ∙ part_same 96 (image_end file - 96) q left file agree (omega (arith, end_near))

  same_front : slice_range left 1 (image_end left) ≡ slice_range file 1 (image_end file)
  same_front = ap (λ (n : ℕ). slice_range left 1 n) (same_end q left file agree head_near) ∙ part_same 1 (image_end file - 1) q left file agree (omega (arith, end_near))

  same_digest : slice_range left (image_end left) (first_gate left) ≡ slice_range file (image_end file) (first_gate file)
  same_digest = (λ i. slice_range left (same_end q left file agree head_near i) (same_gate q left file agree head_near i)) ∙ part_same (image_end file) (first_gate file - image_end file) q left file agree (omega (arith, far, gate_least (has_digests (layout_of file)) (image_end file)))

  pub same_its_digest : has_its_digest left ≡ has_its_digest file
  same_its_digest i = bytes_eq (same_digest i) (front_digest (same_layout q left file agree head_near i) (same_front i))

  no_fault : (o : Option ℕ) (v : Bool) → option_or o (unless v 72) ≡ None → o ≡ None
  no_fault None v is = refl
  no_fault (Some x) v is = absurd (cc is)

  pub still_stands : (k : Known) → q < length left → Stands k file → Stands k left
  still_stands k within stands =
      let parts = and_parts (nat_le 96 (length file)) (is_open_at 0 file) stands.0 in
      let long : nat_le 96 (length left) ≡ true = le-leb 96 (length left) (omega (arith, within, end_near)) in
      let first : slice_get left 0 ≡ slice_get file 0 = sym (byte_of_front q 0 left (omega (arith, end_near))) ∙ ap (λ (x : List ℕ). slice_get x 0) agree ∙ byte_of_front q 0 file (omega (arith, end_near)) in
      let gate : is_open_at 0 left ≡ true = ap shows_open first ∙ parts.1 in
      let opened : is_open left ≡ true = (λ i. long i && gate i) in
      let fault : head_fault k file ≡ None = sym (ap (λ (v : Bool). if v then head_fault k file else None) stands.0) ∙ stands.1 in
      let none : number_fault k left ≡ None = same_fault q left file agree head_near k ∙ no_fault (number_fault k file) (nat_lt (first_gate file) (length file)) fault in
      let room : nat_lt (first_gate left) (length left) ≡ true = lt-ltb (first_gate left) (length left) (omega (arith, within, far, same_gate q left file agree head_near)) in
      let head : head_fault k left ≡ None = (λ i. option_or (none i) (unless (room i) 72)) in
      (opened, ap (λ (v : Bool). if v then head_fault k left else None) opened ∙ head)
