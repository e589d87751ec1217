-- The bytes of a frame begin with it, and what stands whole at the front is a frame's bytes.
use Rattle.std.proofs.Common.{◌≡◌, refl, sym, ◌∙◌, ap, subst, ℕ, ◌+◌, ◌-◌, ◌^◌, ◌≤◌, true, false, ◌&&◌, List, [], ◌∷◌, ◌++◌, length, take, drop, arith, append_assoc, length-append, get_or, length-take, take-append-drop}
use Rattle.std.specs.Prelude.{IsTrue, nat_lt, ◌||◌, flat_map}
use Rattle.std.specs.Int.{w32, w64, to_le_bytes, from_le_bytes}
use Rattle.std.proofs.lemmas.Bool.{and_parts, le-ltb, ltb-true, leb-true, eqb-true, or_parts, and_from, lt-ltb, ltb-false}
use Rattle.std.proofs.lemmas.List.{take_at, drop_at, drop-drop, drop_more, length-drop}
use Rattle.std.specs.List.{AllByRecursion}
use Rattle.std.proofs.lemmas.List.Elements.{recursion_from_All}
use Rattle.std.proofs.lemmas.Nat.{from_le_bytes-to_le_bytes_4, from_le_bytes-to_le_bytes_8, le_bytes_4, le_bytes_8}
use Rattle.dkv_base.proofs.ByteLists.{Below, below_take, below_drop, number_4, number_8}
use Rattle.dkv_pipe.specs.declared.frame_kind.FrameKind.{FrameKind}
use Rattle.dkv_pipe.specs.declared.frame_kind.FrameKind.TheVariants as kind
use Rattle.dkv_pipe.specs.Codes.{kind_code}
use Rattle.dkv_pipe.specs.Frames.{PipeFrame, frame_bytes, frame_at, is_frame, is_body_length, Whole, length_at, code_at, Begins}
use Rattle.dkv_pipe.specs.Laws.{FrameIsFront, FramesBegin, FrontIsFrame}
use Rattle.dkv_pipe.proofs.Codes.{code_of_found, kind_of_code}
use Rattle.dkv_pipe.proofs.Fronts.{Tests, is_whole, whole_is}

-- no body is longer than a message's
most_body : (k : FrameKind) (n : ℕ) → is_body_length k n ≡ true → n ≤ 2097152
most_body kind.Read n is = leb-true n 2097152 is
most_body kind.Write n is = leb-true n 2097152 is
most_body kind.Watch n is = leb-true n 2097152 is
most_body kind.Poll n is = omega (arith, eqb-true n 0 is)
most_body kind.Take n is = omega (arith, eqb-true n 0 is)
most_body kind.Acknowledge n is = omega (arith, eqb-true n 12 is)
most_body kind.Fail n is = omega (arith, eqb-true n 12 is)
most_body kind.Checkpoint n is = omega (arith, eqb-true n 0 is)
most_body kind.Term n is = omega (arith, eqb-true n 0 is)

module _ (f : PipeFrame) (rest : List ℕ) (is : is_frame f ≡ true) where
  abbrev n : ℕ
  n = length f.body

  abbrev bytes : List ℕ
  bytes = frame_bytes f ++ rest

  told : (nat_lt f.caller (2 ^ 32) ≡ true) × (nat_lt f.moment (2 ^ 64) ≡ true) × (is_body_length f.kind n ≡ true)
  told =
      let last = and_parts (nat_lt f.caller (2 ^ 32) && nat_lt f.moment (2 ^ 64)) (is_body_length f.kind n) is in
      let first = and_parts (nat_lt f.caller (2 ^ 32)) (nat_lt f.moment (2 ^ 64)) last.0 in
      (first.0, first.1, last.1)

  short : n ≤ 2097152
  short = most_body f.kind n told.2

  long_is : length_at bytes ≡ n + 13
  long_is = from_le_bytes-to_le_bytes_4 (n + 13) (omega (arith, short))

  body_is : length_at bytes - 13 ≡ n
  body_is = omega (arith, long_is)

  tests : Tests bytes f.kind
  tests = record {
    range = (λ i. le-ltb (length_at bytes) 13 (omega (arith, long_is)) i || le-ltb 2097165 (length_at bytes) (omega (arith, long_is, short)) i);
    long = omega (arith, length-append f.body rest);
    kind = kind_of_code f.kind;
    fits = ap (is_body_length f.kind) body_is ∙ told.2;
    whole = omega (arith, long_is, length-append f.body rest);
  }

  same_frame : frame_at f.kind bytes ≡ f
  same_frame =
      let caller = from_le_bytes-to_le_bytes_4 f.caller (ltb-true f.caller (2 ^ 32) told.0) in
      let moment = from_le_bytes-to_le_bytes_8 f.moment (ltb-true f.moment (2 ^ 64) told.1) in
      let body = ap (λ (k : ℕ). take k (f.body ++ rest)) body_is ∙ take_at f.body rest n refl in
      λ i. record { caller = caller i; moment = moment i; kind = f.kind; body = body i }

  same_rest : drop (4 + length_at bytes) bytes ≡ rest
  same_rest =
      let counted : 4 + length_at bytes ≡ 17 + n = omega (arith, long_is) in
      ap (λ (k : ℕ). drop k bytes) counted ∙ drop_at (frame_bytes f) rest (17 + n) (omega arith)

pub frame_is_front : FrameIsFront
frame_is_front f rest is = is_whole (frame_bytes f ++ rest) f.kind (tests f rest is) ∙ (λ i. Whole (same_frame f rest is i) (same_rest f rest is i))

all_begin : (fs : List PipeFrame) → AllByRecursion (λ f. IsTrue (is_frame f)) fs → Begins (flat_map frame_bytes fs) fs []
all_begin [] all = refl
all_begin (f ∷ fs) all = (flat_map frame_bytes fs, frame_is_front f (flat_map frame_bytes fs) all.0, all_begin fs all.1)

pub frames_begin : FramesBegin
frames_begin input fs are = subst (λ (l : List ℕ). Begins l fs []) (sym are.bytes) (all_begin fs (recursion_from_All (λ f. IsTrue (is_frame f)) fs are.each))

-- ---- and back

module _ (bytes : List ℕ) (k : FrameKind) (below : Below bytes) (t : Tests bytes k) where
  abbrev l : ℕ
  l = length_at bytes

  abbrev body : List ℕ
  body = take (l - 13) (drop 17 bytes)

  tested : (nat_lt l 13 ≡ false) × (nat_lt 2097165 l ≡ false)
  tested = or_parts _ _ t.range

  least : 13 ≤ l
  least = ltb-false l 13 tested.0

  most : l ≤ 2097165
  most = ltb-false 2097165 l tested.1

  body_long : length body ≡ l - 13
  body_long = omega (arith, length-take (l - 13) (drop 17 bytes), length-drop 17 bytes, t.whole, least)

  first_is : to_le_bytes w32 (length body + 13) ≡ take 4 bytes
  first_is =
      let same : length body + 13 ≡ l = omega (arith, body_long, least) in
      le_bytes_4 (take 4 bytes) (length body + 13) (omega (arith, length-take 4 bytes, t.long)) (below_take 4 bytes below) same

  caller_is : to_le_bytes w32 (from_le_bytes w32 (take 4 (drop 4 bytes))) ≡ take 4 (drop 4 bytes)
  caller_is = le_bytes_4 (take 4 (drop 4 bytes)) _ (omega (arith, length-take 4 (drop 4 bytes), length-drop 4 bytes, t.long)) (below_take 4 (drop 4 bytes) (below_drop 4 bytes below)) refl

  moment_is : to_le_bytes w64 (from_le_bytes w64 (take 8 (drop 8 bytes))) ≡ take 8 (drop 8 bytes)
  moment_is = le_bytes_8 (take 8 (drop 8 bytes)) _ (omega (arith, length-take 8 (drop 8 bytes), length-drop 8 bytes, t.long)) (below_take 8 (drop 8 bytes) (below_drop 8 bytes below)) refl

  -- from one place on: so many bytes, and what stands from the next place on
  joined : (a b c : ℕ) → a + b ≡ c → take b (drop a bytes) ++ drop c bytes ≡ drop a bytes
  joined a b c is = ap (λ (x : List ℕ). take b (drop a bytes) ++ x) (ap (λ (k : ℕ). drop k bytes) (sym is) ∙ sym (drop-drop b a bytes)) ∙ take-append-drop b (drop a bytes)

  code_is : kind_code k ≡ get_or bytes 16 0
  code_is = code_of_found (code_at bytes) k t.kind

  whole_is_frame : bytes ≡ frame_bytes (frame_at k bytes) ++ drop (4 + l) bytes
  whole_is_frame =
      let rest = drop (4 + l) bytes in
      let tail : kind_code k ∷ (body ++ rest) ≡ drop 16 bytes =
      (λ i. code_is i ∷ (body ++ rest)) ∙ ap (λ (x : List ℕ). get_or bytes 16 0 ∷ x) (joined 17 (l - 13) (4 + l) (omega (arith, least))) ∙ sym (drop_more bytes 16 0 (omega (arith, t.long))) in
      let parts : frame_bytes (frame_at k bytes) ++ rest ≡ take 4 bytes ++ (take 4 (drop 4 bytes) ++ (take 8 (drop 8 bytes) ++ drop 16 bytes)) =
      append_assoc (to_le_bytes w32 (length body + 13) ++ to_le_bytes w32 (from_le_bytes w32 (take 4 (drop 4 bytes))) ++ to_le_bytes w64 (from_le_bytes w64 (take 8 (drop 8 bytes)))) (kind_code k ∷ body) rest
      ∙ (λ i. first_is i ++ caller_is i ++ moment_is i ++ tail i)
      ∙ append_assoc (take 4 bytes ++ take 4 (drop 4 bytes)) (take 8 (drop 8 bytes)) (drop 16 bytes)
      ∙ append_assoc (take 4 bytes) (take 4 (drop 4 bytes)) (take 8 (drop 8 bytes) ++ drop 16 bytes) in
      sym (parts
      ∙ ap (λ (x : List ℕ). take 4 bytes ++ (take 4 (drop 4 bytes) ++ x)) (joined 8 8 16 refl)
      ∙ ap (λ (x : List ℕ). take 4 bytes ++ x) (joined 4 4 8 refl)
      ∙ take-append-drop 4 bytes)

  front_is_good : is_frame (frame_at k bytes) ≡ true
  front_is_good =
      let caller = take 4 (drop 4 bytes) in
      let moment = take 8 (drop 8 bytes) in
      and_from _ _ (and_from _ _
      (lt-ltb (from_le_bytes w32 caller) (2 ^ 32) (number_4 caller (below_take 4 (drop 4 bytes) (below_drop 4 bytes below))))
      (lt-ltb (from_le_bytes w64 moment) (2 ^ 64) (number_8 moment (below_take 8 (drop 8 bytes) (below_drop 8 bytes below)))))
      (ap (is_body_length k) body_long ∙ t.fits)

whole_parts : (f g : PipeFrame) (a b : List ℕ) → Whole f a ≡ Whole g b → (f ≡ g) × (a ≡ b)
whole_parts f g a b e = (cc, cc)

pub front_is_frame : FrontIsFrame
front_is_frame bytes rest f are e =
    let found = whole_is bytes f rest e in
    let k = found.kind in
    let same = whole_parts (frame_at k bytes) f (drop (4 + length_at bytes) bytes) rest found.is in
    (whole_is_frame bytes k are.each found.tests ∙ (λ i. frame_bytes (same.0 i) ++ same.1 i), ap is_frame (sym same.0) ∙ front_is_good bytes k are.each found.tests)
