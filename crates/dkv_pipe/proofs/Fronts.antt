-- A whole frame at the front stays there, whatever follows.
use Rattle.std.proofs.Common.{◌≡◌, ℕ, ◌+◌, ◌-◌, ◌≤◌, Bool, true, false, cond, Option, Some, None, List, ◌++◌, length, take, drop, refl, sym, ap, subst, ◌∙◌, arith, length-append, length-take}
use Rattle.std.specs.Prelude.{nat_lt, not}
use Rattle.std.specs.Int.{w32, from_le_bytes}
use Rattle.std.proofs.lemmas.Bool.{le-ltb, ltb-false, not-false, or_parts}
use Rattle.std.proofs.lemmas.List.{take-append-le, drop-append-le, get_or_append_left, length-drop}
use Rattle.dkv_pipe.specs.declared.frame_kind.FrameKind.{FrameKind}
use Rattle.dkv_pipe.specs.declared.frames.Head.{Head}
use Rattle.dkv_pipe.specs.declared.sizes.TheConstants.{LENGTH_BYTES, HEAD_BYTES, BODY_PLACE}
use Rattle.dkv_pipe.specs.Codes.{kind_of}
use Rattle.dkv_pipe.specs.Frames.{PipeFrame, Front, Whole, Partial, Refused, front, front_of_kind, frame_at, length_at, body_length_at, caller_at, moment_at, code_at, is_bad_length, is_body_length}
use Rattle.dkv_pipe.specs.Running.{IsWholeOf}

-- what makes a frame of this kind whole
pub record Tests (bytes : List ℕ) (k : FrameKind) : Type 0 where
  pub range : is_bad_length (length_at bytes) ≡ false
  pub long : BODY_PLACE ≤ length bytes
  pub kind : kind_of (code_at bytes) ≡ Some k
  pub fits : is_body_length k (body_length_at bytes) ≡ true
  pub whole : LENGTH_BYTES + length_at bytes ≤ length bytes

pub is_whole : (bytes : List ℕ) (k : FrameKind) → Tests bytes k → front bytes ≡ Whole (frame_at k bytes) (drop (LENGTH_BYTES + length_at bytes) bytes)
unfolding front
is_whole bytes k t =
    rw (le-ltb (length bytes) 4 (omega (arith, t.long)), t.range, le-ltb (length bytes) 17 t.long, t.kind, t.fits, le-ltb (length bytes) (4 + length_at bytes) t.whole) refl

pub other : (b : Bool) (x y z : Front) → cond b x y ≡ z → (x ≡ z → ⊥) → (b ≡ false) × (y ≡ z)
other true x y z e differ = absurd (differ e)
other false x y z e differ = (refl, e)

pub not_partial : (f : PipeFrame) (after : List ℕ) → Partial ≡ Whole f after → ⊥
not_partial f after e = absurd cc

pub not_refused : (f : PipeFrame) (after : List ℕ) → Refused ≡ Whole f after → ⊥
not_refused f after e = absurd cc

-- the last tests, which ask for the kind
record Last (bytes : List ℕ) (o : Option FrameKind) (f : PipeFrame) (after : List ℕ) : Type 0 where
  kind : FrameKind
  found : o ≡ Some kind
  fits : is_body_length kind (body_length_at bytes) ≡ true
  whole : LENGTH_BYTES + length_at bytes ≤ length bytes
  is : Whole (frame_at kind bytes) (drop (LENGTH_BYTES + length_at bytes) bytes) ≡ Whole f after

last_tests : (bytes : List ℕ) (o : Option FrameKind) (f : PipeFrame) (after : List ℕ) → front_of_kind o bytes ≡ Whole f after → Last bytes o f after
last_tests bytes None f after e = absurd (not_refused f after e)
last_tests bytes (Some k) f after e =
    let a = other (not (is_body_length k (body_length_at bytes))) Refused _ (Whole f after) e (not_refused f after) in
    let b = other (nat_lt (length bytes) (LENGTH_BYTES + length_at bytes)) Partial _ (Whole f after) a.1 (not_partial f after) in
    record {
      kind = k;
      found = refl;
      fits = not-false (is_body_length k (body_length_at bytes)) a.0;
      whole = ltb-false (length bytes) (LENGTH_BYTES + length_at bytes) b.0;
      is = b.1;
    }

-- the kind of a whole frame, and its tests
pub record Found (bytes : List ℕ) (f : PipeFrame) (after : List ℕ) : Type 0 where
  pub kind : FrameKind
  pub tests : Tests bytes kind
  pub is : Whole (frame_at kind bytes) (drop (LENGTH_BYTES + length_at bytes) bytes) ≡ Whole f after

pub whole_is : (bytes : List ℕ) (f : PipeFrame) (after : List ℕ) → front bytes ≡ Whole f after → Found bytes f after
unfolding front
whole_is bytes f after e =
    let a = other (nat_lt (length bytes) 4) Partial _ (Whole f after) e (not_partial f after) in
    let b = other (is_bad_length (length_at bytes)) Refused _ (Whole f after) a.1 (not_refused f after) in
    let c = other (nat_lt (length bytes) 17) Partial _ (Whole f after) b.1 (not_partial f after) in
    let last = last_tests bytes (kind_of (code_at bytes)) f after c.1 in
    record {
      kind = last.kind;
      tests = record { range = b.0; long = ltb-false (length bytes) 17 c.0; kind = last.found; fits = last.fits; whole = last.whole };
      is = last.is;
    }

-- the length that is read stays
pub length_more : (bytes more : List ℕ) → LENGTH_BYTES ≤ length bytes → length_at (bytes ++ more) ≡ length_at bytes
length_more bytes more long = ap (from_le_bytes w32) (take-append-le 4 bytes more long)

-- the bytes of a whole frame and what is behind it
counted : (bytes : List ℕ) (k : FrameKind) (f : PipeFrame) (after : List ℕ) → Tests bytes k → Whole (frame_at k bytes) (drop (LENGTH_BYTES + length_at bytes) bytes) ≡ Whole f after → length bytes ≡ BODY_PLACE + length f.body + length after
counted bytes k f after t is =
    let body : take (body_length_at bytes) (drop BODY_PLACE bytes) ≡ f.body = cc in
    let rest : drop (LENGTH_BYTES + length_at bytes) bytes ≡ after = cc in
    let least = ltb-false (length_at bytes) 13 (or_parts (nat_lt (length_at bytes) 13) (nat_lt 2097165 (length_at bytes)) t.range).0 in
    omega (arith, least, t.long, t.whole, ap length body, ap length rest, length-take (body_length_at bytes) (drop BODY_PLACE bytes), length-drop BODY_PLACE bytes, length-drop (LENGTH_BYTES + length_at bytes) bytes)

pub whole_length : (bytes : List ℕ) (f : PipeFrame) (after : List ℕ) → front bytes ≡ Whole f after → length bytes ≡ BODY_PLACE + length f.body + length after
whole_length bytes f after e = let found = whole_is bytes f after e in counted bytes found.kind f after found.tests found.is

module _ (bytes more : List ℕ) (long : BODY_PLACE ≤ length bytes) where
  pub same_length : length_at (bytes ++ more) ≡ length_at bytes
  same_length = length_more bytes more (omega (arith, long))

  pub same_code : code_at (bytes ++ more) ≡ code_at bytes
  same_code = get_or_append_left bytes more 0 16 (omega (arith, long))

  same_part : (n at : ℕ) → at + n ≤ length bytes → take n (drop at (bytes ++ more)) ≡ take n (drop at bytes)
  same_part n at le =
      ap (take n) (drop-append-le at bytes more (omega (arith, le))) ∙ take-append-le n (drop at bytes) more (omega (arith, le, length-drop at bytes))

  pub tests_more : (k : FrameKind) → Tests bytes k → Tests (bytes ++ more) k
  tests_more k t = record {
    range = rw same_length t.range;
    long = omega (arith, long, length-append bytes more);
    kind = rw same_code t.kind;
    fits = rw same_length t.fits;
    whole = rw same_length (omega (arith, t.whole, length-append bytes more));
  }

  frame_more : (k : FrameKind) → Tests bytes k → frame_at k (bytes ++ more) ≡ frame_at k bytes
  frame_more k t =
      rw (same_length, same_part 4 4 (omega (arith, long)), same_part 8 8 (omega (arith, long)), same_part (body_length_at bytes) 17 (omega (arith, t.whole, t.long))) refl

  pub whole_more : (k : FrameKind) → Tests bytes k
      → Whole (frame_at k (bytes ++ more)) (drop (4 + length_at (bytes ++ more)) (bytes ++ more)) ≡ Whole (frame_at k bytes) (drop (4 + length_at bytes) bytes ++ more)
  whole_more k t = rw (frame_more k t, same_length, drop-append-le (4 + length_at bytes) bytes more t.whole) refl

longer : (f : PipeFrame) (a b more : List ℕ) (g : PipeFrame) → Whole f a ≡ Whole g b → Whole f (a ++ more) ≡ Whole g (b ++ more)
longer f a b more g e = cc

pub front_more : (bytes more : List ℕ) (f : PipeFrame) (after : List ℕ) → front bytes ≡ Whole f after → front (bytes ++ more) ≡ Whole f (after ++ more)
front_more bytes more f after e =
    let found = whole_is bytes f after e in
    let k = found.kind in
    let t = found.tests in
    is_whole (bytes ++ more) k (tests_more bytes more t.long k t) ∙ whole_more bytes more t.long k t
    ∙ longer (frame_at k bytes) (drop (4 + length_at bytes) bytes) after more f found.is

-- the head of the frame, if the bytes are long enough
abbrev pub head_at : FrameKind → List ℕ → ℕ → Head
head_at k bytes len = record {
  caller = caller_at bytes;
  moment = moment_at bytes;
  kind = k;
  len = LENGTH_BYTES + len;
}

pub look_whole : (bytes : List ℕ) (k : FrameKind) (len : ℕ) → Tests bytes k → len ≡ length_at bytes → HEAD_BYTES ≤ len → IsWholeOf (head_at k bytes len) bytes
look_whole bytes k len t e least =
    let P : ℕ → Type 0 = λ n. IsWholeOf (head_at k bytes n) bytes in
    let same : (n : ℕ) → n - 13 ≡ 4 + n - 17 = λ n. omega arith in
    subst P (sym e) (record {
      whole = is_whole bytes k t ∙ ap (λ (n : ℕ). Whole (record {
        caller = caller_at bytes;
        moment = moment_at bytes;
        kind = k;
        body = take n (drop 17 bytes);
      }) (drop (4 + length_at bytes) bytes)) (same (length_at bytes));
      least = omega (arith, e, least);
      most = t.whole;
      fits = subst (λ n. is_body_length k n ≡ true) (same (length_at bytes)) t.fits;
    })
