-- What is refused at the front stays refused, whatever follows, and so begins no frame.
use Rattle.std.proofs.Common.{◌≡◌, refl, sym, ap, ◌∙◌, ℕ, ◌+◌, ◌≤◌, Bool, true, false, cond, Option, Some, None, List, ◌++◌, length, drop, ◌⊎◌, inl, inr, arith, length-append}
use Rattle.std.specs.Prelude.{nat_lt, not}
use Rattle.std.proofs.lemmas.Bool.{le-ltb, ltb-false}
use Rattle.dkv_pipe.specs.declared.frame_kind.FrameKind.{FrameKind}
use Rattle.dkv_pipe.specs.declared.sizes.TheConstants.{LENGTH_BYTES, BODY_PLACE}
use Rattle.dkv_pipe.specs.Codes.{kind_of}
use Rattle.dkv_pipe.specs.Frames.{Front, Whole, Partial, Refused, front, front_of_kind, frame_at, length_at, body_length_at, code_at, is_bad_length, is_body_length}
use Rattle.dkv_pipe.specs.Laws.{RefusedStays, BeginsNoFrame}
use Rattle.dkv_pipe.proofs.Fronts.{other, not_refused, length_more, same_length, same_code}
use Rattle.dkv_pipe.proofs.Spelled.{frame_is_front}

either : (b : Bool) (x y z : Front) → cond b x y ≡ z → (b ≡ true) ⊎ ((b ≡ false) × (y ≡ z))
either true x y z e = inl refl
either false x y z e = inr (refl, e)

not_part : Partial ≡ Refused → ⊥
not_part e = absurd cc

refused_by_length : (bytes : List ℕ) → LENGTH_BYTES ≤ length bytes → is_bad_length (length_at bytes) ≡ true → front bytes ≡ Refused
unfolding front
refused_by_length bytes long bad = rw (le-ltb (length bytes) 4 long, bad) refl

refused_by_kind : (bytes : List ℕ) → BODY_PLACE ≤ length bytes → is_bad_length (length_at bytes) ≡ false → front_of_kind (kind_of (code_at bytes)) bytes ≡ Refused → front bytes ≡ Refused
unfolding front
refused_by_kind bytes long good refused = rw (le-ltb (length bytes) 4 (omega (arith, long)), good, le-ltb (length bytes) 17 long, refused) refl

-- the last tests, which ask for the kind
kind_more : (bytes more : List ℕ) → BODY_PLACE ≤ length bytes → (o : Option FrameKind) → front_of_kind o bytes ≡ Refused → front_of_kind o (bytes ++ more) ≡ Refused
kind_more bytes more long None e = refl
kind_more bytes more long (Some k) e = on_fits (either (not (is_body_length k (body_length_at bytes))) Refused _ Refused e)
  where
    on_fits : (not (is_body_length k (body_length_at bytes)) ≡ true) ⊎ ((not (is_body_length k (body_length_at bytes)) ≡ false) × (cond (nat_lt (length bytes) (LENGTH_BYTES + length_at bytes)) Partial (Whole (frame_at k bytes) (drop (LENGTH_BYTES + length_at bytes) bytes)) ≡ Refused))
        → front_of_kind (Some k) (bytes ++ more) ≡ Refused
    on_fits (inl bad) = rw (same_length bytes more long, bad) refl
    on_fits (inr good) = absurd (not_refused (frame_at k bytes) (drop (LENGTH_BYTES + length_at bytes) bytes) (sym (other (nat_lt (length bytes) (LENGTH_BYTES + length_at bytes)) Partial _ Refused good.1 not_part).1))

pub refused_stays : RefusedStays
unfolding front
refused_stays bytes more e =
    let a = other (nat_lt (length bytes) 4) Partial _ Refused e not_part in
    let long = ltb-false (length bytes) 4 a.0 in
    on_length long (either (is_bad_length (length_at bytes)) Refused _ Refused a.1)
  where
    on_length : LENGTH_BYTES ≤ length bytes
        → (is_bad_length (length_at bytes) ≡ true) ⊎ ((is_bad_length (length_at bytes) ≡ false) × (cond (nat_lt (length bytes) 17) Partial (front_of_kind (kind_of (code_at bytes)) bytes) ≡ Refused))
        → front (bytes ++ more) ≡ Refused
    on_length long (inl bad) = refused_by_length (bytes ++ more) (omega (arith, long, length-append bytes more)) (ap is_bad_length (length_more bytes more long) ∙ bad)
    on_length long (inr good) =
        let c = other (nat_lt (length bytes) 17) Partial _ Refused good.1 not_part in
        let far = ltb-false (length bytes) 17 c.0 in
        refused_by_kind (bytes ++ more) (omega (arith, far, length-append bytes more))
        (ap is_bad_length (length_more bytes more long) ∙ good.0)
        (ap (λ (code : ℕ). front_of_kind (kind_of code) (bytes ++ more)) (same_code bytes more far) ∙ kind_more bytes more far (kind_of (code_at bytes)) c.1)

pub begins_no_frame : BeginsNoFrame
begins_no_frame bytes more rest f refused is same =
    not_refused f rest (sym (refused_stays bytes more refused) ∙ ap front same ∙ frame_is_front f rest is)
