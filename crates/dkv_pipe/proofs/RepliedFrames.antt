-- One frame more, or some bytes more, behind frames that were replied to.
use Rattle.std.proofs.Common.{◌≡◌, ◌+◌, ◌<◌, Bool, List, [], ◌∷◌, ◌++◌, length, refl, sym, ap, subst, ◌∙◌, arith, append_assoc, length-append}
use Rattle.std.proofs.lemmas.List.{append-nil}
use Rattle.std.specs.Prelude.{IsTrue, ℕ}
use Rattle.std.specs.List.{AllByRecursion}
use Rattle.dkv_base.specs.Steps.{Situation}
use Rattle.dkv_pipe.specs.declared.sizes.TheConstants.{BODY_PLACE, MAX_PLACE}
use Rattle.dkv_pipe.specs.Frames.{PipeFrame, Whole, front, Begins, BeginEarly}
use Rattle.dkv_pipe.specs.Wishes.{readings}
use Rattle.dkv_pipe.specs.Pipe.{frame_step, replies_from, after_frames}
use Rattle.dkv_pipe.specs.Built.{is_built}
use Rattle.dkv_pipe.specs.Courses.{Course, IsCourse, IsMarked, AreMarked}
use Rattle.dkv_store.specs.Attempts.{Attempt}
use Rattle.dkv_pipe.specs.Attempts.{frame_attempts, attempts_of}
use Rattle.dkv_pipe.proofs.Fronts.{front_more, whole_length}

pub begins_more : (bytes more : List ℕ) (fs : List PipeFrame) (rest : List ℕ) → Begins bytes fs rest → Begins (bytes ++ more) fs (rest ++ more)
begins_more bytes more [] rest is = ap (λ (l : List ℕ). l ++ more) is
begins_more bytes more (f ∷ fs) rest is = (is.0 ++ more, front_more bytes more f is.0 is.1, begins_more is.0 more fs rest is.2)

begins_one : (bytes : List ℕ) (fs : List PipeFrame) (rest : List ℕ) (f : PipeFrame) (after : List ℕ) → Begins bytes fs rest → front rest ≡ Whole f after → Begins bytes (fs ++ f ∷ []) after
begins_one bytes [] rest f after is whole = (after, ap front is ∙ whole, refl)
begins_one bytes (g ∷ fs) rest f after is whole = (is.0, is.1, begins_one is.0 fs rest f after is.2 whole)

-- ---- as many marks as frames

replies_one : (from : Situation) (fs : List PipeFrame) (ms : List Bool) (f : PipeFrame) (m : Bool) → length ms ≡ length fs
    → replies_from readings from (fs ++ f ∷ []) (ms ++ m ∷ []) ≡ replies_from readings from fs ms ++ (frame_step readings (after_frames readings from fs ms) f m).0
replies_one from [] [] f m many = append-nil (frame_step readings from f m).0
replies_one from [] (k ∷ ks) f m many = absurd (omega (arith, many))
replies_one from (g ∷ fs) [] f m many = absurd (omega (arith, many))
replies_one from (g ∷ fs) (k ∷ ks) f m many =
    let first = frame_step readings from g k in
    ap (λ (l : List ℕ). first.0 ++ l) (replies_one first.1 fs ks f m (omega (arith, many)))
    ∙ sym (append_assoc first.0 (replies_from readings first.1 fs ks) (frame_step readings (after_frames readings first.1 fs ks) f m).0)

pub after_one : (from : Situation) (fs : List PipeFrame) (ms : List Bool) (f : PipeFrame) (m : Bool) → length ms ≡ length fs
    → after_frames readings from (fs ++ f ∷ []) (ms ++ m ∷ []) ≡ (frame_step readings (after_frames readings from fs ms) f m).1
after_one from [] [] f m many = refl
after_one from [] (k ∷ ks) f m many = absurd (omega (arith, many))
after_one from (g ∷ fs) [] f m many = absurd (omega (arith, many))
after_one from (g ∷ fs) (k ∷ ks) f m many = after_one (frame_step readings from g k).1 fs ks f m (omega (arith, many))

pub attempts_one : (from : Situation) (fs : List PipeFrame) (ms : List Bool) (f : PipeFrame) (m : Bool) → length ms ≡ length fs
    → attempts_of from (fs ++ f ∷ []) (ms ++ m ∷ []) ≡ attempts_of from fs ms ++ frame_attempts (after_frames readings from fs ms) f m
attempts_one from [] [] f m many = append-nil (frame_attempts from f m)
attempts_one from [] (k ∷ ks) f m many = absurd (omega (arith, many))
attempts_one from (g ∷ fs) [] f m many = absurd (omega (arith, many))
attempts_one from (g ∷ fs) (k ∷ ks) f m many =
    let next = (frame_step readings from g k).1 in
    ap (λ (l : List Attempt). frame_attempts from g k ++ l) (attempts_one next fs ks f m (omega (arith, many)))
    ∙ sym (append_assoc (frame_attempts from g k) (attempts_of next fs ks) (frame_attempts (after_frames readings next fs ks) f m))

marked_one : (from : Situation) (fs : List PipeFrame) (ms : List Bool) (f : PipeFrame) (m : Bool) → length ms ≡ length fs → AreMarked from fs ms
    → IsMarked m (frame_step readings (after_frames readings from fs ms) f m).0 → AreMarked from (fs ++ f ∷ []) (ms ++ m ∷ [])
marked_one from [] [] f m many all is = (is, tt)
marked_one from [] (k ∷ ks) f m many all is = absurd (omega (arith, many))
marked_one from (g ∷ fs) [] f m many all is = absurd (omega (arith, many))
marked_one from (g ∷ fs) (k ∷ ks) f m many all is = (all.0, marked_one (frame_step readings from g k).1 fs ks f m (omega (arith, many)) all.1 is)

built_one : (fs : List PipeFrame) (f : PipeFrame) → AllByRecursion (λ g. IsTrue (is_built g.kind)) fs → IsTrue (is_built f.kind) → AllByRecursion (λ g. IsTrue (is_built g.kind)) (fs ++ f ∷ [])
built_one [] f all is = (is, tt)
built_one (g ∷ fs) f all is = (all.0, built_one fs f all.1 is)

-- ---- places

-- the frames' bytes
abbrev pub span : List PipeFrame → ℕ
span [] = 0
span (f ∷ fs) = BODY_PLACE + length f.body + span fs

pub begins_length : (bytes : List ℕ) (fs : List PipeFrame) (rest : List ℕ) → Begins bytes fs rest → length bytes ≡ span fs + length rest
begins_length bytes [] rest is = omega (arith, ap length is)
begins_length bytes (f ∷ fs) rest is = omega (arith, whole_length bytes f is.0 is.1, begins_length is.0 fs rest is.2)

early_one : (at : ℕ) (fs : List PipeFrame) (f : PipeFrame) → BeginEarly at fs → at + span fs < MAX_PLACE → BeginEarly at (fs ++ f ∷ [])
early_one at [] f early next = (omega (arith, next), tt)
early_one at (g ∷ fs) f early next = (early.0, early_one (at + BODY_PLACE + length g.body) fs f early.1 (omega (arith, next)))

-- one frame more begins where the others end
begin_early_one : (bytes : List ℕ) (fs : List PipeFrame) (rest : List ℕ) (at : ℕ) (f : PipeFrame) → Begins bytes fs rest → length bytes ≡ at + length rest → at < MAX_PLACE → BeginEarly 0 fs → BeginEarly 0 (fs ++ f ∷ [])
begin_early_one bytes fs rest at f is place next early = early_one 0 fs f early (omega (arith, begins_length bytes fs rest is, place, next))

-- ---- courses

-- some bytes more are read
pub course_more : (from : Situation) (bytes more : List ℕ) (c : Course) → IsCourse from bytes c → IsCourse from (bytes ++ more) (record c { rest = c.rest ++ more })
course_more from bytes more c is = record {
  whole = begins_more bytes more c.frames c.rest is.whole;
  built = is.built;
  early = is.early;
  place = omega (arith, is.place, length-append bytes more, length-append c.rest more);
  replied = is.replied;
  many = is.many;
  marked = is.marked;
}

-- a course and one frame more
abbrev pub course_with : Course → PipeFrame → Bool → List ℕ → ℕ → List ℕ → Course
course_with c f m reply at after = record {
  frames = c.frames ++ f ∷ [];
  marks = c.marks ++ m ∷ [];
  at = at;
  out = c.out ++ reply;
  rest = after;
}

-- the frame at the front of the rest is answered
pub course_one : (from : Situation) (bytes : List ℕ) (c : Course) (f : PipeFrame) (m : Bool) (reply : List ℕ) (at : ℕ) (after : List ℕ) → IsCourse from bytes c
    → c.at < MAX_PLACE → front c.rest ≡ Whole f after → IsTrue (is_built f.kind) → (frame_step readings (after_frames readings from c.frames c.marks) f m).0 ≡ reply → IsMarked m reply
    → at + length after ≡ c.at + length c.rest → IsCourse from bytes (course_with c f m reply at after)
course_one from bytes c f m reply at after is next whole built said marked place = record {
  whole = begins_one bytes c.frames c.rest f after is.whole whole;
  built = built_one c.frames f is.built built;
  early = begin_early_one bytes c.frames c.rest c.at f is.whole is.place next is.early;
  place = omega (arith, is.place, place);
  replied = (λ i. is.replied i ++ sym said i) ∙ sym (replies_one from c.frames c.marks f m is.many);
  many = omega (arith, is.many, length-append c.marks (m ∷ []), length-append c.frames (f ∷ []));
  marked = marked_one from c.frames c.marks f m is.many is.marked (subst (IsMarked m) (sym said) marked);
}
