-- Bytes have one run.
use Rattle.std.proofs.Common.{◌≡◌, ℕ, ◌+◌, ◌<◌, ◌≤◌, ◌⊎◌, inl, inr, Bool, true, false, List, [], ◌∷◌, length, refl, sym, ap, subst, ◌∙◌, arith}
use Rattle.std.specs.Prelude.{IsTrue}
use Rattle.std.specs.List.{AllByRecursion}
use Rattle.dkv_base.specs.Steps.{Situation}
use Rattle.dkv_pipe.specs.declared.pipe.PipeEnd.{PipeEnd}
use Rattle.dkv_pipe.specs.declared.pipe.PipeEnd.TheVariants as end
use Rattle.dkv_pipe.specs.declared.sizes.TheConstants.{BODY_PLACE, MAX_PLACE}
use Rattle.dkv_pipe.specs.Frames.{PipeFrame, Whole, Partial, Refused, front, Begins, BeginEarly}
use Rattle.dkv_pipe.specs.Built.{is_built}
use Rattle.dkv_pipe.specs.Wishes.{readings}
use Rattle.dkv_pipe.specs.Pipe.{replies_from}
use Rattle.dkv_pipe.specs.Courses.{Course, IsCourse}
use Rattle.dkv_pipe.specs.Ends.{Streams, NoFrame, Unbuilt, EndsAt, Ran}
use Rattle.dkv_pipe.specs.Laws.{NoBuilt, OneRun, IsTold, OneCourse}
use Rattle.dkv_pipe.proofs.Fronts.{not_partial, not_refused}
use Rattle.dkv_pipe.proofs.RepliedFrames.{span, begins_length}

pub front_nothing : front [] ≡ Partial
unfolding front
front_nothing = refl

pub not_whole : (f : PipeFrame) (after : List ℕ) → front [] ≡ Whole f after → ⊥
not_whole f after e = not_partial f after (sym front_nothing ∙ e)

pub frames_are : (f g : PipeFrame) (a b : List ℕ) → Whole f a ≡ Whole g b → (f ≡ g) × (a ≡ b)
frames_are f g a b e = (cc, cc)

pub differ : (b : Bool) → b ≡ true → b ≡ false → ⊥
differ b is isnt = absurd cc

-- the frames, and what is behind them
one_list : (bytes : List ℕ) (fs gs : List PipeFrame) (rest last : List ℕ) → Begins bytes fs rest → AllByRecursion (λ f. IsTrue (is_built f.kind)) fs → NoBuilt rest
    → Begins bytes gs last → AllByRecursion (λ f. IsTrue (is_built f.kind)) gs → NoBuilt last → (fs ≡ gs) × (rest ≡ last)
one_list bytes [] [] rest last x xs none y ys never = (refl, sym x ∙ y)
one_list bytes [] (g ∷ gs) rest last x xs none y ys never = absurd (differ (is_built g.kind) ys.0 (none g y.0 (ap front (sym x) ∙ y.1)))
one_list bytes (f ∷ fs) [] rest last x xs none y ys never = absurd (differ (is_built f.kind) xs.0 (never f x.0 (ap front (sym y) ∙ x.1)))
one_list bytes (f ∷ fs) (g ∷ gs) rest last x xs none y ys never =
    let same = frames_are f g x.0 y.0 (sym x.1 ∙ y.1) in
    let more = one_list x.0 fs gs rest last x.2 xs.1 none (subst (λ (l : List ℕ). Begins l gs last) (sym same.1) y.2) ys.1 never in
    (ap (λ (h : PipeFrame). h ∷ fs) same.0 ∙ ap (λ (hs : List PipeFrame). g ∷ hs) more.0, more.1)

-- courses of one input with the same frames, marks and rest
courses_are : (from : Situation) (input other : List ℕ) (c d : Course) → IsCourse from input c → IsCourse from other d → input ≡ other → c.frames ≡ d.frames → c.marks ≡ d.marks → c.rest ≡ d.rest → c ≡ d
courses_are from input other c d x y same frames marks rest =
    let out : c.out ≡ d.out = x.replied ∙ (λ i. replies_from readings from (frames i) (marks i)) ∙ sym y.replied in
    let place : c.at ≡ d.at = omega (arith, x.place, y.place, ap length same, ap length rest) in
    λ i. record { frames = frames i; marks = marks i; at = place i; out = out i; rest = rest i }

pub one_run : OneRun
one_run from input c d x none y never marks =
    let same = one_list input c.frames d.frames c.rest d.rest x.whole x.built none y.whole y.built never in
    courses_are from input input c d x y refl same.0 marks same.1

-- ---- where a run ends

-- no further frame is answered here
abbrev IsOver : ℕ → List ℕ → Type 0
IsOver at rest = NoBuilt rest ⊎ (MAX_PLACE ≤ at)

-- where one run ends, the other has no further frame
no_further : (bytes rest : List ℕ) (at : ℕ) (f : PipeFrame) (after : List ℕ) → bytes ≡ rest → IsOver at rest → front bytes ≡ Whole f after → is_built f.kind ≡ true → at < MAX_PLACE → ⊥
no_further bytes rest at f after is (inl none) whole built early = differ (is_built f.kind) built (none f after (ap front (sym is) ∙ whole))
no_further bytes rest at f after is (inr late) whole built early = omega (arith, late, early)

nothing_spanned : (at : ℕ) (rest : List ℕ) → IsOver (at + 0) rest → IsOver at rest
nothing_spanned at rest ended = subst (λ (n : ℕ). IsOver n rest) (omega arith) ended

behind_first : (at : ℕ) (f : PipeFrame) (fs : List PipeFrame) (rest : List ℕ) → IsOver (at + span (f ∷ fs)) rest → IsOver (at + BODY_PLACE + length f.body + span fs) rest
behind_first at f fs rest ended = subst (λ (n : ℕ). IsOver n rest) (omega arith) ended

one_way : (at : ℕ) (bytes : List ℕ) (fs gs : List PipeFrame) (rest last : List ℕ) → Begins bytes fs rest → AllByRecursion (λ f. IsTrue (is_built f.kind)) fs → BeginEarly at fs → IsOver (at + span fs) rest
    → Begins bytes gs last → AllByRecursion (λ f. IsTrue (is_built f.kind)) gs → BeginEarly at gs → IsOver (at + span gs) last → (fs ≡ gs) × (rest ≡ last)
one_way at bytes [] [] rest last x xs e ends y ys d never = (refl, sym x ∙ y)
one_way at bytes [] (g ∷ gs) rest last x xs e ends y ys d never = absurd (no_further bytes rest at g y.0 x (nothing_spanned at rest ends) y.1 ys.0 d.0)
one_way at bytes (f ∷ fs) [] rest last x xs e ends y ys d never = absurd (no_further bytes last at f x.0 y (nothing_spanned at last never) x.1 xs.0 e.0)
one_way at bytes (f ∷ fs) (g ∷ gs) rest last x xs e ends y ys d never =
    let same = frames_are f g x.0 y.0 (sym x.1 ∙ y.1) in
    let next = at + BODY_PLACE + length f.body in
    let more = one_way next x.0 fs gs rest last x.2 xs.1 e.1 (behind_first at f fs rest ends)
    (subst (λ (l : List ℕ). Begins l gs last) (sym same.1) y.2) ys.1
    (subst (λ (h : PipeFrame). BeginEarly (at + BODY_PLACE + length h.body) gs) (sym same.0) d.1)
    (subst (λ (h : PipeFrame). IsOver (at + BODY_PLACE + length h.body + span gs) last) (sym same.0) (behind_first at g gs last never)) in
    (ap (λ (h : PipeFrame). h ∷ fs) same.0 ∙ ap (λ (hs : List PipeFrame). g ∷ hs) more.0, more.1)

part_unbuilt : (rest : List ℕ) → front rest ≡ Partial → NoBuilt rest
part_unbuilt rest part f more whole = absurd (not_partial f more (sym part ∙ whole))

refused_unbuilt : (rest : List ℕ) → front rest ≡ Refused → NoBuilt rest
refused_unbuilt rest refused f more whole = absurd (not_refused f more (sym refused ∙ whole))

no_frame_over : (after : Streams) (at : ℕ) (rest : List ℕ) → NoFrame after at rest → IsOver at rest
no_frame_over after at rest (inl refused) = inl (refused_unbuilt rest refused)
no_frame_over after at rest (inr (inl cut)) = inl (part_unbuilt rest cut.part)
no_frame_over after at rest (inr (inr late)) = inr late

frame_unbuilt : (at : ℕ) (rest : List ℕ) → Unbuilt at rest → NoBuilt rest
frame_unbuilt at rest u f more whole = subst (λ (g : PipeFrame). is_built g.kind ≡ false) (frames_are u.frame f u.more more (sym u.whole ∙ whole)).0 u.unbuilt

told_over : (k : Bool) (e : PipeEnd) (after : Streams) (at : ℕ) (rest : List ℕ) → IsTold e → EndsAt k e after at rest → IsOver at rest
told_over k end.Ok after at rest told ends = inl (part_unbuilt rest (ap front ends.none ∙ front_nothing))
told_over k end.ReadFault after at rest told ends = inl (part_unbuilt rest ends.part)
told_over k end.WriteFault after at rest told ends = absurd told
told_over k (end.BadFrame place) after at rest told ends = no_frame_over after at rest ends.1
told_over k (end.NotBuilt place) after at rest told ends = inl (frame_unbuilt at rest ends.1)
told_over k end.NoMemory after at rest told ends = absurd told

-- the place is where the frames end
place_is : (from : Situation) (read : List ℕ) (c : Course) (r : IsCourse from read c) → c.at ≡ 0 + span c.frames
place_is from read c r = omega (arith, r.place, begins_length read c.frames c.rest r.whole)

run_over : (k : Bool) (e : PipeEnd) (from : Situation) (before after : Streams) (c : Course) (r : Ran k e from before after c) → IsTold e → IsOver (0 + span c.frames) c.rest
run_over k e from before after c r told =
    subst (λ (n : ℕ). IsOver n c.rest) (place_is from r.read c r.answered) (told_over k e after c.at c.rest told r.ends)

pub one_course : OneCourse
one_course k l d e from b c u v x y r s first last same marks =
    let p = r.answered in
    let q = s.answered in
    let one = one_way 0 s.read x.frames y.frames x.rest y.rest
    (subst (λ (bytes : List ℕ). Begins bytes x.frames x.rest) same p.whole) p.built p.early (run_over k d from b c x r first)
    q.whole q.built q.early (run_over l e from u v y s last) in
    courses_are from r.read s.read x y p q same one.0 marks one.1
