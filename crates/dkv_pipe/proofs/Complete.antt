-- An input of whole frames that are built is answered to its end.
use Rattle.std.proofs.Common.{◌≡◌, ◌⊎◌, ℕ, ◌+◌, ◌-◌, ◌^◌, ◌<◌, ◌≤◌, Bool, true, false, cond, List, [], ◌∷◌, ◌++◌, length, Option, Some, None, inl, inr, refl, sym, ap, subst, ◌∙◌, arith, length-append}
use Rattle.std.specs.Prelude.{IsTrue, count_by, min, nat_le}
use Rattle.std.specs.List.{AllByRecursion}
use Rattle.std.specs.Io.KnownBytes.{Appends, Consumes, IsAtEnd}
use Rattle.std.proofs.lemmas.Bool.{leb-true, leb-false}
use Rattle.std.proofs.lemmas.List.{append-nil}
use Rattle.std.proofs.lemmas.List.Sums.{sum_by-cons}
use Rattle.std.proofs.lemmas.List.Elements.{recursion_from_All}
use Rattle.dkv_base.specs.Steps.{Situation}
use Rattle.dkv_io.specs.Causes.{Rose}
use Rattle.dkv_store.specs.Stores.{IsWithinRise}
use Rattle.dkv_pipe.specs.declared.pipe.PipeEnd.{PipeEnd}
use Rattle.dkv_pipe.specs.declared.pipe.PipeEnd.TheVariants as end
use Rattle.dkv_pipe.specs.declared.sizes.TheConstants.{MAX_PLACE}
use Rattle.dkv_pipe.specs.Frames.{PipeFrame, Whole, Partial, Refused, front, Begins}
use Rattle.dkv_pipe.specs.Built.{is_built}
use Rattle.dkv_pipe.specs.Wishes.{readings}
use Rattle.dkv_pipe.specs.Pipe.{frame_step, after_frames, output_from, replies_from, summary_lines}
use Rattle.dkv_pipe.specs.Courses.{Course}
use Rattle.dkv_pipe.specs.Ends.{Streams, NoFrame, HasEndCause, Ran, output}
use Rattle.dkv_pipe.specs.Whole.{IsWholeInput, Completes}
use Rattle.dkv_pipe.specs.Laws.{Complete}
use Rattle.dkv_pipe.proofs.Fronts.{front_more, not_partial, not_refused}
use Rattle.dkv_pipe.proofs.RepliedFrames.{begins_more}
use Rattle.dkv_pipe.proofs.One.{front_nothing, not_whole, frames_are, differ}
use Rattle.dkv_pipe.proofs.Refused.{refused_stays}
use Rattle.dkv_pipe.proofs.Spelled.{frames_begin}

-- ---- what is behind the answered frames

-- the frames behind some first ones
record Behind (rest : List ℕ) (done all : List PipeFrame) : Type 0 where
  more : List PipeFrame
  is : all ≡ done ++ more
  begins : Begins rest more []

behind : (bytes : List ℕ) (fs gs : List PipeFrame) (rest : List ℕ) → Begins bytes fs rest → Begins bytes gs [] → Behind rest fs gs
behind bytes [] gs rest x y = record { more = gs; is = refl; begins = subst (λ (l : List ℕ). Begins l gs []) x y }
behind bytes (f ∷ fs) [] rest x y = absurd (not_whole f x.0 (ap front (sym y) ∙ x.1))
behind bytes (f ∷ fs) (g ∷ gs) rest x y =
    let same = frames_are f g x.0 y.0 (sym x.1 ∙ y.1) in
    let b = behind x.0 fs gs rest x.2 (subst (λ (l : List ℕ). Begins l gs []) (sym same.1) y.2) in
    record {
      more = b.more;
      is = ap (λ (h : PipeFrame). h ∷ gs) (sym same.0) ∙ ap (λ (hs : List PipeFrame). f ∷ hs) b.is;
      begins = b.begins;
    }

built_behind : (fs gs : List PipeFrame) → AllByRecursion (λ f. IsTrue (is_built f.kind)) (fs ++ gs) → AllByRecursion (λ f. IsTrue (is_built f.kind)) gs
built_behind [] gs all = all
built_behind (f ∷ fs) gs all = built_behind fs gs all.1

-- what the source has left behind what was read
record Left (input read : List ℕ) (after : Option (List ℕ)) : Type 0 where
  left : List ℕ
  told : after ≡ Some left
  is : input ≡ read ++ left

left_of : (old new : Option (List ℕ)) (input read : List ℕ) → old ≡ Some input → Consumes old new read → Left input read new
left_of None new input read told is = absurd cc
left_of (Some xs) None input read told is = absurd is
left_of (Some xs) (Some ys) input read told is = let same : xs ≡ input = cc in record { left = ys; told = refl; is = sym same ∙ is }

none_left : (after : Option (List ℕ)) (left : List ℕ) → after ≡ Some left → IsAtEnd after → left ≡ []
none_left None left told last = absurd cc
none_left (Some xs) left told last = let same : xs ≡ left = cc in sym same ∙ last

-- ---- ends that don't come

refused_never : (rest left : List ℕ) (more : List PipeFrame) → front rest ≡ Refused → Begins (rest ++ left) more [] → ⊥
refused_never rest left [] refused none = part_not_refused (sym front_nothing ∙ ap front (sym none) ∙ refused_stays rest left refused)
  where
    part_not_refused : Partial ≡ Refused → ⊥
    part_not_refused e = absurd cc
refused_never rest left (g ∷ gs) refused b = not_refused g b.0 (sym (refused_stays rest left refused) ∙ b.1)

cut_never : (rest : List ℕ) (more : List PipeFrame) → front rest ≡ Partial → 0 < length rest → Begins rest more [] → ⊥
cut_never rest [] part some none = omega (arith, some, ap length none)
cut_never rest (g ∷ gs) part some b = not_partial g b.0 (sym part ∙ b.1)

unbuilt_never : (rest left : List ℕ) (more : List PipeFrame) (f : PipeFrame) (after : List ℕ) → front rest ≡ Whole f after → is_built f.kind ≡ false
    → Begins (rest ++ left) more [] → AllByRecursion (λ f. IsTrue (is_built f.kind)) more → ⊥
unbuilt_never rest left [] f after whole none b all = not_whole f (after ++ left) (ap front (sym b) ∙ front_more rest left f after whole)
unbuilt_never rest left (g ∷ gs) f after whole none b all =
    let same = frames_are f g (after ++ left) b.0 (sym (front_more rest left f after whole) ∙ b.1) in
    differ (is_built g.kind) all.0 (ap (λ (h : PipeFrame). is_built h.kind) (sym same.0) ∙ none)

nothing_more : (more : List PipeFrame) → Begins [] more [] → more ≡ []
nothing_more [] b = refl
nothing_more (g ∷ gs) b = absurd (not_whole g b.0 b.1)

-- ---- marks

-- where no disk's count rose there are no marks
pub no_marks : (n a b c d : ℕ) → IsWithinRise n a b c d → ¬ (Rose a b ⊎ Rose c d) → n ≡ 0
no_marks n a b c d within none =
    elim (nat_le (min (a + 1) (2 ^ 64 - 1)) b) as (λ x. nat_le (min (a + 1) (2 ^ 64 - 1)) b ≡ x → n ≡ 0) [
      | true ↦ λ is. absurd (none (inl (leb-true _ _ is)))
      | false ↦ λ low. elim (nat_le (min (c + 1) (2 ^ 64 - 1)) d) as (λ y. nat_le (min (c + 1) (2 ^ 64 - 1)) d ≡ y → n ≡ 0) [
        | true ↦ λ is. absurd (none (inr (leb-true _ _ is)))
        | false ↦ λ lower.
            let first : b < min (a + 1) (2 ^ 64 - 1) = leb-false _ _ low in
            let second : d < min (c + 1) (2 ^ 64 - 1) = leb-false _ _ lower in
            omega (arith, first, second, within (omega (arith, first)) (omega (arith, second)))
      ] refl
    ] refl

-- without true marks the replies are those without marks
unmarked_replies : (from : Situation) (fs : List PipeFrame) (ms : List Bool) → count_by (λ mark. mark) ms ≡ 0 → replies_from readings from fs ms ≡ replies_from readings from fs []
unmarked_replies from [] ms none = refl
unmarked_replies from (f ∷ fs) [] none = refl
unmarked_replies from (f ∷ fs) (true ∷ ms) none = absurd (omega (arith, none, sum_by-cons (λ mark. cond mark 1 0) true ms))
unmarked_replies from (f ∷ fs) (false ∷ ms) none =
    let first = frame_step readings from f false in
    ap (λ (l : List ℕ). first.0 ++ l) (unmarked_replies first.1 fs ms (omega (arith, none, sum_by-cons (λ mark. cond mark 1 0) false ms)))

-- and so is the situation after them
unmarked_after : (from : Situation) (fs : List PipeFrame) (ms : List Bool) → count_by (λ mark. mark) ms ≡ 0 → after_frames readings from fs ms ≡ after_frames readings from fs []
unmarked_after from [] ms none = refl
unmarked_after from (f ∷ fs) [] none = refl
unmarked_after from (f ∷ fs) (true ∷ ms) none = absurd (omega (arith, none, sum_by-cons (λ mark. cond mark 1 0) true ms))
unmarked_after from (f ∷ fs) (false ∷ ms) none =
    unmarked_after (frame_step readings from f false).1 fs ms (omega (arith, none, sum_by-cons (λ mark. cond mark 1 0) false ms))

-- so what is written is what is written without marks
unmarked_output : (summary : Bool) (from : Situation) (c : Course) → c.out ≡ replies_from readings from c.frames c.marks → count_by (λ mark. mark) c.marks ≡ 0
    → output summary from c ≡ output_from readings summary from c.frames []
unmarked_output true from c replied none = ap (λ (s : Situation). summary_lines (length c.frames) s) (unmarked_after from c.frames c.marks none)
unmarked_output false from c replied none = replied ∙ unmarked_replies from c.frames c.marks none

-- ---- a run over whole frames

module _ (summary : Bool) (e : PipeEnd) (from : Situation) (before after : Streams) (c : Course) (ran : Ran summary e from before after c)
    (frames : List PipeFrame) (is : IsWholeInput before.left frames) where
  l : Left is.input ran.read after.left
  l = left_of before.left after.left is.input ran.read is.told ran.taken

  b : Behind (c.rest ++ l.left) c.frames frames
  b = behind is.input c.frames frames (c.rest ++ l.left)
      (subst (λ (bytes : List ℕ). Begins bytes c.frames (c.rest ++ l.left)) (sym l.is) (begins_more ran.read l.left c.frames c.rest ran.answered.whole))
      (frames_begin is.input frames is.whole)

  built : AllByRecursion (λ f. IsTrue (is_built f.kind)) b.more
  built = built_behind c.frames b.more
      (subst (λ (fs : List PipeFrame). AllByRecursion (λ f. IsTrue (is_built f.kind)) fs) b.is (recursion_from_All (λ f. IsTrue (is_built f.kind)) frames is.built))

  early : c.at < MAX_PLACE
  early = omega (arith, ran.answered.place, is.early, ap length l.is, length-append ran.read l.left)

  -- where nothing is left
  at_end : IsAtEnd after.left → Begins c.rest b.more []
  at_end last = subst (λ (bytes : List ℕ). Begins bytes b.more []) (ap (λ (bytes : List ℕ). c.rest ++ bytes) (none_left after.left l.left l.told last) ∙ append-nil c.rest) b.begins

  no_frame_never : NoFrame after c.at c.rest → ⊥
  no_frame_never (inl refused) = refused_never c.rest l.left b.more refused b.begins
  no_frame_never (inr (inl cut)) = cut_never c.rest b.more cut.part cut.some (at_end cut.last)
  no_frame_never (inr (inr late)) = omega (arith, early, late)

  all_answered : c.rest ≡ [] → IsAtEnd after.left → count_by (λ mark. mark) c.marks ≡ 0 → output summary from c ≡ output_from readings summary from frames []
  all_answered none last unmarked =
      let more = nothing_more b.more (subst (λ (bytes : List ℕ). Begins bytes b.more []) none (at_end last)) in
      let all : frames ≡ c.frames = b.is ∙ ap (λ (fs : List PipeFrame). c.frames ++ fs) more ∙ append-nil c.frames in
      unmarked_output summary from c ran.answered.replied unmarked ∙ ap (λ (fs : List PipeFrame). output_from readings summary from fs []) (sym all)

pub completes : (summary : Bool) (e : PipeEnd) (from : Situation) (before after : Streams) (c : Course) (R W D : Type 0) → Ran summary e from before after c → HasEndCause e after.ended R W
    → (¬ D → count_by (λ mark. mark) c.marks ≡ 0) → Completes summary e from before after R W D
completes k end.Ok from before after c R W D ran cause unmarked frames is no_read no_write no_disk =
    subst (λ (out : List ℕ). Appends before.held after.held out) (all_answered k end.Ok from before after c ran frames is ran.ends.none ran.ends.last (unmarked no_disk)) ran.written
completes k end.NoMemory from before after c R W D ran cause unmarked frames is no_read no_write no_disk = tt
completes k end.ReadFault from before after c R W D ran cause unmarked frames is no_read no_write no_disk = no_read cause
completes k end.WriteFault from before after c R W D ran cause unmarked frames is no_read no_write no_disk = no_write cause
completes k (end.BadFrame place) from before after c R W D ran cause unmarked frames is no_read no_write no_disk = no_frame_never k (end.BadFrame place) from before after c ran frames is ran.ends.1
completes k (end.NotBuilt place) from before after c R W D ran cause unmarked frames is no_read no_write no_disk =
    let u = ran.ends.1 in
    let e = end.NotBuilt place in
    unbuilt_never c.rest (l k e from before after c ran frames is).left (b k e from before after c ran frames is).more u.frame u.more u.whole u.unbuilt
    (b k e from before after c ran frames is).begins (built k e from before after c ran frames is)

pub complete : Complete
complete k e from before after c read_old read_new write_old write_new a_old a_new b_old b_new ran cause within =
    completes k e from before after c _ _ _ ran cause (no_marks (count_by (λ mark. mark) c.marks) a_old a_new b_old b_new within)

-- a count that rose since later rose since earlier
pub rose_from : (a b n : ℕ) → a ≤ b → Rose b n → Rose a n
rose_from a b n le rose = omega (arith, le, rose)
