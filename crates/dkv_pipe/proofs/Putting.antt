-- What a run has written: its replies, or at its end the lines of a summary.
use Rattle.std.proofs.Common.{◌≡◌, ◌∙◌, ℕ, Bool, true, false, List, [], ◌++◌, Option, length, refl, sym, subst}
use Rattle.std.specs.Prelude.{IsTrue, not, if◌then◌else◌}
use Rattle.std.specs.Io.KnownBytes.{Appends}
use Rattle.dkv_io.specs.Streams.{AppendsFront}
use Rattle.dkv_io.proofs.Written.{appends_nothing, appends_then}
use Rattle.dkv_base.specs.State.{seen}
use Rattle.dkv_base.specs.Steps.{Situation}
use Rattle.dkv_store.specs.Stores.{Contents}
use Rattle.dkv_store.specs.Situations.{StandsFor}
use Rattle.dkv_pipe.specs.Wishes.{readings}
use Rattle.dkv_pipe.specs.Pipe.{after_frames, counted_lines, summary_lines}
use Rattle.dkv_pipe.specs.Courses.{Course}
use Rattle.dkv_pipe.specs.Ends.{Streams, Puts, PutsFront, IsAll, IsAtWrite, IsLastUnwritten, IsUnwritten}
use Rattle.dkv_pipe.specs.Running.{store_lines}

-- no bytes
pub puts_nothing : (does : Bool) (held : Option (List ℕ)) → Puts does held held []
puts_nothing true held = appends_nothing held
puts_nothing false held = refl

-- some bytes, and then more
pub puts_then : (does : Bool) (a b c : Option (List ℕ)) (xs ys : List ℕ) → Puts does a b xs → Puts does b c ys → Puts does a c (xs ++ ys)
puts_then true a b c xs ys first second = appends_then a b c xs ys first second
puts_then false a b c xs ys first second = second ∙ first

-- the lines of what a store stands for
pub lines_stand : {D : Type 0} (s : Situation) (c : Contents D) (n m : ℕ) → StandsFor s c → n ≡ m → store_lines n c ≡ summary_lines m s
lines_stand s c n m stands same =
    let state : c.core.state ≡ s.state = sym stands.state in
    let greatest : c.core.greatest ≡ s.greatest = sym stands.greatest in
    λ i. counted_lines (same i) (state i).number (length (seen (state i) (greatest i))) (length (state i).messages)

-- at the end of the input all is written
pub all_put : (summary : Bool) (a b c : Option (List ℕ)) (out lines : List ℕ) → Puts (not summary) a b out → Puts summary b c lines
    → Appends a c (if summary then lines else out)
all_put true a b c out lines none all = subst (λ (held : Option (List ℕ)). Appends held c lines) none all
all_put false a b c out lines all none = subst (λ (held : Option (List ℕ)). Appends a held out) (sym none) all

-- or the write of the lines fails
pub lines_unwritten : (summary : Bool) (from : Situation) (read : List ℕ) (a b c : Option (List ℕ)) (course : Course)
    → Puts (not summary) a b course.out → PutsFront summary b c (summary_lines (length course.frames) (after_frames readings from course.frames course.marks))
    → IsUnwritten summary from read a c course
lines_unwritten true from read a b c course none part =
    subst (λ (held : Option (List ℕ)). AppendsFront held c (summary_lines (length course.frames) (after_frames readings from course.frames course.marks))) none part
lines_unwritten false from read a b c course all part = absurd part

-- or that of a reply
pub reply_unwritten : (summary : Bool) (from : Situation) (read : List ℕ) (a b c : Option (List ℕ)) (course : Course) (out reply : List ℕ)
    → Puts (not summary) a b out → PutsFront (not summary) b c reply → (Appends a b out → AppendsFront b c reply → IsLastUnwritten from read a c course)
    → IsUnwritten summary from read a c course
reply_unwritten true from read a b c course out reply none part last = absurd part
reply_unwritten false from read a b c course out reply all part last = last all part

-- which is no end of the input
pub at_reply : (summary : Bool) (b c : Option (List ℕ)) (reply : List ℕ) (after : Streams) (at : ℕ) (rest : List ℕ)
    → PutsFront (not summary) b c reply → IsAtWrite summary after at rest
at_reply true b c reply after at rest part = absurd part
at_reply false b c reply after at rest part = tt

-- as that of the lines is
pub at_end : (summary : Bool) (after : Streams) (at : ℕ) (rest : List ℕ) → IsAll after at rest → IsTrue after.ended → IsAtWrite summary after at rest
at_end true after at rest all said = (all, said)
at_end false after at rest all said = tt
