-- When a run answers all of its input.
--     IsWholeInput left frames      what the source has left is these frames, all of them built
--     Completes summary e from before after read_rose write_rose disk_rose      such an input is answered to its end
use Rattle.std.specs.Prelude.{◌≡◌, ℕ, ◌<◌, ⊤, Bool, IsTrue, All, List, [], length, Some}
use Rattle.std.specs.declared.option.Option.{Option}
use Rattle.std.specs.Io.KnownBytes.{Appends}
use Rattle.dkv_base.specs.Steps.{Situation}
use Rattle.dkv_pipe.specs.declared.pipe.PipeEnd.{PipeEnd}
use Rattle.dkv_pipe.specs.declared.pipe.PipeEnd.TheVariants as end
use Rattle.dkv_pipe.specs.declared.sizes.TheConstants.{MAX_PLACE}
use Rattle.dkv_pipe.specs.Frames.{PipeFrame, AreFrames}
use Rattle.dkv_pipe.specs.Built.{is_built}
use Rattle.dkv_pipe.specs.Wishes.{readings}
use Rattle.dkv_pipe.specs.Pipe.{output_from}
use Rattle.dkv_pipe.specs.Ends.{Streams}

-- the source tells that its bytes are these frames, all are built, and they end before the last place
pub record IsWholeInput (left : Option (List ℕ)) (frames : List PipeFrame) : Type 0 where
  pub input : List ℕ
  pub told : left ≡ Some input
  pub whole : AreFrames input frames
  pub built : All (λ f. IsTrue (is_built f.kind)) frames
  pub early : length input < MAX_PLACE

-- this holds at the end of the input, memory may be wanted, and no other end comes
abbrev pub OnlyOk : PipeEnd → Type 0 → Type 0
OnlyOk end.Ok P = P
OnlyOk end.NoMemory P = ⊤
OnlyOk _ P = ⊥

-- Such an input is answered to its end where no count of faults rose: just the replies to its frames are written, without marks, or
-- the three lines of a summary instead.
abbrev pub Completes : Bool → PipeEnd → Situation → Streams → Streams → Type 0 → Type 0 → Type 0 → Type 0
Completes summary e from before after read_rose write_rose disk_rose =
    (frames : List PipeFrame) → IsWholeInput before.left frames → ¬ read_rose → ¬ write_rose → ¬ disk_rose
    → OnlyOk e (Appends before.held after.held (output_from readings summary from frames []))
