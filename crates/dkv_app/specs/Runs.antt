-- What the program does with words.
--     Runs .. texts s ..      these words were run, and it ended so
--     Does .. command s ..      the same of a command
use Rattle.std.specs.Prelude.{ℕ, ◌≡◌, ◌⊎◌, Bool, List, Option, Some, None}
use Rattle.dkv_io.specs.Causes.{Rose}
use Rattle.dkv_files.specs.declared.pair.Pair.{Pair}
use Rattle.dkv_files.specs.Crashes.{WritesNothing, WhereBothTold}
use Rattle.dkv_pipe.specs.Ends.{streams}
use Rattle.dkv_app.specs.declared.command.Command.{Command}
use Rattle.dkv_app.specs.declared.command.Command.TheVariants as command
use Rattle.dkv_app.specs.declared.status.Status.{Status}
use Rattle.dkv_app.specs.declared.status.Status.TheVariants as status
use Rattle.dkv_app.specs.Commands.{IsCommand, InNoForm}
use Rattle.dkv_app.specs.Statuses.{Prints}
use Rattle.dkv_app.specs.Creating.{Creates, CreateCause}
use Rattle.dkv_app.specs.Checking.{Checks, CheckCause, Unopens, OpenCause}
use Rattle.dkv_app.specs.Generating.{Generates, AreTheFrames}
use Rattle.dkv_app.specs.Piping.{Pipes, PipesNew, DisksRose}

-- this is so of the files before and after
abbrev pub WithFiles : {D : Type 0} → Option (Pair D) → Option (Pair D) → (Pair D → Pair D → Type 0) → Type 0
WithFiles (Some p) (Some q) P = P p q
WithFiles (Some p) None P = ⊥
WithFiles None q P = ⊥

-- two files are not opened: nothing is read, answered or written
pub record Refuses {D : Type 0} (seen : D → Option (List ℕ)) (images : D → List ℕ → Type 0)
    (faults moment : D → ℕ) (since : D → ℕ → List ℕ → Type 0)
    (s : Status) (same : Type 0) (p q : Pair D) : Type 0 where
  pub unopened : WhereBothTold (seen p.a) (seen p.b) (Unopens s)
  pub cause : OpenCause s (DisksRose faults p.a p.b q.a q.b)
  pub moves : WritesNothing images moment since p.a p.b q.a q.b
  pub unread : same

-- nothing was read, written or drawn, and the files are those that came
pub record Idles {S K R D : Type 0} (source source_end : S) (sink sink_end : K) (random random_end : R)
    (files files_end : Option (Pair D)) : Type 0 where
  pub unread : source_end ≡ source
  pub unwritten : sink_end ≡ sink
  pub undrawn : random_end ≡ random
  pub unused : files_end ≡ files

-- the objects of the outside, by what they tell of themselves
module _ {S K R D : Type 0}
    (left : S → Option (List ℕ)) (ended : S → Bool) (read_faults : S → ℕ)
    (held : K → Option (List ℕ)) (write_faults : K → ℕ)
    (stream : R → Option (List ℕ)) (random_faults : R → ℕ)
    (seen : D → Option (List ℕ)) (images : D → List ℕ → Type 0) (faults moment : D → ℕ) (since : D → ℕ → List ℕ → Type 0) where
  -- `create`: nothing is read
  pub record DoesCreate (s : Status) (source source_end : S) (sink sink_end : K) (random random_end : R)
      (p q : Pair D) : Type 0 where
    pub creates : Creates seen images moment since s (stream random) (stream random_end)
        (Prints s held sink sink_end) p.a p.b q.a q.b
    pub cause : CreateCause s (Rose (random_faults random) (random_faults random_end))
        (Rose (write_faults sink) (write_faults sink_end)) (DisksRose faults p.a p.b q.a q.b)
    pub unread : source_end ≡ source

  -- `check`: nothing is read or drawn
  pub record DoesCheck (s : Status) (source source_end : S) (sink sink_end : K) (random random_end : R)
      (p q : Pair D) : Type 0 where
    pub checks : Checks seen images moment since s (Prints s held sink sink_end) p.a p.b q.a q.b
    pub cause : CheckCause s (Rose (write_faults sink) (write_faults sink_end)) (DisksRose faults p.a p.b q.a q.b)
    pub unread : source_end ≡ source
    pub undrawn : random_end ≡ random

  -- `pipe` with a folder: its files are not opened, or it ran over them; nothing is drawn
  pub record DoesPipe (trail : ℕ) (summary : Bool) (s : Status) (source source_end : S) (sink sink_end : K) (random random_end : R)
      (p q : Pair D) : Type 0 where
    pub pipes : Refuses seen images faults moment since s ((source_end ≡ source) × (sink_end ≡ sink)) p q
        ⊎ Pipes seen images faults moment since s trail summary
        (streams (left source) (ended source) (held sink))
        (streams (left source_end) (ended source_end) (held sink_end))
        (Rose (read_faults source) (read_faults source_end)) (Rose (write_faults sink) (write_faults sink_end))
        p.a p.b q.a q.b
    pub undrawn : random_end ≡ random

  -- `pipe` without a folder: it ran over a new database; no file is used, and nothing is drawn
  pub record DoesPipeNew (trail : ℕ) (summary : Bool) (s : Status) (source source_end : S) (sink sink_end : K) (random random_end : R)
      (files files_end : Option (Pair D)) : Type 0 where
    pub pipes : PipesNew s trail summary
        (streams (left source) (ended source) (held sink))
        (streams (left source_end) (ended source_end) (held sink_end))
        (Rose (read_faults source) (read_faults source_end)) (Rose (write_faults sink) (write_faults sink_end))
    pub unused : files_end ≡ files
    pub undrawn : random_end ≡ random

  -- `generate`: nothing is read or drawn, no file is used, and what it writes at Ok is whole frames of `pipe`
  pub record DoesGenerate (number : ℕ) (s : Status) (source source_end : S) (sink sink_end : K) (random random_end : R)
      (files files_end : Option (Pair D)) : Type 0 where
    pub generates : Generates s number (held sink) (held sink_end) (Rose (write_faults sink) (write_faults sink_end))
    pub frames : AreTheFrames number
    pub unread : source_end ≡ source
    pub undrawn : random_end ≡ random
    pub unused : files_end ≡ files

  -- what a command does
  abbrev pub Does : Command → Status → S → S → K → K → R → R → Option (Pair D) → Option (Pair D) → Type 0
  Does (command.Create folder) s source source_end sink sink_end random random_end files files_end =
      WithFiles files files_end (DoesCreate s source source_end sink sink_end random random_end)
  Does (command.Check folder) s source source_end sink sink_end random random_end files files_end =
      WithFiles files files_end (DoesCheck s source source_end sink sink_end random random_end)
  Does (command.Pipe (Some folder) trail summary) s source source_end sink sink_end random random_end files files_end =
      WithFiles files files_end (DoesPipe trail summary s source source_end sink sink_end random random_end)
  Does (command.Pipe None trail summary) s source source_end sink sink_end random random_end files files_end =
      DoesPipeNew trail summary s source source_end sink sink_end random random_end files files_end
  Does (command.Generate number) s source source_end sink sink_end random random_end files files_end =
      DoesGenerate number s source source_end sink sink_end random random_end files files_end

  -- words that name a command do what it does, and all others nothing
  pub record Runs (texts : List (List ℕ)) (s : Status) (source source_end : S) (sink sink_end : K) (random random_end : R)
      (files files_end : Option (Pair D)) : Type 0 where
    pub does : (c : Command) → IsCommand c texts
        → Does c s source source_end sink sink_end random random_end files files_end
    pub bad : s ≡ status.BadWords → InNoForm texts
    pub refused : InNoForm texts → ((s ≡ status.BadWords) ⊎ (s ≡ status.NoMemory))
        × Idles source source_end sink sink_end random random_end files files_end
