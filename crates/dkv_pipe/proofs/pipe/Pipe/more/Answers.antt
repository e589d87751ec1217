use Rattle.std.proofs.Common.{◌≡◌, ℕ, List, ◌++◌, take, rules, refl, sym, subst}
use Rattle.dkv_pipe.specs.Ends.{Streams}
use Rattle.dkv_pipe.specs.Running.{Running}
use Rattle.dkv_pipe.proofs.Runs.{more_on, piece_ends}
use Rattle.dkv_pipe.proofs.pipe.Pipe.more.Goals as goal

pub returns-in-Ok-clause-run : goal.returns-in-Ok-clause-run
returns-in-Ok-clause-run g c = λ from before is.
    let s = c.args.self.now in
    let old : Streams = record { left = g.S.Source.left c.args.source.now; ended = g.S.Source.ended c.args.source.now; held = g.K.Sink.held c.args.sink.now } in
    let new : Streams = record { left = g.S.Source.left c.read.new.self; ended = g.S.Source.ended c.read.new.self; held = g.K.Sink.held c.args.sink.now } in
    let piece = take c.in-Bytes.n c.read.new.into in
    let grown : c.extend.new.self ≡ s.input ++ piece = search rules in
    subst (λ (l : List ℕ). Running g.D.Disk.seen g.D.Disk.may_leave g.D.Disk.faults g.D.Disk.moment g.D.Disk.left_since c.args.summary from before new s.store l s.at s.frames) (sym grown)
    (more_on g.D.Disk.seen g.D.Disk.may_leave g.D.Disk.faults g.D.Disk.moment g.D.Disk.left_since c.args.summary from before old s.store s.input s.at s.frames is new piece c.in-Bytes.ensures.from refl)

pub returns-in-Err-clause-run : goal.returns-in-Err-clause-run
returns-in-Err-clause-run g c = λ from before is.
    let s = c.args.self.now in
    let old : Streams = record { left = g.S.Source.left c.args.source.now; ended = g.S.Source.ended c.args.source.now; held = g.K.Sink.held c.args.sink.now } in
    let new : Streams = record { left = g.S.Source.left c.read.new.self; ended = g.S.Source.ended c.read.new.self; held = g.K.Sink.held c.args.sink.now } in
    let piece = take c.in-Bytes.n c.read.new.into in
    piece_ends g.D.Disk.seen g.D.Disk.may_leave g.D.Disk.faults g.D.Disk.moment g.D.Disk.left_since c.args.summary from before new s.store (s.input ++ piece) s.at s.frames
    (more_on g.D.Disk.seen g.D.Disk.may_leave g.D.Disk.faults g.D.Disk.moment g.D.Disk.left_since c.args.summary from before old s.store s.input s.at s.frames is new piece c.in-Bytes.ensures.from refl) c.requires.early
