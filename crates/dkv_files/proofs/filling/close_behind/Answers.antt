use Rattle.std.proofs.Common.{◌≡◌, ◌∙◌, ap, ℕ, List, [], ◌∷◌, Option, Some}
use Rattle.dkv_io.specs.Disks.{FromStart}
use Rattle.dkv_io.proofs.Moments.{goes_on}
use Rattle.dkv_io.proofs.Seen.{still_told, only_seen, on_ok}
use Rattle.dkv_image_io.specs.Writing.{KeepsFront}
use Rattle.dkv_image_io.proofs.Writing.{writes_one, torn_front}
use Rattle.dkv_journal.specs.declared.gates.TheConstants.{CLOSED_GATE}
use Rattle.dkv_files.proofs.filling.close_behind.Goals as goal

pub returns-in_err-write_at-clause-leaves : goal.returns-in_err-write_at-clause-leaves
returns-in_err-write_at-clause-leaves g c pos =
    (writes_one g.D.Disk.seen g.D.Disk.may_leave g.D.Disk.moment g.D.Disk.left_since g.D.Disk.faults g.met.D.Disk.counts_now g.met.D.Disk.only_now
    c.args.place (CLOSED_GATE ∷ []) c.args.disk.now c.write_at.new.self c.write_at.result c.write_at.ensures.written c.write_at.ensures.crash c.write_at.ensures.time c.write_at.ensures.cause).leaves pos

pub returns-clause-leaves : goal.returns-clause-leaves
returns-clause-leaves g c pos =
    let old = c.args.disk.now in
    let one = writes_one g.D.Disk.seen g.D.Disk.may_leave g.D.Disk.moment g.D.Disk.left_since g.D.Disk.faults g.met.D.Disk.counts_now g.met.D.Disk.only_now
    c.args.place (CLOSED_GATE ∷ []) old c.write_at.new.self c.write_at.result c.write_at.ensures.written c.write_at.ensures.crash c.write_at.ensures.time c.write_at.ensures.cause in
    goes_on g.D.Disk.moment g.D.Disk.left_since old c.write_at.new.self c.sync.new.self (FromStart (g.D.Disk.may_leave old) KeepsFront) _ (one.leaves pos) c.sync.ensures.time (λ f now.
    let from = c.write_at.ensures.crash f (c.sync.ensures.crash f now) in (from.0, from.1, torn_front c.args.place 1 from.0 f pos from.2))

abbrev some : List ℕ → Option (List ℕ)
some l = Some l

pub returns-clause-done : goal.returns-clause-done
returns-clause-done g c file told =
    let w = still_told _ _ _ file told c.in_ok-write_at.ensures.written in
    on_ok c.sync.result _ _ c.sync.ensures.durable (λ only. record {
      told = c.sync.ensures.seen ∙ w.seen ∙ ap some w.is;
      only = λ f now. only_seen _ w.file _ w.seen only f now ∙ w.is;
    })
