use Rattle.std.proofs.Common.{◌∙◌, subst, ℕ, List}
use Rattle.dkv_io.specs.Disks.{FromStart, AtRest}
use Rattle.dkv_io.proofs.Seen.{was_told, always_err}
use Rattle.dkv_journal.specs.Crashes.{WithGate, Appended}
use Rattle.dkv_io.proofs.Moments.{weaker}
use Rattle.dkv_journal.proofs.Torn.{closed_within, longer, torn_record, finished, doubted}
use Rattle.dkv_journal.proofs.journal.Journal.append.Goals as goal

pub set_gate-requires : goal.set_gate-requires
set_gate-requires g c file told f left =
    let old = c.args.disk.now in
    let p = c.args.self.now.place in
    let was = was_told _ _ _ file told c.write_behind.ensures.told in
    let within = closed_within p was.file (c.requires.closed was.file was.seen was.file (g.met.D.Disk.reads_as old was.file was.seen)) in
    let rests = c.in_ok-write_behind.ensures.done was.file was.seen in
    let is = rests.only f left in
    longer p _ was.file f within is

pub returns-in_err-set_gate-clause-leaves : goal.returns-in_err-set_gate-clause-leaves
returns-in_err-set_gate-clause-leaves g c l body laid_is file told =
    let old = c.args.disk.now in
    let mid = c.write_behind.new.disk in
    let p = c.args.self.now.place in
    let is_body = c.deref.ensures.value ∙ c.laid.view_is ∙ laid_is in
    let reads = g.met.D.Disk.reads_as old file told in
    let within = closed_within p file (c.requires.closed file told file reads) in
    let rests = c.in_ok-write_behind.ensures.done file told in
    record {
      written = mid;
      laying = c.in_ok-write_behind.ensures.leaves file told;
      opening = weaker g.D.Disk.moment g.D.Disk.left_since mid c.set_gate.new.disk (FromStart (g.D.Disk.may_leave mid) (WithGate p)) (FromStart (g.D.Disk.may_leave old) (Appended l p body))
          (λ f from. (file, reads, torn_record p _ file from.0 within (rests.only from.0 from.1) l body f is_body from.2))
          (c.set_gate.ensures.leaves _ rests.told);
    }

pub returns-clause-leaves : goal.returns-clause-leaves
returns-clause-leaves g c l body laid_is file told =
    let old = c.args.disk.now in
    let mid = c.write_behind.new.disk in
    let p = c.args.self.now.place in
    let is_body = c.deref.ensures.value ∙ c.laid.view_is ∙ laid_is in
    let reads = g.met.D.Disk.reads_as old file told in
    let within = closed_within p file (c.requires.closed file told file reads) in
    let rests = c.in_ok-write_behind.ensures.done file told in
    record {
      written = mid;
      laying = c.in_ok-write_behind.ensures.leaves file told;
      opening = weaker g.D.Disk.moment g.D.Disk.left_since mid c.set_gate.new.disk (FromStart (g.D.Disk.may_leave mid) (WithGate p)) (FromStart (g.D.Disk.may_leave old) (Appended l p body))
          (λ f from. (file, reads, torn_record p _ file from.0 within (rests.only from.0 from.1) l body f is_body from.2))
          (c.set_gate.ensures.leaves _ rests.told);
    }

pub returns-clause-done : goal.returns-clause-done
returns-clause-done g c l body laid_is file told =
    let old = c.args.disk.now in
    let p = c.args.self.now.place in
    let is_body = c.deref.ensures.value ∙ c.laid.view_is ∙ laid_is in
    let within = closed_within p file (c.requires.closed file told file (g.met.D.Disk.reads_as old file told)) in
    let rests = c.in_ok-write_behind.ensures.done file told in
    subst (λ (f : List ℕ). AtRest (g.D.Disk.seen c.set_gate.new.disk) (g.D.Disk.may_leave c.set_gate.new.disk) f) (finished l p body _ file within is_body) (c.in_ok-set_gate.ensures.done _ rests.told)

pub returns-in_err-set_gate-clause-doubted : goal.returns-in_err-set_gate-clause-doubted
returns-in_err-set_gate-clause-doubted g c l body laid_is file told = always_err c.from_residual-in_err-set_gate.result _ (λ in_doubt f left.
    let old = c.args.disk.now in
    let mid = c.write_behind.new.disk in
    let p = c.args.self.now.place in
    let is_body = c.deref.ensures.value ∙ c.laid.view_is ∙ laid_is in
    let within = closed_within p file (c.requires.closed file told file (g.met.D.Disk.reads_as old file told)) in
    let rests = c.in_ok-write_behind.ensures.done file told in
    let leaves = c.set_gate.ensures.leaves _ rests.told in
    let from = leaves.each f (g.met.D.Disk.counts_now c.set_gate.new.disk (g.D.Disk.moment mid) f leaves.later left) in
    doubted p _ file from.0 within (rests.only from.0 from.1) l body f is_body from.2)
