use Rattle.std.proofs.Common.{subst, ℕ, List, take, drop, ◌≡◌, ◌≤◌, length, arith}
use Rattle.dkv_io.specs.Disks.{ReadAt}
use Rattle.dkv_files.proofs.Heads.{told_head}
use Rattle.dkv_files.proofs.header.read_head.Goals as goal

pub returns-in-Ok-eq96-clause-head : goal.returns-in-Ok-eq96-clause-head
returns-in-Ok-eq96-clause-head g c file told =
    let front = c.read.new.into in
    let read = subst (λ s. ReadAt s 0 front c.in-Ok-eq96.field-0) told c.in-Ok-eq96.ensures.bytes in
    let same = subst (λ (m : ℕ). take m front ≡ take m file) c.in-Ok-eq96.field-0-test read.1 in
    told_head front file same (omega (arith, read.0, c.in-Ok-eq96.field-0-test)) (omega (arith, read.0, c.in-Ok-eq96.field-0-test)) c.state_of.result c.state_of.ensures
