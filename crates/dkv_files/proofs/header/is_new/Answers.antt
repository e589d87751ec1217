use Rattle.std.proofs.Common.{◌∙◌, ap, subst, ℕ, List, take, drop, ◌≡◌, ◌≤◌, length, arith}
use Rattle.dkv_io.specs.Disks.{ReadAt}
use Rattle.dkv_files.proofs.Heads.{told_new}
use Rattle.dkv_files.proofs.header.is_new.Goals as goal

pub returns-in-Ok-eq33-clause-new : goal.returns-in-Ok-eq33-clause-new
returns-in-Ok-eq33-clause-new g c file told =
    let part = c.read.new.into in
    let read = subst (λ s. ReadAt s 80 part c.in-Ok-eq33.field-0) told c.in-Ok-eq33.ensures.bytes in
    let same = subst (λ (m : ℕ). take m part ≡ take m (drop 80 file)) c.in-Ok-eq33.field-0-test read.1 in (
      omega (arith, read.0, c.in-Ok-eq33.field-0-test),
      c.are_zeros.ensures ∙ told_new part file same,
    )
