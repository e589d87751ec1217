use Rattle.std.proofs.Common.{◌≡◌, sym, ◌∙◌, subst, ℕ, ◌-◌, ◌^◌, List, length}
use Rattle.std.specs.Prelude.{min, OnOk, IfOk}
use Rattle.dkv_io.specs.Disks.{Told, Holds}
use Rattle.dkv_image_io.proofs.Empty.{empty_image, not_empty}
use Rattle.dkv_image_io.proofs.write.write_image.Goals as goal

pub returns-then-is_empty-clause-written : goal.returns-then-is_empty-clause-written
returns-then-is_empty-clause-written g c =
    let same = empty_image (g.T.Table.content c.args.table.now) c.args.queue.now.rows (sym c.is_empty.ensures ∙ c.if-is_empty.true) in
    subst (λ (l : List ℕ). OnOk c.write_nothing.result (Told (Holds c.args.at l) (g.D.Disk.seen c.args.disk.now) (g.D.Disk.seen c.write_nothing.new.disk))) same c.write_nothing.ensures.written

pub returns-then-is_empty-clause-length : goal.returns-then-is_empty-clause-length
returns-then-is_empty-clause-length g c =
    let same = empty_image (g.T.Table.content c.args.table.now) c.args.queue.now.rows (sym c.is_empty.ensures ∙ c.if-is_empty.true) in
    subst (λ (l : List ℕ). IfOk c.write_nothing.result (λ len. len ≡ min (2 ^ 64 - 1) (length l))) same c.write_nothing.ensures.length

pub returns-else-is_empty-clause-empty : goal.returns-else-is_empty-clause-empty
returns-else-is_empty-clause-empty g c no_entry no_message refused =
    not_empty (g.T.Table.content c.args.table.now) c.args.queue.now.rows (sym c.is_empty.ensures ∙ c.if-is_empty.false) no_entry no_message
