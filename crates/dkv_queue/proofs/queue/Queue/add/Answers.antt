use Rattle.std.proofs.Common.{◌≡◌, ◌-◌, ap, ◌∙◌, arith}
use Rattle.dkv_queue.specs.Rows.{Rows, row_at}
use Rattle.dkv_queue.proofs.Keeps.{kept-in}
use Rattle.dkv_queue.proofs.queue.Queue.add.Goals as goal

pub invariant_of-self : goal.invariant_of-self
invariant_of-self c =
    let room : c.self.inside.room ≡ c.args.self.now.spare = ap (λ (q : Rows). q.spare) c.self.view_is in
    kept-in c.self.inside.rows c.put-2.new.self c.self.inside.due c.put.new.self c.self.inside.outs c.self.inside.room (c.self.inside.room - 1) c.args.message c.self.invariant
    c.requires.schedule (ap (λ (q : Rows). row_at c.args.message.id q.rows) c.self.view_is ∙ c.requires.absent)
    c.put.ensures.items c.put.ensures.kept c.put-2.ensures.items c.put-2.ensures.kept (omega (arith, room, c.requires.room))
