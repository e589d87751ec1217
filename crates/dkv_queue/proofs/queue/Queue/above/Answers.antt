use Rattle.std.proofs.Common.{◌≡◌, Bor, List, Option, Some, None, option_map, sym, ap, ◌∙◌}
use Rattle.std.specs.Option.{option_copied}
use Rattle.dkv_base.specs.declared.types.MsgId.{MsgId}
use Rattle.dkv_queue.specs.declared.row.Row.{Row}
use Rattle.dkv_queue.specs.Rows.{Rows, next_row}
use Rattle.dkv_queue.proofs.Looks.{first-row}
use Rattle.dkv_queue.proofs.queue.Queue.above.Goals as goal
use Rattle.dkv_queue.proofs.queue.Queue.above.Goals.{in-Some+in_ok-row-in-Some, in-None+in_ok-row-in-None}

-- what the fields hold is what contracts see
seen : (asked id : Option MsgId) (rows : List Row) (q : Rows) (o : Option Row) → asked ≡ id → rows ≡ q.rows → next_row id rows ≡ o
    → option_map (λ r. r.message) o ≡ option_map (λ r. r.message) (next_row asked q.rows)
seen asked id rows q o as_asked same is = ap (option_map (λ r. r.message)) (sym is ∙ (λ i. next_row (sym as_asked i) (same i)))

pub returns-in_err-row-in-None : goal.returns-in_err-row-in-None
returns-in_err-row-in-None c =
    ap option_copied c.from_residual-in_err-row-in-None.ensures
    ∙ seen c.args.id None c.self.inside.rows.items c.args.self.now None c.in-None.is (ap (λ (q : Rows). q.rows) c.self.view_is) (first-row _ ∙ sym c.in_err-row-in-None.ensures.first)

pub returns : goal.returns
returns c = elim c.match-id.branch [
  | in-Some+in_ok-row-in-Some w ↦
      ap (λ (r : Bor Row). Some r.now.message) w.row-is
      ∙ seen c.args.id (Some w.in-Some.id) c.self.inside.rows.items c.args.self.now (Some w.in_ok-row-in-Some.row.now) w.in-Some.is (ap (λ (q : Rows). q.rows) c.self.view_is)
      (sym w.in_ok-row-in-Some.ensures.above)
  | in-None+in_ok-row-in-None w ↦
      ap (λ (r : Bor Row). Some r.now.message) w.row-is
      ∙ seen c.args.id None c.self.inside.rows.items c.args.self.now (Some w.in_ok-row-in-None.row.now) w.in-None.is (ap (λ (q : Rows). q.rows) c.self.view_is)
      (first-row _ ∙ sym w.in_ok-row-in-None.ensures.first)
]
