use Rattle.std.proofs.Common.{◌≡◌, ◌++◌, ◌-◌, ◌*◌, ◌+◌, List, ℕ, length, ap, ◌∙◌, arith, rules}
use Rattle.dkv_base.specs.Protobuf.{varint}
use Rattle.dkv_wire.specs.Rooms.{turned}
use Rattle.dkv_wire.proofs.Sizes.{varint_size}
use Rattle.dkv_wire.proofs.Enclosed.{enclosed}
use Rattle.dkv_wire.proofs.out.Out.enclose.Goals as goal

pub put_varint-requires : goal.put_varint-requires
put_varint-requires c = omega (arith, varint_size (c.from.result * 8 + 2), c.in_ok-reserve.ensures.ok)

pub put_varint-requires-2 : goal.put_varint-requires-2
put_varint-requires-2 c = omega (arith, varint_size (c.from.result * 8 + 2), varint_size (c.len-end.result - c.args.from), c.in_ok-reserve.ensures.ok, c.put_varint.ensures.spare)

pub returns : goal.returns
returns c =
    let bytes = c.args.self.now.bytes in
    let from = c.args.from in
    let put : c.self-2.inside.items.items ≡ bytes ++ varint (c.args.field * 8 + 2) ++ varint (length bytes - from) = search rules in
    let end : c.len-end.result ≡ length bytes = search rules in
    c.turn.ensures
    ∙ ap (λ (n : ℕ). turned from n c.self-2.inside.items.items) end
    ∙ ap (λ (l : List ℕ). turned from (length bytes) l) put
    ∙ enclosed c.args.field from bytes c.requires.place
