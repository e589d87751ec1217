use Rattle.std.proofs.Common.{◌≤◌, ◌+◌, ◌-◌, ◌/◌, ◌%◌, ◌++◌, ◌∷◌, [], List, ℕ, length, ap, sym, ◌∙◌, arith, append_assoc}
use Rattle.dkv_base.specs.Protobuf.{groups}
use Rattle.dkv_wire.proofs.Spelled.{large, some_more, fits_more}
use Rattle.dkv_wire.proofs.out.Out.+put_groups.Goals as goal

pub overflow_sub-more : goal.overflow_sub-more
overflow_sub-more t c = some_more c.args.more c.args.number c.requires.most

pub put_groups-requires : goal.put_groups-requires
put_groups-requires t c =
    let big : 128 ≤ c.args.number = omega (arith, c.if-number-lt128.false) in
    let groups_are = large c.args.more c.args.number c.requires.most big in (
      omega (arith, c.decreases, some_more c.args.more c.args.number c.requires.most),
      (fits_more c.args.more c.args.number c.requires.most big, omega (arith, ap length groups_are, c.requires.room, c.put_byte-else-number-lt128.ensures.spare)),
    )

pub returns-else-number-lt128-clause-bytes : goal.returns-else-number-lt128-clause-bytes
returns-else-number-lt128-clause-bytes t c =
    let big : 128 ≤ c.args.number = omega (arith, c.if-number-lt128.false) in
    let groups_are = large c.args.more c.args.number c.requires.most big in
    let b = c.args.number % 128 + 128 in
    c.put_groups.ensures.bytes
    ∙ ap (λ (l : List ℕ). l ++ groups (c.args.more - 1) (c.args.number / 128)) c.put_byte-else-number-lt128.ensures.bytes
    ∙ append_assoc c.args.self.now.bytes (b ∷ []) (groups (c.args.more - 1) (c.args.number / 128))
    ∙ ap (λ (l : List ℕ). c.args.self.now.bytes ++ l) (sym groups_are)
