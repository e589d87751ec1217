use Rattle.dkv_heads.proofs.ChunkLines.{size_goes}
use Rattle.dkv_heads.proofs.sizes.next_size.Goals as goal

pub returns-clause-goes : goal.returns-clause-goes
returns-clause-goes c line few some is = rw c.size_step.ensures (size_goes c.args.at c.args.few c.args.some c.args.byte line few some is)
