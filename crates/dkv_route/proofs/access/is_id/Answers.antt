use Rattle.std.specs.Prelude.{bytes_eq}
use Rattle.std.proofs.lemmas.Bool.{false≢true}
use Rattle.uuid.specs.Text.{parsed}
use Rattle.dkv_route.proofs.Refused.{no_id}
use Rattle.dkv_route.proofs.access.is_id.Goals as goal

pub returns-in-Err : goal.returns-in-Err
returns-in-Err c = no_id (bytes_eq c.args.site.now.database_id) (parsed c.args.text.now) (λ found. false≢true (c.in-Err.ensures.ok.1 found))
