use Rattle.std.proofs.Common.{refl, ap, ◌∙◌}
use Rattle.dkv_route.specs.declared.targets.Path.{Path}
use Rattle.dkv_route.specs.Access.{wanted_by, read, write, watch}
use Rattle.dkv_route.proofs.bodies.planned_by.Goals as goal

pub returns-in_ok-read_of-in-Read-clause-planned : goal.returns-in_ok-read_of-in-Read-clause-planned
returns-in_ok-read_of-in-Read-clause-planned c =
    (read c.in_ok-read_of-in-Read.field-0, ap (λ (p : Path). wanted_by p c.args.body.now) c.in-Read.is ∙ c.in_ok-read_of-in-Read.ensures.wanted, refl)

pub returns-in_ok-write_of-in-Write-clause-planned : goal.returns-in_ok-write_of-in-Write-clause-planned
returns-in_ok-write_of-in-Write-clause-planned c =
    (write c.in_ok-write_of-in-Write.field-0, ap (λ (p : Path). wanted_by p c.args.body.now) c.in-Write.is ∙ c.in_ok-write_of-in-Write.ensures.wanted, refl)

pub returns-in_ok-watch_of-in-Watch-clause-planned : goal.returns-in_ok-watch_of-in-Watch-clause-planned
returns-in_ok-watch_of-in-Watch-clause-planned c =
    (watch c.in_ok-watch_of-in-Watch.field-0, ap (λ (p : Path). wanted_by p c.args.body.now) c.in-Watch.is ∙ c.in_ok-watch_of-in-Watch.ensures.wanted, refl)
