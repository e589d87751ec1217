use Rattle.std.specs.Option.{option_copied}
use Rattle.dkv_image_io.specs.Reading.{narrow, behind}
use Rattle.dkv_image_io.proofs.Prepending.{item_on}
use Rattle.dkv_image_io.proofs.rows.next_item.Goals as goal

pub returns-in-Ok-take_front-clause-item : goal.returns-in-Ok-take_front-clause-item
returns-in-Ok-take_front-clause-item g c file told few =
    let before = option_copied c.args.before in
    let filled = c.fill.new.self in
    item_on g.I.Item.front (g.I.Item.may_follow (narrow c.args.n c.args.now) before) file c.args.window.now filled c.take_front.new.window c.in-Ok-take_front.item (c.in-Ok.ensures.same file told)
    c.fill.ensures.place c.take_front.ensures.left c.take_front.ensures.fewer c.take_front.ensures.place few (c.in-Ok-take_front.ensures.front (behind file filled) (c.in-Ok.ensures.full file told))
