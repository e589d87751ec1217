use Rattle.std.proofs.Common.{◌∙◌, sym}
use Rattle.dkv_image.specs.Image.{is_good_entry}
use Rattle.dkv_image_io.specs.Reading.{narrow}
use Rattle.dkv_image.proofs.Sound.{entry_is}
use Rattle.dkv_image_io.proofs.Follows.{first_holds, first_fails}
use Rattle.dkv_image_io.proofs.entry.EntryItem.follows.Goals as goal

pub returns-then-entry_stands : goal.returns-then-entry_stands
returns-then-entry_stands c =
    let good = entry_is c.args.n c.args.now c.args.self.now ∙ sym c.entry_stands.ensures ∙ c.if-entry_stands.true in
    first_holds (is_good_entry (narrow c.args.n c.args.now) c.args.self.now) _ c.is_above.result good c.is_above.ensures

pub returns-else-entry_stands : goal.returns-else-entry_stands
returns-else-entry_stands c =
    let is = c.entry_stands.ensures ∙ sym (entry_is c.args.n c.args.now c.args.self.now) in
    first_fails (is_good_entry (narrow c.args.n c.args.now) c.args.self.now) _ c.entry_stands.result is c.if-entry_stands.false
