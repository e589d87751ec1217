use Rattle.std.proofs.Common.{◌≡◌, ◌∙◌, sym, subst, List, ℕ, ◌++◌, take-append-drop}
use Rattle.dkv_image_io.specs.Writing.{IsUnderWay}
use Rattle.dkv_image_io.proofs.Writing.{way_parted}
use Rattle.dkv_image_io.proofs.pieces.Pieces.write_piece.Goals as goal

pub returns-in-Ok-write_held-clause-way : goal.returns-in-Ok-write_held-clause-way
returns-in-Ok-write_held-clause-way g c start file spelled w =
    let place = c.args.self.now.place in
    let held = c.args.self.now.held.items in
    let part = c.split_off.new.self.items in
    let rest = c.in-Ok.rest.items in
    let old = g.D.Disk.seen c.args.disk.now in
    let both : part ++ rest ≡ held = (λ i. c.in-Ok.ensures.items i ++ c.in-Ok.ensures.tail i) ∙ take-append-drop 65536 held in
    let w2 = subst (λ (l : List ℕ). IsUnderWay start file spelled old place l) (sym both) w in
    way_parted start place c.write_held.new.self.place file spelled part rest old (g.D.Disk.seen c.write_held.new.disk) w2 (λ u. c.in-Ok-write_held.ensures.way start file (w2.written ++ part) u)
