use Rattle.std.proofs.Common.{◌∙◌, sym, ap, subst, ℕ, ◌+◌, ◌<◌, ◌^◌, List, arith}
use Rattle.std.specs.Prelude.{slice_range}
use Rattle.dkv_io.specs.Disks.{IsShort}
use Rattle.dkv_image.specs.Image.{counted_row, entry_at_front, may_follow_entry, message_at_front, may_follow_message}
use Rattle.dkv_image_io.specs.Reading.{narrow, rest_in, end_in}
use Rattle.dkv_image_io.proofs.Composing.{over_is, over_end, over_short, first_falls, second_falls, second_stands, row_refused, image_stands, end_refused}
use Rattle.dkv_image_io.proofs.read.read_image.Goals as goal

pub returns-in-Err-clause-read : goal.returns-in-Err-clause-read
returns-in-Err-clause-read g c file told =
    let w = c.over-window.result in
    let at = c.args.at in
    let len = c.args.len in
    let b = narrow c.args.n c.args.now in
    let bytes = slice_range file at (at + len) in
    let held = c.over-window.ensures.held in
    let place = c.over-window.ensures.place in
    let left = c.over-window.ensures.left in
    let few = over_short file at len w held place left c.ranges.at.fits (subst IsShort told (g.met.D.Disk.short c.args.disk.now)) in
    row_refused b bytes (counted_row entry_at_front (may_follow_entry b) (rest_in file w)) (rest_in file c.read_row.new.window) w.place (end_in file w) at c.in-Err.refusal (c.in-Err.ensures.row file told few)
    (omega (arith, place)) (over_end file at len w held place left)
    (λ k is. first_falls b bytes k (ap (λ (l : List ℕ). counted_row entry_at_front (may_follow_entry b) l) (sym (over_is file at len w held place left)) ∙ is))

pub returns-in-Err-read_row-clause-read : goal.returns-in-Err-read_row-clause-read
returns-in-Err-read_row-clause-read g c file told =
    let w = c.over-window.result in
    let mid = c.read_row.new.window in
    let at = c.args.at in
    let len = c.args.len in
    let b = narrow c.args.n c.args.now in
    let bytes = slice_range file at (at + len) in
    let held = c.over-window.ensures.held in
    let place = c.over-window.ensures.place in
    let left = c.over-window.ensures.left in
    let few = over_short file at len w held place left c.ranges.at.fits (subst IsShort told (g.met.D.Disk.short c.args.disk.now)) in
    let told2 = c.read_row.ensures.reads.same ∙ told in
    let ends = c.in-Ok.ensures.ends file told few in
    let few2 = subst (λ (n : ℕ). n < 2 ^ 64) (sym ends) few in
    let first = ap (λ (l : List ℕ). counted_row entry_at_front (may_follow_entry b) l) (sym (over_is file at len w held place left)) ∙ c.in-Ok.ensures.row file told few in
    row_refused b bytes (counted_row message_at_front (may_follow_message b) (rest_in file mid)) (rest_in file c.read_row-2.new.window) mid.place (end_in file mid) at c.in-Err-read_row.refusal (c.in-Err-read_row.ensures.row file told2 few2)
    (omega (arith, place, c.read_row.ensures.onward)) (ends ∙ over_end file at len w held place left)
    (λ k is. second_falls b bytes c.in-Ok.entries (rest_in file mid) first k is)

pub returns-in-Ok-read_end-clause-read : goal.returns-in-Ok-read_end-clause-read
returns-in-Ok-read_end-clause-read g c file told =
    let w = c.over-window.result in
    let mid = c.read_row.new.window in
    let last = c.read_row-2.new.window in
    let at = c.args.at in
    let len = c.args.len in
    let b = narrow c.args.n c.args.now in
    let bytes = slice_range file at (at + len) in
    let held = c.over-window.ensures.held in
    let place = c.over-window.ensures.place in
    let left = c.over-window.ensures.left in
    let few = over_short file at len w held place left c.ranges.at.fits (subst IsShort told (g.met.D.Disk.short c.args.disk.now)) in
    let told2 = c.read_row.ensures.reads.same ∙ told in
    let told3 = c.read_row-2.ensures.reads.same ∙ told2 in
    let few2 = subst (λ (n : ℕ). n < 2 ^ 64) (sym (c.in-Ok.ensures.ends file told few)) few in
    let first = ap (λ (l : List ℕ). counted_row entry_at_front (may_follow_entry b) l) (sym (over_is file at len w held place left)) ∙ c.in-Ok.ensures.row file told few in
    let second = second_stands b bytes c.in-Ok.entries (rest_in file mid) first c.in-Ok-read_row.messages (rest_in file last) (c.in-Ok-read_row.ensures.row file told2 few2) in
    image_stands b bytes c.in-Ok.entries c.in-Ok-read_row.messages (rest_in file last) second (c.in-Ok-read_end.ensures.end file told3)

pub returns-clause-read : goal.returns-clause-read
returns-clause-read g c file told =
    let w = c.over-window.result in
    let mid = c.read_row.new.window in
    let last = c.read_row-2.new.window in
    let at = c.args.at in
    let len = c.args.len in
    let b = narrow c.args.n c.args.now in
    let bytes = slice_range file at (at + len) in
    let held = c.over-window.ensures.held in
    let place = c.over-window.ensures.place in
    let left = c.over-window.ensures.left in
    let few = over_short file at len w held place left c.ranges.at.fits (subst IsShort told (g.met.D.Disk.short c.args.disk.now)) in
    let told2 = c.read_row.ensures.reads.same ∙ told in
    let told3 = c.read_row-2.ensures.reads.same ∙ told2 in
    let ends = c.in-Ok.ensures.ends file told few in
    let few2 = subst (λ (n : ℕ). n < 2 ^ 64) (sym ends) few in
    let ends2 = c.in-Ok-read_row.ensures.ends file told2 few2 in
    let first = ap (λ (l : List ℕ). counted_row entry_at_front (may_follow_entry b) l) (sym (over_is file at len w held place left)) ∙ c.in-Ok.ensures.row file told few in
    let second = second_stands b bytes c.in-Ok.entries (rest_in file mid) first c.in-Ok-read_row.messages (rest_in file last) (c.in-Ok-read_row.ensures.row file told2 few2) in
    end_refused b bytes c.in-Ok.entries c.in-Ok-read_row.messages (rest_in file last) at last.place c.in-Err-read_end.refusal (c.in-Err-read_end.ensures.end file told3) second
    (omega (arith, place, c.read_row.ensures.onward, c.read_row-2.ensures.onward)) (ends2 ∙ ends ∙ over_end file at len w held place left)
