use Rattle.std.proofs.Common.{◌≡◌, refl, sym, ◌∙◌, ap, subst, ℕ, List, [], ◌∷◌, ◌++◌, flat_map, arith, append_assoc}
use Rattle.std.specs.List.{AllByRecursion}
use Rattle.std.proofs.lemmas.List.{append-nil}
use Rattle.dkv_base.specs.declared.types.Message.{Message}
use Rattle.dkv_image.specs.Image.{message_bytes}
use Rattle.dkv_image_io.specs.Sizes.{FitsCounts}
use Rattle.dkv_image_io.specs.Writing.{IsUnderWay}
use Rattle.dkv_image_io.proofs.Writing.{writes_none, writes_on}
use Rattle.dkv_image_io.proofs.put.put_messages.Goals as goal

pub loop-message-init : goal.loop-message-init
loop-message-init g c = record {
  done = [];
  all = refl;
  fit = c.requires.fit;
  way = λ start file spelled w. subst (λ (l : List ℕ). IsUnderWay start file l (g.D.Disk.seen c.args.disk.now) c.args.pieces.now.place c.args.pieces.now.held.items) (sym (append-nil spelled)) w;
  within = c.requires.within;
  onward = omega arith;
  writes = writes_none g.D.Disk.seen g.D.Disk.may_leave g.D.Disk.moment g.D.Disk.left_since g.D.Disk.faults g.met.D.Disk.counts_now g.met.D.Disk.only_now c.args.pieces.now.place c.args.disk.now;
}

pub loop-message-preserved : goal.loop-message-preserved
loop-message-preserved g c =
    let inv = c.loop-message.invariant in
    let x = c.in-Some.message.now in
    let later = c.next.new.self in
    let first : c.loop-message.messages ≡ x ∷ later = c.in-Some.ensures.first in
    record {
      done = inv.done ++ message_bytes x;
      all = append_assoc inv.done (message_bytes x) (flat_map message_bytes later) ∙ ap (λ (l : List Message). inv.done ++ flat_map message_bytes l) (sym first) ∙ inv.all;
      fit = (subst (λ (l : List Message). AllByRecursion FitsCounts l) first inv.fit).1;
      way = λ start file spelled w.
          subst (λ (l : List ℕ). IsUnderWay start file l (g.D.Disk.seen c.put_message.new.disk) c.put_message.new.pieces.place c.put_message.new.pieces.held.items) (append_assoc spelled inv.done (message_bytes x))
          (c.in-Ok.ensures.way start file (spelled ++ inv.done) (inv.way start file spelled w));
      within = c.in-Ok.ensures.within;
      onward = omega (arith, inv.onward, c.in-Ok.ensures.onward);
      writes = writes_on g.D.Disk.seen g.D.Disk.may_leave g.D.Disk.moment g.D.Disk.left_since g.D.Disk.faults g.met.D.Disk.counts_now g.met.D.Disk.only_now
          c.args.pieces.now.place c.loop-message.pieces.place c.args.disk.now c.loop-message.disk c.put_message.new.disk inv.onward inv.writes c.put_message.ensures.writes;
    }

pub returns-in-Err-clause-writes : goal.returns-in-Err-clause-writes
returns-in-Err-clause-writes g c =
    let inv = c.loop-message.invariant in
    writes_on g.D.Disk.seen g.D.Disk.may_leave g.D.Disk.moment g.D.Disk.left_since g.D.Disk.faults g.met.D.Disk.counts_now g.met.D.Disk.only_now
    c.args.pieces.now.place c.loop-message.pieces.place c.args.disk.now c.loop-message.disk c.put_message.new.disk inv.onward inv.writes c.put_message.ensures.writes
