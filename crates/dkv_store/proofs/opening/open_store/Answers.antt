use Rattle.std.proofs.Common.{◌≡◌, sym, ◌∙◌, ap, subst, List, ℕ}
use Rattle.std.specs.Prelude.{option_map}
use Rattle.dkv_store.specs.Held.{Guarded, picked}
use Rattle.dkv_files.specs.Files.{is_open}
use Rattle.dkv_store.proofs.Opened.{f, made_is_sound, holds, both_read, bytes_read, first_used, generation_read, hold_of, same_identity, told_file}
use Rattle.dkv_store.proofs.opening.open_store.Goals as goal

pub begin-requires-clause-sound : goal.begin-requires-clause-sound
begin-requires-clause-sound g c = made_is_sound c.in-Ok.ensures.made.0.0 c.in-Ok.core c.in-Ok.ensures.made.0.1

pub begin-requires-clause-stands : goal.begin-requires-clause-stands
begin-requires-clause-stands g c fa told =
    let pair = c.recover.new.pair in
    let start = sym c.recover.ensures.same.0 ∙ ap g.D.Disk.seen (sym c.of-files.ensures.used) ∙ told in
    let made = c.in-Ok.ensures.made in
    let held = c.in-Ok.ensures.held fa start in
    let rest = c.in-Ok.ensures.rest_a fa start in
    let files = c.of-files.ensures in
    hold_of g.D.Disk.seen g.D.Disk.may_leave pair.a _ pair.b _ c.in-Ok.journal _ _ _ (ap (λ o. option_map (λ d. d.value) o) files.sure) files.used files.other files.journal files.in_use _ _
    (holds fa c.in-Ok.head c.in-Ok.core c.in-Ok.journal held (g.D.Disk.may_leave pair.a) (Guarded (g.D.Disk.seen pair.b) (g.D.Disk.may_leave pair.b)) rest.only
    (λ y now.
    let tells = told_file (g.D.Disk.seen pair.b) now.0 in
    let other = sym c.recover.ensures.same.1 ∙ tells.1 in
    let there = c.in-Ok.ensures.rest_b tells.0 other in
    ap is_open (there.only y now.1) ∙ c.in-Ok.ensures.shut tells.0 other)
    made.1)

pub returns-in-Ok-clause-opened : goal.returns-in-Ok-clause-opened
returns-in-Ok-clause-opened g c fa fb told_a told_b =
    let held = c.in-Ok.ensures.held fa told_a in
    let begins = c.begin.ensures in
    let files = c.of-files.ensures in
    let in_use = begins.in_use ∙ files.in_use in
    let rest_a = c.in-Ok.ensures.rest_a fa told_a in
    let rest_b = c.in-Ok.ensures.rest_b fb told_b in
    record {
      found = f fa c.in-Ok.head c.in-Ok.core c.in-Ok.journal held;
      recovered = both_read fa c.in-Ok.head c.in-Ok.core c.in-Ok.journal held fb (c.in-Ok.ensures.shut fb told_b);
      base = begins.base ∙ held.made.state;
      state = ap (λ d. d.state) begins.core ∙ sym begins.base;
      who = begins.who ∙ sym (same_identity fa c.in-Ok.head c.in-Ok.core c.in-Ok.journal held);
      trail = begins.trail;
      out_none = ap (λ d. d.out) begins.core ∙ held.made.between.out;
      record_bytes = bytes_read fa c.in-Ok.head c.in-Ok.core c.in-Ok.journal held fb _ (c.in-Ok.ensures.shut fb told_b) (begins.record_bytes ∙ c.bytes_before-record_bytes.ensures);
      second = ap (λ u. u.second) in_use ∙ sym (first_used fa c.in-Ok.head c.in-Ok.core c.in-Ok.journal held fb (c.in-Ok.ensures.shut fb told_b)).0;
      generation = ap (λ u. u.generation) in_use ∙ generation_read fa c.in-Ok.head c.in-Ok.core c.in-Ok.journal held fb (c.in-Ok.ensures.shut fb told_b);
      doubt = begins.doubt ∙ ap (λ o. option_map (λ d. d.value) o) files.sure;
      a_only = λ x now. rest_a.only x (subst (λ d. g.D.Disk.may_leave d x) (begins.a_is ∙ (λ i. picked (files.in_use i).second (files.used i) (files.other i))) now);
      b_only = λ x now. rest_b.only x (subst (λ d. g.D.Disk.may_leave d x) (begins.b_is ∙ (λ i. picked (files.in_use i).second (files.other i) (files.used i))) now);
    }
