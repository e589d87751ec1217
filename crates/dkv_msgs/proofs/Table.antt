-- The bad place of a message, field by field.
use Rattle.std.proofs.Common.{◌≡◌, ℕ, ◌∷◌, [], List, true, false, eqb, eqb-true, Option, Some, None, refl, sym, ap, ◌∙◌, arith, inl, inr, ◌⊎◌, min}
use Rattle.std.specs.Prelude.{◌==◌, if◌then◌else◌}
use Rattle.dkv_wire.specs.Wire.{Item, Content, AVarint, AFixed64, ALen, AFixed32, Walk}
use Rattle.dkv_wire.specs.FieldLists.{fields, bad}
use Rattle.dkv_wire.specs.Steps.{to_come, bad_of, FirstField, item}
use Rattle.dkv_wire.specs.Reading.{content}
use Rattle.dkv_wire.specs.declared.fields.Field.{Field}
use Rattle.dkv_msgs.specs.Places.{earlier, look_in, in_fields}
use Rattle.dkv_msgs.specs.declared.read_places.Kind.{Kind}
use Rattle.dkv_msgs.specs.declared.read_places.Kind.TheVariants as kind
use Rattle.dkv_msgs.specs.declared.read_places.Inside.{Inside}
use Rattle.dkv_msgs.specs.declared.read_places.Inside.TheVariants as inside
use Rattle.dkv_msgs.specs.Kinds.{inside_of, bad_inside, bad_message}

-- ---- the earlier of two places

earlier_none : (a : Option ℕ) → earlier a None ≡ a
earlier_none None = refl
earlier_none (Some a) = refl

some : ℕ → Option ℕ
some n = Some n

earlier_swaps : (a b : Option ℕ) → earlier a b ≡ earlier b a
earlier_swaps None b = sym (earlier_none b)
earlier_swaps (Some a) None = refl
earlier_swaps (Some a) (Some b) = let e : min a b ≡ min b a = omega arith in rw e refl

earlier_groups : (a b c : Option ℕ) → earlier (earlier a b) c ≡ earlier a (earlier b c)
earlier_groups None b c = refl
earlier_groups (Some a) None c = refl
earlier_groups (Some a) (Some b) None = refl
earlier_groups (Some a) (Some b) (Some c) = let e : min (min a b) c ≡ min a (min b c) = omega arith in rw e refl

earlier_across : (a b c d : Option ℕ) → earlier (earlier a b) (earlier c d) ≡ earlier (earlier a c) (earlier b d)
earlier_across a b c d =
    earlier_groups a b (earlier c d)
    ∙ ap (earlier a) (sym (earlier_groups b c d) ∙ ap (λ x. earlier x d) (earlier_swaps b c) ∙ earlier_groups c b d)
    ∙ sym (earlier_groups a c (earlier b d))

-- ---- the fields, looked at by a table of their numbers

abbrev pub in_payloads : (ℕ → Inside) → List Item → Option ℕ
in_payloads table [] = None
in_payloads table (f ∷ fs) = earlier (look_in (bad_inside (table f.number)) f f.content) (in_payloads table fs)

plain_none : (f : Item) (held : Content) → look_in (bad_inside inside.Plain) f held ≡ None
plain_none f (AVarint n) = refl
plain_none f (AFixed64 n) = refl
plain_none f (ALen text) = refl
plain_none f (AFixed32 n) = refl

none_inside : (fs : List Item) → in_payloads (λ n. inside.Plain) fs ≡ None
none_inside [] = refl
none_inside (f ∷ fs) = rw (plain_none f f.content) (none_inside fs)

cases : (a b : ℕ) → (eqb a b ≡ true) ⊎ (eqb a b ≡ false)
cases a b = elim (eqb a b) as (λ v. (v ≡ true) ⊎ (v ≡ false)) [ true ↦ inl refl | false ↦ inr refl ]

-- one number more
first_of_both : (k : ℕ) (p : Inside) (table : ℕ → Inside) (f : Item) → table k ≡ inside.Plain
    → earlier (if f.number == k then look_in (bad_inside p) f f.content else None) (look_in (bad_inside (table f.number)) f f.content) ≡ look_in (bad_inside (if f.number == k then p else table f.number)) f f.content
first_of_both k p table f plain =
    elim (cases f.number k) [
      | inl is ↦
          let same : table f.number ≡ inside.Plain = ap table (eqb-true f.number k is) ∙ plain in
          rw (is, same, plain_none f f.content) (earlier_none (look_in (bad_inside p) f f.content))
      | inr not ↦ rw not refl
    ]

more : (k : ℕ) (p : Inside) (table : ℕ → Inside) (fs : List Item) → table k ≡ inside.Plain
    → earlier (in_fields k (bad_inside p) fs) (in_payloads table fs) ≡ in_payloads (λ n. if n == k then p else table n) fs
more k p table [] plain = refl
more k p table (f ∷ fs) plain =
    earlier_across (if f.number == k then look_in (bad_inside p) f f.content else None) (in_fields k (bad_inside p) fs) (look_in (bad_inside (table f.number)) f f.content) (in_payloads table fs)
    ∙ ap (λ x. earlier x (earlier (in_fields k (bad_inside p) fs) (in_payloads table fs))) (first_of_both k p table f plain)
    ∙ ap (earlier (look_in (bad_inside (if f.number == k then p else table f.number)) f f.content)) (more k p table fs plain)

one : (k : ℕ) (p : Inside) (fs : List Item) → in_fields k (bad_inside p) fs ≡ in_payloads (λ n. if n == k then p else inside.Plain) fs
one k p fs = sym (earlier_none (in_fields k (bad_inside p) fs)) ∙ ap (earlier (in_fields k (bad_inside p) fs)) (sym (none_inside fs)) ∙ more k p (λ n. inside.Plain) fs refl

-- a message is bad where no field begins, or inside its fields
pub by_table : (k : Kind) (at : ℕ) (bytes : List ℕ) → bad_message k at bytes ≡ earlier (bad at bytes) (in_payloads (inside_of k) (fields at bytes))
by_table kind.Flat at bytes = sym (ap (earlier (bad at bytes)) (none_inside (fields at bytes)) ∙ earlier_none (bad at bytes))
by_table kind.SnapshotRead at bytes = ap (earlier (bad at bytes)) (one 1 (inside.Message kind.Flat) (fields at bytes))
by_table kind.Mutation at bytes = ap (earlier (bad at bytes)) (one 2 (inside.Message kind.Flat) (fields at bytes))
by_table kind.Enqueue at bytes = ap (earlier (bad at bytes)) (one 4 inside.Numbers (fields at bytes))
by_table kind.AtomicWrite at bytes =
    let fs = fields at bytes in
    let third : ℕ → Inside = λ n. if n == 3 then inside.Message kind.Enqueue else inside.Plain in
    let second : ℕ → Inside = λ n. if n == 2 then inside.Message kind.Mutation else third n in
    let flat = in_fields 1 (bad_inside (inside.Message kind.Flat)) fs in
    let mutations = in_fields 2 (bad_inside (inside.Message kind.Mutation)) fs in
    ap (earlier (bad at bytes))
    (ap (λ x. earlier flat (earlier mutations x)) (one 3 (inside.Message kind.Enqueue) fs)
    ∙ ap (earlier flat) (more 2 (inside.Message kind.Mutation) third fs refl)
    ∙ more 1 (inside.Message kind.Flat) second fs refl)
by_table kind.Watch at bytes = ap (earlier (bad at bytes)) (one 1 (inside.Message kind.Flat) (fields at bytes))
by_table kind.RangeOutput at bytes = ap (earlier (bad at bytes)) (one 1 (inside.Message kind.Flat) (fields at bytes))
by_table kind.SnapshotReadOutput at bytes = ap (earlier (bad at bytes)) (one 1 (inside.Message kind.RangeOutput) (fields at bytes))
by_table kind.AtomicWriteOutput at bytes = ap (earlier (bad at bytes)) (one 4 inside.Numbers (fields at bytes))
by_table kind.WatchKeyOutput at bytes = ap (earlier (bad at bytes)) (one 2 (inside.Message kind.Flat) (fields at bytes))
by_table kind.WatchOutput at bytes = ap (earlier (bad at bytes)) (one 2 (inside.Message kind.WatchKeyOutput) (fields at bytes))

-- ---- what one step of the walk does

-- the bad place of what is still to come
abbrev pub still_bad : Kind → Walk → Option ℕ
still_bad k w = earlier (bad_of w) (in_payloads (inside_of k) (to_come w))

pub one_step : (k : Kind) (least : Option ℕ) (old new : Walk) (f : Field) → FirstField old new f
    → earlier (earlier least (look_in (bad_inside (inside_of k f.number)) (item f new.place) (content f.payload))) (still_bad k new) ≡ earlier least (still_bad k old)
one_step k least old new f first =
    let here = look_in (bad_inside (inside_of k f.number)) (item f new.place) (content f.payload) in
    let others = in_payloads (inside_of k) (to_come new) in
    let whole : still_bad k old ≡ earlier (bad_of new) (earlier here others) = rw (first.fields, first.bad) refl in
    let moved : earlier (bad_of new) (earlier here others) ≡ earlier here (still_bad k new) =
    sym (earlier_groups (bad_of new) here others) ∙ ap (λ x. earlier x others) (earlier_swaps (bad_of new) here) ∙ earlier_groups here (bad_of new) others in
    earlier_groups least here (still_bad k new) ∙ sym (ap (earlier least) (whole ∙ moved))

pub at_end : (k : Kind) (least : Option ℕ) (w : Walk) → (to_come w ≡ []) × (bad_of w ≡ None) → earlier least (still_bad k w) ≡ least
at_end k least w ends = rw (ends.0, ends.1) (earlier_none least)

pub at_refusal : (k : Kind) (least : Option ℕ) (w : Walk) (at : ℕ) → (to_come w ≡ []) × (bad_of w ≡ Some at) → earlier least (still_bad k w) ≡ earlier least (Some at)
at_refusal k least w at ends = rw (ends.0, ends.1) refl
