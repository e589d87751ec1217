-- What is read as an image is spelled so.
use Rattle.std.proofs.Common.{◌≡◌, refl, sym, ◌∙◌, ap, subst, ℕ, zero, suc, ◌^◌, ◌<◌, Bool, true, false, ◌&&◌, List, [], ◌∷◌, ◌++◌, length, Option, Some, None, Ok, Err, Result, arith, append_assoc}
use Rattle.std.specs.Prelude.{if◌then◌else◌}
use Rattle.std.specs.List.{AllByRecursion, flat_map, list_all}
use Rattle.std.specs.Int.{w64, to_le_bytes}
use Rattle.std.specs.Result.{result_ok}
use Rattle.std.proofs.lemmas.List.{append-nil}
use Rattle.dkv_base.specs.declared.types.Entry.{Entry}
use Rattle.dkv_base.specs.declared.types.Message.{Message}
use Rattle.dkv_base.specs.State.{is_in_key_order, is_in_id_order}
use Rattle.dkv_image.specs.Image.{Bounds, image, image_left, is_image, is_good_entry, is_good_message, entry_bytes, entry_at_front, message_bytes, message_at_front, ◌>>◌, standing, row_at, counted_row, number_at, may_follow_entry, may_follow_message, whole, from_front, FitsImage, FitsEntry, FitsMessage}
use Rattle.dkv_image.specs.Laws.{ImageIsSpelled}
use Rattle.dkv_base.proofs.ByteLists.{Below}
use Rattle.std.specs.Cmp.{IsTotalOrder}
use Rattle.std.proofs.lemmas.Cmp.{on_total, nat_list_cmp_total}
use Rattle.dkv_base.specs.State.{entry_cmp, message_cmp}
use Rattle.dkv_base.proofs.IdOrder.{id_total}
use Rattle.dkv_base.proofs.RankedLists.{all_above-lt}
use Rattle.std.proofs.lemmas.Bool.{and_parts}
use Rattle.dkv_image.proofs.Images.{Chain}
use Rattle.dkv_image.proofs.Taken.{Takes, then_takes, some_is, number_64_takes, entry_takes, message_takes}

ok_is : {A : Type 0} (x y : A) → (let r : Result A ℕ = Ok x in r) ≡ Ok y → x ≡ y
ok_is x y is = some_is x y (ap (λ r. result_ok r) is)

bound : {A B : Type 0} (o : Result A ℕ) (f : A → Result B ℕ) (y : B) → (o >> f) ≡ Ok y → (x : A) × (o ≡ Ok x) × (f x ≡ Ok y)
bound (Ok x) f y is = (x, refl, is)
bound (Err e) f y is = absurd (cc is)

stood_if : {X : Type 0} (v : Bool) (x y : X × List ℕ) (left : ℕ) → (if v then Ok x else Err left) ≡ Ok y → (v ≡ true) × (x ≡ y)
stood_if true x y left is = (refl, ok_is x y is)
stood_if false x y left is = absurd (cc is)

stood : {X : Type 0} (test : X → Bool) (bytes : List ℕ) (read : Option (X × List ℕ)) (y : X × List ℕ) → standing test bytes read ≡ Ok y → (read ≡ Some y) × (test y.0 ≡ true)
stood test bytes None y is = absurd (cc is)
stood {X = X} test bytes (Some x) y is =
    let parts = stood_if (test x.0) x y (length bytes) is in
    (ap (λ (z : X × List ℕ). (let o : Option (X × List ℕ) = Some z in o)) parts.1, ap (λ (z : X × List ℕ). test z.0) (sym parts.1) ∙ parts.0)

-- what a row of items has taken
pub record TakesRow {X : Type 0} (f : X → List ℕ) (test : Option X → X → Bool) (P : X → Type 0) (before : Option X) (k : ℕ) (bytes : List ℕ) (xs : List X × List ℕ) : Type 0 where
  pub takes : Takes bytes (flat_map f xs.0) xs.1
  pub count : length xs.0 ≡ k
  pub chain : Chain test before xs.0
  pub each : AllByRecursion P xs.0

abbrev TakesOne : {X : Type 0} → (List ℕ → Option (X × List ℕ)) → (X → List ℕ) → (X → Type 0) → Type 0
TakesOne {X = X} one f P = (bytes : List ℕ) (x : X × List ℕ) → one bytes ≡ Some x → Below bytes → Takes bytes (f x.0) x.1 × P x.0

row_takes : {X : Type 0} (one : List ℕ → Option (X × List ℕ)) (f : X → List ℕ) (test : Option X → X → Bool) (P : X → Type 0) → TakesOne one f P
    → (k : ℕ) (before : Option X) (bytes : List ℕ) (xs : List X × List ℕ) → row_at one test before k bytes ≡ Ok xs → Below bytes → TakesRow f test P before k bytes xs
row_takes {X = X} one f test P takes zero before bytes xs is below =
    subst (λ (y : List X × List ℕ). TakesRow f test P before 0 bytes y) (ok_is ([], bytes) xs is) (record { takes = record { split = refl; below = below }; count = refl; chain = tt; each = tt })
row_takes {X = X} one f test P takes (suc k) before bytes xs is below =
    let first = bound (standing (test before) bytes (one bytes)) (λ x. row_at one test (Some x.0) k x.1 >> λ others. Ok (x.0 ∷ others.0, others.1)) xs is in
    let x = first.0 in
    let here = stood (test before) bytes (one bytes) x first.1 in
    let more = bound (row_at one test (Some x.0) k x.1) (λ others. Ok (x.0 ∷ others.0, others.1)) xs first.2 in
    let others = more.0 in
    let taken = takes bytes x here.0 below in
    let rest = row_takes one f test P takes k (Some x.0) x.1 others more.1 taken.0.below in
    subst (λ (y : List X × List ℕ). TakesRow f test P before (suc k) bytes y) (ok_is (x.0 ∷ others.0, others.1) xs more.2) (record {
      takes = then_takes bytes (f x.0) x.1 (flat_map f others.0) others.1 taken.0 rest.takes;
      count = ap (λ (n : ℕ). suc n) rest.count;
      chain = (here.1, rest.chain);
      each = (taken.1, rest.each);
    })

pub record TakesCounted {X : Type 0} (f : X → List ℕ) (test : Option X → X → Bool) (P : X → Type 0) (bytes : List ℕ) (xs : List X × List ℕ) : Type 0 where
  pub takes : Takes bytes (to_le_bytes w64 (length xs.0) ++ flat_map f xs.0) xs.1
  pub count : length xs.0 < 2 ^ 64
  pub chain : Chain test None xs.0
  pub each : AllByRecursion P xs.0

counted_row_takes : {X : Type 0} (one : List ℕ → Option (X × List ℕ)) (f : X → List ℕ) (test : Option X → X → Bool) (P : X → Type 0) → TakesOne one f P
    → (bytes : List ℕ) (xs : List X × List ℕ) → counted_row one test bytes ≡ Ok xs → Below bytes → TakesCounted f test P bytes xs
counted_row_takes one f test P takes bytes xs is below =
    let from = bound (standing (λ _. true) bytes (number_at w64 bytes)) (λ n. row_at one test None n.0 n.1) xs is in
    let n = from.0 in
    let here = stood (λ _. true) bytes (number_at w64 bytes) n from.1 in
    let number = number_64_takes bytes n here.0 below in
    let row = row_takes one f test P takes n.0 None n.1 xs from.2 number.takes.below in
    let taken = then_takes bytes (to_le_bytes w64 n.0) n.1 (flat_map f xs.0) xs.1 number.takes row.takes in
    record {
      takes = subst (λ (m : ℕ). Takes bytes (to_le_bytes w64 m ++ flat_map f xs.0) xs.1) (sym row.count) taken;
      count = omega (arith, row.count, number.small);
      chain = row.chain;
      each = row.each;
    }

entry_one : TakesOne entry_at_front entry_bytes FitsEntry
entry_one bytes x is below = let taken = entry_takes bytes x is below in (taken.takes, record { expire = taken.expire })

message_one : TakesOne message_at_front message_bytes FitsMessage
message_one bytes x is below = let taken = message_takes bytes x is below in (taken.takes, record { index = taken.index; due = taken.due })

whole_is : (es : List Entry) (ms : List Message) (left : List ℕ) (x : List Entry × List Message) → whole es ms left ≡ Ok x → (left ≡ []) × ((es, ms) ≡ x)
whole_is es ms [] x is = (refl, ok_is (es, ms) x is)
whole_is es ms (y ∷ ys) x is = absurd (cc is)

-- entries are in a total order by their keys
entry_total : IsTotalOrder entry_cmp
entry_total = on_total (λ (e : Entry). e.key) nat_list_cmp_total

-- and messages by their ids
message_total : IsTotalOrder message_cmp
message_total = on_total (λ (m : Message). m.id) id_total

passes : (x y : Bool) → x ≡ true → y ≡ true → (x && y) ≡ true
passes x y is so = λ i. is i && so i

module _ (b : Bounds) where
  entries_good : (before : Option Entry) (es : List Entry) → Chain (may_follow_entry b) before es → list_all (is_good_entry b) es ≡ true
  entries_good before [] chain = refl
  entries_good before (e ∷ es) chain = passes _ _ (and_parts _ _ chain.0).0 (entries_good (Some e) es chain.1)

  entries_order_on : (e : Entry) (es : List Entry) → Chain (may_follow_entry b) (Some e) es → is_in_key_order (e ∷ es) ≡ true
  entries_order_on e [] chain = refl
  entries_order_on e (f ∷ es) chain =
      let below = (and_parts _ _ chain.0).1 in
      let rest = entries_order_on f es chain.1 in
      passes _ _ (passes _ _ below (all_above-lt entry_total e f es below (and_parts _ _ rest).0)) rest

  entries_order : (es : List Entry) → Chain (may_follow_entry b) None es → is_in_key_order es ≡ true
  entries_order [] chain = refl
  entries_order (e ∷ es) chain = entries_order_on e es chain.1

  messages_good : (before : Option Message) (ms : List Message) → Chain (may_follow_message b) before ms → list_all (is_good_message b) ms ≡ true
  messages_good before [] chain = refl
  messages_good before (m ∷ ms) chain = passes _ _ (and_parts _ _ chain.0).0 (messages_good (Some m) ms chain.1)

  messages_order_on : (m : Message) (ms : List Message) → Chain (may_follow_message b) (Some m) ms → is_in_id_order (m ∷ ms) ≡ true
  messages_order_on m [] chain = refl
  messages_order_on m (k ∷ ms) chain =
      let below = (and_parts _ _ chain.0).1 in
      let rest = messages_order_on k ms chain.1 in
      passes _ _ (passes _ _ below (all_above-lt message_total m k ms below (and_parts _ _ rest).0)) rest

  messages_order : (ms : List Message) → Chain (may_follow_message b) None ms → is_in_id_order ms ≡ true
  messages_order [] chain = refl
  messages_order (m ∷ ms) chain = messages_order_on m ms chain.1

pub record IsSpelled (b : Bounds) (bytes : List ℕ) (x : List Entry × List Message) : Type 0 where
  pub bytes_are : bytes ≡ image x.0 x.1
  pub stands : is_image b x.0 x.1 ≡ true
  pub fits : FitsImage x.0 x.1

left_is_spelled : (b : Bounds) (bytes : List ℕ) (x : List Entry × List Message) → Below bytes → image_left b bytes ≡ Ok x → IsSpelled b bytes x
left_is_spelled b bytes x below is =
    let entries = bound (counted_row entry_at_front (may_follow_entry b) bytes) (λ es. counted_row message_at_front (may_follow_message b) es.1 >> λ ms. whole es.0 ms.0 ms.1) x is in
    let es = entries.0 in
    let messages = bound (counted_row message_at_front (may_follow_message b) es.1) (λ ms. whole es.0 ms.0 ms.1) x entries.2 in
    let ms = messages.0 in
    let end = whole_is es.0 ms.0 ms.1 x messages.2 in
    let first = counted_row_takes entry_at_front entry_bytes (may_follow_entry b) FitsEntry entry_one bytes es entries.1 below in
    let second = counted_row_takes message_at_front message_bytes (may_follow_message b) FitsMessage message_one es.1 ms messages.1 first.takes.below in
    let e_text = to_le_bytes w64 (length es.0) ++ flat_map entry_bytes es.0 in
    let m_text = to_le_bytes w64 (length ms.0) ++ flat_map message_bytes ms.0 in
    let all = then_takes bytes e_text es.1 m_text ms.1 first.takes second.takes in
    subst (IsSpelled b bytes) end.1 (record {
      bytes_are = all.split ∙ ap (λ (l : List ℕ). e_text ++ m_text ++ l) end.0 ∙ append-nil (e_text ++ m_text) ∙ sym (append_assoc e_text (to_le_bytes w64 (length ms.0)) (flat_map message_bytes ms.0));
      stands = passes _ _ (passes _ _ (passes _ _ (entries_good b None es.0 first.chain) (entries_order b es.0 first.chain)) (messages_good b None ms.0 second.chain)) (messages_order b ms.0 second.chain);
      fits = record { entry_count = first.count; message_count = second.count; entries = first.each; messages = second.each };
    })

not_left : {X : Type 0} (total : ℕ) (r : Result X ℕ) (x : X) → from_front total r ≡ Ok x → r ≡ Ok x
not_left total (Ok y) x is = is
not_left total (Err left) x is = absurd (cc is)

pub image_is_spelled : ImageIsSpelled
image_is_spelled b bytes es ms are is =
    let has = left_is_spelled b bytes (es, ms) are.each (not_left (length bytes) (image_left b bytes) (es, ms) is) in
    (has.bytes_are, has.stands, has.fits)
