-- What an append leaves is scanned as the records before it, or as these and the new one.
use Rattle.std.proofs.Common.{◌≡◌, sym, ◌∙◌, ap, subst, ℕ, ◌+◌, ◌-◌, ◌<◌, ◌≤◌, inl, inr, List, [], ◌∷◌, ◌++◌, length, take, drop, arith, length-drop, take-append-drop}
use Rattle.std.proofs.lemmas.List.{drop-drop, drop-take}
use Rattle.dkv_base.specs.declared.types.Layout.{Layout}
use Rattle.dkv_journal.specs.declared.gates.TheConstants.{CLOSED_GATE}
use Rattle.dkv_journal.specs.Crashes.{HasRecord, appended}
use Rattle.dkv_journal.specs.Laws.{IsBody, AppendKeeps, AppendedScans, DoubtAppends, DoubtMends, closed_after, scans_on}
use Rattle.dkv_journal.specs.Records.{Scan, at_closed, laid, record_size, records, scanned, scanned_at}
use Rattle.dkv_journal.proofs.Prefix.{goes, scan_goes_on}
use Rattle.dkv_journal.proofs.Scans.{scans, size}
use Rattle.dkv_journal.proofs.Stepping.{closed_scan, all_before}
use Rattle.dkv_journal.proofs.Torn.{doubted_again, doubted_appended, doubted_mended, appended_has}

-- two files with one front, from a place in it on
from_start : (start n p : ℕ) (file image : List ℕ) → p ≡ start + n → take p image ≡ take p file → drop start image ≡ take n (drop start file) ++ drop p image
from_start start n p file image is same =
    let fronts : take n (drop start image) ≡ take n (drop start file) =
    sym (drop-take start n image) ∙ ap (λ (k : ℕ). drop start (take k image)) (sym is) ∙ ap (λ (x : List ℕ). drop start x) same ∙ ap (λ (k : ℕ). drop start (take k file)) is ∙ drop-take start n file in
    let rests : drop n (drop start image) ≡ drop p image = drop-drop n start image ∙ ap (λ (k : ℕ). drop k image) (sym is) in
    sym (take-append-drop n (drop start image)) ∙ (λ i. fronts i ++ rests i)

module _ (l : Layout) (start p : ℕ) (bodies : List (List ℕ)) (body file image : List ℕ)
    (short : IsBody l.profile body) (above : start ≤ p) (is : scanned_at l start file ≡ closed_after bodies p) (before : take p image ≡ take p file) where
  -- the records before gate p, and what is scanned from there on
  on : scanned_at l start image ≡ scans_on bodies (scanned_at l p image)
  on =
      let place : p ≡ start + (p - start) = omega (arith, above) in
      ap (scanned l start) (from_start start (p - start) p file image place before)
      ∙ subst (λ (t : Scan). scanned l start (take (t.place - start) (drop start file) ++ drop p image) ≡ scans_on t.bodies (scanned l t.place (drop p image))) is
      (scan_goes_on l start (drop start file) (drop p image) (ap (λ (t : Scan). t.end) is))

  -- the new record
  opened : HasRecord l p body image → scanned_at l start image ≡ closed_after (bodies ++ body ∷ []) (p + record_size l body)
  opened has =
      let rest = drop (1 + length (laid l p body)) (drop p image) in
      let bytes : drop p image ≡ records l p (body ∷ []) ++ rest = sym (take-append-drop (1 + length (laid l p body)) (drop p image)) ∙ ap (λ (x : List ℕ). x ++ rest) has in
      let next : p + (length (records l p (body ∷ [])) - 1) ≡ p + record_size l body = omega (arith, size l p body (CLOSED_GATE ∷ []) short) in
      on
      ∙ ap (λ (x : List ℕ). scans_on bodies (scanned l p x)) bytes
      ∙ ap (scans_on bodies) (scans l p (body ∷ []) rest (short, tt))
      ∙ ap (closed_after (bodies ++ body ∷ [])) next

pub kept : AppendKeeps
kept l start p bodies body file image short above is left =
    elim left.gate [
      | inl shut ↦ inl (on l start p bodies body file image short above is left.before ∙ ap (scans_on bodies) (closed_scan l p image shut) ∙ all_before bodies p at_closed)
      | inr has ↦ inr (opened l start p bodies body file image short above is left.before has)
    ]

pub added : AppendedScans
added l start p bodies body file short above is =
    let inside = (goes _ l start (drop start file) [] 0 (ap (λ (t : Scan). t.end) is)).inside in
    let within : p < length file = omega (arith, above, inside, ap (λ (t : Scan). t.place) is, length-drop start file) in
    let there = appended_has l p body file within in
    opened l start p bodies body file (appended l p body file) short above is there.0 there.1

pub doubts : DoubtAppends
doubts l p body file image doubt = (doubted_appended l p body file image doubt, doubted_again l p body file image doubt)

pub mends : DoubtMends
mends l p body file image doubt = doubted_mended l p body file image doubt
