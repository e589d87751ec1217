-- Where a scan ends.
use Rattle.std.proofs.Common.{◌≡◌, refl, sym, ◌∙◌, ap, ℕ, zero, suc, ◌+◌, ◌≤◌, Bool, true, false, not, ◌==◌, List, [], ◌∷◌, ◌++◌, drop, arith}
use Rattle.std.specs.Prelude.{slice_get, if◌then◌else◌}
use Rattle.std.proofs.lemmas.List.{drop-drop}
use Rattle.dkv_base.specs.declared.types.Layout.{Layout}
use Rattle.dkv_journal.specs.declared.gates.TheConstants.{OPEN_GATE}
use Rattle.dkv_journal.specs.Records.{Scan, at_closed, at_damaged, ends, with_body, is_record, body_behind, is_closed_at, shows_closed, record_size, place_after, scanned_by, scanned_at}

pub not_before : (l : Layout) (p : ℕ) (bodies : List (List ℕ)) → p ≤ place_after l p bodies
not_before l p [] = omega arith
not_before l p (body ∷ bodies) = omega (arith, not_before l (p + record_size l body) bodies)

-- behind one record more
pub place_push : (l : Layout) (p : ℕ) (bodies : List (List ℕ)) (body : List ℕ) → place_after l p (bodies ++ body ∷ []) ≡ place_after l p bodies + record_size l body
place_push l p [] body = refl
place_push l p (first ∷ bodies) body = place_push l (p + record_size l first) bodies body

abbrev step : Layout → ℕ → ℕ → ℕ → List ℕ → Bool → Bool → Scan
step l k p gate behind opened stands =
    if not opened then ends p at_closed
    else if not stands then ends p at_damaged
    else with_body (body_behind l behind) (scanned_by k l (p + record_size l (body_behind l behind)) (drop (record_size l (body_behind l behind)) (gate ∷ behind)))

-- it ends behind the bodies that it found
ends_behind : (k : ℕ) (l : Layout) (p : ℕ) (bytes : List ℕ) → (scanned_by k l p bytes).place ≡ place_after l p (scanned_by k l p bytes).bodies
ends_behind zero l p bytes = refl
ends_behind (suc k) l p [] = refl
ends_behind (suc k) l p (gate ∷ behind) =
    elim (gate == OPEN_GATE) as (λ v. (step l k p gate behind v (is_record l p behind)).place ≡ place_after l p (step l k p gate behind v (is_record l p behind)).bodies) [
      | false ↦ refl
      | true ↦ elim (is_record l p behind) as (λ v. (step l k p gate behind true v).place ≡ place_after l p (step l k p gate behind true v).bodies) [
        | false ↦ refl
        | true ↦ ends_behind k l (p + record_size l (body_behind l behind)) (drop (record_size l (body_behind l behind)) (gate ∷ behind))
      ]
    ]

pub scan_place : (l : Layout) (p : ℕ) (file : List ℕ) → (scanned_at l p file).place ≡ place_after l p (scanned_at l p file).bodies
scan_place l p file = ends_behind _ l p (drop p file)

get_dropped : (p : ℕ) (file : List ℕ) → slice_get file p ≡ slice_get (drop p file) 0
get_dropped zero file = refl
get_dropped (suc p) [] = refl
get_dropped (suc p) (x ∷ file) = get_dropped p file

-- where it ends at a closed gate, that gate is closed
closed_behind : (k : ℕ) (l : Layout) (p : ℕ) (bytes file : List ℕ) → bytes ≡ drop p file → (scanned_by k l p bytes).end ≡ at_closed → is_closed_at (scanned_by k l p bytes).place file ≡ true
closed_behind zero l p bytes file same is = absurd (cc is)
closed_behind (suc k) l p [] file same is = absurd (cc is)
closed_behind (suc k) l p (gate ∷ behind) file same is =
    let size = record_size l (body_behind l behind) in
    elim (gate == OPEN_GATE) as (λ v. (gate == OPEN_GATE) ≡ v → (step l k p gate behind v (is_record l p behind)).end ≡ at_closed → is_closed_at (step l k p gate behind v (is_record l p behind)).place file ≡ true) [
      | false ↦ λ shut _. ap shows_closed (get_dropped p file ∙ ap (λ (b : List ℕ). slice_get b 0) (sym same)) ∙ ap not shut
      | true ↦ λ _. elim (is_record l p behind) as (λ v. (step l k p gate behind true v).end ≡ at_closed → is_closed_at (step l k p gate behind true v).place file ≡ true) [
        | false ↦ λ no. absurd (cc no)
        | true ↦ closed_behind k l (p + size) (drop size (gate ∷ behind)) file (ap (λ (b : List ℕ). drop size b) same ∙ drop-drop size p file)
      ]
    ] refl is

pub scan_closed : (l : Layout) (p : ℕ) (file : List ℕ) → (scanned_at l p file).end ≡ at_closed → is_closed_at (scanned_at l p file).place file ≡ true
scan_closed l p file is = closed_behind _ l p (drop p file) file refl is
