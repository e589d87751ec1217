-- What calls of a table answer, one after another, and what they leave.
--     answer_of call es, after_call call es      one call's answer at these entries, and the entries after it
--     answers calls es, content_after calls es      those of a list of calls
--     IsAfterSome calls before now      the entries now are those after some first calls
use Rattle.std.specs.Prelude.{◌≡◌, ℕ, List, [], ◌∷◌, length, take, fold}
use Rattle.dkv_base.specs.declared.types.Entry.{Entry}
use Rattle.dkv_base.specs.State.{entry_at, put, without}
use Rattle.dkv_table.specs.declared.calls.TableCall.{TableCall}
use Rattle.dkv_table.specs.declared.calls.TableCall.TheVariants.{Reserve, Get, Put, Remove, Walk, Len}
use Rattle.dkv_table.specs.declared.calls.TableAnswer.{TableAnswer}
use Rattle.dkv_table.specs.declared.calls.TableAnswer.TheVariants.{Reserved, Found, Was, Went, Counted}
use Rattle.dkv_table.specs.Walks.{walked}

-- what a call is answered
abbrev pub answer_of : TableCall → List Entry → TableAnswer
answer_of (Reserve n) es = Reserved
answer_of (Get key) es = Found (entry_at key es)
answer_of (Put entry) es = Was (entry_at entry.key es)
answer_of (Remove key) es = Was (entry_at key es)
answer_of (Walk start end reverse) es = Went (walked start end reverse es)
answer_of Len es = Counted (length es)

-- the entries after it
abbrev pub after_call : TableCall → List Entry → List Entry
after_call (Reserve n) es = es
after_call (Get key) es = es
after_call (Put entry) es = put entry es
after_call (Remove key) es = without key es
after_call (Walk start end reverse) es = es
after_call Len es = es

-- the entries after all calls
abbrev pub content_after : List TableCall → List Entry → List Entry
content_after calls es = fold (λ fs call. after_call call fs) es calls

-- some first calls were made, and no others
abbrev pub IsAfterSome : List TableCall → List Entry → List Entry → Type 0
IsAfterSome calls before now = (n : ℕ) × (now ≡ content_after (take n calls) before)

-- each call's answer, at the entries that those before it left
abbrev pub answers : List TableCall → List Entry → List TableAnswer
answers [] es = []
answers (call ∷ calls) es = answer_of call es ∷ answers calls (after_call call es)
