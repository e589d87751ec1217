-- A whole file, as it is written.
--     behind_gate front es ms      what stands behind its gate: header, image and a closed gate
--     whole_file head es ms      all of it, with its gate open
use Rattle.std.specs.Prelude.{ℕ, List, [], ◌∷◌, ◌++◌}
use Rattle.dkv_base.specs.declared.types.Entry.{Entry}
use Rattle.dkv_base.specs.declared.types.Message.{Message}
use Rattle.dkv_journal.specs.declared.gates.TheConstants.{CLOSED_GATE}
use Rattle.dkv_journal.specs.Records.{first_layout}
use Rattle.dkv_image.specs.Image.{image}
use Rattle.dkv_files.specs.declared.head.FileHead.{FileHead}
use Rattle.dkv_files.specs.Files.{filled, with_open_gate}

abbrev pub behind_gate : List ℕ → List Entry → List Message → List ℕ
behind_gate front es ms = front ++ image es ms ++ CLOSED_GATE ∷ []

-- what a fill leaves of a file, with an open gate
abbrev pub whole_file : FileHead → List Entry → List Message → List ℕ
whole_file head es ms = with_open_gate (filled first_layout head es ms)
