-- What is put into the text of a report.
use Rattle.std.specs.Prelude.{ℕ, ◌+◌, ◌≤◌, Bool, cond, List, [], ◌++◌, length, codes, decimal}
use Rattle.report.specs.declared.marks.Marks.{Marks}
use Rattle.report.specs.Reported.{Findings, line, findings_in}

-- a text has room behind what is written
abbrev pub RoomFor : List ℕ → List ℕ → Type 0
RoomFor written text = length written + length text ≤ 8192

-- what is written down of each node
abbrev pub found_in : Marks → Findings
found_in m = findings_in m.redundant.now m.dead.now m.sent.now

-- the lines of a node in the two lists
abbrev pub list_lines : ℕ → Bool → Bool → List ℕ
list_lines n redundant dead = cond redundant (line (decimal n ++ codes " redundant")) [] ++ cond dead (line (decimal n ++ codes " dead")) []
